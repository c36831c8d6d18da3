-- The same rules in the shape of the standard's text ("Instruction Sequences" of chapter 3): code is empty, one
-- instruction or a sequence, over a frame of operands that it leaves as they are, and up to subsumption.
use Rattle.std.specs.Prelude.{◌≡◌, List, [], ◌∷◌, ◌++◌}
use Rattle.std.specs.List.{AllByRecursion}
use Rattle.typing_kit.specs.declared.kind.Kind.{Kind}
use Rattle.typing_kit.specs.declared.kind.Kind.TheVariants.{Plain}
use Rattle.typing_kit.specs.declared.operand.Operand.{Operand}
use Rattle.typing_kit.specs.declared.operand.Operand.TheVariants.{Known}
use Rattle.typing_kit.specs.Matching.{known, IsOf, AllMatch}
use Rattle.typing_kit.specs.Form.{Language, Flat, Any, Select, Leaves, Table, Block, Choice}

module _ {T I : Type 0} (L : Language T I) where
  mutual
    pub data StandardTyped : List (List T) → I → List (Operand T) → List (Operand T) → Type 0 where
      flat : (ls : List (List T)) (i : I) (takes gives : List T) → L.form ls i ≡ Flat takes gives → StandardTyped ls i (known takes) (known gives)
      any : (ls : List (List T)) (i : I) (kind : Kind) (gives : List T) (t : Operand T) → L.form ls i ≡ Any kind gives → IsOf (L.of_kind kind) t → StandardTyped ls i (t ∷ []) (known gives)
      select : (ls : List (List T)) (i : I) (t : Operand T) → L.form ls i ≡ Select → IsOf (L.of_kind Plain) t → StandardTyped ls i (t ∷ (t ∷ (Known L.condition ∷ []))) (t ∷ [])
      leaves : (ls : List (List T)) (i : I) (takes : List T) (below after : List (Operand T)) → L.form ls i ≡ Leaves takes → StandardTyped ls i (below ++ known takes) after
      table : (ls : List (List T)) (i : I) (last : List T) (others : List (List T)) (takes below after : List (Operand T)) → L.form ls i ≡ Table last others → AllMatch L.sub takes (known last) → AllByRecursion (λ label. AllMatch L.sub takes (known label)) others → StandardTyped ls i (below ++ (takes ++ Known L.condition ∷ [])) after
      block : (ls : List (List T)) (i : I) (label takes gives : List T) (code : List I) → L.form ls i ≡ Block label takes gives code → StandardCode (label ∷ ls) code (known takes) (known gives) → StandardTyped ls i (known takes) (known gives)
      choice : (ls : List (List T)) (i : I) (label takes gives : List T) (first second : List I) → L.form ls i ≡ Choice label takes gives first second → StandardCode (label ∷ ls) first (known takes) (known gives) → StandardCode (label ∷ ls) second (known takes) (known gives) → StandardTyped ls i (known takes ++ Known L.condition ∷ []) (known gives)

    pub data StandardCode : List (List T) → List I → List (Operand T) → List (Operand T) → Type 0 where
      empty : (ls : List (List T)) → StandardCode ls [] [] []
      one : (ls : List (List T)) (i : I) (takes gives : List (Operand T)) → StandardTyped ls i takes gives → StandardCode ls (i ∷ []) takes gives
      sequence : (ls : List (List T)) (first second : List I) (before between after : List (Operand T)) → StandardCode ls first before between → StandardCode ls second between after → StandardCode ls (first ++ second) before after
      frame : (ls : List (List T)) (code : List I) (below takes gives : List (Operand T)) → StandardCode ls code takes gives → StandardCode ls code (below ++ takes) (below ++ gives)
      subsumption : (ls : List (List T)) (code : List I) (before takes gives after : List (Operand T)) → AllMatch L.sub before takes → StandardCode ls code takes gives → AllMatch L.sub gives after → StandardCode ls code before after
