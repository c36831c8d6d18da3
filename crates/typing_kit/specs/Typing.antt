-- When code is typed ("Instructions" and "Expressions" of chapter 3), by rules over forms. A list of operands has the
-- top last. That an operand may stand where a greater one is asked for is in the two rules of sequences.
use Rattle.std.specs.Prelude.{◌≡◌, List, [], ◌∷◌, ◌++◌}
use Rattle.std.specs.List.{AllByRecursion}
use Rattle.typing_kit.specs.declared.kind.Kind.{Kind}
use Rattle.typing_kit.specs.declared.kind.Kind.TheVariants.{Plain}
use Rattle.typing_kit.specs.declared.operand.Operand.{Operand}
use Rattle.typing_kit.specs.declared.operand.Operand.TheVariants.{Known}
use Rattle.typing_kit.specs.Matching.{known, IsOf, AllMatch}
use Rattle.typing_kit.specs.Form.{Language, Flat, Any, Select, Leaves, Table, Block, Choice}

module _ {T I : Type 0} (L : Language T I) where
  mutual
    -- Under the labels the instruction takes the first operands from the stack and leaves the second ones.
    pub data Typed : List (List T) → I → List (Operand T) → List (Operand T) → Type 0 where
      flat : (ls : List (List T)) (i : I) (takes gives : List T) → L.form ls i ≡ Flat takes gives → Typed ls i (known takes) (known gives)
      any : (ls : List (List T)) (i : I) (kind : Kind) (gives : List T) (t : Operand T) → L.form ls i ≡ Any kind gives → IsOf (L.of_kind kind) t → Typed ls i (t ∷ []) (known gives)
      select : (ls : List (List T)) (i : I) (t : Operand T) → L.form ls i ≡ Select → IsOf (L.of_kind Plain) t → Typed ls i (t ∷ (t ∷ (Known L.condition ∷ []))) (t ∷ [])
      leaves : (ls : List (List T)) (i : I) (takes : List T) (below after : List (Operand T)) → L.form ls i ≡ Leaves takes → Typed ls i (below ++ known takes) after
      -- the operands match what each label takes
      table : (ls : List (List T)) (i : I) (last : List T) (others : List (List T)) (takes below after : List (Operand T)) → L.form ls i ≡ Table last others → AllMatch L.sub takes (known last) → AllByRecursion (λ label. AllMatch L.sub takes (known label)) others → Typed ls i (below ++ (takes ++ Known L.condition ∷ [])) after
      block : (ls : List (List T)) (i : I) (label takes gives : List T) (code : List I) → L.form ls i ≡ Block label takes gives code → TypedCode (label ∷ ls) code (known takes) (known gives) → Typed ls i (known takes) (known gives)
      choice : (ls : List (List T)) (i : I) (label takes gives : List T) (first second : List I) → L.form ls i ≡ Choice label takes gives first second → TypedCode (label ∷ ls) first (known takes) (known gives) → TypedCode (label ∷ ls) second (known takes) (known gives) → Typed ls i (known takes ++ Known L.condition ∷ []) (known gives)

    -- nothing, or one instruction more over operands that it leaves as they are
    pub data TypedCode : List (List T) → List I → List (Operand T) → List (Operand T) → Type 0 where
      none : (ls : List (List T)) (stack after : List (Operand T)) → AllMatch L.sub stack after → TypedCode ls [] stack after
      more : (ls : List (List T)) (i : I) (code : List I) (below operands takes gives after : List (Operand T)) → Typed ls i takes gives → AllMatch L.sub operands takes → TypedCode ls code (below ++ gives) after → TypedCode ls (i ∷ code) (below ++ operands) after
