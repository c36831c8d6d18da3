-- The same rules without the type bot, for a version that has none: over value types alone, and without subsumption.
use Rattle.std.specs.Prelude.{◌≡◌, true, List, [], ◌∷◌, ◌++◌}
use Rattle.typing_kit.specs.declared.kind.Kind.{Kind}
use Rattle.typing_kit.specs.declared.kind.Kind.TheVariants.{Plain}
use Rattle.typing_kit.specs.Form.{Language, Flat, Any, Select, Leaves, Table, Block, Choice}

-- a version without bot: no type matches another, each is plain, and no labels of different types stand together
pub record IsBottomless {T I : Type 0} (L : Language T I) : Type 0 where
  pub same : (t : T) → L.sub t t ≡ true
  pub equal : (s t : T) → L.sub s t ≡ true → s ≡ t
  pub plain : (t : T) → L.of_kind Plain t ≡ true
  pub inhabited : (ls : List (List T)) (i : I) (kind : Kind) (gives : List T) → L.form ls i ≡ Any kind gives → (t : T) × (L.of_kind kind t ≡ true)
  pub no_table : (ls : List (List T)) (i : I) (last : List T) (others : List (List T)) → L.form ls i ≡ Table last others → ⊥

module _ {T I : Type 0} (L : Language T I) where
  mutual
    pub data ValuesTyped : List (List T) → I → List T → List T → Type 0 where
      flat : (ls : List (List T)) (i : I) (takes gives : List T) → L.form ls i ≡ Flat takes gives → ValuesTyped ls i takes gives
      any : (ls : List (List T)) (i : I) (kind : Kind) (gives : List T) (t : T) → L.form ls i ≡ Any kind gives → L.of_kind kind t ≡ true → ValuesTyped ls i (t ∷ []) gives
      select : (ls : List (List T)) (i : I) (t : T) → L.form ls i ≡ Select → L.of_kind Plain t ≡ true → ValuesTyped ls i (t ∷ (t ∷ (L.condition ∷ []))) (t ∷ [])
      leaves : (ls : List (List T)) (i : I) (takes below after : List T) → L.form ls i ≡ Leaves takes → ValuesTyped ls i (below ++ takes) after
      block : (ls : List (List T)) (i : I) (label takes gives : List T) (code : List I) → L.form ls i ≡ Block label takes gives code → ValuesCode (label ∷ ls) code takes gives → ValuesTyped ls i takes gives
      choice : (ls : List (List T)) (i : I) (label takes gives : List T) (first second : List I) → L.form ls i ≡ Choice label takes gives first second → ValuesCode (label ∷ ls) first takes gives → ValuesCode (label ∷ ls) second takes gives → ValuesTyped ls i (takes ++ L.condition ∷ []) gives

    pub data ValuesCode : List (List T) → List I → List T → List T → Type 0 where
      none : (ls : List (List T)) (stack : List T) → ValuesCode ls [] stack stack
      more : (ls : List (List T)) (i : I) (code : List I) (below takes gives after : List T) → ValuesTyped ls i takes gives → ValuesCode ls code (below ++ gives) after → ValuesCode ls (i ∷ code) (below ++ takes) after
