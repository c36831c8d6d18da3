-- The types of an instruction that holds no code, in code that can be reached: there no operand is of type bot.
use Rattle.std.specs.Prelude.{◌≡◌, Bool, true, List, [], ◌∷◌, ◌++◌}
use Rattle.std.specs.List.{AllByRecursion}
use Rattle.typing_kit.specs.declared.kind.Kind.TheVariants.{Plain}
use Rattle.typing_kit.specs.Form.{Form, Language, Untyped, Flat, Any, Select, Leaves, Table, Block, Choice}

module _ {T : Type 0} (sub : T → T → Bool) where
  -- as many types, each matching the one at its place
  abbrev pub AllSub : List T → List T → Type 0
  AllSub [] [] = Unit {0}
  AllSub [] (b ∷ wanted) = ⊥
  AllSub (a ∷ more) [] = ⊥
  AllSub (a ∷ more) (b ∷ wanted) = (sub a b ≡ true) × AllSub more wanted

module _ {T I : Type 0} (L : Language T I) where
  -- an instruction of the form takes the first types and gives the second; one that leaves gives none
  abbrev pub FitsLeaf : Form T I → List T → List T → Type 0
  FitsLeaf Untyped takes gives = ⊥
  FitsLeaf (Flat a b) takes gives = (takes ≡ a) × (gives ≡ b)
  FitsLeaf (Any kind b) takes gives = ((t : T) × (takes ≡ t ∷ []) × (L.of_kind kind t ≡ true)) × (gives ≡ b)
  FitsLeaf Select takes gives = (t : T) × (takes ≡ t ∷ (t ∷ (L.condition ∷ []))) × (gives ≡ t ∷ []) × (L.of_kind Plain t ≡ true)
  FitsLeaf (Leaves a) takes gives = (takes ≡ a) × (gives ≡ [])
  FitsLeaf (Table last others) takes gives = (ts : List T) × (takes ≡ ts ++ L.condition ∷ []) × (gives ≡ []) × AllSub L.sub ts last × AllByRecursion (λ label. AllSub L.sub ts label) others
  FitsLeaf (Block label a b code) takes gives = ⊥
  FitsLeaf (Choice label a b first second) takes gives = ⊥
