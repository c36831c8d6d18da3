-- The stack of the algorithm against the stacks of the rules: what it stands for, and what a step over an instruction
-- says of the code from there on.
use Rattle.std.specs.Prelude.{◌≡◌, ◌↔◌, Bool, true, List, [], ◌∷◌, reverse}
use Rattle.typing_kit.specs.declared.operand.Operand.{Operand}
use Rattle.typing_kit.specs.Matching.{Matches}
use Rattle.typing_kit.specs.Form.{Language}
use Rattle.typing_kit.specs.Typing.{TypedCode}

module _ {T : Type 0} (sub : T → T → Bool) where
  -- each operand matches the one at its place, the top first in both; where nothing reaches the place, there may be more
  abbrev pub Covers : Bool → List (Operand T) → List (Operand T) → Type 0
  Covers dead [] [] = Unit {0}
  Covers dead [] (b ∷ v) = dead ≡ true
  Covers dead (a ∷ s) [] = ⊥
  Covers dead (a ∷ s) (b ∷ v) = Matches sub a b × Covers dead s v

module _ {T I : Type 0} (L : Language T I) where
  -- the stack of the algorithm stands for a stack over which the rules type the code
  pub record From (ls : List (List T)) (dead : Bool) (s : List (Operand T)) (code : List I) (after : List (Operand T)) : Type 0 where
    pub stack : List (Operand T)
    pub covers : Covers L.sub dead s (reverse stack)
    pub typed : TypedCode L ls code stack after

  -- the same code is typed before the instruction and after it
  abbrev pub Leads : List (List T) → I → Bool → List (Operand T) → Bool → List (Operand T) → Type 0
  Leads ls i dead s dead' s' = (code : List I) (after : List (Operand T)) → From ls dead s (i ∷ code) after ↔ From ls dead' s' code after

  -- no code that begins with the instruction is typed
  abbrev pub Stuck : List (List T) → I → Bool → List (Operand T) → Type 0
  Stuck ls i dead s = (code : List I) (after : List (Operand T)) → From ls dead s (i ∷ code) after → ⊥
