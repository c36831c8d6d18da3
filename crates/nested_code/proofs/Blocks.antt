-- What is kept of open blocks while they are counted.
use Rattle.std.proofs.Common.{◌≡◌, suc, List, [], ◌∷◌, length, Bool, true, false, Option, Some, None, refl, ap}
use Rattle.nested_code.specs.declared.open_block.OpenBlock.{OpenBlock}

module _ {I H : Type 0} (has_arms : H → Bool) where
  -- whether an else may still stand in the block
  abbrev pub may_split : Option (List I) → H → Bool
  may_split None h = has_arms h
  may_split (Some first) h = false

  abbrev pub splits : List (OpenBlock I H) → List Bool
  splits [] = []
  splits (o ∷ below) = may_split o.first o.head ∷ splits below

  pub splits_length : (blocks : List (OpenBlock I H)) → length (splits blocks) ≡ length blocks
  splits_length [] = refl
  splits_length (o ∷ below) = ap suc (splits_length below)

  -- a block has a first arm only where an else may stand in it
  abbrev pub IsFair : Option (List I) → H → Type 0
  IsFair None h = Unit {0}
  IsFair (Some first) h = has_arms h ≡ true

  abbrev pub AreFair : List (OpenBlock I H) → Type 0
  AreFair [] = Unit {0}
  AreFair (o ∷ below) = IsFair o.first o.head × AreFair below
