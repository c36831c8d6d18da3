-- The labels around code, in the input and in the output, the innermost first.
use Rattle.std.specs.Prelude.{ℕ, zero, suc, Option, Some, None}
use Rattle.evaluation_kit.specs.declared.jump.Jump.{Jump}
use Rattle.evaluation_kit.specs.declared.jump.Jump.TheVariants.{Branch, Return}

-- what stands around code
pub data Labels (Kind : Type 0) : Type 0 where
  -- the end of the function, which gives this
  Outermost : Kind → Labels Kind
  -- a label of both, which takes this
  Shared : Kind → Labels Kind → Labels Kind
  -- a label of the output alone
  Added : Labels Kind → Labels Kind

module _ {Kind : Type 0} where
  -- what the end of the function gives
  abbrev pub results : Labels Kind → Kind
  results (Outermost h) = h
  results (Shared h x) = results x
  results (Added x) = results x

  -- what a label of the input takes, if this label of the output is the same one; all beyond the labels end the function
  abbrev pub target : Labels Kind → ℕ → ℕ → Option Kind
  target (Outermost h) k k' = Some h
  target (Shared h x) zero zero = Some h
  target (Shared h x) (suc k) (suc k') = target x k k'
  target (Shared h x) _ _ = None
  target (Added x) k zero = None
  target (Added x) k (suc k') = target x k k'

  -- the output has no label of its own
  abbrev pub IsShared : Labels Kind → Type 0
  IsShared (Outermost h) = Unit {0}
  IsShared (Shared h x) = IsShared x
  IsShared (Added x) = ⊥

-- the jump behind a block, or none where it ends there
abbrev pub outward : Jump → Option Jump
outward (Branch zero) = None
outward (Branch (suc k)) = Some (Branch k)
outward j = Some j

-- a jump by which more is left than code up to a label or the end of its function
abbrev pub IsOther : Jump → Type 0
IsOther (Branch k) = ⊥
IsOther Return = ⊥
IsOther _ = Unit {0}
