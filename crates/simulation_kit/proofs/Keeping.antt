-- Where nothing need be kept, all is kept; and where nothing is asked of code, all code fits.
use Rattle.std.proofs.Common.{ℕ, List, [], ◌∷◌, map, Option, Some, None}
use Rattle.std.specs.List.{AllByRecursion}
use Rattle.evaluation_kit.specs.declared.jump.Jump.{Jump}
use Rattle.evaluation_kit.specs.declared.jump.Jump.TheVariants.{TailCall}
use Rattle.outcome_kit.specs.Code.{Go, Leave}
use Rattle.evaluation_kit.specs.Configurations.{Plain, PlainRes}
use Rattle.evaluation_kit.specs.Control.{Caught}
use Rattle.evaluation_kit.specs.Forms.{Form, Flat, Enclose, Repeat, Choose, Guard, Invoke, InvokeBy}
use Rattle.evaluation_kit.specs.Tasks.{Status}
use Rattle.simulation_kit.specs.Keeping.{anything, Holds, NamedJump, HoldsAfter, HoldsCaught, HoldsPicked, HoldsStatus, ActKeeps, FormKeeps, ChangeKeeps, SeeKeeps}
use Rattle.simulation_kit.specs.Fitting.{FormFits}

module _ (V S : Type 0) where
  jumps : (j : Jump) → NamedJump (anything V S) j
  jumps (TailCall f) = tt
  jumps j = tt

  holds : (q : Plain V S) → Holds (anything V S) q
  holds q = record { operands = tt; locals = tt; state = tt }

  after : (r : PlainRes V S) → HoldsAfter (anything V S) r
  after (Go q) = holds q
  after (Leave j q) = (jumps j, holds q)

  caught : (o : Option (Caught V S)) → HoldsCaught (anything V S) o
  caught None = tt
  caught (Some k) = (jumps k.jump, tt, tt)

  picked : (o : Option ℕ) → HoldsPicked (anything V S) o
  picked None = tt
  picked (Some f) = tt

  status : (r : Status S) → HoldsStatus (anything V S) r
  status (Go s) = tt
  status (Leave j s) = tt

  pub any_act : (act : Plain V S → PlainRes V S) → ActKeeps (anything V S) act
  any_act act = record { keeps = λ q h. after (act q) }

  pub any_form : {X : Type 0} (form : Form V S X) → FormKeeps (anything V S) form
  any_form (Flat act) = any_act act
  any_form (Guard p r t code) = record { keeps = λ e s h. caught (t e s) }
  any_form (InvokeBy p pick) = record { keeps = λ q h. picked (pick q) }
  any_form (Enclose p r code) = tt
  any_form (Repeat p r code) = tt
  any_form (Choose test p r first second) = tt
  any_form (Invoke p f) = tt

  pub any_change : (f : S → Status S) → ChangeKeeps (anything V S) f
  any_change f = record { keeps = λ s h. status (f s) }

  pub any_see : (see : PlainRes V S → Status S) → SeeKeeps (anything V S) see
  any_see see = record { goes = λ a l s h g. status (see _); leaves = λ j a l s h g. status (see _) }

-- any code fits
pub any_code : {I : Type 0} (code : List I) → AllByRecursion (λ i. Unit {0}) code
any_code [] = tt
any_code (i ∷ code) = (tt, any_code code)

pub any_fits : {I V S : Type 0} (P : I → Type 0) (form : Form V S ((i : I) × P i)) → FormFits (λ f. Unit {0}) (λ i. Unit {0}) form
any_fits P (Flat act) = tt
any_fits P (Enclose p r code) = any_code (map (λ y. y.0) code)
any_fits P (Repeat p r code) = any_code (map (λ y. y.0) code)
any_fits P (Choose test p r first second) = (any_code (map (λ y. y.0) first), any_code (map (λ y. y.0) second))
any_fits P (Guard p r t code) = any_code (map (λ y. y.0) code)
any_fits P (Invoke p f) = tt
any_fits P (InvokeBy p pick) = tt
