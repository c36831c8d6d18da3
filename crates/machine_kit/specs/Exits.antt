-- Where a jump goes.
use Rattle.std.specs.Prelude.{ℕ, zero, suc, Option, Some, None}
use Rattle.evaluation_kit.specs.declared.jump.Jump.{Jump}
use Rattle.evaluation_kit.specs.declared.jump.Jump.TheVariants.{Branch, Return, Throw, TailCall}
use Rattle.machine_kit.specs.declared.close.Leaving.{Leaving}
use Rattle.machine_kit.specs.declared.close.Leaving.TheVariants.{Ends, Calls, Passes}

-- the jump outside a form with a label, or none where it goes to that label
abbrev pub past_label : Jump → Option Jump
past_label (Branch zero) = None
past_label (Branch (suc k)) = Some (Branch k)
past_label j = Some j

-- the exception that is thrown
abbrev pub thrown : Jump → Option ℕ
thrown (Throw e) = Some e
thrown j = None

-- how a jump leaves the body of a function
abbrev pub leaving : Jump → Leaving
leaving (Branch k) = Ends
leaving Return = Ends
leaving (TailCall x) = Calls x
leaving j = Passes
