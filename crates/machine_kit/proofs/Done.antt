-- What a version owes of an instruction that is done by itself.
use Rattle.std.proofs.Common.{◌≡◌, Option, Some, None}
use Rattle.evaluation_kit.specs.declared.jump.Jump.{Jump}
use Rattle.evaluation_kit.specs.Forms.{Form, Flat}
use Rattle.machine_kit.specs.Acts.{act_of}
use Rattle.machine_kit.specs.Heads.{Acted, StepIs, step_done}
use Rattle.machine_kit.specs.Stacks.{Stack}

-- a plain instruction that did this, and ended so
pub is_done : {I V S : Type 0} (form : Form V S I) (o o' l l' : Stack V) (s s' : S) (j : Option Jump) → form ≡ Flat (act_of form) → Acted (act_of form) o l s o' l' s' j → StepIs form (step_done j) o l s o' l' s'
is_done form o o' l l' s s' None flat h = (flat, h)
is_done form o o' l l' s s' (Some jump) flat h = (flat, h)
