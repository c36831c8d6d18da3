-- What a version's own code tells a machine.
use Rattle.std.specs.Prelude.{◌≡◌, ℕ, List, [], Option, Some, None}
use Rattle.evaluation_kit.specs.declared.jump.Jump.{Jump}
use Rattle.evaluation_kit.specs.Configurations.{Plain, PlainRes}
use Rattle.evaluation_kit.specs.Control.{Handler, Function, Callee, Own, Host}
use Rattle.evaluation_kit.specs.Forms.{Form, Flat, Enclose, Repeat, Choose, Guard, Invoke, InvokeBy}
use Rattle.machine_kit.specs.declared.head.Head.{Head}
use Rattle.machine_kit.specs.declared.head.Head.TheVariants as heads
use Rattle.machine_kit.specs.declared.head.Body.{Body}
use Rattle.machine_kit.specs.declared.head.Step.{Step}
use Rattle.machine_kit.specs.declared.head.Step.TheVariants as steps
use Rattle.machine_kit.specs.declared.head.Target.{Target}
use Rattle.machine_kit.specs.declared.head.Target.TheVariants as targets
use Rattle.machine_kit.specs.Acts.{act_of, test_of, handler_of, pick_of, zeros_of, host_of, ended_by}
use Rattle.machine_kit.specs.Stacks.{Stack}

-- the function of a body, with what its further locals begin
abbrev pub function_of : {I V : Type 0} → List V → Body I → Function I V
function_of zeros b = record { params = b.params; results = b.results; zeros = zeros; body = b.code.now }

module _ {I V S : Type 0} where
  -- the form of an instruction is this
  abbrev pub HeadIs : Form V S I → Head I → Type 0
  HeadIs form heads.Flat = form ≡ Flat (act_of form)
  HeadIs form (heads.Enclose p r body) = form ≡ Enclose p r body.now
  HeadIs form (heads.Repeat p r body) = form ≡ Repeat p r body.now
  HeadIs form (heads.Choose p r first second) = form ≡ Choose (test_of form) p r first.now second.now
  HeadIs form (heads.Guard p r body) = form ≡ Guard p r (handler_of form) body.now
  HeadIs form (heads.Invoke p x) = form ≡ Invoke p x
  HeadIs form (heads.InvokeBy p) = form ≡ InvokeBy p (pick_of form)

  -- an index names this
  abbrev pub TargetIs : Option (Callee I V S) → Target I → Type 0
  TargetIs callee targets.Missing = callee ≡ None
  TargetIs callee (targets.Own body) = callee ≡ Some (Own (function_of (zeros_of callee) body))
  TargetIs callee (targets.Host p) = callee ≡ Some (Host p (host_of callee))

-- an instruction is done, and ended so
abbrev pub step_done : Option Jump → Step
step_done None = steps.Next
step_done (Some j) = steps.Jump j

module _ {V S : Type 0} where
  -- what an instruction does to the operands and locals in use and to the state, and how it ends
  abbrev pub Acted : (Plain V S → PlainRes V S) → Stack V → Stack V → S → Stack V → Stack V → S → Option Jump → Type 0
  Acted act o l s o' l' s' j =
      (act (record { operands = o.used; locals = l.used; state = s }) ≡ ended_by j (record { operands = o'.used; locals = l'.used; state = s' }))
      × (o'.aside ≡ o.aside)
      × (l'.aside ≡ l.aside)

  -- a form that is not plain
  abbrev pub IsForm : {I : Type 0} → Form V S I → Type 0
  IsForm (Flat act) = ⊥
  IsForm _ = Unit {0}

  -- what became of an instruction of this form
  abbrev pub StepIs : {I : Type 0} → Form V S I → Step → Stack V → Stack V → S → Stack V → Stack V → S → Type 0
  StepIs form steps.Next o l s o' l' s' = (form ≡ Flat (act_of form)) × Acted (act_of form) o l s o' l' s' None
  StepIs form (steps.Jump j) o l s o' l' s' = (form ≡ Flat (act_of form)) × Acted (act_of form) o l s o' l' s' (Some j)
  StepIs form steps.Form o l s o' l' s' = IsForm form × (o' ≡ o) × (l' ≡ l) × (s' ≡ s)

  -- the same of a function of the host's, which has no locals
  abbrev pub Hosted : (Plain V S → PlainRes V S) → Stack V → S → Stack V → S → Option Jump → Type 0
  Hosted act o s o' s' j =
      (act (record { operands = o.used; locals = []; state = s }) ≡ ended_by j (record { operands = o'.used; locals = []; state = s' }))
      × (o'.aside ≡ o.aside)

  -- what a handler does with an exception
  abbrev pub Handled : Handler V S → ℕ → Stack V → S → Stack V → S → Option Jump → Type 0
  Handled h e o s o' s' None = (h e s ≡ None) × (o' ≡ o) × (s' ≡ s)
  Handled h e o s o' s' (Some j) = (h e s ≡ Some (record { jump = j; operands = o'.used; state = s' })) × (o'.aside ≡ o.aside)
