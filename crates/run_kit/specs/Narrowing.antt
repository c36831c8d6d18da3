-- A language whose states differ from one another in a part alone, over that part: the rest of a state stays as it is in
-- every run, and is left out.
use Rattle.std.specs.Prelude.{◌≡◌, Option, Some, None, option_map, refl}
use Rattle.std.proofs.Common.{ap, ◌∙◌}
use Rattle.outcome_kit.specs.Code.{Go, Leave}
use Rattle.evaluation_kit.specs.Configurations.{Plain, PlainRes}
use Rattle.evaluation_kit.specs.Control.{Handler, Caught, Callee, Own, Host}
use Rattle.evaluation_kit.specs.Forms.{Form, Flat, Enclose, Repeat, Choose, Guard, Invoke, InvokeBy, map_form}
use Rattle.evaluation_kit.specs.Languages.{Language}
use Rattle.evaluation_kit.specs.Tasks.{Status, Task, Change, Enter}

-- the whole state that a part stands for, and the part of a state
pub record Narrowing (K S : Type 0) : Type 0 where
  pub whole : K → S
  pub part : S → K

module _ {K S : Type 0} (N : Narrowing K S) where
  -- a state of which the rest is as in every run
  abbrev pub IsWhole : S → Type 0
  IsWhole s = N.whole (N.part s) ≡ s

  abbrev pub IsWholeStatus : Status S → Type 0
  IsWholeStatus (Go s) = IsWhole s
  IsWholeStatus (Leave j s) = IsWhole s

  -- the reason for which a run is over, beside the part
  abbrev pub part_status : Status S → Status K
  part_status (Go s) = Go (N.part s)
  part_status (Leave j s) = Leave j (N.part s)

module _ {V K S : Type 0} (N : Narrowing K S) where
  -- what a plain instruction sees, and what it gives
  abbrev pub whole_plain : Plain V K → Plain V S
  whole_plain p = record { operands = p.operands; locals = p.locals; state = N.whole p.state }

  abbrev pub part_plain : Plain V S → Plain V K
  part_plain p = record { operands = p.operands; locals = p.locals; state = N.part p.state }

  abbrev pub whole_plain_res : PlainRes V K → PlainRes V S
  whole_plain_res (Go p) = Go (whole_plain p)
  whole_plain_res (Leave j p) = Leave j (whole_plain p)

  abbrev pub part_plain_res : PlainRes V S → PlainRes V K
  part_plain_res (Go p) = Go (part_plain p)
  part_plain_res (Leave j p) = Leave j (part_plain p)

  abbrev pub part_act : (Plain V S → PlainRes V S) → Plain V K → PlainRes V K
  part_act act p = part_plain_res (act (whole_plain p))

  abbrev pub part_caught : Caught V S → Caught V K
  part_caught k = record { jump = k.jump; operands = k.operands; state = N.part k.state }

  abbrev pub part_handler : Handler V S → Handler V K
  part_handler h e s = option_map part_caught (h e (N.whole s))

  -- a form, and what an index names
  abbrev pub part_form : {X : Type 0} → Form V S X → Form V K X
  part_form (Flat act) = Flat (part_act act)
  part_form (Enclose p r body) = Enclose p r body
  part_form (Repeat p r body) = Repeat p r body
  part_form (Choose test p r first second) = Choose test p r first second
  part_form (Guard p r h body) = Guard p r (part_handler h) body
  part_form (Invoke p x) = Invoke p x
  part_form (InvokeBy p pick) = InvokeBy p (λ q. pick (whole_plain q))

  abbrev pub part_callee : {I : Type 0} → Callee I V S → Callee I V K
  part_callee (Own f) = Own f
  part_callee (Host p act) = Host p (part_act act)

  pub part_form_over : {X Y : Type 0} (f : X → Y) (form : Form V S X) → part_form (map_form f form) ≡ map_form f (part_form form)
  part_form_over f (Flat act) = refl
  part_form_over f (Enclose p r body) = refl
  part_form_over f (Repeat p r body) = refl
  part_form_over f (Choose test p r first second) = refl
  part_form_over f (Guard p r h body) = refl
  part_form_over f (Invoke p x) = refl
  part_form_over f (InvokeBy p pick) = refl

  -- the language over the parts
  abbrev pub part_language : {I : Type 0} {F : Type 0 → Type 0} → Language I F V S → Language I F V K
  part_language L = record {
    tree = L.tree;
    layer = λ X l. part_form (L.layer X l);
    ready = λ X l p. L.ready X l (whole_plain p);
    layer_over = λ X Y f l. ap part_form (L.layer_over X Y f l) ∙ part_form_over f (L.layer X l);
    ready_over = λ X Y f l. ap (λ ready p. ready (whole_plain p)) (L.ready_over X Y f l);
    callee = λ x. option_map part_callee (L.callee x);
  }

  -- what a host does
  abbrev pub part_task : Task V S → Task V K
  part_task (Change f) = Change (λ s. part_status N (f (N.whole s)))
  part_task (Enter x operands see) = Enter x operands (λ r. part_status N (see (whole_plain_res r)))

  -- what plain instructions, handlers and tasks come to is such a state
  abbrev pub IsWholeRes : PlainRes V S → Type 0
  IsWholeRes (Go p) = IsWhole N p.state
  IsWholeRes (Leave j p) = IsWhole N p.state

  abbrev pub IsWholeCaught : Option (Caught V S) → Type 0
  IsWholeCaught None = Unit {0}
  IsWholeCaught (Some k) = IsWhole N k.state

  -- what each instruction, each index and each task keeps
  abbrev pub Steady : (Plain V S → PlainRes V S) → Type 0
  Steady act = (p : Plain V K) → IsWholeRes (act (whole_plain p))

  abbrev pub SteadyForm : {X : Type 0} → Form V S X → Type 0
  SteadyForm (Flat act) = Steady act
  SteadyForm (Guard p r h body) = (e : _) (s : K) → IsWholeCaught (h e (N.whole s))
  SteadyForm _ = Unit {0}

  abbrev pub SteadyCallee : {I : Type 0} → Option (Callee I V S) → Type 0
  SteadyCallee (Some (Host p act)) = Steady act
  SteadyCallee _ = Unit {0}

  abbrev pub SteadyTask : Task V S → Type 0
  SteadyTask (Change f) = (s : K) → IsWholeStatus N (f (N.whole s))
  SteadyTask (Enter x operands see) = (r : PlainRes V K) → IsWholeStatus N (see (whole_plain_res r))
