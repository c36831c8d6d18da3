-- An operator of a constant expression.
use Rattle.std.proofs.Common.{◌≡◌, List, [], ◌∷◌, drop, Option, Some, None, refl, sym, ap, ◌∙◌}
use Rattle.outcome_kit.specs.Code.{Go, Leave}
use Rattle.evaluation_kit.specs.Configurations.{Plain, PlainRes}
use Rattle.evaluation_kit.specs.Leaves.{top, below, operands_or_trap, on_operands}
use Rattle.run_kit.specs.declared.change.Change.{Change}
use Rattle.run_kit.specs.declared.change.Change.TheVariants.{Take, Put, Exit}
use Rattle.run_kit.specs.Changes.{changed}
use Rattle.wasm_ast.specs.declared.module.op.Op.{Op}
use Rattle.meaning_new.specs.declared.val.Val.{Val}
use Rattle.meaning_new.specs.Store.{State, missing}
use Rattle.meaning_new.specs.Numeric.{pure}
use Rattle.meaning_new.specs.Instances.{or_same}
use Rattle.run_new.specs.States.{whole}
use Rattle.run_new.specs.Leaves.{Does}

-- the operands at the end of an instruction, or those before it where it ends by a jump
abbrev or_before : List Val → PlainRes Val State → List Val
or_before before (Go p) = p.operands
or_before before (Leave j p) = before

or_same_is : (p : Plain Val State) (o : Option (List Val)) → or_same p.operands o ≡ or_before p.operands (operands_or_trap p o)
or_same_is p None = refl
or_same_is p (Some l) = refl

abbrev empty : State
empty = whole (record {
  store = record { globals = []; memories = []; tables = []; elems = []; datas = []; exceptions = [] };
  replies = [];
  grows = [];
  trace = [];
})

abbrev pub left : List Val → Change Val → List Val
left used (Take n) = drop n used
left used (Put n v) = v ∷ drop n used
left used (Exit n j) = used

left_is : (p : Plain Val State) (change : Change Val) → or_before p.operands (changed change p) ≡ left p.operands change
left_is p (Take n) = refl
left_is p (Put n v) = refl
left_is p (Exit n j) = refl

pub stepped : (op : Op) (used : List Val) (a b d : Val) (change known : Change Val) → a ≡ top missing used → b ≡ top missing (below used) → d ≡ top missing (below (below used))
    → ((s : State) → Does (on_operands (pure op)) (a ∷ (b ∷ (d ∷ []))) s change s) → change ≡ known → left used known ≡ or_same used (pure op used)
stepped op used a b d change known ea eb ed does is =
    let p : Plain Val State = record { operands = used; locals = []; state = empty } in
    sym (or_same_is p (pure op used)
    ∙ (ap (or_before used) (does empty used [] (sym ea, (sym eb, (sym ed, tt))))
    ∙ (ap (λ c. or_before used (changed c p)) is ∙ left_is p known)))
