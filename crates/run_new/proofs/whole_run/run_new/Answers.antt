use Rattle.std.proofs.Common.{ap, ◌∙◌, subst}
use Rattle.typed_trees.specs.Typed.{module_of}
use Rattle.run_new.specs.Instances.{IsInstance}
use Rattle.run_new.proofs.WholeRun.{shows, shows_failure}
use Rattle.run_new.proofs.whole_run.run_new.Goals as goal

pub returns-in_ok-seen-in-Some : goal.returns-in_ok-seen-in-Some
returns-in_ok-seen-in-Some c =
    let p = c.args.m.now in
    let parts = ap (λ x. (x, p.1)) (c.part.ensures ∙ ap (λ r. r.0) c.in_ok-program.ensures) in
    let is = subst (λ r. IsInstance (module_of r) c.args.script.now c.in_ok-state.field-0) parts (c.in_ok-state.ensures p.1) in
    c.in_ok-seen-in-Some.ensures ∙ shows p c.in_ok-program.program c.args.script.now c.args.turns c.in-Some.state c.in_ok-state.field-0 c.in_ok-program.ensures is c.in-Some.is

pub returns-in_ok-seen-in-None : goal.returns-in_ok-seen-in-None
returns-in_ok-seen-in-None c =
    let p = c.args.m.now in
    let parts = ap (λ x. (x, p.1)) (c.part.ensures ∙ ap (λ r. r.0) c.in_ok-program.ensures) in
    let is = subst (λ r. IsInstance (module_of r) c.args.script.now c.in_ok-state.field-0) parts (c.in_ok-state.ensures p.1) in
    c.in_ok-seen-in-None.ensures ∙ shows_failure p c.args.script.now c.args.turns c.in_ok-state.field-0 is c.in-None.is
