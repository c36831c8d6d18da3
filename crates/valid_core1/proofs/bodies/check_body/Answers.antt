use Rattle.std.proofs.Common.{refl, ap, ◌∙◌}
use Rattle.std.specs.List.{list_all}
use Rattle.std.proofs.lemmas.Result.{IfOk-weaker}
use Rattle.valid_core1.specs.Forms.{is_integer}
use Rattle.valid_core1.proofs.Inside.{bad_locals, body_decided}
use Rattle.valid_core1.proofs.bodies.check_body.Goals as goal

pub returns-then-not-all_integers-clause-typed : goal.returns-then-not-all_integers-clause-typed
returns-then-not-all_integers-clause-typed c =
    bad_locals c.args.m.now c.args.ty.now c.args.body.now c.all_integers.result (c.all_integers.ensures ∙ ap (list_all is_integer) c.as_slice.ensures) c.if-not-all_integers.true

pub returns-clause-typed : goal.returns-clause-typed
returns-clause-typed c =
    IfOk-weaker c.check_code.result _ _
    (λ typed d. body_decided c.args.m.now c.args.ty.now c.args.body.now _ c.args.labels.now c.block_of-results.result refl c.as_slice-3.ensures c.as_slice-4.ensures refl (c.block_of-results.ensures ∙ c.as_slice-2.ensures) c.requires.labels
    c.all_integers.result typed (c.all_integers.ensures ∙ ap (list_all is_integer) c.as_slice.ensures) c.if-not-all_integers.false d)
    c.check_code.ensures.typed
