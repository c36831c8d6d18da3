use Rattle.std.proofs.Common.{ap, sym, ◌∙◌}
use Rattle.std.specs.List.{list_all}
use Rattle.std.proofs.lemmas.Result.{IfOk-weaker}
use Rattle.typed_trees.specs.Contexts.{is_value_type}
use Rattle.valid_new.specs.Scopes.{spaces_context}
use Rattle.valid_new.proofs.AnnotatedBodies.{no_values, body_decided}
use Rattle.valid_new.proofs.checking.is_body_typed.Goals as goal

pub returns-then-not-are_value_types : goal.returns-then-not-are_value_types
returns-then-not-are_value_types c = λ m e. no_values m c.args.ty.now c.args.body.now (ap (list_all is_value_type) (sym c.as_slice.ensures) ∙ sym c.are_value_types.ensures ∙ c.if-not-are_value_types.true)

pub returns : goal.returns
returns c = λ m e.
    IfOk-weaker c.is_typed_as.result _ _
    (λ typed d. body_decided m c.args.ty.now c.args.body.now (spaces_context c.args.spaces.now) c.as_slice-locals.result.now c.as_slice-2.result.now typed e c.as_slice-locals.ensures c.as_slice-2.ensures
    (ap (list_all is_value_type) (sym c.as_slice.ensures) ∙ sym c.are_value_types.ensures ∙ c.if-not-are_value_types.false) d)
    c.is_typed_as.ensures
