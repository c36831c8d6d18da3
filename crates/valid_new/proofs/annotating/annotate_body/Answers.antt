use Rattle.std.proofs.Common.{[], ◌∷◌, ap, subst, sym, ◌∙◌}
use Rattle.std.specs.List.{list_all}
use Rattle.typed_trees.specs.Contexts.{is_value_type}
use Rattle.valid_new.specs.Bodies.{BodyOr}
use Rattle.valid_new.specs.Scopes.{inside, spaces_context}
use Rattle.valid_new.proofs.AnnotatedBodies.{no_values, annotated}
use Rattle.valid_new.proofs.annotating.annotate_body.Goals as goal

pub returns-then-not-are_value_types : goal.returns-then-not-are_value_types
returns-then-not-are_value_types c = λ m e. no_values m c.args.ty.now c.args.body.now (ap (list_all is_value_type) (sym c.as_slice.ensures) ∙ sym c.are_value_types.ensures ∙ c.if-not-are_value_types.true)

pub returns-in_ok-locals-in-Some : goal.returns-in_ok-locals-in-Some
returns-in_ok-locals-in-Some c = λ m e.
    annotated m c.args.ty.now c.args.body.now (spaces_context c.args.spaces.now) c.in_ok-locals-in-Some.locals c.as_slice-2.result.now c.in-Some.nodes e (c.in_ok-locals-in-Some.ensures) c.as_slice-2.ensures
    (ap (list_all is_value_type) (sym c.as_slice.ensures) ∙ sym c.are_value_types.ensures ∙ c.if-not-are_value_types.false)
    (subst (BodyOr (inside (spaces_context c.args.spaces.now) c.args.ty.now c.as_slice-2.result.now) (c.args.ty.now.results ∷ []) c.args.body.now.code [] c.args.ty.now.results) c.in-Some.is
    (subst (λ l. BodyOr (inside (spaces_context c.args.spaces.now) c.args.ty.now c.as_slice-2.result.now) (c.args.ty.now.results ∷ []) l [] c.args.ty.now.results c.in_ok-found.found) c.as_slice-3.ensures (c.in_ok-found.ensures)))
