use Rattle.std.proofs.Common.{◌≡◌, Some, Err, rules, slice_get, get_or, length, ap, sym, subst, ◌∙◌, refl, arith}
use Rattle.std.proofs.lemmas.Option.{slice_get_read}
use Rattle.valid_mod.specs.Bodies.{TellsOfBodies}
use Rattle.valid_mod.proofs.Keeping.{all_typed, body_fault, more_kept}
use Rattle.valid_mod.proofs.bodies.type_bodies.Goals as goal
use Rattle.valid_mod.proofs.bodies.type_bodies.Goals.{After-type_body}

-- the body of this turn
here : (c : After-type_body) → slice_get c.args.m.now.codes c.loop-place.place ≡ Some c.body-item.result
here c = slice_get_read c.args.m.now.codes (length c.args.m.now.codes) c.loop-place.place c.body-item.result refl
    (omega (arith, ap length c.as_slice-body-items.ensures))
    (c.body-item.is ∙ ap (λ l. get_or l c.loop-place.place c.body-item.result) c.as_slice-body-items.ensures)

pub returns-in_err-typed : goal.returns-in_err-typed
returns-in_err-typed c =
    let m = c.args.m.now in
    let k = c.loop-place.place in
    let fault = c.in_err-typed.field-0.0 in
    let is : c.from_residual.result ≡ Err fault = search rules in
    subst (TellsOfBodies m) (sym is)
    (body_fault m k c.loop-place.fns fault c.requires.counts (omega (arith, ap length c.as_slice-body-items.ensures)) c.requires.parts c.loop-place.invariant
    (c.in_err-typed.ensures m.codes (here (goal.at.returns-in_err-typed c).After-type_body)))

pub loop-place-preserved : goal.loop-place-preserved
loop-place-preserved c =
    let m = c.args.m.now in
    more_kept m c.loop-place.place c.loop-place.fns c.push.new.self c.in_ok-typed.typed c.loop-place.invariant
    (c.in_ok-typed.ensures m.codes (here (goal.at.loop-place-preserved c).After-type_body)) c.in_ok-push.ensures.ok

pub returns : goal.returns
returns c =
    all_typed c.args.m.now c.loop-place.place c.loop-place.fns (omega (arith, ap length c.as_slice-body-items.ensures, c.loop-place.auto.place-end, c.loop-place-test.false)) c.requires.counts c.requires.parts c.loop-place.invariant
