use Rattle.std.proofs.Common.{◌≡◌, ◌+◌, ◌<◌, [], ◌∷◌, Some, Err, rules, slice_get, drop, length, length-append, ap, sym, subst, ◌∙◌, arith}
use Rattle.valid_new.specs.Annotated.{Found}
use Rattle.valid_mod.specs.Bodies.{filled, AreBodies, TellsOfBodies, TellsOfBody}
use Rattle.valid_mod.proofs.Keeping.{all_typed, body_fault, more_kept}
use Rattle.valid_mod.proofs.Draining.{next_item}
use Rattle.valid_mod.proofs.bodies.type_owned_bodies.Goals as goal
use Rattle.valid_mod.proofs.bodies.type_owned_bodies.Goals.{After-type_body}

-- this turn has a body
within : (c : After-type_body) → length c.loop-body.fns < length c.args.bodies
within c = omega (arith, c.loop-body.invariant.count, ap length c.in-Some.ensures)

-- it is the one behind those that are typed, and behind it is the rest
next : (c : After-type_body) → (slice_get c.args.bodies (length c.loop-body.fns) ≡ Some c.in-Some.body) × (c.next.new.self ≡ drop (length c.loop-body.fns + 1) c.args.bodies)
next c = next_item c.args.bodies c.loop-body.rest c.next.new.self (length c.loop-body.fns) c.in-Some.body (within c) c.loop-body.invariant.rest c.in-Some.ensures

here : (c : After-type_body) → slice_get c.args.bodies c.len.result ≡ Some c.in-Some.body
here c = ap (slice_get c.args.bodies) c.len.ensures ∙ (next c).0

pub returns-in_err-typed : goal.returns-in_err-typed
returns-in_err-typed c =
    let m = filled c.args.parts.now c.args.bodies in
    let n = length c.loop-body.fns in
    let fault = c.in_err-typed.field-0.0 in
    let at = (goal.at.returns-in_err-typed c).After-type_body in
    let told : TellsOfBody m n (Err fault) = subst (λ k. TellsOfBody m k (Err fault)) c.len.ensures (c.in_err-typed.ensures c.args.bodies (here at)) in
    let is : c.from_residual-in_err-typed.result ≡ Err fault = search rules in
    subst (TellsOfBodies m) (sym is) (body_fault m n c.loop-body.fns fault c.requires.counts (within at) c.requires.parts c.loop-body.invariant.kept told)

pub loop-body-preserved : goal.loop-body-preserved
loop-body-preserved c =
    let m = filled c.args.parts.now c.args.bodies in
    let fns = c.loop-body.fns in
    let typed = c.in_ok-typed.typed in
    let at = (goal.at.loop-body-preserved c).After-type_body in
    let found : Found m (length fns) typed = subst (λ k. Found m k typed) c.len.ensures (c.in_ok-typed.ensures c.args.bodies (here at)) in
    let more : length c.push.new.self ≡ length fns + 1 = ap length c.in_ok-push.ensures.ok ∙ length-append fns (typed ∷ []) in
    record {
      kept = subst (λ k. AreBodies m k c.push.new.self) (sym more) (more_kept m (length fns) fns c.push.new.self typed c.loop-body.invariant.kept found c.in_ok-push.ensures.ok);
      rest = (next at).1 ∙ ap (λ k. drop k c.args.bodies) (sym more);
      count = omega (arith, more, c.loop-body.invariant.count, ap length c.in-Some.ensures);
    }

pub returns : goal.returns
returns c =
    let m = filled c.args.parts.now c.args.bodies in
    all_typed m (length c.loop-body.fns) c.loop-body.fns (omega (arith, c.loop-body.invariant.count, ap length c.in_default.ensures.0)) c.requires.counts c.requires.parts c.loop-body.invariant.kept
