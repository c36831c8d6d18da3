use Rattle.std.proofs.Common.{◌≡◌, length, arith}
use Rattle.valid_mod.proofs.Whole.{typed_from}
use Rattle.valid_mod.proofs.bodies.check_bodies.Goals as goal

pub returns : goal.returns
returns c =
    let m = c.args.m.now in
    let last : c.loop-place.place ≡ length m.codes = omega (arith, c.len-place-end.ensures, c.loop-place.auto.place-end, c.loop-place-test.false) in
    typed_from m c.requires.counts c.requires.parts (λ k l. c.loop-place.invariant k (omega arith))
