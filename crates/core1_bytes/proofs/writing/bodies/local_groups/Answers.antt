use Rattle.std.proofs.Common.{◌≤◌, length, take, ap, arith}
use Rattle.std.proofs.lemmas.List.{length-take}
use Rattle.core1_bytes.proofs.Groups.{last_within}
use Rattle.core1_bytes.proofs.writing.bodies.local_groups.Goals as goal

pub add_local-requires : goal.add_local-requires
add_local-requires c =
    let few : c.loop-local.last.count ≤ length (take c.loop-local.local-index c.args.locals.now) =
    last_within c.loop-local.groups c.loop-local.last _ (ap length c.loop-local.invariant) in
    omega (arith, length-take c.loop-local.local-index c.args.locals.now)
