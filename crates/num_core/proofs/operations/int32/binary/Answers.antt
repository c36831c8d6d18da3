use Rattle.std.proofs.Common.{Some, ap, ◌∙◌, lit<, arith, ◌<◌, ◌^◌}
use Rattle.num_core.proofs.Turns.{turns_left, turns_right}
use Rattle.num_core.proofs.operations.int32.binary.Goals as goal

pub returns-in-Rotl : goal.returns-in-Rotl
returns-in-Rotl c =
    let within : c.args.a < 2 ^ 32 = omega arith in
    rw c.in-Rotl.is (ap Some (c.rotate_left.ensures ∙ turns_left 32 c.args.b c.args.a (lit< tt) within))

pub returns-in-Rotr : goal.returns-in-Rotr
returns-in-Rotr c =
    let within : c.args.a < 2 ^ 32 = omega arith in
    rw c.in-Rotr.is (ap Some (c.rotate_right.ensures ∙ turns_right 32 c.args.b c.args.a (lit< tt) within))
