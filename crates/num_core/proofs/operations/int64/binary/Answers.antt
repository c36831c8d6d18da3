use Rattle.std.proofs.Common.{Some, ap, ◌∙◌, lit<, arith, ◌<◌, ◌^◌, ◌%◌}
use Rattle.num_core.proofs.Turns.{turns_left, turns_right, turns_left_twice, turns_right_twice}
use Rattle.num_core.proofs.operations.int64.binary.Goals as goal

pub returns-in-Rotl : goal.returns-in-Rotl
returns-in-Rotl c =
    let within : c.args.a < 2 ^ 64 = omega arith in
    rw c.in-Rotl.is (ap Some (c.rotate_left.ensures ∙ turns_left 64 (c.args.b % 64) c.args.a (lit< tt) within ∙ turns_left_twice 64 c.args.b c.args.a (lit< tt)))

pub returns-in-Rotr : goal.returns-in-Rotr
returns-in-Rotr c =
    let within : c.args.a < 2 ^ 64 = omega arith in
    rw c.in-Rotr.is (ap Some (c.rotate_right.ensures ∙ turns_right 64 (c.args.b % 64) c.args.a (lit< tt) within ∙ turns_right_twice 64 c.args.b c.args.a (lit< tt)))
