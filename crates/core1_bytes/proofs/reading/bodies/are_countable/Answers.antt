use Rattle.std.proofs.Common.{◌≡◌, ◌≤◌, length, drop, refl, ap, arith}
use Rattle.std.proofs.Math.ListN.{drop_of_length-le}
use Rattle.std.proofs.lemmas.List.Sums.{sum_by-take-drop}
use Rattle.core1_bytes.specs.Bodies.{locals_count}
use Rattle.core1_bytes.proofs.reading.bodies.are_countable.Goals as goal

pub returns : goal.returns
returns c =
    let groups = c.args.groups.now in
    let past : length groups ≤ c.loop-group.group-index = omega arith in
    let rest : locals_count (drop c.loop-group.group-index groups) ≡ 0 = ap locals_count (drop_of_length-le groups past) in
    let all = sum_by-take-drop (λ g. g.count) groups c.loop-group.group-index in
    (λ sure. omega (arith, rest, all), λ below. refl)
