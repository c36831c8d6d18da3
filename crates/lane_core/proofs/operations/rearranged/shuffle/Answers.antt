use Rattle.std.proofs.Common.{ℕ, ◌≡◌, ◌<◌, ◌^◌, length, get_or, map, ap, ◌∙◌, rules}
use Rattle.lane_core.specs.declared.vector.Shape.TheVariants.{I8x16}
use Rattle.lane_core.specs.declared.operations.lane_operators.Unary.TheVariants.{ByteOfBoth}
use Rattle.lane_core.specs.Lanes.{joined}
use Rattle.lane_core.specs.Rows.{unary_lane, each_of}
use Rattle.lane_core.proofs.Rearrangements.{bytes_of_number}
use Rattle.lane_core.proofs.operations.rearranged.shuffle.Goals as goal

pub returns : goal.returns
returns c =
    let op = ByteOfBoth (record { 0 = c.args.v }) (record { 0 = c.args.w }) in
    let bytes : (k : ℕ) → get_or c.args.places k 0 < 2 ^ 8 = search rules in
    let count : length c.args.places ≡ 16 = search rules in
    c.each_lane.ensures
    ∙ ap (each_of op I8x16) c.sixteen.ensures
    ∙ ap (λ ls. joined 8 (map (unary_lane op I8x16) ls)) (bytes_of_number c.args.places count bytes)
