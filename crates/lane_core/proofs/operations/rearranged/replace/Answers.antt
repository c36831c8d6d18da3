use Rattle.std.proofs.Common.{◌≡◌, refl, ap, ◌∙◌, arith}
use Rattle.num_core.specs.Integers.{wrap}
use Rattle.lane_core.specs.Lanes.{lane_bits}
use Rattle.lane_core.specs.Rearranging.{lane_at}
use Rattle.lane_core.proofs.Rearrangements.{replaced_by, none_replaced}
use Rattle.lane_core.proofs.operations.rearranged.replace.Goals as goal

pub returns-else-from-lane_count : goal.returns-else-from-lane_count
returns-else-from-lane_count c = none_replaced c.args.shape c.args.v c.args.lane c.args.i (omega arith) (omega (arith, c.from.ensures, c.lane_count.ensures))

pub overflow_sub-result : goal.overflow_sub-result
overflow_sub-result c =
    let old_is : c.from-old.result ≡ lane_at c.args.shape c.args.lane c.args.v = c.from-old.ensures ∙ c.lane_at.ensures.value ∙ ap (λ x. lane_at c.args.shape x c.args.v) c.into.ensures in
    (replaced_by c.args.shape c.args.v c.args.lane c.from-old.result (wrap (lane_bits c.args.shape) c.args.i) c.args.i c.lane_bits.result c.from-then-from-lane_count.result
    (omega arith) (omega (arith, c.from.ensures, c.lane_count.ensures)) c.lane_bits.ensures c.from-then-from-lane_count.ensures old_is refl).taken

pub overflow_add-result : goal.overflow_add-result
overflow_add-result c =
    let old_is : c.from-old.result ≡ lane_at c.args.shape c.args.lane c.args.v = c.from-old.ensures ∙ c.lane_at.ensures.value ∙ ap (λ x. lane_at c.args.shape x c.args.v) c.into.ensures in
    let fits = (replaced_by c.args.shape c.args.v c.args.lane c.from-old.result c.from-then-from-lane_count-2.result c.args.i c.lane_bits.result c.from-then-from-lane_count.result
    (omega arith) (omega (arith, c.from.ensures, c.lane_count.ensures)) c.lane_bits.ensures c.from-then-from-lane_count.ensures old_is (c.from-then-from-lane_count-2.ensures ∙ c.wrap.ensures)).fits in
    record { fits = fits }

pub returns-then-from-lane_count : goal.returns-then-from-lane_count
returns-then-from-lane_count c =
    let old_is : c.from-old.result ≡ lane_at c.args.shape c.args.lane c.args.v = c.from-old.ensures ∙ c.lane_at.ensures.value ∙ ap (λ x. lane_at c.args.shape x c.args.v) c.into.ensures in
    (replaced_by c.args.shape c.args.v c.args.lane c.from-old.result c.from-then-from-lane_count-2.result c.args.i c.lane_bits.result c.from-then-from-lane_count.result
    (omega arith) (omega (arith, c.from.ensures, c.lane_count.ensures)) c.lane_bits.ensures c.from-then-from-lane_count.ensures old_is (c.from-then-from-lane_count-2.ensures ∙ c.wrap.ensures)).is
