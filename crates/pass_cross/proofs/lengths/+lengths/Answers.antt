use Rattle.std.proofs.Common.{rules, ◌≡◌, ◌&&◌, true, false, sym, ap, ◌∙◌, subst}
use Rattle.ranges_core1.specs.Ranges.{CodeInRange}
use Rattle.pass_cross.specs.Short.{own_code}
use Rattle.pass_cross.proofs.Shortness.{short_block, short_loop, short_if}
use Rattle.pass_cross.proofs.InRange.{range_block, range_loop, range_if}
use Rattle.pass_cross.proofs.lengths.+lengths.Goals as goal

pub is_short_inside-returns-in-Block-clause-value : goal.is_short_inside-returns-in-Block-clause-value
is_short_inside-returns-in-Block-clause-value t c =
    c.is_short_body.ensures.value ∙ ap own_code c.as_slice.ensures ∙ sym (short_block c.args.instr.now c.in-Block.field-0 c.in-Block.code c.in-Block.is)

pub is_short_inside-returns-in-Loop-clause-value : goal.is_short_inside-returns-in-Loop-clause-value
is_short_inside-returns-in-Loop-clause-value t c =
    c.is_short_body-in-Loop.ensures.value ∙ ap own_code c.as_slice-in-Loop.ensures ∙ sym (short_loop c.args.instr.now c.in-Loop.field-0 c.in-Loop.code c.in-Loop.is)

pub is_short_inside-returns-then-not-is_short_body-clause-value : goal.is_short_inside-returns-then-not-is_short_body-clause-value
is_short_inside-returns-then-not-is_short_body-clause-value t c =
    let f : own_code c.in-If.first ≡ false = search rules in
    sym (short_if c.args.instr.now c.in-If.field-0 c.in-If.first c.in-If.second c.in-If.is ∙ ap (λ b. b && own_code c.in-If.second) f)

pub is_short_inside-returns-else-not-is_short_body-clause-value : goal.is_short_inside-returns-else-not-is_short_body-clause-value
is_short_inside-returns-else-not-is_short_body-clause-value t c =
    let f : own_code c.in-If.first ≡ true = search rules in
    c.is_short_body-in-If-2.ensures.value ∙ ap own_code c.as_slice-in-If-2.ensures
    ∙ sym (short_if c.args.instr.now c.in-If.field-0 c.in-If.first c.in-If.second c.in-If.is ∙ ap (λ b. b && own_code c.in-If.second) f)

pub is_short_inside-returns-in-Block-clause-ranges : goal.is_short_inside-returns-in-Block-clause-ranges
is_short_inside-returns-in-Block-clause-ranges t c = λ h.
    range_block c.args.instr.now c.in-Block.field-0 c.in-Block.code c.in-Block.is (subst CodeInRange c.as_slice.ensures (c.is_short_body.ensures.ranges h))

pub is_short_inside-returns-in-Loop-clause-ranges : goal.is_short_inside-returns-in-Loop-clause-ranges
is_short_inside-returns-in-Loop-clause-ranges t c = λ h.
    range_loop c.args.instr.now c.in-Loop.field-0 c.in-Loop.code c.in-Loop.is (subst CodeInRange c.as_slice-in-Loop.ensures (c.is_short_body-in-Loop.ensures.ranges h))

pub is_short_inside-returns-else-not-is_short_body-clause-ranges : goal.is_short_inside-returns-else-not-is_short_body-clause-ranges
is_short_inside-returns-else-not-is_short_body-clause-ranges t c = λ h.
    let f : CodeInRange c.in-If.first = search rules in
    range_if c.args.instr.now c.in-If.field-0 c.in-If.first c.in-If.second c.in-If.is f (subst CodeInRange c.as_slice-in-If-2.ensures (c.is_short_body-in-If-2.ensures.ranges h))
