use Rattle.std.proofs.Common.{◌≡◌, ◌&&◌, Bool, true, false, sym, ◌∙◌, ap, nat_lt, ◌^◌}
use Rattle.valid_core1.specs.Forms.{is_block}
use Rattle.valid_core1.proofs.Rules.{and_both}
use Rattle.valid_core1.proofs.Judging.{choice_untyped, choice_not_fitting}
use Rattle.valid_core1.proofs.code.opens_choice.Goals as goal

left_false : (a b : Bool) → a ≡ false → (a && b) ≡ false
left_false a b e = ap (λ x. x && b) e

right_false : (a b : Bool) → a ≡ true → b ≡ false → (a && b) ≡ false
right_false a b e f = ap (λ x. x && b) e ∙ f

pub returns-then-not-is_block-clause-refused : goal.returns-then-not-is_block-clause-refused
returns-then-not-is_block-clause-refused c = λ e s labels i h.
    choice_untyped s labels c.args.ty c.args.first.now c.args.second.now i c.args.operands.now h _
    (left_false (is_block c.args.ty c.args.first.now) _ (sym c.is_block.ensures ∙ c.if-not-is_block.true))

pub returns-then-not-is_short-clause-refused : goal.returns-then-not-is_short-clause-refused
returns-then-not-is_short-clause-refused c = λ e s labels i h.
    choice_untyped s labels c.args.ty c.args.first.now c.args.second.now i c.args.operands.now h _
    (right_false (is_block c.args.ty c.args.first.now) _ (sym c.is_block.ensures ∙ c.if-not-is_block.false) (ap (λ n. nat_lt n (2 ^ 32)) (sym c.len.ensures) ∙ sym c.is_short.ensures ∙ c.if-not-is_short.true))

pub returns-then-not-fits-clause-refused : goal.returns-then-not-fits-clause-refused
returns-then-not-fits-clause-refused c = λ e s labels i h.
    choice_not_fitting s labels c.args.ty c.args.first.now c.args.second.now i c.args.operands.now h _
    (and_both (is_block c.args.ty c.args.first.now) _ (sym c.is_block.ensures ∙ c.if-not-is_block.false) (ap (λ n. nat_lt n (2 ^ 32)) (sym c.len.ensures) ∙ sym c.is_short.ensures ∙ c.if-not-is_short.false))
    (sym c.fits.ensures ∙ c.if-not-fits.true)
