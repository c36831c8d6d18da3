use Rattle.std.proofs.Common.{◌≡◌, ◌+◌, ◌∷◌, drop, reverse, length, get_or, ap, sym, ◌∙◌, refl, arith}
use Rattle.std.proofs.lemmas.List.{drop_all}
use Rattle.typing_kit.specs.Stack.{fit_whole}
use Rattle.valid_core1.specs.Forms.{same_type}
use Rattle.std.proofs.lemmas.Result.{IfOk-weaker}
use Rattle.valid_core1.proofs.Judging.{block_untyped, block_not_inside, block_typed, choice_not_inside, choice_typed, code_starts, code_turn, code_stops, code_ends, decided_yes, decided_no, judged_at, inside_at, pushed, pushed_under, block_is, loop_is, choice_is, drop_at_item, judged_outer, under_labels}
use Rattle.valid_core1.proofs.code.+typing.Goals as goal
use Rattle.valid_core1.proofs.code.+typing.Goals.{check_code-After-check_instr}

pub check_block-returns-then-not-is_block-clause-judged : goal.check_block-returns-then-not-is_block-clause-judged
check_block-returns-then-not-is_block-clause-judged t c = λ i h.
    block_untyped c.args.scope.now c.args.labels.now c.args.label c.args.ty c.args.code.now i c.args.operands.now h _ (sym c.is_block.ensures ∙ c.if-not-is_block.true)

pub check_block-returns-then-not-branch-clause-judged : goal.check_block-returns-then-not-branch-clause-judged
check_block-returns-then-not-branch-clause-judged t c = λ i h.
    block_not_inside c.args.scope.now c.args.labels.now c.args.label c.args.ty c.args.code.now i c.args.operands.now h _
    (sym c.is_block.ensures ∙ c.if-not-is_block.false)
    (decided_no c.in_ok-check_code.field-0 _ c.in_ok-check_code.ensures.typed c.if-not-branch.true)

pub check_block-returns-clause-judged : goal.check_block-returns-clause-judged
check_block-returns-clause-judged t c = λ i h.
    block_typed c.args.scope.now c.args.labels.now c.args.label c.args.ty c.args.code.now i c.args.operands.now h c.push_all.new.self
    (sym c.is_block.ensures ∙ c.if-not-is_block.false)
    (decided_yes c.in_ok-check_code.field-0 _ c.in_ok-check_code.ensures.typed c.if-not-branch.false)
    (pushed c.args.operands.now c.check_code.new.operands c.push_all.new.self c.results.result.now c.args.ty (c.in_ok-check_code.ensures.operands c.if-not-branch.false) c.results.ensures c.in_ok-push_all.ensures)

pub check_code-loop-instr-init : goal.check_code-loop-instr-init
check_code-loop-instr-init t c = record {
  labels = refl;
  outer = refl;
  typed = code_starts c.args.scope.now c.args.labels.now c.push.new.self c.args.label c.args.ty c.args.code.now c.begin-covered.new.self _ c.in_ok-push.ensures.ok c.begin-covered.ensures.stack;
}

-- the code from this turn of the loop on
at_turn : (t : _) (c : check_code-After-check_instr t) → drop c.loop-instr.instr-index c.args.code.now ≡ c.instr-item.result ∷ drop (c.loop-instr.instr-index + 1) c.args.code.now
at_turn t c =
    drop_at_item c.args.code.now c.loop-instr.instr-index c.instr-item.result (omega (arith, ap length c.as_slice-instr-items.ensures))
    (c.instr-item.is ∙ ap (λ l. get_or l c.loop-instr.instr-index c.instr-item.result) c.as_slice-instr-items.ensures)

pub check_code-returns-then-not-branch-clause-typed : goal.check_code-returns-then-not-branch-clause-typed
check_code-returns-then-not-branch-clause-typed t c =
    code_stops c.args.scope.now c.loop-instr.labels c.instr-item.result c.loop-instr.operands c.check_instr.new.operands c.args.code.now c.loop-instr.instr-index _ _ c.loop-instr.invariant.typed
    (at_turn t (goal.at.check_code-returns-then-not-branch-clause-typed t c).After-check_instr)
    (judged_at _ _ _ _ _ _ _ _ refl c.if-not-branch.true c.in_ok-check_instr.ensures.judged)

pub check_code-loop-instr-preserved : goal.check_code-loop-instr-preserved
check_code-loop-instr-preserved t c =
    let judged = judged_at _ _ _ _ _ _ _ _ refl c.if-not-branch.false c.in_ok-check_instr.ensures.judged in
    let same = c.in_ok-check_instr.ensures.labels c.if-not-branch.false in
    record {
      labels = same ∙ c.loop-instr.invariant.labels;
      outer = judged_outer c.args.scope.now c.loop-instr.labels c.instr-item.result c.loop-instr.operands c.check_instr.new.operands judged ∙ c.loop-instr.invariant.outer;
      typed = under_labels c.args.scope.now c.loop-instr.labels c.check_instr.new.labels c.check_instr.new.operands _ _ _ same
          (code_turn c.args.scope.now c.loop-instr.labels c.instr-item.result c.loop-instr.operands c.check_instr.new.operands c.args.code.now c.loop-instr.instr-index _ _ c.loop-instr.invariant.typed
          (at_turn t (goal.at.check_code-loop-instr-preserved t c).After-check_instr) judged);
    }

pub check_code-returns-clause-typed : goal.check_code-returns-clause-typed
check_code-returns-clause-typed t c =
    code_ends c.args.scope.now c.loop-instr.labels c.args.ty c.loop-instr.operands c.args.code.now c.loop-instr.instr-index _ _
    (drop_all c.loop-instr.instr-index c.args.code.now (omega (arith, ap length c.as_slice-instr-items.ensures))) c.loop-instr.invariant.typed
    (c.fits_whole-typed.ensures ∙ ap (λ l. fit_whole same_type c.loop-instr.operands.dead c.loop-instr.operands.top (reverse l)) c.results.ensures)

pub check_instr-returns-then-not-opens_choice-clause-judged : goal.check_instr-returns-then-not-opens_choice-clause-judged
check_instr-returns-then-not-opens_choice-clause-judged t c =
    c.opens_choice.ensures.refused c.if-not-opens_choice.true c.args.scope.now c.args.labels.now c.args.instr.now (choice_is _ _ _ _ _ _ c.in-If.is)

pub check_instr-returns-then-not-branch-clause-judged : goal.check_instr-returns-then-not-branch-clause-judged
check_instr-returns-then-not-branch-clause-judged t c =
    choice_not_inside c.args.scope.now c.args.labels.now c.in-If.ty c.in-If.first c.in-If.second c.args.instr.now c.args.operands.now (choice_is _ _ _ _ _ _ c.in-If.is) _
    (c.opens_choice.ensures.opened c.if-not-opens_choice.false).arms
    (λ one two. decided_no c.in_ok-check_code-in-If.field-0 _ c.in_ok-check_code-in-If.ensures.typed c.if-not-branch.true one)

pub check_instr-returns-then-not-branch-2-clause-judged : goal.check_instr-returns-then-not-branch-2-clause-judged
check_instr-returns-then-not-branch-2-clause-judged t c =
    choice_not_inside c.args.scope.now c.args.labels.now c.in-If.ty c.in-If.first c.in-If.second c.args.instr.now c.args.operands.now (choice_is _ _ _ _ _ _ c.in-If.is) _
    (c.opens_choice.ensures.opened c.if-not-opens_choice.false).arms
    (λ one two. decided_no c.in_ok-check_code-in-If-2.field-0 _ c.in_ok-check_code-in-If-2.ensures.typed c.if-not-branch-2.true
    (inside_at _ _ _ _ _ _ (sym (c.in_ok-check_code-in-If.ensures.labels c.if-not-branch.false)) two))

pub check_instr-returns-in-Block-clause-judged : goal.check_instr-returns-in-Block-clause-judged
check_instr-returns-in-Block-clause-judged t c =
    IfOk-weaker c.check_block.result _ _ (λ typed h. h c.args.instr.now (block_is _ _ _ _ _ c.in-Block.is)) c.check_block.ensures.judged

pub check_instr-returns-in-Loop-clause-judged : goal.check_instr-returns-in-Loop-clause-judged
check_instr-returns-in-Loop-clause-judged t c =
    IfOk-weaker c.check_block-in-Loop.result _ _ (λ typed h. h c.args.instr.now (loop_is _ _ _ _ _ c.in-Loop.is)) c.check_block-in-Loop.ensures.judged

pub check_instr-returns-in_ok-push_all-in-If-clause-judged : goal.check_instr-returns-in_ok-push_all-in-If-clause-judged
check_instr-returns-in_ok-push_all-in-If-clause-judged t c =
    let opened = c.opens_choice.ensures.opened c.if-not-opens_choice.false in
    choice_typed c.args.scope.now c.args.labels.now c.in-If.ty c.in-If.first c.in-If.second c.args.instr.now c.args.operands.now (choice_is _ _ _ _ _ _ c.in-If.is) c.push_all.new.self
    opened.arms opened.condition
    (decided_yes c.in_ok-check_code-in-If.field-0 _ c.in_ok-check_code-in-If.ensures.typed c.if-not-branch.false)
    (inside_at _ _ _ _ _ _ (c.in_ok-check_code-in-If.ensures.labels c.if-not-branch.false) (decided_yes c.in_ok-check_code-in-If-2.field-0 _ c.in_ok-check_code-in-If-2.ensures.typed c.if-not-branch-2.false))
    (pushed_under c.args.operands.now c.check_code-in-If.new.operands c.push_all.new.self c.results.result.now c.in-If.ty
    (c.in_ok-check_code-in-If-2.ensures.operands c.if-not-branch-2.false ∙ c.in_ok-check_code-in-If.ensures.operands c.if-not-branch.false ∙ opened.taken) c.results.ensures c.in_ok-push_all-in-If.ensures)
