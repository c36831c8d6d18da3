use Rattle.std.proofs.Common.{◌≡◌, ◌+◌, Some, None, IfOk, drop, refl, ap, sym, subst, ◌∙◌, arith}
use Rattle.std.proofs.lemmas.List.{drop_all}
use Rattle.wasm_ast.specs.declared.module.ty.Ty.TheVariants.{I32}
use Rattle.typed_trees.specs.Forms.{form}
use Rattle.valid_new.specs.Judged.{ArmTyped, ArmsTyped, CodeTyped, Decided, Judged}
use Rattle.valid_new.specs.Nested.{nested_form}
use Rattle.valid_new.specs.Scopes.{context_of, labels_of}
use Rattle.valid_new.proofs.Judging.{decided_yes, decided_no, second_untyped}
use Rattle.valid_new.proofs.Remaining.{Remains, remains_decided, judged_more, judged_outer, judged_stuck}
use Rattle.valid_new.proofs.deciding.+deciding.Goals as goal

pub is_code_typed-returns-then-not-branch-clause-typed : goal.is_code_typed-returns-then-not-branch-clause-typed
is_code_typed-returns-then-not-branch-clause-typed t c =
    let ls : labels_of c.loop-instr.labels.items ≡ labels_of c.args.labels.now.items = ap labels_of c.loop-instr.invariant.labels in
    subst (λ l. CodeTyped (context_of c.args.scope) l c.args.code.now c.args.takes.now c.args.gives.now → ⊥) ls
    (judged_stuck (context_of c.args.scope) (labels_of c.loop-instr.labels.items) c.args.takes.now c.args.code.now c.loop-instr.instr-index c.instr-item.result (omega (arith, c.loop-instr-test.true)) c.instr-item.is c.loop-instr.operands c.is_instr_typed.new.operands c.loop-instr.invariant.remains c.args.gives.now c.in_ok-is_instr_typed.field-0 c.if-not-branch.true c.in_ok-is_instr_typed.ensures.judged)

pub is_code_typed-loop-instr-preserved : goal.is_code_typed-loop-instr-preserved
is_code_typed-loop-instr-preserved t c =
    let kept = c.in_ok-is_instr_typed.ensures.labels c.if-not-branch.false in
    record {
      labels = kept ∙ c.loop-instr.invariant.labels;
      outer = judged_outer (context_of c.args.scope) (labels_of c.loop-instr.labels.items) c.args.takes.now c.args.code.now c.loop-instr.instr-index c.instr-item.result (omega (arith, c.loop-instr-test.true)) c.instr-item.is c.loop-instr.operands c.is_instr_typed.new.operands c.loop-instr.invariant.remains c.in_ok-is_instr_typed.field-0 c.if-not-branch.false c.in_ok-is_instr_typed.ensures.judged ∙ c.loop-instr.invariant.outer;
      remains = subst (λ l. Remains (context_of c.args.scope) (labels_of l) c.args.takes.now c.args.code.now (drop (c.loop-instr.instr-index + 1) c.args.code.now) c.is_instr_typed.new.operands) (sym kept)
          (judged_more (context_of c.args.scope) (labels_of c.loop-instr.labels.items) c.args.takes.now c.args.code.now c.loop-instr.instr-index c.instr-item.result (omega (arith, c.loop-instr-test.true)) c.instr-item.is c.loop-instr.operands c.is_instr_typed.new.operands c.loop-instr.invariant.remains c.in_ok-is_instr_typed.field-0 c.if-not-branch.false c.in_ok-is_instr_typed.ensures.judged);
    }

pub is_code_typed-returns-clause-typed : goal.is_code_typed-returns-clause-typed
is_code_typed-returns-clause-typed t c =
    let ls : labels_of c.loop-instr.labels.items ≡ labels_of c.args.labels.now.items = ap labels_of c.loop-instr.invariant.labels in
    subst (λ l. Decided c.fits_whole-typed.result (CodeTyped (context_of c.args.scope) l c.args.code.now c.args.takes.now c.args.gives.now)) ls
    (remains_decided (context_of c.args.scope) (labels_of c.loop-instr.labels.items) c.args.takes.now c.args.code.now c.loop-instr.operands c.args.gives.now
    (subst (λ l. Remains (context_of c.args.scope) (labels_of c.loop-instr.labels.items) c.args.takes.now c.args.code.now l c.loop-instr.operands) (drop_all c.loop-instr.instr-index c.args.code.now (omega (arith, c.loop-instr-test.false))) c.loop-instr.invariant.remains)
    c.fits_whole-typed.result c.fits_whole-typed.ensures)

pub is_nested_typed-returns-in_default-second-clause-judged : goal.is_nested_typed-returns-in_default-second-clause-judged
is_nested_typed-returns-in_default-second-clause-judged t c =
    let ls = labels_of c.args.labels.now.items in
    let context = context_of c.args.scope in
    let nested = c.in-Some.nested in
    let is : form context ls c.args.instr.now ≡ nested_form nested nested.second =
    subst (λ l. form context (labels_of l) c.args.instr.now ≡ nested_form nested nested.second) c.as_slice.ensures.value c.in-Some.ensures in
    let first = decided_yes c.in_ok-is_arm_typed.field-0 _ c.if-not-branch.false c.in_ok-is_arm_typed.ensures.typed in
    let arms : ArmsTyped context ls nested nested.second None = subst (λ o. ArmsTyped context ls nested o None) (sym c.in_default-second.is) (first, refl) in
    subst (λ s. IfOk c.decide_nested.result (Judged context ls c.args.instr.now s c.decide_nested.new.operands)) (c.in_ok-is_arm_typed.ensures.operands c.if-not-branch.false)
    (c.decide_nested.ensures context ls c.args.instr.now is arms)

pub is_nested_typed-returns-then-not-branch-2-clause-judged : goal.is_nested_typed-returns-then-not-branch-2-clause-judged
is_nested_typed-returns-then-not-branch-2-clause-judged t c =
    let ls = labels_of c.args.labels.now.items in
    let context = context_of c.args.scope in
    let nested = c.in-Some.nested in
    let is : form context ls c.args.instr.now ≡ nested_form nested nested.second =
    subst (λ l. form context (labels_of l) c.args.instr.now ≡ nested_form nested nested.second) c.as_slice.ensures.value c.in-Some.ensures in
    let same : labels_of c.is_arm_typed.new.labels.items ≡ ls = ap labels_of (c.in_ok-is_arm_typed.ensures.labels c.if-not-branch.false) in
    second_untyped context ls c.args.instr.now nested is c.in-Some-second.second c.args.operands.now.dead c.args.operands.now.top c.in-Some-second.is
    (subst (λ l. ArmTyped context l nested c.in-Some-second.second.now → ⊥) same (decided_no c.in_ok-is_arm_typed-2.field-0 _ c.if-not-branch-2.true c.in_ok-is_arm_typed-2.ensures.typed))

pub is_nested_typed-returns-clause-judged : goal.is_nested_typed-returns-clause-judged
is_nested_typed-returns-clause-judged t c =
    let ls = labels_of c.args.labels.now.items in
    let context = context_of c.args.scope in
    let nested = c.in-Some.nested in
    let is : form context ls c.args.instr.now ≡ nested_form nested nested.second =
    subst (λ l. form context (labels_of l) c.args.instr.now ≡ nested_form nested nested.second) c.as_slice.ensures.value c.in-Some.ensures in
    let same : labels_of c.is_arm_typed.new.labels.items ≡ ls = ap labels_of (c.in_ok-is_arm_typed.ensures.labels c.if-not-branch.false) in
    let first = decided_yes c.in_ok-is_arm_typed.field-0 _ c.if-not-branch.false c.in_ok-is_arm_typed.ensures.typed in
    let second : ArmTyped context ls nested c.in-Some-second.second.now =
    subst (λ l. ArmTyped context l nested c.in-Some-second.second.now) same (decided_yes c.in_ok-is_arm_typed-2.field-0 _ c.if-not-branch-2.false c.in_ok-is_arm_typed-2.ensures.typed) in
    let arms : ArmsTyped context ls nested nested.second (Some I32) = subst (λ o. ArmsTyped context ls nested o (Some I32)) (sym c.in-Some-second.is) (first, second, refl) in
    let operands = c.in_ok-is_arm_typed-2.ensures.operands c.if-not-branch-2.false ∙ c.in_ok-is_arm_typed.ensures.operands c.if-not-branch.false in
    subst (λ s. IfOk c.decide_nested-2.result (Judged context ls c.args.instr.now s c.decide_nested-2.new.operands)) operands
    (c.decide_nested-2.ensures context ls c.args.instr.now is arms)

pub is_instr_typed-returns-then-not-holds_code-clause-judged : goal.is_instr_typed-returns-then-not-holds_code-clause-judged
is_instr_typed-returns-then-not-holds_code-clause-judged t c =
    subst (λ l. IfOk c.decide_leaf.result (Judged (context_of c.args.scope) (labels_of l) c.args.instr.now c.args.operands.now c.decide_leaf.new.operands)) c.as_slice.ensures.value c.decide_leaf.ensures
