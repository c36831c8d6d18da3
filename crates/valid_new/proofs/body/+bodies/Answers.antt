use Rattle.std.proofs.Common.{◌≡◌, ap, sym, subst, ◌∙◌, ◌+◌, drop, arith}
use Rattle.typing_kit.specs.Matching.{known}
use Rattle.typing_kit.specs.Typing.{TypedCode}
use Rattle.typed_trees.specs.Forms.{language}
use Rattle.valid_new.specs.Bodies.{Body}
use Rattle.valid_new.specs.Scopes.{context_of, labels_of}
use Rattle.std.specs.Option.{IfSome}
use Rattle.valid_new.proofs.Putting.{second_stuck}
use Rattle.valid_new.proofs.Through.{Through, stuck_here, went_here, outer_here, ended_here, through_whole, through_unfit}
use Rattle.valid_new.proofs.body.+bodies.Goals as goal

pub type_code-returns-then-not-branch-clause-body : goal.type_code-returns-then-not-branch-clause-body
type_code-returns-then-not-branch-clause-body t c =
    let ls : labels_of c.loop-instr.labels.items ≡ labels_of c.args.labels.now.items = ap labels_of c.loop-instr.invariant.labels in
    subst (λ l. TypedCode (language (context_of c.args.scope)) l c.args.code.now (known c.args.takes.now) (known c.args.gives.now) → ⊥) ls
    (stuck_here (context_of c.args.scope) (labels_of c.loop-instr.labels.items) c.args.takes.now c.args.code.now c.loop-instr.instr-index c.instr-item.result (omega (arith, c.loop-instr-test.true)) c.instr-item.is c.loop-instr.operands c.type_instr.new.operands c.loop-instr.nodes c.type_instr.new.nodes c.loop-instr.invariant.through c.args.gives.now c.in_ok-type_instr.field-0 c.if-not-branch.true (c.in_ok-type_instr.ensures.went))

pub type_code-loop-instr-preserved : goal.type_code-loop-instr-preserved
type_code-loop-instr-preserved t c =
    let kept = c.in_ok-type_instr.ensures.labels c.if-not-branch.false in
    record {
      labels = kept ∙ c.loop-instr.invariant.labels;
      outer = outer_here (context_of c.args.scope) (labels_of c.loop-instr.labels.items) c.args.takes.now c.args.code.now c.loop-instr.instr-index c.instr-item.result (omega (arith, c.loop-instr-test.true)) c.instr-item.is c.loop-instr.operands c.type_instr.new.operands c.loop-instr.nodes c.type_instr.new.nodes c.loop-instr.invariant.through c.in_ok-type_instr.field-0 c.if-not-branch.false (c.in_ok-type_instr.ensures.went) ∙ c.loop-instr.invariant.outer;
      through = subst (λ l. Through (context_of c.args.scope) (labels_of l) c.args.takes.now c.args.code.now (drop (c.loop-instr.instr-index + 1) c.args.code.now) c.type_instr.new.operands c.type_instr.new.nodes) (sym kept)
          (went_here (context_of c.args.scope) (labels_of c.loop-instr.labels.items) c.args.takes.now c.args.code.now c.loop-instr.instr-index c.instr-item.result (omega (arith, c.loop-instr-test.true)) c.instr-item.is c.loop-instr.operands c.type_instr.new.operands c.loop-instr.nodes c.type_instr.new.nodes c.loop-instr.invariant.through c.in_ok-type_instr.field-0 c.if-not-branch.false (c.in_ok-type_instr.ensures.went));
    }

pub type_code-returns-then-fits-clause-body : goal.type_code-returns-then-fits-clause-body
type_code-returns-then-fits-clause-body t c =
    let ls : labels_of c.loop-instr.labels.items ≡ labels_of c.args.labels.now.items = ap labels_of c.loop-instr.invariant.labels in
    subst (λ l. Body (context_of c.args.scope) l c.args.code.now c.args.takes.now c.args.gives.now c.loop-instr.nodes) ls
    (through_whole (context_of c.args.scope) (labels_of c.loop-instr.labels.items) c.args.takes.now c.args.code.now c.loop-instr.operands c.loop-instr.nodes c.args.gives.now
    (ended_here (context_of c.args.scope) (labels_of c.loop-instr.labels.items) c.args.takes.now c.args.code.now c.loop-instr.instr-index c.loop-instr.operands c.loop-instr.nodes c.loop-instr-test.false c.loop-instr.invariant.through)
    (sym c.fits_whole-fits.ensures ∙ c.if-fits.true))

pub type_code-returns-else-fits-clause-body : goal.type_code-returns-else-fits-clause-body
type_code-returns-else-fits-clause-body t c =
    let ls : labels_of c.loop-instr.labels.items ≡ labels_of c.args.labels.now.items = ap labels_of c.loop-instr.invariant.labels in
    subst (λ l. TypedCode (language (context_of c.args.scope)) l c.args.code.now (known c.args.takes.now) (known c.args.gives.now) → ⊥) ls
    (through_unfit (context_of c.args.scope) (labels_of c.loop-instr.labels.items) c.args.takes.now c.args.code.now c.loop-instr.operands c.loop-instr.nodes c.args.gives.now
    (ended_here (context_of c.args.scope) (labels_of c.loop-instr.labels.items) c.args.takes.now c.args.code.now c.loop-instr.instr-index c.loop-instr.operands c.loop-instr.nodes c.loop-instr-test.false c.loop-instr.invariant.through)
    (sym c.fits_whole-fits.ensures ∙ c.if-fits.false))

pub type_nested-returns-in_default-2-clause-went : goal.type_nested-returns-in_default-2-clause-went
type_nested-returns-in_default-2-clause-went t c =
    second_stuck (context_of c.args.scope) (labels_of c.args.labels.now.items) (labels_of c.type_arm.new.labels.items) c.args.instr.now c.args.nested c.in-Some-second.second c.in_ok-second.field-0 c.args.operands.now.dead c.args.operands.now.top c.requires.form c.in-Some-second.is c.in_default-2.is
    (ap labels_of (subst (λ o. IfSome o (λ nodes. c.type_arm.new.labels.items ≡ c.args.labels.now.items)) c.in-Some.is c.in_ok-first.ensures.labels)) c.in_ok-second.ensures.body
