use Rattle.std.proofs.Common.{[], ◌∷◌, refl, sym, ap, ◌∙◌}
use Rattle.std.specs.Option.{option_copied}
use Rattle.host_kit.specs.Trace.{Captured}
use Rattle.wasm_ast.specs.declared.module.immediates.Catch.TheVariants.{Tag, TagRef, All, AllRef}
use Rattle.evaluation_kit.specs.declared.jump.Jump.TheVariants.{Branch}
use Rattle.meaning_new.specs.declared.val.Val.TheVariants.{Exn}
use Rattle.meaning_new.specs.Store.{mark}
use Rattle.run_new.specs.States.{whole, part}
use Rattle.run_new.proofs.Catching.{taken}
use Rattle.run_new.proofs.state.State.catch.Goals as goal

pub returns-in_ok-put_all-in-Some-Tag : goal.returns-in_ok-put_all-in-Some-Tag
returns-in_ok-put_all-in-Some-Tag c =
    taken _ c.args.self.now c.self.view_is c.args.clauses.now c.args.exception c.in-Some.thrown.now c.tag.result c.taking.result c.in-Some-Tag.field-0 (Tag c.in-Some-Tag.field-0-0 c.in-Some-Tag.label)
    (sym c.exception.ensures ∙ ap option_copied c.in-Some.is) c.taking.ensures c.tag.ensures c.in-Some-Tag.is c.in-Some-Tag.field-0-is (Branch c.in-Some-Tag.label) c.in-Some.thrown.now.payload c.args.self.now c.args.self.now c.args.operands.now c.put_all.new.operands
    refl (c.in_ok-put_all-in-Some-Tag.ensures ∙ rw c.values.ensures.list) refl

pub returns-in_ok-tell_capture-in-Some-TagRef : goal.returns-in_ok-tell_capture-in-Some-TagRef
returns-in_ok-tell_capture-in-Some-TagRef c =
    taken _ c.args.self.now c.self.view_is c.args.clauses.now c.args.exception c.in-Some.thrown.now c.tag.result c.taking.result c.in-Some-TagRef.field-0 (TagRef c.in-Some-TagRef.field-0-0 c.in-Some-TagRef.label)
    (sym c.exception.ensures ∙ ap option_copied c.in-Some.is) c.taking.ensures c.tag.ensures c.in-Some-TagRef.is c.in-Some-TagRef.field-0-is (Branch c.in-Some-TagRef.label) (Exn c.args.exception ∷ c.in-Some.thrown.now.payload) (part (mark Captured (whole c.args.self.now))) c.tell_capture.new.self c.args.operands.now c.push.new.self
    refl (c.in_ok-push-in-Some-TagRef.ensures ∙ rw (c.in_ok-put_all-in-Some-TagRef.ensures, c.values-in-Some-TagRef.ensures.list, c.exn.ensures)) (ap part c.in_ok-tell_capture-in-Some-TagRef.ensures)

pub returns-in-Some-All : goal.returns-in-Some-All
returns-in-Some-All c =
    taken _ c.args.self.now c.self.view_is c.args.clauses.now c.args.exception c.in-Some.thrown.now c.tag.result c.taking.result c.in-Some-All.field-0 (All c.in-Some-All.label)
    (sym c.exception.ensures ∙ ap option_copied c.in-Some.is) c.taking.ensures c.tag.ensures c.in-Some-All.is c.in-Some-All.field-0-is (Branch c.in-Some-All.label) [] c.args.self.now c.args.self.now c.args.operands.now c.clear.new.self
    refl c.clear.ensures refl

pub returns-in_ok-tell_capture-in-Some-AllRef : goal.returns-in_ok-tell_capture-in-Some-AllRef
returns-in_ok-tell_capture-in-Some-AllRef c =
    taken _ c.args.self.now c.self.view_is c.args.clauses.now c.args.exception c.in-Some.thrown.now c.tag.result c.taking.result c.in-Some-AllRef.field-0 (AllRef c.in-Some-AllRef.label)
    (sym c.exception.ensures ∙ ap option_copied c.in-Some.is) c.taking.ensures c.tag.ensures c.in-Some-AllRef.is c.in-Some-AllRef.field-0-is (Branch c.in-Some-AllRef.label) (Exn c.args.exception ∷ []) (part (mark Captured (whole c.args.self.now))) c.tell_capture-in-Some-AllRef.new.self c.args.operands.now c.push-in-Some-AllRef.new.self
    refl (c.in_ok-push-in-Some-AllRef.ensures ∙ rw (c.clear-in-Some-AllRef.ensures, c.exn-in-Some-AllRef.ensures)) (ap part c.in_ok-tell_capture-in-Some-AllRef.ensures)
