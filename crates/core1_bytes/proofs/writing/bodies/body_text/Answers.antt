use Rattle.std.proofs.Common.{List, ℕ, subst, ◌∙◌}
use Rattle.grammar_kit.specs.Form.{vector}
use Rattle.wasm_frame.specs.Leb128.{u32}
use Rattle.core1_bytes.specs.Bodies.{local_group}
use Rattle.core1_bytes.specs.Appends.{Appends}
use Rattle.core1_bytes.proofs.Groups.{body_spelled}
use Rattle.core1_bytes.proofs.writing.bodies.body_text.Goals as goal

pub returns : goal.returns
returns c = body_spelled c.write_vector.new.out c.write_expr.new.out c.args.source.now c.in_ok-groups.groups c.as_slice-2.result.now c.as_slice-2.ensures
    (c.in_ok-groups.ensures ∙ c.as_slice.ensures) c.requires.locals
    (subst (λ (start : List ℕ). Appends (vector u32 local_group) start c.write_vector.new.out c.as_slice-2.result.now) c.new-text.ensures c.in_ok-write_vector.ensures)
    c.in_ok-write_expr.ensures
