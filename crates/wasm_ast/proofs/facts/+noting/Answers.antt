use Rattle.std.proofs.Common.{◌≡◌, ◌++◌, ap, ◌∙◌}
use Rattle.wasm_ast.specs.declared.module.code.Instr.{out-Instr}
use Rattle.wasm_ast.specs.declared.module.code.Instr.TheFolds.{the_lemmas}
use Rattle.wasm_ast.specs.Occurrence.{inside}
use Rattle.wasm_ast.specs.Facts.{with_code}
use Rattle.wasm_ast.proofs.Noting.{with_code-append}
use Rattle.wasm_ast.proofs.facts.+noting.Goals as goal

pub note_inside-returns-in-If : goal.note_inside-returns-in-If
note_inside-returns-in-If t c =
    let first = c.in-If.first in
    let second = c.in-If.second in
    let both : with_code (inside (out-Instr c.args.instr.now)) c.args.facts.now ≡ with_code (first ++ second) c.args.facts.now =
    ap (λ i. with_code (inside (out-Instr i)) c.args.facts.now) c.in-If.is ∙ simp the_lemmas in
    cc (c.note_code.ensures, c.note_code-in-If.ensures, c.as_slice.ensures, c.as_slice-in-If.ensures, both, with_code-append first second c.args.facts.now)
