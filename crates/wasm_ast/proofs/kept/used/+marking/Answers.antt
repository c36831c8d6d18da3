use Rattle.std.proofs.Common.{◌≡◌, ◌++◌, ap, ◌∙◌}
use Rattle.wasm_ast.specs.declared.module.code.Instr.{out-Instr}
use Rattle.wasm_ast.specs.declared.module.code.Instr.TheFolds.{the_lemmas}
use Rattle.wasm_ast.specs.Occurrence.{inside}
use Rattle.wasm_ast.specs.Kept.{called_in}
use Rattle.wasm_ast.proofs.Flags.{marked-append, called_in-append}
use Rattle.wasm_ast.proofs.kept.used.+marking.Goals as goal

pub mark_inside-returns-in-If : goal.mark_inside-returns-in-If
mark_inside-returns-in-If t c =
    let first = c.in-If.first in
    let second = c.in-If.second in
    let both : called_in (inside (out-Instr c.args.instr.now)) ≡ called_in (first ++ second) =
    ap (λ i. called_in (inside (out-Instr i))) c.in-If.is ∙ simp the_lemmas in
    cc (c.mark_code.ensures, c.mark_code-in-If.ensures, c.as_slice.ensures, c.as_slice-in-If.ensures, both, called_in-append first second, marked-append (called_in first) (called_in second) c.args.used.now)
