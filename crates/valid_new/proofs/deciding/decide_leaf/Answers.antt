use Rattle.std.proofs.Common.{◌≡◌, ap, sym, ◌∙◌}
use Rattle.wasm_ast.specs.declared.module.code.Instr.{out-Instr, out-roll-Instr}
use Rattle.wasm_ast.specs.declared.module.code.Instr.TheOpen.{Instr-F}
use Rattle.wasm_ast.specs.declared.module.code.Instr.TheVariants.{rolls-BrTable}
use Rattle.valid_new.specs.Scopes.{context_of}
use Rattle.valid_new.proofs.deciding.decide_leaf.Goals as goal

pub returns-in-BrTable : goal.returns-in-BrTable
returns-in-BrTable c =
    let is : out-Instr c.args.instr.now ≡ Instr-F.BrTable c.as_slice.result.now c.in-BrTable.last =
    ap out-Instr (c.in-BrTable.is ∙ sym (rolls-BrTable c.in-BrTable.others c.in-BrTable.last))
    ∙ out-roll-Instr (Instr-F.BrTable c.in-BrTable.others c.in-BrTable.last)
    ∙ ap (λ l. Instr-F.BrTable l c.in-BrTable.last) (sym c.as_slice.ensures) in
    c.decide_table.ensures (context_of c.args.scope) c.args.instr.now is
