use Rattle.std.proofs.Common.{sym, ap, ◌∙◌}
use Rattle.wasm_ast.specs.declared.module.code.Instr.{out-Instr, out-roll-Instr}
use Rattle.wasm_ast.specs.declared.module.code.Instr.TheVariants.{rolls-Throw}
use Rattle.wasm_ast.specs.declared.module.code.Instr.TheOpen.{Instr-F}
use Rattle.typed_trees.specs.Typed.{module_of}
use Rattle.run_new.specs.Leaves.{act}
use Rattle.run_new.proofs.Stored.{in_state, thrown_in_state}
use Rattle.run_new.proofs.leaves.rare.Goals as goal

pub returns-in_ok-change-in-Throw : goal.returns-in_ok-change-in-Throw
returns-in_ok-change-in-Throw c l =
    thrown_in_state _ c.args.state.now c.state.view_is (module_of c.args.program.now) c.args.instr.now c.in-Throw.tag c.tag_values-count.result c.args.operands.now l c.throw.new.self c.in_ok-change-in-Throw.change (ap out-Instr (c.in-Throw.is ∙ sym (rolls-Throw c.in-Throw.tag)) ∙ out-roll-Instr (Instr-F.Throw c.in-Throw.tag)) c.tag_values-count.ensures (c.in_ok-change-in-Throw.ensures l)

pub returns-in_ok-change-in-TableGet : goal.returns-in_ok-change-in-TableGet
returns-in_ok-change-in-TableGet c l =
    in_state _ c.args.state.now c.state-in-TableGet.view_is (act (module_of c.args.program.now) c.args.instr.now) c.args.operands.now l c.table_leaf.new.store c.in_ok-change-in-TableGet.change (c.in_ok-change-in-TableGet.ensures (module_of c.args.program.now) l)

pub returns-in_ok-change-in-MemorySize : goal.returns-in_ok-change-in-MemorySize
returns-in_ok-change-in-MemorySize c l =
    in_state _ c.args.state.now c.state-in-MemorySize.view_is (act (module_of c.args.program.now) c.args.instr.now) c.args.operands.now l c.memory_leaf.new.store c.in_ok-change-in-MemorySize.change (c.in_ok-change-in-MemorySize.ensures (module_of c.args.program.now) l)
