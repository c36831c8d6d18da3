use Rattle.std.proofs.Common.{◌≡◌, ◌++◌, drop, filter_map}
use Rattle.wasm_ast.specs.declared.module.parts.Export.{Export}
use Rattle.meaning_new.specs.Host.{global_value}
use Rattle.run_new.proofs.program.Program.exported_values.Given as goal

abbrev pub invariant-loop-export : goal.invariant-loop-export
invariant-loop-export l =
    l.values ++ filter_map (λ (e : Export). global_value l.state.store e.desc) (drop l.export-index l.export-items) ≡ filter_map (λ (e : Export). global_value l.state.store e.desc) l.self.0.exports
