use Rattle.std.proofs.Common.{◌≡◌, ◌++◌, drop, filter_map}
use Rattle.core1_ast.specs.declared.module.parts.Export1.{Export1}
use Rattle.meaning_core1.specs.Hosting.{exported_value}
use Rattle.run_core1.proofs.program.Program.exported_values.Given as goal

abbrev pub invariant-loop-export : goal.invariant-loop-export
invariant-loop-export l =
    l.values ++ filter_map (λ (e : Export1). exported_value l.state.store e.desc) (drop l.export-index l.export-items) ≡ filter_map (λ (e : Export1). exported_value l.state.store e.desc) l.self.exports
