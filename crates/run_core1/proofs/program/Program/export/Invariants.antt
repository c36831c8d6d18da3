use Rattle.std.proofs.Common.{◌≡◌, drop}
use Rattle.std.specs.Prelude.{find, bytes_eq}
use Rattle.core1_ast.specs.declared.module.parts.Export1.{Export1}
use Rattle.run_core1.proofs.program.Program.export.Given as goal

abbrev pub invariant-loop-export : goal.invariant-loop-export
invariant-loop-export l = find (λ (e : Export1). bytes_eq e.name l.name) (drop l.export-index l.export-items) ≡ find (λ (e : Export1). bytes_eq e.name l.name) l.self.exports
