use Rattle.std.proofs.Common.{◌≡◌, ◌-◌, List, length}
use Rattle.wasm_ast.specs.declared.module.ty.FuncType.{FuncType}
use Rattle.grammar_kit.specs.Form.{many}
use Rattle.grammar_kit.specs.Measures.{greatest}
use Rattle.grammar_kit.proofs.Loop.{with_front}
use Rattle.read_new.specs.Types.{func_type}
use Rattle.read_new.proofs.parts.types.measure_types.Given as goal

-- the types that were read so far and those that are left, and the most parameters and results of those
abbrev pub invariant-loop : goal.invariant-loop
invariant-loop l =
    (seen : List FuncType) × (with_front seen ((many func_type (l.count - l.counter)).read l.rest) ≡ (many func_type l.count).read l.bytes)
    × (l.parameters ≡ greatest (λ t. length t.params) seen) × (l.results ≡ greatest (λ t. length t.results) seen)
