-- The limits of a file of 1.0. They are this project's own.
use Rattle.std.specs.Prelude.{ℕ, ◌+◌, max, length, Option, Some, None, sum_by}
use Rattle.grammar_kit.specs.Measures.{greatest}
use Rattle.module_reading.specs.declared.kind.Kind.{Kind}
use Rattle.module_reading.specs.declared.kind.Kind.TheVariants as kind
use Rattle.core1_ast.specs.declared.module.parts.ImportDesc1.{ImportDesc1}
use Rattle.core1_ast.specs.declared.module.parts.ImportDesc1.TheVariants as imports
use Rattle.core1_ast.specs.declared.module.parts.Module1.{Module1}
use Rattle.core1_bytes.specs.Nesting.{depth}

-- how many functions an import adds
abbrev pub func_count : ImportDesc1 → ℕ
func_count (imports.Func t) = 1
func_count _ = 0

-- how deeply instructions nest in the expressions of a module
abbrev pub nesting : Module1 → ℕ
nesting m =
    max (greatest (λ g. greatest depth g.init) m.globals)
    (max (greatest (λ e. greatest depth e.offset) m.elems)
    (max (greatest (λ s. greatest depth s.offset) m.datas) (greatest (λ b. greatest depth b.code) m.codes)))

-- what is counted
abbrev pub number : Kind → Module1 → ℕ
number kind.Types m = length m.types
number kind.Imports m = length m.imports
number kind.Functions m = sum_by (λ i. func_count i.desc) m.imports + length m.funcs
number kind.Tables m = length m.tables
number kind.Memories m = length m.memories
number kind.Tags m = 0
number kind.Globals m = length m.globals
number kind.Exports m = length m.exports
number kind.Elements m = length m.elems
number kind.Segments m = length m.datas
number kind.Parameters m = greatest (λ t. length t.params) m.types
number kind.Results m = greatest (λ t. length t.results) m.types
number kind.Locals m = greatest (λ b. length b.locals) m.codes
number kind.Payload m = 0
number kind.Nesting m = nesting m

-- the most that a file may have, if there is a limit
abbrev pub limit : Kind → Option ℕ
limit kind.Types = Some 300000
limit kind.Imports = Some 300000
limit kind.Functions = Some 300000
limit kind.Tables = None
limit kind.Memories = None
limit kind.Tags = None
limit kind.Globals = Some 300000
limit kind.Exports = Some 300000
limit kind.Elements = Some 300000
limit kind.Segments = Some 300000
limit kind.Parameters = Some 2000
limit kind.Results = None
limit kind.Locals = Some 1000000
limit kind.Payload = None
limit kind.Nesting = Some 2500
