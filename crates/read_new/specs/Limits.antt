-- The limits of a file. They are this project's own.
use Rattle.std.specs.Prelude.{ℕ, ◌+◌, max, List, length, Option, Some, option_map, slice_get, unwrap_or, sum_by}
use Rattle.grammar_kit.specs.Measures.{greatest}
use Rattle.wasm_ast.specs.declared.module.ty.FuncType.{FuncType}
use Rattle.wasm_ast.specs.declared.module.parts.ImportDesc.{ImportDesc}
use Rattle.wasm_ast.specs.declared.module.parts.ImportDesc.TheVariants as imports
use Rattle.wasm_ast.specs.declared.module.parts.Table.{Table}
use Rattle.wasm_ast.specs.declared.module.parts.Mode.{Mode}
use Rattle.wasm_ast.specs.declared.module.parts.Mode.TheVariants.{Active}
use Rattle.wasm_ast.specs.declared.module.parts.Element.{Element}
use Rattle.wasm_ast.specs.declared.module.parts.Module.{Module}
use Rattle.wasm_ast.specs.Flattening.{flat}
use Rattle.module_reading.specs.declared.kind.Kind.{Kind}
use Rattle.module_reading.specs.declared.kind.Kind.TheVariants as kind
use Rattle.code_new.specs.Code.{depths}

-- how many functions an import adds
abbrev pub func_count : ImportDesc → ℕ
func_count (imports.Func t) = 1
func_count _ = 0

-- the words that carry the values of a tag's exceptions. A tag whose type is not there has none
abbrev pub payload_words : List FuncType → ℕ → ℕ
payload_words types x = unwrap_or (option_map (λ t. length (flat t.params)) (slice_get types x)) 0

-- how deeply instructions nest in the expressions of a part
abbrev pub table_depth : Table → ℕ
table_depth t = unwrap_or (option_map depths t.init) 0

abbrev pub mode_depth : Mode → ℕ
mode_depth (Active x offset) = depths offset
mode_depth _ = 0

abbrev pub element_depth : Element → ℕ
element_depth e = max (mode_depth e.mode) (greatest depths e.items)

-- how deeply instructions nest in the expressions of a module outside its bodies
abbrev pub parts_nesting : Module → ℕ
parts_nesting m =
    max (max (greatest table_depth m.tables) (greatest (λ g. depths g.init) m.globals))
    (max (greatest element_depth m.elems) (greatest (λ s. mode_depth s.mode) m.datas))

-- and in all of them
abbrev pub nesting : Module → ℕ
nesting m = max (parts_nesting m) (greatest (λ b. depths b.code) m.codes)

-- what is counted
abbrev pub number : Kind → Module → ℕ
number kind.Types m = length m.types
number kind.Imports m = length m.imports
number kind.Functions m = sum_by (λ i. func_count i.desc) m.imports + length m.funcs
number kind.Tables m = length m.tables
number kind.Memories m = length m.memories
number kind.Tags m = length m.tags
number kind.Globals m = length m.globals
number kind.Exports m = length m.exports
number kind.Elements m = length m.elems
number kind.Segments m = length m.datas
number kind.Parameters m = greatest (λ t. length t.params) m.types
number kind.Results m = greatest (λ t. length t.results) m.types
number kind.Locals m = greatest (λ b. length b.locals) m.codes
number kind.Payload m = greatest (payload_words m.types) m.tags
number kind.Nesting m = nesting m

-- the most that a file may have
abbrev pub limit : Kind → Option ℕ
limit kind.Types = Some 100000
limit kind.Imports = Some 100000
limit kind.Functions = Some 100000
limit kind.Tables = Some 100
limit kind.Memories = Some 100
limit kind.Tags = Some 1000
limit kind.Globals = Some 100000
limit kind.Exports = Some 100000
limit kind.Elements = Some 100000
limit kind.Segments = Some 100000
limit kind.Parameters = Some 1000
limit kind.Results = Some 1000
limit kind.Locals = Some 50000
limit kind.Payload = Some 64
limit kind.Nesting = Some 800
