-- The entries of sections, and their payloads: chapter 5 of the standard, "Modules".
use Rattle.std.specs.Prelude.{ℕ, List, Option, Some, None, ◌==◌}
use Rattle.wasm_ast.specs.declared.module.ty.FuncType.{FuncType}
use Rattle.wasm_ast.specs.declared.module.ty.Limits.{Limits}
use Rattle.wasm_ast.specs.declared.module.parts.Import.{Import}
use Rattle.wasm_ast.specs.declared.module.parts.ImportDesc.{ImportDesc}
use Rattle.wasm_ast.specs.declared.module.parts.ImportDesc.TheVariants as imports
use Rattle.wasm_ast.specs.declared.module.parts.Table.{Table}
use Rattle.wasm_ast.specs.declared.module.parts.Global.{Global}
use Rattle.wasm_ast.specs.declared.module.parts.Export.{Export}
use Rattle.wasm_ast.specs.declared.module.parts.ExportDesc.{ExportDesc}
use Rattle.wasm_ast.specs.declared.module.parts.ExportDesc.TheVariants as exports
use Rattle.wasm_ast.specs.declared.module.parts.Element.{Element}
use Rattle.wasm_ast.specs.declared.module.parts.Segment.{Segment}
use Rattle.grammar_kit.specs.Form.{Form, never, always, byte, when, ◌>>=◌, vector}
use Rattle.wasm_frame.specs.Leb128.{u32}
use Rattle.wasm_frame.specs.Name.{name}
use Rattle.wasm_frame.specs.Payloads.{optional}
use Rattle.code_new.specs.Types.{value_type, ref_type, ref_type_at}
use Rattle.code_new.specs.Code.{expr}
use Rattle.read_new.specs.Types.{func_type, limits, mutability, tag}
use Rattle.read_new.specs.Segments.{element, segment}

-- "Table Types" and "Global Types", of what is imported
unfoldable pub imported_table : Form ImportDesc
imported_table = ref_type >>= λ t. limits >>= λ l. always (imports.Table t l)

unfoldable pub imported_global : Form ImportDesc
imported_global = value_type >>= λ t. mutability >>= λ m. always (imports.Global t m)

-- "Import Section", what is imported
unfoldable pub import_desc : Form ImportDesc
import_desc = byte >>= λ b.
    when (b == 0x00) (u32 >>= λ x. always (imports.Func x))
    (when (b == 0x01) imported_table
    (when (b == 0x02) (limits >>= λ l. always (imports.Memory l))
    (when (b == 0x03) imported_global
    (when (b == 0x04) (tag >>= λ x. always (imports.Tag x)) never))))

-- "Import Section", an import
unfoldable pub import : Form Import
import = name >>= λ m. name >>= λ n. import_desc >>= λ d. always (record { «module» = m; name = n; desc = d })

-- "Table Section": a type, or one with an expression for the entries
unfoldable pub table : Form Table
table = byte >>= λ b. when (b == 0x40)
    (byte >>= λ z. when (z == 0x00) (ref_type >>= λ t. limits >>= λ l. expr >>= λ c. always (record { ty = t; limits = l; init = Some c })) never)
    (ref_type_at b >>= λ t. limits >>= λ l. always (record { ty = t; limits = l; init = None }))

-- "Global Section"
unfoldable pub global : Form Global
global = value_type >>= λ t. mutability >>= λ m. expr >>= λ c. always (record { ty = t; mutable = m; init = c })

-- "Export Section", what is exported
unfoldable pub export_desc : Form ExportDesc
export_desc = byte >>= λ b.
    when (b == 0x00) (u32 >>= λ x. always (exports.Func x))
    (when (b == 0x01) (u32 >>= λ x. always (exports.Table x))
    (when (b == 0x02) (u32 >>= λ x. always (exports.Memory x))
    (when (b == 0x03) (u32 >>= λ x. always (exports.Global x))
    (when (b == 0x04) (u32 >>= λ x. always (exports.Tag x)) never))))

-- "Export Section", an export
unfoldable pub export : Form Export
export = name >>= λ n. export_desc >>= λ d. always (record { name = n; desc = d })

-- "Type Section"
abbrev pub type_section : Form (List FuncType)
type_section = vector u32 func_type

-- "Import Section"
abbrev pub import_section : Form (List Import)
import_section = vector u32 import

-- "Function Section": the type index of each function
abbrev pub func_section : Form (List ℕ)
func_section = vector u32 u32

-- "Table Section"
abbrev pub table_section : Form (List Table)
table_section = vector u32 table

-- "Memory Section"
abbrev pub memory_section : Form (List Limits)
memory_section = vector u32 limits

-- "Tag Section"
abbrev pub tag_section : Form (List ℕ)
tag_section = vector u32 tag

-- "Global Section"
abbrev pub global_section : Form (List Global)
global_section = vector u32 global

-- "Export Section"
abbrev pub export_section : Form (List Export)
export_section = vector u32 export

-- "Start Section": the index of a function
abbrev pub start_section : Form (Option ℕ)
start_section = optional

-- "Element Section"
abbrev pub element_section : Form (List Element)
element_section = vector u32 element

-- "Data Count Section": how many data segments there are
abbrev pub data_count_section : Form (Option ℕ)
data_count_section = optional

-- "Data Section"
abbrev pub data_section : Form (List Segment)
data_section = vector u32 segment
