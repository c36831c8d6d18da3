-- The payloads of sections: chapter 5 of the 1.0 standard, "Modules".
use Rattle.std.specs.Prelude.{ℕ, List, Option, Some, None, ◌==◌, if◌then◌else◌}
use Rattle.core1_ast.specs.declared.module.ty.FuncType1.{FuncType1}
use Rattle.core1_ast.specs.declared.module.ty.Limits1.{Limits1}
use Rattle.core1_ast.specs.declared.module.parts.Import1.{Import1}
use Rattle.core1_ast.specs.declared.module.parts.ImportDesc1.{ImportDesc1}
use Rattle.core1_ast.specs.declared.module.parts.ImportDesc1.TheVariants as imports
use Rattle.core1_ast.specs.declared.module.parts.Global1.{Global1}
use Rattle.core1_ast.specs.declared.module.parts.Export1.{Export1}
use Rattle.core1_ast.specs.declared.module.parts.ExportDesc1.{ExportDesc1}
use Rattle.core1_ast.specs.declared.module.parts.ExportDesc1.TheVariants as exports
use Rattle.core1_ast.specs.declared.module.parts.Element1.{Element1}
use Rattle.core1_ast.specs.declared.module.parts.Segment1.{Segment1}
use Rattle.grammar_kit.specs.Form.{Form, never, always, byte, when, ◌>>=◌, vector}
use Rattle.grammar_kit.specs.Choice.{given}
use Rattle.wasm_frame.specs.Leb128.{u32}
use Rattle.wasm_frame.specs.Name.{name, byte_vector}
use Rattle.core1_bytes.specs.Types.{func_type, limits, table_type, global_type}
use Rattle.core1_bytes.specs.Bodies.{expr}

-- "Import Section": what is imported
unfoldable pub import_desc : Form ImportDesc1
import_desc = byte >>= λ k.
    when (k == 0x00) (u32 >>= λ x. always (imports.Func x))
    (when (k == 0x01) (table_type >>= λ l. always (imports.Table l))
    (when (k == 0x02) (limits >>= λ l. always (imports.Memory l))
    (when (k == 0x03) (global_type >>= λ g. always (imports.Global g.type g.mutable)) never)))

-- "Import Section": an import
unfoldable pub import : Form Import1
import = name >>= λ m. name >>= λ n. import_desc >>= λ d. always (record { «module» = m; name = n; desc = d })

-- "Global Section": a global
unfoldable pub global : Form Global1
global = global_type >>= λ g. expr >>= λ code. always (record { ty = g.type; mutable = g.mutable; init = code })

-- "Export Section": what is exported
unfoldable pub export_of : ℕ → ℕ → Option ExportDesc1
export_of k x =
    if k == 0x00 then Some (exports.Func x)
    else (if k == 0x01 then Some (exports.Table x)
    else (if k == 0x02 then Some (exports.Memory x)
    else (if k == 0x03 then Some (exports.Global x)
    else None)))

unfoldable pub export_desc : Form ExportDesc1
export_desc = byte >>= λ k. u32 >>= λ x. given (export_of k x)

-- "Export Section": an export
unfoldable pub export : Form Export1
export = name >>= λ n. export_desc >>= λ d. always (record { name = n; desc = d })

-- "Element Section": an element segment. The index of its table is any, and typing wants the table
unfoldable pub element : Form Element1
element = u32 >>= λ t. expr >>= λ code. vector u32 u32 >>= λ funcs. always (record { table = t; offset = code; items = funcs })

-- "Data Section": a data segment. The index of its memory is any, and typing wants the memory
unfoldable pub segment : Form Segment1
segment = u32 >>= λ m. expr >>= λ code. byte_vector >>= λ bytes. always (record { memory = m; offset = code; bytes = bytes })

-- "Type Section"
abbrev pub type_section : Form (List FuncType1)
type_section = vector u32 func_type

-- "Import Section"
abbrev pub import_section : Form (List Import1)
import_section = vector u32 import

-- "Function Section": the index of the type of each function
abbrev pub func_section : Form (List ℕ)
func_section = vector u32 u32

-- "Table Section"
abbrev pub table_section : Form (List Limits1)
table_section = vector u32 table_type

-- "Memory Section"
abbrev pub memory_section : Form (List Limits1)
memory_section = vector u32 limits

-- "Global Section"
abbrev pub global_section : Form (List Global1)
global_section = vector u32 global

-- "Export Section"
abbrev pub export_section : Form (List Export1)
export_section = vector u32 export

-- "Start Section": the index of a function
abbrev pub start_section : Form (Option ℕ)
start_section = u32 >>= λ x. always (Some x)

-- "Element Section"
abbrev pub element_section : Form (List Element1)
element_section = vector u32 element

-- "Data Section"
abbrev pub data_section : Form (List Segment1)
data_section = vector u32 segment
