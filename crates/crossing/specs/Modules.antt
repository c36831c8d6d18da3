-- A module of 3.0 as a module of 1.0, part by part.
use Rattle.std.specs.Prelude.{ℕ, false, List, [], ◌∷◌, map, flat_map}
use Rattle.wasm_ast.specs.declared.module.ty.FuncType.{FuncType}
use Rattle.wasm_ast.specs.declared.module.ty.Limits.{Limits}
use Rattle.wasm_ast.specs.declared.module.op.Op.TheVariants as ops
use Rattle.wasm_ast.specs.declared.module.code.Instr.{Instr, out-Instr}
use Rattle.wasm_ast.specs.declared.module.code.Instr.TheOpen.{Instr-F}
use Rattle.wasm_ast.specs.declared.module.code.Body.{Body}
use Rattle.wasm_ast.specs.declared.module.parts.Import.{Import}
use Rattle.wasm_ast.specs.declared.module.parts.ImportDesc.{ImportDesc}
use Rattle.wasm_ast.specs.declared.module.parts.ImportDesc.TheVariants as imports
use Rattle.wasm_ast.specs.declared.module.parts.Global.{Global}
use Rattle.wasm_ast.specs.declared.module.parts.Export.{Export}
use Rattle.wasm_ast.specs.declared.module.parts.ExportDesc.{ExportDesc}
use Rattle.wasm_ast.specs.declared.module.parts.ExportDesc.TheVariants as exports
use Rattle.wasm_ast.specs.declared.module.parts.Mode.{Mode}
use Rattle.wasm_ast.specs.declared.module.parts.Mode.TheVariants.{Active}
use Rattle.wasm_ast.specs.declared.module.parts.Element.{Element}
use Rattle.wasm_ast.specs.declared.module.parts.Segment.{Segment}
use Rattle.wasm_ast.specs.declared.module.parts.Module.{Module}
use Rattle.core1_ast.specs.declared.module.ty.FuncType1.{FuncType1}
use Rattle.core1_ast.specs.declared.module.ty.Limits1.{Limits1}
use Rattle.core1_ast.specs.declared.module.ty.Ty1.TheVariants as types1
use Rattle.core1_ast.specs.declared.module.code.Body1.{Body1}
use Rattle.core1_ast.specs.declared.module.parts.Import1.{Import1}
use Rattle.core1_ast.specs.declared.module.parts.ImportDesc1.{ImportDesc1}
use Rattle.core1_ast.specs.declared.module.parts.ImportDesc1.TheVariants as imports1
use Rattle.core1_ast.specs.declared.module.parts.Global1.{Global1}
use Rattle.core1_ast.specs.declared.module.parts.Export1.{Export1}
use Rattle.core1_ast.specs.declared.module.parts.ExportDesc1.{ExportDesc1}
use Rattle.core1_ast.specs.declared.module.parts.ExportDesc1.TheVariants as exports1
use Rattle.core1_ast.specs.declared.module.parts.Element1.{Element1}
use Rattle.core1_ast.specs.declared.module.parts.Segment1.{Segment1}
use Rattle.core1_ast.specs.declared.module.parts.Module1.{Module1}
use Rattle.crossing.specs.Code.{cross_type, cross_code}

-- function types and limits
abbrev pub cross_func_type : FuncType → FuncType1
cross_func_type t = record { params = map cross_type t.params; results = map cross_type t.results }

abbrev pub cross_limits : Limits → Limits1
cross_limits l = record { min = l.min; max = l.max }

-- imports; a tag is written as a global
abbrev pub cross_import_desc : ImportDesc → ImportDesc1
cross_import_desc (imports.Func t) = imports1.Func t
cross_import_desc (imports.Table t l) = imports1.Table (cross_limits l)
cross_import_desc (imports.Memory l) = imports1.Memory (cross_limits l)
cross_import_desc (imports.Global t mutable) = imports1.Global (cross_type t) mutable
cross_import_desc (imports.Tag t) = imports1.Global types1.I32 false

abbrev pub cross_import : Import → Import1
cross_import i = record { «module» = i.«module»; name = i.name; desc = cross_import_desc i.desc }

-- globals
abbrev pub cross_global : Global → Global1
cross_global g = record { ty = cross_type g.ty; mutable = g.mutable; init = cross_code g.init }

-- exports; a tag is written as a table, of which the host asks nothing
abbrev pub cross_export_desc : ExportDesc → ExportDesc1
cross_export_desc (exports.Func x) = exports1.Func x
cross_export_desc (exports.Table x) = exports1.Table x
cross_export_desc (exports.Memory x) = exports1.Memory x
cross_export_desc (exports.Global x) = exports1.Global x
cross_export_desc (exports.Tag x) = exports1.Table x

abbrev pub cross_export : Export → Export1
cross_export e = record { name = e.name; desc = cross_export_desc e.desc }

-- where a segment goes; of data segments one that is not active is written as an active one at 0
abbrev pub place_of : Mode → ℕ
place_of (Active x offset) = x
place_of _ = 0

abbrev pub offset_of : Mode → List Instr
offset_of (Active x offset) = offset
offset_of _ = []

-- the function to which an item of an element segment refers; an item that refers to none is written as the first
abbrev pub referred : Instr-F Instr → ℕ
referred (Instr-F.Pure (ops.RefFunc f)) = f
referred _ = 0

abbrev pub cross_item : List Instr → ℕ
cross_item [] = 0
cross_item (i ∷ code) = referred (out-Instr i)

-- an element segment that is not active is left out: no instruction of 1.0 names one
abbrev pub cross_active : List (List Instr) → Mode → List Element1
cross_active codes (Active x offset) = record { table = x; offset = cross_code offset; items = map cross_item codes } ∷ []
cross_active codes _ = []

abbrev pub cross_element : Element → List Element1
cross_element e = cross_active e.items e.mode

abbrev pub cross_segment : Segment → Segment1
cross_segment d = record { memory = place_of d.mode; offset = cross_code (offset_of d.mode); bytes = d.bytes }

-- bodies of functions
abbrev pub cross_body : Body → Body1
cross_body b = record { locals = map cross_type b.locals; code = cross_code b.code }

-- a module
abbrev pub cross : Module → Module1
cross m = record {
  types = map cross_func_type m.types;
  imports = map cross_import m.imports;
  funcs = m.funcs;
  tables = map (λ t. cross_limits t.limits) m.tables;
  memories = map cross_limits m.memories;
  globals = map cross_global m.globals;
  exports = map cross_export m.exports;
  start = m.start;
  elems = flat_map cross_element m.elems;
  codes = map cross_body m.codes;
  datas = map cross_segment m.datas;
}
