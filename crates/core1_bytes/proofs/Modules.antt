-- Modules by their parts.
use Rattle.std.proofs.Common.{◌≡◌, ℕ, List, [], Option, None, refl}
use Rattle.core1_ast.specs.declared.module.parts.Module1.{Module1}
use Rattle.core1_ast.specs.declared.module.parts.Import1.{Import1}
use Rattle.core1_ast.specs.declared.module.parts.Global1.{Global1}
use Rattle.core1_ast.specs.declared.module.parts.Export1.{Export1}
use Rattle.core1_ast.specs.declared.module.parts.Element1.{Element1}
use Rattle.core1_ast.specs.declared.module.parts.Segment1.{Segment1}
use Rattle.core1_ast.specs.declared.module.ty.FuncType1.{FuncType1}
use Rattle.core1_ast.specs.declared.module.ty.Limits1.{Limits1}
use Rattle.core1_ast.specs.declared.module.code.Body1.{Body1}
use Rattle.wasm_frame.specs.Frame.{Part}
use Rattle.wasm_frame.proofs.Contents.{one_content}
use Rattle.core1_bytes.specs.declared.reading.one.Declared1.{Declared1}
use Rattle.core1_bytes.specs.Parts.{type_section, import_section, func_section, table_section, memory_section, global_section, export_section, start_section, element_section, data_section}
use Rattle.core1_bytes.specs.Spells.{Contents1}
use Rattle.core1_bytes.proofs.Forms.{exact_type_section, exact_import_section, exact_func_section, exact_table_section, exact_memory_section, exact_global_section, exact_export_section, exact_start_section, exact_element_section, exact_data_section}

-- a module by its parts
made : List FuncType1 → List Import1 → List ℕ → List Limits1 → List Limits1 → List Global1 → List Export1 → Option ℕ → List Element1 → List Body1 → List Segment1 → Module1
made types imports funcs tables memories globals exports start elems codes datas = record {
  types = types;
  imports = imports;
  funcs = funcs;
  tables = tables;
  memories = memories;
  globals = globals;
  exports = exports;
  start = start;
  elems = elems;
  codes = codes;
  datas = datas;
}

whole : (m : Module1) → m ≡ made m.types m.imports m.funcs m.tables m.memories m.globals m.exports m.start m.elems m.codes m.datas
unfolding made
whole m = refl

-- modules with the same parts
pub same_parts : (m o : Module1) → m.types ≡ o.types → m.imports ≡ o.imports → m.funcs ≡ o.funcs → m.tables ≡ o.tables → m.memories ≡ o.memories → m.globals ≡ o.globals → m.exports ≡ o.exports → m.start ≡ o.start → m.elems ≡ o.elems → m.codes ≡ o.codes → m.datas ≡ o.datas → m ≡ o
same_parts m o types imports funcs tables memories globals exports start elems codes datas =
    cc (whole m, whole o, types, imports, funcs, tables, memories, globals, exports, start, elems, codes, datas)

-- modules with the same contents and the same bodies
pub one_contents : (parts : List Part) (m o : Module1) → Contents1 parts m → Contents1 parts o → m.codes ≡ o.codes → m ≡ o
one_contents parts m o h k codes =
    let types = one_content type_section exact_type_section [] 1 parts parts m.types o.types refl h.types k.types in
    let imports = one_content import_section exact_import_section [] 2 parts parts m.imports o.imports refl h.imports k.imports in
    let funcs = one_content func_section exact_func_section [] 3 parts parts m.funcs o.funcs refl h.funcs k.funcs in
    let tables = one_content table_section exact_table_section [] 4 parts parts m.tables o.tables refl h.tables k.tables in
    let memories = one_content memory_section exact_memory_section [] 5 parts parts m.memories o.memories refl h.memories k.memories in
    let globals = one_content global_section exact_global_section [] 6 parts parts m.globals o.globals refl h.globals k.globals in
    let exports = one_content export_section exact_export_section [] 7 parts parts m.exports o.exports refl h.exports k.exports in
    let start = one_content start_section exact_start_section None 8 parts parts m.start o.start refl h.start k.start in
    let elems = one_content element_section exact_element_section [] 9 parts parts m.elems o.elems refl h.elems k.elems in
    let datas = one_content data_section exact_data_section [] 11 parts parts m.datas o.datas refl h.datas k.datas in
    same_parts m o types imports funcs tables memories globals exports start elems codes datas

-- what modules declare, by its parts
declares : List FuncType1 → List Import1 → List ℕ → List Limits1 → List Limits1 → Declared1
declares types imports funcs tables memories = record { types = types; imports = imports; funcs = funcs; tables = tables; memories = memories }

declared_whole : (d : Declared1) → d ≡ declares d.types d.imports d.funcs d.tables d.memories
unfolding declares
declared_whole d = refl

pub same_declared : (d e : Declared1) → d.types ≡ e.types → d.imports ≡ e.imports → d.funcs ≡ e.funcs → d.tables ≡ e.tables → d.memories ≡ e.memories → d ≡ e
same_declared d e types imports funcs tables memories = cc (declared_whole d, declared_whole e, types, imports, funcs, tables, memories)
