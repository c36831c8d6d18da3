-- What 3.0 owes as a version of the binary format.
use Rattle.std.proofs.Common.{◌≡◌, ℕ, List, [], Option, Some, None, refl}
use Rattle.wasm_ast.specs.declared.module.code.Body.{Body}
use Rattle.wasm_ast.specs.declared.module.parts.Module.{Module}
use Rattle.wasm_ast.specs.declared.module.parts.Import.{Import}
use Rattle.wasm_ast.specs.declared.module.parts.Table.{Table}
use Rattle.wasm_ast.specs.declared.module.parts.Global.{Global}
use Rattle.wasm_ast.specs.declared.module.parts.Export.{Export}
use Rattle.wasm_ast.specs.declared.module.parts.Element.{Element}
use Rattle.wasm_ast.specs.declared.module.parts.Segment.{Segment}
use Rattle.wasm_ast.specs.declared.module.ty.Limits.{Limits}
use Rattle.wasm_ast.specs.declared.module.ty.FuncType.{FuncType}
use Rattle.grammar_kit.specs.Form.{vector}
use Rattle.grammar_kit.specs.Sequences.{sized}
use Rattle.wasm_frame.specs.Frame.{Part}
use Rattle.wasm_frame.specs.Leb128.{u32}
use Rattle.wasm_frame.specs.Payloads.{payload_of, value}
use Rattle.wasm_frame.proofs.Contents.{one_content, value_content}
use Rattle.module_reading.specs.Means.{Laws}
use Rattle.module_reading.specs.Spells.{IsPart}
use Rattle.read_new.specs.Bodies.{body}
use Rattle.read_new.specs.Made.{made}
use Rattle.read_new.specs.Parts.{type_section, import_section, func_section, table_section, memory_section, tag_section, global_section, export_section, start_section, element_section, data_count_section, data_section}
use Rattle.read_new.specs.Sizes.{means}
use Rattle.read_new.specs.Spells.{three, Contents}
use Rattle.read_new.proofs.Forms.{exact_type_section, exact_import_section, exact_func_section, exact_table_section, exact_memory_section, exact_tag_section, exact_global_section, exact_export_section, exact_start_section, exact_element_section, exact_data_count_section, exact_data_section, exact_body}

contents : (parts : List Part) → ((id : ℕ) (p : List ℕ) → payload_of id parts ≡ Some p → IsPart three (record { id = id; payload = p })) → Contents parts (made (λ id. payload_of id parts))
unfolding made
contents parts fact = record {
  types = value_content type_section exact_type_section [] 1 parts (fact 1);
  imports = value_content import_section exact_import_section [] 2 parts (fact 2);
  funcs = value_content func_section exact_func_section [] 3 parts (fact 3);
  tables = value_content table_section exact_table_section [] 4 parts (fact 4);
  memories = value_content memory_section exact_memory_section [] 5 parts (fact 5);
  tags = value_content tag_section exact_tag_section [] 13 parts (fact 13);
  globals = value_content global_section exact_global_section [] 6 parts (fact 6);
  exports = value_content export_section exact_export_section [] 7 parts (fact 7);
  start = value_content start_section exact_start_section None 8 parts (fact 8);
  elems = value_content element_section exact_element_section [] 9 parts (fact 9);
  data_count = value_content data_count_section exact_data_count_section None 12 parts (fact 12);
  datas = value_content data_section exact_data_section [] 11 parts (fact 11);
}

codes : (at : ℕ → Option (List ℕ)) → (made at).codes ≡ value (vector u32 (sized u32 body)) [] (at 10)
unfolding made
codes at = refl

-- a module by its parts
of_parts : List FuncType → List Import → List ℕ → List Table → List Limits → List ℕ → List Global → List Export → Option ℕ → List Element → Option ℕ → List Body → List Segment → Module
of_parts types imports funcs tables memories tags globals exports start elems data_count codes datas = record {
  types = types;
  imports = imports;
  funcs = funcs;
  tables = tables;
  memories = memories;
  tags = tags;
  globals = globals;
  exports = exports;
  start = start;
  elems = elems;
  data_count = data_count;
  codes = codes;
  datas = datas;
}

whole : (m : Module) → m ≡ of_parts m.types m.imports m.funcs m.tables m.memories m.tags m.globals m.exports m.start m.elems m.data_count m.codes m.datas
unfolding of_parts
whole m = refl

one_module : (parts : List Part) (m o : Module) → Contents parts m → Contents parts o → m.codes ≡ o.codes → m ≡ o
one_module parts m o h k codes =
    let types = one_content type_section exact_type_section [] 1 parts parts m.types o.types refl h.types k.types in
    let imports = one_content import_section exact_import_section [] 2 parts parts m.imports o.imports refl h.imports k.imports in
    let funcs = one_content func_section exact_func_section [] 3 parts parts m.funcs o.funcs refl h.funcs k.funcs in
    let tables = one_content table_section exact_table_section [] 4 parts parts m.tables o.tables refl h.tables k.tables in
    let memories = one_content memory_section exact_memory_section [] 5 parts parts m.memories o.memories refl h.memories k.memories in
    let tags = one_content tag_section exact_tag_section [] 13 parts parts m.tags o.tags refl h.tags k.tags in
    let globals = one_content global_section exact_global_section [] 6 parts parts m.globals o.globals refl h.globals k.globals in
    let exports = one_content export_section exact_export_section [] 7 parts parts m.exports o.exports refl h.exports k.exports in
    let start = one_content start_section exact_start_section None 8 parts parts m.start o.start refl h.start k.start in
    let elems = one_content element_section exact_element_section [] 9 parts parts m.elems o.elems refl h.elems k.elems in
    let data_count = one_content data_count_section exact_data_count_section None 12 parts parts m.data_count o.data_count refl h.data_count k.data_count in
    let datas = one_content data_section exact_data_section [] 11 parts parts m.datas o.datas refl h.datas k.datas in
    cc (whole m, whole o, types, imports, funcs, tables, memories, tags, globals, exports, start, elems, data_count, codes, datas)

pub three_laws : Laws three means
three_laws = record { exact_body = exact_body; contents = contents; codes = codes; one_module = one_module }
