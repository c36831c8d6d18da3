-- The module of the payloads of sections, as it is read.
use Rattle.std.specs.Prelude.{ℕ, List, [], Option, None}
use Rattle.wasm_ast.specs.declared.module.code.Body.{Body}
use Rattle.wasm_ast.specs.declared.module.parts.Module.{Module}
use Rattle.grammar_kit.specs.Form.{Form, vector}
use Rattle.grammar_kit.specs.Sequences.{sized}
use Rattle.wasm_frame.specs.Leb128.{u32}
use Rattle.wasm_frame.specs.Payloads.{value}
use Rattle.read_new.specs.Parts.{type_section, import_section, func_section, table_section, memory_section, tag_section, global_section, export_section, start_section, element_section, data_count_section, data_section}
use Rattle.read_new.specs.Bodies.{body}

-- the bodies, each behind its size
abbrev pub body_section : Form (List Body)
body_section = vector u32 (sized u32 body)

-- the module of the payloads, by the ids of their sections
unfoldable pub made : (ℕ → Option (List ℕ)) → Module
made at = record {
  types = value type_section [] (at 1);
  imports = value import_section [] (at 2);
  funcs = value func_section [] (at 3);
  tables = value table_section [] (at 4);
  memories = value memory_section [] (at 5);
  tags = value tag_section [] (at 13);
  globals = value global_section [] (at 6);
  exports = value export_section [] (at 7);
  start = value start_section None (at 8);
  elems = value element_section [] (at 9);
  data_count = value data_count_section None (at 12);
  codes = value body_section [] (at 10);
  datas = value data_section [] (at 11);
}
