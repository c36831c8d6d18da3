-- Which bytes spell a module of 3.0: chapter 5 of the standard, "Modules". What all versions of the format share, the frame,
-- custom sections, the code section and its cutting into bodies, stands in `module_reading`.
use Rattle.std.specs.Prelude.{◌≡◌, ℕ, List, [], length, None, MatchOption, ◌==◌, IsTrue}
use Rattle.std.specs.List.{AllByRecursion}
use Rattle.wasm_ast.specs.declared.module.code.Body.{Body}
use Rattle.wasm_ast.specs.declared.module.parts.Module.{Module}
use Rattle.grammar_kit.specs.Form.{Chosen}
use Rattle.wasm_frame.specs.declared.sections.Version.TheVariants.{Three}
use Rattle.wasm_frame.specs.Frame.{Part}
use Rattle.wasm_frame.specs.Payloads.{Content, IsSpelled}
use Rattle.module_reading.specs.Format.{Format}
use Rattle.module_reading.specs.Spells as shared
pub use Rattle.wasm_ast.specs.Counts.{Agrees}
use Rattle.read_new.specs.Bodies.{body}
use Rattle.read_new.specs.Limits.{number, limit}
use Rattle.read_new.specs.Parts.{type_section, import_section, func_section, table_section, memory_section, tag_section, global_section, export_section, start_section, element_section, data_count_section, data_section}

-- the payload of a section is in the grammar of its id
abbrev pub InGrammar : ℕ → List ℕ → Type 0
InGrammar id payload =
    Chosen (id == 1) (IsSpelled type_section payload)
    (Chosen (id == 2) (IsSpelled import_section payload)
    (Chosen (id == 3) (IsSpelled func_section payload)
    (Chosen (id == 4) (IsSpelled table_section payload)
    (Chosen (id == 5) (IsSpelled memory_section payload)
    (Chosen (id == 6) (IsSpelled global_section payload)
    (Chosen (id == 7) (IsSpelled export_section payload)
    (Chosen (id == 8) (IsSpelled start_section payload)
    (Chosen (id == 9) (IsSpelled element_section payload)
    (Chosen (id == 11) (IsSpelled data_section payload)
    (Chosen (id == 12) (IsSpelled data_count_section payload)
    (Chosen (id == 13) (IsSpelled tag_section payload) ⊥)))))))))))

-- what the sections spell, the bodies left out
pub record Contents (parts : List Part) (m : Module) : Type 0 where
  pub types : Content 1 type_section [] parts m.types
  pub imports : Content 2 import_section [] parts m.imports
  pub funcs : Content 3 func_section [] parts m.funcs
  pub tables : Content 4 table_section [] parts m.tables
  pub memories : Content 5 memory_section [] parts m.memories
  pub tags : Content 13 tag_section [] parts m.tags
  pub globals : Content 6 global_section [] parts m.globals
  pub exports : Content 7 export_section [] parts m.exports
  pub start : Content 8 start_section None parts m.start
  pub elems : Content 9 element_section [] parts m.elems
  pub data_count : Content 12 data_count_section None parts m.data_count
  pub datas : Content 11 data_section [] parts m.datas

-- 3.0 as a version of the binary format
abbrev pub three : Format Module
three = record {
  version = Three;
  InGrammar = InGrammar;
  Contents = Contents;
  Body = Body;
  body = body;
  codes = λ m. m.codes;
  Agrees = Agrees;
  number = number;
  limit = limit;
}

-- the bytes spell the module
abbrev pub Spells : List ℕ → Module → Type 0
Spells b m = shared.Spells three b m
