-- Which bytes spell a module of 1.0: chapter 5 of the 1.0 standard, "Modules", in three levels: the frame of sections,
-- the payload of each section, and the bodies of functions. What all versions share is module_reading's.
use Rattle.std.specs.Prelude.{◌≡◌, ℕ, List, [], length, None, ◌==◌}
use Rattle.core1_ast.specs.declared.module.code.Body1.{Body1}
use Rattle.core1_ast.specs.declared.module.parts.Module1.{Module1}
use Rattle.grammar_kit.specs.Form.{Chosen}
use Rattle.wasm_frame.specs.declared.sections.Version.TheVariants.{One}
use Rattle.wasm_frame.specs.Frame.{Part}
use Rattle.wasm_frame.specs.Payloads.{Content, IsSpelled}
use Rattle.module_reading.specs.Format.{Format}
use Rattle.module_reading.specs.Spells.{Spells}
use Rattle.core1_bytes.specs.Bodies.{body}
use Rattle.core1_bytes.specs.Limits.{number, limit}
use Rattle.core1_bytes.specs.Parts.{type_section, import_section, func_section, table_section, memory_section, global_section, export_section, start_section, element_section, data_section}

-- the payload of a section is in the grammar of its id
abbrev pub InGrammar1 : ℕ → List ℕ → Type 0
InGrammar1 id payload =
    Chosen (id == 1) (IsSpelled type_section payload)
    (Chosen (id == 2) (IsSpelled import_section payload)
    (Chosen (id == 3) (IsSpelled func_section payload)
    (Chosen (id == 4) (IsSpelled table_section payload)
    (Chosen (id == 5) (IsSpelled memory_section payload)
    (Chosen (id == 6) (IsSpelled global_section payload)
    (Chosen (id == 7) (IsSpelled export_section payload)
    (Chosen (id == 8) (IsSpelled start_section payload)
    (Chosen (id == 9) (IsSpelled element_section payload)
    (Chosen (id == 11) (IsSpelled data_section payload) ⊥)))))))))

-- what the sections spell, the bodies left out
pub record Contents1 (parts : List Part) (m : Module1) : Type 0 where
  pub types : Content 1 type_section [] parts m.types
  pub imports : Content 2 import_section [] parts m.imports
  pub funcs : Content 3 func_section [] parts m.funcs
  pub tables : Content 4 table_section [] parts m.tables
  pub memories : Content 5 memory_section [] parts m.memories
  pub globals : Content 6 global_section [] parts m.globals
  pub exports : Content 7 export_section [] parts m.exports
  pub start : Content 8 start_section None parts m.start
  pub elems : Content 9 element_section [] parts m.elems
  pub datas : Content 11 data_section [] parts m.datas

-- the binary format of 1.0; there are as many functions as bodies
abbrev pub one : Format Module1
one = record {
  version = One;
  InGrammar = InGrammar1;
  Contents = Contents1;
  Body = Body1;
  body = body;
  codes = λ m. m.codes;
  Agrees = λ m. length m.funcs ≡ length m.codes;
  number = number;
  limit = limit;
}

-- the bytes spell the module
abbrev pub Spells1 : List ℕ → Module1 → Type 0
Spells1 = Spells one
