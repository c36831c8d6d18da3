-- By what a file of 1.0 is read: the module of the payloads of sections, and how large payloads and bodies are.
use Rattle.std.specs.Prelude.{ℕ, List, [], length, Option, None, MatchOption, ◌==◌}
use Rattle.core1_ast.specs.declared.module.code.Body1.{Body1}
use Rattle.core1_ast.specs.declared.module.parts.Module1.{Module1}
use Rattle.grammar_kit.specs.Form.{Form, Chosen, vector}
use Rattle.grammar_kit.specs.Measures.{greatest}
use Rattle.grammar_kit.specs.Sequences.{sized}
use Rattle.wasm_frame.specs.Leb128.{u32}
use Rattle.wasm_frame.specs.Payloads.{value}
use Rattle.module_reading.specs.declared.sizes.Sizes.{Sizes}
use Rattle.module_reading.specs.Means.{Means}
use Rattle.module_reading.specs.Sizes.{AreSizesOf, IsNumber}
use Rattle.core1_bytes.specs.declared.reading.one.Declared1.{Declared1}
use Rattle.core1_bytes.specs.Bodies.{body, sizes_of}
use Rattle.core1_bytes.specs.Limits.{func_count}
use Rattle.core1_bytes.specs.Nesting.{depth}
use Rattle.core1_bytes.specs.Parts.{type_section, import_section, func_section, table_section, memory_section, global_section, export_section, start_section, element_section, data_section}
use Rattle.core1_bytes.specs.Spells.{InGrammar1, one}

-- the bodies, each behind its size
abbrev pub body_section : Form (List Body1)
body_section = vector u32 (sized u32 body)

-- the module of the payloads, by the ids of their sections
abbrev pub made : (ℕ → Option (List ℕ)) → Module1
made at = record {
  types = value type_section [] (at 1);
  imports = value import_section [] (at 2);
  funcs = value func_section [] (at 3);
  tables = value table_section [] (at 4);
  memories = value memory_section [] (at 5);
  globals = value global_section [] (at 6);
  exports = value export_section [] (at 7);
  start = value start_section None (at 8);
  elems = value element_section [] (at 9);
  codes = value body_section [] (at 10);
  datas = value data_section [] (at 11);
}

-- how large the payload of a section of this id is
abbrev pub HasSizes1 : ℕ → List ℕ → Sizes → Type 0
HasSizes1 id payload s =
    Chosen (id == 1) (AreSizesOf type_section (λ t. length t.params) payload s)
    (Chosen (id == 2) (AreSizesOf import_section (λ i. func_count i.desc) payload s)
    (Chosen (id == 3) (AreSizesOf func_section (λ x. 0) payload s)
    (Chosen (id == 4) (AreSizesOf table_section (λ l. 0) payload s)
    (Chosen (id == 5) (AreSizesOf memory_section (λ l. 0) payload s)
    (Chosen (id == 6) (AreSizesOf global_section (λ g. greatest depth g.init) payload s)
    (Chosen (id == 7) (AreSizesOf export_section (λ x. 0) payload s)
    (Chosen (id == 8) (IsNumber payload s)
    (Chosen (id == 9) (AreSizesOf element_section (λ e. greatest depth e.offset) payload s)
    (Chosen (id == 11) (AreSizesOf data_section (λ d. greatest depth d.offset) payload s) ⊥)))))))))

abbrev pub means : Means one
means = record { made = made; body_sizes = sizes_of; HasSizes = HasSizes1 }

-- what the check of a payload of this id tells
abbrev pub Checks : ℕ → List ℕ → Option Sizes → Type 0
Checks id payload sizes = MatchOption sizes (¬ (InGrammar1 id payload)) (λ s. InGrammar1 id payload × HasSizes1 id payload s)

-- what a module declares, its values and its code left out
abbrev pub declared_of : Module1 → Declared1
declared_of m = record { types = m.types; imports = m.imports; funcs = m.funcs; tables = m.tables; memories = m.memories }
