-- How large the sections of a file are, as the walk that checks them finds it.
use Rattle.std.specs.Prelude.{◌≡◌, ℕ, List, length, ◌==◌, Some, Result, Ok, Err}
use Rattle.wasm_ast.specs.declared.module.ty.FuncType.{FuncType}
use Rattle.wasm_ast.specs.declared.module.parts.Module.{Module}
use Rattle.grammar_kit.specs.declared.error.FormError.{FormError}
use Rattle.grammar_kit.specs.declared.error.FormError.TheVariants.{Malformed, Memory}
use Rattle.grammar_kit.specs.Form.{Chosen}
use Rattle.grammar_kit.specs.Measures.{greatest}
use Rattle.grammar_kit.specs.Sequences.{whole}
use Rattle.wasm_frame.specs.Payloads.{IsRead}
use Rattle.module_reading.specs.declared.sizes.Sizes.{Sizes}
use Rattle.module_reading.specs.Means.{Means}
use Rattle.module_reading.specs.Sizes.{AreSizesOf, IsNumber}
use Rattle.code_new.specs.Code.{depths}
use Rattle.read_new.specs.declared.three.TypesAndTags.{TypesAndTags}
use Rattle.read_new.specs.Bodies.{sizes_of}
use Rattle.read_new.specs.Limits.{func_count, table_depth, mode_depth, element_depth}
use Rattle.read_new.specs.Made.{made}
use Rattle.read_new.specs.Parts.{type_section, import_section, func_section, table_section, memory_section, tag_section, global_section, export_section, element_section, data_section}
use Rattle.read_new.specs.Spells.{three}

-- so many function types, and the most parameters and results of one
pub record AreTypeSizes (payload : List ℕ) (s : Sizes) : Type 0 where
  pub types : List FuncType
  pub read : whole (type_section.read payload) ≡ Some types
  pub count : s.count ≡ length types
  pub parameters : s.greatest ≡ greatest (λ t. length t.params) types
  pub results : s.second ≡ greatest (λ t. length t.results) types

-- the answer to measuring a payload as a vector of function types
abbrev pub Measured : Result Sizes FormError → List ℕ → Type 0
Measured (Ok s) payload = AreTypeSizes payload s
Measured (Err Malformed) payload = ¬ (IsRead type_section payload)
Measured (Err (Memory e)) payload = Unit {0}

-- how large the payload of a section of this id is
abbrev pub HasSizes : ℕ → List ℕ → Sizes → Type 0
HasSizes id payload s =
    Chosen (id == 1) (AreTypeSizes payload s)
    (Chosen (id == 2) (AreSizesOf import_section (λ i. func_count i.desc) payload s)
    (Chosen (id == 3) (AreSizesOf func_section (λ x. 0) payload s)
    (Chosen (id == 4) (AreSizesOf table_section table_depth payload s)
    (Chosen (id == 5) (AreSizesOf memory_section (λ x. 0) payload s)
    (Chosen (id == 6) (AreSizesOf global_section (λ g. depths g.init) payload s)
    (Chosen (id == 7) (AreSizesOf export_section (λ x. 0) payload s)
    (Chosen (id == 8) (IsNumber payload s)
    (Chosen (id == 9) (AreSizesOf element_section element_depth payload s)
    (Chosen (id == 11) (AreSizesOf data_section (λ d. mode_depth d.mode) payload s)
    (Chosen (id == 12) (IsNumber payload s)
    (Chosen (id == 13) (AreSizesOf tag_section (λ x. 0) payload s) ⊥)))))))))))

-- by what a file of 3.0 is read
abbrev pub means : Means three
means = record { made = made; body_sizes = sizes_of; HasSizes = HasSizes }

-- what of a module is built first
abbrev pub declared_of : Module → TypesAndTags
declared_of m = record { types = m.types; tags = m.tags }
