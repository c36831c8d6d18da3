-- What the sizes of a file say of the module of its payloads.
use Rattle.std.proofs.Common.{◌≡◌, ◌≤◌, ℕ, List, [], length, Option, Some, None, refl, arith}
use Rattle.std.specs.Prelude.{unwrap_or, option_map}
use Rattle.grammar_kit.specs.Measures.{greatest}
use Rattle.wasm_frame.specs.Payloads.{value}
use Rattle.module_reading.specs.declared.sizes.Sizes.{Sizes}
use Rattle.module_reading.specs.declared.sizes.FileSizes.{FileSizes}
use Rattle.module_reading.specs.Sizes.{AreSizes, Both, sizes_at, no_sizes}
use Rattle.module_reading.proofs.Sized.{Told, told, number_of}
use Rattle.code_new.specs.Code.{depths}
use Rattle.read_new.specs.Limits.{func_count, table_depth, mode_depth, element_depth}
use Rattle.read_new.specs.Made.{made}
use Rattle.read_new.specs.Parts.{type_section, import_section, func_section, table_section, memory_section, tag_section, global_section, export_section, element_section, data_section}
use Rattle.read_new.specs.Sizes.{AreTypeSizes, means}
use Rattle.read_new.specs.Spells.{three}
use Rattle.read_new.proofs.Imports.{few_functions}

-- the sizes of a section, or those of none
abbrev pub of : ℕ → FileSizes → Sizes
of id s = unwrap_or (sizes_at id s.sections) no_sizes

-- the same of the function types
pub record TypesTold (payload : Option (List ℕ)) (found : Option Sizes) : Type 0 where
  pub count : (unwrap_or found no_sizes).count ≡ length (value type_section [] payload)
  pub parameters : (unwrap_or found no_sizes).greatest ≡ greatest (λ t. length t.params) (value type_section [] payload)
  pub results : (unwrap_or found no_sizes).second ≡ greatest (λ t. length t.results) (value type_section [] payload)

types_are : (payload : Option (List ℕ)) (found : Option Sizes) → Both AreTypeSizes payload found → TypesTold payload found
types_are (Some p) (Some s) h = record { count = rw h.read h.count; parameters = rw h.read h.parameters; results = rw h.read h.results }
types_are None None h = record { count = refl; parameters = refl; results = refl }
types_are (Some p) None h = absurd h
types_are None (Some s) h = absurd h

module _ (at : ℕ → Option (List ℕ)) (s : FileSizes) (h : AreSizes three means at s) where
  pub types : TypesTold (at 1) (sizes_at 1 s.sections)
  types = types_are (at 1) (sizes_at 1 s.sections) (h.sections 1 (λ e. absurd cc) (λ e. absurd cc))

  pub imports : Told import_section (λ i. func_count i.desc) (at 2) (sizes_at 2 s.sections)
  imports = told import_section (λ i. func_count i.desc) (at 2) (sizes_at 2 s.sections) (h.sections 2 (λ e. absurd cc) (λ e. absurd cc))

  pub funcs : Told func_section (λ x. 0) (at 3) (sizes_at 3 s.sections)
  funcs = told func_section (λ x. 0) (at 3) (sizes_at 3 s.sections) (h.sections 3 (λ e. absurd cc) (λ e. absurd cc))

  pub tables : Told table_section table_depth (at 4) (sizes_at 4 s.sections)
  tables = told table_section table_depth (at 4) (sizes_at 4 s.sections) (h.sections 4 (λ e. absurd cc) (λ e. absurd cc))

  pub memories : Told memory_section (λ x. 0) (at 5) (sizes_at 5 s.sections)
  memories = told memory_section (λ x. 0) (at 5) (sizes_at 5 s.sections) (h.sections 5 (λ e. absurd cc) (λ e. absurd cc))

  pub globals : Told global_section (λ g. depths g.init) (at 6) (sizes_at 6 s.sections)
  globals = told global_section (λ g. depths g.init) (at 6) (sizes_at 6 s.sections) (h.sections 6 (λ e. absurd cc) (λ e. absurd cc))

  pub exports : Told export_section (λ x. 0) (at 7) (sizes_at 7 s.sections)
  exports = told export_section (λ x. 0) (at 7) (sizes_at 7 s.sections) (h.sections 7 (λ e. absurd cc) (λ e. absurd cc))

  pub elements : Told element_section element_depth (at 9) (sizes_at 9 s.sections)
  elements = told element_section element_depth (at 9) (sizes_at 9 s.sections) (h.sections 9 (λ e. absurd cc) (λ e. absurd cc))

  pub segments : Told data_section (λ d. mode_depth d.mode) (at 11) (sizes_at 11 s.sections)
  segments = told data_section (λ d. mode_depth d.mode) (at 11) (sizes_at 11 s.sections) (h.sections 11 (λ e. absurd cc) (λ e. absurd cc))

  pub tags : Told tag_section (λ x. 0) (at 13) (sizes_at 13 s.sections)
  tags = told tag_section (λ x. 0) (at 13) (sizes_at 13 s.sections) (h.sections 13 (λ e. absurd cc) (λ e. absurd cc))

  pub data_count : option_map (λ n. n.count) (sizes_at 12 s.sections) ≡ (made at).data_count
  unfolding made
  data_count = number_of (at 12) (sizes_at 12 s.sections) (h.sections 12 (λ e. absurd cc) (λ e. absurd cc))

  -- as many functions as numbers of 33 bits can count
  pub few : (of 2 s).total ≤ (of 2 s).count
  few = omega (arith, imports.sum, imports.count, few_functions (value import_section [] (at 2)))
