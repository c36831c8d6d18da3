-- What a module needs, and its load, where in its bodies occurs what occurs in the bodies of another, and where it exports
-- the same, tags aside.
use mathlib.Core.Path.{fun_ext}
use Rattle.std.proofs.Common.{◌≡◌, ℕ, ◌+◌, ◌*◌, Bool, false, not, cond, ◌||◌, ◌&&◌, nat_eq, nat_le, List, [], ◌++◌, length, map, filter_map, drop, unwrap_or, slice_get, Option, refl, ap, ◌∙◌}
use Rattle.std.specs.List.{list_any, list_all, flat_map, sum_by}
use Rattle.wasm_ast.specs.declared.features.kind.Feature.{Feature}
use Rattle.wasm_ast.specs.declared.features.kind.Feature.TheVariants as features
use Rattle.wasm_ast.specs.declared.module.ty.Limits.{Limits}
use Rattle.wasm_ast.specs.declared.module.code.Body.{Body}
use Rattle.wasm_ast.specs.declared.module.parts.Element.{Element}
use Rattle.wasm_ast.specs.declared.module.parts.Export.{Export}
use Rattle.wasm_ast.specs.declared.module.parts.ExportDesc.{ExportDesc}
use Rattle.wasm_ast.specs.declared.module.parts.ExportDesc.TheVariants.{Tag}
use Rattle.wasm_ast.specs.declared.module.parts.Segment.{Segment}
use Rattle.wasm_ast.specs.declared.module.parts.Module.{Module}
use Rattle.wasm_ast.specs.Features.{type_shows, shows}
use Rattle.wasm_ast.specs.Has.{has_of, imports_some, is_exported_table, exports_wide_global, exports_type, is_exnref_type, is_passive, is_wide_global, has_several_results, imports_type}
use Rattle.wasm_ast.specs.Kept.{called_in, called_in_offset, called_in_element, called_anywhere, types_placed, all_agree, lowered_and_own, has_one_plain_table, exports_table, uses_table, is_plain_element, are_told_apart, keeps_table}
use Rattle.wasm_ast.specs.Fold.{known_globals}
use Rattle.wasm_ast.specs.Occurrence.{Head, some_in}
use Rattle.wasm_ast.specs.Outside.{is_exported_memory, exports_memory}
use Rattle.wasm_ast.specs.Places.{in_offset, in_element, in_table, in_bodies, outside_elements, anywhere, func_type_shows, global_import_shows, declares, holds}
use Rattle.wasm_ast.specs.Region.{moves_tables, has_computed_offset, has_known_offset, pages_for_bytes, pages_for_entries}
use Rattle.wasm_ast.specs.Spaces.{func_indices, global_types, table_count, memory_count, is_tag}
use Rattle.pass_law.specs.Hosts.{catches_by_reference}
use Rattle.pass_law.specs.Stages.{any_from, sum_from, memory_limits, table_limits, is_active, memory_pages, copies_data, copies_elements, is_copied_data, is_copied_element, exports_this, is_sealed, has_one_size, needs_stage_region, has_load}
use Rattle.pass_plain.specs.Plans.{is_sign}
use Rattle.pass_plain.proofs.Evaluations.{changed}
use Rattle.pass_plain.proofs.Occurrences.{Overlooks, overlooks_feature, overlooks_table, overlooks_reference, overlooks_segment, overlooks_element}

module _ (m : Module) (codes : List Body) (exports : List Export) (count : Option ℕ) where
  -- What is the same of both.
  pub record SameSights : Type 0 where
    pub seen : (p : Head → Bool) → Overlooks p → list_any (λ b. some_in p b.code) codes ≡ list_any (λ b. some_in p b.code) m.codes
    pub called : flat_map (λ b. called_in b.code) codes ≡ flat_map (λ b. called_in b.code) m.codes
    pub locals : (f : Feature) → list_any (λ b. list_any (type_shows f) b.locals) codes ≡ list_any (λ b. list_any (type_shows f) b.locals) m.codes
    pub exported : (t : ExportDesc → Bool) → ((x : ℕ) → t (Tag x) ≡ false) → list_any (λ e. t e.desc) exports ≡ list_any (λ e. t e.desc) m.exports

module _ (m : Module) (codes : List Body) (exports : List Export) (count : Option ℕ) where
  -- where code stands
  outside_by : (p : Head → Bool) → in_bodies p (changed m codes exports count) ≡ in_bodies p m → outside_elements p (changed m codes exports count) ≡ outside_elements p m
  outside_by p e = ap (λ b. list_any (in_table p) m.tables || list_any (λ g. some_in p g.init) m.globals || b || list_any (λ s. in_offset p s.mode) m.datas) e

  pub anywhere_by : (p : Head → Bool) → in_bodies p (changed m codes exports count) ≡ in_bodies p m → anywhere p (changed m codes exports count) ≡ anywhere p m
  anywhere_by p e = ap (λ b. b || list_any (in_element p) m.elems) (outside_by p e)

module _ (m : Module) (codes : List Body) (exports : List Export) (count : Option ℕ) (same : SameSights m codes exports count) where
  abbrev other : Module
  other = changed m codes exports count

  anywhere_same : (p : Head → Bool) → Overlooks p → anywhere p other ≡ anywhere p m
  anywhere_same p o = anywhere_by m codes exports count p (same.seen p o)

  declares_same : (f : Feature) → declares f other ≡ declares f m
  declares_same f = ap (λ b. list_any (func_type_shows f) m.types || list_any (λ i. global_import_shows f i.desc) m.imports || list_any (λ g. type_shows f g.ty) m.globals || b) (same.locals f)

  -- the table that is kept
  called_anywhere_same : called_anywhere other ≡ called_anywhere m
  called_anywhere_same = ap (λ l. flat_map (λ t. called_in (unwrap_or t.init [])) m.tables ++ flat_map (λ g. called_in g.init) m.globals ++ l ++ flat_map (λ s. called_in_offset s.mode) m.datas ++ flat_map called_in_element m.elems) same.called

  told_apart_same : are_told_apart other ≡ are_told_apart m
  told_apart_same = ap (λ l. all_agree (map lowered_and_own (filter_map (slice_get m.types) (l ++ flat_map (types_placed (func_indices m)) m.elems)))) called_anywhere_same

  keeps_same : keeps_table other ≡ keeps_table m
  keeps_same =
      ap (λ b. has_one_plain_table m && not b && not (list_any (λ e. exports_table e.desc) exports) && list_all (is_plain_element (known_globals m)) m.elems && are_told_apart other) (anywhere_same uses_table overlooks_table)
      ∙ ap (λ b. has_one_plain_table m && not (anywhere uses_table m) && not b && list_all (is_plain_element (known_globals m)) m.elems && are_told_apart other) (same.exported exports_table (λ x. refl))
      ∙ ap (λ b. has_one_plain_table m && not (anywhere uses_table m) && not (list_any (λ e. exports_table e.desc) m.exports) && list_all (is_plain_element (known_globals m)) m.elems && b) told_apart_same

  -- features
  shown : (f : Feature) → is_sign f ≡ false → anywhere (shows f) other ≡ anywhere (shows f) m
  shown f h = anywhere_same (shows f) (overlooks_feature f h)

  pub has_same : (f : Feature) → is_sign f ≡ false → has_of other f ≡ has_of m f
  has_same features.Floats h =
      ap (λ b. b || holds features.Floats m || anywhere (shows features.Floats) other) (declares_same features.Floats)
      ∙ ap (λ b. declares features.Floats m || holds features.Floats m || b) (shown features.Floats refl)
  has_same features.ExportedTable h = same.exported (is_exported_table (table_count m)) (λ x. refl)
  has_same features.WideGlobal h = ap (λ b. imports_some is_wide_global m || b) (same.exported (exports_wide_global (global_types m)) (λ x. refl))
  has_same features.HostExnref h =
      ap (λ b. imports_some (imports_type (is_exnref_type m)) m || list_any (is_exnref_type m) m.tags || b) (same.exported (exports_type (is_exnref_type m) (func_indices m)) (λ x. refl))
  has_same features.Sign h = absurd cc
  has_same features.Multi h = ap (λ b. list_any has_several_results m.types || b) (shown features.Multi refl)
  has_same features.TypedSelect h = shown features.TypedSelect refl
  has_same features.Simd h =
      ap (λ b. b || holds features.Simd m || anywhere (shows features.Simd) other) (declares_same features.Simd)
      ∙ ap (λ b. declares features.Simd m || holds features.Simd m || b) (shown features.Simd refl)
  has_same features.LateLanes h = shown features.LateLanes refl
  has_same features.Tail h = shown features.Tail refl
  has_same features.Refs h =
      ap (λ b. b || outside_elements (shows features.Refs) other) (declares_same features.Refs)
      ∙ ap (λ b. declares features.Refs m || b) (outside_by m codes exports count (shows features.Refs) (same.seen (shows features.Refs) (overlooks_feature features.Refs refl)))
  has_same features.Tables h =
      ap (λ b. b || (not (nat_eq (table_count m) 0) && not (keeps_table other))) (shown features.Tables refl)
      ∙ ap (λ b. anywhere (shows features.Tables) m || (not (nat_eq (table_count m) 0) && not b)) keeps_same
  has_same features.Exceptions h =
      ap (λ b. not (nat_eq (length m.tags) 0) || imports_some is_tag m || b || holds features.Exceptions m || anywhere (shows features.Exceptions) other) (declares_same features.Exceptions)
      ∙ ap (λ b. not (nat_eq (length m.tags) 0) || imports_some is_tag m || declares features.Exceptions m || holds features.Exceptions m || b) (shown features.Exceptions refl)
  has_same features.Bulk h = ap (λ b. list_any (λ s. is_passive s.mode) m.datas || b) (shown features.Bulk refl)
  has_same f h = refl

  -- the region
  moves_same : moves_tables other ≡ moves_tables m
  moves_same = ap (λ b. not (nat_eq (table_count m) 0) && not b) keeps_same

  copied_data_same : is_copied_data other ≡ is_copied_data m
  copied_data_same = fun_ext (λ k. fun_ext (λ d. ap (λ b. is_passive d.mode && b) (anywhere_same (copies_data k) (overlooks_segment k))))

  copied_element_same : is_copied_element other ≡ is_copied_element m
  copied_element_same = fun_ext (λ k. fun_ext (λ e. ap (λ b. is_passive e.mode && b) (anywhere_same (copies_elements k) (overlooks_element k))))

  sealed_same : is_sealed other ≡ is_sealed m
  sealed_same = fun_ext (λ k. fun_ext (λ limits. ap (λ b. not b && has_one_size limits.min limits.max) (same.exported (exports_this k) (λ x. refl))))

  pub region_same : needs_stage_region other ≡ needs_stage_region m
  region_same =
      ap (λ (t : ℕ → Segment → Bool). nat_le 2 (memory_count m) || any_from t 0 m.datas || moves_tables other || has_computed_offset m) copied_data_same
      ∙ ap (λ b. nat_le 2 (memory_count m) || any_from (is_copied_data m) 0 m.datas || b || has_computed_offset m) moves_same

  pub exports_memory_same : exports_memory other ≡ exports_memory m
  exports_memory_same = same.exported (is_exported_memory (memory_count m)) (λ x. refl)

  pub references_same : anywhere catches_by_reference other ≡ anywhere catches_by_reference m
  references_same = anywhere_same catches_by_reference overlooks_reference

  -- whether there is room, by what it rests on
  abbrev room : (ℕ → Limits → Bool) → Bool → (ℕ → Segment → Bool) → (ℕ → Element → Bool) → Bool → List ℕ → Bool
  room sealed moves data_copied elem_copied region sizes =
      let kept : ℕ = sum_from (λ k limits. cond (sealed k limits) 0 4) 0 (memory_limits m) in
      let copied : ℕ = sum_from (λ k d. cond (data_copied k d) (length d.bytes) 0) 0 m.datas + 4 * sum_from (λ k e. cond (elem_copied k e) (length e.items) 0) 0 m.elems in
      let placed : ℕ = sum_by (λ d. cond (not (has_known_offset (known_globals m) d.mode)) (length d.bytes) 0) m.datas + 4 * cond moves (sum_by (λ e. cond (is_active e.mode) (length e.items) 0) m.elems) 0 in
      let tables : ℕ = cond moves (sum_by pages_for_entries (drop (memory_count m) sizes)) 0 in
      nat_le (memory_pages m sizes + cond region (tables + (kept + (4 * cond moves (length (table_limits m)) 0 + (pages_for_bytes copied + pages_for_bytes placed)))) 0) 65536

  pub load_same : (sizes : List ℕ) → has_load other sizes ≡ has_load m sizes
  load_same sizes =
      ap (λ (s : ℕ → Limits → Bool). room s (moves_tables other) (is_copied_data other) (is_copied_element other) (needs_stage_region other) sizes) sealed_same
      ∙ ap (λ b. room (is_sealed m) b (is_copied_data other) (is_copied_element other) (needs_stage_region other) sizes) moves_same
      ∙ ap (λ (t : ℕ → Segment → Bool). room (is_sealed m) (moves_tables m) t (is_copied_element other) (needs_stage_region other) sizes) copied_data_same
      ∙ ap (λ (t : ℕ → Element → Bool). room (is_sealed m) (moves_tables m) (is_copied_data m) t (needs_stage_region other) sizes) copied_element_same
      ∙ ap (λ b. room (is_sealed m) (moves_tables m) (is_copied_data m) (is_copied_element m) b sizes) region_same
