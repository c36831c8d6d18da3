-- A module without the code that cannot be reached has no feature that it lacked, needs no region where it needed none, and
-- keeps the table that was kept.
use Rattle.std.proofs.Common.{◌≡◌, ℕ, ◌+◌, Bool, ◌||◌, ◌&&◌, not, nat_eq, nat_le, List, [], ◌∷◌, ◌++◌, map, length, slice_get, unwrap_or, refl, ap, sym, ◌∙◌}
use Rattle.std.specs.List.{list_any, list_all, flat_map}
use Rattle.wasm_ast.specs.declared.features.kind.Feature.{Feature}
use Rattle.wasm_ast.specs.declared.features.kind.Feature.TheVariants as features
use Rattle.wasm_ast.specs.declared.module.code.Body.{Body}
use Rattle.wasm_ast.specs.declared.module.parts.Module.{Module}
use Rattle.wasm_ast.specs.Facts.{is_memory_init}
use Rattle.wasm_ast.specs.Features.{type_shows, shows}
use Rattle.wasm_ast.specs.Fold.{known_globals}
use Rattle.wasm_ast.specs.Has.{has_of, imports_some, has_several_results, is_passive}
use Rattle.wasm_ast.specs.Kept.{has_one_plain_table, uses_table, exports_table, is_plain_element, called_in, called_in_offset, called_in_element, called_anywhere, types_placed, used_indices, used_types, lowered_and_own, are_told_apart, keeps_table}
use Rattle.wasm_ast.specs.Occurrence.{Head, some_in}
use Rattle.wasm_ast.specs.Places.{in_offset, in_element, in_table, in_bodies, outside_elements, anywhere, func_type_shows, global_import_shows, declares, holds}
use Rattle.wasm_ast.specs.Region.{moves_tables, copies_passive, has_computed_offset, needs_region}
use Rattle.wasm_ast.specs.Spaces.{is_tag, func_indices, table_count, memory_count}
use Rattle.typed_trees.specs.Trees.{reachable_code}
use Rattle.valid_mod.specs.Standing.{reachable_body}
use Rattle.pass_law.specs.Stages.{any_from, copies_data, is_copied_data, needs_stage_region}
use Rattle.stage_entry.proofs.Wider.{Implies, or_implies}
use Rattle.stage_entry.proofs.Covering.{and_implies, not_implies, Covered, covered_append, covered_map, covered_filter_map, all_agree_covered}
use Rattle.stage_entry.proofs.Reached.{Blind, blind_feature, blind_table, blind_init, blind_segment, reached_less, called_less}

-- the module without that code
abbrev pub cut_of : Module → Module
cut_of m = record m { codes = map reachable_body m.codes }

-- ---- tests of instructions

module _ (p : Head → Bool) (blind : Blind p) where
  bodies_less : (bodies : List Body) → Implies (list_any (λ b. some_in p b.code) (map reachable_body bodies)) (list_any (λ b. some_in p b.code) bodies)
  bodies_less [] e = e
  bodies_less (b ∷ bodies) e =
      or_implies (some_in p (reachable_code b.code)) (list_any (λ x. some_in p x.code) (map reachable_body bodies)) (some_in p b.code) (list_any (λ x. some_in p x.code) bodies)
      (reached_less p blind b.code) (bodies_less bodies) e

  module _ (m : Module) where
    abbrev before_bodies : Bool
    before_bodies = list_any (in_table p) m.tables || list_any (λ g. some_in p g.init) m.globals

    abbrev offsets : Bool
    offsets = list_any (λ s. in_offset p s.mode) m.datas

    pub outside_less : Implies (outside_elements p (cut_of m)) (outside_elements p m)
    outside_less =
        or_implies (before_bodies || in_bodies p (cut_of m)) offsets (before_bodies || in_bodies p m) offsets
        (or_implies before_bodies (in_bodies p (cut_of m)) before_bodies (in_bodies p m) (λ e. e) (bodies_less m.codes)) (λ e. e)

    pub anywhere_less : Implies (anywhere p (cut_of m)) (anywhere p m)
    anywhere_less =
        or_implies (outside_elements p (cut_of m)) (list_any (in_element p) m.elems) (outside_elements p m) (list_any (in_element p) m.elems) outside_less (λ e. e)

-- ---- the types that indirect calls name

called_covered : (bodies : List Body) → Covered (flat_map (λ b. called_in b.code) (map reachable_body bodies)) (flat_map (λ b. called_in b.code) bodies)
called_covered [] q e = e
called_covered (b ∷ bodies) q e =
    covered_append (called_in (reachable_code b.code)) (flat_map (λ x. called_in x.code) (map reachable_body bodies)) (called_in b.code) (flat_map (λ x. called_in x.code) bodies)
    (λ t. called_less t b.code) (called_covered bodies) q e

module _ (m : Module) where
  abbrev before_calls : List ℕ
  before_calls = flat_map (λ t. called_in (unwrap_or t.init [])) m.tables ++ flat_map (λ g. called_in g.init) m.globals

  abbrev body_calls : List Body → List ℕ
  body_calls bodies = before_calls ++ flat_map (λ b. called_in b.code) bodies

  abbrev data_calls : List ℕ
  data_calls = flat_map (λ s. called_in_offset s.mode) m.datas

  abbrev element_calls : List ℕ
  element_calls = flat_map called_in_element m.elems

  abbrev placed : List ℕ
  placed = flat_map (types_placed (func_indices m)) m.elems

  anywhere_covered : Covered (called_anywhere (cut_of m)) (called_anywhere m)
  anywhere_covered =
      covered_append (body_calls (map reachable_body m.codes) ++ data_calls) element_calls (body_calls m.codes ++ data_calls) element_calls
      (covered_append (body_calls (map reachable_body m.codes)) data_calls (body_calls m.codes) data_calls
      (covered_append before_calls (flat_map (λ b. called_in b.code) (map reachable_body m.codes)) before_calls (flat_map (λ b. called_in b.code) m.codes) (λ q e. e) (called_covered m.codes))
      (λ q e. e))
      (λ q e. e)

  used_covered : Covered (used_types (cut_of m)) (used_types m)
  used_covered =
      covered_filter_map (slice_get m.types) (used_indices (cut_of m)) (used_indices m)
      (covered_append (called_anywhere (cut_of m)) placed (called_anywhere m) placed anywhere_covered (λ q e. e))

  apart_still : Implies (are_told_apart m) (are_told_apart (cut_of m))
  apart_still =
      all_agree_covered (map lowered_and_own (used_types (cut_of m))) (map lowered_and_own (used_types m))
      (covered_map lowered_and_own (used_types (cut_of m)) (used_types m) used_covered)

  -- ---- the table

  table_still : Implies (keeps_table m) (keeps_table (cut_of m))
  table_still =
      let one : Bool = has_one_plain_table m in
      let free : Bool = not (anywhere uses_table m) in
      let free_still : Bool = not (anywhere uses_table (cut_of m)) in
      let hidden : Bool = not (list_any (λ e. exports_table e.desc) m.exports) in
      let plain : Bool = list_all (is_plain_element (known_globals m)) m.elems in
      and_implies (one && free && hidden && plain) (are_told_apart m) (one && free_still && hidden && plain) (are_told_apart (cut_of m))
      (and_implies (one && free && hidden) plain (one && free_still && hidden) plain
      (and_implies (one && free) hidden (one && free_still) hidden
      (and_implies one free one free_still (λ e. e) (not_implies (anywhere uses_table (cut_of m)) (anywhere uses_table m) (anywhere_less uses_table blind_table m)))
      (λ e. e)) (λ e. e)) apart_still

  pub moves_less : Implies (moves_tables (cut_of m)) (moves_tables m)
  moves_less =
      let some : Bool = not (nat_eq (table_count m) 0) in
      and_implies some (not (keeps_table (cut_of m))) some (not (keeps_table m)) (λ e. e) (not_implies (keeps_table m) (keeps_table (cut_of m)) table_still)

-- ---- features

-- locals stay
locals_same : (f : Feature) (bodies : List Body) → list_any (λ b. list_any (type_shows f) b.locals) (map reachable_body bodies) ≡ list_any (λ b. list_any (type_shows f) b.locals) bodies
locals_same f [] = refl
locals_same f (b ∷ bodies) = ap (λ x. list_any (type_shows f) b.locals || x) (locals_same f bodies)

module _ (m : Module) where
  declares_less : (f : Feature) → Implies (declares f (cut_of m)) (declares f m)
  declares_less f e =
      let types : Bool = list_any (func_type_shows f) m.types in
      let imported : Bool = list_any (λ i. global_import_shows f i.desc) m.imports in
      let globals : Bool = list_any (λ g. type_shows f g.ty) m.globals in
      ap (λ x. types || imported || globals || x) (sym (locals_same f m.codes)) ∙ e

  shown_less : (f : Feature) → Implies (anywhere (shows f) (cut_of m)) (anywhere (shows f) m)
  shown_less f = anywhere_less (shows f) (blind_feature f) m

  -- a feature that declarations, types of references and code show
  by_all : (f : Feature) → Implies (declares f (cut_of m) || holds f m || anywhere (shows f) (cut_of m)) (declares f m || holds f m || anywhere (shows f) m)
  by_all f =
      or_implies (declares f (cut_of m) || holds f m) (anywhere (shows f) (cut_of m)) (declares f m || holds f m) (anywhere (shows f) m)
      (or_implies (declares f (cut_of m)) (holds f m) (declares f m) (holds f m) (declares_less f) (λ e. e)) (shown_less f)

  pub has_less : (f : Feature) → Implies (has_of (cut_of m) f) (has_of m f)
  has_less features.Floats = by_all features.Floats
  has_less features.Sign = shown_less features.Sign
  has_less features.Multi =
      let several : Bool = list_any has_several_results m.types in
      or_implies several (anywhere (shows features.Multi) (cut_of m)) several (anywhere (shows features.Multi) m) (λ e. e) (shown_less features.Multi)
  has_less features.TypedSelect = shown_less features.TypedSelect
  has_less features.Simd = by_all features.Simd
  has_less features.LateLanes = shown_less features.LateLanes
  has_less features.Tail = shown_less features.Tail
  has_less features.Refs =
      or_implies (declares features.Refs (cut_of m)) (outside_elements (shows features.Refs) (cut_of m)) (declares features.Refs m) (outside_elements (shows features.Refs) m)
      (declares_less features.Refs) (outside_less (shows features.Refs) (blind_feature features.Refs) m)
  has_less features.Tables =
      or_implies (anywhere (shows features.Tables) (cut_of m)) (moves_tables (cut_of m)) (anywhere (shows features.Tables) m) (moves_tables m) (shown_less features.Tables) (moves_less m)
  has_less features.Exceptions =
      let f : Feature = features.Exceptions in
      let tags : Bool = not (nat_eq (length m.tags) 0) || imports_some is_tag m in
      or_implies (tags || declares f (cut_of m) || holds f m) (anywhere (shows f) (cut_of m)) (tags || declares f m || holds f m) (anywhere (shows f) m)
      (or_implies (tags || declares f (cut_of m)) (holds f m) (tags || declares f m) (holds f m)
      (or_implies tags (declares f (cut_of m)) tags (declares f m) (λ e. e) (declares_less f)) (λ e. e)) (shown_less f)
  has_less features.Bulk =
      let passive : Bool = list_any (λ s. is_passive s.mode) m.datas in
      or_implies passive (anywhere (shows features.Bulk) (cut_of m)) passive (anywhere (shows features.Bulk) m) (λ e. e) (shown_less features.Bulk)
  has_less f = λ e. e

-- ---- regions

any_from_implies : {A : Type 0} (f g : ℕ → A → Bool) → ((k : ℕ) (x : A) → Implies (f k x) (g k x)) → (k : ℕ) (xs : List A) → Implies (any_from f k xs) (any_from g k xs)
any_from_implies f g h k [] e = e
any_from_implies f g h k (x ∷ xs) e = or_implies (f k x) (any_from f (k + 1) xs) (g k x) (any_from g (k + 1) xs) (h k x) (any_from_implies f g h (k + 1) xs) e

module _ (m : Module) where
  abbrev several : Bool
  several = nat_le 2 (memory_count m)

  -- a region is needed for several memories, for copies, for tables and for offsets
  region_parts : (copies fewer : Bool) → Implies fewer copies → Implies (several || fewer || moves_tables (cut_of m) || has_computed_offset m) (several || copies || moves_tables m || has_computed_offset m)
  region_parts copies fewer h =
      or_implies (several || fewer || moves_tables (cut_of m)) (has_computed_offset m) (several || copies || moves_tables m) (has_computed_offset m)
      (or_implies (several || fewer) (moves_tables (cut_of m)) (several || copies) (moves_tables m)
      (or_implies several fewer several copies (λ e. e) h) (moves_less m)) (λ e. e)

  copies_less : Implies (copies_passive (cut_of m)) (copies_passive m)
  copies_less =
      let passive : Bool = list_any (λ s. is_passive s.mode) m.datas in
      and_implies passive (anywhere is_memory_init (cut_of m)) passive (anywhere is_memory_init m) (λ e. e) (anywhere_less is_memory_init blind_init m)

  pub region_less : Implies (needs_region (cut_of m)) (needs_region m)
  region_less = region_parts (copies_passive m) (copies_passive (cut_of m)) copies_less

  pub stage_region_less : Implies (needs_stage_region (cut_of m)) (needs_stage_region m)
  stage_region_less =
      region_parts (any_from (is_copied_data m) 0 m.datas) (any_from (is_copied_data (cut_of m)) 0 m.datas)
      (any_from_implies (is_copied_data (cut_of m)) (is_copied_data m)
      (λ k d. and_implies (is_passive d.mode) (anywhere (copies_data k) (cut_of m)) (is_passive d.mode) (anywhere (copies_data k) m) (λ e. e) (anywhere_less (copies_data k) (blind_segment k) m))
      0 m.datas)
