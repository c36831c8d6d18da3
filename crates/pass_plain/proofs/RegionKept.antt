-- A module without constant expressions that compute keeps the table that was kept, needs no region where none was needed,
-- and has room where there was room.
use Rattle.std.proofs.Common.{◌≡◌, ℕ, ◌+◌, Bool, true, false, not, cond, ◌||◌, ◌&&◌, List, [], ◌∷◌, map, length, Option, Some, None, refl, sym, ap, ◌∙◌}
use Rattle.std.specs.Prelude.{nat_eq, nat_le, is_some, sum, take}
use Rattle.std.specs.List.{list_any, list_all}
use Rattle.wasm_ast.specs.Features.{shows}
use Rattle.wasm_ast.specs.Fold.{fold_of, known_globals}
use Rattle.wasm_ast.specs.Has.{has_of, is_passive}
use Rattle.wasm_ast.specs.Kept.{has_one_plain_table, uses_table, exports_table, is_plain_offset, entry_func, fits_mode, is_plain_element, all_agree, lowered_and_own, used_types, are_told_apart, keeps_table}
use Rattle.wasm_ast.specs.Places.{anywhere}
use Rattle.wasm_ast.specs.Region.{is_known_offset, has_known_offset, has_computed_offset, moves_tables}
use Rattle.wasm_ast.specs.Spaces.{is_global, imported, table_count, memory_count}
use Rattle.wasm_ast.specs.declared.features.kind.Feature.TheVariants as features
use Rattle.wasm_ast.specs.declared.folding.folded.Folded.{Folded}
use Rattle.wasm_ast.specs.declared.module.code.Instr.{Instr}
use Rattle.wasm_ast.specs.declared.module.parts.Element.{Element}
use Rattle.wasm_ast.specs.declared.module.parts.Mode.{Mode}
use Rattle.wasm_ast.specs.declared.module.parts.Mode.TheVariants.{Active, Passive, Declarative}
use Rattle.wasm_ast.specs.declared.module.parts.Module.{Module}
use Rattle.wasm_ast.specs.declared.module.parts.Segment.{Segment}
use Rattle.pass_law.specs.Stages.{copies_data, is_copied_data, any_from, needs_stage_region, least_sizes, memory_pages, table_pages, kept_pages, load, has_load}
use Rattle.pass_law.specs.ThenLawful.{and_left, and_right, both}
use Rattle.pass_plain.specs.Folding.{folded_code, folded_mode, folded_elem, folded_data, setting_code, started, without_constants}
use Rattle.pass_plain.proofs.FewerFeatures.{passive_same}
use Rattle.pass_plain.proofs.KnownAgain.{AreAnchored, AreKnown, fold_anchored, folds_again}
use Rattle.pass_plain.proofs.NothingNew.{OverlooksNew, none_of, both_none, nowhere_new, overlooks_new}
use Rattle.pass_plain.proofs.Stages.{not_true}

-- tests that overlook the new instructions
copies_overlooks : (k : ℕ) → OverlooksNew (copies_data k)
copies_overlooks k = record { narrow = λ n. refl; wide = λ n. refl; get = λ x. refl; set = λ x. refl; call = λ x. refl }

uses_overlooks : OverlooksNew uses_table
uses_overlooks = record { narrow = λ n. refl; wide = λ n. refl; get = λ x. refl; set = λ x. refl; call = λ x. refl }

-- truth by cases
true_not : (b : Bool) → b ≡ false → not b ≡ true
true_not true e = let no : ⊥ = cc in absurd no
true_not false e = refl

pub false_not : (b : Bool) → not b ≡ false → b ≡ true
false_not true e = refl
false_not false e = let no : ⊥ = cc in absurd no

not_false : (b : Bool) → b ≡ true → not b ≡ false
not_false true e = refl
not_false false e = let no : ⊥ = cc in absurd no

and_less : (a b b' : Bool) → (b ≡ false → b' ≡ false) → (a && b) ≡ false → (a && b') ≡ false
and_less true b b' f e = f e
and_less false b b' f e = refl

pub and_false : (a b : Bool) → b ≡ false → (a && b) ≡ false
and_false true b e = e
and_false false b e = refl

either_or : (a b b' : Bool) → (b ≡ true → b' ≡ true) → (a || b) ≡ true → (a || b') ≡ true
either_or true b b' f e = refl
either_or false b b' f e = f e

module _ (known others : List (Option Folded)) (anchored : AreAnchored known) (still : AreKnown known others) where
  -- an offset of which a test passes that asks for something to fold to
  module _ (p : Option Folded → Bool) (asks : p None ≡ false) where
    offset_still : (offset : List Instr) → p (fold_of known offset) ≡ true → p (fold_of others (folded_code offset (fold_of known offset))) ≡ true
    offset_still offset h = by (fold_of known offset) refl h
      where
        by : (o : Option Folded) → fold_of known offset ≡ o → p o ≡ true → p (fold_of others (folded_code offset o)) ≡ true
        by None e f = let no : false ≡ true = sym asks ∙ f in absurd cc
        by (Some v) e f = ap p (folds_again known anchored others still v (fold_anchored known anchored offset v e)) ∙ f

  -- active segments of the table that is kept
  mode_plain : (items : List (List Instr)) (mode : Mode) → fits_mode known items mode ≡ true → fits_mode others items (folded_mode known mode) ≡ true
  mode_plain items (Active x offset) h =
      let entries = list_all (λ e. is_some (entry_func e)) items in
      let old = is_plain_offset (fold_of known offset) in
      let new = is_plain_offset (fold_of others (folded_code offset (fold_of known offset))) in
      either_or (not (nat_eq x 0)) (old && entries) (new && entries) (λ e. both new entries (offset_still is_plain_offset refl offset (and_left old entries e)) (and_right old entries e)) h
  mode_plain items Passive h = refl
  mode_plain items Declarative h = refl

  elems_plain : (es : List Element) → list_all (is_plain_element known) es ≡ true → list_all (is_plain_element others) (map (folded_elem known) es) ≡ true
  elems_plain [] h = refl
  elems_plain (e ∷ es) h =
      both (is_plain_element others (folded_elem known e)) (list_all (is_plain_element others) (map (folded_elem known) es))
      (mode_plain e.items e.mode (and_left (is_plain_element known e) (list_all (is_plain_element known) es) h)) (elems_plain es (and_right (is_plain_element known e) (list_all (is_plain_element known) es) h))

  -- offsets of data segments
  mode_known : (mode : Mode) → has_known_offset known mode ≡ true → has_known_offset others (folded_mode known mode) ≡ true
  mode_known (Active x offset) h = offset_still is_known_offset refl offset h
  mode_known Passive h = refl
  mode_known Declarative h = refl

  datas_known : (ds : List Segment) → list_any (λ s. not (has_known_offset known s.mode)) ds ≡ false → list_any (λ s. not (has_known_offset others s.mode)) (map (folded_data known) ds) ≡ false
  datas_known [] h = refl
  datas_known (d ∷ ds) h =
      let all = none_of (not (has_known_offset known d.mode)) (list_any (λ s. not (has_known_offset known s.mode)) ds) h in
      both_none (not (has_known_offset others (folded_mode known d.mode))) (list_any (λ s. not (has_known_offset others s.mode)) (map (folded_data known) ds))
      (not_false (has_known_offset others (folded_mode known d.mode)) (mode_known d.mode (false_not (has_known_offset known d.mode) all.0))) (datas_known ds all.1)

-- the parts of the output o for which these ask
record PartsOf (m o : Module) : Type 0 where
  elems : o.elems ≡ map (folded_elem (known_globals m)) m.elems
  datas : o.datas ≡ map (folded_data (known_globals m)) m.datas
  plain : has_one_plain_table o ≡ has_one_plain_table m
  exported : list_any (λ e. exports_table e.desc) o.exports ≡ list_any (λ e. exports_table e.desc) m.exports
  tables : table_count o ≡ table_count m
  memories : memory_count o ≡ memory_count m

parts_of : (m : Module) (code : List Instr) → PartsOf m (started m code)
parts_of m [] = record { elems = refl; datas = refl; plain = refl; exported = refl; tables = refl; memories = refl }
parts_of m (i ∷ code) = record { elems = refl; datas = refl; plain = refl; exported = refl; tables = refl; memories = refl }

module _ (m : Module) (still : AreKnown (known_globals m) (known_globals (without_constants m))) (anchored : AreAnchored (known_globals m)) (used : used_types (without_constants m) ≡ used_types m) where
  abbrev o : Module
  o = without_constants m

  -- passive segments from which code copies
  copied_still : (k : ℕ) (d : Segment) → is_copied_data m k d ≡ false → is_copied_data o k (folded_data (known_globals m) d) ≡ false
  copied_still k d e =
      ap (λ b. b && anywhere (copies_data k) o) (passive_same (known_globals m) d.mode)
      ∙ and_less (is_passive d.mode) (anywhere (copies_data k) m) (anywhere (copies_data k) o) (nowhere_new (copies_data k) (copies_overlooks k) m) e

  any_copied : (k : ℕ) (ds : List Segment) → any_from (is_copied_data m) k ds ≡ false → any_from (is_copied_data o) k (map (folded_data (known_globals m)) ds) ≡ false
  any_copied k [] e = refl
  any_copied k (d ∷ ds) e =
      let all = none_of (is_copied_data m k d) (any_from (is_copied_data m) (k + 1) ds) e in
      both_none (is_copied_data o k (folded_data (known_globals m) d)) (any_from (is_copied_data o) (k + 1) (map (folded_data (known_globals m)) ds)) (copied_still k d all.0) (any_copied (k + 1) ds all.1)

  abbrev parts : PartsOf m o
  parts = parts_of m (setting_code m)

  -- the table
  told_same : are_told_apart o ≡ are_told_apart m
  told_same = ap (λ l. all_agree (map lowered_and_own l)) used

  pub table_stays : keeps_table m ≡ true → keeps_table o ≡ true
  table_stays h =
      let a = has_one_plain_table m in
      let b = not (anywhere uses_table m) in
      let c = not (list_any (λ e. exports_table e.desc) m.exports) in
      let d = list_all (is_plain_element (known_globals m)) m.elems in
      let four = and_left (a && b && c && d) (are_told_apart m) h in
      let three = and_left (a && b && c) d four in
      let two = and_left (a && b) c three in
      let b' = not (anywhere uses_table o) in
      let c' = not (list_any (λ e. exports_table e.desc) o.exports) in
      let d' = list_all (is_plain_element (known_globals o)) o.elems in
      both (has_one_plain_table o && b' && c' && d') (are_told_apart o)
      (both (has_one_plain_table o && b' && c') d'
      (both (has_one_plain_table o && b') c'
      (both (has_one_plain_table o) b' (parts.plain ∙ and_left a b two)
      (true_not (anywhere uses_table o) (nowhere_new uses_table uses_overlooks m (not_true (anywhere uses_table m) (and_right a b two)))))
      (ap not parts.exported ∙ and_right (a && b) c three))
      (ap (λ (l : List Element). list_all (is_plain_element (known_globals o)) l) parts.elems ∙ elems_plain (known_globals m) (known_globals o) anchored still m.elems (and_right (a && b && c) d four)))
      (told_same ∙ and_right (a && b && c && d) (are_told_apart m) h)

  moves_still : moves_tables m ≡ false → moves_tables o ≡ false
  moves_still e =
      ap (λ n. not (nat_eq n 0) && not (keeps_table o)) parts.tables
      ∙ and_less (not (nat_eq (table_count m) 0)) (not (keeps_table m)) (not (keeps_table o)) (λ f. not_false (keeps_table o) (table_stays (false_not (keeps_table m) f))) e

  -- a feature of what uses tables
  pub no_tables : has_of m features.Tables ≡ false → has_of o features.Tables ≡ false
  no_tables e =
      let all = none_of (anywhere (shows features.Tables) m) (moves_tables m) e in
      both_none (anywhere (shows features.Tables) o) (moves_tables o) (nowhere_new (shows features.Tables) (overlooks_new features.Tables) m all.0) (moves_still all.1)

  computed_still : has_computed_offset m ≡ false → has_computed_offset o ≡ false
  computed_still e = ap (λ (l : List Segment). list_any (λ s. not (has_known_offset (known_globals o) s.mode)) l) parts.datas ∙ datas_known (known_globals m) (known_globals o) anchored still m.datas e

  -- no region
  pub no_region : needs_stage_region m ≡ false → needs_stage_region o ≡ false
  no_region e =
      let a = nat_le 2 (memory_count m) in
      let b = any_from (is_copied_data m) 0 m.datas in
      let three = none_of (a || b || moves_tables m) (has_computed_offset m) e in
      let two = none_of (a || b) (moves_tables m) three.0 in
      let one = none_of a b two.0 in
      let a' = nat_le 2 (memory_count o) in
      let b' = any_from (is_copied_data o) 0 o.datas in
      both_none (a' || b' || moves_tables o) (has_computed_offset o)
      (both_none (a' || b') (moves_tables o)
      (both_none a' b' (ap (λ n. nat_le 2 n) parts.memories ∙ one.0) (ap (λ (l : List Segment). any_from (is_copied_data o) 0 l) parts.datas ∙ any_copied 0 m.datas one.1))
      (moves_still two.1)) (computed_still three.1)

  -- the pages of a module without one
  alone : (q : Module) (sizes : List ℕ) → needs_stage_region q ≡ false → load q sizes ≡ memory_pages q sizes + 0
  alone q sizes e = ap (λ b. memory_pages q sizes + cond b (table_pages q sizes + kept_pages q) 0) e

  pub same_load : needs_stage_region m ≡ false → (sizes : List ℕ) → has_load o sizes ≡ has_load m sizes
  same_load e sizes = ap (λ n. nat_le n 65536) (alone o sizes (no_region e) ∙ pages ∙ sym (alone m sizes e))
    where
      pages : memory_pages o sizes + 0 ≡ memory_pages m sizes + 0
      pages = ap (λ n. sum (take n sizes) + 0) parts.memories
