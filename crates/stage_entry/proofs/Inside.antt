-- A module without the code that cannot be reached lies in the profile if the module does, and hosts link both alike.
use Rattle.std.proofs.Common.{◌≡◌, ℕ, ◌+◌, ◌*◌, ◌<◌, ◌≤◌, Bool, true, false, cond, ◌&&◌, List, [], ◌∷◌, map, find, Option, Some, None, option_map, refl, sym, ap, subst, ◌∙◌, arith, le_refl}
use Rattle.std.specs.List.{sum_by}
use Rattle.std.specs.Prelude.{drop}
use Rattle.std.specs.Option.{option_or}
use Rattle.std.proofs.lemmas.Bool.{ltb-true, lt-ltb}
use Rattle.std.proofs.lemmas.List.{length-map}
use Rattle.wasm_ast.specs.declared.module.code.Body.{Body}
use Rattle.wasm_ast.specs.declared.module.parts.Module.{Module}
use Rattle.wasm_ast.specs.declared.outside.obstacle.Obstacle.{Obstacle}
use Rattle.wasm_ast.specs.declared.outside.obstacle.Obstacle.TheVariants as obstacles
use Rattle.wasm_ast.specs.Has.{has_of}
use Rattle.wasm_ast.specs.Outside.{outside_features, first_feature, first_reserved, exports_memory, outside_by_size, outside}
use Rattle.wasm_ast.specs.Region.{moves_tables, needs_region, pages_for_bytes, pages_for_entries, region_bytes, moved_count, fixed_pages, least_pages, has_too_many_pages}
use Rattle.wasm_ast.specs.Spaces.{table_count, memory_count}
use Rattle.typed_trees.specs.declared.module.TypedFn.{TypedFn}
use Rattle.typed_trees.specs.Typed.{body_of, module_of}
use Rattle.valid_mod.specs.Standing.{reachable_body, StandsFor}
use Rattle.pass_law.specs.Stages.{least_sizes}
use Rattle.stage_entry.specs.Cut.{pages, HasNoMore, LinkedAlike, CutHasNoMore, CutLiesInProfile, CutIsLinkedAlike}
use Rattle.stage_entry.proofs.Wider.{Implies}
use Rattle.stage_entry.proofs.Covering.{and_implies}
use Rattle.stage_entry.proofs.Pages.{least_counted}
use Rattle.stage_entry.proofs.Entry.{or_none, some_if, implied_false}
use Rattle.stage_entry.proofs.Cut.{cut_of, moves_less, has_less, region_less, stage_region_less}

-- ---- pages

more_if : (b c : Bool) → Implies b c → (x y : ℕ) → x ≤ y → cond b x 0 ≤ cond c y 0
more_if true true h x y le = le
more_if true false h x y le = let no : false ≡ true = h refl in absurd cc
more_if false c h x y le = omega arith

module _ (m : Module) where
  moved_less : moved_count (cut_of m) ≤ moved_count m
  moved_less = more_if (moves_tables (cut_of m)) (moves_tables m) (moves_less m) (table_count m) (table_count m) (le_refl (table_count m))

  fixed_less : fixed_pages (cut_of m) ≤ fixed_pages m
  fixed_less =
      let bytes : ℕ = pages_for_bytes (region_bytes m) in
      let here : (4 * (memory_count m + moved_count (cut_of m)) + 1) + bytes ≤ (4 * (memory_count m + moved_count m) + 1) + bytes = omega (arith, moved_less) in
      more_if (needs_region (cut_of m)) (needs_region m) (region_less m)
      ((4 * (memory_count m + moved_count (cut_of m)) + 1) + bytes) ((4 * (memory_count m + moved_count m) + 1) + bytes) here

  sized_less : (sizes : List ℕ) → pages (cut_of m) sizes ≤ pages m sizes
  sized_less sizes =
      let entries : ℕ = sum_by pages_for_entries (drop (memory_count m) sizes) in
      omega (arith, more_if (moves_tables (cut_of m)) (moves_tables m) (moves_less m) entries entries (le_refl entries))

  least_less : least_pages (cut_of m) ≤ least_pages m
  least_less = omega (arith, least_counted (cut_of m), least_counted m, sized_less (least_sizes m))

  many_less : Implies (has_too_many_pages (cut_of m)) (has_too_many_pages m)
  many_less e =
      let above : 65536 < fixed_pages m + least_pages m = omega (arith, fixed_less, least_less, ltb-true 65536 (fixed_pages (cut_of m) + least_pages (cut_of m)) e) in
      lt-ltb 65536 (fixed_pages m + least_pages m) above

-- ---- the profile's list

none_if : {A : Type 0} (b c : Bool) (x : A) → Implies b c → cond c (Some x) None ≡ None → cond b (Some x) None ≡ None
none_if b c x h e = ap (λ s. cond s (Some x) None) (implied_false b c h (some_if c x e))

neither : {A : Type 0} (a b : Option A) → a ≡ None → b ≡ None → option_or a b ≡ None
neither None b e f = f
neither (Some x) b e f = absurd cc

-- what finds nothing, and what passes less
found_less : {A : Type 0} (b c : Bool) (x : A) (less more : Option A) → Implies b c → (more ≡ None → less ≡ None) → cond c (Some x) more ≡ None → cond b (Some x) less ≡ None
found_less true true x less more h f e = absurd cc
found_less true false x less more h f e = let no : false ≡ true = h refl in absurd cc
found_less false true x less more h f e = absurd cc
found_less false false x less more h f e = f e

find_less : {A : Type 0} (p q : A → Bool) → ((x : A) → Implies (p x) (q x)) → (xs : List A) → find q xs ≡ None → find p xs ≡ None
find_less p q h [] e = refl
find_less p q h (x ∷ xs) e = found_less (p x) (q x) x (find p xs) (find q xs) (h x) (find_less p q h xs) e

mapped_none : {A B : Type 0} (f : A → B) (o o' : Option A) → (o ≡ None → o' ≡ None) → option_map f o ≡ None → option_map f o' ≡ None
mapped_none f None o' h e = ap (option_map f) (h refl)
mapped_none f (Some x) o' h e = absurd cc

module _ (m : Module) where
  sizes_less : outside_by_size m ≡ None → outside_by_size (cut_of m) ≡ None
  sizes_less e =
      let moved : Option Obstacle = cond (exports_memory m && needs_region m) (Some obstacles.MemoryMoved) None in
      let many : Option Obstacle = cond (has_too_many_pages m) (Some obstacles.TooManyPages) None in
      let moved_cut : Option Obstacle = cond (exports_memory m && needs_region (cut_of m)) (Some obstacles.MemoryMoved) None in
      let many_cut : Option Obstacle = cond (has_too_many_pages (cut_of m)) (Some obstacles.TooManyPages) None in
      let both : (moved ≡ None) × (many ≡ None) = or_none moved many e in
      neither moved_cut many_cut
      (none_if (exports_memory m && needs_region (cut_of m)) (exports_memory m && needs_region m) obstacles.MemoryMoved
      (and_implies (exports_memory m) (needs_region (cut_of m)) (exports_memory m) (needs_region m) (λ f. f) (region_less m)) both.0)
      (none_if (has_too_many_pages (cut_of m)) (has_too_many_pages m) obstacles.TooManyPages (many_less m) both.1)

  outside_less : outside m ≡ None → outside (cut_of m) ≡ None
  outside_less e =
      let shown : Option Obstacle = option_map obstacles.Feature (first_feature outside_features m) in
      let shown_cut : Option Obstacle = option_map obstacles.Feature (first_feature outside_features (cut_of m)) in
      let named : Option Obstacle = option_map obstacles.ReservedName (first_reserved m.exports) in
      let features : (shown ≡ None) × (option_or named (outside_by_size m) ≡ None) = or_none shown (option_or named (outside_by_size m)) e in
      let names : (named ≡ None) × (outside_by_size m ≡ None) = or_none named (outside_by_size m) features.1 in
      neither shown_cut (option_or named (outside_by_size (cut_of m)))
      (mapped_none obstacles.Feature (first_feature outside_features m) (first_feature outside_features (cut_of m)) (find_less (has_of (cut_of m)) (has_of m) (has_less m) outside_features) features.0)
      (neither named (outside_by_size (cut_of m)) names.0 (sizes_less names.1))

  no_more : HasNoMore (cut_of m) m
  no_more = record {
    has = has_less m;
    region = region_less m;
    stage_region = stage_region_less m;
    tables = moves_less m;
    computed_exports = refl;
    fixed = fixed_less m;
    pages = λ sizes. omega (arith, fixed_less m, sized_less m sizes);
  }

  linked : LinkedAlike m (cut_of m)
  linked = record { interface = refl; part = refl; funcs = refl; bodies = length-map m.codes reachable_body }

-- ---- what stands for the module is that module

module _ (m : Module) (tree : Module × List TypedFn) (s : StandsFor m tree) where
  module_is : module_of tree ≡ cut_of m
  module_is =
      ap (λ (part : Module). let r : Module = record part { codes = map body_of tree.1 } in r) s.part
      ∙ ap (λ (bodies : List Body). let r : Module = record m { codes = bodies } in r) s.bodies

-- The lemmas.
pub cut_has_no_more : CutHasNoMore
cut_has_no_more m tree s = subst (λ o. HasNoMore o m) (sym (module_is m tree s)) (no_more m)

pub cut_lies_in_profile : CutLiesInProfile
cut_lies_in_profile m tree s e = ap outside (module_is m tree s) ∙ outside_less m e

pub cut_is_linked_alike : CutIsLinkedAlike
cut_is_linked_alike m tree s = subst (LinkedAlike m) (sym (module_is m tree s)) (linked m)
