-- With the sizes at which a module begins, stages take no more pages than the profile counts.
use Rattle.std.proofs.Common.{◌≡◌, ℕ, ◌+◌, ◌*◌, ◌≤◌, Bool, true, false, cond, not, ◌&&◌, List, [], ◌∷◌, length, sum_by, refl, ap, le_refl, arith, le-leb, ltb-false}
use Rattle.std.proofs.lemmas.List.Sums.{sum_by-cons}
use Rattle.wasm_ast.specs.declared.module.ty.Limits.{Limits}
use Rattle.wasm_ast.specs.declared.module.parts.Mode.{Mode}
use Rattle.wasm_ast.specs.declared.module.parts.Mode.TheVariants.{Active, Passive, Declarative}
use Rattle.wasm_ast.specs.declared.module.parts.Module.{Module}
use Rattle.wasm_ast.specs.Fold.{known_globals}
use Rattle.wasm_ast.specs.Has.{is_passive}
use Rattle.wasm_ast.specs.Places.{anywhere}
use Rattle.wasm_ast.specs.Region.{moves_tables, has_known_offset, needs_region, pages_for_bytes, region_bytes, moved_count, fixed_pages, least_pages, has_too_many_pages}
use Rattle.wasm_ast.specs.Spaces.{memory_count}
use Rattle.pass_law.specs.Stages.{copies_data, copies_elements, sum_from, is_copied_data, is_copied_element, is_sealed, is_active, copied_bytes, placed_bytes, kept_pages, memory_limits, table_limits, memory_pages, table_pages, needs_stage_region, load, least_sizes, has_load}
use Rattle.stage_entry.specs.Entry.{CountsNoLess}
use Rattle.stage_entry.proofs.Regions.{needs_no_less}
use Rattle.stage_entry.proofs.Pages.{memories_counted, tables_counted, least_counted}

part : (b : Bool) (n : ℕ) → cond b n 0 ≤ n
part true n = le_refl n
part false n = omega arith

-- two parts of each item, summed apart
two_sums : {A : Type 0} (size : ℕ → A → ℕ) (other whole : A → ℕ) → ((k : ℕ) (x : A) → size k x + other x ≤ whole x) → (k : ℕ) (xs : List A) → sum_from size k xs + sum_by other xs ≤ sum_by whole xs
two_sums size other whole h k [] = le_refl 0
two_sums size other whole h k (x ∷ xs) = omega (arith, sum_by-cons other x xs, sum_by-cons whole x xs, h k x, two_sums size other whole h (k + 1) xs)

four : (b : Bool) → cond b 0 4 ≤ 4
four true = omega arith
four false = le_refl 4

kept_memories : (sealed : ℕ → Limits → Bool) (k : ℕ) (ls : List Limits) → sum_from (λ k limits. cond (sealed k limits) 0 4) k ls ≤ 4 * length ls
kept_memories sealed k [] = le_refl 0
kept_memories sealed k (l ∷ ls) = omega (arith, four (sealed k l), kept_memories sealed (k + 1) ls)

module _ (m : Module) where
  -- a segment that code copies is passive, and one that is placed is active
  data_once : (k n : ℕ) (mode : Mode) → cond (is_passive mode && anywhere (copies_data k) m) n 0 + cond (not (has_known_offset (known_globals m) mode)) n 0 ≤ n
  data_once k n (Active x offset) = omega (arith, part (not (has_known_offset (known_globals m) (Active x offset))) n)
  data_once k n Passive = omega (arith, part (anywhere (copies_data k) m) n)
  data_once k n Declarative = omega arith

  element_once : (k n : ℕ) (mode : Mode) → cond (is_passive mode && anywhere (copies_elements k) m) n 0 + cond (is_active mode) n 0 ≤ n
  element_once k n (Active x offset) = omega arith
  element_once k n Passive = omega (arith, part (anywhere (copies_elements k) m) n)
  element_once k n Declarative = omega arith

  abbrev data_bytes : ℕ
  data_bytes = sum_by (λ d. length d.bytes) m.datas

  abbrev entries : ℕ
  entries = sum_by (λ e. length e.items) m.elems

  abbrev active_entries : ℕ
  active_entries = sum_by (λ e. cond (is_active e.mode) (length e.items) 0) m.elems

  bytes_below : copied_bytes m + placed_bytes m ≤ data_bytes + 4 * entries
  bytes_below =
      omega (
        arith,
        two_sums (λ k d. cond (is_copied_data m k d) (length d.bytes) 0) (λ d. cond (not (has_known_offset (known_globals m) d.mode)) (length d.bytes) 0) (λ d. length d.bytes) (λ k d. data_once k (length d.bytes) d.mode) 0 m.datas,
        two_sums (λ k e. cond (is_copied_element m k e) (length e.items) 0) (λ e. cond (is_active e.mode) (length e.items) 0) (λ e. length e.items) (λ k e. element_once k (length e.items) e.mode) 0 m.elems,
        part (moves_tables m) active_entries,
      )

-- rounding up twice takes one page more at most
two_pages : (c p r : ℕ) → c + p ≤ r → pages_for_bytes c + pages_for_bytes p ≤ 1 + pages_for_bytes r
two_pages c p r h = omega arith

kept_below : (m : Module) → kept_pages m ≤ (4 * (memory_count m + moved_count m) + 1) + pages_for_bytes (region_bytes m)
kept_below m =
    let bytes : copied_bytes m + placed_bytes m ≤ region_bytes m = omega (arith, bytes_below m) in
    let memories : sum_from (λ k limits. cond (is_sealed m k limits) 0 4) 0 (memory_limits m) ≤ 4 * memory_count m = omega (arith, kept_memories (is_sealed m) 0 (memory_limits m), memories_counted m) in
    let tables : moved_count m ≡ cond (moves_tables m) (length (table_limits m)) 0 = ap (λ n. cond (moves_tables m) n 0) (tables_counted m) in
    let segments : pages_for_bytes (copied_bytes m) + pages_for_bytes (placed_bytes m) ≤ 1 + pages_for_bytes (region_bytes m) = two_pages (copied_bytes m) (placed_bytes m) (region_bytes m) bytes in
    omega (arith, memories, tables, segments)

-- without a stage region only the memories count
with_region : (stage needed : Bool) → (stage ≡ true → needed ≡ true) → (memories tables kept fixed least : ℕ) → memories + tables ≡ least → kept ≤ fixed → memories + cond stage (tables + kept) 0 ≤ cond needed fixed 0 + least
with_region true true h memories tables kept fixed least e g = omega arith
with_region true false h memories tables kept fixed least e g = let wrong : false ≡ true = h refl in absurd cc
with_region false needed h memories tables kept fixed least e g = omega arith

pub counts_no_less : CountsNoLess
counts_no_less m =
    with_region (needs_stage_region m) (needs_region m) (needs_no_less m) (memory_pages m (least_sizes m)) (table_pages m (least_sizes m)) (kept_pages m)
    ((4 * (memory_count m + moved_count m) + 1) + pages_for_bytes (region_bytes m)) (least_pages m) (least_counted m) (kept_below m)

-- so where the profile finds few enough pages, there is room
pub room_to_begin : (m : Module) → has_too_many_pages m ≡ false → has_load m (least_sizes m) ≡ true
room_to_begin m h =
    let few : fixed_pages m + least_pages m ≤ 65536 = ltb-false 65536 (fixed_pages m + least_pages m) h in
    let fits : load m (least_sizes m) ≤ 65536 = omega (arith, few, counts_no_less m) in
    le-leb (load m (least_sizes m)) 65536 fits
