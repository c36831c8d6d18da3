-- The pages of the memories and the moved tables with which a module begins, counted by index space, are those that the
-- profile counts import by import.
use Rattle.std.proofs.Common.{◌≡◌, ℕ, ◌+◌, Bool, true, false, cond, List, [], ◌∷◌, ◌++◌, map, length, take, drop, sum, sum_by, count_by, filter_map, length-append, refl, sym, ap, ◌∙◌, arith}
use Rattle.std.specs.List.{cons_option}
use Rattle.std.proofs.Math.Seq.{take-append_seam, drop-append_seam}
use Rattle.std.proofs.lemmas.List.{length-map, map-append}
use Rattle.std.proofs.lemmas.List.Recursion.{is_count_by}
use Rattle.std.proofs.lemmas.List.Sums.{sum_by-cons, sum_by-append, sum-map}
use Rattle.wasm_ast.specs.declared.module.ty.Limits.{Limits}
use Rattle.wasm_ast.specs.declared.module.parts.Import.{Import}
use Rattle.wasm_ast.specs.declared.module.parts.ImportDesc.{ImportDesc}
use Rattle.wasm_ast.specs.declared.module.parts.ImportDesc.TheVariants as imports
use Rattle.wasm_ast.specs.declared.module.parts.Table.{Table}
use Rattle.wasm_ast.specs.declared.module.parts.Module.{Module}
use Rattle.wasm_ast.specs.Region as region
use Rattle.wasm_ast.specs.Region.{moves_tables, pages_for_entries, import_pages, least_pages}
use Rattle.wasm_ast.specs.Spaces.{is_memory, is_table, memory_count, table_count}
use Rattle.pass_law.specs.Stages.{memory_import, table_import, memory_limits, table_limits, memory_pages, table_pages, least_sizes}

-- least sizes
abbrev minima : List Limits → List ℕ
minima ls = map (λ l. l.min) ls

-- the pages of tables of such sizes, if tables are moved
abbrev moved_pages : Bool → List ℕ → ℕ
moved_pages moved sizes = cond moved (sum_by pages_for_entries sizes) 0

abbrev imported_memories : List Import → List Limits
imported_memories is = filter_map (λ i. memory_import i.desc) is

abbrev imported_tables : List Import → List Limits
imported_tables is = filter_map (λ i. table_import i.desc) is

abbrev own_tables : List Table → List Limits
own_tables ts = map (λ t. t.limits) ts

-- ---- how many there are

memory_step : (d : ImportDesc) (ls : List Limits) → length (cons_option (memory_import d) ls) ≡ cond (is_memory d) (1 + length ls) (length ls)
memory_step (imports.Memory l) ls = omega arith
memory_step _ ls = refl

table_step : (d : ImportDesc) (ls : List Limits) → length (cons_option (table_import d) ls) ≡ cond (is_table d) (1 + length ls) (length ls)
table_step (imports.Table t l) ls = omega arith
table_step _ ls = refl

pub memories_counted : (m : Module) → memory_count m ≡ length (memory_limits m)
memories_counted m =
    let imported : length (imported_memories m.imports) ≡ count_by (λ i. is_memory i.desc) m.imports =
    is_count_by (λ is. length (imported_memories is)) (λ i. is_memory i.desc) refl (λ i is. memory_step i.desc (imported_memories is)) m.imports in
    ap (λ n. n + length m.memories) (sym imported) ∙ sym (length-append (imported_memories m.imports) m.memories)

pub tables_counted : (m : Module) → table_count m ≡ length (table_limits m)
tables_counted m =
    let imported : length (imported_tables m.imports) ≡ count_by (λ i. is_table i.desc) m.imports =
    is_count_by (λ is. length (imported_tables is)) (λ i. is_table i.desc) refl (λ i is. table_step i.desc (imported_tables is)) m.imports in
    ap (λ n. n + length m.tables) (sym imported)
    ∙ ap (λ n. length (imported_tables m.imports) + n) (sym (length-map m.tables (λ t. t.limits)))
    ∙ sym (length-append (imported_tables m.imports) (own_tables m.tables))

-- ---- how many pages they have

moved-append : (moved : Bool) (xs ys : List ℕ) → moved_pages moved (xs ++ ys) ≡ moved_pages moved xs + moved_pages moved ys
moved-append true xs ys = sum_by-append pages_for_entries xs ys
moved-append false xs ys = refl

-- an import has the pages of a memory or of a moved table
import_step : (moved : Bool) (d : ImportDesc) (ls ts : List Limits) → import_pages moved d + (sum (minima ls) + moved_pages moved (minima ts)) ≡ sum (minima (cons_option (memory_import d) ls)) + moved_pages moved (minima (cons_option (table_import d) ts))
import_step moved (imports.Memory l) ls ts = omega (arith, sum_by-cons (λ n. n) l.min (minima ls))
import_step true (imports.Table t l) ls ts = omega (arith, sum_by-cons pages_for_entries l.min (minima ts))
import_step false (imports.Table t l) ls ts = omega arith
import_step moved _ ls ts = omega arith

imports_pages : (moved : Bool) (is : List Import) → sum_by (λ i. import_pages moved i.desc) is ≡ sum (minima (imported_memories is)) + moved_pages moved (minima (imported_tables is))
imports_pages true [] = refl
imports_pages false [] = refl
imports_pages moved (i ∷ is) =
    sum_by-cons (λ i. import_pages moved i.desc) i is
    ∙ ap (λ n. import_pages moved i.desc + n) (imports_pages moved is)
    ∙ import_step moved i.desc (imported_memories is) (imported_tables is)

tables_pages : (moved : Bool) (ts : List Table) → sum_by (λ t. region.table_pages moved t.limits) ts ≡ moved_pages moved (minima (own_tables ts))
tables_pages true [] = refl
tables_pages false [] = refl
tables_pages true (t ∷ ts) =
    sum_by-cons (λ t. region.table_pages true t.limits) t ts
    ∙ ap (λ n. pages_for_entries t.limits.min + n) (tables_pages true ts)
    ∙ sym (sum_by-cons pages_for_entries t.limits.min (minima (own_tables ts)))
tables_pages false (t ∷ ts) = sum_by-cons (λ t. region.table_pages false t.limits) t ts ∙ ap (λ n. 0 + n) (tables_pages false ts)

module _ (m : Module) where
  abbrev memory_sizes : List ℕ
  memory_sizes = minima (memory_limits m)

  abbrev table_sizes : List ℕ
  table_sizes = minima (table_limits m)

  sizes_apart : least_sizes m ≡ memory_sizes ++ table_sizes
  sizes_apart = map-append (λ l. l.min) (memory_limits m) (table_limits m)

  place : memory_count m ≡ length memory_sizes
  place = memories_counted m ∙ sym (length-map (memory_limits m) (λ l. l.min))

  -- memories stand in front of tables among the least sizes
  memories_first : memory_pages m (least_sizes m) ≡ sum memory_sizes
  memories_first =
      ap (λ n. sum (take n (least_sizes m))) place ∙ ap (λ l. sum (take (length memory_sizes) l)) sizes_apart ∙ ap sum (take-append_seam memory_sizes table_sizes)

  tables_behind : table_pages m (least_sizes m) ≡ moved_pages (moves_tables m) table_sizes
  tables_behind =
      ap (λ n. moved_pages (moves_tables m) (drop n (least_sizes m))) place
      ∙ ap (λ l. moved_pages (moves_tables m) (drop (length memory_sizes) l)) sizes_apart
      ∙ ap (moved_pages (moves_tables m)) (drop-append_seam memory_sizes table_sizes)

  memory_sum : sum memory_sizes ≡ sum (minima (imported_memories m.imports)) + sum_by (λ l. l.min) m.memories
  memory_sum =
      ap sum (map-append (λ l. l.min) (imported_memories m.imports) m.memories)
      ∙ sum_by-append (λ n. n) (minima (imported_memories m.imports)) (minima m.memories)
      ∙ ap (λ n. sum (minima (imported_memories m.imports)) + n) (sum-map (λ l. l.min) m.memories)

  table_sum : moved_pages (moves_tables m) table_sizes ≡ moved_pages (moves_tables m) (minima (imported_tables m.imports)) + sum_by (λ t. region.table_pages (moves_tables m) t.limits) m.tables
  table_sum =
      ap (moved_pages (moves_tables m)) (map-append (λ l. l.min) (imported_tables m.imports) (own_tables m.tables))
      ∙ moved-append (moves_tables m) (minima (imported_tables m.imports)) (minima (own_tables m.tables))
      ∙ ap (λ n. moved_pages (moves_tables m) (minima (imported_tables m.imports)) + n) (sym (tables_pages (moves_tables m) m.tables))

  pub least_counted : memory_pages m (least_sizes m) + table_pages m (least_sizes m) ≡ least_pages m
  least_counted = omega (arith, memories_first, tables_behind, memory_sum, table_sum, imports_pages (moves_tables m) m.imports)
