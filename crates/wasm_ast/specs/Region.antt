-- When a lowered module keeps tables and memories in one memory of its own, the region, and how many pages it takes.
use Rattle.std.specs.Prelude.{ℕ, ◌+◌, ◌*◌, ◌/◌, Bool, true, false, not, ◌||◌, ◌&&◌, cond, List, length, min, nat_eq, nat_lt, nat_le, Option, Some, None}
use Rattle.std.specs.List.{list_any, sum_by}
use Rattle.wasm_ast.specs.declared.module.ty.Limits.{Limits}
use Rattle.wasm_ast.specs.declared.module.parts.ImportDesc.{ImportDesc}
use Rattle.wasm_ast.specs.declared.module.parts.ImportDesc.TheVariants as imports
use Rattle.wasm_ast.specs.declared.module.parts.Mode.{Mode}
use Rattle.wasm_ast.specs.declared.module.parts.Mode.TheVariants.{Active}
use Rattle.wasm_ast.specs.declared.module.parts.Module.{Module}
use Rattle.wasm_ast.specs.declared.folding.folded.Folded.{Folded}
use Rattle.wasm_ast.specs.declared.folding.folded.Folded.TheVariants.{I32, I64, Imported}
use Rattle.wasm_ast.specs.Facts.{is_memory_init}
use Rattle.wasm_ast.specs.Places.{anywhere}
use Rattle.wasm_ast.specs.Spaces.{func_count, table_count, memory_count}
use Rattle.wasm_ast.specs.Fold.{fold_of, known_globals}
use Rattle.wasm_ast.specs.Kept.{is_i32, keeps_table}
use Rattle.wasm_ast.specs.Has.{is_passive}

-- each table is moved into memory, but for one that is kept
abbrev pub moves_tables : Module → Bool
moves_tables m = not (nat_eq (table_count m) 0) && not (keeps_table m)

-- an offset that folds to a constant or to an imported i32 global
abbrev pub is_known_offset : Option Folded → Bool
is_known_offset (Some (I32 n)) = true
is_known_offset (Some (I64 n)) = true
is_known_offset (Some (Imported j t)) = is_i32 t
is_known_offset None = false

abbrev pub has_known_offset : List (Option Folded) → Mode → Bool
has_known_offset known (Active x offset) = is_known_offset (fold_of known offset)
has_known_offset known _ = true

-- a passive data segment, and an instruction that copies from one
abbrev pub copies_passive : Module → Bool
copies_passive m = list_any (λ s. is_passive s.mode) m.datas && anywhere is_memory_init m

-- an active data segment at an offset that is known only when the module runs
abbrev pub has_computed_offset : Module → Bool
has_computed_offset m = list_any (λ s. not (has_known_offset (known_globals m) s.mode)) m.datas

abbrev pub needs_region : Module → Bool
needs_region m = nat_le 2 (memory_count m) || copies_passive m || moves_tables m || has_computed_offset m

-- the pages of 65,536 bytes for so many bytes, and those for so many entries of 4 bytes
abbrev pub pages_for_bytes : ℕ → ℕ
pages_for_bytes n = (n + 65535) / 65536

abbrev pub pages_for_entries : ℕ → ℕ
pages_for_entries n = (n + 16383) / 16384

-- the least pages of a table, if tables are moved, and of an import
abbrev pub table_pages : Bool → Limits → ℕ
table_pages moved l = cond moved (pages_for_entries l.min) 0

abbrev pub import_pages : Bool → ImportDesc → ℕ
import_pages moved (imports.Memory l) = l.min
import_pages moved (imports.Table t l) = table_pages moved l
import_pages moved _ = 0

-- the least pages of all memories and of the tables that are moved
abbrev pub least_pages : Module → ℕ
least_pages m =
    sum_by (λ i. import_pages (moves_tables m) i.desc) m.imports
    + (sum_by (λ l. l.min) m.memories + sum_by (λ t. table_pages (moves_tables m) t.limits) m.tables)

-- the bytes that the region has for functions and segments
abbrev pub region_bytes : Module → ℕ
region_bytes m = 4 * func_count m + (sum_by (λ s. length s.bytes) m.datas + 4 * sum_by (λ e. length e.items) m.elems)

-- how many tables are moved
abbrev pub moved_count : Module → ℕ
moved_count m = cond (moves_tables m) (table_count m) 0

-- the pages that the region has beside those of memories and tables
abbrev pub fixed_pages : Module → ℕ
fixed_pages m = cond (needs_region m) ((4 * (memory_count m + moved_count m) + 1) + pages_for_bytes (region_bytes m)) 0

-- more pages than a memory of 1.0 has
abbrev pub has_too_many_pages : Module → Bool
has_too_many_pages m = nat_lt 65536 (fixed_pages m + least_pages m)

-- the greatest number that is told apart from greater ones; far more than a memory has
abbrev pub capped : ℕ → ℕ
capped n = min n 18446744073709551615
