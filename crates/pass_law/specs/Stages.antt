-- The modules between two stages of lowering: what they may have, and how many pages they take. This takes the place of
-- the profile and its count of pages once stages have begun.
use Rattle.std.specs.Prelude.{◌≡◌, ℕ, ◌+◌, ◌*◌, ◌||◌, ◌&&◌, Bool, true, false, not, nat_eq, nat_le, cond, codes, sum, List, [], ◌∷◌, ◌++◌, length, map, filter_map, take, drop, Option, Some, None}
use Rattle.std.specs.List.{list_any, sum_by, starts_with}
use Rattle.wasm_ast.specs.declared.features.kind.Feature.TheVariants as features
use Rattle.wasm_ast.specs.declared.module.code.Instr.TheOpen.{Instr-F}
use Rattle.wasm_ast.specs.declared.module.ty.Limits.{Limits}
use Rattle.wasm_ast.specs.declared.module.parts.ExportDesc.{ExportDesc}
use Rattle.wasm_ast.specs.declared.module.parts.ExportDesc.TheVariants as exports
use Rattle.wasm_ast.specs.declared.module.parts.ImportDesc.{ImportDesc}
use Rattle.wasm_ast.specs.declared.module.parts.ImportDesc.TheVariants as imports
use Rattle.wasm_ast.specs.declared.module.parts.Mode.{Mode}
use Rattle.wasm_ast.specs.declared.module.parts.Mode.TheVariants.{Active}
use Rattle.wasm_ast.specs.declared.module.parts.Element.{Element}
use Rattle.wasm_ast.specs.declared.module.parts.Segment.{Segment}
use Rattle.wasm_ast.specs.declared.module.parts.Module.{Module}
use Rattle.wasm_ast.specs.Has.{has_of, is_passive}
use Rattle.wasm_ast.specs.Occurrence.{Head}
use Rattle.wasm_ast.specs.Outside.{outside_features, exports_memory}
use Rattle.wasm_ast.specs.Places.{anywhere}
use Rattle.wasm_ast.specs.Region.{moves_tables, has_computed_offset, has_known_offset, pages_for_bytes, pages_for_entries}
use Rattle.wasm_ast.specs.Fold.{known_globals}
use Rattle.wasm_ast.specs.Spaces.{memory_count}

-- the limits of the memories and of the tables, imports first
abbrev pub memory_import : ImportDesc → Option Limits
memory_import (imports.Memory limits) = Some limits
memory_import _ = None

abbrev pub memory_limits : Module → List Limits
memory_limits m = filter_map (λ i. memory_import i.desc) m.imports ++ m.memories

abbrev pub table_import : ImportDesc → Option Limits
table_import (imports.Table t limits) = Some limits
table_import _ = None

abbrev pub table_limits : Module → List Limits
table_limits m = filter_map (λ i. table_import i.desc) m.imports ++ map (λ t. t.limits) m.tables

-- an instruction that copies from the data segment, or from the element segment, with this number
abbrev pub copies_data : ℕ → Head → Bool
copies_data k (Instr-F.MemoryInit segment memory) = nat_eq segment k
copies_data k _ = false

abbrev pub copies_elements : ℕ → Head → Bool
copies_elements k (Instr-F.TableInit segment table) = nat_eq segment k
copies_elements k _ = false

-- a passive segment with this number from which code copies
abbrev pub is_copied_data : Module → ℕ → Segment → Bool
is_copied_data m k d = is_passive d.mode && anywhere (copies_data k) m

abbrev pub is_copied_element : Module → ℕ → Element → Bool
is_copied_element m k e = is_passive e.mode && anywhere (copies_elements k) m

-- a sum, and a test of some, over items with their places from k on
abbrev pub sum_from : {A : Type 0} → (ℕ → A → ℕ) → ℕ → List A → ℕ
sum_from size k [] = 0
sum_from size k (x ∷ xs) = size k x + sum_from size (k + 1) xs

abbrev pub any_from : {A : Type 0} → (ℕ → A → Bool) → ℕ → List A → Bool
any_from test k [] = false
any_from test k (x ∷ xs) = test k x || any_from test (k + 1) xs

-- a region is needed: as for a whole module, but of passive data segments only those count from which code copies
abbrev pub needs_stage_region : Module → Bool
needs_stage_region m =
    nat_le 2 (memory_count m) || any_from (is_copied_data m) 0 m.datas || moves_tables m || has_computed_offset m

-- a memory with this number that no host sees and that never grows
abbrev pub exports_this : ℕ → ExportDesc → Bool
exports_this k (exports.Memory x) = nat_eq x k
exports_this k _ = false

abbrev pub has_one_size : ℕ → Option ℕ → Bool
has_one_size min (Some max) = nat_eq min max
has_one_size min None = false

abbrev pub is_sealed : Module → ℕ → Limits → Bool
is_sealed m k limits = not (list_any (λ e. exports_this k e.desc) m.exports) && has_one_size limits.min limits.max

-- the bytes of a segment; of an entry there are four
abbrev pub copied_bytes : Module → ℕ
copied_bytes m =
    sum_from (λ k d. cond (is_copied_data m k d) (length d.bytes) 0) 0 m.datas
    + 4 * sum_from (λ k e. cond (is_copied_element m k e) (length e.items) 0) 0 m.elems

abbrev pub is_active : Mode → Bool
is_active (Active x offset) = true
is_active _ = false

-- the bytes of active segments that are placed only when the module runs
abbrev pub placed_bytes : Module → ℕ
placed_bytes m =
    sum_by (λ d. cond (not (has_known_offset (known_globals m) d.mode)) (length d.bytes) 0) m.datas
    + 4 * cond (moves_tables m) (sum_by (λ e. cond (is_active e.mode) (length e.items) 0) m.elems) 0

-- what a region has beside the contents of memories and tables: four pages for each that may grow or be seen
abbrev pub kept_pages : Module → ℕ
kept_pages m =
    sum_from (λ k limits. cond (is_sealed m k limits) 0 4) 0 (memory_limits m)
    + (4 * cond (moves_tables m) (length (table_limits m)) 0 + (pages_for_bytes (copied_bytes m) + pages_for_bytes (placed_bytes m)))

-- The pages of a module whose memories have so many pages and whose tables, behind them, so many entries.
abbrev pub memory_pages : Module → List ℕ → ℕ
memory_pages m sizes = sum (take (memory_count m) sizes)

abbrev pub table_pages : Module → List ℕ → ℕ
table_pages m sizes = cond (moves_tables m) (sum_by pages_for_entries (drop (memory_count m) sizes)) 0

abbrev pub load : Module → List ℕ → ℕ
load m sizes = memory_pages m sizes + cond (needs_stage_region m) (table_pages m sizes + kept_pages m) 0

-- the sizes with which a module begins
abbrev pub least_sizes : Module → List ℕ
least_sizes m = map (λ limits. limits.min) (memory_limits m ++ table_limits m)

-- there is room in one memory of 1.0
abbrev pub has_load : Module → List ℕ → Bool
has_load m sizes = nat_le (load m sizes) 65536

-- names that later stages give to exports of their own
abbrev pub exports_name : List ℕ → Module → Bool
exports_name front m = list_any (λ e. starts_with nat_eq e.name front) m.exports

-- The module may stand between two stages. It does not matter how many captures there is room for.
pub record Stage (m : Module) : Type 0 where
  pub profile : list_any (has_of m) outside_features ≡ false
  pub memories : exports_memory m && needs_stage_region m ≡ false
  pub pages : has_load m (least_sizes m) ≡ true
  pub exception_names : exports_name (codes "lower.") m && has_of m features.Exceptions ≡ false
  pub result_names : exports_name (codes "lower.r.") m && (has_of m features.Multi || has_of m features.Simd || has_of m features.LateLanes) ≡ false
