-- What a module without the code that cannot be reached has of what the module has.
use Rattle.std.specs.Prelude.{◌≡◌, ℕ, ◌+◌, ◌≤◌, true, cond, sum, List, [], length, take, drop, None}
use Rattle.std.specs.List.{sum_by}
use Rattle.wasm_ast.specs.declared.features.kind.Feature.{Feature}
use Rattle.wasm_ast.specs.declared.module.parts.Module.{Module}
use Rattle.wasm_ast.specs.Has.{has_of}
use Rattle.wasm_ast.specs.Outside.{outside}
use Rattle.wasm_ast.specs.Region.{needs_region, moves_tables, fixed_pages, pages_for_entries}
use Rattle.wasm_ast.specs.Spaces.{memory_count}
use Rattle.typed_trees.specs.declared.module.TypedFn.{TypedFn}
use Rattle.typed_trees.specs.Typed.{module_of}
use Rattle.meaning_new.specs.Interface.{interface}
use Rattle.valid_mod.specs.Standing.{StandsFor}
use Rattle.pass_law.specs.Needs.{exports_computed}
use Rattle.pass_law.specs.Stages.{needs_stage_region}

-- the pages of the memories and of the tables that are moved into memory, by the sizes of all memories and tables
abbrev pub pages : Module → List ℕ → ℕ
pages m sizes =
    sum (take (memory_count m) sizes) + cond (moves_tables m) (sum_by pages_for_entries (drop (memory_count m) sizes)) 0

-- the first module has nothing that the second lacks, and takes no more pages, whatever the sizes of memories and tables
pub record HasNoMore (less more : Module) : Type 0 where
  pub has : (f : Feature) → has_of less f ≡ true → has_of more f ≡ true
  pub region : needs_region less ≡ true → needs_region more ≡ true
  pub stage_region : needs_stage_region less ≡ true → needs_stage_region more ≡ true
  pub tables : moves_tables less ≡ true → moves_tables more ≡ true
  pub computed_exports : exports_computed less ≡ exports_computed more
  pub fixed : fixed_pages less ≤ fixed_pages more
  pub pages : (sizes : List ℕ) → fixed_pages less + pages less sizes ≤ fixed_pages more + pages more sizes

-- hosts link both alike; they have the same parts beside bodies, and as many bodies
pub record LinkedAlike (m other : Module) : Type 0 where
  pub interface : interface other ≡ interface m
  pub part : record other { codes = [] } ≡ record m { codes = [] }
  pub funcs : other.funcs ≡ m.funcs
  pub bodies : length other.codes ≡ length m.codes

-- so it is of a module and of what stands for it, without the code that cannot be reached
abbrev pub CutHasNoMore : Type 0
CutHasNoMore = (m : Module) (tree : Module × List TypedFn) → StandsFor m tree → HasNoMore (module_of tree) m

-- where nothing of the profile's list holds of the module, nothing of it holds then
abbrev pub CutLiesInProfile : Type 0
CutLiesInProfile = (m : Module) (tree : Module × List TypedFn) → StandsFor m tree → outside m ≡ None → outside (module_of tree) ≡ None

abbrev pub CutIsLinkedAlike : Type 0
CutIsLinkedAlike = (m : Module) (tree : Module × List TypedFn) → StandsFor m tree → LinkedAlike m (module_of tree)
