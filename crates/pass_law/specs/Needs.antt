-- What a stage of lowering has to do with a module: its features, whether it needs a region of memory of its own, and
-- whether it exports what 1.0 can say of no immutable global.
use Rattle.std.specs.Prelude.{◌≡◌, ◌-◌, Bool, true, false, not, ◌&&◌, is_none, slice_get, Option, Some, None}
use Rattle.std.specs.List.{list_any}
use Rattle.wasm_ast.specs.declared.features.kind.Feature.{Feature}
use Rattle.wasm_ast.specs.declared.features.kind.Feature.TheVariants as features
use Rattle.wasm_ast.specs.declared.module.parts.ExportDesc.{ExportDesc}
use Rattle.wasm_ast.specs.declared.module.parts.ExportDesc.TheVariants as exports
use Rattle.wasm_ast.specs.declared.module.parts.Global as globals
use Rattle.wasm_ast.specs.declared.module.parts.Module.{Module}
use Rattle.wasm_ast.specs.Fold.{known_at, known_globals}
use Rattle.wasm_ast.specs.Has.{has_of}
use Rattle.wasm_ast.specs.Spaces.{is_global, imported}
use Rattle.pass_law.specs.Stages.{needs_stage_region}

-- An export of an immutable global of the module whose initial value does not fold: 1.0 can set it by code alone, which
-- makes it mutable, and its host would see that.
abbrev pub is_fixed_global : Option globals.Global → Bool
is_fixed_global (Some g) = not g.mutable
is_fixed_global None = false

abbrev pub is_computed_export : Module → ExportDesc → Bool
is_computed_export m (exports.Global x) = is_fixed_global (slice_get m.globals (x - imported is_global m)) && is_none (known_at (known_globals m) x)
is_computed_export m _ = false

abbrev pub exports_computed : Module → Bool
exports_computed m = list_any (λ e. is_computed_export m e.desc) m.exports

-- which features there are, whether a region is needed, and whether there is such an export
pub record Needs : Type 0 where
  pub has : Feature → Bool
  pub region : Bool
  pub computed_exports : Bool

abbrev pub needs_of : Module → Needs
needs_of m = record { has = has_of m; region = needs_stage_region m; computed_exports = exports_computed m }

-- the first has nothing that the second lacks
pub record NoMore (less more : Needs) : Type 0 where
  pub has : (f : Feature) → less.has f ≡ true → more.has f ≡ true
  pub region : less.region ≡ true → more.region ≡ true
  pub computed_exports : less.computed_exports ≡ true → more.computed_exports ≡ true

-- what a module of 1.0 with sign extension and typed selects needs at most
pub record IsDirect (n : Needs) : Type 0 where
  pub constants : n.has features.Constants ≡ false
  pub multi : n.has features.Multi ≡ false
  pub simd : n.has features.Simd ≡ false
  pub late_lanes : n.has features.LateLanes ≡ false
  pub tail : n.has features.Tail ≡ false
  pub refs : n.has features.Refs ≡ false
  pub tables : n.has features.Tables ≡ false
  pub exceptions : n.has features.Exceptions ≡ false
  pub bulk : n.has features.Bulk ≡ false
  pub wide_memory : n.has features.WideMemory ≡ false
  pub memories : n.has features.Memories ≡ false
  pub region : n.region ≡ false
