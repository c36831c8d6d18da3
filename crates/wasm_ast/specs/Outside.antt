-- What lies outside the profile: the profile's own list, the first of which that holds of a module is named.
use Rattle.std.specs.Prelude.{ℕ, Bool, false, ◌&&◌, cond, List, [], ◌∷◌, nat_eq, nat_lt, codes, Option, Some, None, option_map}
use Rattle.std.specs.Option.{option_or}
use Rattle.std.specs.List.{list_any, find, position, starts_with}
use Rattle.wasm_ast.specs.declared.module.parts.ExportDesc.{ExportDesc}
use Rattle.wasm_ast.specs.declared.module.parts.ExportDesc.TheVariants as exports
use Rattle.wasm_ast.specs.declared.module.parts.Export.{Export}
use Rattle.wasm_ast.specs.declared.module.parts.Module.{Module}
use Rattle.wasm_ast.specs.declared.features.kind.Feature.{Feature}
use Rattle.wasm_ast.specs.declared.features.kind.Feature.TheVariants as features
use Rattle.wasm_ast.specs.declared.outside.obstacle.Obstacle.{Obstacle}
use Rattle.wasm_ast.specs.declared.outside.obstacle.Obstacle.TheVariants as obstacles
use Rattle.wasm_ast.specs.Spaces.{memory_count}
use Rattle.wasm_ast.specs.Has.{has_of}
use Rattle.wasm_ast.specs.Region.{needs_region, has_too_many_pages}

-- the features that lie outside the profile, in the order in which they are named
abbrev pub outside_features : List Feature
outside_features =
    features.Floats ∷ features.WideTable ∷ features.TableInitialiser
    ∷ features.ImportedTable ∷ features.ImportedTag ∷ features.ImportedMutableGlobal ∷ features.ImportedMemory
    ∷ features.ExportedTable ∷ features.WideGlobal ∷ features.ExnrefTable ∷ features.HostExnref ∷ []

-- the first of some features that the module has
abbrev pub first_feature : List Feature → Module → Option Feature
first_feature fs m = find (has_of m) fs

-- a name that lowered modules keep for themselves, and the first export that has one
abbrev pub is_reserved : Export → Bool
is_reserved e = starts_with nat_eq e.name (codes "lower.")

abbrev pub first_reserved : List Export → Option ℕ
first_reserved es = position is_reserved es

-- one of so many memories
abbrev pub is_exported_memory : ℕ → ExportDesc → Bool
is_exported_memory count (exports.Memory x) = nat_lt x count
is_exported_memory count _ = false

abbrev pub exports_memory : Module → Bool
exports_memory m = list_any (λ e. is_exported_memory (memory_count m) e.desc) m.exports

-- what keeps the module outside once its features and names are in order
abbrev pub outside_by_size : Module → Option Obstacle
outside_by_size m =
    option_or (cond (exports_memory m && needs_region m) (Some obstacles.MemoryMoved) None)
    (cond (has_too_many_pages m) (Some obstacles.TooManyPages) None)

-- the first that holds of the whole list
abbrev pub outside : Module → Option Obstacle
outside m =
    option_or (option_map obstacles.Feature (first_feature outside_features m))
    (option_or (option_map obstacles.ReservedName (first_reserved m.exports)) (outside_by_size m))
