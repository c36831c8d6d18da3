-- Which modules are lowered: those that the profile's list keeps out, and those for which a pass is still to be built.
use Rattle.std.specs.Prelude.{List, [], ◌∷◌, Option, Some, None, cond, option_map}
use Rattle.std.specs.Option.{option_or}
use Rattle.wasm_ast.specs.declared.module.parts.Module.{Module}
use Rattle.wasm_ast.specs.declared.features.kind.Feature.{Feature}
use Rattle.wasm_ast.specs.declared.features.kind.Feature.TheVariants as features
use Rattle.wasm_ast.specs.declared.outside.obstacle.Obstacle.{Obstacle}
use Rattle.wasm_ast.specs.declared.outside.obstacle.Obstacle.TheVariants as obstacles
use Rattle.wasm_ast.specs.Outside.{first_feature, outside}
use Rattle.wasm_ast.specs.Region.{needs_region}
use Rattle.pass_law.specs.Needs.{exports_computed}
use Rattle.pass_stack.specs.declared.outside.Outside.{Outside}
use Rattle.pass_stack.specs.declared.outside.Outside.TheVariants as outsides

-- an entry of the profile's list
abbrev pub entry_of : Obstacle → Outside
entry_of (obstacles.Feature f) = outsides.Feature f
entry_of (obstacles.ReservedName e) = outsides.ReservedName e
entry_of obstacles.MemoryMoved = outsides.MemoryMoved
entry_of obstacles.TooManyPages = outsides.TooManyPages

-- the features that no pass removes yet, in the order in which they are named; two memories are one way to need a region
abbrev pub unbuilt_features : List Feature
unbuilt_features =
    features.Multi ∷ features.Simd ∷ features.LateLanes ∷ features.Tail ∷ features.Refs ∷ features.Tables ∷ features.Exceptions
    ∷ features.Bulk ∷ features.WideMemory ∷ []

-- What no pass takes yet. Of constant expressions it is the value of an immutable global that is exported, where it does not
-- fold: 1.0 has no way to say it. No pass makes a region either, and it is the pass for memories that will.
abbrev pub unbuilt : Module → Option Feature
unbuilt m =
    option_or (cond (exports_computed m) (Some features.Constants) None)
    (option_or (first_feature unbuilt_features m) (cond (needs_region m) (Some features.Memories) None))

-- the first entry that holds, what is not built aside
abbrev pub outside_profile : Module → Option Outside
outside_profile m = option_map entry_of (outside m)

-- and with the entry for what is not built, which is the last
abbrev pub outside_stack : Module → Option Outside
outside_stack m = option_or (outside_profile m) (option_map outsides.NotBuilt (unbuilt m))
