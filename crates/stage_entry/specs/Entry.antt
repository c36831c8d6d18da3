-- How the profile meets what stages of lowering ask of a module.
use Rattle.std.specs.Prelude.{◌≡◌, ◌+◌, ◌≤◌, true, None}
use Rattle.wasm_ast.specs.declared.module.parts.Module.{Module}
use Rattle.wasm_ast.specs.Outside.{outside}
use Rattle.wasm_ast.specs.Region.{needs_region, fixed_pages, least_pages}
use Rattle.pass_law.specs.Stages.{Stage, needs_stage_region, load, least_sizes}

-- where a stage needs a region, the profile says that the module needs one
abbrev pub NeedsNoLess : Type 0
NeedsNoLess = (m : Module) → needs_stage_region m ≡ true → needs_region m ≡ true

-- with the sizes at which a module begins, stages take no more pages than the profile counts
abbrev pub CountsNoLess : Type 0
CountsNoLess = (m : Module) → load m (least_sizes m) ≤ fixed_pages m + least_pages m

-- where nothing of the profile's list holds, the module may stand before the first stage
abbrev pub MayBegin : Type 0
MayBegin = (m : Module) → outside m ≡ None → Stage m
