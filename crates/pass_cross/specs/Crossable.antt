-- Which typed modules cross: those that have nothing of 3.0 but typed selects.
use Rattle.std.specs.Prelude.{◌≡◌, Bool, true, false, List}
use Rattle.wasm_ast.specs.declared.features.kind.Feature.{Feature}
use Rattle.wasm_ast.specs.declared.features.kind.Feature.TheVariants as features
use Rattle.wasm_ast.specs.declared.module.parts.Module.{Module}
use Rattle.typed_trees.specs.declared.module.TypedFn.{TypedFn}
use Rattle.typed_trees.specs.Typed.{module_of, IsTypedTree}
use Rattle.pass_law.specs.Needs.{needs_of}
use Rattle.pass_law.specs.Stages.{Stage}
use Rattle.core1_ast.specs.Typing.{Typed1}
use Rattle.crossing.specs.Crossing.{Crosses}
use Rattle.crossing.specs.Modules.{cross}
use Rattle.pass_cross.specs.Short.{IsShortThroughout}

-- the one feature that the crossing takes
abbrev pub is_taken : Feature → Bool
is_taken features.TypedSelect = true
is_taken _ = false

-- the module may stand between two stages, needs no region, and has no feature but typed selects
pub record Crossable (m : Module) : Type 0 where
  pub stage : Stage m
  pub region : (needs_of m).region ≡ false
  pub has : (f : Feature) → is_taken f ≡ false → (needs_of m).has f ≡ false

-- such a module crosses
abbrev pub CrossableCrosses : Type 0
CrossableCrosses = (m : Module × List TypedFn) → IsTypedTree m → Crossable (module_of m) → Crosses (module_of m)

-- and is typed in 1.0, where its lists are short
abbrev pub CrossableIsTyped : Type 0
CrossableIsTyped = (m : Module × List TypedFn) → IsTypedTree m → Crossable (module_of m) → IsShortThroughout (cross (module_of m)) → Typed1 (cross (module_of m))
