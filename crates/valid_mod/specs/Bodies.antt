-- What a search through the bodies gives.
use Rattle.std.specs.Prelude.{◌≡◌, ℕ, List, length, IfSome, Result, Ok, Err, slice_get}
use Rattle.wasm_ast.specs.declared.module.code.Body.{Body as Code}
use Rattle.wasm_ast.specs.declared.module.parts.Module.{Module}
use Rattle.typed_trees.specs.declared.module.TypedFn.{TypedFn}
use Rattle.typed_trees.specs.Modules.{IsTyped}
use Rattle.valid_new.specs.Annotated.{Found, IsUntyped}
use Rattle.valid_mod.specs.declared.invalid.Invalid.{Invalid}
use Rattle.valid_mod.specs.declared.invalid.Invalid.TheVariants.{Part, Body, Memory}
use Rattle.valid_mod.specs.Verdict.{Tells}

-- the module with these bodies in place of its own
abbrev pub filled : Module → List Code → Module
filled m bodies = record m { codes = bodies }

-- what typing the body at a place gives
abbrev pub TellsOfBody : Module → ℕ → Result TypedFn Invalid → Type 0
TellsOfBody m place (Ok f) = Found m place f
TellsOfBody m place (Err (Part section index)) = ⊥
TellsOfBody m place (Err (Body index)) = (index ≡ place) × IsUntyped m place
TellsOfBody m place (Err (Memory e)) = Unit {0}

-- the typed bodies of the first so many functions
pub record AreBodies (m : Module) (n : ℕ) (fns : List TypedFn) : Type 0 where
  pub count : length fns ≡ n
  pub found : (k : ℕ) → IfSome (slice_get fns k) (Found m k)

-- what the answer says where all parts are typed
pub record BodiesTyped (m : Module) (fns : List TypedFn) : Type 0 where
  pub typed : IsTyped m
  pub kept : AreBodies m (length m.codes) fns

abbrev pub TellsOfBodies : Module → Result (List TypedFn) Invalid → Type 0
TellsOfBodies m (Ok fns) = BodiesTyped m fns
TellsOfBodies m (Err fault) = Tells m (Err fault)
