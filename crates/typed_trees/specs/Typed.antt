-- When a module whose code is kept with its types is typed, and the module that it stands for.
use Rattle.std.specs.Prelude.{◌≡◌, ℕ, true, List, [], ◌∷◌, map, Option, Some, slice_get}
use Rattle.std.specs.List.{AllByRecursion}
use Rattle.wasm_ast.specs.declared.module.ty.Ty.{Ty}
use Rattle.wasm_ast.specs.declared.module.ty.FuncType.{FuncType}
use Rattle.wasm_ast.specs.declared.module.code.Body.{Body}
use Rattle.wasm_ast.specs.declared.module.parts.Module.{Module}
use Rattle.wasm_ast.specs.Counts.{Agrees}
use Rattle.typed_trees.specs.declared.module.TypedFn.{TypedFn}
use Rattle.typed_trees.specs.Contexts.{is_value_type}
use Rattle.typed_trees.specs.Modules.{body_context, TypedParts}
use Rattle.typed_trees.specs.Trees.{erased, EndsAs, TypedNodes}

-- the body that a typed body stands for: its nodes without their types
abbrev pub body_of : TypedFn → Body
body_of f = record { locals = f.locals; code = erased f.body }

-- the module that parts and typed bodies stand for
abbrev pub module_of : Module × List TypedFn → Module
module_of m = record m.0 { codes = map body_of m.1 }

-- over the parameters and the declared locals the nodes leave the results and nothing else
pub record TypedTree (m : Module) (t : FuncType) (f : TypedFn) : Type 0 where
  pub locals : AllByRecursion (λ s. is_value_type s ≡ true) f.locals
  pub end : Option (List Ty)
  pub nodes : TypedNodes (body_context m t (body_of f)) (t.results ∷ []) f.body [] end
  pub ends : EndsAs end t.results

pub record TypedFuncTree (m : Module) (type_index : ℕ) (f : TypedFn) : Type 0 where
  pub type : FuncType
  pub declared : slice_get m.types type_index ≡ Some type
  pub typed : TypedTree m type f

-- each function with the body at its place; there are as many of both
abbrev pub TypedTrees : Module → List ℕ → List TypedFn → Type 0
TypedTrees m [] [] = Unit {0}
TypedTrees m [] (f ∷ fns) = ⊥
TypedTrees m (t ∷ type_indices) [] = ⊥
TypedTrees m (t ∷ type_indices) (f ∷ fns) = TypedFuncTree m t f × TypedTrees m type_indices fns

-- the parts have no bodies of their own; they, the counts and each tree are typed
pub record IsTypedTree (m : Module × List TypedFn) : Type 0 where
  pub no_bodies : m.0.codes ≡ []
  pub counts : Agrees (module_of m)
  pub parts : TypedParts (module_of m)
  pub trees : TypedTrees (module_of m) m.0.funcs m.1
