-- When a module whose code is kept with its types stands for a module.
use Rattle.std.specs.Prelude.{◌≡◌, List, [], map}
use Rattle.wasm_ast.specs.declared.module.code.Body.{Body}
use Rattle.wasm_ast.specs.declared.module.parts.Module.{Module}
use Rattle.typed_trees.specs.declared.module.TypedFn.{TypedFn}
use Rattle.typed_trees.specs.Trees.{reachable_code}
use Rattle.typed_trees.specs.Typed.{body_of}

-- a body without the code that cannot be reached
abbrev pub reachable_body : Body → Body
reachable_body body = record { locals = body.locals; code = reachable_code body.code }

-- the parts are those of the module, which has its bodies beside them, and without their types the typed bodies are its
-- bodies without the code that cannot be reached
pub record StandsFor (m : Module) (tree : Module × List TypedFn) : Type 0 where
  pub part : tree.0 ≡ record m { codes = [] }
  pub bodies : map body_of tree.1 ≡ map reachable_body m.codes
