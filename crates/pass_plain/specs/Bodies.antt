-- The functions of a module with rewritten bodies.
use Rattle.std.specs.Prelude.{List, [], map}
use Rattle.wasm_ast.specs.declared.module.code.Instr.{Instr}
use Rattle.typed_trees.specs.declared.module.TypedFn.{TypedFn}
use Rattle.rewriting_kit.specs.Rewrites.{Layer, rewritten}

-- nothing needs to be known of open bodies
abbrev pub no_entry : Instr → Unit {0}
no_entry head = tt

module _ {E : Type 0} (entry : Instr → E) (layer : Layer E) where
  -- the locals that a function declares stay
  abbrev pub rewritten_function : TypedFn → TypedFn
  rewritten_function f = record { locals = f.locals; body = rewritten entry layer f.body [] }

  -- each function at its place
  abbrev pub rewritten_functions : List TypedFn → List TypedFn
  rewritten_functions fns = map rewritten_function fns
