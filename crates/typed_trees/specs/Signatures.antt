-- The types that a signature stands for, however it is kept.
use Rattle.std.specs.Prelude.{List}
use Rattle.wasm_ast.specs.declared.module.ty.Ty.{Ty}
use Rattle.typed_trees.specs.declared.signature.Kept.{Kept}
use Rattle.typed_trees.specs.declared.signature.Kept.TheVariants.{Few, Many}

-- those that are taken, and those that are given
abbrev pub lists : Kept → List Ty × List Ty
lists (Few takes gives) = (takes, gives)
lists (Many many) = (many.takes, many.gives)
