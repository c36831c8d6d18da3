-- The node of an instruction.
use Rattle.std.specs.Prelude.{◌≡◌, List}
use Rattle.wasm_ast.specs.declared.module.ty.Ty.{Ty}
use Rattle.wasm_ast.specs.declared.module.code.Instr.{Instr}
use Rattle.typed_trees.specs.declared.node.Node.{Node}
use Rattle.typed_trees.specs.Trees.{head_of, takes_of, gives_of, first_of, second_of}

-- the node has these parts
pub record NodeIs (i : Instr) (s t : List Ty) (a b : List Node) (n : Node) : Type 0 where
  pub head : head_of n ≡ i
  pub takes : takes_of n ≡ s
  pub gives : gives_of n ≡ t
  pub first : first_of n ≡ a
  pub second : second_of n ≡ b
