-- Instructions without bodies that are written one after another, and when such a line is typed.
use Rattle.std.specs.Prelude.{◌≡◌, false, List, [], ◌∷◌, ◌++◌, map}
use Rattle.wasm_ast.specs.declared.module.ty.Ty.{Ty}
use Rattle.wasm_ast.specs.declared.module.op.Op.{Op}
use Rattle.wasm_ast.specs.declared.module.code.Instr.{Instr}
use Rattle.wasm_ast.specs.declared.module.code.Instr.TheVariants.{Pure}
use Rattle.typing_kit.specs.Form.{Flat}
use Rattle.typing_kit.specs.Leaf.{FitsLeaf}
use Rattle.typed_trees.specs.declared.node.Node.{Node}
use Rattle.typed_trees.specs.Contexts.{Context}
use Rattle.typed_trees.specs.Forms.{form, op_form, language}
use Rattle.typed_trees.specs.Trees.{leaves}
use Rattle.rewriting_kit.specs.Rewrites.{node_of}

-- an instruction, and the types that it takes and gives
pub record Written : Type 0 where
  pub head : Instr
  pub takes : List Ty
  pub gives : List Ty

abbrev pub written : List Written → List Node
written line = map (λ w. node_of w.head w.takes w.gives [] []) line

-- each finds the types that it takes on top of what lies there, and none leaves
module _ (c : Context) (ls : List (List Ty)) where
  abbrev pub Line : List Written → List Ty → List Ty → Type 0
  Line [] start end = start ≡ end
  Line (w ∷ line) start end = (below : List Ty) × (start ≡ below ++ w.takes) × FitsLeaf (language c) (form c ls w.head) w.takes w.gives × (leaves w.head ≡ false) × Line line (below ++ w.gives) end

-- an instruction on operands alone
pub record Operator : Type 0 where
  pub op : Op
  pub takes : List Ty
  pub gives : List Ty

abbrev pub operators : List Operator → List Written
operators line = map (λ o. record { head = Pure o.op; takes = o.takes; gives = o.gives }) line

abbrev pub OperatorLine : Context → List Operator → List Ty → List Ty → Type 0
OperatorLine c [] start end = start ≡ end
OperatorLine c (o ∷ line) start end = (below : List Ty) × (start ≡ below ++ o.takes) × (op_form c o.op ≡ Flat o.takes o.gives) × OperatorLine c line (below ++ o.gives) end
