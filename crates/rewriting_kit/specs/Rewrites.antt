-- Rewritings of typed trees: what becomes of one node, whose bodies are rewritten already, and of all of them.
use Rattle.std.specs.Prelude.{◌≡◌, List, [], ◌∷◌, ◌++◌, flat_map, Option, Some, None}
use Rattle.wasm_ast.specs.declared.module.ty.Ty.{Ty}
use Rattle.wasm_ast.specs.declared.module.code.Instr.{Instr}
use Rattle.typed_trees.specs.declared.node.Bodies.{Bodies}
use Rattle.typed_trees.specs.declared.node.Node.{Node, roll-Node}
use Rattle.typed_trees.specs.declared.node.Node.TheOpen.{Node-F}
use Rattle.typed_trees.specs.declared.node.Node.TheFolds.{fold-Node}
use Rattle.typed_trees.specs.Trees.{first_held, second_held}

-- What becomes of a node: by the entries of the bodies around it, the outermost first, its instruction, the types that it
-- takes and gives, and its rewritten bodies.
abbrev pub Layer : Type 0 → Type 0
Layer E = List E → Instr → List Ty → List Ty → List Node → List Node → List Node

-- all nodes of a body
abbrev pub all_at : {E : Type 0} → List E → List (List E → List Node) → List Node
all_at x nodes = flat_map (λ node. node x) nodes

module _ {E : Type 0} (entry : Instr → E) (layer : Layer E) where
  -- inside a node there is one entry more
  abbrev pub rewrite_layer : Node-F (List E → List Node) → List E → List Node
  rewrite_layer n x =
      layer x n.head n.types.0 n.types.1 (all_at (x ++ entry n.head ∷ []) (first_held n.bodies)) (all_at (x ++ entry n.head ∷ []) (second_held n.bodies))

  abbrev pub rewrite : Node → List E → List Node
  rewrite = fold-Node (List E → List Node) rewrite_layer

  abbrev pub rewritten : List Node → List E → List Node
  rewritten nodes x = flat_map (λ n. rewrite n x) nodes

-- a node with these bodies
abbrev pub held : List Node → List Node → Option (Bodies Node)
held [] [] = None
held first second = Some (record { first = first; second = second })

abbrev pub node_of : Instr → List Ty → List Ty → List Node → List Node → Node
node_of head takes gives first second = roll-Node (record { head = head; types = (takes, gives); bodies = held first second })

-- a node with this instruction stays as it is
abbrev pub Stays : {E : Type 0} → Layer E → Instr → Type 0
Stays {E} layer head = (x : List E) (takes gives : List Ty) (first second : List Node) → layer x head takes gives first second ≡ node_of head takes gives first second ∷ []
