-- Trees of nodes: induction, and the code that a node stands for which is put together.
use Rattle.std.proofs.Common.{◌≡◌, List, [], ◌∷◌, map, Option, Some, None, refl, ap, ◌∙◌, subst}
use Rattle.wasm_ast.specs.declared.module.ty.Ty.{Ty}
use Rattle.wasm_ast.specs.declared.module.code.Instr.{Instr, out-Instr, roll-Instr}
use Rattle.typed_trees.specs.declared.node.Bodies.{Bodies}
use Rattle.typed_trees.specs.declared.node.Node.{Node, roll-Node, out-roll-Node}
use Rattle.typed_trees.specs.declared.node.Node.TheOpen.{Node-F}
use Rattle.typed_trees.specs.declared.node.Node.TheFolds.{map-Node, fold-roll-Node, ind-Node}
use Rattle.typed_trees.specs.Trees.{with_bodies, first_held, second_held, erase, erase_layer, erased, first_of, second_of}
use Rattle.rewriting_kit.specs.Rewrites.{held, node_of}

-- the items of a list, one function after another
pub map_twice : {X Y Z : Type 0} (f : X → Y) (g : Y → Z) (xs : List X) → map g (map f xs) ≡ map (λ x. g (f x)) xs
map_twice f g [] = refl
map_twice f g (x ∷ xs) = ap (λ l. g (f x) ∷ l) (map_twice f g xs)

-- a layer of a node, by its parts
abbrev layer_of : (X : Type 0) → Instr → List Ty × List Ty → Option (Bodies X) → Node-F X
layer_of X head types bodies = record { head = head; types = types; bodies = bodies }

bodies_twice : (X Y Z : Type 0) (f : X → Y) (g : Y → Z) (head : Instr) (types : List Ty × List Ty) (bodies : Option (Bodies X)) → map-Node Y Z g (map-Node X Y f (layer_of X head types bodies)) ≡ map-Node X Z (λ x. g (f x)) (layer_of X head types bodies)
bodies_twice X Y Z f g head types None = refl
bodies_twice X Y Z f g head types (Some b) =
    ap (λ l. layer_of Z head types (Some (record { first = l; second = map g (map f b.second) }))) (map_twice f g b.first)
    ∙ ap (λ l. layer_of Z head types (Some (record { first = map (λ x. g (f x)) b.first; second = l }))) (map_twice f g b.second)

nodes_twice : (X Y Z : Type 0) (f : X → Y) (g : Y → Z) (l : Node-F X) → map-Node Y Z g (map-Node X Y f l) ≡ map-Node X Z (λ x. g (f x)) l
nodes_twice X Y Z f g l = bodies_twice X Y Z f g l.head l.types l.bodies

-- what holds of a node where it holds of the nodes in it holds of all nodes
pub induct_node : (P : Node → Type 0) → ((l : Node-F ((n : Node) × P n)) → P (roll-Node (map-Node ((n : Node) × P n) Node (λ x. x.0) l))) → (n : Node) → P n
induct_node P step =
    ind-Node P (λ l inner e. subst (λ x. P (roll-Node x)) e (subst (λ x. P (roll-Node x)) (nodes_twice _ _ _ (λ x. (x.0, x.1)) (λ x. x.0) inner) (step (map-Node _ ((n : Node) × P n) (λ x. (x.0, x.1)) inner))))

-- the bodies of a node that is put together of one layer
module _ {X : Type 0} (f : X → Node) where
  first_over : (head : Instr) (types : List Ty × List Ty) (bodies : Option (Bodies X)) → first_held (map-Node X Node f (layer_of X head types bodies)).bodies ≡ map f (first_held bodies)
  first_over head types None = refl
  first_over head types (Some b) = refl

  second_over : (head : Instr) (types : List Ty × List Ty) (bodies : Option (Bodies X)) → second_held (map-Node X Node f (layer_of X head types bodies)).bodies ≡ map f (second_held bodies)
  second_over head types None = refl
  second_over head types (Some b) = refl

  pub first_rolled : (l : Node-F X) → first_of (roll-Node (map-Node X Node f l)) ≡ map f (first_held l.bodies)
  first_rolled l = ap (λ (o : Node-F Node). first_held o.bodies) (out-roll-Node (map-Node X Node f l)) ∙ first_over l.head l.types l.bodies

  pub second_rolled : (l : Node-F X) → second_of (roll-Node (map-Node X Node f l)) ≡ map f (second_held l.bodies)
  second_rolled l = ap (λ (o : Node-F Node). second_held o.bodies) (out-roll-Node (map-Node X Node f l)) ∙ second_over l.head l.types l.bodies

-- the code that a node stands for which has these parts
pub erase_made : (head : Instr) (takes gives : List Ty) (first second : List Node) → erase (node_of head takes gives first second) ≡ roll-Instr (with_bodies (out-Instr head) (erased first) (erased second))
erase_made head takes gives [] [] = fold-roll-Node Instr erase_layer (layer_of Node head (takes, gives) None)
erase_made head takes gives [] (n ∷ second) = fold-roll-Node Instr erase_layer (layer_of Node head (takes, gives) (held [] (n ∷ second)))
erase_made head takes gives (n ∷ first) second = fold-roll-Node Instr erase_layer (layer_of Node head (takes, gives) (held (n ∷ first) second))
