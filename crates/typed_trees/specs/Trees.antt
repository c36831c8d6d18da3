-- Trees of nodes: the code that they stand for, the code that can be reached, and when a tree is typed ("Instructions" of
-- chapter 3, in code that can be reached, where no operand is of type bot).
use Rattle.std.specs.Prelude.{◌≡◌, Bool, true, false, if◌then◌else◌, List, [], ◌∷◌, ◌++◌, map, Option, Some, None}
use Rattle.wasm_ast.specs.declared.module.ty.Ty.{Ty}
use Rattle.wasm_ast.specs.declared.module.ty.Ty.TheVariants.{I32}
use Rattle.wasm_ast.specs.declared.module.code.Instr.{Instr, out-Instr, roll-Instr}
use Rattle.wasm_ast.specs.declared.module.code.Instr.TheOpen.{Instr-F}
use Rattle.wasm_ast.specs.declared.module.code.Instr.TheFolds.{fold-Instr}
use Rattle.typing_kit.specs.Form.{Block, Choice}
use Rattle.typing_kit.specs.Leaf.{FitsLeaf}
use Rattle.typed_trees.specs.declared.node.Bodies.{Bodies}
use Rattle.typed_trees.specs.declared.node.Node.{Node, out-Node}
use Rattle.typed_trees.specs.declared.node.Node.TheOpen.{Node-F}
use Rattle.typed_trees.specs.declared.node.Node.TheFolds.{fold-Node}
use Rattle.typed_trees.specs.Contexts.{Context}
use Rattle.typed_trees.specs.Forms.{form, language}

-- the bodies of an instruction
abbrev pub first_body : {A : Type 0} → Instr-F A → List A
first_body (Instr-F.Block type code) = code
first_body (Instr-F.Loop type code) = code
first_body (Instr-F.If type first second) = first
first_body (Instr-F.TryTable type clauses code) = code
first_body _ = []

abbrev pub second_body : {A : Type 0} → Instr-F A → List A
second_body (Instr-F.If type first second) = second
second_body _ = []

-- the same instruction with these bodies
abbrev pub with_bodies : Instr-F Instr → List Instr → List Instr → Instr-F Instr
with_bodies (Instr-F.Block type code) first second = Instr-F.Block type first
with_bodies (Instr-F.Loop type code) first second = Instr-F.Loop type first
with_bodies (Instr-F.If type code other) first second = Instr-F.If type first second
with_bodies (Instr-F.TryTable type clauses code) first second = Instr-F.TryTable type clauses first
with_bodies l first second = l

-- an instruction behind which nothing is reached
abbrev pub leaves_layer : {A : Type 0} → Instr-F A → Bool
leaves_layer Instr-F.Unreachable = true
leaves_layer (Instr-F.Br l) = true
leaves_layer (Instr-F.BrTable ls last) = true
leaves_layer Instr-F.Return = true
leaves_layer (Instr-F.ReturnCall x) = true
leaves_layer (Instr-F.ReturnCallIndirect x table) = true
leaves_layer (Instr-F.Throw x) = true
leaves_layer Instr-F.ThrowRef = true
leaves_layer _ = false

abbrev pub leaves : Instr → Bool
leaves i = leaves_layer (out-Instr i)

-- code up to the first instruction that leaves
abbrev pub unless_left : Bool → List Instr → List Instr
unless_left true code = []
unless_left false code = code

abbrev pub cut : List Instr → List Instr
cut [] = []
cut (i ∷ code) = i ∷ unless_left (leaves i) (cut code)

-- code without what cannot be reached, at every depth
abbrev pub cut_bodies : Instr-F Instr → Instr
cut_bodies l = roll-Instr (with_bodies l (cut (first_body l)) (cut (second_body l)))

abbrev pub reachable : Instr → Instr
reachable = fold-Instr Instr cut_bodies

abbrev pub reachable_code : List Instr → List Instr
reachable_code code = cut (map reachable code)

-- the code that a node holds, if any
abbrev pub first_held : {A : Type 0} → Option (Bodies A) → List A
first_held None = []
first_held (Some bodies) = bodies.first

abbrev pub second_held : {A : Type 0} → Option (Bodies A) → List A
second_held None = []
second_held (Some bodies) = bodies.second

-- the code that nodes stand for: they without their types
abbrev pub erase_layer : Node-F Instr → Instr
erase_layer n = roll-Instr (with_bodies (out-Instr n.head) (first_held n.bodies) (second_held n.bodies))

abbrev pub erase : Node → Instr
erase = fold-Node Instr erase_layer

abbrev pub erased : List Node → List Instr
erased nodes = map erase nodes

-- where code ends: at its end, with these operands, or nowhere
abbrev pub EndsAs : Option (List Ty) → List Ty → Type 0
EndsAs (Some s) t = s ≡ t
EndsAs None t = Unit {0}

-- the parts of a node
abbrev pub head_of : Node → Instr
head_of n = (out-Node n).head

abbrev pub takes_of : Node → List Ty
takes_of n = (out-Node n).types.0

abbrev pub gives_of : Node → List Ty
gives_of n = (out-Node n).types.1

abbrev pub first_of : Node → List Node
first_of n = first_held (out-Node n).bodies

abbrev pub second_of : Node → List Node
second_of n = second_held (out-Node n).bodies

mutual
  -- The node takes the types that it says and gives those that it says, and so do the nodes in it, under its label. In
  -- its head its bodies are empty.
  pub data TypedNode : Context → List (List Ty) → Node → Type 0 where
    plain : (c : Context) (ls : List (List Ty)) (n : Node) → FitsLeaf (language c) (form c ls (head_of n)) (takes_of n) (gives_of n) → (first_of n) ≡ [] → (second_of n) ≡ [] → TypedNode c ls n
    block : (c : Context) (ls : List (List Ty)) (n : Node) (label : List Ty) (end : Option (List Ty)) → form c ls (head_of n) ≡ Block label (takes_of n) (gives_of n) [] → TypedNodes c (label ∷ ls) (first_of n) (takes_of n) end → EndsAs end (gives_of n) → (second_of n) ≡ [] → TypedNode c ls n
    -- an if takes an i32 above what its bodies take
    choice : (c : Context) (ls : List (List Ty)) (n : Node) (label takes : List Ty) (first_end second_end : Option (List Ty)) → form c ls (head_of n) ≡ Choice label takes (gives_of n) [] [] → (takes_of n) ≡ takes ++ I32 ∷ [] → TypedNodes c (label ∷ ls) (first_of n) takes first_end → EndsAs first_end (gives_of n) → TypedNodes c (label ∷ ls) (second_of n) takes second_end → EndsAs second_end (gives_of n) → TypedNode c ls n

  -- Over the first types the nodes leave the second ones, or end nowhere. Nothing follows a node that leaves.
  pub data TypedNodes : Context → List (List Ty) → List Node → List Ty → Option (List Ty) → Type 0 where
    none : (c : Context) (ls : List (List Ty)) (stack : List Ty) → TypedNodes c ls [] stack (Some stack)
    more : (c : Context) (ls : List (List Ty)) (n : Node) (nodes : List Node) (below : List Ty) (end : Option (List Ty)) → TypedNode c ls n → leaves (head_of n) ≡ false → TypedNodes c ls nodes (below ++ (gives_of n)) end → TypedNodes c ls (n ∷ nodes) (below ++ (takes_of n)) end
    last : (c : Context) (ls : List (List Ty)) (n : Node) (below : List Ty) → TypedNode c ls n → leaves (head_of n) ≡ true → TypedNodes c ls (n ∷ []) (below ++ (takes_of n)) None
