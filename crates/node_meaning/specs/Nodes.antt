-- Typed nodes as a language: a node has the form of its head, with its own bodies.
use Rattle.std.specs.Prelude.{◌≡◌, ℕ, ◌-◌, true, nat_lt, if◌then◌else◌, List, [], length, map, slice_get, Option, Some, None, option_map, option_and_then, refl}
use Rattle.std.proofs.Common.{ap, ◌∙◌, subst}
use Rattle.host_kit.specs.Offered.{func_type}
use Rattle.wasm_ast.specs.declared.module.ty.FuncType.{FuncType}
use Rattle.wasm_ast.specs.declared.module.code.Instr.{Instr, out-Instr}
use Rattle.wasm_ast.specs.declared.module.parts.Module.{Module}
use Rattle.typed_trees.specs.declared.node.Bodies.{Bodies}
use Rattle.typed_trees.specs.declared.node.Node.{Node, roll-Node}
use Rattle.typed_trees.specs.declared.node.Node.TheOpen.{Node-F}
use Rattle.typed_trees.specs.declared.node.Node.TheFolds.{map-Node, fold-Node, fold-roll-Node, ind-Node}
use Rattle.typed_trees.specs.declared.module.TypedFn.{TypedFn}
use Rattle.typed_trees.specs.Trees.{first_held, second_held}
use Rattle.evaluation_kit.specs.Control.{Function, Callee, Own, Host}
use Rattle.evaluation_kit.specs.Forms.{Form, Flat, Enclose, Repeat, Choose, Guard, Invoke, InvokeBy, map_form}
use Rattle.evaluation_kit.specs.Languages.{Tree, Language}
use Rattle.meaning_new.specs.declared.val.Val.{Val}
use Rattle.meaning_new.specs.Store.{State, default}
use Rattle.meaning_new.specs.Host.{host_call}
use Rattle.meaning_new.specs.Forms.{layer, imported_funcs}
use Rattle.meaning_new.specs.Language.{map_twice}

held_twice : {X Y Z : Type 0} (f : X → Y) (g : Y → Z) (h : Instr) (t : _) (b : Option (Bodies X)) → map-Node Y Z g (map-Node X Y f (record { head = h; types = t; bodies = b })) ≡ map-Node X Z (λ x. g (f x)) (record { head = h; types = t; bodies = b })
held_twice f g h t None = refl
held_twice f g h t (Some b) =
    ap (λ c. record { head = h; types = t; bodies = Some (record { first = c; second = map g (map f b.second) }) }) (map_twice f g b.first)
    ∙ ap (λ c. record { head = h; types = t; bodies = Some (record { first = map (λ x. g (f x)) b.first; second = c }) }) (map_twice f g b.second)

pub over_twice : (X Y Z : Type 0) (f : X → Y) (g : Y → Z) (l : Node-F X) → map-Node Y Z g (map-Node X Y f l) ≡ map-Node X Z (λ x. g (f x)) l
over_twice X Y Z f g l = held_twice f g l.head l.types l.bodies

pub induct : (P : Node → Type 0) → ((l : Node-F ((i : Node) × P i)) → P (roll-Node (map-Node ((i : Node) × P i) Node (λ x. x.0) l))) → (i : Node) → P i
induct P step =
    ind-Node P (λ l inner e. subst (λ x. P (roll-Node x)) e (subst (λ x. P (roll-Node x)) (over_twice _ _ _ (λ x. (x.0, x.1)) (λ x. x.0) inner) (step (map-Node _ ((i : Node) × P i) (λ x. (x.0, x.1)) inner))))

-- nodes as a tree
abbrev pub node_tree : Tree Node Node-F
node_tree = record {
  roll = roll-Node;
  over = map-Node;
  fold = fold-Node;
  fold_roll = fold-roll-Node;
  over_twice = over_twice;
  induct = induct;
}

-- a form with other bodies
abbrev pub with_code : {V S X Y : Type 0} → Form V S X → List Y → List Y → Form V S Y
with_code (Flat act) first second = Flat act
with_code (Enclose p r body) first second = Enclose p r first
with_code (Repeat p r body) first second = Repeat p r first
with_code (Choose test p r a b) first second = Choose test p r first second
with_code (Guard p r h body) first second = Guard p r h first
with_code (Invoke p x) first second = Invoke p x
with_code (InvokeBy p pick) first second = InvokeBy p pick

-- the form of a node, whose bodies hold anything
abbrev pub node_layer : Module → (X : Type 0) → Node-F X → Form Val State X
node_layer m X n = with_code (layer m Instr (out-Instr n.head)) (first_held n.bodies) (second_held n.bodies)

pub code_over : {V S X Y Z : Type 0} (f : Y → Z) (form : Form V S X) (first second : List Y) → with_code form (map f first) (map f second) ≡ map_form f (with_code form first second)
code_over f (Flat act) a b = refl
code_over f (Enclose p r body) a b = refl
code_over f (Repeat p r body) a b = refl
code_over f (Choose test p r x y) a b = refl
code_over f (Guard p r h body) a b = refl
code_over f (Invoke p x) a b = refl
code_over f (InvokeBy p pick) a b = refl

pub held_over : (m : Module) {X Y : Type 0} (f : X → Y) (h : Instr) (t : _) (b : Option (Bodies X)) → node_layer m Y (map-Node X Y f (record { head = h; types = t; bodies = b })) ≡ map_form f (node_layer m X (record { head = h; types = t; bodies = b }))
held_over m f h t None = code_over f (layer m Instr (out-Instr h)) [] []
held_over m f h t (Some b) = code_over f (layer m Instr (out-Instr h)) b.first b.second

-- a function of nodes, and what an index names, by its type
abbrev pub node_function : FuncType → TypedFn → Function Node Val
node_function t f = record { params = length t.params; results = length t.results; zeros = map default f.locals; body = f.body }

abbrev pub node_callee : Module → List TypedFn → ℕ → FuncType → Option (Callee Node Val State)
node_callee m fns x t =
    if nat_lt x (imported_funcs m) then Some (Host (length t.params) (host_call m x)) else option_map (λ f. Own (node_function t f)) (slice_get fns (x - imported_funcs m))

-- the language in which a module is written whose functions are these
abbrev pub node_language : Module → List TypedFn → Language Node Node-F Val State
node_language m fns = record {
  tree = node_tree;
  layer = node_layer m;
  ready = λ X l p. true;
  layer_over = λ X Y f l. held_over m f l.head l.types l.bodies;
  ready_over = λ X Y f l. refl;
  callee = λ x. option_and_then (node_callee m fns x) (func_type m x);
}
