-- A body whose nodes name no data segment stands for code that names none.
use Rattle.std.proofs.Common.{◌≡◌, Bool, true, false, ◌||◌, List, [], ◌∷◌, map, Option, Some, None, refl, sym, ap, ◌∙◌, subst}
use Rattle.std.specs.List.{list_any}
use Rattle.std.proofs.lemmas.List.Folds.{list_any-append}
use Rattle.wasm_ast.specs.Counts.{is_data_use, names_data}
use Rattle.wasm_ast.specs.Occurrence.{head, some, some_step}
use Rattle.wasm_ast.specs.Occurrence as occurrence
use Rattle.wasm_ast.specs.declared.module.ty.Ty.{Ty}
use Rattle.wasm_ast.specs.declared.module.code.Instr.{Instr, out-Instr}
use Rattle.wasm_ast.specs.declared.module.code.Instr.TheOpen.{Instr-F}
use Rattle.wasm_ast.specs.declared.module.code.Instr.TheFolds.{map-Instr, fold-roll-Instr}
use Rattle.typed_trees.specs.declared.node.Bodies.{Bodies}
use Rattle.typed_trees.specs.declared.node.Node.{Node, out-Node, roll-Node}
use Rattle.typed_trees.specs.declared.node.Node.TheFolds.{map-Node, fold_out-Node}
use Rattle.typed_trees.specs.Trees.{with_bodies, first_held, second_held, erase, erased, head_of, first_of, second_of}
use Rattle.typed_trees.proofs.Erasing.{erase_out}
use Rattle.pass_plain.specs.Trimming.{asks, asks_layer}
use Rattle.rewriting_kit.proofs.Showing.{or_left, or_right, or_both, unless_true, any_of}
use Rattle.pass_plain.proofs.Trees.{induct_node, first_rolled, second_rolled}

any_mapped : (nodes : List Node) → list_any (λ b. b) (map asks nodes) ≡ list_any asks nodes
any_mapped [] = refl
any_mapped (n ∷ nodes) = ap (λ b. asks n || b) (any_mapped nodes)

held_mapped : (i : Instr) (types : List Ty × List Ty) (bodies : Option (Bodies Node)) → asks_layer (map-Node Node Bool asks (record { head = i; types = types; bodies = bodies })) ≡ (is_data_use (occurrence.head_of i) || list_any asks (first_held bodies) || list_any asks (second_held bodies))
held_mapped i types None = refl
held_mapped i types (Some b) =
    ap (λ x. is_data_use (occurrence.head_of i) || x || list_any (λ y. y) (map asks b.second)) (any_mapped b.first)
    ∙ ap (λ x. is_data_use (occurrence.head_of i) || list_any asks b.first || x) (any_mapped b.second)

-- a node asks where its instruction does, or a node in it
pub asks_out : (n : Node) → asks n ≡ (is_data_use (occurrence.head_of (head_of n)) || list_any asks (first_of n) || list_any asks (second_of n))
asks_out n = fold_out-Node Bool asks_layer n ∙ held_mapped (out-Node n).head (out-Node n).types (out-Node n).bodies

-- one after another
module _ (n : Node) where
  abbrev here : Bool
  here = is_data_use (occurrence.head_of (head_of n))

  pub asks_here : here ≡ true → true ≡ asks n
  asks_here e = sym (asks_out n ∙ or_left (here || list_any asks (first_of n)) (list_any asks (second_of n)) (or_left here (list_any asks (first_of n)) e))

  pub asks_first : list_any asks (first_of n) ≡ true → true ≡ asks n
  asks_first e = sym (asks_out n ∙ or_left (here || list_any asks (first_of n)) (list_any asks (second_of n)) (or_right here (list_any asks (first_of n)) e))

  pub asks_second : here ≡ false → list_any asks (first_of n) ≡ false → list_any asks (second_of n) ≡ asks n
  asks_second e e' =
      sym (asks_out n ∙ ap (λ b. b || list_any asks (first_of n) || list_any asks (second_of n)) e ∙ ap (λ b. b || list_any asks (second_of n)) e')

-- where an instruction or one in its bodies names a segment
abbrev uses : Instr → Bool
uses = some is_data_use

layer_asks : (l : Instr-F Instr) (a b : List Instr) (x y : Bool) → (list_any uses a ≡ true → x ≡ true) → (list_any uses b ≡ true → y ≡ true) → some_step is_data_use (map-Instr Instr Bool uses (with_bodies l a b)) ≡ true → (is_data_use (head l) || x || y) ≡ true
layer_asks (Instr-F.Block t code) a b x y f g h = or_left x y (f (sym (any_of is_data_use a) ∙ h))
layer_asks (Instr-F.Loop t code) a b x y f g h = or_left x y (f (sym (any_of is_data_use a) ∙ h))
layer_asks (Instr-F.If t code code') a b x y f g h =
    or_both (list_any (λ z. z) (map uses a)) (list_any (λ z. z) (map uses b)) x y (λ e. f (sym (any_of is_data_use a) ∙ e)) (λ e. g (sym (any_of is_data_use b) ∙ e))
    (sym (list_any-append (λ z. z) (map uses a) (map uses b)) ∙ h)
layer_asks (Instr-F.TryTable t clauses code) a b x y f g h = or_left x y (f (sym (any_of is_data_use a) ∙ h))
layer_asks (Instr-F.MemoryInit segment memory) a b x y f g h = refl
layer_asks (Instr-F.DataDrop segment) a b x y f g h = refl
layer_asks l a b x y f g h = absurd cc

abbrev Asks : Node → Type 0
Asks n = uses (erase n) ≡ true → asks n ≡ true

abbrev CodeAsks : List Node → Type 0
CodeAsks nodes = list_any uses (erased nodes) ≡ true → list_any asks nodes ≡ true

one_more : (n : Node) (nodes : List Node) → Asks n → CodeAsks nodes → CodeAsks (n ∷ nodes)
one_more n nodes f g h = or_both (uses (erase n)) (list_any uses (erased nodes)) (asks n) (list_any asks nodes) f g h

known : (ks : List ((n : Node) × Asks n)) → CodeAsks (map (λ k. k.0) ks)
known [] h = h
known (k ∷ ks) h = one_more k.0 (map (λ j. j.0) ks) k.1 (known ks) h

by_bodies : (n : Node) → CodeAsks (first_of n) → CodeAsks (second_of n) → Asks n
by_bodies n f g h =
    asks_out n
    ∙ layer_asks (out-Instr (head_of n)) (erased (first_of n)) (erased (second_of n)) (list_any asks (first_of n)) (list_any asks (second_of n)) f g
    (sym (fold-roll-Instr Bool (some_step is_data_use) (with_bodies (out-Instr (head_of n)) (erased (first_of n)) (erased (second_of n)))) ∙ sym (ap uses (erase_out n)) ∙ h)

node_asks : (n : Node) → Asks n
node_asks = induct_node Asks (λ l.
    by_bodies (roll-Node (map-Node ((n : Node) × Asks n) Node (λ k. k.0) l))
    (subst CodeAsks (sym (first_rolled (λ (k : (n : Node) × Asks n). k.0) l)) (known (first_held l.bodies)))
    (subst CodeAsks (sym (second_rolled (λ (k : (n : Node) × Asks n). k.0) l)) (known (second_held l.bodies))))

-- code that names a segment stands for nodes that do
pub code_asks : (nodes : List Node) → names_data (erased nodes) ≡ true → list_any asks nodes ≡ true
code_asks [] h = h
code_asks (n ∷ nodes) h = one_more n nodes (node_asks n) (code_asks nodes) h

pub not_asked : (nodes : List Node) → list_any asks nodes ≡ false → names_data (erased nodes) ≡ false
not_asked nodes e = unless_true (names_data (erased nodes)) (list_any asks nodes) (code_asks nodes) e
