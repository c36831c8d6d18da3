-- What is read off code, instruction by instruction: rewritten code gives what the code gives where each layer does.
use Rattle.std.proofs.Common.{◌≡◌, List, [], ◌∷◌, ◌++◌, map, refl, sym, ap, ◌∙◌, subst}
use Rattle.std.proofs.lemmas.List.{map-append}
use Rattle.wasm_ast.specs.declared.module.ty.Ty.{Ty}
use Rattle.wasm_ast.specs.declared.module.code.Instr.{Instr, out-Instr, roll-Instr}
use Rattle.typed_trees.specs.declared.node.Node.{Node, roll-Node}
use Rattle.typed_trees.specs.declared.node.Node.TheFolds.{map-Node}
use Rattle.typed_trees.specs.Trees.{with_bodies, first_held, second_held, erase, erased, head_of, takes_of, gives_of, first_of, second_of}
use Rattle.typed_trees.proofs.Erasing.{erase_out}
use Rattle.rewriting_kit.specs.Rewrites.{Layer, rewrite, rewritten, node_of}
use Rattle.rewriting_kit.proofs.Typing.{rewrite_out}
use Rattle.pass_plain.proofs.Trees.{induct_node, first_rolled, second_rolled, erase_made}

-- What is read off no code, and off code behind code.
pub record Reading (X : Type 0) : Type 0 where
  pub none : X
  pub both : X → X → X
  pub none_first : (x : X) → both none x ≡ x
  pub none_last : (x : X) → both x none ≡ x
  pub grouped : (x y z : X) → both (both x y) z ≡ both x (both y z)

module _ {X : Type 0} (R : Reading X) where
  -- what is read off code, by what is read off one instruction
  abbrev pub read : (Instr → X) → List Instr → X
  read one [] = R.none
  read one (i ∷ code) = R.both (one i) (read one code)

  pub read_append : (one : Instr → X) (a b : List Instr) → read one (a ++ b) ≡ R.both (read one a) (read one b)
  read_append one [] b = sym (R.none_first (read one b))
  read_append one (i ∷ a) b = ap (R.both (one i)) (read_append one a b) ∙ sym (R.grouped (one i) (read one a) (read one b))

  -- one node that is put together
  pub read_made : (one : Instr → X) (head : Instr) (takes gives : List Ty) (first second : List Node) → read one (erased (node_of head takes gives first second ∷ [])) ≡ one (roll-Instr (with_bodies (out-Instr head) (erased first) (erased second)))
  read_made one head takes gives first second =
      R.none_last (one (erase (node_of head takes gives first second))) ∙ ap one (erase_made head takes gives first second)

module _ {X : Type 0} (R : Reading X) (old new : Instr → X) {E : Type 0} (entry : Instr → E) (layer : Layer E) where
  -- what a layer owes: where the rewritten bodies give what the bodies give, the rewritten node gives what the node gives
  pub record OwesAlike : Type 0 where
    pub alike : (x : List E) (head : Instr) (takes gives : List Ty) (code code' : List Instr) (first second : List Node)
        → read R old code ≡ read R new (erased first) → read R old code' ≡ read R new (erased second)
        → old (roll-Instr (with_bodies (out-Instr head) code code')) ≡ read R new (erased (layer x head takes gives first second))

module _ {X : Type 0} (R : Reading X) (old new : Instr → X) {E : Type 0} (entry : Instr → E) (layer : Layer E) (owes : OwesAlike R old new entry layer) where
  abbrev CodeAlike : List Node → List E → Type 0
  CodeAlike nodes x = read R old (erased nodes) ≡ read R new (erased (rewritten entry layer nodes x))

  abbrev Alike : Node → Type 0
  Alike n = (x : List E) → old (erase n) ≡ read R new (erased (rewrite entry layer n x))

  one_more : (n : Node) (nodes : List Node) (x : List E) → Alike n → CodeAlike nodes x → CodeAlike (n ∷ nodes) x
  one_more n nodes x h t =
      ap (λ y. R.both y (read R old (erased nodes))) (h x)
      ∙ ap (R.both (read R new (erased (rewrite entry layer n x)))) t
      ∙ sym (read_append R new (erased (rewrite entry layer n x)) (erased (rewritten entry layer nodes x)))
      ∙ ap (read R new) (sym (map-append erase (rewrite entry layer n x) (rewritten entry layer nodes x)))

  known : (ks : List ((n : Node) × Alike n)) (x : List E) → CodeAlike (map (λ k. k.0) ks) x
  known [] x = refl
  known (k ∷ ks) x = one_more k.0 (map (λ j. j.0) ks) x k.1 (known ks x)

  by_bodies : (n : Node) → ((x : List E) → CodeAlike (first_of n) x) → ((x : List E) → CodeAlike (second_of n) x) → Alike n
  by_bodies n f s x =
      let inner : List E = x ++ entry (head_of n) ∷ [] in
      ap old (erase_out n)
      ∙ owes.alike x (head_of n) (takes_of n) (gives_of n) (erased (first_of n)) (erased (second_of n)) (rewritten entry layer (first_of n) inner) (rewritten entry layer (second_of n) inner) (f inner) (s inner)
      ∙ ap (λ l. read R new (erased l)) (sym (rewrite_out entry layer n x))

  node_alike : (n : Node) → Alike n
  node_alike = induct_node Alike (λ l.
      let rolled : Node = roll-Node (map-Node ((n : Node) × Alike n) Node (λ k. k.0) l) in
      by_bodies rolled
      (λ x. subst (λ nodes. CodeAlike nodes x) (sym (first_rolled (λ (k : (n : Node) × Alike n). k.0) l)) (known (first_held l.bodies) x))
      (λ x. subst (λ nodes. CodeAlike nodes x) (sym (second_rolled (λ (k : (n : Node) × Alike n). k.0) l)) (known (second_held l.bodies) x)))

  -- rewritten code gives what the code gives
  pub code_alike : (nodes : List Node) (x : List E) → read R old (erased nodes) ≡ read R new (erased (rewritten entry layer nodes x))
  code_alike [] x = refl
  code_alike (n ∷ nodes) x = one_more n nodes x (node_alike n) (code_alike nodes x)
