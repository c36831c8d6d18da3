-- One node, by what becomes of its bodies.
use Rattle.std.proofs.Common.{◌≡◌, List, [], ◌∷◌, ◌++◌, sym, ap, ◌∙◌}
use Rattle.wasm_ast.specs.declared.module.code.Instr.{Instr}
use Rattle.typed_trees.specs.declared.node.Node.{Node}
use Rattle.typed_trees.specs.Trees.{head_of, takes_of, gives_of, first_of, second_of}
use Rattle.rewriting_kit.specs.Rewrites.{Layer, rewrite, rewritten}
use Rattle.rewriting_kit.proofs.Typing.{rewrite_out}

module _ {E : Type 0} (entry : Instr → E) (layer : Layer E) where
  pub node_rewritten : (n : Node) (x inside inside' x' : List E) (first second : List Node) → inside ≡ x ++ entry (head_of n) ∷ [] → first ≡ rewritten entry layer (first_of n) inside → inside' ≡ inside → second ≡ rewritten entry layer (second_of n) inside' → x' ≡ x → layer x' (head_of n) (takes_of n) (gives_of n) first second ≡ rewrite entry layer n x
  node_rewritten n x inside inside' x' first second e f e' s p =
      ap (λ y. layer y (head_of n) (takes_of n) (gives_of n) first second) p
      ∙ ap (λ l. layer x (head_of n) (takes_of n) (gives_of n) l second) (f ∙ ap (rewritten entry layer (first_of n)) e)
      ∙ ap (λ l. layer x (head_of n) (takes_of n) (gives_of n) (rewritten entry layer (first_of n) (x ++ entry (head_of n) ∷ [])) l) (s ∙ ap (rewritten entry layer (second_of n)) (e' ∙ e))
      ∙ sym (rewrite_out entry layer n x)
