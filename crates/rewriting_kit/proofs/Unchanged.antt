-- A node that stays, with bodies whose nodes stay, is as it was.
use Rattle.std.proofs.Common.{◌≡◌, List, [], ◌∷◌, ◌++◌, Option, Some, None, refl, sym, ap, ◌∙◌}
use Rattle.wasm_ast.specs.declared.module.code.Instr.{Instr}
use Rattle.typed_trees.specs.declared.node.Bodies.{Bodies}
use Rattle.typed_trees.specs.declared.node.Node.{Node, roll-Node, out-Node, roll-out-Node}
use Rattle.typed_trees.specs.Trees.{head_of, takes_of, gives_of, first_of, second_of, first_held, second_held}
use Rattle.rewriting_kit.specs.Rewrites.{Layer, Stays, held, rewrite, rewritten}
use Rattle.rewriting_kit.proofs.Typing.{rewrite_out}

-- bodies with some node are held as they are
pub held_by_first : (first second : List Node) → (first ≡ [] → ⊥) → held first second ≡ Some (record { first = first; second = second })
held_by_first [] second some = absurd (some refl)
held_by_first (n ∷ first) second some = refl

pub held_by_second : (first second : List Node) → (second ≡ [] → ⊥) → held first second ≡ Some (record { first = first; second = second })
held_by_second first [] some = absurd (some refl)
held_by_second [] (n ∷ second) some = refl
held_by_second (m ∷ first) (n ∷ second) some = refl

module _ {E : Type 0} (entry : Instr → E) (layer : Layer E) (n : Node) (stays : Stays layer (head_of n)) where
  unchanged : held (first_of n) (second_of n) ≡ (out-Node n).bodies → ((x : List E) → rewritten entry layer (first_of n) x ≡ first_of n) → ((x : List E) → rewritten entry layer (second_of n) x ≡ second_of n) → (x : List E) → rewrite entry layer n x ≡ n ∷ []
  unchanged same first second x =
      let inner : List E = x ++ entry (head_of n) ∷ [] in
      rewrite_out entry layer n x
      ∙ ap (λ l. layer x (head_of n) (takes_of n) (gives_of n) l (rewritten entry layer (second_of n) inner)) (first inner)
      ∙ ap (λ l. layer x (head_of n) (takes_of n) (gives_of n) (first_of n) l) (second inner)
      ∙ stays x (takes_of n) (gives_of n) (first_of n) (second_of n)
      ∙ ap (λ (b : Option (Bodies Node)). roll-Node (record { head = head_of n; types = (takes_of n, gives_of n); bodies = b }) ∷ []) same
      ∙ ap (λ m. m ∷ []) (roll-out-Node n)

  pub without_bodies : (out-Node n).bodies ≡ None → (x : List E) → rewrite entry layer n x ≡ n ∷ []
  without_bodies none =
      let first : first_of n ≡ [] = ap first_held none in
      let second : second_of n ≡ [] = ap second_held none in
      unchanged (ap (λ l. held l (second_of n)) first ∙ ap (λ l. held [] l) second ∙ sym none)
      (λ x. ap (λ l. rewritten entry layer l x) first ∙ sym first)
      (λ x. ap (λ l. rewritten entry layer l x) second ∙ sym second)

  pub with_bodies_kept : (b : Bodies Node) → (out-Node n).bodies ≡ Some b → held b.first b.second ≡ Some b → ((x : List E) → rewritten entry layer b.first x ≡ b.first) → ((x : List E) → rewritten entry layer b.second x ≡ b.second) → (x : List E) → rewrite entry layer n x ≡ n ∷ []
  with_bodies_kept b some kept first second =
      let e : first_of n ≡ b.first = ap first_held some in
      let e' : second_of n ≡ b.second = ap second_held some in
      unchanged (ap (λ l. held l (second_of n)) e ∙ ap (λ l. held b.first l) e' ∙ kept ∙ sym some)
      (λ x. ap (λ l. rewritten entry layer l x) e ∙ first x ∙ sym e)
      (λ x. ap (λ l. rewritten entry layer l x) e' ∙ second x ∙ sym e')

-- nodes one after another
pub more_unchanged : {E : Type 0} (entry : Instr → E) (layer : Layer E) (n : Node) (nodes : List Node) (x : List E) → rewrite entry layer n x ≡ n ∷ [] → rewritten entry layer nodes x ≡ nodes → rewritten entry layer (n ∷ nodes) x ≡ n ∷ nodes
more_unchanged entry layer n nodes x here others = ap (λ l. l ++ rewritten entry layer nodes x) here ∙ ap (λ l. n ∷ l) others
