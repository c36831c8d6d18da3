-- A node that stays is typed where its form stays.
use Rattle.std.proofs.Common.{◌≡◌, Bool, true, false, List, [], ◌∷◌, Some, refl, sym, ap, ◌∙◌, subst}
use Rattle.wasm_ast.specs.declared.module.ty.Ty.{Ty}
use Rattle.wasm_ast.specs.declared.module.code.Instr.{Instr}
use Rattle.typing_kit.specs.Form.{Block, Choice}
use Rattle.typing_kit.specs.Leaf.{FitsLeaf}
use Rattle.typed_trees.specs.declared.node.Node.{Node, out-Node, out-roll-Node}
use Rattle.typed_trees.specs.declared.node.Node.TheOpen.{Node-F}
use Rattle.typed_trees.specs.Contexts.{Context}
use Rattle.typed_trees.specs.Forms.{InstrForm, form, language}
use Rattle.typed_trees.specs.Trees.{first_held, second_held, leaves, EndsAs, TypedNode, TypedNodes, plain, block, choice, none, more, last, head_of, takes_of, gives_of, first_of, second_of}
use Rattle.rewriting_kit.specs.Rewrites.{held, node_of}
use Rattle.rewriting_kit.specs.Fitting.{Here, Fits, after}

-- the bodies of a node that is put together
first_of_held : (first second : List Node) → first_held (held first second) ≡ first
first_of_held [] [] = refl
first_of_held [] (n ∷ second) = refl
first_of_held (n ∷ first) second = refl

second_of_held : (first second : List Node) → second_held (held first second) ≡ second
second_of_held [] [] = refl
second_of_held [] (n ∷ second) = refl
second_of_held (n ∷ first) second = refl

module _ (c : Context) (ls : List (List Ty)) where
  -- a node that fits its form is typed
  by_form : (n : Node) (f : InstrForm) → form c ls (head_of n) ≡ f → Fits c (Here c ls) f (takes_of n) (gives_of n) (first_of n) (second_of n) → TypedNode c ls n
  by_form n (Block label a b code) e (t, g, empty, body, second) =
      block c ls n label body.end
      (e ∙ ap (λ l. Block label a b l) empty ∙ ap (λ l. Block label l b []) (sym t) ∙ ap (λ l. Block label (takes_of n) l []) (sym g))
      (subst (λ l. TypedNodes c (label ∷ ls) (first_of n) l body.end) (sym t) body.typed)
      (subst (EndsAs body.end) (sym g) body.ends) second
  by_form n (Choice label a b code other) e (t, g, empty, empty', body, body') =
      choice c ls n label a body.end body'.end
      (e ∙ ap (λ l. Choice label a b l other) empty ∙ ap (λ l. Choice label a b [] l) empty' ∙ ap (λ l. Choice label a l [] []) (sym g)) t
      body.typed (subst (EndsAs body.end) (sym g) body.ends) body'.typed (subst (EndsAs body'.end) (sym g) body'.ends)
  by_form n f e h = plain c ls n (subst (λ g. FitsLeaf (language c) g (takes_of n) (gives_of n)) (sym e) h.0) h.1 h.2

  pub of_fits : (n : Node) → Fits c (Here c ls) (form c ls (head_of n)) (takes_of n) (gives_of n) (first_of n) (second_of n) → TypedNode c ls n
  of_fits n h = by_form n (form c ls (head_of n)) refl h

  -- one typed node as code
  pub alone : (n : Node) (b : Bool) → leaves (head_of n) ≡ b → TypedNode c ls n → TypedNodes c ls (n ∷ []) (takes_of n) (after b (gives_of n))
  alone n true e h = last c ls n [] h e
  alone n false e h = more c ls n [] [] (Some (gives_of n)) h e (none c ls (gives_of n))

  -- a node that is put together
  abbrev Made : Instr → List Ty → List Ty → List Node → List Node → Node-F Node → Type 0
  Made head takes gives first second l = (l.head ≡ head) × (l.types.0 ≡ takes) × (l.types.1 ≡ gives) × (first_held l.bodies ≡ first) × (second_held l.bodies ≡ second)

  made : (head : Instr) (takes gives : List Ty) (first second : List Node) → Made head takes gives first second (out-Node (node_of head takes gives first second))
  made head takes gives first second =
      subst (Made head takes gives first second) (sym (out-roll-Node (record { head = head; types = (takes, gives); bodies = held first second })))
      (refl, refl, refl, first_of_held first second, second_of_held first second)

  pub put_together : (head : Instr) (takes gives : List Ty) (first second : List Node) → Fits c (Here c ls) (form c ls head) takes gives first second → TypedNodes c ls (node_of head takes gives first second ∷ []) takes (after (leaves head) gives)
  put_together head takes gives first second h =
      let n = node_of head takes gives first second in
      let m = made head takes gives first second in
      let fits : Fits c (Here c ls) (form c ls (head_of n)) (takes_of n) (gives_of n) (first_of n) (second_of n) = rw (m.0, m.1, m.2, m.3, m.4) h in
      subst (λ l. TypedNodes c ls (n ∷ []) l (after (leaves head) gives)) m.1
      (subst (λ l. TypedNodes c ls (n ∷ []) (takes_of n) (after (leaves head) l)) m.2
      (subst (λ i. TypedNodes c ls (n ∷ []) (takes_of n) (after (leaves i) (gives_of n))) m.0
      (alone n (leaves (head_of n)) refl (of_fits n fits))))
