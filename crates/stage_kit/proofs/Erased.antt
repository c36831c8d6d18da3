-- From rewritten nodes to rewritten instructions: where a layer makes of each node what a step makes of its instruction, the
-- code of the rewritten nodes is the rewritten code of the nodes.
use Rattle.std.proofs.Common.{◌≡◌, List, [], ◌∷◌, ◌++◌, map, Option, Some, None, refl, sym, ap, ◌∙◌}
use Rattle.std.specs.Prelude.{flat_map}
use Rattle.std.proofs.lemmas.List.{map-append}
use Rattle.wasm_ast.specs.declared.module.ty.Ty.{Ty}
use Rattle.wasm_ast.specs.declared.module.code.Instr.{Instr, out-Instr, roll-Instr}
use Rattle.wasm_ast.specs.declared.module.code.Instr.TheOpen.{Instr-F}
use Rattle.wasm_ast.specs.declared.module.code.Instr.TheFolds.{map-Instr, fold-roll-Instr}
use Rattle.wasm_ast.specs.declared.module.parts.Module.{Module}
use Rattle.typed_trees.specs.declared.node.Bodies.{Bodies}
use Rattle.typed_trees.specs.declared.node.Node.{Node}
use Rattle.typed_trees.specs.declared.node.Node.TheFolds.{map-Node, fold-roll-Node}
use Rattle.typed_trees.specs.Trees.{with_bodies, first_held, second_held, erase, erase_layer, erased}
use Rattle.rewriting_kit.specs.Rewrites as nodes
use Rattle.rewriting_kit.specs.Rewrites.{Layer, all_at, rewrite_layer, rewritten, held, node_of}
use Rattle.simulation_kit.specs.Rewriting.{Step, body_at, rewrite}
use Rattle.meaning_new.specs.Language.{language}
use Rattle.node_meaning.specs.Nodes.{over_twice, induct}
pub use Rattle.rewriting_kit.proofs.Trees.{erase_made}
use Rattle.stage_kit.specs.Kept.{with_code, keep}

-- the instruction of a layer whose bodies, of this code, are rewritten
abbrev pub parts : {X : Type 0} → (Instr → X → List Instr) → Instr → List Instr → List Instr → Instr-F (X → List Instr)
parts {X = X} f head code code' = map-Instr Instr (X → List Instr) f (with_bodies (out-Instr head) code code')

module _ {X : Type 0} (inner : X) (f : Instr → X → List Instr) where
  kept_layer : (l : Instr-F Instr) (code code' : List Instr) → with_bodies l (body_at inner (map f code)) (body_at inner (map f code')) ≡ with_code (body_at inner) (map-Instr Instr (X → List Instr) f (with_bodies l code code'))
  kept_layer (Instr-F.Block t body) code code' = refl
  kept_layer (Instr-F.Loop t body) code code' = refl
  kept_layer (Instr-F.If t body body') code code' = refl
  kept_layer (Instr-F.TryTable t clauses body) code code' = refl
  kept_layer l code code' = refl

  -- a node that is kept is an instruction that is kept
  pub kept_node : (head : Instr) (takes gives : List Ty) (first second : List Node) (code code' : List Instr) → erased first ≡ body_at inner (map f code) → erased second ≡ body_at inner (map f code')
      → erased (node_of head takes gives first second ∷ []) ≡ keep inner (parts f head code code')
  kept_node head takes gives first second code code' e e' =
      ap (λ i. i ∷ [])
      (erase_made head takes gives first second
      ∙ ap (λ l. roll-Instr (with_bodies (out-Instr head) l (erased second))) e
      ∙ ap (λ l. roll-Instr (with_bodies (out-Instr head) (body_at inner (map f code)) l)) e'
      ∙ ap roll-Instr (kept_layer (out-Instr head) code code'))

-- A step sees the place that stands for the entries of the bodies around.
module _ {E X : Type 0} (entry : Instr → E) (layer : Layer E) (step : Step X Instr-F Instr) (place : List E → X) where
  -- What a layer owes: where the rewritten bodies of a node are the rewritten code of its bodies, the code of the rewritten
  -- node is what the step makes of the instruction.
  pub record OwesStep : Type 0 where
    pub stepped : (x : List E) (head : Instr) (takes gives : List Ty) (first second : List Node) (f : Instr → X → List Instr) (code code' : List Instr)
        → erased first ≡ body_at (place (x ++ entry head ∷ [])) (map f code) → erased second ≡ body_at (place (x ++ entry head ∷ [])) (map f code')
        → erased (layer x head takes gives first second) ≡ step (parts f head code code') (place x)

module _ {E X : Type 0} (entry : Instr → E) (layer : Layer E) (step : Step X Instr-F Instr) (place : List E → X) (owes : OwesStep entry layer step place) (m : Module) where
  abbrev new : Instr → X → List Instr
  new = rewrite (language m) step

  abbrev Same : Node → Type 0
  Same n = (x : List E) → erased (nodes.rewrite entry layer n x) ≡ new (erase n) (place x)

  abbrev Known : Type 0
  Known = (n : Node) × Same n

  bodies_same : (ks : List Known) (x : List E) → erased (all_at x (map (λ k. nodes.rewrite entry layer k.0) ks)) ≡ body_at (place x) (map new (map (λ k. erase k.0) ks))
  bodies_same [] x = refl
  bodies_same (k ∷ ks) x =
      map-append erase (nodes.rewrite entry layer k.0 x) (all_at x (map (λ j. nodes.rewrite entry layer j.0) ks))
      ∙ ap (λ l. l ++ erased (all_at x (map (λ j. nodes.rewrite entry layer j.0) ks))) (k.1 x)
      ∙ ap (λ l. new (erase k.0) (place x) ++ l) (bodies_same ks x)

  layer_same : (head : Instr) (types : List Ty × List Ty) (bodies : Option (Bodies Known)) (x : List E)
      → erased (rewrite_layer entry layer (map-Node Known (List E → List Node) (λ k. nodes.rewrite entry layer k.0) (record { head = head; types = types; bodies = bodies })) x)
      ≡ step (parts new head (map (λ k. erase k.0) (first_held bodies)) (map (λ k. erase k.0) (second_held bodies))) (place x)
  layer_same head types None x = owes.stepped x head types.0 types.1 [] [] new [] [] refl refl
  layer_same head types (Some b) x =
      let inner : List E = x ++ entry head ∷ [] in
      owes.stepped x head types.0 types.1 (all_at inner (map (λ k. nodes.rewrite entry layer k.0) b.first)) (all_at inner (map (λ k. nodes.rewrite entry layer k.0) b.second)) new (map (λ k. erase k.0) b.first) (map (λ k. erase k.0) b.second) (bodies_same b.first inner) (bodies_same b.second inner)

  erased_layer : (head : Instr) (types : List Ty × List Ty) (bodies : Option (Bodies Known)) → erase_layer (map-Node Known Instr (λ k. erase k.0) (record { head = head; types = types; bodies = bodies })) ≡ roll-Instr (with_bodies (out-Instr head) (map (λ k. erase k.0) (first_held bodies)) (map (λ k. erase k.0) (second_held bodies)))
  erased_layer head types None = refl
  erased_layer head types (Some b) = refl

  node_same : (n : Node) → Same n
  node_same = induct Same (λ l x.
      let code : Instr-F Instr = with_bodies (out-Instr l.head) (map (λ k. erase k.0) (first_held l.bodies)) (map (λ k. erase k.0) (second_held l.bodies)) in
      ap (λ (g : List E → List Node). erased (g x)) (fold-roll-Node (List E → List Node) (rewrite_layer entry layer) (map-Node Known Node (λ k. k.0) l))
      ∙ ap (λ y. erased (rewrite_layer entry layer y x)) (over_twice Known Node (List E → List Node) (λ k. k.0) (nodes.rewrite entry layer) l)
      ∙ layer_same l.head l.types l.bodies x
      ∙ ap (λ (g : X → List Instr). g (place x)) (sym (fold-roll-Instr (X → List Instr) step code))
      ∙ ap (λ i. new i (place x)) (sym (erased_layer l.head l.types l.bodies))
      ∙ ap (λ y. new (erase_layer y) (place x)) (sym (over_twice Known Node Instr (λ k. k.0) erase l))
      ∙ ap (λ i. new i (place x)) (sym (fold-roll-Node Instr erase_layer (map-Node Known Node (λ k. k.0) l))))

  -- The lemma: the code of rewritten nodes is the rewritten code of the nodes.
  pub code_same : (ns : List Node) (x : List E) → erased (rewritten entry layer ns x) ≡ flat_map (λ i. rewrite (language m) step i (place x)) (erased ns)
  code_same [] x = refl
  code_same (n ∷ ns) x =
      map-append erase (nodes.rewrite entry layer n x) (rewritten entry layer ns x)
      ∙ ap (λ l. l ++ erased (rewritten entry layer ns x)) (node_same n x)
      ∙ ap (λ l. new (erase n) (place x) ++ l) (code_same ns x)
