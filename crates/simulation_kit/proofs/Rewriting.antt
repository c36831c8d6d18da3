-- The induction over code: what a rewriting owes for one layer holds of all code.
use Rattle.std.proofs.Common.{◌≡◌, ℕ, List, [], ◌∷◌, ◌++◌, map, flat_map, refl, sym, ap, ◌∙◌, subst}
use Rattle.std.proofs.lemmas.List.{map-append}
use Rattle.outcome_kit.specs.Code.{run}
use Rattle.evaluation_kit.specs.Configurations.{Sem}
use Rattle.evaluation_kit.specs.Control.{when_ready}
use Rattle.evaluation_kit.specs.Forms.{Form, Flat, Enclose, Repeat, Choose, Guard, Invoke, InvokeBy, map_form, eval}
use Rattle.evaluation_kit.specs.Languages.{Language, exec_layer, func, exec, exec_code}
use Rattle.simulation_kit.specs.Matches.{Match, Context, Sims, Lawful}
use Rattle.simulation_kit.specs.Staying.{CallsStay, AllFuncsSim, ReadyStays}
use Rattle.simulation_kit.specs.Rewriting.{Step, body_at, rewrite, FormStays, Simulated, Inner, Layers, Through}
use Rattle.simulation_kit.proofs.Sequences.{sims_nothing, sims_one, sims_several, sims_leaf, sims_ready}
use Rattle.simulation_kit.proofs.Blocks.{sims_block, sims_loop, sims_choose}
use Rattle.simulation_kit.proofs.Handling.{sims_guard}
use Rattle.simulation_kit.proofs.Calling.{sims_call, sims_call_by}

module _ {I : Type 0} {F : Type 0 → Type 0} {V S : Type 0} (L : Language I F V S) where
  -- an instruction whose bodies are given with anything beside
  layer_of : (P : I → Type 0) (l : F ((i : I) × P i)) → when_ready (L.ready ((i : I) × P i) l) (eval (func L) (map_form (λ y. exec L y.0) (L.layer ((i : I) × P i) l))) ≡ exec L (L.tree.roll (L.tree.over ((i : I) × P i) I (λ y. y.0) l))
  layer_of P l =
      let inner = (i : I) × P i in
      let f : inner → Sem V S = λ y. exec L y.0 in
      ap (λ ready. when_ready ready (eval (func L) (map_form f (L.layer inner l)))) (sym (L.ready_over inner (Sem V S) f l))
      ∙ ap (λ form. when_ready (L.ready (Sem V S) (L.tree.over inner (Sem V S) f l)) (eval (func L) form)) (sym (L.layer_over inner (Sem V S) f l))
      ∙ ap (exec_layer L (func L)) (sym (L.tree.over_twice inner I (Sem V S) (λ y. y.0) (exec L) l))
      ∙ sym (L.tree.fold_roll (Sem V S) (exec_layer L (func L)) (L.tree.over inner I (λ y. y.0) l))

  -- an instruction by its layer
  pub exec-rolled : (l : F I) → when_ready (L.ready I l) (eval (func L) (map_form (exec L) (L.layer I l))) ≡ exec L (L.tree.roll l)
  exec-rolled l =
      ap (λ ready. when_ready ready (eval (func L) (map_form (exec L) (L.layer I l)))) (sym (L.ready_over I (Sem V S) (exec L) l))
      ∙ ap (λ form. when_ready (L.ready (Sem V S) (L.tree.over I (Sem V S) (exec L) l)) (eval (func L) form)) (sym (L.layer_over I (Sem V S) (exec L) l))
      ∙ sym (L.tree.fold_roll (Sem V S) (exec_layer L (func L)) l)

  -- what becomes of the instruction of a layer
  rewrite-layer : {I' X : Type 0} (step : Step X F I') (P : I → Type 0) (l : F ((i : I) × P i)) → rewrite L step (L.tree.roll (L.tree.over ((i : I) × P i) I (λ y. y.0) l)) ≡ step (L.tree.over ((i : I) × P i) (X → List I') (λ y. rewrite L step y.0) l)
  rewrite-layer {I' = I'} {X = X} step P l =
      L.tree.fold_roll (X → List I') step (L.tree.over ((i : I) × P i) I (λ y. y.0) l)
      ∙ ap step (L.tree.over_twice ((i : I) × P i) I (X → List I') (λ y. y.0) (rewrite L step) l)

module _ {V S V' S' : Type 0} (W : Match V S V' S') {I I' : Type 0} {F F' : Type 0 → Type 0} (L : Language I F V S) (L' : Language I' F' V' S') where
  -- the same meaning, by equations
  moved : (N : ℕ) (x : Context W) (k m : W.Kind) (a e : Sem V S) (b f : Sem V' S') → a ≡ e → b ≡ f → Sims W N x k m a b → Sims W N x k m e f
  moved N x k m a e b f ea eb h = subst (λ i. Sims W N x k m i f) ea (subst (λ i. Sims W N x k m a i) eb h)

  kinds : (N : ℕ) (x : Context W) (k m i j : W.Kind) (a : Sem V S) (b : Sem V' S') → i ≡ k → j ≡ m → Sims W N x i j a b → Sims W N x k m a b
  kinds N x k m i j a b e f h = subst (λ u. Sims W N x u m a b) e (subst (λ u. Sims W N x i u a b) f h)

  -- one instruction becomes several, and what follows it what it becomes
  pub code_several : (N : ℕ) (x : Context W) (k h m : W.Kind) (a : Sem V S) (new : List I') (more : List (Sem V S)) (others : List I') → Sims W N x k h a (exec_code L' new) → Sims W N x h m (run more) (exec_code L' others) → Sims W N x k m (run (a ∷ more)) (exec_code L' (new ++ others))
  code_several N x k h m a new more others first rest =
      moved N x k m _ _ _ _ refl (ap run (sym (map-append (exec L') new others)))
      (sims_several W N x k h m a (map (exec L') new) more (map (exec L') others) first rest)

  -- an instruction of the output alone in its place
  pub code_one : (N : ℕ) (x : Context W) (k m : W.Kind) (a : Sem V S) (l' : F' I') → Sims W N x k m a (when_ready (L'.ready I' l') (eval (func L') (map_form (exec L') (L'.layer I' l')))) → Sims W N x k m a (exec_code L' (L'.tree.roll l' ∷ []))
  code_one N x k m a l' h = sims_one W N x k m a (exec L' (L'.tree.roll l')) (moved N x k m _ _ _ _ refl (exec-rolled L' l') h)

  module _ (laws : Lawful W) (stay : CallsStay W) (N : ℕ) (fs : AllFuncsSim W N (func L) (func L')) where
    -- a form that stays
    pub sims_form : (P : I → Type 0) (x : Context W) (k m : W.Kind) (form : Form V S ((i : I) × P i)) (form' : Form V' S' I') → FormStays W L L' {P = P} N x k m form form' → Sims W N x k m (eval (func L) (map_form (λ y. exec L y.0) form)) (eval (func L') (map_form (exec L') form'))
    sims_form P x k m (Flat act) (Flat act') s = sims_leaf W N x k m act act' s
    sims_form P x k m (Enclose p r code) (Enclose p' r' code') s =
        kinds N x k m _ _ _ _ s.from s.to (sims_block W laws N x s.inner s.takes s.gives s.rest p p' r r' _ _ s.around s.takes_width s.gives_width s.body)
    sims_form P x k m (Repeat p r code) (Repeat p' r' code') s =
        kinds N x k m _ _ _ _ s.from s.to (sims_loop W laws N x s.inner s.takes s.gives s.rest p p' r r' _ _ s.around s.takes_width s.gives_width s.body)
    sims_form P x k m (Choose test p r first second) (Choose test' p' r' first' second') s =
        kinds N x k m _ _ _ _ refl s.to (sims_choose W laws N x s.inner k s.takes s.gives s.rest test test' p p' r r' _ _ _ _ s.tests s.around s.takes_width s.gives_width s.first s.second)
    sims_form P x k m (Guard p r t code) (Guard p' r' t' code') s =
        kinds N x k m _ _ _ _ s.from s.to (sims_guard W laws N x s.inner s.takes s.gives s.rest p p' r r' t t' _ _ s.handlers s.around s.takes_width s.gives_width s.body)
    sims_form P x k m (Invoke p f) (Invoke p' f') s =
        kinds N x k m _ _ _ _ s.from s.to (sims_call W stay N x s.takes s.gives s.rest p p' (func L f) (func L' f') s.width (fs f f' s.takes s.gives s.names))
    sims_form P x k m (InvokeBy p pick) (InvokeBy p' pick') s =
        kinds N x k m _ _ _ _ refl s.to (sims_call_by W stay N x k s.takes s.gives s.rest p p' pick pick' (func L) (func L') s.width s.picks fs)
    sims_form P x k m _ _ s = absurd s

    -- an instruction that stays one instruction
    pub sims_stays : (P : I → Type 0) (x : Context W) (k m : W.Kind) (l : F ((i : I) × P i)) (l' : F' I') → ReadyStays W x k (L.ready ((i : I) × P i) l) (L'.ready I' l') → FormStays W L L' {P = P} N x k m (L.layer ((i : I) × P i) l) (L'.layer I' l') → Sims W N x k m (when_ready (L.ready ((i : I) × P i) l) (eval (func L) (map_form (λ y. exec L y.0) (L.layer ((i : I) × P i) l)))) (exec_code L' (L'.tree.roll l' ∷ []))
    sims_stays P x k m l l' ready form =
        code_one N x k m _ l' (sims_ready W N x k m (L.ready ((i : I) × P i) l) (L'.ready I' l') _ _ ready (sims_form P x k m (L.layer ((i : I) × P i) l) (L'.layer I' l') form))

  module _ {X : Type 0} (step : Step X F I') (seen : Context W → X) (Claim : I → Context W → W.Kind → W.Kind → Type 0) (N : ℕ) where
    -- each instruction
    pub instr_simulated : Layers W L L' step seen Claim N → (i : I) → Simulated W L L' step seen Claim N i
    instr_simulated owes i =
        let P : I → Type 0 = λ j. Simulated W L L' step seen Claim N j in
        L.tree.induct P (λ l. record {
          simulates = λ x k m claim. moved N x k m _ _ _ _ (layer_of L P l) (ap (λ f. exec_code L' (f (seen x))) (sym (rewrite-layer L step P l))) (owes.layers l x k m claim);
        }) i

    -- a body whose instructions are simulated
    pub body_simulated : (code : List (Inner W L L' step seen Claim N)) (x : Context W) (k m : W.Kind) → Through W L L' Claim (map (λ y. y.0) code) x k m → Sims W N x k m (run (map (λ y. exec L y.0) code)) (exec_code L' (body_at (seen x) (map (λ y. rewrite L step y.0) code)))
    body_simulated [] x k m e = subst (λ i. Sims W N x k i (run []) (run [])) e (sims_nothing W N x k)
    body_simulated (y ∷ code) x k m e =
        code_several N x k e.0 m (exec L y.0) (rewrite L step y.0 (seen x)) (map (λ z. exec L z.0) code) (body_at (seen x) (map (λ z. rewrite L step z.0) code))
        (y.1.simulates x k e.0 e.1) (body_simulated code x e.0 m e.2)

    -- code
    pub code_simulated : Layers W L L' step seen Claim N → (code : List I) (x : Context W) (k m : W.Kind) → Through W L L' Claim code x k m → Sims W N x k m (exec_code L code) (exec_code L' (flat_map (λ i. rewrite L step i (seen x)) code))
    code_simulated owes [] x k m e = subst (λ i. Sims W N x k i (run []) (run [])) e (sims_nothing W N x k)
    code_simulated owes (i ∷ code) x k m e =
        code_several N x k e.0 m (exec L i) (rewrite L step i (seen x)) (map (exec L) code) (flat_map (λ j. rewrite L step j (seen x)) code)
        ((instr_simulated owes i).simulates x k e.0 e.1) (code_simulated owes code x e.0 m e.2)
