-- The induction over code and over functions: where each instruction becomes one whose form is alike, all goes in step.
use Rattle.std.proofs.Common.{◌≡◌, ℕ, zero, suc, List, [], ◌∷◌, ◌++◌, map, flat_map, Option, Some, None, refl, sym, ap, ◌∙◌, subst}
use Rattle.std.proofs.lemmas.List.{map-append}
use Rattle.std.specs.List.{AllByRecursion}
use Rattle.outcome_kit.specs.Outcome.{Halt, turn}
use Rattle.outcome_kit.specs.Code.{run}
use Rattle.evaluation_kit.specs.Configurations.{Plain, Sem}
use Rattle.evaluation_kit.specs.Control.{Function, Callee, Own, Host, when_ready, enter, arrive}
use Rattle.evaluation_kit.specs.Forms.{Form, Flat, Enclose, Repeat, Choose, Guard, Invoke, InvokeBy, map_form, eval}
use Rattle.evaluation_kit.specs.Languages.{Language, exec_layer, exec_with, code_with, func_within, func}
use Rattle.simulation_kit.specs.Rewriting.{Step, body_at, rewrite}
use Rattle.simulation_kit.specs.Likenesses.{Likeness, FormLike, FunctionLike, CalleeLike}
use Rattle.crossing.specs.InStep.{CodeInStep, FuncInStep, ReturnsLike}
use Rattle.crossing.proofs.Sequences.{turn_like, halted, nothing, one, several, leaf_in_step, ready_in_step}
use Rattle.crossing.proofs.Blocks.{block_in_step, loop_in_step, choose_in_step, guard_in_step}
use Rattle.crossing.proofs.Calls.{call_in_step, call_by_in_step, enter_in_step, host_in_step}

module _ {I : Type 0} {F : Type 0 → Type 0} {V S : Type 0} (L : Language I F V S) (funcs : ℕ → Sem V S) where
  -- an instruction whose bodies are given with anything beside
  by_layer : (P : I → Type 0) (l : F ((i : I) × P i)) → when_ready (L.ready ((i : I) × P i) l) (eval funcs (map_form (λ y. exec_with L funcs y.0) (L.layer ((i : I) × P i) l))) ≡ exec_with L funcs (L.tree.roll (L.tree.over ((i : I) × P i) I (λ y. y.0) l))
  by_layer P l =
      let inner = (i : I) × P i in
      let f : inner → Sem V S = λ y. exec_with L funcs y.0 in
      ap (λ ready. when_ready ready (eval funcs (map_form f (L.layer inner l)))) (sym (L.ready_over inner (Sem V S) f l))
      ∙ ap (λ form. when_ready (L.ready (Sem V S) (L.tree.over inner (Sem V S) f l)) (eval funcs form)) (sym (L.layer_over inner (Sem V S) f l))
      ∙ ap (exec_layer L funcs) (sym (L.tree.over_twice inner I (Sem V S) (λ y. y.0) (exec_with L funcs) l))
      ∙ sym (L.tree.fold_roll (Sem V S) (exec_layer L funcs) (L.tree.over inner I (λ y. y.0) l))

  by_own_layer : (l : F I) → when_ready (L.ready I l) (eval funcs (map_form (exec_with L funcs) (L.layer I l))) ≡ exec_with L funcs (L.tree.roll l)
  by_own_layer l =
      ap (λ ready. when_ready ready (eval funcs (map_form (exec_with L funcs) (L.layer I l)))) (sym (L.ready_over I (Sem V S) (exec_with L funcs) l))
      ∙ ap (λ form. when_ready (L.ready (Sem V S) (L.tree.over I (Sem V S) (exec_with L funcs) l)) (eval funcs form)) (sym (L.layer_over I (Sem V S) (exec_with L funcs) l))
      ∙ sym (L.tree.fold_roll (Sem V S) (exec_layer L funcs) l)

module _ {V S V' S' : Type 0} (K : Likeness V S V' S') {I I' X : Type 0} {F F' : Type 0 → Type 0} (L : Language I F V S) (L' : Language I' F' V' S') (becomes : F (X → List I') → X → F' I') (seen : K.Place → X) (Fits : I → Type 0) where
  -- each instruction becomes one
  abbrev pub step : Step X F I'
  step l x = L'.tree.roll (becomes l x) ∷ []

  -- what becomes of one layer
  abbrev pub written : (P : I → Type 0) → F ((i : I) × P i) → X → F' I'
  written P l = becomes (L.tree.over ((i : I) × P i) (X → List I') (λ y. rewrite L step y.0) l)

  -- what is owed: forms that are alike, what indices name, and that both are ready at once
  pub record Owes : Type 1 where
    pub forms : (P : I → Type 0) (l : F ((i : I) × P i)) (x : K.Place) → Fits (L.tree.roll (L.tree.over ((i : I) × P i) I (λ y. y.0) l)) → FormLike K L step seen Fits P x (L.layer ((i : I) × P i) l) (L'.layer I' (written P l (seen x)))
    pub readies : (P : I → Type 0) (l : F ((i : I) × P i)) (x : K.Place) (q : Plain V S) (q' : Plain V' S') → L'.ready I' (written P l (seen x)) q' ≡ L.ready ((i : I) × P i) l q
    pub callees : (f : ℕ) → K.keeps.Named f → CalleeLike K L step seen Fits (L.callee f) (L'.callee (K.index f))

  module _ (owes : Owes) where
    module _ (funcs : ℕ → Sem V S) (funcs' : ℕ → Sem V' S') (go : (x : ℕ) → K.keeps.Named x → FuncInStep K (funcs x) (funcs' (K.index x))) where
      -- an instruction, wherever it stands
      pub record InstrInStep (i : I) : Type 0 where
        pub by : (x : K.Place) → Fits i → CodeInStep K (exec_with L funcs i) (code_with L' funcs' (rewrite L step i (seen x)))

      in_order : (a : Sem V S) (new : List I') (more : List (Sem V S)) (others : List I') → CodeInStep K a (code_with L' funcs' new) → CodeInStep K (run more) (code_with L' funcs' others) → CodeInStep K (run (a ∷ more)) (code_with L' funcs' (new ++ others))
      in_order a new more others first rest =
          subst (λ bs. CodeInStep K (run (a ∷ more)) (run bs)) (sym (map-append (exec_with L' funcs') new others))
          (several K a (map (exec_with L' funcs') new) more (map (exec_with L' funcs') others) first rest)

      -- bodies
      bodies : (x : K.Place) (code : List ((i : I) × InstrInStep i)) → AllByRecursion Fits (map (λ y. y.0) code) → CodeInStep K (run (map (λ y. exec_with L funcs y.0) code)) (code_with L' funcs' (body_at (seen x) (map (λ y. rewrite L step y.0) code)))
      bodies x [] fits = nothing K
      bodies x (y ∷ code) fits =
          in_order (exec_with L funcs y.0) (rewrite L step y.0 (seen x)) (map (λ z. exec_with L funcs z.0) code) (body_at (seen x) (map (λ z. rewrite L step z.0) code)) (y.1.by x fits.0) (bodies x code fits.1)

      body : (x : K.Place) (code : List ((i : I) × InstrInStep i)) (code' : List I') → AllByRecursion Fits (map (λ y. y.0) code) → code' ≡ body_at (seen x) (map (λ y. rewrite L step y.0) code) → CodeInStep K (run (map (λ y. exec_with L funcs y.0) code)) (code_with L' funcs' code')
      body x code code' fits e = subst (λ c. CodeInStep K (run (map (λ y. exec_with L funcs y.0) code)) (code_with L' funcs' c)) (sym e) (bodies x code fits)

      -- a block of the same operands
      resized : (a : Sem V S) (b : ℕ → ℕ → Sem V' S') (p p' r r' : ℕ) → p' ≡ p → r' ≡ r → CodeInStep K a (b p r) → CodeInStep K a (b p' r')
      resized a b p p' r r' e f h = subst (λ (i : ℕ). CodeInStep K a (b i r')) (sym e) (subst (λ (i : ℕ). CodeInStep K a (b p i)) (sym f) h)

      form_in_step : (x : K.Place) (form : Form V S ((i : I) × InstrInStep i)) (form' : Form V' S' I') → FormLike K L step seen Fits (λ i. InstrInStep i) x form form' → CodeInStep K (eval funcs (map_form (λ y. exec_with L funcs y.0) form)) (eval funcs' (map_form (exec_with L' funcs') form'))
      form_in_step x (Flat act) (Flat act') h = leaf_in_step K act act' h
      form_in_step x (Enclose p r code) (Enclose p' r' code') h =
          resized _ (λ i k. eval funcs' (map_form (exec_with L' funcs') (Enclose i k code'))) p p' r r' h.0 h.1 (block_in_step K p r _ _ (body h.2.inner code code' h.2.fits h.2.rewritten))
      form_in_step x (Repeat p r code) (Repeat p' r' code') h =
          resized _ (λ i k. eval funcs' (map_form (exec_with L' funcs') (Repeat i k code'))) p p' r r' h.0 h.1 (loop_in_step K p r _ _ (body h.2.inner code code' h.2.fits h.2.rewritten))
      form_in_step x (Choose test p r first second) (Choose test' p' r' first' second') h =
          resized _ (λ i k. eval funcs' (map_form (exec_with L' funcs') (Choose test' i k first' second'))) p p' r r' h.0 h.1
          (choose_in_step K test test' h.2 p r _ _ _ _ (body h.3.inner first first' h.3.first_fits h.3.first_rewritten) (body h.3.inner second second' h.3.second_fits h.3.second_rewritten))
      form_in_step x (Guard p r t code) (Guard p' r' t' code') h =
          resized _ (λ i k. eval funcs' (map_form (exec_with L' funcs') (Guard i k t' code'))) p p' r r' h.0 h.1 (guard_in_step K t t' h.2 p r _ _ (body h.3.inner code code' h.3.fits h.3.rewritten))
      form_in_step x (Invoke p f) (Invoke p' f') h =
          resized _ (λ i k. eval funcs' (map_form (exec_with L' funcs') (Invoke i k))) p p' (K.index f) f' h.0 h.2 (call_in_step K p (funcs f) (funcs' (K.index f)) (go f h.1))
      form_in_step x (InvokeBy p pick) (InvokeBy p' pick') h =
          resized _ (λ i k. eval funcs' (map_form (exec_with L' funcs') (InvokeBy i pick'))) p p' 0 0 h.0 refl (call_by_in_step K funcs funcs' go p pick pick' h.1)
      form_in_step x _ _ h = absurd h

      -- one layer
      rewrites : (P : I → Type 0) (l : F ((i : I) × P i)) (x : X) → rewrite L step (L.tree.roll (L.tree.over ((i : I) × P i) I (λ y. y.0) l)) x ≡ (L'.tree.roll (written P l x) ∷ [])
      rewrites P l x =
          ap (λ f. f x) (L.tree.fold_roll (X → List I') step (L.tree.over ((i : I) × P i) I (λ y. y.0) l)
          ∙ ap step (L.tree.over_twice ((i : I) × P i) I (X → List I') (λ y. y.0) (rewrite L step) l))

      layer_in_step : (l : F ((i : I) × InstrInStep i)) → InstrInStep (L.tree.roll (L.tree.over ((i : I) × InstrInStep i) I (λ y. y.0) l))
      layer_in_step l =
          let P : I → Type 0 = λ i. InstrInStep i in
          record {
            by = λ x fits.
                let l' : F' I' = written P l (seen x) in
                subst (λ a. CodeInStep K a (code_with L' funcs' (rewrite L step (L.tree.roll (L.tree.over ((i : I) × P i) I (λ y. y.0) l)) (seen x)))) (by_layer L funcs P l)
                (subst (λ c. CodeInStep K (when_ready (L.ready ((i : I) × P i) l) (eval funcs (map_form (λ y. exec_with L funcs y.0) (L.layer ((i : I) × P i) l)))) (code_with L' funcs' c)) (sym (rewrites P l (seen x)))
                (one K _ (exec_with L' funcs' (L'.tree.roll l'))
                (subst (λ b. CodeInStep K (when_ready (L.ready ((i : I) × P i) l) (eval funcs (map_form (λ y. exec_with L funcs y.0) (L.layer ((i : I) × P i) l)))) b) (by_own_layer L' funcs' l')
                (ready_in_step K (L.ready ((i : I) × P i) l) (L'.ready I' l') _ _ (owes.readies P l x) (form_in_step x (L.layer ((i : I) × P i) l) (L'.layer I' l') (owes.forms P l x fits))))));
          }

      instr_in_step : (i : I) → InstrInStep i
      instr_in_step i = L.tree.induct (λ j. InstrInStep j) layer_in_step i

      code_in_step : (x : K.Place) (code : List I) → AllByRecursion Fits code → CodeInStep K (code_with L funcs code) (code_with L' funcs' (flat_map (λ i. rewrite L step i (seen x)) code))
      code_in_step x [] fits = nothing K
      code_in_step x (i ∷ code) fits =
          in_order (exec_with L funcs i) (rewrite L step i (seen x)) (map (exec_with L funcs) code) (flat_map (λ j. rewrite L step j (seen x)) code) ((instr_in_step i).by x fits.0) (code_in_step x code fits.1)

      -- the entry of a function
      entry_in_step : (f : Function I V) (f' : Function I' V') → FunctionLike K L step seen Fits f f' → FuncInStep K (λ d n c. turn n c.world (λ m. enter (code_with L funcs f.body) funcs f d m c)) (λ d n c. turn n c.world (λ m. enter (code_with L' funcs' f'.body) funcs' f' d m c))
      entry_in_step f f' h =
          let bodies : CodeInStep K (code_with L funcs f.body) (code_with L' funcs' f'.body) = subst (λ c. CodeInStep K (code_with L funcs f.body) (code_with L' funcs' c)) (sym h.body) (code_in_step h.place f.body h.fits) in
          record {
            by = λ d n c c' e.
                turn_like K (ReturnsLike K) n c.world c'.world (λ m. enter (code_with L funcs f.body) funcs f d m c) (λ m. enter (code_with L' funcs' f'.body) funcs' f' d m c') (halted K c c' e)
                (λ m. (enter_in_step K funcs funcs' go f f' h.params h.results h.zeros h.sound (code_with L funcs f.body) (code_with L' funcs' f'.body) bodies).by d m c c' e);
          }

    arrive_in_step : (o : Option (Callee I V S)) (o' : Option (Callee I' V' S')) → CalleeLike K L step seen Fits o o' → (own : Function I V → Sem V S) (own' : Function I' V' → Sem V' S') → ((f : Function I V) (f' : Function I' V') → FunctionLike K L step seen Fits f f' → FuncInStep K (own f) (own' f')) → FuncInStep K (arrive o own) (arrive o' own')
    arrive_in_step None None h own own' each = record { by = λ d n c c' e. (refl, (tt, refl, e)) }
    arrive_in_step (Some (Own f)) (Some (Own f')) h own own' each = record { by = λ d n c c' e. (each f f' h).by d n c c' e }
    arrive_in_step (Some (Host p act)) (Some (Host p' act')) h own own' each = record { by = λ d n c c' e. (host_in_step K p p' act act' h.0 h.1).by d n c c' e }
    arrive_in_step None (Some o') h own own' each = absurd h
    arrive_in_step (Some (Own f)) None h own own' each = absurd h
    arrive_in_step (Some (Host p act)) None h own own' each = absurd h
    arrive_in_step (Some (Own f)) (Some (Host p' act')) h own own' each = absurd h
    arrive_in_step (Some (Host p act)) (Some (Own f')) h own own' each = absurd h

    within : (k x : ℕ) → K.keeps.Named x → FuncInStep K (func_within L k x) (func_within L' k (K.index x))
    within zero x named =
        arrive_in_step (L.callee x) (L'.callee (K.index x)) (owes.callees x named) (λ f d n c. Halt c.world) (λ f d n c. Halt c.world) (λ f f' h. record { by = λ d n c c' e. halted K c c' e })
    within (suc k) x named =
        arrive_in_step (L.callee x) (L'.callee (K.index x)) (owes.callees x named)
        (λ f d n c. turn n c.world (λ m. enter (code_with L (func_within L k) f.body) (func_within L k) f d m c))
        (λ f d n c. turn n c.world (λ m. enter (code_with L' (func_within L' k) f.body) (func_within L' k) f d m c))
        (entry_in_step (func_within L k) (func_within L' k) (within k))

    -- all functions
    pub functions_in_step : (x : ℕ) → K.keeps.Named x → FuncInStep K (func L x) (func L' (K.index x))
    unfolding func
    functions_in_step x named = record { by = λ d n c c' e. (within n x named).by d n c c' e }
