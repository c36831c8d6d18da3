-- One plain instruction becomes several; code behind what leaves; blocks that the output alone has.
use Rattle.std.proofs.Common.{◌≡◌, ℕ, zero, suc, List, [], ◌∷◌, map, true, Option, Some, None, refl, sym, ap, ◌∙◌}
use Rattle.evaluation_kit.specs.declared.jump.Jump.TheVariants.{Branch, Return}
use Rattle.outcome_kit.specs.Outcome.{Out, Done, bind}
use Rattle.outcome_kit.specs.Code.{Go, Leave, go_on, run}
use Rattle.outcome_kit.proofs.Outcomes.{bind-unit, bind-same}
use Rattle.evaluation_kit.specs.Configurations.{World, Conf, Plain, PlainRes, Res, Sem, plain_of}
use Rattle.evaluation_kit.specs.Control
use Rattle.evaluation_kit.specs.Control.{entered, leave_block, when_ready, where_ready}
use Rattle.evaluation_kit.specs.Forms.{Flat, map_form, eval}
use Rattle.evaluation_kit.specs.Languages.{Language, func, exec, exec_code}
use Rattle.simulation_kit.specs.Runs.{Runs}
use Rattle.simulation_kit.specs.Labels.{results, target}
use Rattle.simulation_kit.specs.Matches.{Match, Context, Halts, Reaches, Results, ends, Sims, Lawful, beside}
use Rattle.simulation_kit.specs.Staying.{LeafStays, BlockAdds}
use Rattle.simulation_kit.specs.Doing.{in_turn, AreLeaves}
use Rattle.simulation_kit.proofs.Running.{runs_done, runs_alike, runs_bind, runs_map}
use Rattle.simulation_kit.proofs.Doing.{leaves-run}
use Rattle.simulation_kit.proofs.Sequences.{sims_alike, sims_leaf, stuck_goes_on}
use Rattle.simulation_kit.proofs.Rewriting.{exec-rolled}

module _ {V S V' S' : Type 0} (W : Match V S V' S') where
  -- one plain instruction becomes several
  pub sims_leaves : (N : ℕ) (x : Context W) (k m : W.Kind) (act : Plain V S → PlainRes V S) (acts : List (Plain V' S' → PlainRes V' S')) → LeafStays W x k m act (in_turn acts) → Sims W N x k m (Control.leaf act) (run (map Control.leaf acts))
  sims_leaves N x k m act acts h =
      sims_alike W N x k m (Control.leaf act) (Control.leaf act) (Control.leaf (in_turn acts)) (run (map Control.leaf acts)) (λ d n c. refl) (λ d n c. sym (leaves-run acts d n c)) (sims_leaf W N x k m act (in_turn acts) h)

  -- the output has no code behind code that never comes to its end
  pub sims_unreached : (N : ℕ) (x : Context W) (k h m : W.Kind) (a : Sem V S) (b : Sem V' S') (more : List (Sem V S)) → ((q : Plain V S) (q' : Plain V' S') → W.Stands x.place h q q' → ⊥) → Sims W N x k h a b → Sims W N x k m (run (a ∷ more)) b
  sims_unreached N x k h m a b more never sims = record {
    by = λ d d' n c c' lt calls same.
        runs_alike W.exact (Halts W) (ends W x m d) n (run (a ∷ more) d n c) (run (a ∷ more) d n c) (λ j. bind j (b d' j c') (λ r i. Done 0 r)) (λ j. b d' j c') refl (λ j. bind-unit j (b d' j c'))
        (runs_bind W.exact (Halts W) (ends W x h d) (ends W x m d) (go_on (run more d)) (λ r i. Done 0 r) n (a d n c) (λ j. b d' j c')
        (sims.by d d' n c c' lt calls same)
        (λ r i f. stuck_goes_on W x m d (run more d) r i f)
        (λ r r' i le g. left d i r r' g));
  }
    where
      left : (d i : ℕ) (r : Res V S) (r' : Res V' S') → Results W x h d r r' → Runs W.exact (Halts W) (ends W x m d) i (go_on (run more d) r i) (λ j. Done 0 r')
      left d i (Go c) (Go c') g = absurd (never (plain_of c) (plain_of c') g.plain)
      left d i (Go c) (Leave j' c') g = absurd g.plain
      left d i (Leave j c) (Go c') g = absurd g.plain
      left d i (Leave j c) (Leave j' c') g = runs_done W.exact (Halts W) (ends W x m d) i (Leave j c) (Leave j' c') (record { depths = g.depths; plain = g.plain })

module _ {I : Type 0} {F : Type 0 → Type 0} {V S : Type 0} (L : Language I F V S) where
  leaf-exec : (l : F I) (act : Plain V S → PlainRes V S) → L.layer I l ≡ Flat act → ((q : Plain V S) → L.ready I l q ≡ true) → (d n : ℕ) (c : Conf V S) → exec L (L.tree.roll l) d n c ≡ Control.leaf act d n c
  leaf-exec l act e ready d n c =
      ap (λ (a : Sem V S). a d n c) (sym (exec-rolled L l))
      ∙ ap (λ i. where_ready i (eval (func L) (map_form (exec L) (L.layer I l))) d n c) (ready (plain_of c))
      ∙ ap (λ form. eval (func L) (map_form (exec L) form) d n c) e

  goes_alike : (next other : ℕ → Conf V S → Out (World S) (Res V S)) → ((i : ℕ) (c : Conf V S) → next i c ≡ other i c) → (r : Res V S) (m : ℕ) → go_on next r m ≡ go_on other r m
  goes_alike next other h (Go c) m = h m c
  goes_alike next other h (Leave j c) m = refl

  leaves_next : (ls : List (F I)) (acts : List (Plain V S → PlainRes V S)) (d n : ℕ) (o : Out (World S) (Res V S)) → ((i : ℕ) (c : Conf V S) → exec_code L (map L.tree.roll ls) d i c ≡ run (map Control.leaf acts) d i c) → bind n o (go_on (exec_code L (map L.tree.roll ls) d)) ≡ bind n o (go_on (run (map Control.leaf acts) d))
  leaves_next ls acts d n o h = bind-same n o (go_on (exec_code L (map L.tree.roll ls) d)) (go_on (run (map Control.leaf acts) d)) (goes_alike (exec_code L (map L.tree.roll ls) d) (run (map Control.leaf acts) d) h)

  pub leaves-code : (ls : List (F I)) (acts : List (Plain V S → PlainRes V S)) → AreLeaves L ls acts → (d n : ℕ) (c : Conf V S) → exec_code L (map L.tree.roll ls) d n c ≡ run (map Control.leaf acts) d n c
  leaves-code [] [] h d n c = refl
  leaves-code [] (act ∷ acts) h d n c = absurd h
  leaves-code (l ∷ ls) [] h d n c = absurd h
  leaves-code (l ∷ ls) (act ∷ acts) h d n c =
      ap (λ o. bind n o (go_on (exec_code L (map L.tree.roll ls) d))) (leaf-exec l act h.0 h.1 d n c)
      ∙ leaves_next ls acts d n (Control.leaf act d n c) (λ i e. leaves-code ls acts h.2 d i e)

module _ {V S V' S' : Type 0} (W : Match V S V' S') where
  -- one plain instruction becomes several of the output
  pub code_leaves : {I' : Type 0} {F' : Type 0 → Type 0} (L' : Language I' F' V' S') (N : ℕ) (x : Context W) (k m : W.Kind) (act : Plain V S → PlainRes V S) (ls : List (F' I')) (acts : List (Plain V' S' → PlainRes V' S')) → AreLeaves L' ls acts → LeafStays W x k m act (in_turn acts) → Sims W N x k m (Control.leaf act) (exec_code L' (map L'.tree.roll ls))
  code_leaves L' N x k m act ls acts are h =
      sims_alike W N x k m (Control.leaf act) (Control.leaf act) (run (map Control.leaf acts)) (exec_code L' (map L'.tree.roll ls)) (λ d n c. refl) (λ d n c. sym (leaves-code L' ls acts are d n c)) (sims_leaves W N x k m act acts h)

  module _ (laws : Lawful W) (x : Context W) (inner : W.Place) (k j h m : W.Kind) (p r : ℕ) (adds : BlockAdds W x inner k j h m p r) where
    added_reaches : (o : Option W.Kind) (q : Plain V S) (q' : Plain V' S') → Reaches W (beside W x inner) o q q' → Reaches W x o q q'
    added_reaches None q q' f = f
    added_reaches (Some i) q q' f = laws.lands_out inner x.place i q q' adds.around f

    added_left : (d : ℕ) (y : Res V S) (y' : Res V' S') → Results W (beside W x inner) h d y y' → Results W x m d y (leave_block r [] y')
    added_left d (Go c) (Go c') l = record { depths = l.depths; plain = adds.leaves (plain_of c) (plain_of c') l.plain }
    added_left d (Go c) (Leave j' c') l = absurd l.plain
    added_left d (Leave i c) (Go c') l = absurd l.plain
    added_left d (Leave (Branch n) c) (Leave (Branch zero) c') l = absurd l.plain
    added_left d (Leave (Branch n) c) (Leave (Branch (suc n')) c') l = record { depths = l.depths; plain = added_reaches (target x.labels n n') (plain_of c) (plain_of c') l.plain }
    added_left d (Leave (Branch n) c) (Leave j' c') l = absurd l.plain
    added_left d (Leave Return c) (Leave Return c') l = record { depths = l.depths; plain = laws.lands_out inner x.place (results x.labels) (plain_of c) (plain_of c') adds.around l.plain }
    added_left d (Leave Return c) (Leave j' c') l = absurd l.plain
    added_left d (Leave i c) (Leave (Branch zero) c') l = absurd (laws.left_out inner x.place i (Branch zero) (plain_of c) (plain_of c') adds.around tt l.plain)
    added_left d (Leave i c) (Leave j' c') l = record { depths = l.depths; plain = laws.left_out inner x.place i j' (plain_of c) (plain_of c') adds.around tt l.plain }

    -- a block of the output alone around code
    pub sims_added : (N : ℕ) (a : Sem V S) (b : Sem V' S') → Sims W N (beside W x inner) j h a b → Sims W N x k m a (Control.block p r b)
    sims_added N a b sims = record {
      by = λ d d' n c c' lt calls same.
          runs_alike W.exact (Halts W) (ends W x m d) n (bind n (a d n c) (λ y i. Done 0 y)) (a d n c)
          (λ i. bind i (b d' i (entered p c')) (λ y e. Done 0 (leave_block r [] y))) (λ i. Control.block p r b d' i c')
          (bind-unit n (a d n c))
          (λ i. ap (λ (below : List V'). bind i (b d' i (entered p c')) (λ y e. Done 0 (leave_block r below y))) (sym (adds.takes_all (plain_of c) (plain_of c') same.plain)))
          (runs_map W.exact (Halts W) (ends W (beside W x inner) h d) (ends W x m d) n (a d n c) (λ i. b d' i (entered p c')) (λ y. y) (leave_block r [])
          (sims.by d d' n c (entered p c') lt calls (record { depths = same.depths; plain = adds.enters (plain_of c) (plain_of c') same.plain }))
          (λ y f. f)
          (added_left d));
    }
