-- Tasks in a row where the input can be over while the output goes on: the output is then further on than a known place.
use Rattle.std.proofs.Common.{◌≡◌, ℕ, ◌+◌, ◌-◌, ◌<◌, List, [], ◌∷◌, ◌⊎◌, inl, inr, refl, sym, ap, ◌∙◌, subst, arith}
use Rattle.outcome_kit.specs.Outcome.{Out, Done, Halt, after, bind, place_of}
use Rattle.outcome_kit.specs.Code.{Go, Leave, go_on, stands}
use Rattle.outcome_kit.proofs.Growing.{Order}
use Rattle.outcome_kit.proofs.Outcomes.{place_of-after}
use Rattle.evaluation_kit.specs.Configurations.{World}
use Rattle.evaluation_kit.specs.Languages.{Language, func}
use Rattle.evaluation_kit.specs.Tasks.{Status, Task, task, tasks}
use Rattle.simulation_kit.specs.Runs.{Comes, Meets, Runs}
use Rattle.simulation_kit.specs.Matches.{Match, Depths, Halts, Lawful}
use Rattle.simulation_kit.specs.Staying.{AllFuncsSim}
use Rattle.simulation_kit.specs.Hosting.{IsStuckRun, Statuses, statuses, TaskSims, TasksStay, IdleLaws, Final, Parted}
use Rattle.simulation_kit.proofs.Running.{runs_done, runs_free, free_after, followed}
use Rattle.simulation_kit.proofs.Hosting.{tasks_nothing, stuck_goes_on, task_sims, comes_final}

module _ {V S V' S' : Type 0} (W : Match V S V' S') (Idle Parts : S → S' → Type 0) (order : Order (World S')) where
  -- what the input does is met by the output, or the output goes on alone
  abbrev pub MeetsOrParts : ℕ → Out (World S) (Status (World S)) → (ℕ → Out (World S') (Status (World S'))) → Type 0
  MeetsOrParts n o t = Runs W.exact (Halts W) (statuses W Idle Parts) n o t ⊎ Parted W Parts order o t

  pub record TasksPart (N : ℕ) (a : ℕ → World S → Out (World S) (Status (World S))) (b : ℕ → World S' → Out (World S') (Status (World S'))) : Type 0 where
    pub by : (n : ℕ) (w : World S) (w' : World S') → n < N → Depths W 0 w w' → Idle w.state w'.state → MeetsOrParts n (a n w) (λ j. b j w')

  -- what is done leads on from where it begins
  abbrev pub LeadsOn : (ℕ → World S' → Out (World S') (Status (World S'))) → Type 0
  LeadsOn b = (w' : World S') (i : ℕ) → order.Leads w' (place_of stands (b i w'))

  module _ (N : ℕ) (more : ℕ → World S → Out (World S) (Status (World S))) (others : ℕ → World S' → Out (World S') (Status (World S'))) (rest : TasksPart N more others) (onward : LeadsOn others) where
    -- where the output is behind a task that it has done
    behind : (t : ℕ → Out (World S') (Status (World S'))) (cost k : ℕ) (r' : Status (World S')) → t (cost + k) ≡ Done cost r' → place_of stands (bind (cost + k) (t (cost + k)) (go_on others)) ≡ place_of stands (go_on others r' k)
    behind t cost k r' e =
        let l : cost + k - cost ≡ k = omega arith in
        ap (λ o. place_of stands (bind (cost + k) o (go_on others))) e
        ∙ place_of-after stands cost (go_on others r' (cost + k - cost))
        ∙ ap (λ i. place_of stands (go_on others r' i)) l

    parted_later : (n u : ℕ) (w : World S) (w' : World S') (t : ℕ → Out (World S') (Status (World S'))) (cost : ℕ) → ((k : ℕ) → t (cost + k) ≡ Done cost (Go w')) → Parted W Parts order (more (n - u) w) (λ j. others j w') → Parted W Parts order (after u (more (n - u) w)) (λ j. bind j (t j) (go_on others))
    parted_later n u w w' t cost does p = record {
      used = u + p.used;
      jump = p.jump;
      world = p.world;
      is_over = ap (after u) p.is_over;
      cost = cost + p.cost;
      place = p.place;
      parts = p.parts;
      bound = p.bound;
      onward = λ k.
          let e : cost + p.cost + k ≡ cost + (p.cost + k) = omega arith in
          subst (λ v. order.Leads p.place v) (sym (ap (λ j. place_of stands (bind j (t j) (go_on others))) e ∙ behind t cost (p.cost + k) (Go w') (does (p.cost + k)))) (p.onward k);
    }

    goes_on : (n u : ℕ) (r : Status (World S)) (r' : Status (World S')) (t : ℕ → Out (World S') (Status (World S'))) → n < N → (c : Comes W.exact (statuses W Idle Parts) n u r t) → c.result ≡ r' → Statuses W Idle Parts r r' → MeetsOrParts n (after u (go_on more r (n - u))) (λ j. bind j (t j) (go_on others))
    goes_on n u (Go w) (Go w') t lt c e g = later (rest.by (n - u) w w' less g.depths g.state)
      where
        less : n - u < N
        less = omega arith

        at : (k : ℕ) → t (c.cost + k) ≡ Done c.cost (Go w')
        at k = c.does k ∙ ap (λ x. Done c.cost x) e

        later : MeetsOrParts (n - u) (more (n - u) w) (λ j. others j w') → MeetsOrParts n (after u (more (n - u) w)) (λ j. bind j (t j) (go_on others))
        later (inl runs) =
            inl (record {
              by = followed W.exact (Halts W) (statuses W Idle Parts) (statuses W Idle Parts) (go_on more) (go_on others) n u (Go w) t
                  (record { cost = c.cost; spends = c.spends; within = c.within; result = Go w'; matches = g; does = at }) (more (n - u) w) runs.by;
            })
        later (inr parted) = inr (parted_later n u w w' t c.cost at parted)
    goes_on n u (Go w) (Leave j' w') t lt c e g = absurd g.state
    goes_on n u (Leave j w) (Go w') t lt c e g =
        inr (record {
          used = u + 0;
          jump = j;
          world = w;
          is_over = refl;
          cost = c.cost;
          place = w';
          parts = g.state;
          bound = g.depths.bound;
          onward = λ k. subst (λ v. order.Leads w' v) (sym (behind t c.cost k (Go w') (c.does k ∙ ap (λ x. Done c.cost x) e))) (onward w' k);
        })
    goes_on n u (Leave j w) (Leave j' w') t lt c e g =
        inl (record {
          by = followed W.exact (Halts W) (statuses W Idle Parts) (statuses W Idle Parts) (go_on more) (go_on others) n u (Leave j w) t
              (record { cost = c.cost; spends = c.spends; within = c.within; result = Leave j' w'; matches = g; does = λ k. c.does k ∙ ap (λ x. Done c.cost x) e }) (Done 0 (Leave j w))
              (runs_done W.exact (Halts W) (statuses W Idle Parts) (n - u) (Leave j w) (Leave j' w') g).by;
        })

    first_done : (n : ℕ) (o : Out (World S) (Status (World S))) (t : ℕ → Out (World S') (Status (World S'))) → n < N → Meets W.exact (Halts W) (statuses W Idle Parts) n o t → MeetsOrParts n (bind n o (go_on more)) (λ j. bind j (t j) (go_on others))
    first_done n (Done u r) t lt (inl f) =
        inl (runs_free W.exact (Halts W) (statuses W Idle Parts) n (after u (go_on more r (n - u))) (λ j. bind j (t j) (go_on others)) (free_after W.exact (Halts W) (statuses W Idle Parts) u (go_on more r (n - u)) (stuck_goes_on W Idle Parts more r (n - u) f)))
    first_done n (Done u r) t lt (inr c) = goes_on n u r c.result t lt c refl c.matches
    first_done n (Halt here) t lt s =
        inl (record { by = record { turns = s.turns; spends = s.spends; place = s.place; matches = s.matches; does = ap (λ x. bind s.turns x (go_on others)) s.does } })

    -- one task, and then the others
    pub part_then : (a : ℕ → World S → Out (World S) (Status (World S))) (b : ℕ → World S' → Out (World S') (Status (World S'))) → TaskSims W Idle Parts N a b → TasksPart N (λ n w. bind n (a n w) (go_on more)) (λ n w. bind n (b n w) (go_on others))
    part_then a b first = record { by = λ n w w' lt depths idle. first_done n (a n w) (λ j. b j w') lt (first.by n w w' lt depths idle).by }

  module _ {I I' : Type 0} {F F' : Type 0 → Type 0} (L : Language I F V S) (L' : Language I' F' V' S') (laws : Lawful W) (N : ℕ) (fs : AllFuncsSim W N (func L) (func L')) where
    -- each rest of the tasks leads on
    abbrev pub AllLeadOn : List (Task V' S') → Type 0
    AllLeadOn [] = Unit {0}
    AllLeadOn (t' ∷ ts') = LeadsOn (tasks (func L') ts') × AllLeadOn ts'

    -- all tasks
    pub tasks_part : (ts : List (Task V S)) (ts' : List (Task V' S')) → TasksStay W Idle Parts ts ts' → AllLeadOn ts' → TasksPart N (tasks (func L) ts) (tasks (func L') ts')
    tasks_part [] [] h onward = record { by = λ n w w' lt depths idle. inl ((tasks_nothing W Idle Parts N).by n w w' lt depths idle) }
    tasks_part [] (t' ∷ ts') h onward = absurd h
    tasks_part (t ∷ ts) [] h onward = absurd h
    tasks_part (t ∷ ts) (t' ∷ ts') h onward =
        part_then N (tasks (func L) ts) (tasks (func L') ts') (tasks_part ts ts' h.1 onward.1) onward.0 (task (func L) t) (task (func L') t') (task_sims W Idle Parts L L' laws N fs t t' h.0)

  module _ (idle : IdleLaws W Idle Parts) where
    -- where the output is when the input is done or halted, or that it went on alone
    abbrev pub Ended : ℕ → Out (World S) (Status (World S)) → (ℕ → Out (World S') (Status (World S'))) → Type 0
    Ended n o t = IsStuckRun o W.strict ⊎ (Final W n (place_of stands o) (λ j. place_of stands (t j)) ⊎ Parted W Parts order o t)

    comes_to : (n u : ℕ) (r : Status (World S)) (r' : Status (World S')) (t : ℕ → Out (World S') (Status (World S'))) (c : Comes W.exact (statuses W Idle Parts) n u r t) → c.result ≡ r' → Statuses W Idle Parts r r' → Ended n (Done u r) t
    comes_to n u (Go w) (Go w') t c e g =
        let end = comes_final W Idle Parts W.exact n u (Go w) t c (subst (λ x. Halts W w (stands x)) (sym e) (record { state = idle.idle_end w.state w'.state g.state; bound = g.depths.bound })) in
        inr (inl (record { turns = end.0; spends = end.1; halts = end.2 }))
    comes_to n u (Go w) (Leave j' w') t c e g = absurd g.state
    comes_to n u (Leave j w) (Leave j' w') t c e g =
        let end = comes_final W Idle Parts W.exact n u (Leave j w) t c (subst (λ x. Halts W w (stands x)) (sym e) (record { state = g.state; bound = g.depths.bound })) in
        inr (inl (record { turns = end.0; spends = end.1; halts = end.2 }))
    comes_to n u (Leave j w) (Go w') t c e g =
        inr (inr (record {
          used = u;
          jump = j;
          world = w;
          is_over = refl;
          cost = c.cost;
          place = w';
          parts = g.state;
          bound = g.depths.bound;
          onward = λ k. subst (λ v. order.Leads w' v) (sym (ap (place_of stands) (c.does k ∙ ap (λ x. Done c.cost x) e))) (order.stays w');
        }))

    met : (n : ℕ) (o : Out (World S) (Status (World S))) (t : ℕ → Out (World S') (Status (World S'))) → Meets W.exact (Halts W) (statuses W Idle Parts) n o t → Ended n o t
    met n (Done u r) t (inl f) = inl f
    met n (Done u r) t (inr c) = comes_to n u r c.result t c refl c.matches
    met n (Halt w) t s = inr (inl (record { turns = s.turns; spends = s.spends; halts = subst (λ v. Halts W w v) (ap (place_of stands) (sym s.does)) s.matches }))

    pub ended : (n : ℕ) (o : Out (World S) (Status (World S))) (t : ℕ → Out (World S') (Status (World S'))) → MeetsOrParts n o t → Ended n o t
    ended n o t (inl runs) = met n o t runs.by
    ended n o t (inr parted) = inr (inr parted)
