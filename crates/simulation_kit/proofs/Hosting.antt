-- From functions to what a host does with them, and to the worlds in which its tasks leave both.
use Rattle.std.proofs.Common.{◌≡◌, ℕ, suc, ◌+◌, ◌-◌, ◌*◌, ◌<◌, ◌≤◌, Bool, true, false, List, [], ◌∷◌, ◌⊎◌, inl, inr, refl, sym, ap, ◌∙◌, subst, arith}
use Rattle.evaluation_kit.specs.declared.jump.Jump.TheVariants.{Stuck}
use Rattle.outcome_kit.specs.Outcome.{Out, Done, Halt, bind, place_of}
use Rattle.outcome_kit.specs.Code.{Go, Leave, go_on, stands}
use Rattle.evaluation_kit.specs.Configurations.{World, Conf, PlainRes, Res, plain_of}
use Rattle.evaluation_kit.specs.Languages.{Language, func}
use Rattle.evaluation_kit.specs.Tasks.{Status, Task, Change, Enter, placed, plain_result, shown, task, tasks, world_after}
use Rattle.simulation_kit.specs.Runs.{Spends, Comes, Meets, Runs, IsFree}
use Rattle.simulation_kit.specs.Matches.{Match, Depths, Halts, IsStuck, returns, Lawful}
use Rattle.simulation_kit.specs.Staying.{AllFuncsSim}
use Rattle.simulation_kit.specs.Hosting.{IsStuckStatus, IsStuckRun, StateMatches, Statuses, statuses, TaskSims, ChangeStays, EnterStays, TaskStays, TasksStay, IdleLaws, Final}
use Rattle.simulation_kit.proofs.Running.{runs_done, runs_bind, runs_map}
use Rattle.simulation_kit.proofs.Depths.{calls_first}

module _ {V S V' S' : Type 0} (W : Match V S V' S') (Idle Parts : S → S' → Type 0) where
  pub places : (w : World S) (w' : World S') (r : Status S) (r' : Status S') → Depths W 0 w w' → StateMatches W Idle Parts r r' → Statuses W Idle Parts (placed w r) (placed w' r')
  places w w' (Go s) (Go s') h g = record { depths = record { reached = h.reached; bound = h.bound }; state = g }
  places w w' (Go s) (Leave j' s') h g = absurd g
  places w w' (Leave j s) (Go s') h g = record { depths = record { reached = h.reached; bound = h.bound }; state = g }
  places w w' (Leave j s) (Leave j' s') h g = record { depths = record { reached = h.reached; bound = h.bound }; state = g }

  -- no task, one task after another, and a change of the output alone
  pub tasks_nothing : (N : ℕ) → TaskSims W Idle Parts N (λ n w. Done 0 (Go w)) (λ n w. Done 0 (Go w))
  tasks_nothing N = record { by = λ n w w' lt depths idle. runs_done W.exact (Halts W) (statuses W Idle Parts) n (Go w) (Go w') (record { depths = depths; state = idle }) }

  pub stuck_goes_on : (a : ℕ → World S → Out (World S) (Status (World S))) (r : Status (World S)) (i : ℕ) → IsStuckStatus r W.strict → IsFree W.exact (Halts W) (statuses W Idle Parts) (go_on a r i)
  stuck_goes_on a (Leave Stuck w) i f = f
  stuck_goes_on a (Leave j w) i f = absurd f
  stuck_goes_on a (Go w) i f = absurd f

  -- where the output never goes on alone
  abbrev pub NeverAlone : Type 0
  NeverAlone = (s : S) (s' : S') → Parts s s' → ⊥

  pub goes_on : NeverAlone → (N : ℕ) (a : ℕ → World S → Out (World S) (Status (World S))) (b : ℕ → World S' → Out (World S') (Status (World S'))) → TaskSims W Idle Parts N a b → (r : Status (World S)) (r' : Status (World S')) (i : ℕ) → i < N → Statuses W Idle Parts r r' → Runs W.exact (Halts W) (statuses W Idle Parts) i (go_on a r i) (λ j. go_on b r' j)
  goes_on alone N a b sims (Go w) (Go w') i lt g = sims.by i w w' lt g.depths g.state
  goes_on alone N a b sims (Go w) (Leave j' w') i lt g = absurd g.state
  goes_on alone N a b sims (Leave j w) (Go w') i lt g = absurd (alone w.state w'.state g.state)
  goes_on alone N a b sims (Leave j w) (Leave j' w') i lt g = runs_done W.exact (Halts W) (statuses W Idle Parts) i (Leave j w) (Leave j' w') g

  pub tasks_then : NeverAlone → (N : ℕ) (a more : ℕ → World S → Out (World S) (Status (World S))) (b others : ℕ → World S' → Out (World S') (Status (World S'))) → TaskSims W Idle Parts N a b → TaskSims W Idle Parts N more others → TaskSims W Idle Parts N (λ n w. bind n (a n w) (go_on more)) (λ n w. bind n (b n w) (go_on others))
  tasks_then alone N a more b others first rest = record {
    by = λ n w w' lt depths idle.
        runs_bind W.exact (Halts W) (statuses W Idle Parts) (statuses W Idle Parts) (go_on more) (go_on others) n (a n w) (λ j. b j w')
        (first.by n w w' lt depths idle)
        (λ r i f. stuck_goes_on more r i f)
        (λ r r' i le g. let less : i < N = omega arith in goes_on alone N more others rest r r' i less g);
  }

  pub change_sims : (N : ℕ) (f : S → Status S) (f' : S' → Status S') → ChangeStays W Idle Parts f f' → TaskSims W Idle Parts N (λ n w. Done 0 (placed w (f w.state))) (λ n w. Done 0 (placed w (f' w.state)))
  change_sims N f f' h = record {
    by = λ n w w' lt depths idle.
        runs_done W.exact (Halts W) (statuses W Idle Parts) n (placed w (f w.state)) (placed w' (f' w'.state)) (places w w' (f w.state) (f' w'.state) depths (h.changes w.state w'.state idle));
  }

  pub stuck_placed : (w : World S) (r : Status S) → IsStuckStatus r W.strict → IsStuckStatus (placed w r) W.strict
  stuck_placed w (Leave Stuck s) f = f
  stuck_placed w (Leave j s) f = absurd f
  stuck_placed w (Go s) f = absurd f

  module _ {I I' : Type 0} {F F' : Type 0 → Type 0} (L : Language I F V S) (L' : Language I' F' V' S') (laws : Lawful W) (N : ℕ) (fs : AllFuncsSim W N (func L) (func L')) where
    module _ (x : ℕ) (operands : List V) (see : PlainRes V S → Status S) (x' : ℕ) (operands' : List V') (see' : PlainRes V' S' → Status S') (stays : EnterStays W Idle Parts x operands see x' operands' see') where
      stuck_shown : (r : Res V S) → IsStuck r W.strict → IsStuckStatus (shown see r) W.strict
      stuck_shown (Leave Stuck c) f = stuck_placed c.world (see (Leave Stuck (plain_of c))) (stays.stuck (plain_of c) f)
      stuck_shown (Leave j c) f = absurd f
      stuck_shown (Go c) f = absurd f

      pub enter_sims : TaskSims W Idle Parts N (task (func L) (Enter x operands see)) (task (func L') (Enter x' operands' see'))
      enter_sims = record {
        by = λ n w w' lt depths idle.
            let c : Conf V S = record { operands = operands; locals = []; world = w } in
            let c' : Conf V' S' = record { operands = operands'; locals = []; world = w' } in
            runs_map W.exact (Halts W) (returns W stays.gives_kind 0) (statuses W Idle Parts) n (func L x 0 n c) (λ j. func L' x' 0 j c')
            (shown see) (shown see')
            ((fs x x' stays.takes_kind stays.gives_kind stays.names).by 0 0 n c c' lt (calls_first W laws) depths (stays.takes w.state w'.state idle))
            stuck_shown
            (λ r r' g. places (stands r).world (stands r').world (see (plain_result r)) (see' (plain_result r')) g.depths (stays.sees (plain_result r) (plain_result r') g.plain));
      }

    pub task_sims : (t : Task V S) (t' : Task V' S') → TaskStays W Idle Parts t t' → TaskSims W Idle Parts N (task (func L) t) (task (func L') t')
    task_sims (Change f) (Change f') h = change_sims N f f' h
    task_sims (Change f) (Enter x' operands' see') h = absurd h
    task_sims (Enter x operands see) (Change f') h = absurd h
    task_sims (Enter x operands see) (Enter x' operands' see') h = enter_sims x operands see x' operands' see' h

    -- all tasks
    pub tasks_sims : NeverAlone → (ts : List (Task V S)) (ts' : List (Task V' S')) → TasksStay W Idle Parts ts ts' → TaskSims W Idle Parts N (tasks (func L) ts) (tasks (func L') ts')
    tasks_sims alone [] [] h = tasks_nothing N
    tasks_sims alone [] (t' ∷ ts') h = absurd h
    tasks_sims alone (t ∷ ts) [] h = absurd h
    tasks_sims alone (t ∷ ts) (t' ∷ ts') h = tasks_then alone N (task (func L) t) (tasks (func L) ts) (task (func L') t') (tasks (func L') ts') (task_sims t t' h.0) (tasks_sims alone ts ts' h.1)

  -- the turns of an output that comes to a result: all that there are, or enough
  pub comes_final : (exact : Bool) (n u : ℕ) (r : Status (World S)) (t : ℕ → Out (World S') (Status (World S'))) → (c : Comes exact (statuses W Idle Parts) n u r t) → Halts W (stands r) (stands c.result) → (j : ℕ) × Spends exact n j × Halts W (stands r) (place_of stands (t j))
  comes_final true n u r t c halts =
      let spends = c.spends in
      let within = c.within in
      let e : c.cost + (n - u) ≡ n = omega arith in
      (n, refl, subst (λ w. Halts W (stands r) w) (ap (place_of stands) (sym (ap t (sym e) ∙ c.does (n - u)))) halts)
  comes_final false n u r t c halts =
      let le : n ≤ c.cost + n = omega arith in
      (c.cost + n, le, subst (λ w. Halts W (stands r) w) (ap (place_of stands) (sym (c.does n))) halts)

  module _ (idle : IdleLaws W Idle Parts) (alone : NeverAlone) where
    status_halts : (r : Status (World S)) (r' : Status (World S')) → Statuses W Idle Parts r r' → Halts W (stands r) (stands r')
    status_halts (Go w) (Go w') g = record { state = idle.idle_end w.state w'.state g.state; bound = g.depths.bound }
    status_halts (Go w) (Leave j' w') g = absurd g.state
    status_halts (Leave j w) (Go w') g = absurd (alone w.state w'.state g.state)
    status_halts (Leave j w) (Leave j' w') g = record { state = g.state; bound = g.depths.bound }

    -- where the output is when the input is done or halted within n turns
    pub final_of : (n : ℕ) (o : Out (World S) (Status (World S))) (t : ℕ → Out (World S') (Status (World S'))) → Meets W.exact (Halts W) (statuses W Idle Parts) n o t → IsStuckRun o W.strict ⊎ Final W n (place_of stands o) (λ j. place_of stands (t j))
    final_of n (Done u r) t (inl f) = inl f
    final_of n (Done u r) t (inr c) = let end = comes_final W.exact n u r t c (status_halts r c.result c.matches) in inr (record { turns = end.0; spends = end.1; halts = end.2 })
    final_of n (Halt w) t s = inr (record { turns = s.turns; spends = s.spends; halts = subst (λ v. Halts W w v) (ap (place_of stands) (sym s.does)) s.matches })

    -- the worlds after tasks, from states that match
    pub final : {I I' : Type 0} {F F' : Type 0 → Type 0} (L : Language I F V S) (L' : Language I' F' V' S') (laws : Lawful W) → ((N : ℕ) → AllFuncsSim W N (func L) (func L')) → (ts : List (Task V S)) (ts' : List (Task V' S')) → TasksStay W Idle Parts ts ts' → (s : S) (s' : S') → Idle s s' → (n : ℕ) → IsStuckRun (tasks (func L) ts n (record { state = s; deepest = 0 })) W.strict ⊎ Final W n (world_after (func L) ts s n) (world_after (func L') ts' s')
    final L L' laws fs ts ts' stay s s' h n =
        let w : World S = record { state = s; deepest = 0 } in
        let w' : World S' = record { state = s'; deepest = 0 } in
        let lt : n < suc n = omega arith in
        let none : 0 ≤ W.frames * 0 + W.more_frames = omega arith in
        final_of n (tasks (func L) ts n w) (λ j. tasks (func L') ts' j w')
        ((tasks_sims L L' laws (suc n) (fs (suc n)) alone ts ts' stay).by n w w' lt (record { reached = omega arith; bound = none }) h).by
