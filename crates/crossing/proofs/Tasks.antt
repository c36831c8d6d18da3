-- Tasks of a host, where functions go in step.
use Rattle.std.proofs.Common.{◌≡◌, ℕ, List, [], ◌∷◌, refl, sym, subst}
use Rattle.outcome_kit.specs.Outcome.{Out, Done, Halt, place_of}
use Rattle.outcome_kit.specs.Code.{Go, Leave, go_on, stands}
use Rattle.evaluation_kit.specs.Configurations.{World, Conf, PlainRes, Res, Sem, plain_of}
use Rattle.evaluation_kit.specs.Tasks.{Status, Task, Change, Enter, placed, plain_result, shown, task, tasks, world_after}
use Rattle.simulation_kit.specs.Likenesses.{Likeness, Handed, StatusLike, SeeLike, TaskLike, TasksLike}
use Rattle.simulation_kit.proofs.Liking as liking
use Rattle.crossing.specs.InStep.{ConfLike, IdleLike, WorldLike, OutLike, ReturnsLike, TaskEndsLike, FuncInStep}
use Rattle.crossing.proofs.Sequences.{bind_like}

module _ {V S V' S' : Type 0} (K : Likeness V S V' S') where
  placed_like : (w : World S) (w' : World S') → w'.deepest ≡ w.deepest → (r : Status S) (r' : Status S') → StatusLike K r r' → TaskEndsLike K (placed w r) (placed w' r')
  placed_like w w' e (Go s) (Go s') h = record { state = h.0; safe = h.1; deepest = e }
  placed_like w w' e (Leave j s) (Leave j' s') h = record { state = h; deepest = e }
  placed_like w w' e (Go s) (Leave j' s') h = absurd h
  placed_like w w' e (Leave j s) (Go s') h = absurd h

  -- what becomes of the result of a call
  module _ (see : PlainRes V S → Status S) (see' : PlainRes V' S' → Status S') (like : SeeLike K see see') where
    handed : (c : Conf V S) (c' : Conf V' S') → ConfLike K c c' → Handed K c.operands c.world.state (K.values c.operands) c'.world.state
    handed c c' h = record { operands = refl; state = h.plain.state; sound = h.plain.sound_operands; safe = h.plain.safe }

    sees : (r : Res V S) (r' : Res V' S') → ReturnsLike K r r' → StatusLike K (see (plain_result r)) (see' (plain_result r'))
    sees (Go c) (Go c') h =
        subst (λ (o : List V'). StatusLike K (see (Go (plain_of c))) (see' (Go (record { operands = o; locals = c'.locals; state = c'.world.state })))) (sym h.plain.operands)
        (like.goes c.operands c.locals c.world.state c'.locals c'.world.state (handed c c' h))
    sees (Leave j c) (Leave j' c') h =
        subst (λ (o : List V'). StatusLike K (see (Leave j (plain_of c))) (see' (Leave j' (record { operands = o; locals = c'.locals; state = c'.world.state })))) (sym h.2.plain.operands)
        (like.leaves j j' c.operands c.locals c.world.state c'.locals c'.world.state h.0 h.1 (handed c c' h.2))
    sees (Go c) (Leave j' c') h = absurd h
    sees (Leave j c) (Go c') h = absurd h

    as_deep : (r : Res V S) (r' : Res V' S') → ReturnsLike K r r' → (stands r').world.deepest ≡ (stands r).world.deepest
    as_deep (Go c) (Go c') h = h.deepest
    as_deep (Leave j c) (Leave j' c') h = h.2.deepest
    as_deep (Go c) (Leave j' c') h = absurd h
    as_deep (Leave j c) (Go c') h = absurd h

    shown_like : (r : Res V S) (r' : Res V' S') → ReturnsLike K r r' → TaskEndsLike K (shown see r) (shown see' r')
    shown_like r r' h = placed_like (stands r).world (stands r').world (as_deep r r' h) (see (plain_result r)) (see' (plain_result r')) (sees r r' h)

  module _ (funcs : ℕ → Sem V S) (funcs' : ℕ → Sem V' S') (go : (x : ℕ) → K.keeps.Named x → FuncInStep K (funcs x) (funcs' (K.index x))) where
    begun : (operands : List V) (operands' : List V') → operands' ≡ K.values operands → K.keeps.Sound operands → (w : World S) (w' : World S') → IdleLike K w w' → ConfLike K (record { operands = operands; locals = []; world = w }) (record { operands = operands'; locals = []; world = w' })
    begun operands operands' e sound w w' h = record {
      plain = record {
        operands = e;
        locals = sym (liking.values_none K);
        state = h.state;
        sound_operands = sound;
        sound_locals = K.keeps.none;
        safe = h.safe;
      };
      deepest = h.deepest;
    }

    calls : (x x' : ℕ) → K.keeps.Named x → x' ≡ K.index x → FuncInStep K (funcs x) (funcs' x')
    calls x x' named e = subst (λ (i : ℕ). FuncInStep K (funcs x) (funcs' i)) (sym e) (go x named)

    task_in_step : (t : Task V S) (t' : Task V' S') → TaskLike K t t' → (n : ℕ) (w : World S) (w' : World S') → IdleLike K w w' → OutLike K (TaskEndsLike K) (task funcs t n w) (task funcs' t' n w')
    task_in_step (Change f) (Change f') h n w w' e = (refl, placed_like w w' e.deepest (f w.state) (f' w'.state) (h.changes w.state w'.state e.state e.safe))
    task_in_step (Enter x operands see) (Enter x' operands' see') h n w w' e =
        bind_like K (ReturnsLike K) (TaskEndsLike K) n _ _ (λ r m. Done 0 (shown see r)) (λ r m. Done 0 (shown see' r))
        ((calls x x' h.0 h.1).by 0 n (record { operands = operands; locals = []; world = w }) (record { operands = operands'; locals = []; world = w' }) (begun operands operands' h.2 h.3 w w' e))
        (λ r r' m g. (refl, shown_like see see' h.4 r r' g))
    task_in_step (Change f) (Enter x' operands' see') h n w w' e = absurd h
    task_in_step (Enter x operands see) (Change f') h n w w' e = absurd h

    goes_on : (a : ℕ → World S → Out (World S) (Status (World S))) (b : ℕ → World S' → Out (World S') (Status (World S'))) → ((n : ℕ) (w : World S) (w' : World S') → IdleLike K w w' → OutLike K (TaskEndsLike K) (a n w) (b n w')) → (r : Status (World S)) (r' : Status (World S')) (n : ℕ) → TaskEndsLike K r r' → OutLike K (TaskEndsLike K) (go_on a r n) (go_on b r' n)
    goes_on a b each (Go w) (Go w') n h = each n w w' h
    goes_on a b each (Leave j w) (Leave j' w') n h = (refl, h)
    goes_on a b each (Go w) (Leave j' w') n h = absurd h
    goes_on a b each (Leave j w) (Go w') n h = absurd h

    tasks_in_step : (ts : List (Task V S)) (ts' : List (Task V' S')) → TasksLike K ts ts' → (n : ℕ) (w : World S) (w' : World S') → IdleLike K w w' → OutLike K (TaskEndsLike K) (tasks funcs ts n w) (tasks funcs' ts' n w')
    tasks_in_step [] [] h n w w' e = (refl, e)
    tasks_in_step [] (t' ∷ ts') h n w w' e = absurd h
    tasks_in_step (t ∷ ts) [] h n w w' e = absurd h
    tasks_in_step (t ∷ ts) (t' ∷ ts') h n w w' e =
        bind_like K (TaskEndsLike K) (TaskEndsLike K) n (task funcs t n w) (task funcs' t' n w') (go_on (tasks funcs ts)) (go_on (tasks funcs' ts')) (task_in_step t t' h.0 n w w' e)
        (λ r r' m g. goes_on (tasks funcs ts) (tasks funcs' ts') (λ i v v' f. tasks_in_step ts ts' h.1 i v v' f) r r' m g)

    -- where a run is after tasks
    over : (r : Status (World S)) (r' : Status (World S')) → TaskEndsLike K r r' → WorldLike K (stands r) (stands r')
    over (Go w) (Go w') h = record { state = K.states_end w.state w'.state h.state; deepest = h.deepest }
    over (Leave j w) (Leave j' w') h = h
    over (Go w) (Leave j' w') h = absurd h
    over (Leave j w) (Go w') h = absurd h

    places : (o : Out (World S) (Status (World S))) (o' : Out (World S') (Status (World S'))) → OutLike K (TaskEndsLike K) o o' → WorldLike K (place_of stands o) (place_of stands o')
    places (Done u r) (Done u' r') h = over r r' h.1
    places (Halt w) (Halt w') h = h
    places (Done u r) (Halt w') h = absurd h
    places (Halt w) (Done u' r') h = absurd h

    pub worlds_alike : (ts : List (Task V S)) (ts' : List (Task V' S')) → TasksLike K ts ts' → (s : S) (s' : S') → K.States s s' → K.keeps.Safe s → (n : ℕ) → WorldLike K (world_after funcs ts s n) (world_after funcs' ts' s' n)
    worlds_alike ts ts' h s s' e safe n =
        places (tasks funcs ts n (record { state = s; deepest = 0 })) (tasks funcs' ts' n (record { state = s'; deepest = 0 }))
        (tasks_in_step ts ts' h n (record { state = s; deepest = 0 }) (record { state = s'; deepest = 0 }) (record { state = e; safe = safe; deepest = refl }))
