-- What all values and all states of a run keep, for any language, if instructions, functions and tasks of the host do.
use Rattle.std.proofs.Common.{ℕ, zero, suc, List, [], ◌∷◌}
use Rattle.std.specs.List.{AllByRecursion}
use Rattle.outcome_kit.specs.Outcome.{Out, Done, Halt, place_of}
use Rattle.outcome_kit.specs.Code.{Go, Leave, go_on, stands}
use Rattle.evaluation_kit.specs.Configurations.{World, Conf, PlainRes, Res, Sem}
use Rattle.evaluation_kit.specs.Control.{Function, enter}
use Rattle.evaluation_kit.specs.Languages.{Language, code_with, func_within, func}
use Rattle.evaluation_kit.specs.Tasks.{Status, Task, Change, Enter, placed, plain_result, shown, task, tasks, world_after}
use Rattle.ranges_core1.proofs.Running.{Ends, bind_ends, turn_ends, Sound, ResHolds, PlainResHolds, SemKeeps, CalleeKeeps, enter_keeps, arrive_keeps}

module _ {V S : Type 0} (P : V → Type 0) (Safe : S → Type 0) where
  -- the ends of tasks
  abbrev pub StatusSafe : Status S → Type 0
  StatusSafe (Go s) = Safe s
  StatusSafe (Leave j s) = Safe s

  abbrev pub TaskKeeps : Task V S → Type 0
  TaskKeeps (Change f) = (s : S) → Safe s → StatusSafe (f s)
  TaskKeeps (Enter x operands see) = Sound P Safe operands × ((r : PlainRes V S) → PlainResHolds P Safe r → StatusSafe (see r))

module _ {I : Type 0} {F : Type 0 → Type 0} {V S : Type 0} (L : Language I F V S) (P : V → Type 0) (Safe : S → Type 0) where
  abbrev pub Keeps : Sem V S → Type 0
  Keeps a = SemKeeps P Safe a

  -- a function whose body keeps it, if functions do
  pub record FunctionKeeps (f : Function I V) : Type 0 where
    pub zeros : Sound P Safe f.zeros
    pub body : (funcs : ℕ → Sem V S) → ((g : ℕ) → Keeps (funcs g)) → Keeps (code_with L funcs f.body)

  module _ (callees : (x : ℕ) → CalleeKeeps P Safe FunctionKeeps (L.callee x)) where
    within_keeps : (k x : ℕ) → Keeps (func_within L k x)
    within_keeps zero x = arrive_keeps P Safe FunctionKeeps (L.callee x) _ (callees x) (λ f h. record { keeps = λ open_calls n c g. g.state })
    within_keeps (suc k) x =
        arrive_keeps P Safe FunctionKeeps (L.callee x) _ (callees x) (λ f h. record {
          keeps = λ open_calls n c g.
              turn_ends Safe (ResHolds P Safe) n c.world (λ m. enter (code_with L (func_within L k) f.body) (func_within L k) f open_calls m c) g.state
              (λ m. (enter_keeps P Safe (code_with L (func_within L k) f.body) (func_within L k) f (h.body (func_within L k) (within_keeps k)) (within_keeps k) h.zeros).keeps open_calls m c g);
        })

    func_keeps : (x : ℕ) → Keeps (func L x)
    unfolding func
    func_keeps x = record { keeps = λ open_calls n c g. (within_keeps n x).keeps open_calls n c g }

    abbrev Placed : Status (World S) → Type 0
    Placed r = Safe (stands r).state

    placed_safe : (w : World S) (r : Status S) → StatusSafe P Safe r → Placed (placed w r)
    placed_safe w (Go s) h = h
    placed_safe w (Leave j s) h = h

    plain_safe : (r : Res V S) → ResHolds P Safe r → PlainResHolds P Safe (plain_result r)
    plain_safe (Go c) h = record { operands = h.operands; locals = h.locals; state = h.state }
    plain_safe (Leave j c) h = record { operands = h.operands; locals = h.locals; state = h.state }

    task_keeps : (t : Task V S) → TaskKeeps P Safe t → (n : ℕ) (w : World S) → Safe w.state → Ends Safe Placed (task (func L) t n w)
    task_keeps (Change f) h n w s = placed_safe w (f w.state) (h w.state s)
    task_keeps (Enter x operands see) h n w s =
        let c : Conf V S = record { operands = operands; locals = []; world = w } in
        bind_ends Safe (ResHolds P Safe) Placed n (λ r m. Done 0 (shown see r))
        (λ r m k. placed_safe (stands r).world (see (plain_result r)) (h.1 (plain_result r) (plain_safe r k))) (func L x 0 n c)
        ((func_keeps x).keeps 0 n c (record { operands = h.0; locals = tt; state = s }))

    goes_on : (next : ℕ → World S → Out (World S) (Status (World S))) → ((n : ℕ) (w : World S) → Safe w.state → Ends Safe Placed (next n w)) → (r : Status (World S)) (k : ℕ) → Placed r → Ends Safe Placed (go_on next r k)
    goes_on next h (Go v) k g = h k v g
    goes_on next h (Leave j v) k g = g

    tasks_keep : (ts : List (Task V S)) → AllByRecursion (TaskKeeps P Safe) ts → (n : ℕ) (w : World S) → Safe w.state → Ends Safe Placed (tasks (func L) ts n w)
    tasks_keep [] h n w s = s
    tasks_keep (t ∷ ts) h n w s =
        bind_ends Safe Placed Placed n (go_on (tasks (func L) ts)) (goes_on (tasks (func L) ts) (tasks_keep ts h.1)) (task (func L) t n w) (task_keeps t h.0 n w s)

    end_safe : (o : Out (World S) (Status (World S))) → Ends Safe Placed o → Safe (place_of stands o).state
    end_safe (Done used r) h = h
    end_safe (Halt w) h = h

    -- the state after a run
    pub run_safe : (ts : List (Task V S)) → AllByRecursion (TaskKeeps P Safe) ts → (s : S) → Safe s → (n : ℕ) → Safe (world_after (func L) ts s n).state
    run_safe ts h s k n = let w : World S = record { state = s; deepest = 0 } in end_safe (tasks (func L) ts n w) (tasks_keep ts h n w k)
