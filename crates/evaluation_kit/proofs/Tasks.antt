-- A law that is closed holds of all that a host does with the functions of a language, if it holds of each task.
use Rattle.std.proofs.Common.{◌≡◌, ℕ, List, [], ◌∷◌, Option, Some, None, refl}
use Rattle.std.specs.List.{AllByRecursion}
use Rattle.evaluation_kit.specs.declared.jump.Jump.{Jump}
use Rattle.outcome_kit.specs.Outcome.{Done}
use Rattle.outcome_kit.specs.Code.{Go, Leave, go_on, stands}
use Rattle.evaluation_kit.specs.Configurations.{World, PlainRes, Res}
use Rattle.evaluation_kit.specs.Languages.{Language, func}
use Rattle.evaluation_kit.specs.Tasks.{Status, Task, Change, Enter, placed, shown, task, tasks}
use Rattle.evaluation_kit.proofs.Closure.{Run, Place, Closed, res_place, res_put, res_jump}
use Rattle.evaluation_kit.proofs.Whole.{Owes}
use Rattle.evaluation_kit.proofs.Functions.{func_related}

module _ {S : Type 0} where
  abbrev pub status_at : Status (World S) → World S
  status_at r = stands r

  abbrev pub status_put : World S → Status (World S) → Status (World S)
  status_put w (Go v) = Go w
  status_put w (Leave j v) = Leave j w

  abbrev pub status_jump : Status (World S) → Option Jump
  status_jump (Go w) = None
  status_jump (Leave j w) = Some j

  pub status_put_at : (r : Status (World S)) → status_put (status_at r) r ≡ r
  status_put_at (Go w) = refl
  status_put_at (Leave j w) = refl

  pub status_at_put : (w : World S) (r : Status (World S)) → status_at (status_put w r) ≡ w
  status_at_put w (Go v) = refl
  status_at_put w (Leave j v) = refl

  pub status_put_twice : (v w : World S) (r : Status (World S)) → status_put v (status_put w r) ≡ status_put v r
  status_put_twice v w (Go u) = refl
  status_put_twice v w (Leave j u) = refl

  pub status_jump_put : (w : World S) (r : Status (World S)) → status_jump (status_put w r) ≡ status_jump r
  status_jump_put w (Go v) = refl
  status_jump_put w (Leave j v) = refl

  -- the world in the status of tasks
  abbrev pub status_place : Place S (Status (World S))
  status_place = record {
    at = status_at;
    put = status_put;
    jump = status_jump;
    put_at = status_put_at;
    at_put = status_at_put;
    put_twice = status_put_twice;
    jump_put = status_jump_put;
  }

module _ {S : Type 0} (C : Closed S) where
  abbrev pub BothStatus : ℕ → Option Jump → Run S (Status (World S)) → Run S (Status (World S)) → Type 0
  BothStatus N j m m' = C.Holds (Status (World S)) status_place N j m m'

  -- what a law asks of a task
  pub record OwesChange (f : S → Status S) : Type 0 where
    pub change : (N : ℕ) → BothStatus N None (λ w n. Done 0 (placed w (f w.state))) (λ w n. Done 0 (placed w (f w.state)))

  goes_on : (N : ℕ) (more : Run S (Status (World S))) → BothStatus N None more more → (r : Status (World S)) → BothStatus N (status_jump r) (λ w n. go_on (λ i v. more v i) (status_put w r) n) (λ w n. go_on (λ i v. more v i) (status_put w r) n)
  goes_on N more h (Go v) = h
  goes_on N more h (Leave j v) = C.done (Status (World S)) status_place N (Leave j v)

module _ {V S : Type 0} (C : Closed S) where
  pub record OwesShown (see : PlainRes V S → Status S) : Type 0 where
    pub shows : (N : ℕ) (r : Res V S) → BothStatus C N (res_jump r) (λ w n. Done 0 (shown see (res_put w r))) (λ w n. Done 0 (shown see (res_put w r)))

  abbrev pub OwesTask : Task V S → Type 0
  OwesTask (Change f) = OwesChange C f
  OwesTask (Enter x operands see) = OwesShown see

  module _ {I : Type 0} {F : Type 0 → Type 0} (L : Language I F V S) (owes : Owes L C) (any : World S) where
    task_related : (N : ℕ) (t : Task V S) → OwesTask t → BothStatus C N None (λ w n. task (func L) t n w) (λ w n. task (func L) t n w)
    task_related N (Change f) h = h.change N
    task_related N (Enter x operands see) h =
        C.bind (Res V S) (Status (World S)) res_place status_place N None
        (λ w n. func L x 0 n (record { operands = operands; locals = []; world = w })) (λ w n. func L x 0 n (record { operands = operands; locals = []; world = w }))
        (λ r m. Done 0 (shown see r)) (λ r m. Done 0 (shown see r))
        ((func_related L C owes N x).from 0 (record { operands = operands; locals = []; world = any })) (h.shows N)

    pub tasks_related : (N : ℕ) (ts : List (Task V S)) → AllByRecursion OwesTask ts → BothStatus C N None (λ w n. tasks (func L) ts n w) (λ w n. tasks (func L) ts n w)
    tasks_related N [] h = C.done (Status (World S)) status_place N (Go any)
    tasks_related N (t ∷ ts) h =
        C.bind (Status (World S)) (Status (World S)) status_place status_place N None
        (λ w n. task (func L) t n w) (λ w n. task (func L) t n w) (go_on (tasks (func L) ts)) (go_on (tasks (func L) ts))
        (task_related N t h.0) (goes_on C N (λ w n. tasks (func L) ts n w) (tasks_related N ts h.1))
