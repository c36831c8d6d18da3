-- What calls and tasks come to.
use Rattle.std.specs.Prelude.{◌≡◌, ℕ, ◌+◌, ◌-◌, ◌≤◌, List, [], Option, Some, None}
use Rattle.evaluation_kit.specs.declared.jump.Jump.{Jump}
use Rattle.outcome_kit.specs.Outcome.{Out, Done, Halt, after}
use Rattle.outcome_kit.specs.Code as code
use Rattle.evaluation_kit.specs.Configurations.{World, Conf, PlainRes}
use Rattle.evaluation_kit.specs.Tasks.{Task, Change, Enter, task, tasks}
use Rattle.machine_kit.specs.declared.turns.Outcome.{Outcome}
use Rattle.machine_kit.specs.declared.turns.Outcome.TheVariants as outcomes
use Rattle.machine_kit.specs.declared.host.Begun.{Begun}
use Rattle.machine_kit.specs.declared.host.Begun.TheVariants as begun
use Rattle.machine_kit.specs.Acts.{Acts, ended_by}

-- an outcome for each number of calls that were open at once: the machine does not count them
abbrev pub Comes : {S C : Type 0} → (World S → Out (World S) (code.Res Jump C)) → (World S → C) → S → ℕ → Outcome → S → Type 0
Comes run at s n (outcomes.Done used j) s' =
    (used ≤ n) × ((top : ℕ) → (top' : ℕ) × (run (record { state = s; deepest = top }) ≡ Done used (ended_by j (at (record { state = s'; deepest = top' })))))
Comes run at s n outcomes.Halted s' =
    (top : ℕ) → (top' : ℕ) × (run (record { state = s; deepest = top }) ≡ Halt (record { state = s'; deepest = top' }))

module _ {I V S : Type 0} (acts : Acts I V S) where
  -- a call from the host of the function with this index on these operands, the top first; the operands and the locals in
  -- which it ends
  abbrev pub CallComes : ℕ → List V → S → ℕ → Outcome → List V → List V → S → Type 0
  CallComes x operands s n outcome operands' locals' s' =
      Comes (λ w. acts.func x 0 n (record { operands = operands; locals = []; world = w })) (λ w. let c : Conf V S = record { operands = operands'; locals = locals'; world = w } in c) s n outcome s'

  -- a task, and tasks in order; the jump tells why they ended the run
  abbrev pub TaskComes : Task V S → S → ℕ → Outcome → S → Type 0
  TaskComes t s n outcome s' = Comes (λ w. task acts.func t n w) (λ w. w) s n outcome s'

  abbrev pub TasksCome : List (Task V S) → S → ℕ → Outcome → S → Type 0
  TasksCome ts s n outcome s' = Comes (λ w. tasks acts.func ts n w) (λ w. w) s n outcome s'

module _ {V S : Type 0} where
  -- the beginning of a task: a change was made, or a call is wanted
  abbrev pub BegunAs : Task V S → S → Begun V → S → Type 0
  BegunAs (Change f) s (begun.Changed over) s' = f s ≡ ended_by over s'
  BegunAs (Enter x operands see) s (begun.Call y o) s' = (x ≡ y) × (operands ≡ o.used) × (s' ≡ s)
  BegunAs _ s b s' = ⊥

  -- the end of the call of a task
  abbrev pub EndedAs : Task V S → PlainRes V S → Option Jump → S → Type 0
  EndedAs (Enter x operands see) r over s' = see r ≡ ended_by over s'
  EndedAs (Change f) r over s' = Unit {0}

-- the end of a task whose call came to this with these operands and locals
abbrev pub CallEnds : {V S : Type 0} → Task V S → Outcome → List V → List V → S → Outcome → S → Type 0
CallEnds t (outcomes.Done used j) operands locals s (outcomes.Done all over) s' =
    (all ≡ used) × EndedAs t (ended_by j (record { operands = operands; locals = locals; state = s })) over s'
CallEnds t outcomes.Halted operands locals s outcomes.Halted s' = s' ≡ s
CallEnds t _ operands locals s o s' = ⊥

-- a task after which the run goes on, and how many turns it took
abbrev pub goes_on : Outcome → Option ℕ
goes_on (outcomes.Done used None) = Some used
goes_on _ = None

-- an outcome before which so many turns were used
abbrev pub later : ℕ → Outcome → Outcome
later used (outcomes.Done more j) = outcomes.Done (used + more) j
later used outcomes.Halted = outcomes.Halted

-- how many turns an outcome tells of
abbrev pub turns_of : Outcome → ℕ
turns_of (outcomes.Done used j) = used
turns_of outcomes.Halted = 0

module _ {I V S : Type 0} (acts : Acts I V S) where
  -- of n turns so many were used for the first tasks, and these are left
  pub record TasksSpent (ts : List (Task V S)) (s : S) (n used : ℕ) (rest : List (Task V S)) (s' : S) : Type 0 where
    pub within : used ≤ n
    pub leaves : (top : ℕ) → (top' : ℕ) × (tasks acts.func ts n (record { state = s; deepest = top }) ≡ after used (tasks acts.func rest (n - used) (record { state = s'; deepest = top' })))
