-- Tasks of a host: when those of the output do what those of the input do.
use Rattle.std.specs.Prelude.{◌≡◌, ℕ, ◌<◌, Bool, true, List, [], ◌∷◌, ◌+◌, ◌*◌, ◌≤◌}
use Rattle.evaluation_kit.specs.declared.jump.Jump.{Jump}
use Rattle.evaluation_kit.specs.declared.jump.Jump.TheVariants.{Stuck}
use Rattle.outcome_kit.specs.Outcome.{Out, Done, Halt, place_of}
use Rattle.outcome_kit.specs.Code.{Go, Leave, stands}
use Rattle.evaluation_kit.specs.Configurations.{World, Plain, PlainRes}
use Rattle.evaluation_kit.specs.Tasks.{Status, Task, Change, Enter}
use Rattle.simulation_kit.specs.Runs.{Post, Spends, Runs}
use Rattle.simulation_kit.specs.Matches.{Match, Depths, Halts, PlainReturns}
use Rattle.outcome_kit.proofs.Growing.{Order}

-- a run that ended where operands lacked their types
abbrev pub IsStuckStatus : {A : Type 0} → Status A → Bool → Type 0
IsStuckStatus (Leave Stuck a) strict = strict ≡ true
IsStuckStatus _ strict = ⊥

abbrev pub IsStuckRun : {H A : Type 0} → Out H (Status A) → Bool → Type 0
IsStuckRun (Done used r) strict = IsStuckStatus r strict
IsStuckRun (Halt here) strict = ⊥

-- where no run of the input is over while the output goes on
abbrev pub NoParts : {S S' : Type 0} → S → S' → Type 0
NoParts s s' = ⊥

-- Idle: the states between tasks. Parts: the states where the input is over and the output goes on.
module _ {V S V' S' : Type 0} (W : Match V S V' S') (Idle Parts : S → S' → Type 0) where
  -- the states after a task
  abbrev pub StateMatches : Status S → Status S' → Type 0
  StateMatches (Go s) (Go s') = Idle s s'
  StateMatches (Leave j s) (Leave j' s') = W.Ends s s'
  StateMatches (Leave j s) (Go s') = Parts s s'
  StateMatches (Go s) (Leave j' s') = ⊥

  -- the states in the ends of tasks
  abbrev pub status_of : {A : Type 0} → Status (World A) → Status A
  status_of (Go w) = Go w.state
  status_of (Leave j w) = Leave j w.state

  -- the ends of tasks
  pub record Statuses (r : Status (World S)) (r' : Status (World S')) : Type 0 where
    pub depths : Depths W 0 (stands r) (stands r')
    pub state : StateMatches (status_of r) (status_of r')

  abbrev pub statuses : Post (Status (World S)) (Status (World S'))
  statuses = record { Matches = Statuses; Free = λ r. IsStuckStatus r W.strict }

  -- what is done by b simulates what is done by a in runs within fewer than N turns
  pub record TaskSims (N : ℕ) (a : ℕ → World S → Out (World S) (Status (World S))) (b : ℕ → World S' → Out (World S') (Status (World S'))) : Type 0 where
    pub by : (n : ℕ) (w : World S) (w' : World S') → n < N → Depths W 0 w w' → Idle w.state w'.state → Runs W.exact (Halts W) statuses n (a n w) (λ j. b j w')

  -- a change of the state
  pub record ChangeStays (f : S → Status S) (f' : S' → Status S') : Type 0 where
    pub changes : (s : S) (s' : S') → Idle s s' → StateMatches (f s) (f' s')

  -- a call, and what becomes of its result
  pub record EnterStays (x : ℕ) (operands : List V) (see : PlainRes V S → Status S) (x' : ℕ) (operands' : List V') (see' : PlainRes V' S' → Status S') : Type 0 where
    pub takes_kind : W.Kind
    pub gives_kind : W.Kind
    pub names : W.Names x x' takes_kind gives_kind
    pub takes : (s : S) (s' : S') → Idle s s' → W.Takes takes_kind operands s operands' s'
    pub sees : (r : PlainRes V S) (r' : PlainRes V' S') → PlainReturns W gives_kind r r' → StateMatches (see r) (see' r')
    pub stuck : (p : Plain V S) → W.strict ≡ true → IsStuckStatus (see (Leave Stuck p)) W.strict

  -- a task that stays one of its sort
  abbrev pub TaskStays : Task V S → Task V' S' → Type 0
  TaskStays (Change f) (Change f') = ChangeStays f f'
  TaskStays (Enter x operands see) (Enter x' operands' see') = EnterStays x operands see x' operands' see'
  TaskStays _ _ = ⊥

  -- task for task
  abbrev pub TasksStay : List (Task V S) → List (Task V' S') → Type 0
  TasksStay [] [] = Unit {0}
  TasksStay (t ∷ ts) (t' ∷ ts') = TaskStays t t' × TasksStay ts ts'
  TasksStay _ _ = ⊥

  -- what states between tasks owe
  pub record IdleLaws : Type 0 where
    pub idle_end : (s : S) (s' : S') → Idle s s' → W.Ends s s'

-- Where the output is when the input stops within n turns.
pub record Final {V S V' S' : Type 0} (W : Match V S V' S') (n : ℕ) (w : World S) (after' : ℕ → World S') : Type 0 where
  pub turns : ℕ
  pub spends : Spends W.exact n turns
  pub halts : Halts W w (after' turns)

-- In to out: the output comes to where the input is, in no fewer turns.
pub record Reached {V S V' S' : Type 0} (W : Match V S V' S') (n : ℕ) (w : World S) (after' : ℕ → World S') : Type 0 where
  pub turns : ℕ
  pub enough : n ≤ turns
  pub state : W.Ends w.state (after' turns).state

-- Out to in: what the output has done within some turns leads to what stands for all that the input has done within them.
pub record Led {V S V' S' : Type 0} (W : Match V S V' S') (order : Order S') (w : World S) (w' : World S') : Type 0 where
  pub place : S'
  pub leads : order.Leads w'.state place
  pub state : W.Ends w.state place
  pub deepest : w'.deepest ≤ W.frames * w.deepest + W.more_frames

-- The input is over, and the output goes on from a place that is known, by an order of its worlds.
pub record Parted {V S V' S' : Type 0} (W : Match V S V' S') (Parts : S → S' → Type 0) (order : Order (World S')) (o : Out (World S) (Status (World S))) (t : ℕ → Out (World S') (Status (World S'))) : Type 0 where
  pub used : ℕ
  pub jump : Jump
  pub world : World S
  pub is_over : o ≡ Done used (Leave jump world)
  pub cost : ℕ
  pub place : World S'
  pub parts : Parts world.state place.state
  pub bound : place.deepest ≤ W.frames * world.deepest + W.more_frames
  pub onward : (k : ℕ) → order.Leads place (place_of stands (t (cost + k)))
