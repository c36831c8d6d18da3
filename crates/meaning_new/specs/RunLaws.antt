-- What every run keeps, for every module, script and number of turns, typed and fitting or not.
use Rattle.std.specs.Prelude.{◌≡◌, ℕ, ◌≤◌, ◌⊎◌, nat_lt, List, [], ◌∷◌, ◌++◌, Bool, Contains}
use Rattle.host_kit.specs.Trace.{Mark, Shows, Captured, Begins, seen, answers, captured, cut}
use Rattle.host_kit.specs.Scripts.{regrow}
use Rattle.host_kit.specs.declared.event.Event.TheVariants.{Full}
use Rattle.host_kit.specs.declared.script.Script.{Script}
use Rattle.wasm_ast.specs.declared.module.parts.Module.{Module}
use Rattle.host_kit.specs.Fits.{ScriptFits}
use Rattle.meaning_new.specs.Runs.{trace, depth, bounded_trace, bounded_depth}

-- with more turns the trace only goes on, also within bounds, and no count falls
abbrev pub GoesOn : Type 0
GoesOn = (m : Module) (s : Script) (n k : ℕ) → n ≤ k → Begins (trace m s n) (trace m s k)

abbrev pub BoundedGoesOn : Type 0
BoundedGoesOn = (permits : List ℕ → Bool) (room : ℕ → Bool) (m : Module) (s : Script) (n k : ℕ) → n ≤ k → Begins (bounded_trace permits room m s n) (bounded_trace permits room m s k)

abbrev pub DepthGrows : Type 0
DepthGrows = (m : Module) (s : Script) (n k : ℕ) → n ≤ k → depth m s n ≤ depth m s k

abbrev pub AnswersGrow : Type 0
AnswersGrow = (m : Module) (s : Script) (n k : ℕ) → n ≤ k → Begins (answers (seen (trace m s n))) (answers (seen (trace m s k)))

abbrev pub CapturesGrow : Type 0
CapturesGrow = (m : Module) (s : Script) (n k : ℕ) → n ≤ k → captured (trace m s n) ≤ captured (trace m s k)

-- that a store of captures is full is no event of a run without bounds
abbrev pub IsNeverFull : Type 0
IsNeverFull = (m : Module) (s : Script) (n : ℕ) → Contains (trace m s n) (Shows Full) → ⊥

-- where there is room for N captures no more are made, and a full store is shown after exactly N
abbrev pub CountsCaptures : Type 0
CountsCaptures = (permits : List ℕ → Bool) (N : ℕ) (m : Module) (s : Script) (n : ℕ) → captured (bounded_trace permits (λ k. nat_lt k N) m s n) ≤ N

abbrev pub FullAfterAll : Type 0
FullAfterAll = (permits : List ℕ → Bool) (N : ℕ) (m : Module) (s : Script) (n : ℕ) → Contains (bounded_trace permits (λ k. nat_lt k N) m s n) (Shows Full) → captured (bounded_trace permits (λ k. nat_lt k N) m s n) ≡ N

-- under the answers to growths that the run gave itself, whatever follows them, the run is the same
abbrev pub ReplaysTrace : Type 0
ReplaysTrace = (m : Module) (s : Script) (n : ℕ) (more : List Bool) → trace m (regrow (answers (seen (trace m s n)) ++ more) s) n ≡ trace m s n

abbrev pub ReplaysDepth : Type 0
ReplaysDepth = (m : Module) (s : Script) (n : ℕ) (more : List Bool) → depth m (regrow (answers (seen (trace m s n)) ++ more) s) n ≡ depth m s n

-- a bounded run stopped, and shows one thing more, that the store is full; the run without bounds goes on from there with
-- one capture more
pub record Stopped (bounded free : List Mark) : Type 0 where
  pub before : List Mark
  pub stopped : bounded ≡ before ++ Shows Full ∷ []
  pub further : Begins (before ++ Captured ∷ []) free

-- the run without bounds, under the answers that the bounded run gave itself and any that follow, is the bounded run, or
-- the bounded one stopped
abbrev pub own_script : (List ℕ → Bool) → (ℕ → Bool) → Module → Script → ℕ → List Bool → Script
own_script permits room m s n more = regrow (answers (seen (bounded_trace permits room m s n)) ++ more) s

abbrev pub IsBoundedRun : Type 0
IsBoundedRun = (permits : List ℕ → Bool) (room : ℕ → Bool) (m : Module) (s : Script) (n : ℕ) (more : List Bool) →
    ((trace m (own_script permits room m s n more) n ≡ bounded_trace permits room m s n) × (depth m (own_script permits room m s n more) n ≡ bounded_depth permits room m s n))
    ⊎ Stopped (bounded_trace permits room m s n) (trace m (own_script permits room m s n more) n)

-- what the run without bounds leaves behind before the first mark that the bounds refuse, the bounded run does too
abbrev pub IsCut : Type 0
IsCut = (permits : List ℕ → Bool) (room : ℕ → Bool) (m : Module) (s : Script) (n : ℕ) → Begins (cut permits room 0 (trace m s n)) (bounded_trace permits room m s n)

-- that a script fits does not read its answers to growths
abbrev pub FitsUnderAnyAnswers : Type 0
FitsUnderAnyAnswers = (m : Module) (s : Script) (grows : List Bool) → ScriptFits m s → ScriptFits m (regrow grows s)
