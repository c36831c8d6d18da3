-- A machine that takes turns.
use Rattle.std.specs.Prelude.{◌≡◌, ℕ, suc, ◌-◌, ◌≤◌, List, [], ◌∷◌, ◌++◌, take, reverse, Option, Some, None}
use Rattle.evaluation_kit.specs.declared.jump.Jump.{Jump}
use Rattle.outcome_kit.specs.Outcome.{Done, Halt, after}
use Rattle.machine_kit.specs.declared.frame.Frame.{Frame}
use Rattle.machine_kit.specs.declared.frame.Frame.TheVariants as frames
use Rattle.machine_kit.specs.declared.frame.Flow.{Flow}
use Rattle.machine_kit.specs.declared.frame.Flow.TheVariants as flows
use Rattle.machine_kit.specs.declared.head.Body.{Body}
use Rattle.machine_kit.specs.declared.turns.Outcome.{Outcome}
use Rattle.machine_kit.specs.declared.turns.Outcome.TheVariants as outcomes
use Rattle.machine_kit.specs.Acts.{Acts, ended_by}
use Rattle.machine_kit.specs.Machines.{Place, means, conf_of}

-- the end of a run that is over, where no form or call is open
abbrev pub over : {I : Type 0} → Flow I → Option (Option Jump)
over (flows.Close j) = Some j
over _ = None

-- the code of a pass through the loop that is innermost
abbrev pub loop_code : {I : Type 0} → List (Frame I) → Option (List I)
loop_code (frames.Loop p r n body rest ∷ more) = Some body.now
loop_code _ = None

-- the form that is innermost is a loop, of which a pass takes so many operands and has this code
abbrev pub IsPass : {I : Type 0} → ℕ → List I → List (Frame I) → Type 0
IsPass takes code (frames.Loop p r n body rest ∷ more) = (p ≡ takes) × (body.now ≡ code)
IsPass takes code _ = ⊥

module _ {I V : Type 0} where
  -- the machine before its next pass through a loop
  abbrev pub passed_place : Option (List I) → Place I V → Place I V
  passed_place (Some code) a = record a { code = code }
  passed_place None a = a

  -- the machine in a function that it entered
  abbrev pub entered_place : List V → Body I → Place I V → Place I V
  entered_place zeros body a = record {
    code = body.code.now;
    operands = record a.operands { used = [] };
    locals = record a.locals { used = reverse (take body.params a.operands.used) ++ zeros };
    frames = frames.Body body.results ∷ a.frames;
  }

abbrev pub passed_flow : {I : Type 0} → Option (List I) → Flow I
passed_flow (Some code) = flows.Run
passed_flow None = flows.Close None

module _ {I V S : Type 0} (acts : Acts I V S) where
  -- with a turn the run goes on from there, in which more calls may be open
  pub record Turned (flow : Flow I) (a : Place I V) (s : S) (flow' : Flow I) (b : Place I V) (s' : S) : Type 0 where
    pub goes : (top n : ℕ) → (top' : ℕ) × (means acts flow a s top (suc n) ≡ after 1 (means acts flow' b s' top' n))

  -- of n turns so many were used
  pub record Spent (flow : Flow I) (a : Place I V) (s : S) (n used : ℕ) (flow' : Flow I) (b : Place I V) (s' : S) : Type 0 where
    pub leaves : (top : ℕ) → (top' : ℕ) × (means acts flow a s top n ≡ after used (means acts flow' b s' top' (n - used)))

  -- what a run comes to within n turns
  abbrev pub Came : Flow I → Place I V → S → ℕ → Outcome → Place I V → S → Type 0
  Came flow a s n (outcomes.Done used j) b s' = (used ≤ n) × ((top : ℕ) → (top' : ℕ) × (means acts flow a s top n ≡ Done used (ended_by j (conf_of acts b.operands b.locals s' top'))))
  Came flow a s n outcomes.Halted b s' = (top : ℕ) → (top' : ℕ) × (means acts flow a s top n ≡ Halt (record { state = s'; deepest = top' }))
