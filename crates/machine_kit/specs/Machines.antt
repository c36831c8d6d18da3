-- What a machine stands for: what is left of a run.
use Rattle.std.specs.Prelude.{◌≡◌, ℕ, ◌+◌, ◌<◌, Bool, true, false, List, [], ◌∷◌, take, drop, reverse, Option, Some, None}
use Rattle.evaluation_kit.specs.declared.jump.Jump.{Jump}
use Rattle.outcome_kit.specs.Outcome.{Out, bind, turn}
use Rattle.evaluation_kit.specs.Configurations.{World, Conf, Res}
use Rattle.evaluation_kit.specs.Control.{enter}
use Rattle.machine_kit.specs.declared.frame.Frame.{Frame}
use Rattle.machine_kit.specs.declared.frame.Frame.TheVariants as frames
use Rattle.machine_kit.specs.declared.frame.Flow.{Flow}
use Rattle.machine_kit.specs.declared.frame.Flow.TheVariants as flows
use Rattle.machine_kit.specs.declared.machine.Machine.{Machine}
use Rattle.machine_kit.specs.Stacks.{Stack}
use Rattle.machine_kit.specs.Acts.{Acts, total, code_in, handler_of, zeros_of, ended_by}
use Rattle.machine_kit.specs.Heads.{function_of}
use Rattle.machine_kit.specs.Pending.{Pending, InBlock, InLoop, InGuard, InBody, InCall, open_calls, pending_size, resume, again}

-- where a run is: the code that is left of the innermost form, the operands, the locals, and the frames, the innermost
-- first
pub record Place (I V : Type 0) : Type 0 where
  pub code : List I
  pub operands : Stack V
  pub locals : Stack V
  pub frames : List (Frame I)

abbrev pub place_of : {I V : Type 0} → Machine I V → Place I V
place_of m = record { code = m.code.now; operands = m.operands; locals = m.locals; frames = reverse m.frames.items }

module _ {I V S : Type 0} (acts : Acts I V S) where
  -- what frames stand for, the innermost first, over the operands and the locals that are set aside
  abbrev pub opens : List (Frame I) → List V → List V → List (Pending I V S)
  opens [] operands locals = []
  opens (frames.Block r n rest ∷ more) operands locals = InBlock r (take n operands) rest.now ∷ opens more (drop n operands) locals
  opens (frames.Loop p r n body rest ∷ more) operands locals = InLoop p r (take n operands) body.now rest.now ∷ opens more (drop n operands) locals
  opens (frames.Guard r n instr rest ∷ more) operands locals = InGuard r (handler_of (acts.form instr.now)) (take n operands) rest.now ∷ opens more (drop n operands) locals
  opens (frames.Body r ∷ more) operands locals = InBody r ∷ opens more operands locals
  opens (frames.Call own n rest ∷ more) operands locals = InCall (reverse (take own locals)) (take n operands) rest.now ∷ opens more (drop n operands) (drop own locals)

  -- what is left of a run: at a place in code, at an end, before a call, before a pass through a loop, before a function
  abbrev pub left : Flow I → List I → List (Pending I V S) → Conf V S → ℕ → Out (World S) (Res V S)
  left flows.Run code k c n = bind n (code_in acts code (open_calls k) n c) (resume acts k)
  left (flows.Close j) code k c n = resume acts k (ended_by j c) n
  left (flows.Enter x) code k c n = bind n (acts.func x (open_calls k) n c) (resume acts k)
  left flows.Again code k c n = again acts k c n
  left (flows.Open x body) code k c n =
      let f = function_of (zeros_of (acts.callee x)) body in
      bind n (turn n c.world (λ m. enter (code_in acts f.body) acts.func f (open_calls k) m c)) (resume acts k)

  -- how much of it is left before a turn is wanted
  abbrev pub left_size : Flow I → List I → List (Pending I V S) → ℕ
  left_size flows.Run code k = total acts.size code + 1 + pending_size acts.size k
  left_size (flows.Close j) code k = pending_size acts.size k
  left_size (flows.Enter x) code k = 1 + pending_size acts.size k
  left_size flows.Again code k = 0
  left_size (flows.Open x body) code k = 0

  -- the same, of a machine
  abbrev pub conf_of : Stack V → Stack V → S → ℕ → Conf V S
  conf_of operands locals s top = record { operands = operands.used; locals = locals.used; world = record { state = s; deepest = top } }

  abbrev pub pending_at : Place I V → List (Pending I V S)
  pending_at a = opens a.frames a.operands.aside a.locals.aside

  abbrev pub means : Flow I → Place I V → S → ℕ → ℕ → Out (World S) (Res V S)
  means flow a s top n = left flow a.code (pending_at a) (conf_of a.operands a.locals s top) n

  abbrev pub size_of : Flow I → Place I V → ℕ
  size_of flow a = left_size flow a.code (pending_at a)

  -- a step: the same is left of the run, and less of it before a turn is wanted
  pub record Moves (flow : Flow I) (a : Place I V) (s : S) (flow' : Flow I) (b : Place I V) (s' : S) : Type 0 where
    pub same : (top n : ℕ) → means flow a s top n ≡ means flow' b s' top n
    pub less : size_of flow' b < size_of flow a

  -- any number of steps
  abbrev pub Reaches : Flow I → Place I V → S → Flow I → Place I V → S → Type 0
  Reaches flow a s flow' b s' = (top n : ℕ) → means flow a s top n ≡ means flow' b s' top n

-- what comes behind a plain instruction
abbrev pub flow_after : {I : Type 0} → Option Jump → Flow I
flow_after None = flows.Run
flow_after (Some j) = flows.Close (Some j)

-- whether the machine goes on without a turn
abbrev pub moving : {I : Type 0} → Flow I → List (Frame I) → Bool
moving flows.Run fs = true
moving (flows.Close j) [] = false
moving (flows.Close j) (f ∷ fs) = true
moving (flows.Enter x) fs = true
moving flows.Again fs = false
moving (flows.Open x body) fs = false
