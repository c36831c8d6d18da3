-- What every run of a module of 1.0 keeps, for every module, script and number of turns, typed and fitting or not.
use Rattle.std.specs.Prelude.{◌≡◌, ℕ, ◌≤◌, List, ◌++◌, Bool, Contains}
use Rattle.host_kit.specs.Trace.{Shows, Begins, seen, answers, captured}
use Rattle.host_kit.specs.Scripts.{regrow}
use Rattle.host_kit.specs.declared.event.Event.TheVariants.{Full}
use Rattle.host_kit.specs.declared.script.Script.{Script}
use Rattle.core1_ast.specs.declared.module.parts.Module1.{Module1}
use Rattle.host_kit.specs.Fits1.{ScriptFits1}
use Rattle.meaning_core1.specs.Runs.{trace1, depth1}

-- with more turns the trace only goes on, and no count falls
abbrev pub GoesOn1 : Type 0
GoesOn1 = (m : Module1) (s : Script) (n k : ℕ) → n ≤ k → Begins (trace1 m s n) (trace1 m s k)

abbrev pub DepthGrows1 : Type 0
DepthGrows1 = (m : Module1) (s : Script) (n k : ℕ) → n ≤ k → depth1 m s n ≤ depth1 m s k

abbrev pub AnswersGrow1 : Type 0
AnswersGrow1 = (m : Module1) (s : Script) (n k : ℕ) → n ≤ k → Begins (answers (seen (trace1 m s n))) (answers (seen (trace1 m s k)))

-- 1.0 has no exceptions: no run captures one, and that a store of captures is full is no event
abbrev pub CapturesNothing1 : Type 0
CapturesNothing1 = (m : Module1) (s : Script) (n : ℕ) → captured (trace1 m s n) ≡ 0

abbrev pub IsNeverFull1 : Type 0
IsNeverFull1 = (m : Module1) (s : Script) (n : ℕ) → Contains (trace1 m s n) (Shows Full) → ⊥

-- under the answers to growths that the run gave itself, whatever follows them, the run is the same
abbrev pub ReplaysTrace1 : Type 0
ReplaysTrace1 = (m : Module1) (s : Script) (n : ℕ) (more : List Bool) → trace1 m (regrow (answers (seen (trace1 m s n)) ++ more) s) n ≡ trace1 m s n

abbrev pub ReplaysDepth1 : Type 0
ReplaysDepth1 = (m : Module1) (s : Script) (n : ℕ) (more : List Bool) → depth1 m (regrow (answers (seen (trace1 m s n)) ++ more) s) n ≡ depth1 m s n

-- that a script fits does not read its answers to growths
abbrev pub FitsUnderAnyAnswers1 : Type 0
FitsUnderAnyAnswers1 = (m : Module1) (s : Script) (grows : List Bool) → ScriptFits1 m s → ScriptFits1 m (regrow grows s)
