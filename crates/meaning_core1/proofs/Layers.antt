-- The examples, one step at a time: an instruction by its layer, and a function by its entry.
use Rattle.std.proofs.Common.{◌≡◌, ◌∙◌, ℕ, max, List, [], ◌∷◌, Option, Some, None, ap, refl}
use Rattle.host_kit.specs.Trace.{Mark, Shows}
use Rattle.host_kit.specs.declared.event.Event.TheVariants as events
use Rattle.core1_ast.specs.declared.module.code.Instr1.{Instr1, out-Instr1}
use Rattle.core1_ast.specs.declared.module.code.Instr1.TheVariants.{Unreachable, CallIndirect}
use Rattle.core1_ast.specs.declared.module.code.Instr1.TheFolds.{map-Instr1, fold_out-Instr1}
use Rattle.core1_ast.specs.declared.module.parts.Module1.{Module1}
use Rattle.evaluation_kit.specs.declared.jump.Jump.TheVariants.{Trap}
use Rattle.outcome_kit.specs.Outcome.{Out, Done, after, bind, turn, place_of}
use Rattle.outcome_kit.specs.Code.{Go, Leave, go_on, run, stands}
use Rattle.evaluation_kit.specs.Configurations.{World, Res, Sem}
use Rattle.evaluation_kit.specs.Control.{Function, enter, returned}
use Rattle.evaluation_kit.specs.Languages.{func, exec, exec_layer}
use Rattle.evaluation_kit.specs.Tasks.{Change, shown, tasks}
use Rattle.evaluation_kit.proofs.Functions.{func-entered}
use Rattle.meaning_core1.specs.declared.val1.Val1.{Val1}
use Rattle.meaning_core1.specs.declared.val1.Val1.TheVariants.{I32}
use Rattle.meaning_core1.specs.Store.{State1, show}
use Rattle.meaning_core1.specs.Instances.{new_state1}
use Rattle.meaning_core1.specs.Language.{language1}
use Rattle.meaning_core1.specs.Runs.{trace1, start_status}
use Rattle.meaning_core1.specs.Examples.{two_functions, two_entries, no_items, state_of, on, done_by}

-- what the layer of an instruction does
abbrev pub by_layer : Module1 → Instr1 → Sem Val1 State1
by_layer m i = exec_layer (language1 m) (func (language1 m)) (map-Instr1 Instr1 (Sem Val1 State1) (exec (language1 m)) (out-Instr1 i))

exec-layer : (m : Module1) (i : Instr1) → exec (language1 m) i ≡ by_layer m i
exec-layer m i = fold_out-Instr1 (Sem Val1 State1) (exec_layer (language1 m) (func (language1 m))) i

pub done-layer : (i : Instr1) (n : ℕ) (operands : List Val1) (s : State1) → done_by i n operands s ≡ by_layer (two_functions None) i 0 n (on operands s 0)
done-layer i n operands s = ap (λ (a : Sem Val1 State1). a 0 n (on operands s 0)) (exec-layer (two_functions None) i)

-- function 0 takes a turn and does nothing, and function 1 traps; beside them one more call was open
abbrev beside : World State1 → World State1
beside w = record { state = w.state; deepest = max w.deepest 1 }

does_nothing : (start : Option ℕ) (operands locals : List Val1) (w : World State1) → func (language1 (two_functions start)) 0 0 1 (record { operands = operands; locals = locals; world = w }) ≡ Done 1 (Go (record { operands = []; locals = []; world = beside w }))
does_nothing start operands locals w = func-entered (language1 (two_functions start)) 0 0 1 (record { operands = operands; locals = locals; world = w })

traps : (start : Option ℕ) (w : World State1) → func (language1 (two_functions start)) 1 0 1 (record { operands = []; locals = []; world = w }) ≡ Done 1 (Leave Trap (record { operands = []; locals = []; world = beside w }))
unfolding out-Instr1 denote.Hole.Carrier.out
traps start w =
    func-entered (language1 (two_functions start)) 1 0 1 (record { operands = []; locals = []; world = w })
    ∙ ap (λ (a : Sem Val1 State1). turn 1 w (λ m. enter (run (a ∷ [])) (func (language1 (two_functions start))) second 0 m (record { operands = []; locals = []; world = w }))) (exec-layer (two_functions start) Unreachable)
  where
    second : Function Instr1 Val1
    second = record { params = 1; results = 0; zeros = []; body = Unreachable ∷ [] }

-- call_indirect of function 0
pub empty_call : done_by (CallIndirect 0) 1 (I32 0 ∷ []) (state_of two_entries [] []) ≡ Done 1 (Go (on [] (state_of two_entries [] []) 1))
unfolding out-Instr1 denote.Hole.Carrier.out
empty_call =
    done-layer (CallIndirect 0) 1 (I32 0 ∷ []) (state_of two_entries [] [])
    ∙ ap (λ o. bind 1 o (λ x m. Done 0 (returned [] [] x))) (does_nothing None [] [] (record { state = state_of two_entries [] []; deepest = 0 }))

-- a run whose start function ends so
run_of : Option ℕ → Out (World State1) (Res Val1 State1) → List Mark
run_of start o =
    (place_of stands (after 0 (bind 1 (bind 1 o (λ r m. Done 0 (shown start_status r))) (go_on (tasks (func (language1 (two_functions start))) (Change (λ s. Go (show events.Started s)) ∷ (Change (λ s. Go (show events.Done s)) ∷ []))))))).state.trace

begun : Option ℕ → World State1
begun start = record { state = new_state1 (two_functions start) no_items; deepest = 0 }

pub start_traps : trace1 (two_functions (Some 1)) no_items 1 ≡ Shows events.Failed ∷ []
unfolding trace1 run_of begun
start_traps = ap (run_of (Some 1)) (traps (Some 1) (begun (Some 1)))

pub start_does_nothing : trace1 (two_functions (Some 0)) no_items 1 ≡ Shows events.Started ∷ (Shows events.Done ∷ [])
unfolding trace1 run_of begun
start_does_nothing = ap (run_of (Some 0)) (does_nothing (Some 0) [] [] (begun (Some 0)))

pub start_halts : trace1 (two_functions (Some 0)) no_items 0 ≡ []
unfolding trace1 func
start_halts = refl
