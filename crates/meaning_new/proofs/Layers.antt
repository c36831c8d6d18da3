-- The examples, one step at a time: an instruction by its layer, and a function by its entry.
use Rattle.std.proofs.Common.{◌≡◌, ◌∙◌, ℕ, ◌+◌, max, true, false, List, [], ◌∷◌, Option, Some, None, sym, ap, refl}
use Rattle.host_kit.specs.Trace.{Mark, Shows}
use Rattle.host_kit.specs.declared.event.Event.TheVariants as events
use Rattle.wasm_ast.specs.declared.module.ty.BlockType.{BlockType}
use Rattle.wasm_ast.specs.declared.module.ty.BlockType.TheVariants as blocks
use Rattle.wasm_ast.specs.declared.module.immediates.Catch.{Catch}
use Rattle.wasm_ast.specs.declared.module.immediates.Catch.TheVariants.{All}
use Rattle.wasm_ast.specs.declared.module.code.Instr.{Instr, out-Instr}
use Rattle.wasm_ast.specs.declared.module.code.Instr.TheOpen.{Instr-F}
use Rattle.wasm_ast.specs.declared.module.code.Instr.TheVariants.{Unreachable, Call, CallIndirect, ReturnCall, Throw, TryTable, rolls-TryTable}
use Rattle.wasm_ast.specs.declared.module.code.Instr.TheFolds.{map-Instr, fold_out-Instr, fold-roll-Instr}
use Rattle.wasm_ast.specs.declared.module.parts.Module.{Module}
use Rattle.evaluation_kit.specs.declared.jump.Jump.TheVariants.{Trap}
use Rattle.evaluation_kit.specs.declared.jump.Jump.TheVariants as jumps
use Rattle.outcome_kit.specs.Outcome.{Out, Done, after, bind, turn, place_of}
use Rattle.outcome_kit.specs.Code.{Go, Leave, go_on, run, stands}
use Rattle.evaluation_kit.specs.Configurations.{World, Conf, Res, Sem}
use Rattle.evaluation_kit.specs.Control.{Function, Own, leaf, enter, arrive, returned}
use Rattle.evaluation_kit.specs.Languages.{func, exec, exec_code, exec_layer}
use Rattle.evaluation_kit.specs.Tasks.{Change, shown, tasks}
use Rattle.evaluation_kit.proofs.Functions.{func-entered}
use Rattle.meaning_new.specs.declared.val.Val.{Val}
use Rattle.meaning_new.specs.declared.val.Val.TheVariants.{I32}
use Rattle.meaning_new.specs.Store.{State, tell}
use Rattle.meaning_new.specs.Exceptions.{throw}
use Rattle.meaning_new.specs.Instances.{new_state}
use Rattle.meaning_new.specs.Forms.{callee}
use Rattle.meaning_new.specs.Language.{language}
use Rattle.meaning_new.specs.Runs.{trace, started}
use Rattle.meaning_new.specs.Examples.{five_functions, three_entries, no_items, nothing, state_of, on, done_by, called, thrown_under, after_throw}

-- what the layer of an instruction does
abbrev pub by_layer : Module → Instr → Sem Val State
by_layer m i = exec_layer (language m) (func (language m)) (map-Instr Instr (Sem Val State) (exec (language m)) (out-Instr i))

exec-layer : (m : Module) (i : Instr) → exec (language m) i ≡ by_layer m i
exec-layer m i = fold_out-Instr (Sem Val State) (exec_layer (language m) (func (language m))) i

pub done-layer : (i : Instr) (n : ℕ) (operands : List Val) (s : State) → done_by i n operands s ≡ by_layer (five_functions None) i 0 n (on operands s 0)
done-layer i n operands s = ap (λ (a : Sem Val State). a 0 n (on operands s 0)) (exec-layer (five_functions None) i)

-- a call of a function whose body is one instruction
enters : (m : Module) (x open_calls n : ℕ) (c : Conf Val State) (f : Function Instr Val) (i : Instr) (a : Sem Val State) → callee m x ≡ Some (Own f) → f.body ≡ i ∷ [] → exec (language m) i ≡ a → func (language m) x open_calls n c ≡ turn n c.world (λ k. enter (run (a ∷ [])) (func (language m)) f open_calls k c)
enters m x d n c f i a named body does =
    func-entered (language m) x d n c
    ∙ ap (λ o. arrive o (λ g d' k c'. turn k c'.world (λ j. enter (exec_code (language m) g.body) (func (language m)) g d' j c')) d n c) named
    ∙ ap (λ code. turn n c.world (λ k. enter (exec_code (language m) code) (func (language m)) f d k c)) body
    ∙ ap (λ (b : Sem Val State). turn n c.world (λ k. enter (run (b ∷ [])) (func (language m)) f d k c)) does

-- a function of one instruction, and the world beside which one more call was open
abbrev of_one : ℕ → Instr → Function Instr Val
of_one params i = record { params = params; results = 0; zeros = []; body = i ∷ [] }

abbrev beside : World State → World State
beside w = record { state = w.state; deepest = max w.deepest 1 }

-- function 0 takes a turn and does nothing, and function 1 traps
does_nothing : (start : Option ℕ) (operands locals : List Val) (w : World State) → func (language (five_functions start)) 0 0 1 (record { operands = operands; locals = locals; world = w }) ≡ Done 1 (Go (record { operands = []; locals = []; world = beside w }))
does_nothing start operands locals w = func-entered (language (five_functions start)) 0 0 1 (record { operands = operands; locals = locals; world = w })

traps : (start : Option ℕ) (w : World State) → func (language (five_functions start)) 1 0 1 (record { operands = []; locals = []; world = w }) ≡ Done 1 (Leave Trap (record { operands = []; locals = []; world = beside w }))
unfolding out-Instr denote.Hole.Carrier.out
traps start w =
    enters (five_functions start) 1 0 1 (record { operands = []; locals = []; world = w }) (of_one 1 Unreachable) Unreachable (by_layer (five_functions start) Unreachable) refl refl (exec-layer (five_functions start) Unreachable)

-- call_indirect of function 0
pub empty_call : done_by (CallIndirect 0 0) 1 (I32 0 ∷ []) (state_of three_entries [] []) ≡ Done 1 (Go (on [] (state_of three_entries [] []) 1))
unfolding out-Instr denote.Hole.Carrier.out
empty_call =
    done-layer (CallIndirect 0 0) 1 (I32 0 ∷ []) (state_of three_entries [] [])
    ∙ ap (λ o. bind 1 o (λ x m. Done 0 (returned [] [] x))) (does_nothing None [] [] (record { state = state_of three_entries [] []; deepest = 0 }))

-- the module without a start function, and a handler around what one instruction in it does
abbrev five : Module
five = five_functions None

abbrev guarding : BlockType → List Catch → Sem Val State → Sem Val State
guarding t clauses a = exec_layer (language five) (func (language five)) (Instr-F.TryTable t clauses (a ∷ []))

guard-layer : (t : BlockType) (clauses : List Catch) (i : Instr) → exec (language five) (TryTable t clauses (i ∷ [])) ≡ guarding t clauses (by_layer five i)
guard-layer t clauses i =
    ap (exec (language five)) (sym (rolls-TryTable t clauses (i ∷ [])))
    ∙ fold-roll-Instr (Sem Val State) (exec_layer (language five) (func (language five))) (Instr-F.TryTable t clauses (i ∷ []))
    ∙ ap (guarding t clauses) (exec-layer five i)

-- a throw under clauses
pub catches : (clauses : List Catch) → thrown_under clauses ≡ guarding (blocks.Index 1) clauses (leaf (throw 0 1)) 0 0 (on (I32 7 ∷ []) (state_of nothing [] []) 0)
unfolding out-Instr denote.Hole.Carrier.out
catches clauses = ap (λ (a : Sem Val State). a 0 0 (on (I32 7 ∷ []) (state_of nothing [] []) 0)) (guard-layer (blocks.Index 1) clauses (Throw 0))

-- function 2 throws
throws : (open_calls deepest : ℕ) → func (language five) 2 open_calls 1 (on [] (state_of nothing [] []) deepest) ≡ Done 1 (Leave (jumps.Throw 0) (on [] after_throw (max deepest (open_calls + 1))))
unfolding out-Instr denote.Hole.Carrier.out
throws open_calls deepest =
    enters five 2 open_calls 1 (on [] (state_of nothing [] []) deepest) (of_one 0 (Throw 1)) (Throw 1) (by_layer five (Throw 1)) refl refl (exec-layer five (Throw 1))

-- functions 3 and 4 call it under a handler that takes all
abbrev around : Instr → Instr
around i = TryTable blocks.Empty (All 0 ∷ []) (i ∷ [])

abbrev guarded : Instr → Sem Val State → Out (World State) (Res Val State)
guarded i a =
    turn 2 (record { state = state_of nothing [] []; deepest = 0 }) (λ k. enter (run (guarding blocks.Empty (All 0 ∷ []) a ∷ [])) (func (language five)) (of_one 0 (around i)) 0 k (on [] (state_of nothing [] []) 0))

call_guarded : (x : ℕ) (i : Instr) → callee five x ≡ Some (Own (of_one 0 (around i))) → called x 2 (state_of nothing [] []) ≡ guarded i (by_layer five i)
call_guarded x i named =
    enters five x 0 2 (on [] (state_of nothing [] []) 0) (of_one 0 (around i)) (around i) (guarding blocks.Empty (All 0 ∷ []) (by_layer five i)) named refl (guard-layer blocks.Empty (All 0 ∷ []) i)

pub call_throws_into : called 3 2 (state_of nothing [] []) ≡ Done 2 (Go (on [] after_throw 2))
unfolding out-Instr denote.Hole.Carrier.out
call_throws_into =
    call_guarded 3 (Call 2) refl ∙ ap (λ o. guarded (Call 2) (λ d n c. bind n o (λ x m. Done 0 (returned [] [] x)))) (throws 1 1)

pub tail_call_leaves : called 4 2 (state_of nothing [] []) ≡ Done 2 (Leave (jumps.Throw 0) (on [] after_throw 1))
unfolding out-Instr denote.Hole.Carrier.out
tail_call_leaves = call_guarded 4 (ReturnCall 2) refl ∙ ap (λ o. after 1 (after 0 o)) (throws 0 1)

-- a run whose start function ends so
run_of : Option ℕ → Out (World State) (Res Val State) → List Mark
run_of start o =
    (place_of stands (after 0 (bind 1 (bind 1 o (λ r m. Done 0 (shown started r))) (go_on (tasks (func (language (five_functions start))) (Change (λ s. Go (tell events.Started s)) ∷ (Change (λ s. Go (tell events.Done s)) ∷ []))))))).state.trace

begun : Option ℕ → World State
begun start = record { state = new_state (λ sizes. true) (λ k. true) false (five_functions start) no_items; deepest = 0 }

pub start_traps : trace (five_functions (Some 1)) no_items 1 ≡ Shows events.Failed ∷ []
unfolding trace run_of begun
start_traps = ap (run_of (Some 1)) (traps (Some 1) (begun (Some 1)))

pub start_does_nothing : trace (five_functions (Some 0)) no_items 1 ≡ Shows events.Started ∷ (Shows events.Done ∷ [])
unfolding trace run_of begun
start_does_nothing = ap (run_of (Some 0)) (does_nothing (Some 0) [] [] (begun (Some 0)))

pub start_halts : trace (five_functions (Some 0)) no_items 0 ≡ []
unfolding trace func
start_halts = refl
