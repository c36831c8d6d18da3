-- Typed code never goes wrong: code, calls and runs of a typed module.
use Rattle.std.proofs.Common.{map, ◌⊎◌, inl, inr, ◌≡◌, ℕ, Bool, List, ap, ◌∙◌, subst, le_refl}
use Rattle.std.specs.Prelude.{true, false}
use Rattle.host_kit.specs.Fits.{ScriptFits}
use Rattle.host_kit.specs.declared.script.Script.{Script}
use Rattle.wasm_ast.specs.declared.module.parts.Module.{Module}
use Rattle.typed_trees.specs.declared.module.TypedFn.{TypedFn}
use Rattle.typed_trees.specs.Typed.{module_of, IsTypedTree}
use Rattle.outcome_kit.specs.Outcome.{Out, Done, Halt, place_of}
use Rattle.outcome_kit.specs.Code.{Go, Leave, stands}
use Rattle.evaluation_kit.specs.declared.jump.Jump.{Jump}
use Rattle.evaluation_kit.specs.declared.jump.Jump.TheVariants.{Branch, Return, Throw, TailCall, Trap, NoReply, Full, Stuck}
use Rattle.simulation_kit.specs.Hosting.{IsStuckStatus, IsStuckRun, Final}
use Rattle.simulation_kit.specs.Matches.{Match}
use Rattle.evaluation_kit.specs.Configurations.{World, Sem}
use Rattle.evaluation_kit.specs.Languages.{func, exec}
use Rattle.evaluation_kit.specs.Control.{where_ready}
use Rattle.evaluation_kit.specs.Forms.{eval}
use Rattle.meaning_new.specs.Forms.{layer}
use Rattle.node_meaning.specs.Nodes.{with_code}
use Rattle.typed_trees.specs.Trees.{head_of, first_of, second_of}
use Rattle.wasm_ast.specs.declared.module.code.Instr.{Instr, out-Instr}
use Rattle.evaluation_kit.specs.Tasks.{Status, tasks, plain_result, world_after}
use Rattle.meaning_new.specs.declared.val.Val.{Val}
use Rattle.meaning_new.specs.Store.{State}
use Rattle.meaning_new.specs.Instances.{new_state, all_values}
use Rattle.meaning_new.specs.Runs.{run_tasks, end_within}
use Rattle.node_meaning.specs.Nodes.{node_language}
use Rattle.node_meaning.proofs.Alike.{func_alike}
use Rattle.soundness.specs.States.{made, StateTyped, CallResultTyped}
use Rattle.soundness.specs.Strict.{strict_language}
use Rattle.soundness.specs.Laws.{OutcomeTyped, Safe, AsksForTypes, CodeIsSafe, CallsAreSafe, strict_end, RunsAreStrict, StatesStayTyped, RunsAreNeverStuck}
use Rattle.soundness.proofs.Beginning.{new_store_typed, values_typed}
use Rattle.soundness.proofs.Functions.{functions_safe}
use Rattle.soundness.proofs.Nodes.{strict_out, nodes_safe}
use Rattle.soundness.proofs.Scripts.{Runs, WorldTyped, tasks_safe, script_typed}

pub asks_for_types : AsksForTypes
asks_for_types m fns n d k x lacks =
    ap (λ (a : Sem Val State). a d k x) (strict_out m fns (func (strict_language m fns)) (func (node_language m fns)) n)
    ∙ ap (λ ready. where_ready ready (eval (func (strict_language m fns)) (with_code (layer m Instr (out-Instr (head_of n))) (map (exec (strict_language m fns)) (first_of n)) (map (exec (strict_language m fns)) (second_of n)))) d k x) lacks

pub code_is_safe : CodeIsSafe
code_is_safe p typed locals returns ls nodes stack end h d n x t =
    (nodes_safe (module_of p) p.1 (func (strict_language (module_of p) p.1)) (func (node_language (module_of p) p.1)) locals returns n (functions_safe p typed n) ls nodes stack end h).by d n x (le_refl n) t

pub calls_are_safe : CallsAreSafe
calls_are_safe p typed f t is d n x top s =
    subst (λ (funcs : ℕ → Sem Val State). Safe (module_of p) (λ r. CallResultTyped (module_of p) t.results (made x.world.state) (plain_result r)) (func (strict_language (module_of p) p.1) f d n x) (funcs f d n x)) (func_alike p)
    ((functions_safe p typed n).by f t is d n x (le_refl n) top s)

module _ (permits : List ℕ → Bool) (room : ℕ → Bool) (p : Module × List TypedFn) (script : Script) (n : ℕ) (typed : IsTypedTree p) (fit : ScriptFits (module_of p) script) where
  abbrev m : Module
  m = module_of p

  abbrev start : World State
  start = record { state = new_state permits room false m script; deepest = 0 }

  pub begins : StateTyped m start.state
  begins = record { store = new_store_typed m (all_values m script) (values_typed m script fit typed.parts) typed.parts; replies = fit.replies; trace = tt }

  both : Safe m (WorldTyped m) (tasks (func (strict_language m p.1)) (run_tasks m script) n start) (tasks (func (node_language m p.1)) (run_tasks m script) n start)
  both = tasks_safe m (func (strict_language m p.1)) (func (node_language m p.1)) (functions_safe p typed) (run_tasks m script) (script_typed m typed.parts script fit) n start begins

  strict_is : strict_end permits room p script n ≡ end_within permits room m script n
  strict_is =
      ap (place_of stands) both.same
      ∙ ap (λ (funcs : ℕ → Sem Val State). world_after funcs (run_tasks m script) (new_state permits room false m script) n) (func_alike p)

  ends_typed : (o : Out (World State) (Status (World State))) → OutcomeTyped m (WorldTyped m) o → StateTyped m (place_of stands o).state
  ends_typed (Done used r) h = h.state
  ends_typed (Halt w) h = h

  state_typed : StateTyped m (end_within permits room m script n).state
  state_typed = subst (λ (w : World State). StateTyped m w.state) strict_is (ends_typed (tasks (func (strict_language m p.1)) (run_tasks m script) n start) both.typed)

  never_stuck : (strict : Bool) → IsStuckRun (tasks (func (strict_language m p.1)) (run_tasks m script) n start) strict → ⊥
  never_stuck strict = at (tasks (func (strict_language m p.1)) (run_tasks m script) n start) both.typed
    where
      at : (o : Out (World State) (Status (World State))) → OutcomeTyped m (WorldTyped m) o → IsStuckRun o strict → ⊥
      at (Halt w) h stuck = stuck
      at (Done used (Go w)) h stuck = stuck
      at (Done used (Leave j w)) h stuck = left j h.runs stuck
        where
          left : (j : Jump) → Runs m (Leave j w) → IsStuckStatus (Leave j w) strict → ⊥
          left Stuck runs stuck = runs
          left Trap runs stuck = stuck
          left (Branch i) runs stuck = stuck
          left Return runs stuck = stuck
          left (Throw e) runs stuck = stuck
          left (TailCall f) runs stuck = stuck
          left (NoReply x) runs stuck = stuck
          left Full runs stuck = stuck

pub runs_are_strict : RunsAreStrict
runs_are_strict permits room p script n typed fit = strict_is permits room p script n typed fit

pub states_stay_typed : StatesStayTyped
states_stay_typed permits room p script n typed fit = state_typed permits room p script n typed fit

pub runs_are_never_stuck : RunsAreNeverStuck
runs_are_never_stuck permits room p script n typed fit = never_stuck permits room p script n typed fit true

-- A stage that simulates the run that asks for types, which is free where that run is stuck, simulates the run.
pub unstuck_final : {V' S' : Type 0} (W : Match Val State V' S') (permits : List ℕ → Bool) (room : ℕ → Bool) (p : Module × List TypedFn) (script : Script) (n : ℕ) (after' : ℕ → World S') → IsTypedTree p → ScriptFits (module_of p) script →
    IsStuckRun (tasks (func (strict_language (module_of p) p.1)) (run_tasks (module_of p) script) n (record { state = new_state permits room false (module_of p) script; deepest = 0 })) W.strict ⊎ Final W n (strict_end permits room p script n) after' →
    Final W n (end_within permits room (module_of p) script n) after'
unstuck_final W permits room p script n after' typed fit (inl stuck) = absurd (never_stuck permits room p script n typed fit W.strict stuck)
unstuck_final W permits room p script n after' typed fit (inr final) = subst (λ w. Final W n w after') (strict_is permits room p script n typed fit) final
