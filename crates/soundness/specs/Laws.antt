-- What it means that typed code never goes wrong: the run that asks each instruction for the types of its operands is the
-- run that does not, and all that it leaves is typed (the standard's appendix "Soundness", "Preservation" and "Progress").
use Rattle.std.specs.Prelude.{◌≡◌, ℕ, Bool, true, false, List, reverse, Option, Some, None}
use Rattle.host_kit.specs.Fits.{ScriptFits}
use Rattle.host_kit.specs.declared.script.Script.{Script}
use Rattle.wasm_ast.specs.declared.module.ty.Ty.{Ty}
use Rattle.wasm_ast.specs.declared.module.ty.FuncType.{FuncType}
use Rattle.wasm_ast.specs.declared.module.parts.Module.{Module}
use Rattle.typed_trees.specs.declared.node.Node.{Node}
use Rattle.typed_trees.specs.declared.module.TypedFn.{TypedFn}
use Rattle.typed_trees.specs.Contexts.{Context, func_type}
use Rattle.typed_trees.specs.Modules.{context}
use Rattle.typed_trees.specs.Trees.{TypedNodes, head_of, takes_of, gives_of}
use Rattle.typed_trees.specs.Typed.{module_of, IsTypedTree}
use Rattle.outcome_kit.specs.Outcome.{Out, Done, Halt}
use Rattle.outcome_kit.specs.Code.{Leave}
use Rattle.evaluation_kit.specs.declared.jump.Jump.TheVariants.{Stuck}
use Rattle.evaluation_kit.specs.Configurations.{World, Conf, plain_of}
use Rattle.evaluation_kit.specs.Languages.{func, exec, exec_code}
use Rattle.evaluation_kit.specs.Tasks.{plain_result, tasks, world_after}
use Rattle.simulation_kit.specs.Hosting.{IsStuckRun}
use Rattle.meaning_new.specs.declared.val.Val.{Val}
use Rattle.meaning_new.specs.Store.{State}
use Rattle.meaning_new.specs.Instances.{new_state}
use Rattle.meaning_new.specs.Language.{language}
use Rattle.meaning_new.specs.Runs.{run_tasks, end_within}
use Rattle.node_meaning.specs.Nodes.{node_language}
use Rattle.soundness.specs.States.{made, StateTyped, PlainTyped, OnTop, ResultTyped, CallResultTyped}
use Rattle.soundness.specs.Strict.{node_typed, strict_language}

-- what holds of a result; where no turn is left the state is typed
abbrev pub OutcomeTyped : Module → {R : Type 0} → (R → Type 0) → Out (World State) R → Type 0
OutcomeTyped m Q (Done used r) = Q r
OutcomeTyped m Q (Halt w) = StateTyped m w.state

-- the outcome of a run that asks for types, and that of one that does not: they are the same, and typed
pub record Safe (m : Module) {R : Type 0} (Q : R → Type 0) (o o' : Out (World State) R) : Type 0 where
  pub same : o ≡ o'
  pub typed : OutcomeTyped m Q o

-- A node whose operands lack the types that it takes is stuck, and so is a plain one that would leave others than it gives.
abbrev pub AsksForTypes : Type 0
AsksForTypes =
    (m : Module) (fns : List TypedFn) (n : Node) (d k : ℕ) (x : Conf Val State) → node_typed m (head_of n) (takes_of n, gives_of n) (plain_of x) ≡ false →
    exec (strict_language m fns) n d k x ≡ Done 0 (Leave Stuck x)

-- the context of code in a function with these locals and results
abbrev pub inside : Module → List Ty → Option (List Ty) → Context
inside m locals returns = record (context m) { locals = locals; returns = returns }

-- what code leaves at its end, the top first
abbrev pub ended : Option (List Ty) → Option (List Ty)
ended None = None
ended (Some s) = Some (reverse s)

-- Typed nodes under any labels, over operands and locals of their types in a typed state: at their end they leave the
-- operands that they say, a branch goes to a label that is there with what it takes, and so for every other jump.
abbrev pub CodeIsSafe : Type 0
CodeIsSafe =
    (p : Module × List TypedFn) → IsTypedTree p → (locals : List Ty) (returns : Option (List Ty)) (ls : List (List Ty)) (nodes : List Node) (stack : List Ty) (end : Option (List Ty)) → TypedNodes (inside (module_of p) locals returns) ls nodes stack end →
    (d n : ℕ) (x : Conf Val State) → PlainTyped (module_of p) (inside (module_of p) locals returns) (reverse stack) (plain_of x) →
    Safe (module_of p) (λ r. ResultTyped (module_of p) (inside (module_of p) locals returns) ls (ended end) (made x.world.state) (plain_result r)) (exec_code (strict_language (module_of p) p.1) nodes d n x) (exec_code (node_language (module_of p) p.1) nodes d n x)

-- A call, from a typed state with the parameters on the top: it gives the results of its type, or what leaves it is no
-- jump of its caller.
abbrev pub CallsAreSafe : Type 0
CallsAreSafe =
    (p : Module × List TypedFn) → IsTypedTree p → (f : ℕ) (t : FuncType) → func_type (context (module_of p)) f ≡ Some t →
    (d n : ℕ) (x : Conf Val State) → OnTop (module_of p) (made x.world.state) x.operands (reverse t.params) → StateTyped (module_of p) x.world.state →
    Safe (module_of p) (λ r. CallResultTyped (module_of p) t.results (made x.world.state) (plain_result r)) (func (strict_language (module_of p) p.1) f d n x) (func (language (module_of p)) f d n x)

-- the world after the run of a script in which every instruction asks for the types of its operands
abbrev pub strict_end : (List ℕ → Bool) → (ℕ → Bool) → Module × List TypedFn → Script → ℕ → World State
strict_end permits room p script n =
    world_after (func (strict_language (module_of p) p.1)) (run_tasks (module_of p) script) (new_state permits room false (module_of p) script) n

-- For every typed module, every script that fits it and any number of turns, within any bounds: that run is the run, and
-- its state is typed.
abbrev pub RunsAreStrict : Type 0
RunsAreStrict =
    (permits : List ℕ → Bool) (room : ℕ → Bool) (p : Module × List TypedFn) (script : Script) (n : ℕ) → IsTypedTree p → ScriptFits (module_of p) script →
    strict_end permits room p script n ≡ end_within permits room (module_of p) script n

abbrev pub StatesStayTyped : Type 0
StatesStayTyped =
    (permits : List ℕ → Bool) (room : ℕ → Bool) (p : Module × List TypedFn) (script : Script) (n : ℕ) → IsTypedTree p → ScriptFits (module_of p) script →
    StateTyped (module_of p) (end_within permits room (module_of p) script n).state

-- and it does not end stuck
abbrev pub RunsAreNeverStuck : Type 0
RunsAreNeverStuck =
    (permits : List ℕ → Bool) (room : ℕ → Bool) (p : Module × List TypedFn) (script : Script) (n : ℕ) → IsTypedTree p → ScriptFits (module_of p) script →
    IsStuckRun (tasks (func (strict_language (module_of p) p.1)) (run_tasks (module_of p) script) n (record { state = new_state permits room false (module_of p) script; deepest = 0 })) true → ⊥
