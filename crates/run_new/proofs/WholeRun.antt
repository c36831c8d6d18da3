-- What the tasks of a host leave behind is the trace of the run.
use Rattle.std.proofs.Common.{◌≡◌, ℕ, ◌+◌, ◌-◌, List, [], ◌∷◌, map, Option, Some, None, refl, sym, ap, ◌∙◌, subst, arith}
use Rattle.host_kit.specs.Trace.{events}
use Rattle.host_kit.specs.declared.event.Event.TheVariants as shown
use Rattle.host_kit.specs.declared.script.Script.{Script}
use Rattle.typed_trees.specs.declared.module.TypedFn.{TypedFn}
use Rattle.typed_trees.specs.Typed.{module_of}
use Rattle.wasm_ast.specs.declared.module.parts.Module.{Module}
use Rattle.evaluation_kit.specs.declared.jump.Jump.{Jump}
use Rattle.evaluation_kit.specs.declared.jump.Jump.TheVariants.{Trap}
use Rattle.outcome_kit.specs.Outcome.{Out, Done, Halt, after, place_of}
use Rattle.outcome_kit.specs.Code.{Go, Leave, go_on, stands}
use Rattle.evaluation_kit.specs.Configurations.{World, Sem}
use Rattle.evaluation_kit.specs.Languages.{func}
use Rattle.evaluation_kit.specs.Tasks as tasks
use Rattle.evaluation_kit.specs.Tasks.{Status, Change, placed, world_after}
use Rattle.run_kit.specs.Narrowing.{part_task}
use Rattle.run_kit.proofs.Narrow.{world_same}
use Rattle.meaning_new.specs.Store.{State, tell, with_store}
use Rattle.meaning_new.specs.Instances.{place_segments}
use Rattle.meaning_new.specs.Language.{language}
use Rattle.meaning_new.specs.Runs.{instantiated, trace}
use Rattle.run_new.specs.States.{Kept, whole, unbounded}
use Rattle.run_new.specs.Nodes.{unbounded_language, node_acts}
use Rattle.run_new.specs.Instances.{first, IsInstance}
use Rattle.run_new.specs.Tasks.{state_task, task_of, behind_segments, end_of}
use Rattle.run_new.specs.declared.tasks.Task.{Task}
use Rattle.run_new.proofs.Steady.{forms_steady, callees_steady, behind_steady}

module _ {V S : Type 0} (funcs : ℕ → Sem V S) where
  after_none : {H R : Type 0} (o : Out H R) → after 0 o ≡ o
  after_none (Done u r) = let same : 0 + u ≡ u = omega arith in ap (λ k. Done k r) same
  after_none (Halt h) = refl

  -- a first change, after which the run goes on or is over
  pub goes_on : (f : S → Status S) (rest : List (tasks.Task V S)) (s t : S) (n : ℕ) → f s ≡ Go t → world_after funcs (Change f ∷ rest) s n ≡ world_after funcs rest t n
  goes_on f rest s t n e =
      let w : World S = record { state = s; deepest = 0 } in
      let same : n - 0 ≡ n = omega arith in
      ap (place_of stands) (ap (λ r. after 0 (go_on (tasks.tasks funcs rest) (placed w r) (n - 0))) e
      ∙ (after_none (tasks.tasks funcs rest (n - 0) (record { state = t; deepest = 0 })) ∙ ap (λ k. tasks.tasks funcs rest k (record { state = t; deepest = 0 })) same))

  pub is_over : (f : S → Status S) (rest : List (tasks.Task V S)) (s t : S) (j : Jump) (n : ℕ) → f s ≡ Leave j t → (world_after funcs (Change f ∷ rest) s n).state ≡ t
  is_over f rest s t j n e =
      let w : World S = record { state = s; deepest = 0 } in
      ap (λ r. (place_of stands (after 0 (go_on (tasks.tasks funcs rest) (placed w r) (n - 0)))).state) e

module _ (m : Module) (script : Script) (n : ℕ) where
  -- where a segment is not inside
  pub fails : place_segments m (first m script).store ≡ None → events (trace m script n) ≡ shown.Failed ∷ []
  unfolding trace
  fails e =
      ap (λ (s : State). events s.trace)
      (is_over (func (language m)) (λ s. instantiated s (place_segments m s.store)) (behind_segments m script) (first m script) (tell shown.Failed (first m script)) Trap n (ap (instantiated (first m script)) e))

  -- where all are
  pub goes : (k : Kept) → place_segments m (first m script).store ≡ Some k.store → whole k ≡ with_store k.store (first m script)
      → trace m script n ≡ (world_after (func (unbounded_language m)) (map (part_task unbounded) (behind_segments m script)) k n).state.trace
  unfolding trace
  goes k e same =
      ap (λ (w : World State). w.state.trace) (goes_on (func (language m)) (λ s. instantiated s (place_segments m s.store)) (behind_segments m script) (first m script) (with_store k.store (first m script)) n (ap (instantiated (first m script)) e))
      ∙ (ap (λ (s : State). (world_after (func (language m)) (behind_segments m script) s n).state.trace) (sym same)
      ∙ ap (λ (w : World State). w.state.trace) (world_same unbounded (language m) (forms_steady m) (callees_steady m) (behind_segments m script) (behind_steady m m.start script.items) k n))

map_twice : {A B C : Type 0} (f : A → B) (g : B → C) (xs : List A) → map (λ x. g (f x)) xs ≡ map g (map f xs)
map_twice f g [] = refl
map_twice f g (x ∷ xs) = ap (λ ys. g (f x) ∷ ys) (map_twice f g xs)

-- the state in which the tasks leave a run
pub leaves_end : (q : Module × List TypedFn) (script : Script) (n : ℕ) (k end : Kept) (ts given : List Task)
    → map (state_task (module_of q)) ts ≡ behind_segments (module_of q) script
    → given ≡ ts
    → (world_after (node_acts q).func (map (task_of q) given) k n).state ≡ end
    → end ≡ end_of q script k n
leaves_end q script n k end ts given all list leaves =
    let m = module_of q in
    sym leaves
    ∙ (ap (λ l. (world_after (func (unbounded_language m)) (map (task_of q) l) k n).state) list
    ∙ ap (λ l. (world_after (func (unbounded_language m)) l k n).state) (map_twice (state_task m) (part_task unbounded) ts ∙ ap (map (part_task unbounded)) all))

-- the events of a run whose segments are written, and of one that fails
pub shows : (p q : Module × List TypedFn) (script : Script) (n : ℕ) (k : Kept) (o : Option Kept) → q ≡ p → IsInstance (module_of p) script o → o ≡ Some k → events (end_of q script k n).trace ≡ events (trace (module_of p) script n)
shows p q script n k o same is e =
    let found : IsInstance (module_of p) script (Some k) = subst (IsInstance (module_of p) script) e is in
    ap (λ r. events (end_of r script k n).trace) same ∙ ap events (sym (goes (module_of p) script n k found.0 found.1))

pub shows_failure : (p : Module × List TypedFn) (script : Script) (n : ℕ) (o : Option Kept) → IsInstance (module_of p) script o → o ≡ None → shown.Failed ∷ [] ≡ events (trace (module_of p) script n)
shows_failure p script n o is e = sym (fails (module_of p) script n (subst (IsInstance (module_of p) script) e is))
