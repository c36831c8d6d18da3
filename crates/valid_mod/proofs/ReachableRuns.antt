-- Runs of a module whose bodies are without what cannot be reached are those of the module.
use mathlib.Core.Path.{fun_ext}
use Rattle.std.proofs.Common.{◌≡◌, ℕ, zero, suc, ◌+◌, ◌-◌, Bool, true, false, if◌then◌else◌, nat_lt, reverse, List, [], ◌∷◌, ◌++◌, map, length, Option, Some, None, option_map, option_and_then, refl, sym, ap, ◌∙◌, subst}
use Rattle.std.proofs.lemmas.Option.{slice_get-map}
use Rattle.std.specs.Prelude.{slice_get, set}
use Rattle.host_kit.specs.Offered.{exported, func_type}
use Rattle.host_kit.specs.declared.script.Act.{Act}
use Rattle.host_kit.specs.declared.script.Act.TheVariants.{Set, Peek, Poke}
use Rattle.host_kit.specs.declared.script.Reply.{Reply}
use Rattle.host_kit.specs.declared.script.Item.{Item}
use Rattle.host_kit.specs.declared.script.Item.TheVariants.{Call, Host}
use Rattle.host_kit.specs.declared.script.Script.{Script}
use Rattle.host_kit.specs.declared.value.Value.{Value}
use Rattle.host_kit.specs.declared.event.Event.TheVariants as events
use Rattle.wasm_ast.specs.declared.module.ty.FuncType.{FuncType}
use Rattle.wasm_ast.specs.declared.module.code.Body.{Body}
use Rattle.wasm_ast.specs.declared.module.code.Instr.{Instr}
use Rattle.wasm_ast.specs.declared.module.parts.ExportDesc.{ExportDesc}
use Rattle.wasm_ast.specs.declared.module.parts.ExportDesc.TheVariants.{Func}
use Rattle.wasm_ast.specs.declared.module.parts.Module.{Module}
use Rattle.evaluation_kit.specs.declared.jump.Jump.TheVariants.{Throw}
use Rattle.typed_trees.specs.declared.module.TypedFn.{TypedFn}
use Rattle.typed_trees.specs.Typed.{body_of, module_of}
use Rattle.outcome_kit.specs.Outcome.{turn, Halt, bind}
use Rattle.outcome_kit.specs.Code.{Go, Leave}
use Rattle.evaluation_kit.specs.Configurations.{PlainRes, Sem}
use Rattle.evaluation_kit.specs.Control as control
use Rattle.evaluation_kit.specs.Control.{Function, Callee, opened, leave_body, enter, arrive}
use Rattle.evaluation_kit.specs.Languages.{code_with, enter_with, func_within, func}
use Rattle.evaluation_kit.specs.Tasks.{Change, Enter, world_after}
use Rattle.meaning_new.specs.declared.val.Val.{Val}
use Rattle.meaning_new.specs.Store.{State, Exception, tell, to_host, from_host}
use Rattle.meaning_new.specs.Host.{global_values, act, acts, replied, host_call}
use Rattle.meaning_new.specs.Instances.{new_state, place_segments}
use Rattle.meaning_new.specs.Forms.{function, imported_funcs, callee_of_type}
use Rattle.meaning_new.specs.Language.{language}
use Rattle.meaning_new.specs.Runs.{instantiated, start_task, uncaught, answered, call_task, item_task, item_tasks, run_tasks, end_within, trace, depth, bounded_trace, bounded_depth}
use Rattle.valid_mod.specs.Standing.{reachable_body, StandsFor}
use Rattle.valid_mod.specs.Meaning.{SameRuns}
use Rattle.valid_mod.proofs.ReachableCode.{code_reached}

module _ (m : Module) where
  -- the module without the code that cannot be reached
  abbrev other : Module
  other = record m { codes = map reachable_body m.codes }

  -- the host does the same with both
  act_alike : (a : Act) (s : State) → act m a s ≡ act other a s
  act_alike (Set name v) s = refl
  act_alike (Peek name at count) s = refl
  act_alike (Poke name at bytes) s = refl

  acts_alike : (done : List Act) (s : State) → acts m done s ≡ acts other done s
  acts_alike [] s = refl
  acts_alike (a ∷ more) s = ap (acts m more) (act_alike a s) ∙ acts_alike more (act other a s)

  replied_alike : (x : ℕ) (o : Option (List Reply)) (s : State) → replied m x o s ≡ replied other x o s
  replied_alike x (Some (reply ∷ more)) s = ap {B = PlainRes Val State} (λ (t : State). Go (record { operands = reverse (map from_host reply.values); locals = []; state = t })) (acts_alike reply.acts (record s { replies = set s.replies x more }))
  replied_alike x (Some []) s = refl
  replied_alike x None s = refl

  host_alike : (x : ℕ) → host_call m x ≡ host_call other x
  host_alike x = fun_ext (λ p. replied_alike x (slice_get p.state.replies x) (tell (events.HostCall x (map to_host (reverse p.operands)) (global_values m p.state)) p.state))

  -- the entry of a function of the module, and that of what can be reached of its body
  abbrev entry : Module → (ℕ → Sem Val State) → Function Instr Val → Sem Val State
  entry m' funcs f d n c = turn n c.world (λ k. enter (code_with (language m') funcs f.body) funcs f d k c)

  own_alike : (funcs : ℕ → Sem Val State) (t : FuncType) (body : Body) → entry m funcs (function t body) ≡ entry other funcs (function t (reachable_body body))
  own_alike funcs t body =
      ap {B = Sem Val State} (λ (a : Sem Val State) d n c. turn n c.world (λ k. bind k (a (d + 1) k (opened d (function t body) c)) (leave_body (λ g. funcs g d) (length t.results)))) (code_reached m (map reachable_body m.codes) funcs body.code)

  -- what an index names in both
  arrives : (own new : Function Instr Val → Sem Val State) → ((t : FuncType) (body : Body) → own (function t body) ≡ new (function t (reachable_body body))) → (x : ℕ) (t : FuncType) (o : Option Body) → arrive (option_map (λ body. control.Own (function t body)) o) own ≡ arrive (option_map (λ body. control.Own (function t body)) (option_map reachable_body o)) new
  arrives own new h x t None = refl
  arrives own new h x t (Some body) = h t body

  arrives_of : (own new : Function Instr Val → Sem Val State) → ((t : FuncType) (body : Body) → own (function t body) ≡ new (function t (reachable_body body))) → (x : ℕ) (t : FuncType) (b : Bool) →
      arrive (if b then Some (control.Host (length t.params) (host_call m x)) else option_map (λ body. control.Own (function t body)) (slice_get m.codes (x - imported_funcs m))) own
      ≡ arrive (if b then Some (control.Host (length t.params) (host_call other x)) else option_map (λ body. control.Own (function t body)) (slice_get (map reachable_body m.codes) (x - imported_funcs m))) new
  arrives_of own new h x t true = ap (λ act. control.hosted (length t.params) act) (host_alike x)
  arrives_of own new h x t false =
      arrives own new h x t (slice_get m.codes (x - imported_funcs m))
      ∙ ap (λ o. arrive (option_map (λ body. control.Own (function t body)) o) new) (sym (slice_get-map reachable_body m.codes (x - imported_funcs m)))

  arrives_at : (own new : Function Instr Val → Sem Val State) → ((t : FuncType) (body : Body) → own (function t body) ≡ new (function t (reachable_body body))) → (x : ℕ) (o : Option FuncType) → arrive (option_and_then (callee_of_type m x) o) own ≡ arrive (option_and_then (callee_of_type other x) o) new
  arrives_at own new h x None = refl
  arrives_at own new h x (Some t) = arrives_of own new h x t (nat_lt x (imported_funcs m))

  -- functions that enter at most so many others
  within_alike : (k : ℕ) → func_within (language m) k ≡ func_within (language other) k
  within_alike zero = fun_ext (λ x. arrives_at (λ f d n c. Halt c.world) (λ f d n c. Halt c.world) (λ t body. refl) x (func_type m x))
  within_alike (suc k) =
      ap (enter_with (language m)) (within_alike k)
      ∙ fun_ext (λ x. arrives_at (entry m (func_within (language other) k)) (entry other (func_within (language other) k)) (own_alike (func_within (language other) k)) x (func_type m x))

  funcs_alike : func (language m) ≡ func (language other)
  unfolding func
  funcs_alike = fun_ext (λ x. fun_ext (λ d. fun_ext (λ n. fun_ext (λ c. ap (λ (f : ℕ → Sem Val State). f x d n c) (within_alike n)))))

  -- the tasks of the host
  uncaught_alike : (i : ℕ) (o : Option Exception) (s : State) → uncaught m i o s ≡ uncaught other i o s
  uncaught_alike i None s = refl
  uncaught_alike i (Some x) s = refl

  answered_alike : (i : ℕ) (r : PlainRes Val State) → answered m i r ≡ answered other i r
  answered_alike i (Leave (Throw e) p) = ap Go (uncaught_alike i (slice_get p.state.store.exceptions e) p.state)
  answered_alike i (Go p) = refl
  answered_alike i (Leave jump p) = refl

  call_alike : (i : ℕ) (o : Option ExportDesc) (arguments : List Value) → call_task m i o arguments ≡ call_task other i o arguments
  call_alike i (Some (Func x)) arguments = ap (Enter x (reverse (map from_host arguments))) (fun_ext (answered_alike i))
  call_alike i None arguments = refl
  call_alike i (Some desc) arguments = refl

  item_alike : (i : ℕ) (item : Item) → item_task m i item ≡ item_task other i item
  item_alike i (Call name arguments) = call_alike i (exported m name) arguments
  item_alike i (Host a) = ap (λ (f : State → State). Change (λ s. Go (f s))) (fun_ext (act_alike a))

  items_alike : (i : ℕ) (items : List Item) → item_tasks m i items ≡ item_tasks other i items
  items_alike i [] = refl
  items_alike i (item ∷ more) = ap (λ t. t ∷ item_tasks m (i + 1) more) (item_alike i item) ∙ ap (λ ts. item_task other i item ∷ ts) (items_alike (i + 1) more)

  tasks_alike : (script : Script) → run_tasks m script ≡ run_tasks other script
  tasks_alike script = ap (λ ts. Change (λ s. instantiated s (place_segments m s.store)) ∷ (start_task m.start ++ (Change (λ s. Go (tell events.Started s)) ∷ ts))) (items_alike 0 script.items)

  end_alike : (permits : List ℕ → Bool) (room : ℕ → Bool) (script : Script) (n : ℕ) → end_within permits room other script n ≡ end_within permits room m script n
  end_alike permits room script n =
      sym (ap (λ fs. world_after fs (run_tasks m script) (new_state permits room false m script) n) funcs_alike
      ∙ ap (λ ts. world_after (func (language other)) ts (new_state permits room false m script) n) (tasks_alike script))

runs_as_reachable : (m : Module) → SameRuns m (other m)
unfolding trace depth bounded_trace bounded_depth
runs_as_reachable m = record {
  trace = λ script n. ap (λ w. w.state.trace) (end_alike m (λ sizes. true) (λ k. true) script n);
  depth = λ script n. ap (λ w. w.deepest) (end_alike m (λ sizes. true) (λ k. true) script n);
  bounded_trace = λ permits room script n. ap (λ w. w.state.trace) (end_alike m permits room script n);
  bounded_depth = λ permits room script n. ap (λ w. w.deepest) (end_alike m permits room script n);
}

-- the module that a typed one stands for is the module without the code that cannot be reached
stands_as_reachable : (m : Module) (tree : Module × List TypedFn) → StandsFor m tree → module_of tree ≡ other m
stands_as_reachable m tree h = ap {A = Module} {B = Module} (λ part. record part { codes = map body_of tree.1 }) h.part ∙ ap {A = List Body} {B = Module} (λ bodies. record m { codes = bodies }) h.bodies

pub same_runs : (m : Module) (tree : Module × List TypedFn) → StandsFor m tree → SameRuns m (module_of tree)
same_runs m tree h = subst (SameRuns m) (sym (stands_as_reachable m tree h)) (runs_as_reachable m)
