-- Each event in the run of a script that fits a typed module has its types: code tells of calls of imported functions in
-- typed states, and the tasks of the host of what the items come to.
use Rattle.std.proofs.Common.{◌≡◌, ℕ, suc, ◌+◌, ◌-◌, false, List, [], ◌∷◌, ◌++◌, map, reverse, Option, Some, None, refl, sym, ap, ◌∙◌, subst, arith, Contains}
use Rattle.std.specs.Prelude.{slice_get, option_and_then}
use Rattle.std.specs.List.{AllByRecursion}
use Rattle.std.proofs.lemmas.List.{reverse-reverse}
use Rattle.std.proofs.lemmas.List.Elements.{All-contains_itself, recursion_from_All}
use Rattle.host_kit.specs.Fits.{ItemFits, ScriptFits}
use Rattle.host_kit.specs.Trace.{Mark, Shows, Grown, Captured, events}
use Rattle.host_kit.specs.declared.event.Event.{Event}
use Rattle.host_kit.specs.declared.event.Event.TheVariants as event
use Rattle.host_kit.specs.declared.script.Item.{Item}
use Rattle.host_kit.specs.declared.script.Item.TheVariants.{Call, Host}
use Rattle.host_kit.specs.declared.script.Script.{Script}
use Rattle.wasm_ast.specs.declared.module.ty.FuncType.{FuncType}
use Rattle.wasm_ast.specs.declared.module.parts.Module.{Module}
use Rattle.typed_trees.specs.declared.module.TypedFn.{TypedFn}
use Rattle.typed_trees.specs.Contexts.{func_type}
use Rattle.typed_trees.specs.Modules.{context}
use Rattle.typed_trees.specs.Typed.{module_of, IsTypedTree}
use Rattle.outcome_kit.specs.Outcome.{Out, Done, Halt, after, bind, place_of}
use Rattle.outcome_kit.specs.Code.{Go, Leave, go_on, stands}
use Rattle.evaluation_kit.specs.declared.jump.Jump.TheVariants.{Branch, Return, Throw, TailCall, Trap, NoReply, Full, Stuck}
use Rattle.evaluation_kit.specs.Configurations.{World, Conf, Plain, PlainRes, Res}
use Rattle.evaluation_kit.specs.Languages.{func}
use Rattle.evaluation_kit.specs.Tasks.{Status, Task, Change, Enter, placed, plain_result, shown, task, tasks}
use Rattle.evaluation_kit.proofs.Closure.{res_place}
use Rattle.evaluation_kit.proofs.Growing.{state_after}
use Rattle.evaluation_kit.proofs.Invariants.{Leaves as KeptIn}
use Rattle.meaning_new.specs.declared.val.Val.{Val}
use Rattle.meaning_new.specs.Store.{Store, State, Exception, to_host}
use Rattle.meaning_new.specs.Host.{global_values}
use Rattle.meaning_new.specs.Instances.{new_state, place_segments}
use Rattle.meaning_new.specs.Language.{language}
use Rattle.meaning_new.specs.Runs.{instantiated, started, start_task, trapped, uncaught, answered, call_task, item_task, item_tasks, run_tasks, end_within, trace}
use Rattle.meaning_new.proofs.Bounds.{any_sizes, any_room}
use Rattle.meaning_new.proofs.Even.{NotFull}
use Rattle.meaning_new.proofs.RunLaws.{trace_not_full}
use Rattle.soundness.specs.Events.{item_type, exported_type, called_type, EventTyped, EventsAreTyped}
use Rattle.soundness.specs.States.{made, Has, HaveTypes, ExceptionTyped, MarkTyped, StateTyped, CallResultTyped}
use Rattle.soundness.specs.Laws.{OutcomeTyped}
use Rattle.soundness.proofs.Lists.{IfAny, pair_whole, pair_reverse, all_weaker, all_get}
use Rattle.soundness.proofs.Showing.{all_shown, globals_shown}
use Rattle.soundness.proofs.Scripts.{TaskTyped, script_typed}
use Rattle.soundness.proofs.Telling.{ItemMark, Told, telling, tells, act_tells, call_tells}
use Rattle.soundness.proofs.Whole.{calls_are_safe, begins}

module _ (p : Module × List TypedFn) (typed : IsTypedTree p) (script : Script) (fit : ScriptFits (module_of p) script) where
  abbrev m : Module
  m = module_of p

  -- calls of imported functions so far have their types, and so has all else that was told
  record Both (s : State) : Type 0 where
    state : StateTyped m s
    told : Told m script s

  abbrev Ends : Out (World State) (Status (World State)) → Type 0
  Ends (Done u r) = Both (stands r).state
  Ends (Halt w) = Both w.state

  ends_after : (u : ℕ) (o : Out (World State) (Status (World State))) → Ends o → Ends (after u o)
  ends_after u (Done v r) h = h
  ends_after u (Halt w) h = h

  placed_both : (w : World State) (r : Status State) → Both (stands r) → Both (stands (placed w r)).state
  placed_both w (Go s) h = h
  placed_both w (Leave j s) h = h

  -- what is owed of a task
  abbrev TaskTells : Task Val State → Type 0
  TaskTells (Change f) = (s : State) → Told m script s → Told m script (stands (f s))
  TaskTells (Enter x operands see) =
      (t : FuncType) → func_type (context m) x ≡ Some t → (k : ℕ) (r : PlainRes Val State) → CallResultTyped m t.results k r → Told m script (state_after r) → Told m script (stands (see r))

  -- tasks in order
  result_told : (u : ℕ) (r : Res Val State) → KeptIn (telling m script) (res_place {V = Val}) (Done u r) → Told m script (state_after (plain_result r))
  result_told u (Go c) h = h.always
  result_told u (Leave j c) h = h.always

  called_ends : (t : FuncType) (k n : ℕ) (see : PlainRes Val State → Status State) → ((r : PlainRes Val State) → CallResultTyped m t.results k r → Told m script (state_after r) → Both (stands (see r))) → (o : Out (World State) (Res Val State)) → OutcomeTyped m (λ r. CallResultTyped m t.results k (plain_result r)) o → KeptIn (telling m script) (res_place {V = Val}) o → Ends (bind n o (λ r i. Done 0 (shown see r)))
  called_ends t k n see next (Done u r) q h =
      ends_after u (Done 0 (shown see r)) (placed_both (stands r).world (see (plain_result r)) (next (plain_result r) q (result_told u r h)))
  called_ends t k n see next (Halt w) q h = record { state = q; told = h.always }

  task_ends : (t : Task Val State) → TaskTyped m t → TaskTells t → (n : ℕ) (w : World State) → Both w.state → Ends (task (func (language m)) t n w)
  task_ends (Change f) h g n w b = placed_both w (f w.state) (record { state = (h.by w.state b.state).state; told = g w.state b.told })
  task_ends (Enter x operands see) h g n w b =
      let c : Conf Val State = record { operands = operands; locals = []; world = w } in
      let k = made w.state in
      let safe = calls_are_safe p typed x h.type h.named 0 n c (pair_whole (Has m k) operands (reverse h.type.params) (h.operands_typed k)) b.state in
      called_ends h.type k n see (λ r q l. record { state = (h.sees.by k r q).state; told = g h.type h.named k r q l }) (func (language m) x 0 n c)
      (subst (OutcomeTyped m (λ r. CallResultTyped m h.type.results k (plain_result r))) safe.same safe.typed)
      (call_tells m script x n operands w b.told)

  rest_ends : (n : ℕ) (o : Out (World State) (Status (World State))) (next : ℕ → World State → Out (World State) (Status (World State))) → ((i : ℕ) (v : World State) → Both v.state → Ends (next i v)) → Ends o → Ends (bind n o (go_on next))
  rest_ends n (Done u (Go v)) next f h = ends_after u (next (n - u) v) (f (n - u) v h)
  rest_ends n (Done u (Leave j v)) next f h = h
  rest_ends n (Halt w) next f h = h

  all_end : (ts : List (Task Val State)) → AllByRecursion (TaskTyped m) ts → AllByRecursion TaskTells ts → (n : ℕ) (w : World State) → Both w.state → Ends (tasks (func (language m)) ts n w)
  all_end [] h g n w b = b
  all_end (t ∷ ts) h g n w b = rest_ends n (task (func (language m)) t n w) (tasks (func (language m)) ts) (all_end ts h.1 g.1) (task_ends t h.0 g.0 n w b)

  -- "Instantiation", and the start function
  instantiates : (s : State) (o : Option Store) → Told m script s → Told m script (stands (instantiated s o))
  instantiates s None h = tells m script s event.Failed tt h
  instantiates s (Some store) h = h

  starts : (t : FuncType) (k : ℕ) (r : PlainRes Val State) → CallResultTyped m t.results k r → Told m script (state_after r) → Told m script (stands (started r))
  starts t k (Go q) c h = h
  starts t k (Leave (NoReply x) q) c h = tells m script q.state (event.NoReply x) tt h
  starts t k (Leave Full q) c h = tells m script q.state event.Full tt h
  starts t k (Leave Stuck q) c h = h
  starts t k (Leave Trap q) c h = tells m script q.state event.Failed tt h
  starts t k (Leave (Throw e) q) c h = tells m script q.state event.Failed tt h
  starts t k (Leave (Branch i) q) c h = tells m script q.state event.Failed tt h
  starts t k (Leave Return q) c h = tells m script q.state event.Failed tt h
  starts t k (Leave (TailCall f) q) c h = tells m script q.state event.Failed tt h

  start_tells : (start : Option ℕ) (more : List (Task Val State)) → AllByRecursion TaskTells more → AllByRecursion TaskTells (start_task start ++ more)
  start_tells None more h = h
  start_tells (Some x) more h = (λ t is k r. starts t k r, h)

  -- the call of an item, by the type of the function that it calls
  module _ (i : ℕ) (t : FuncType) (is : called_type m script i ≡ Some t) where
    traps : (s : State) → StateTyped m s → Told m script s → Told m script (trapped m i s)
    traps s h g =
        tells m script s (event.Trapped i (global_values m s)) (record { type = t; named = is; values = tt; globals = globals_shown m typed.parts s h }) g

    returns : (k : ℕ) (q : Plain Val State) → CallResultTyped m t.results k (Go q) → Told m script q.state → Told m script (stands (answered m i (Go q)))
    returns k q c g =
        let results = pair_reverse (Has m (made q.state)) q.operands (reverse t.results) c.0 in
        tells m script q.state (event.Returned i (map to_host (reverse q.operands)) (global_values m q.state))
        (record {
          type = t;
          named = is;
          values = all_shown m (made q.state) (reverse q.operands) t.results (subst (HaveTypes m (made q.state) (reverse q.operands)) (reverse-reverse t.results) results);
          globals = globals_shown m typed.parts q.state c.1.state;
        }) g

    escapes : (s : State) → StateTyped m s → Told m script s → (o : Option Exception) → IfAny (ExceptionTyped m (made s)) o → Told m script (uncaught m i o s)
    escapes s h g None e = traps s h g
    escapes s h g (Some x) e =
        let payload = pair_reverse (Has m (made s)) x.payload (reverse e.type.params) e.payload in
        tells m script s (event.Uncaught i x.tag (map to_host (reverse x.payload)) (global_values m s)) (
          (t, is),
          record {
            type = e.type;
            named = e.declared;
            values = all_shown m (made s) (reverse x.payload) e.type.params (subst (HaveTypes m (made s) (reverse x.payload)) (reverse-reverse e.type.params) payload);
            globals = globals_shown m typed.parts s h;
          },
        ) g

    answers : (k : ℕ) (r : PlainRes Val State) → CallResultTyped m t.results k r → Told m script (state_after r) → Told m script (stands (answered m i r))
    answers k (Go q) c g = returns k q c g
    answers k (Leave (NoReply x) q) c g = tells m script q.state (event.NoReply x) tt g
    answers k (Leave Full q) c g = tells m script q.state event.Full tt g
    answers k (Leave Stuck q) c g = g
    answers k (Leave Trap q) c g = traps q.state c.1.state g
    answers k (Leave (Throw e) q) c g =
        escapes q.state c.1.state g (slice_get q.state.store.exceptions e) (all_get (ExceptionTyped m (made q.state)) q.state.store.exceptions e c.1.state.store.exceptions)
    answers k (Leave (Branch j) q) c g = traps q.state c.1.state g
    answers k (Leave Return q) c g = traps q.state c.1.state g
    answers k (Leave (TailCall f) q) c g = traps q.state c.1.state g

  item_tells : (i : ℕ) (item : Item) → slice_get script.items i ≡ Some item → ItemFits m item → TaskTells (item_task m i item)
  item_tells i (Call name arguments) at f =
      subst (λ d. TaskTells (call_task m i d arguments)) (sym f.offered)
      (λ t is. answers i t (ap (option_and_then (item_type m)) at ∙ ap (option_and_then (exported_type m)) f.offered ∙ is))
  item_tells i (Host a) at f = λ s h. act_tells m script a s h

  items_tell : (i : ℕ) (items : List Item) → ((j : ℕ) → slice_get script.items (i + j) ≡ slice_get items j) → AllByRecursion (ItemFits m) items → AllByRecursion TaskTells (item_tasks m i items)
  items_tell i [] at f = (λ s h. tells m script s event.Done tt h, tt)
  items_tell i (item ∷ more) at f =
      let here : i ≡ i + 0 = omega arith in (
        item_tells i item (ap (slice_get script.items) here ∙ at 0) f.0,
        items_tell (i + 1) more (λ j. let further : (i + 1) + j ≡ i + suc j = omega arith in ap (slice_get script.items) further ∙ at (suc j)) f.1,
      )

  run_tells : AllByRecursion TaskTells (run_tasks m script)
  run_tells =
      let at : (j : ℕ) → slice_get script.items (0 + j) ≡ slice_get script.items j = λ j. let same : 0 + j ≡ j = omega arith in ap (slice_get script.items) same in
      let items = items_tell 0 script.items at fit.items in
      (λ s h. instantiates s (place_segments m s.store) h, start_tells m.start _ (λ s h. tells m script s event.Started tt h, items))

  -- the end of the run without bounds
  ends_both : (o : Out (World State) (Status (World State))) → Ends o → Both (place_of stands o).state
  ends_both (Done u r) h = h
  ends_both (Halt w) h = h

  module _ (n : ℕ) where
    abbrev start : World State
    start = record { state = new_state any_sizes any_room false m script; deepest = 0 }

    run_both : Both (end_within any_sizes any_room m script n).state
    run_both =
        ends_both (tasks (func (language m)) (run_tasks m script) n start)
        (all_end (run_tasks m script) (script_typed m typed.parts script fit) run_tells n start (record { state = begins any_sizes any_room p script n typed fit; told = tt }))

    one_typed : (e : Event) → MarkTyped m (Shows e) → ItemMark m script (Shows e) → NotFull (Shows e) → EventTyped m script e
    one_typed (event.HostCall j arguments globals) h i f = h
    one_typed event.Full h i f = absurd (f refl)
    one_typed e h i f = i

    all_typed : (l : List Mark) → AllByRecursion (MarkTyped m) l → AllByRecursion (ItemMark m script) l → AllByRecursion NotFull l → AllByRecursion (EventTyped m script) (events l)
    all_typed [] h i f = tt
    all_typed (Shows e ∷ l) h i f = (one_typed e h.0 i.0 f.0, all_typed l h.1 i.1 f.1)
    all_typed (Grown ok sizes ∷ l) h i f = all_typed l h.1 i.1 f.1
    all_typed (Captured ∷ l) h i f = all_typed l h.1 i.1 f.1

    never_full : AllByRecursion NotFull (trace m script n)
    never_full =
        let l = trace m script n in
        all_weaker (Contains l) NotFull (λ x there is. trace_not_full m script n (subst (Contains l) is there)) l (recursion_from_All (Contains l) l (All-contains_itself l))

    events_typed : AllByRecursion (EventTyped m script) (events (trace m script n))
    unfolding trace
    events_typed = all_typed (end_within any_sizes any_room m script n).state.trace run_both.state.trace run_both.told never_full

pub events_are_typed : EventsAreTyped
events_are_typed p typed script fit n = events_typed p typed script fit n
