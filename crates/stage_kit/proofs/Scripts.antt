-- The tasks of a script: the output does them where it has more globals behind.
use Rattle.std.proofs.Common.{◌≡◌, ℕ, ◌+◌, List, [], ◌∷◌, ◌++◌, map, reverse, Option, Some, None, option_map, refl, sym, ap, ◌∙◌, subst}
use Rattle.std.specs.Prelude.{slice_get}
use Rattle.host_kit.specs.Offered.{exported}
use Rattle.host_kit.specs.declared.event.Event.TheVariants as events
use Rattle.host_kit.specs.declared.script.Item.{Item}
use Rattle.host_kit.specs.declared.script.Item.TheVariants.{Call, Host}
use Rattle.host_kit.specs.declared.script.Script.{Script}
use Rattle.host_kit.specs.declared.value.Value.{Value}
use Rattle.wasm_ast.specs.declared.module.parts.ExportDesc.{ExportDesc}
use Rattle.wasm_ast.specs.declared.module.parts.ExportDesc.TheVariants as exports
use Rattle.wasm_ast.specs.declared.module.parts.Module.{Module}
use Rattle.evaluation_kit.specs.declared.jump.Jump.{Jump}
use Rattle.evaluation_kit.specs.declared.jump.Jump.TheVariants.{Branch, Return, Throw, TailCall, Trap, NoReply, Full, Stuck}
use Rattle.outcome_kit.specs.Code.{Go, Leave}
use Rattle.evaluation_kit.specs.Configurations.{PlainRes}
use Rattle.evaluation_kit.specs.Tasks.{Status, Task, Change, Enter}
use Rattle.simulation_kit.specs.Labels.{IsOther}
use Rattle.simulation_kit.specs.Keeping.{HoldsStatus, ChangeKeeps, SeeKeeps}
use Rattle.simulation_kit.specs.Likenesses.{JumpLike, StatusLike, SeeLike, ChangeLike, TaskLike, TasksLike}
use Rattle.meaning_new.specs.declared.val.Val.{Val}
use Rattle.meaning_new.specs.Store.{Store, State, Exception, tell, to_host}
use Rattle.meaning_new.specs.Instances.{place_segments}
use Rattle.meaning_new.specs.Runs.{instantiated, started, start_task, trapped, uncaught, answered, call_task, item_task, item_tasks, run_tasks}
use Rattle.stage_kit.specs.Adding.{Adding, more_store, more, Behind, added}
use Rattle.stage_kit.specs.Hosting.{moved_status, TaskKeeps, TasksKeep, Offers}
use Rattle.stage_kit.proofs.Hosts.{exported_same, values_same, act_same}

module _ {m o : Module} (A : Adding m o) where
  -- a change of the state, and what becomes of the result of a call
  record ChangeMoves (f f' : State → Status State) : Type 0 where
    changes : (extra : List Val) (s : State) → A.keeps.Safe s → A.Extra extra → f' (more extra s) ≡ moved_status extra (f s)

  record SeeMoves (see see' : PlainRes Val State → Status State) : Type 0 where
    goes : (extra operands locals locals' : List Val) (s : State) → A.keeps.Safe s → A.Extra extra → see' (Go (record { operands = operands; locals = locals'; state = more extra s })) ≡ moved_status extra (see (Go (record { operands = operands; locals = locals; state = s })))
    leaves : (j : Jump) (extra operands locals locals' : List Val) (s : State) → IsOther j → A.keeps.Safe s → A.Extra extra → see' (Leave j (record { operands = operands; locals = locals'; state = more extra s })) ≡ moved_status extra (see (Leave j (record { operands = operands; locals = locals; state = s })))

  abbrev TaskMoves : Task Val State → Task Val State → Type 0
  TaskMoves (Change f) (Change f') = ChangeMoves f f'
  TaskMoves (Enter x operands see) (Enter x' operands' see') = (x' ≡ x) × (operands' ≡ operands) × SeeMoves see see'
  TaskMoves _ _ = ⊥

  abbrev TasksMove : List (Task Val State) → List (Task Val State) → Type 0
  TasksMove [] [] = Unit {0}
  TasksMove (t ∷ ts) (t' ∷ ts') = TaskMoves t t' × TasksMove ts ts'
  TasksMove _ _ = ⊥

  -- tasks that move and keep what is kept are alike
  behind : (extra : List Val) (s : State) → A.Extra extra → Behind A s (more extra s)
  behind extra s e = record { extra = extra; is_extra = e; is_more = refl }

  status_like : (extra : List Val) (r : Status State) → A.Extra extra → HoldsStatus A.keeps r → StatusLike (added A) r (moved_status extra r)
  status_like extra (Go s) e h = (behind extra s e, h)
  status_like extra (Leave j s) e h = behind extra s e

  jump_is : (j j' : Jump) → JumpLike (added A) j j' → j' ≡ j
  jump_is (TailCall f) j' e = e.1
  jump_is (Branch k) j' e = e
  jump_is Return j' e = e
  jump_is (Throw x) j' e = e
  jump_is Trap j' e = e
  jump_is (NoReply x) j' e = e
  jump_is Full j' e = e
  jump_is Stuck j' e = e

  change_like : (f f' : State → Status State) → ChangeMoves f f' → ChangeKeeps A.keeps f → ChangeLike (added A) f f'
  change_like f f' h keeps = record {
    changes = λ s s' b safe.
        subst (StatusLike (added A) (f s)) (sym (ap f' b.is_more ∙ h.changes b.extra s safe b.is_extra)) (status_like b.extra (f s) b.is_extra (keeps.keeps s safe));
  }

  see_like : (see see' : PlainRes Val State → Status State) → SeeMoves see see' → SeeKeeps A.keeps see → SeeLike (added A) see see'
  see_like see see' h keeps = record {
    goes = λ a l s l' s' e.
        let r = see (Go (record { operands = a; locals = l; state = s })) in
        subst (StatusLike (added A) r)
        (sym (ap (λ (t : State). see' (Go (record { operands = a; locals = l'; state = t }))) e.state.is_more ∙ h.goes e.state.extra a l l' s e.safe e.state.is_extra))
        (status_like e.state.extra r e.state.is_extra (keeps.goes a l s e.sound e.safe));
    leaves = λ j j' a l s l' s' other i e.
        let r = see (Leave j (record { operands = a; locals = l; state = s })) in
        subst (StatusLike (added A) r)
        (sym (ap (λ (t : State). see' (Leave j' (record { operands = a; locals = l'; state = t }))) e.state.is_more
        ∙ ap (λ (k : Jump). see' (Leave k (record { operands = a; locals = l'; state = more e.state.extra s }))) (jump_is j j' i)
        ∙ h.leaves j e.state.extra a l l' s other e.safe e.state.is_extra))
        (status_like e.state.extra r e.state.is_extra (keeps.leaves j a l s e.sound e.safe));
    stuck = λ q strict. cc;
  }

  task_like : (t t' : Task Val State) → TaskMoves t t' → TaskKeeps A.keeps t → TaskLike (added A) t t'
  task_like (Change f) (Change f') h k = change_like f f' h k
  task_like (Change f) (Enter x' operands' see') h k = absurd h
  task_like (Enter x operands see) (Change f') h k = absurd h
  task_like (Enter x operands see) (Enter x' operands' see') h k = (k.0, h.0, h.1, k.1, see_like see see' h.2 k.2)

  tasks_like : (ts ts' : List (Task Val State)) → TasksMove ts ts' → TasksKeep A.keeps ts → TasksLike (added A) ts ts'
  tasks_like [] [] h k = tt
  tasks_like [] (t' ∷ ts') h k = absurd h
  tasks_like (t ∷ ts) [] h k = absurd h
  tasks_like (t ∷ ts) (t' ∷ ts') h k = (task_like t t' h.0 k.0, tasks_like ts ts' h.1 k.1)

  module _ (offers : Offers A) where
    -- what is told between items
    traps : (i : ℕ) (extra : List Val) (s : State) → A.keeps.Safe s → A.Extra extra → trapped o i (more extra s) ≡ more extra (trapped m i s)
    traps i extra s safe e = ap (λ values. tell (events.Trapped i values) (more extra s)) (values_same A offers extra e s (A.counted s safe))

    escapes : (i : ℕ) (x : Option Exception) (extra : List Val) (s : State) → A.keeps.Safe s → A.Extra extra → uncaught o i x (more extra s) ≡ more extra (uncaught m i x s)
    escapes i None extra s safe e = traps i extra s safe e
    escapes i (Some x) extra s safe e =
        ap (λ values. tell (events.Uncaught i x.tag (map to_host (reverse x.payload)) values) (more extra s)) (values_same A offers extra e s (A.counted s safe))

    answers_move : (i : ℕ) → SeeMoves (answered m i) (answered o i)
    answers_move i = record {
      goes = λ extra a l l' s safe e. ap (λ values. Go (tell (events.Returned i (map to_host (reverse a)) values) (more extra s))) (values_same A offers extra e s (A.counted s safe));
      leaves = left;
    }
      where
        left : (j : Jump) (extra a l l' : List Val) (s : State) → IsOther j → A.keeps.Safe s → A.Extra extra → answered o i (Leave j (record { operands = a; locals = l'; state = more extra s })) ≡ moved_status extra (answered m i (Leave j (record { operands = a; locals = l; state = s })))
        left (Throw x) extra a l l' s other safe e = ap Go (escapes i (slice_get s.store.exceptions x) extra s safe e)
        left (NoReply x) extra a l l' s other safe e = refl
        left Full extra a l l' s other safe e = refl
        left Stuck extra a l l' s other safe e = refl
        left j extra a l l' s other safe e = ap Go (traps i extra s safe e)

    starts_move : SeeMoves started started
    starts_move = record { goes = λ extra a l l' s safe e. refl; leaves = left }
      where
        left : (j : Jump) (extra a l l' : List Val) (s : State) → IsOther j → A.keeps.Safe s → A.Extra extra → started (Leave j (record { operands = a; locals = l'; state = more extra s })) ≡ moved_status extra (started (Leave j (record { operands = a; locals = l; state = s })))
        left (NoReply x) extra a l l' s other safe e = refl
        left Full extra a l l' s other safe e = refl
        left Stuck extra a l l' s other safe e = refl
        left j extra a l l' s other safe e = refl

    -- instantiation
    instantiates : (s : State) (extra : List Val) (i : Option Store) → instantiated (more extra s) (option_map (more_store extra) i) ≡ moved_status extra (instantiated s i)
    instantiates s extra None = refl
    instantiates s extra (Some store) = refl

    places : ChangeMoves (λ s. instantiated s (place_segments m s.store)) (λ s. instantiated s (place_segments o s.store))
    places = record {
      changes = λ extra s safe e. ap (instantiated (more extra s)) (offers.segments extra s safe e) ∙ instantiates s extra (place_segments m s.store);
    }

    -- items
    call_moves : (i : ℕ) (d : Option ExportDesc) (arguments : List Value) → TaskMoves (call_task m i d arguments) (call_task o i d arguments)
    call_moves i (Some (exports.Func x)) arguments = (refl, refl, answers_move i)
    call_moves i (Some d) arguments = record { changes = λ extra s safe e. ap Go (traps i extra s safe e) }
    call_moves i None arguments = record { changes = λ extra s safe e. ap Go (traps i extra s safe e) }

    item_moves : (i : ℕ) (item : Item) → TaskMoves (item_task m i item) (item_task o i item)
    item_moves i (Call name arguments) =
        subst (λ d. TaskMoves (call_task m i (exported m name) arguments) (call_task o i d arguments)) (sym (exported_same A offers name)) (call_moves i (exported m name) arguments)
    item_moves i (Host a) = record { changes = λ extra s safe e. ap Go (act_same A offers extra e a s (A.counted s safe)) }

    items_move : (i : ℕ) (items : List Item) → TasksMove (item_tasks m i items) (item_tasks o i items)
    items_move i [] = (record { changes = λ extra s safe e. refl }, tt)
    items_move i (item ∷ rest) = (item_moves i item, items_move (i + 1) rest)

    -- the start function, and then the items
    from_start : (start : Option ℕ) (s : Script) → TasksMove (start_task start ++ (Change (λ t. Go (tell events.Started t)) ∷ item_tasks m 0 s.items)) (start_task start ++ (Change (λ t. Go (tell events.Started t)) ∷ item_tasks o 0 s.items))
    from_start None s = (record { changes = λ extra t safe e. refl }, items_move 0 s.items)
    from_start (Some x) s = ((refl, refl, starts_move), (record { changes = λ extra t safe e. refl }, items_move 0 s.items))

    -- all that the host does
    pub script_like : (s : Script) → TasksKeep A.keeps (run_tasks m s) → TasksLike (added A) (run_tasks m s) (run_tasks o s)
    script_like s keeps =
        tasks_like (run_tasks m s) (run_tasks o s)
        (places, subst (λ start. TasksMove (start_task m.start ++ (Change (λ t. Go (tell events.Started t)) ∷ item_tasks m 0 s.items)) (start_task start ++ (Change (λ t. Go (tell events.Started t)) ∷ item_tasks o 0 s.items))) (sym offers.start) (from_start m.start s))
        keeps
