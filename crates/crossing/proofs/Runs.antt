-- The start function and the items of a script: the host sees the same of both.
use Rattle.std.proofs.Common.{◌≡◌, ℕ, ◌+◌, List, [], ◌∷◌, ◌++◌, map, reverse, Option, Some, None, option_map, refl, sym, ap, ◌∙◌, subst}
use Rattle.std.specs.Prelude.{slice_get}
use Rattle.std.specs.List.{AllByRecursion}
use Rattle.evaluation_kit.specs.declared.jump.Jump.{Jump}
use Rattle.evaluation_kit.specs.declared.jump.Jump.TheVariants.{Branch, Return, Throw, TailCall, Trap, NoReply, Full, Stuck}
use Rattle.outcome_kit.specs.Code.{Go, Leave}
use Rattle.evaluation_kit.specs.Configurations.{PlainRes}
use Rattle.evaluation_kit.specs.Tasks.{Status, Task, Change, Enter}
use Rattle.simulation_kit.specs.Labels.{IsOther}
use Rattle.simulation_kit.specs.Likenesses.{JumpLike, Handed, StatusLike, SeeLike, ChangeLike, TaskLike, TasksLike}
use Rattle.simulation_kit.specs.Mirrors.{mirrored}
use Rattle.host_kit.specs.Offered.{exported}
use Rattle.host_kit.specs.declared.event.Event.{Event}
use Rattle.host_kit.specs.declared.event.Event.TheVariants as events
use Rattle.host_kit.specs.declared.script.Item.{Item}
use Rattle.host_kit.specs.declared.script.Item.TheVariants.{Call, Host}
use Rattle.host_kit.specs.declared.value.Value.{Value}
use Rattle.wasm_ast.specs.declared.module.parts.ExportDesc.{ExportDesc}
use Rattle.wasm_ast.specs.declared.module.parts.ExportDesc.TheVariants as exports
use Rattle.wasm_ast.specs.declared.module.parts.Module.{Module}
use Rattle.core1_ast.specs.declared.module.parts.ExportDesc1.{ExportDesc1}
use Rattle.core1_ast.specs.declared.module.parts.ExportDesc1.TheVariants as exports1
use Rattle.meaning_new.specs.declared.val.Val.{Val}
use Rattle.meaning_new.specs.Store.{State, Exception, tell, to_host}
use Rattle.meaning_new.specs.Host.{global_values, act}
use Rattle.meaning_new.specs.Runs.{started, start_task, trapped, uncaught, answered, call_task, item_task, item_tasks}
use Rattle.meaning_core1.specs.declared.val1.Val1.{Val1}
use Rattle.meaning_core1.specs.Store.{State1, show, host_value, value_from}
use Rattle.meaning_core1.specs.Hosting.{exported_values, act1}
use Rattle.meaning_core1.specs.Runs.{start_status, start1, show_trap, call_status, call1_task, item1, items1}
use Rattle.crossing.specs.Modules.{cross, cross_export_desc}
use Rattle.crossing.specs.States.{cross_state, IsIntegerOfHost, ItemIsPlain, IsPlain}
use Rattle.crossing.proofs.Ends.{TaskAgrees, TasksAgree}
use Rattle.crossing.proofs.Hosts.{given-cross, globals-cross, exported-cross, act-cross, act_plain, tell_plain, taken-cross, taken_plain}
use Rattle.crossing.proofs.Images.{M, crossed}
use Rattle.crossing.proofs.Jumps.{EndsSo}

-- what the host of 1.0 would see of an end that no function of 1.0 has
abbrev pub start_seen : PlainRes Val1 State1 → Status State1
start_seen (Leave Full p) = Leave Full (show events.Full p.state)
start_seen (Leave Stuck p) = Leave Stuck p.state
start_seen r = start_status r

start_same : (r : PlainRes Val1 State1) → EndsSo r → start_seen r ≡ start_status r
start_same (Leave Full p) h = absurd h
start_same (Leave Stuck p) h = absurd h
start_same r h = refl

-- states that are images, where all is kept
abbrev Both : Status State → Status State1 → Type 0
Both r r' = StatusLike (mirrored M) r r'

goes : (s : State) (s' : State1) → s' ≡ cross_state s → IsPlain s → Both (Go s) (Go s')
goes s s' e h = (e, h)

jump_same : (j j' : Jump) → JumpLike (mirrored M) j j' → j' ≡ j
jump_same (TailCall f) j' e = e.1
jump_same (Branch k) j' e = e
jump_same Return j' e = e
jump_same (Throw x) j' e = e
jump_same Trap j' e = e
jump_same (NoReply x) j' e = e
jump_same Full j' e = e
jump_same Stuck j' e = e

-- one sees the same where it does at images, whatever the jump
left : (see : PlainRes Val State → Status State) (see' : PlainRes Val1 State1 → Status State1) →
    ((j : Jump) (a l : List Val) (s : State) (l' : List Val1) → IsOther j → IsPlain s → Both (see (Leave j (record { operands = a; locals = l; state = s }))) (see' (Leave j (record { operands = crossed a; locals = l'; state = cross_state s })))) →
    (j j' : Jump) (a l : List Val) (s : State) (l' : List Val1) (s' : State1) → IsOther j → JumpLike (mirrored M) j j' → Handed (mirrored M) a s (crossed a) s' →
    Both (see (Leave j (record { operands = a; locals = l; state = s }))) (see' (Leave j' (record { operands = crossed a; locals = l'; state = s' })))
left see see' h j j' a l s l' s' o i g =
    subst (λ (t : State1). Both (see (Leave j (record { operands = a; locals = l; state = s }))) (see' (Leave j' (record { operands = crossed a; locals = l'; state = t })))) (sym g.state)
    (subst (λ i'. Both (see (Leave j (record { operands = a; locals = l; state = s }))) (see' (Leave i' (record { operands = crossed a; locals = l'; state = cross_state s })))) (sym (jump_same j j' i)) (h j a l s l' o g.safe))

start_left : (j : Jump) (a l : List Val) (s : State) (l' : List Val1) → IsOther j → IsPlain s → Both (started (Leave j (record { operands = a; locals = l; state = s }))) (start_seen (Leave j (record { operands = crossed a; locals = l'; state = cross_state s })))
start_left (Branch k) a l s l' o h = absurd o
start_left Return a l s l' o h = absurd o
start_left j a l s l' o h = refl

start_like : SeeLike (mirrored M) started start_seen
start_like = record {
  goes = λ a l s l' s' g. (g.state, g.safe);
  leaves = left started start_seen start_left;
  stuck = λ q e. absurd cc;
}

module _ (m : Module) where
  abbrev pub call_seen : ℕ → PlainRes Val1 State1 → Status State1
  call_seen i (Leave Full p) = Leave Full (show events.Full p.state)
  call_seen i (Leave Stuck p) = Leave Stuck p.state
  call_seen i r = call_status (cross m) i r

  call_same : (i : ℕ) (r : PlainRes Val1 State1) → EndsSo r → call_seen i r ≡ call_status (cross m) i r
  call_same i (Leave Full p) h = absurd h
  call_same i (Leave Stuck p) h = absurd h
  call_same i r h = refl

  -- an event that tells of all globals
  tells : (event event' : List Value → Event) → ((vs : List Value) → event vs ≡ event' vs) → (s : State) → IsPlain s → Both (Go (tell (event (global_values m s)) s)) (Go (show (event' (exported_values (cross m) (cross_state s))) (cross_state s)))
  tells event event' e s h =
      goes (tell (event (global_values m s)) s) _
      (ap (λ (vs : List Value). show (event' vs) (cross_state s)) (globals-cross m s h.store)
      ∙ ap (λ (x : Event). show x (cross_state s)) (sym (e (global_values m s)))) (tell_plain m (event (global_values m s)) s h)

  traps : (i : ℕ) (s : State) → IsPlain s → Both (Go (trapped m i s)) (Go (show_trap (cross m) i (cross_state s)))
  traps i s h = tells (λ vs. events.Trapped i vs) (λ vs. events.Trapped i vs) (λ vs. refl) s h

  throws : (i e : ℕ) (s : State) (xs : List Exception) → xs ≡ [] → IsPlain s → Both (Go (uncaught m i (slice_get xs e) s)) (Go (show_trap (cross m) i (cross_state s)))
  throws i e s xs none h = subst (λ (l : List Exception). Both (Go (uncaught m i (slice_get l e) s)) (Go (show_trap (cross m) i (cross_state s)))) (sym none) (traps i s h)

  call_left : (i : ℕ) (j : Jump) (a l : List Val) (s : State) (l' : List Val1) → IsOther j → IsPlain s → Both (answered m i (Leave j (record { operands = a; locals = l; state = s }))) (call_seen i (Leave j (record { operands = crossed a; locals = l'; state = cross_state s })))
  call_left i (Branch k) a l s l' o h = absurd o
  call_left i Return a l s l' o h = absurd o
  call_left i (Throw e) a l s l' o h = throws i e s s.store.exceptions h.store.exceptions h
  call_left i (TailCall f) a l s l' o h = traps i s h
  call_left i Trap a l s l' o h = traps i s h
  call_left i (NoReply x) a l s l' o h = refl
  call_left i Full a l s l' o h = refl
  call_left i Stuck a l s l' o h = refl

  call_like : (i : ℕ) → SeeLike (mirrored M) (answered m i) (call_seen i)
  call_like i = record {
    goes = λ a l s l' s' g.
        subst (λ (t : State1). Both (answered m i (Go (record { operands = a; locals = l; state = s }))) (call_seen i (Go (record { operands = crossed a; locals = l'; state = t })))) (sym g.state)
        (tells (λ vs. events.Returned i (map to_host (reverse a)) vs) (λ vs. events.Returned i (map host_value (reverse (crossed a))) vs) (λ vs. ap (λ (r : List Value). events.Returned i r vs) (sym (given-cross a g.sound))) s g.safe);
    leaves = left (answered m i) (call_seen i) (call_left i);
    stuck = λ q e. absurd cc;
  }

  -- tasks of the host
  abbrev pub call_seen_task : ℕ → Option ExportDesc1 → List Value → Task Val1 State1
  call_seen_task i (Some (exports1.Func x)) arguments = Enter x (reverse (map value_from arguments)) (call_seen i)
  call_seen_task i _ arguments = Change (λ s. Go (show_trap (cross m) i s))

  trap_change : (i : ℕ) → ChangeLike (mirrored M) (λ s. Go (trapped m i s)) (λ s. Go (show_trap (cross m) i s))
  trap_change i = record { changes = λ s s' e h. subst (λ (t : State1). Both (Go (trapped m i s)) (Go (show_trap (cross m) i t))) (sym e) (traps i s h) }

  calls : (i : ℕ) (o : Option ExportDesc) (arguments : List Value) → AllByRecursion IsIntegerOfHost arguments → TaskLike (mirrored M) (call_task m i o arguments) (call_seen_task i (option_map cross_export_desc o) arguments)
  calls i (Some (exports.Func x)) arguments h = (tt, refl, taken-cross arguments h, taken_plain arguments h, call_like i)
  calls i (Some (exports.Table x)) arguments h = trap_change i
  calls i (Some (exports.Memory x)) arguments h = trap_change i
  calls i (Some (exports.Global x)) arguments h = trap_change i
  calls i (Some (exports.Tag x)) arguments h = trap_change i
  calls i None arguments h = trap_change i

  abbrev pub item_seen : ℕ → Item → Task Val1 State1
  item_seen i (Call name arguments) = call_seen_task i (option_map cross_export_desc (exported m name)) arguments
  item_seen i (Host a) = Change (λ s. Go (act1 (cross m) a s))

  abbrev pub items_seen : ℕ → List Item → List (Task Val1 State1)
  items_seen i [] = Change (λ s. Go (show events.Done s)) ∷ []
  items_seen i (item ∷ more) = item_seen i item ∷ items_seen (i + 1) more

  told : (event : Event) → ChangeLike (mirrored M) (λ s. Go (tell event s)) (λ s. Go (show event s))
  told event = record { changes = λ s s' e h. goes (tell event s) (show event s') (ap (show event) e) (tell_plain m event s h) }

  item_like : (i : ℕ) (item : Item) → ItemIsPlain item → TaskLike (mirrored M) (item_task m i item) (item_seen i item)
  item_like i (Call name arguments) h = calls i (exported m name) arguments h
  item_like i (Host a) h = record { changes = λ s s' e k. goes (act m a s) (act1 (cross m) a s') (ap (act1 (cross m) a) e ∙ act-cross m a s h) (act_plain m a s h k) }

  items_like : (i : ℕ) (items : List Item) → AllByRecursion ItemIsPlain items → TasksLike (mirrored M) (item_tasks m i items) (items_seen i items)
  items_like i [] h = (told events.Done, tt)
  items_like i (item ∷ more) h = (item_like i item h.0, items_like (i + 1) more h.1)

  -- all tasks behind the instantiation
  abbrev pub rest : List Item → List (Task Val State)
  rest items = start_task m.start ++ (Change (λ s. Go (tell events.Started s)) ∷ item_tasks m 0 items)

  abbrev pub rest1 : List Item → List (Task Val1 State1)
  rest1 items = start1 m.start ++ (Change (λ s. Go (show events.Started s)) ∷ items1 (cross m) 0 items)

  abbrev pub start_seen_task : Option ℕ → List (Task Val1 State1)
  start_seen_task None = []
  start_seen_task (Some x) = Enter x [] start_seen ∷ []

  abbrev pub rest_seen : List Item → List (Task Val1 State1)
  rest_seen items = start_seen_task m.start ++ (Change (λ s. Go (show events.Started s)) ∷ items_seen 0 items)

  begins : (o : Option ℕ) (ts : List (Task Val State)) (ts' : List (Task Val1 State1)) → TasksLike (mirrored M) ts ts' → TasksLike (mirrored M) (start_task o ++ ts) (start_seen_task o ++ ts')
  begins None ts ts' h = h
  begins (Some x) ts ts' h = ((tt, refl, refl, tt, start_like), h)

  pub rest_like : (items : List Item) → AllByRecursion ItemIsPlain items → TasksLike (mirrored M) (rest items) (rest_seen items)
  rest_like items h = begins m.start (Change (λ s. Go (tell events.Started s)) ∷ item_tasks m 0 items) (Change (λ s. Go (show events.Started s)) ∷ items_seen 0 items) (told events.Started, items_like 0 items h)

  -- they agree with those of 1.0, since no function of 1.0 has such an end
  call_agrees : (i : ℕ) (o : Option ExportDesc1) (arguments : List Value) → TaskAgrees (call_seen_task i o arguments) (call1_task (cross m) i o arguments)
  call_agrees i (Some (exports1.Func x)) arguments = (refl, refl, call_same i)
  call_agrees i (Some (exports1.Table x)) arguments = refl
  call_agrees i (Some (exports1.Memory x)) arguments = refl
  call_agrees i (Some (exports1.Global x)) arguments = refl
  call_agrees i None arguments = refl

  item_agrees : (i : ℕ) (item : Item) → TaskAgrees (item_seen i item) (item1 (cross m) i item)
  item_agrees i (Call name arguments) =
      subst (λ o. TaskAgrees (item_seen i (Call name arguments)) (call1_task (cross m) i o arguments)) (sym (exported-cross m name)) (call_agrees i (option_map cross_export_desc (exported m name)) arguments)
  item_agrees i (Host a) = refl

  items_agree : (i : ℕ) (items : List Item) → TasksAgree (items_seen i items) (items1 (cross m) i items)
  items_agree i [] = (refl, tt)
  items_agree i (item ∷ more) = (item_agrees i item, items_agree (i + 1) more)

  starts_agree : (o : Option ℕ) (ts ts' : List (Task Val1 State1)) → TasksAgree ts ts' → TasksAgree (start_seen_task o ++ ts) (start1 o ++ ts')
  starts_agree None ts ts' h = h
  starts_agree (Some x) ts ts' h = ((refl, refl, start_same), h)

  pub rest_agrees : (items : List Item) → TasksAgree (rest_seen items) (rest1 items)
  rest_agrees items = starts_agree m.start (Change (λ s. Go (show events.Started s)) ∷ items_seen 0 items) (Change (λ s. Go (show events.Started s)) ∷ items1 (cross m) 0 items) (refl, items_agree 0 items)
