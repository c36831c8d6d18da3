-- What a host does keeps to each law of runs.
use Rattle.std.proofs.Common.{◌≡◌, ℕ, ◌+◌, ◌≤◌, Bool, List, [], ◌∷◌, ◌++◌, map, ◌⊎◌, inl, inr, Option, Some, None, refl, sym, ap, ◌∙◌, subst, append_assoc, append-nil}
use Rattle.std.proofs.lemmas.List.{append_cancel_left}
use Rattle.std.specs.Prelude.{slice_get}
use Rattle.std.specs.List.{AllByRecursion}
use Rattle.host_kit.specs.Offered.{exported}
use Rattle.host_kit.specs.Trace.{Shows, Begins, seen, answers}
use Rattle.host_kit.proofs.Marks.{begins_append, answers-shown, captured-shown, cut-append}
use Rattle.host_kit.specs.declared.event.Event.{Event}
use Rattle.host_kit.specs.declared.event.Event.TheVariants as events
use Rattle.host_kit.specs.declared.script.Item.{Item}
use Rattle.host_kit.specs.declared.script.Item.TheVariants.{Call, Host}
use Rattle.host_kit.specs.declared.script.Script.{Script}
use Rattle.host_kit.specs.declared.value.Value.{Value}
use Rattle.wasm_ast.specs.declared.module.parts.ExportDesc.{ExportDesc}
use Rattle.wasm_ast.specs.declared.module.parts.ExportDesc.TheVariants.{Func}
use Rattle.wasm_ast.specs.declared.module.parts.Module.{Module}
use Rattle.evaluation_kit.specs.declared.jump.Jump.{Jump}
use Rattle.evaluation_kit.specs.declared.jump.Jump.TheVariants as jumps
use Rattle.evaluation_kit.specs.declared.jump.Jump.TheVariants.{Full}
use Rattle.outcome_kit.specs.Code.{Go, Leave}
use Rattle.evaluation_kit.specs.Configurations.{Plain, PlainRes}
use Rattle.evaluation_kit.specs.Tasks.{Status, Task, Change, Enter}
use Rattle.evaluation_kit.proofs.Growing.{state_after}
use Rattle.evaluation_kit.proofs.Invariants.{After, PlainAfter}
use Rattle.evaluation_kit.proofs.Replaying.{freed_plain}
use Rattle.evaluation_kit.proofs.TaskLaws.{status_state, TaskLeads, TaskKeeps, StatusAfter, TaskReplays, freed_status, TaskCuts, bounded_status}
use Rattle.meaning_new.specs.declared.val.Val.{Val}
use Rattle.meaning_new.specs.Store.{Store, State, Exception, tell, with_store}
use Rattle.meaning_new.specs.Instances.{place_segments}
use Rattle.meaning_new.specs.Runs.{instantiated, started, start_task, uncaught, answered, call_task, item_task, item_tasks, run_tasks}
use Rattle.meaning_new.proofs.Even.{redial, redial_plain, redial_res, LeavesNotFull, Even, even_itself, even_same, even_tell, all_append}
use Rattle.meaning_new.proofs.EvenLeaves.{act_step}
use Rattle.meaning_new.proofs.Bounds.{order, roomy, Roomy, counted, Counted, answering, bounding, Open, any_sizes, any_room, roomy_even, counted_even, open_even, not_full_at, not_full_count, bounded_redial}

abbrev redial_status : List Bool → (List ℕ → Bool) → (ℕ → Bool) → Status State → Status State
redial_status g permits room (Go s) = Go (redial g permits room s)
redial_status g permits room (Leave j s) = Leave j (redial g permits room s)

abbrev pub StatusNotFull : Status State → Type 0
StatusNotFull (Go s) = Unit {0}
StatusNotFull (Leave j s) = j ≡ Full → ⊥

-- a status that the host makes of a state, here and within other bounds
pub record StatusHere (s : State) (here : Status State) (there : List Bool → (List ℕ → Bool) → (ℕ → Bool) → Status State) : Type 0 where
  pub even : Even s (status_state here)
  pub redialed : (g : List Bool) (permits : List ℕ → Bool) (room : ℕ → Bool) → there g permits room ≡ redial_status g permits room here
  pub not_full : StatusNotFull here

pub record EvenChange (f : State → Status State) : Type 0 where
  pub change : (s : State) → StatusHere s (f s) (λ g permits room. f (redial g permits room s))

-- what becomes of the result of a call: that Full left the code is told as it is
pub record EvenShown (see : PlainRes Val State → Status State) : Type 0 where
  pub other : (r : PlainRes Val State) → LeavesNotFull r → StatusHere (state_after r) (see r) (λ g permits room. see (redial_res g permits room r))
  pub full : (p : Plain Val State) → see (Leave Full p) ≡ Leave Full (tell events.Full p.state)

abbrev pub TaskIs : Task Val State → Type 0
TaskIs (Change f) = EvenChange f
TaskIs (Enter x operands see) = EvenShown see

-- the tasks of a run
told_here : (e : Event) (s : State) → (Shows e ≡ Shows events.Full → ⊥) → StatusHere s (Go (tell e s)) (λ g permits room. Go (tell e (redial g permits room s)))
told_here e s other = record { even = even_tell e s other; redialed = λ g permits room. refl; not_full = tt }

left_here : (j : Jump) (e : Event) (s : State) → (j ≡ Full → ⊥) → (Shows e ≡ Shows events.Full → ⊥) → StatusHere s (Leave j (tell e s)) (λ g permits room. Leave j (tell e (redial g permits room s)))
left_here j e s h other = record { even = even_tell e s other; redialed = λ g permits room. refl; not_full = h }

same_here : (s : State) → StatusHere s (Go s) (λ g permits room. Go (redial g permits room s))
same_here s = record { even = even_itself s; redialed = λ g permits room. refl; not_full = tt }

placed_here : (o : Option Store) (s : State) → StatusHere s (instantiated s o) (λ g permits room. instantiated (redial g permits room s) o)
placed_here None s = left_here jumps.Trap events.Failed s (λ e. cc) (λ e. cc)
placed_here (Some store) s = record { even = even_same s (with_store store s) refl refl refl refl; redialed = λ g permits room. refl; not_full = tt }

started_here : (r : PlainRes Val State) → LeavesNotFull r → StatusHere (state_after r) (started r) (λ g permits room. started (redial_res g permits room r))
started_here (Go p) h = same_here p.state
started_here (Leave (jumps.NoReply x) p) h = left_here (jumps.NoReply x) (events.NoReply x) p.state (λ e. cc) (λ e. cc)
started_here (Leave Full p) h = absurd (h refl)
started_here (Leave jumps.Stuck p) h = record { even = even_itself p.state; redialed = λ g permits room. refl; not_full = λ e. cc }
started_here (Leave j p) h = left_here jumps.Trap events.Failed p.state (λ e. cc) (λ e. cc)

uncaught_here : (m : Module) (i : ℕ) (o : Option Exception) (s : State) → StatusHere s (Go (uncaught m i o s)) (λ g permits room. Go (uncaught m i o (redial g permits room s)))
uncaught_here m i None s = told_here _ s (λ e. cc)
uncaught_here m i (Some x) s = told_here _ s (λ e. cc)

answered_here : (m : Module) (i : ℕ) (r : PlainRes Val State) → LeavesNotFull r → StatusHere (state_after r) (answered m i r) (λ g permits room. answered m i (redial_res g permits room r))
answered_here m i (Go p) h = told_here _ p.state (λ e. cc)
answered_here m i (Leave (jumps.Throw x) p) h = uncaught_here m i (slice_get p.state.store.exceptions x) p.state
answered_here m i (Leave (jumps.NoReply x) p) h = left_here (jumps.NoReply x) (events.NoReply x) p.state (λ e. cc) (λ e. cc)
answered_here m i (Leave Full p) h = absurd (h refl)
answered_here m i (Leave jumps.Stuck p) h = record { even = even_itself p.state; redialed = λ g permits room. refl; not_full = λ e. cc }
answered_here m i (Leave j p) h = told_here _ p.state (λ e. cc)

call_is : (m : Module) (i : ℕ) (o : Option ExportDesc) (arguments : List Value) → TaskIs (call_task m i o arguments)
call_is m i (Some (Func x)) arguments = record { other = answered_here m i; full = λ p. refl }
call_is m i (Some _) arguments = record { change = λ s. told_here _ s (λ e. cc) }
call_is m i None arguments = record { change = λ s. told_here _ s (λ e. cc) }

item_is : (m : Module) (i : ℕ) (item : Item) → TaskIs (item_task m i item)
item_is m i (Call name arguments) = call_is m i (exported m name) arguments
item_is m i (Host a) = record {
  change = λ s. record { even = (act_step m a).even s; redialed = λ g permits room. ap (λ t. Go t) ((act_step m a).redialed g permits room s); not_full = tt };
}

items_are : (m : Module) (i : ℕ) (items : List Item) → AllByRecursion TaskIs (item_tasks m i items)
items_are m i [] = (record { change = λ s. told_here events.Done s (λ e. cc) }, tt)
items_are m i (item ∷ more) = (item_is m i item, items_are m (i + 1) more)

begun_are : (m : Module) (script : Script) (o : Option ℕ) → AllByRecursion TaskIs (start_task o ++ (Change (λ s. Go (tell events.Started s)) ∷ item_tasks m 0 script.items))
begun_are m script None = (record { change = λ s. told_here events.Started s (λ e. cc) }, items_are m 0 script.items)
begun_are m script (Some x) = (record { other = started_here; full = λ p. refl }, (record { change = λ s. told_here events.Started s (λ e. cc) }, items_are m 0 script.items))

pub tasks_are : (m : Module) (script : Script) → AllByRecursion TaskIs (run_tasks m script)
tasks_are m script = (record { change = λ s. placed_here (place_segments m s.store) s }, begun_are m script m.start)

each : {A : Type 0} (P Q : A → Type 0) → ((a : A) → P a → Q a) → (l : List A) → AllByRecursion P l → AllByRecursion Q l
each P Q f [] h = tt
each P Q f (a ∷ more) h = (f a h.0, each P Q f more h.1)

-- a result that Full left, and the others
pub full_or_not : (r : PlainRes Val State) → LeavesNotFull r ⊎ ((p : Plain Val State) × (r ≡ Leave Full p))
full_or_not (Go p) = inl tt
full_or_not (Leave Full p) = inr (p, refl)
full_or_not (Leave (jumps.Branch k) p) = inl (λ e. cc)
full_or_not (Leave jumps.Return p) = inl (λ e. cc)
full_or_not (Leave (jumps.Throw x) p) = inl (λ e. cc)
full_or_not (Leave (jumps.TailCall x) p) = inl (λ e. cc)
full_or_not (Leave jumps.Trap p) = inl (λ e. cc)
full_or_not (Leave (jumps.NoReply x) p) = inl (λ e. cc)
full_or_not (Leave jumps.Stuck p) = inl (λ e. cc)

-- states lead on
module _ (see : PlainRes Val State → Status State) (h : EvenShown see) where
  shown_leads : (r : PlainRes Val State) → Begins (state_after r).trace (status_state (see r)).trace
  shown_leads r = by_case (full_or_not r)
    where
      by_case : LeavesNotFull r ⊎ ((p : Plain Val State) × (r ≡ Leave Full p)) → Begins (state_after r).trace (status_state (see r)).trace
      by_case (inl n) = (h.other r n).even.begins
      by_case (inr e) = subst (λ (x : PlainRes Val State). Begins (state_after x).trace (status_state (see x)).trace) (sym e.1) (subst (λ (x : Status State). Begins e.0.state.trace (status_state x).trace) (sym (h.full e.0)) (begins_append e.0.state.trace (Shows events.Full ∷ [])))

  shown_told : (r : PlainRes Val State) → answers (seen (status_state (see r)).trace) ≡ answers (seen (state_after r).trace)
  shown_told r = by_case (full_or_not r)
    where
      by_case : LeavesNotFull r ⊎ ((p : Plain Val State) × (r ≡ Leave Full p)) → answers (seen (status_state (see r)).trace) ≡ answers (seen (state_after r).trace)
      by_case (inl n) = (h.other r n).even.told
      by_case (inr e) = ap (λ (x : PlainRes Val State). answers (seen (status_state (see x)).trace)) e.1 ∙ ap (λ (x : Status State). answers (seen (status_state x).trace)) (h.full e.0) ∙ answers-shown e.0.state.trace events.Full ∙ ap (λ (x : PlainRes Val State). answers (seen (state_after x).trace)) (sym e.1)

  shown_redialed : (g : List Bool) (permits : List ℕ → Bool) (room : ℕ → Bool) (r : PlainRes Val State) → see (redial_res g permits room r) ≡ redial_status g permits room (see r)
  shown_redialed g permits room r = by_case (full_or_not r)
    where
      by_case : LeavesNotFull r ⊎ ((p : Plain Val State) × (r ≡ Leave Full p)) → see (redial_res g permits room r) ≡ redial_status g permits room (see r)
      by_case (inl n) = (h.other r n).redialed g permits room
      by_case (inr e) =
          ap (λ x. see (redial_res g permits room x)) e.1 ∙ h.full (redial_plain g permits room e.0)
          ∙ ap (redial_status g permits room) (sym (h.full e.0)) ∙ ap (λ x. redial_status g permits room (see x)) (sym e.1)

  shown_grows : (r : PlainRes Val State) → (status_state (see r)).grows ≡ (state_after r).grows
  shown_grows r = by_case (full_or_not r)
    where
      by_case : LeavesNotFull r ⊎ ((p : Plain Val State) × (r ≡ Leave Full p)) → (status_state (see r)).grows ≡ (state_after r).grows
      by_case (inl n) = (h.other r n).even.grows
      by_case (inr e) = ap (λ (x : PlainRes Val State). (status_state (see x)).grows) e.1 ∙ ap (λ (x : Status State). (status_state x).grows) (h.full e.0) ∙ ap (λ (x : PlainRes Val State). (state_after x).grows) (sym e.1)

leads : (t : Task Val State) → TaskIs t → TaskLeads order t
leads (Change f) h = λ s. (h.change s).even.begins
leads (Enter x operands see) h = shown_leads see h

pub tasks_lead : (m : Module) (script : Script) → AllByRecursion (TaskLeads order) (run_tasks m script)
tasks_lead m script = each TaskIs (TaskLeads order) leads (run_tasks m script) (tasks_are m script)

-- there is always room
status_roomy : (s : State) (r : Status State) → Even s (status_state r) → StatusNotFull r → Roomy s → StatusAfter roomy r
status_roomy s (Go t) e n h = roomy_even s t e h
status_roomy s (Leave j t) e n h = record { always = roomy_even s t e h; at_jump = not_full_at j n }

after_roomy : (r : PlainRes Val State) → PlainAfter roomy r → Roomy (state_after r) × LeavesNotFull r
after_roomy (Go p) h = (h, tt)
after_roomy (Leave Full p) h = absurd h.at_jump
after_roomy (Leave (jumps.Branch k) p) h = (h.always, λ e. cc)
after_roomy (Leave jumps.Return p) h = (h.always, λ e. cc)
after_roomy (Leave (jumps.Throw x) p) h = (h.always, λ e. cc)
after_roomy (Leave (jumps.TailCall x) p) h = (h.always, λ e. cc)
after_roomy (Leave jumps.Trap p) h = (h.always, λ e. cc)
after_roomy (Leave (jumps.NoReply x) p) h = (h.always, λ e. cc)
after_roomy (Leave jumps.Stuck p) h = (h.always, λ e. cc)

stays_roomy : (t : Task Val State) → TaskIs t → TaskKeeps roomy t
stays_roomy (Change f) h = λ s k. status_roomy s (f s) (h.change s).even (h.change s).not_full k
stays_roomy (Enter x operands see) h = λ r k.
    let both = after_roomy r k in
    status_roomy (state_after r) (see r) (h.other r both.1).even (h.other r both.1).not_full both.0

pub tasks_roomy : (m : Module) (script : Script) → AllByRecursion (TaskKeeps roomy) (run_tasks m script)
tasks_roomy m script = each TaskIs (TaskKeeps roomy) stays_roomy (run_tasks m script) (tasks_are m script)

-- captures are counted
module _ (N : ℕ) where
  status_counted : (s : State) (r : Status State) → Even s (status_state r) → StatusNotFull r → Counted N s → StatusAfter (counted N) r
  status_counted s (Go t) e n h = counted_even N s t e h
  status_counted s (Leave j t) e n h = record { always = counted_even N s t e h; at_jump = not_full_count N j t n }

  counted_plain : (r : PlainRes Val State) → PlainAfter (counted N) r → Counted N (state_after r)
  counted_plain (Go p) h = h
  counted_plain (Leave j p) h = h.always

  shown_counted : (see : PlainRes Val State → Status State) (h : EvenShown see) (r : PlainRes Val State) → PlainAfter (counted N) r → LeavesNotFull r ⊎ ((p : Plain Val State) × (r ≡ Leave Full p)) → StatusAfter (counted N) (see r)
  shown_counted see h r k (inl n) = status_counted (state_after r) (see r) (h.other r n).even (h.other r n).not_full (counted_plain r k)
  shown_counted see h r k (inr e) =
      let there : After (counted N) (Some Full) e.0.state = subst (λ x. PlainAfter (counted N) x) e.1 k in
      let same = captured-shown e.0.state.trace events.Full in
      let told : After (counted N) (Some Full) (tell events.Full e.0.state) = record {
        always = record { few = subst (λ i. i ≤ N) (sym same) there.always.few; exact = inr (same ∙ there.at_jump); room = there.always.room };
        at_jump = same ∙ there.at_jump;
      } in
      subst (λ x. StatusAfter (counted N) (see x)) (sym e.1) (subst (λ x. StatusAfter (counted N) x) (sym (h.full e.0)) told)

  stays_counted : (t : Task Val State) → TaskIs t → TaskKeeps (counted N) t
  stays_counted (Change f) h = λ s k. status_counted s (f s) (h.change s).even (h.change s).not_full k
  stays_counted (Enter x operands see) h = λ r k. shown_counted see h r k (full_or_not r)

  pub tasks_counted : (m : Module) (script : Script) → AllByRecursion (TaskKeeps (counted N)) (run_tasks m script)
  tasks_counted m script = each TaskIs (TaskKeeps (counted N)) stays_counted (run_tasks m script) (tasks_are m script)

-- the same under its own answers
nothing_told : (xs ys : List Bool) → xs ≡ xs ++ ys → ys ≡ []
nothing_told xs ys e = sym (append_cancel_left xs [] ys (append-nil xs ∙ e))

free_status : (t : List Bool) (r : Status State) → redial_status t any_sizes any_room r ≡ freed_status answering t r
free_status t (Go s) = refl
free_status t (Leave j s) = refl

free_res : (t : List Bool) (r : PlainRes Val State) → redial_res t any_sizes any_room r ≡ freed_plain answering t r
free_res t (Go p) = refl
free_res t (Leave j p) = refl

replays : (t : Task Val State) → TaskIs t → TaskReplays answering t
replays (Change f) h = record {
  leads = λ s. (h.change s).even.begins;
  again = λ s a t e.
      let none = nothing_told (answers (seen s.trace)) a (sym (h.change s).even.told ∙ e) in
      ap (λ l. f (redial (l ++ t) any_sizes any_room s)) none ∙ (h.change s).redialed t any_sizes any_room ∙ free_status t (f s);
}
replays (Enter x operands see) h = record {
  leads = shown_leads see h;
  again = λ r a t e.
      let none = nothing_told (answers (seen (state_after r).trace)) a (sym (shown_told see h r) ∙ e) in
      ap (λ l. see (freed_plain answering (l ++ t) r)) none ∙ ap see (sym (free_res t r)) ∙ shown_redialed see h t any_sizes any_room r ∙ free_status t (see r);
  ends = λ operands locals s u p. record {
    state = tell events.Full s;
    is_full = h.full (record { operands = operands; locals = locals; state = s });
    beyond = λ v b. record {
      before = b.before;
      fulls = b.fulls ++ events.Full ∷ [];
      all_full = all_append (λ e. e ≡ events.Full) b.fulls events.Full b.all_full refl;
      stopped = ap (λ l. l ++ Shows events.Full ∷ []) b.stopped ∙ append_assoc b.before (map Shows b.fulls) (Shows events.Full ∷ []) ∙ ap (λ l. b.before ++ l) (sym (map_one b.fulls));
      further = b.further;
    };
  };
}
  where
    map_one : (es : List Event) → map Shows (es ++ events.Full ∷ []) ≡ map Shows es ++ Shows events.Full ∷ []
    map_one [] = refl
    map_one (e ∷ es) = ap (λ l. Shows e ∷ l) (map_one es)

pub tasks_replay : (m : Module) (script : Script) → AllByRecursion (TaskReplays answering) (run_tasks m script)
tasks_replay m script = each TaskIs (TaskReplays answering) replays (run_tasks m script) (tasks_are m script)

-- with bounds and without
module _ (permits : List ℕ → Bool) (room : ℕ → Bool) where
  bound_status : (g : List Bool) (r : Status State) → (status_state r).grows ≡ g → redial_status g permits room r ≡ bounded_status (bounding permits room) r
  bound_status g (Go s) e = ap (λ l. Go (redial l permits room s)) (sym e)
  bound_status g (Leave j s) e = ap (λ l. Leave j (redial l permits room s)) (sym e)

  shown_open : (see : PlainRes Val State → Status State) (h : EvenShown see) (r : PlainRes Val State) → Open permits room (state_after r) → LeavesNotFull r ⊎ ((p : Plain Val State) × (r ≡ Leave Full p)) → Open permits room (status_state (see r))
  shown_open see h r fine (inl n) = open_even permits room (state_after r) (status_state (see r)) (h.other r n).even fine
  shown_open see h r fine (inr e) =
      let there : Open permits room e.0.state = subst (λ x. Open permits room (state_after x)) e.1 fine in
      let told : Open permits room (tell events.Full e.0.state) = record {
        sizes = there.sizes;
        captures = there.captures;
        whole = cut-append permits room 0 e.0.state.trace (Shows events.Full ∷ []) there.whole;
      } in
      subst (λ x. Open permits room (status_state (see x))) (sym e.1) (subst (λ x. Open permits room (status_state x)) (sym (h.full e.0)) told)

  cuts : (t : Task Val State) → TaskIs t → TaskCuts (bounding permits room) t
  cuts (Change f) h = record {
    leads = λ s. (h.change s).even.begins;
    cuts = λ s fine. (
      open_even permits room s (status_state (f s)) (h.change s).even fine,
      (h.change s).redialed s.grows permits room ∙ bound_status s.grows (f s) (h.change s).even.grows,
    );
  }
  cuts (Enter x operands see) h = record {
    leads = shown_leads see h;
    cuts = λ r fine. (
      shown_open see h r fine (full_or_not r),
      ap see (sym (bounded_redial permits room (state_after r).grows r refl)) ∙ shown_redialed see h (state_after r).grows permits room r ∙ bound_status (state_after r).grows (see r) (shown_grows see h r),
    );
  }

  pub tasks_cut : (m : Module) (script : Script) → AllByRecursion (TaskCuts (bounding permits room)) (run_tasks m script)
  tasks_cut m script = each TaskIs (TaskCuts (bounding permits room)) cuts (run_tasks m script) (tasks_are m script)
