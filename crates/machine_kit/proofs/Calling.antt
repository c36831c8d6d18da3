-- Calls from the host, and tasks, by what a machine comes to.
use Rattle.std.proofs.Common.{◌≡◌, ℕ, zero, suc, ◌+◌, ◌-◌, ◌≤◌, ◌<◌, List, [], ◌∷◌, length, get_or, drop, map, Option, Some, None, refl, sym, ap, subst, ◌∙◌, arith, add-zero}
use Rattle.std.proofs.lemmas.List.{drop_all, length-map}
use Rattle.evaluation_kit.specs.declared.jump.Jump.{Jump}
use Rattle.outcome_kit.specs.Outcome.{Out, Done, after, bind, place_of}
use Rattle.outcome_kit.specs.Code.{Go, Leave, go_on, stands}
use Rattle.outcome_kit.proofs.Outcomes.{bind-unit, after-zero, after-add}
use Rattle.std.proofs.Math.Nat.{sub-zero, sub-add-eq}
use Rattle.evaluation_kit.specs.Configurations.{World, Conf, PlainRes, plain_of}
use Rattle.evaluation_kit.specs.Tasks.{Task, Change, Enter, Status, tasks, shown, placed, plain_result, world_after}
use Rattle.machine_kit.specs.declared.frame.Frame.{Frame}
use Rattle.machine_kit.specs.declared.frame.Flow.TheVariants as flows
use Rattle.machine_kit.specs.declared.turns.Outcome.{Outcome}
use Rattle.machine_kit.specs.declared.turns.Outcome.TheVariants as outcomes
use Rattle.machine_kit.specs.declared.host.Begun.TheVariants as begun
use Rattle.machine_kit.specs.Acts.{Acts, ended_by}
use Rattle.machine_kit.specs.Stacks.{Stack}
use Rattle.machine_kit.specs.Machines.{Place, conf_of, means}
use Rattle.machine_kit.specs.Turning.{Came}
use Rattle.machine_kit.specs.Calls.{CallComes, TaskComes, TasksCome, TasksSpent, BegunAs, EndedAs, CallEnds, goes_on, later, turns_of}

module _ {I V S : Type 0} (acts : Acts I V S) where
  -- a machine that begins with a call, in which nothing is open
  call_means : (x : ℕ) (code : List I) (o l : Stack V) (fs : List (Frame I)) (s : S) (top n : ℕ) → fs ≡ [] → l.used ≡ [] → means acts (flows.Enter x) (record { code = code; operands = o; locals = l; frames = fs }) s top n ≡ acts.func x 0 n (record { operands = o.used; locals = []; world = record { state = s; deepest = top } })
  call_means x code o l fs s top n e f =
      ap (λ fs. means acts (flows.Enter x) (record { code = code; operands = o; locals = l; frames = fs }) s top n) e
      ∙ bind-unit n (acts.func x 0 n (conf_of acts o l s top))
      ∙ ap (λ ls. acts.func x 0 n (record { operands = o.used; locals = ls; world = record { state = s; deepest = top } })) f

  pub came_call : (x : ℕ) (a b : Place I V) (s s' : S) (n : ℕ) (o : Outcome) → a.frames ≡ [] → a.locals.used ≡ [] → Came acts (flows.Enter x) a s n o b s' → CallComes acts x a.operands.used s n o b.operands.used b.locals.used s'
  came_call x a b s s' n (outcomes.Done used j) e f h =
      (h.0, λ top. ((h.1 top).0, sym (call_means x a.code a.operands a.locals a.frames s top n e f) ∙ (h.1 top).1))
  came_call x a b s s' n outcomes.Halted e f h =
      λ top. ((h top).0, sym (call_means x a.code a.operands a.locals a.frames s top n e f) ∙ (h top).1)

-- the task at an index, and those behind it
pub next_task : {X Y : Type 0} (f : X → Y) (xs : List X) (i : ℕ) (x : X) → i < length xs → x ≡ get_or xs i x → drop i (map f xs) ≡ f x ∷ drop (i + 1) (map f xs)
next_task f [] i x lt e = let no : ⊥ = omega arith in absurd no
next_task f (y ∷ xs) zero x lt e = ap (λ z. f z ∷ map f xs) (sym e)
next_task f (y ∷ xs) (suc i) x lt e =
    let less : i < length xs = omega arith in
    let more : suc (i + 1) ≡ suc i + 1 = omega arith in
    next_task f xs i x less e ∙ ap (λ k. f x ∷ drop k (f y ∷ map f xs)) more

pub all_tasks : {X Y : Type 0} (f : X → Y) (xs : List X) (i : ℕ) → length xs ≤ i → drop i (map f xs) ≡ []
all_tasks f xs i le = drop_all i (map f xs) (omega (arith, length-map xs f))

-- the parts of a result that is given by a jump or none
placed_by : {S : Type 0} (w : World S) (j : Option Jump) (s : S) → placed w (ended_by j s) ≡ ended_by j (record w { state = s })
placed_by w None s = refl
placed_by w (Some j) s = refl

stands_by : {C : Type 0} (j : Option Jump) (c : C) → stands (ended_by j c) ≡ c
stands_by None c = refl
stands_by (Some j) c = refl

plain_by : {V S : Type 0} (j : Option Jump) (c : Conf V S) → plain_result (ended_by j c) ≡ ended_by j (plain_of c)
plain_by None c = refl
plain_by (Some j) c = refl

module _ {I V S : Type 0} (acts : Acts I V S) where
  changed : (f : S → Status S) (s s' : S) (n : ℕ) (over : Option Jump) → f s ≡ ended_by over s' → TaskComes acts (Change f) s n (outcomes.Done 0 over) s'
  changed f s s' n over e = (
    omega arith,
    λ top.
        let w : World S = record { state = s; deepest = top } in
        (top, ap (λ r. Done 0 (placed w r)) e ∙ ap (Done 0) (placed_by w over s')),
  )

  pub begun_changed : (t : Task V S) (s s' : S) (n : ℕ) (over : Option Jump) → BegunAs t s (begun.Changed over) s' → TaskComes acts t s n (outcomes.Done 0 over) s'
  begun_changed (Change f) s s' n over e = changed f s s' n over e
  begun_changed (Enter x operands see) s s' n over e = absurd e

  shown_by : (see : PlainRes V S → Status S) (j over : Option Jump) (c : Conf V S) (s : S) → see (ended_by j (plain_of c)) ≡ ended_by over s → shown see (ended_by j c) ≡ ended_by over (record c.world { state = s })
  shown_by see j over c s e =
      ap (λ (a : Conf V S). placed a.world (see (plain_result (ended_by j c)))) (stands_by j c)
      ∙ ap (λ r. placed c.world (see r)) (plain_by j c)
      ∙ ap (placed c.world) e
      ∙ placed_by c.world over s

  -- a call from the state in which the task begins
  from_state : (x y : ℕ) (operands used : List V) (s s' : S) (n : ℕ) (o : Outcome) (operands' locals' : List V) (s'' : S) → x ≡ y → operands ≡ used → s' ≡ s → CallComes acts y used s' n o operands' locals' s'' → CallComes acts x operands s n o operands' locals' s''
  from_state x y operands used s s' n o operands' locals' s'' a b d h =
      subst (λ z. CallComes acts z operands s n o operands' locals' s'') (sym a)
      (subst (λ z. CallComes acts y z s n o operands' locals' s'') (sym b)
      (subst (λ z. CallComes acts y used z n o operands' locals' s'') d h))

  pub begun_called : (t : Task V S) (s s' s'' : S) (n x used : ℕ) (o o' l' : Stack V) (j over : Option Jump) (end : S) → BegunAs t s (begun.Call x o) s' → CallComes acts x o.used s' n (outcomes.Done used j) o'.used l'.used s'' → EndedAs t (ended_by j (record { operands = o'.used; locals = l'.used; state = s'' })) over end → TaskComes acts t s n (outcomes.Done used over) end
  begun_called (Change f) s s' s'' n x used o o' l' j over end b h e = absurd b
  begun_called (Enter y operands see) s s' s'' n x used o o' l' j over end b h e =
      let q = from_state y x operands o.used s s' n (outcomes.Done used j) o'.used l'.used s'' b.0 b.1 b.2 h in (
        q.0,
        λ top.
            let p = q.1 top in
            let c : Conf V S = record { operands = o'.used; locals = l'.used; world = record { state = s''; deepest = p.0 } } in
            (p.0, ap (λ o. bind n o (λ r m. Done 0 (shown see r))) p.1 ∙ ap (λ u. Done u (shown see (ended_by j c))) (add-zero used) ∙ ap (Done used) (shown_by see j over c end e)),
      )

  pub begun_halted : (t : Task V S) (s s' s'' : S) (n x : ℕ) (o o' l' : Stack V) → BegunAs t s (begun.Call x o) s' → CallComes acts x o.used s' n outcomes.Halted o'.used l'.used s'' → TaskComes acts t s n outcomes.Halted s''
  begun_halted (Change f) s s' s'' n x o o' l' b h = absurd b
  begun_halted (Enter y operands see) s s' s'' n x o o' l' b h =
      let q = from_state y x operands o.used s s' n outcomes.Halted o'.used l'.used s'' b.0 b.1 b.2 h in
      λ top. ((q top).0, ap (λ o. bind n o (λ r m. Done 0 (shown see r))) (q top).1)

  pub begun_ended : (t : Task V S) (s s' s'' : S) (n x : ℕ) (o o' l' : Stack V) (call out : Outcome) (end : S) → BegunAs t s (begun.Call x o) s' → CallComes acts x o.used s' n call o'.used l'.used s'' → CallEnds t call o'.used l'.used s'' out end → TaskComes acts t s n out end
  begun_ended t s s' s'' n x o o' l' (outcomes.Done used j) (outcomes.Done all over) end = λ b h e.
      subst (λ u. TaskComes acts t s n (outcomes.Done u over) end) (sym e.0) (begun_called t s s' s'' n x used o o' l' j over end b h e.1)
  begun_ended t s s' s'' n x o o' l' outcomes.Halted outcomes.Halted end = λ b h e.
      subst (λ z. TaskComes acts t s n outcomes.Halted z) (sym e) (begun_halted t s s' s'' n x o o' l' b h)
  begun_ended t s s' s'' n x o o' l' (outcomes.Done used j) outcomes.Halted end = λ b h e. absurd e
  begun_ended t s s' s'' n x o o' l' outcomes.Halted (outcomes.Done all over) end = λ b h e. absurd e

  -- tasks in order
  pub tasks_begin : (ts : List (Task V S)) (s : S) (n : ℕ) → TasksSpent acts ts s n 0 ts s
  tasks_begin ts s n = record {
    within = omega arith;
    leaves = λ top. (top, sym (after-zero (tasks acts.func ts (n - 0) (record { state = s; deepest = top })) ∙ ap (λ m. tasks acts.func ts m (record { state = s; deepest = top })) (sub-zero n)));
  }

  pub tasks_more : (ts : List (Task V S)) (t : Task V S) (rest : List (Task V S)) (s s' s'' : S) (n used more : ℕ) → TasksSpent acts ts s n used (t ∷ rest) s' → TaskComes acts t s' (n - used) (outcomes.Done more None) s'' → TasksSpent acts ts s n (used + more) rest s''
  tasks_more ts t rest s s' s'' n used more h e =
      let le = h.within in
      let le' = e.0 in
      record {
        within = omega arith;
        leaves = λ top.
            let p = h.leaves top in
            let q = e.1 p.0 in
            let end : World S = record { state = s''; deepest = q.0 } in (
              q.0,
              p.1 ∙ ap (λ o. after used (bind (n - used) o (go_on (tasks acts.func rest)))) q.1
                  ∙ sym (after-add used more (tasks acts.func rest (n - used - more) end))
                  ∙ ap (λ m. after (used + more) (tasks acts.func rest m end)) (sym (sub-add-eq n used more)),
            );
      }

  pub tasks_over : (ts : List (Task V S)) (t : Task V S) (rest : List (Task V S)) (s s' s'' : S) (n used more : ℕ) (j : Jump) → TasksSpent acts ts s n used (t ∷ rest) s' → TaskComes acts t s' (n - used) (outcomes.Done more (Some j)) s'' → TasksCome acts ts s n (outcomes.Done (used + more) (Some j)) s''
  tasks_over ts t rest s s' s'' n used more j h e =
      let le = h.within in
      let le' = e.0 in (
        omega arith,
        λ top.
            let p = h.leaves top in
            let q = e.1 p.0 in
            let end : World S = record { state = s''; deepest = q.0 } in
            (q.0, p.1 ∙ ap (λ o. after used (bind (n - used) o (go_on (tasks acts.func rest)))) q.1 ∙ ap (λ u. after used (Done u (Leave j end))) (add-zero more)),
      )

  pub tasks_halted : (ts : List (Task V S)) (t : Task V S) (rest : List (Task V S)) (s s' s'' : S) (n used : ℕ) → TasksSpent acts ts s n used (t ∷ rest) s' → TaskComes acts t s' (n - used) outcomes.Halted s'' → TasksCome acts ts s n outcomes.Halted s''
  tasks_halted ts t rest s s' s'' n used h e =
      λ top.
      let p = h.leaves top in
      let q = e p.0 in
      (q.0, p.1 ∙ ap (λ o. after used (bind (n - used) o (go_on (tasks acts.func rest)))) q.1)

  pub tasks_stop : (ts : List (Task V S)) (t : Task V S) (rest : List (Task V S)) (s s' s'' : S) (n used : ℕ) (o : Outcome) → goes_on o ≡ None → TasksSpent acts ts s n used (t ∷ rest) s' → TaskComes acts t s' (n - used) o s'' → TasksCome acts ts s n (later used o) s''
  tasks_stop ts t rest s s' s'' n used (outcomes.Done more None) g h e = let no : ⊥ = cc in absurd no
  tasks_stop ts t rest s s' s'' n used (outcomes.Done more (Some j)) g h e = tasks_over ts t rest s s' s'' n used more j h e
  tasks_stop ts t rest s s' s'' n used outcomes.Halted g h e = tasks_halted ts t rest s s' s'' n used h e

  pub tasks_go : (ts : List (Task V S)) (t : Task V S) (rest : List (Task V S)) (s s' s'' : S) (n used more : ℕ) (o : Outcome) → goes_on o ≡ Some more → TasksSpent acts ts s n used (t ∷ rest) s' → TaskComes acts t s' (n - used) o s'' → TasksSpent acts ts s n (used + more) rest s''
  tasks_go ts t rest s s' s'' n used more (outcomes.Done m None) g h e =
      let same : m ≡ more = cc in
      tasks_more ts t rest s s' s'' n used more h (subst (λ u. TaskComes acts t s' (n - used) (outcomes.Done u None) s'') same e)
  tasks_go ts t rest s s' s'' n used more (outcomes.Done m (Some j)) g h e = let no : ⊥ = cc in absurd no
  tasks_go ts t rest s s' s'' n used more outcomes.Halted g h e = let no : ⊥ = cc in absurd no

  pub tasks_end : (ts : List (Task V S)) (s s' : S) (n used : ℕ) → TasksSpent acts ts s n used [] s' → TasksCome acts ts s n (outcomes.Done used None) s'
  tasks_end ts s s' n used h = (h.within, λ top. ((h.leaves top).0, (h.leaves top).1 ∙ ap (λ u. Done u (Go (record { state = s'; deepest = (h.leaves top).0 }))) (add-zero used)))

  -- no task takes more turns than there are
  pub turns_within : (t : Task V S) (s s' : S) (n : ℕ) (o : Outcome) → TaskComes acts t s n o s' → turns_of o ≤ n
  turns_within t s s' n (outcomes.Done used j) h = h.0
  turns_within t s s' n outcomes.Halted h = omega arith

  -- the state in which they leave the run
  pub tasks_leave : (ts : List (Task V S)) (s s' : S) (n : ℕ) (o : Outcome) → TasksCome acts ts s n o s' → (world_after acts.func ts s n).state ≡ s'
  tasks_leave ts s s' n (outcomes.Done used j) h =
      let p = h.1 0 in
      ap (λ (o : Out (World S) (Status (World S))). let w : World S = place_of stands o in w.state) p.1 ∙ ap (λ (w : World S). w.state) (stands_by j (record { state = s'; deepest = p.0 }))
  tasks_leave ts s s' n outcomes.Halted h = ap (λ (o : Out (World S) (Status (World S))). let w : World S = place_of stands o in w.state) (h 0).1
