-- A run of a language whose states differ in a part alone is the run over that part.
use Rattle.std.proofs.Common.{◌≡◌, ℕ, zero, suc, ◌+◌, ◌-◌, List, [], ◌∷◌, map, take, drop, Bool, true, false, if◌then◌else◌, Option, Some, None, option_map, refl, sym, ap, ◌∙◌, subst}
use Rattle.std.specs.List.{AllByRecursion}
use Rattle.evaluation_kit.specs.declared.jump.Jump.TheVariants.{Branch, Return, Throw, TailCall}
use Rattle.outcome_kit.specs.Outcome.{Out, Done, Halt, after, bind, turn, place_of}
use Rattle.outcome_kit.specs.Code.{Go, Leave, go_on, run, stands}
use Rattle.evaluation_kit.specs.Configurations.{World, Conf, Plain, PlainRes, Res, Sem, plain_of, settled}
use Rattle.evaluation_kit.specs.Control
use Rattle.evaluation_kit.specs.Control.{Handler, Caught, Function, Callee, Own, Host, entered, kept, popped, leave_block, leave_pass, passes, handled, taken, returned, call_picked, where_ready, when_ready, opened, ended, leave_body, hosted, enter, arrive}
use Rattle.evaluation_kit.specs.Forms.{Form, Flat, Enclose, Repeat, Choose, Guard, Invoke, InvokeBy, map_form, eval}
use Rattle.evaluation_kit.specs.Languages.{Language, exec_layer, exec_with, code_with, enter_with, func_within, func}
use Rattle.evaluation_kit.specs.Tasks.{Status, Task, Change, Enter, placed, shown, task, tasks, world_after}
use Rattle.run_kit.specs.Narrowing.{Narrowing, whole_plain, whole_plain_res, part_plain_res, part_act, part_caught, part_handler, part_form, part_callee, part_language, part_status, part_task, IsWholeRes, IsWholeStatus, IsWholeCaught, Steady, SteadyForm, SteadyCallee, SteadyTask}

module _ {K S : Type 0} (N : Narrowing K S) where
  abbrev pub whole_world : World K → World S
  whole_world w = record { state = N.whole w.state; deepest = w.deepest }

  abbrev pub whole_out : {R R' : Type 0} → (R → R') → Out (World K) R → Out (World S) R'
  whole_out f (Done u r) = Done u (f r)
  whole_out f (Halt w) = Halt (whole_world w)

  out_after : {R R' : Type 0} (f : R → R') (u : ℕ) (o : Out (World K) R) → whole_out f (after u o) ≡ after u (whole_out f o)
  out_after f u (Done v r) = refl
  out_after f u (Halt w) = refl

  out_bind : {Q Q' R R' : Type 0} (g : Q → Q') (f : R → R') (n : ℕ) (o : Out (World K) Q) (k : Q → ℕ → Out (World K) R) (k' : Q' → ℕ → Out (World S) R') → ((q : Q) (m : ℕ) → k' (g q) m ≡ whole_out f (k q m)) → bind n (whole_out g o) k' ≡ whole_out f (bind n o k)
  out_bind g f n (Done u q) k k' h = ap (after u) (h q (n - u)) ∙ sym (out_after f u (k q (n - u)))
  out_bind g f n (Halt w) k k' h = refl

  -- the same, of a first part that is known by an equation
  pub out_then : {Q Q' R R' : Type 0} (g : Q → Q') (f : R → R') (n : ℕ) (o : Out (World K) Q) (o' : Out (World S) Q') (k : Q → ℕ → Out (World K) R) (k' : Q' → ℕ → Out (World S) R') → o' ≡ whole_out g o → ((q : Q) (m : ℕ) → k' (g q) m ≡ whole_out f (k q m)) → bind n o' k' ≡ whole_out f (bind n o k)
  out_then g f n o o' k k' e h = ap (λ x. bind n x k') e ∙ out_bind g f n o k k' h

  pub out_turn : {R R' : Type 0} (f : R → R') (n : ℕ) (w : World K) (k : ℕ → Out (World K) R) (k' : ℕ → Out (World S) R') → ((m : ℕ) → k' m ≡ whole_out f (k m)) → turn n (whole_world w) k' ≡ whole_out f (turn n w k)
  out_turn f zero w k k' h = refl
  out_turn f (suc n) w k k' h = ap (after 1) (h n) ∙ sym (out_after f 1 (k n))

module _ {V K S : Type 0} (N : Narrowing K S) where
  abbrev pub whole_conf : Conf V K → Conf V S
  whole_conf c = record { operands = c.operands; locals = c.locals; world = whole_world N c.world }

  abbrev pub whole_res : Res V K → Res V S
  whole_res (Go c) = Go (whole_conf c)
  whole_res (Leave j c) = Leave j (whole_conf c)

  abbrev pub out : Out (World K) (Res V K) → Out (World S) (Res V S)
  out o = whole_out N whole_res o

  -- a part does over whole states what another one does over the parts
  pub record Same (a : Sem V K) (b : Sem V S) : Type 0 where
    pub same : (d n : ℕ) (c : Conf V K) → b d n (whole_conf c) ≡ out (a d n c)

  settles : (w : World K) (r : PlainRes V S) → IsWholeRes N r → settled (whole_world N w) r ≡ whole_res (settled w (part_plain_res N r))
  settles w (Go p) h = ap (λ (s : S). Go (record { operands = p.operands; locals = p.locals; world = record { state = s; deepest = w.deepest } })) (sym h)
  settles w (Leave j p) h = ap (λ (s : S). Leave j (record { operands = p.operands; locals = p.locals; world = record { state = s; deepest = w.deepest } })) (sym h)

  leaf_same : (act : Plain V S → PlainRes V S) → Steady N act → Same (Control.leaf (part_act N act)) (Control.leaf act)
  leaf_same act h = record { same = λ d n c. ap (λ r. Done 0 r) (settles c.world (act (whole_plain N (plain_of c))) (h (plain_of c))) }

  goes_on : (d : ℕ) (a : Sem V K) (b : Sem V S) → Same a b → (r : Res V K) (n : ℕ) → go_on (b d) (whole_res r) n ≡ out (go_on (a d) r n)
  goes_on d a b h (Go c) n = h.same d n c
  goes_on d a b h (Leave j c) n = refl

  run_same : {X : Type 0} (a : X → Sem V K) (b : X → Sem V S) → ((x : X) → Same (a x) (b x)) → (xs : List X) → Same (run (map a xs)) (run (map b xs))
  run_same a b each [] = record { same = λ d n c. refl }
  run_same a b each (x ∷ xs) =
      let rest = run_same a b each xs in
      record { same = λ d n c. out_then N whole_res whole_res n (a x d n c) (b x d n (whole_conf c)) _ _ ((each x).same d n c) (goes_on d (run (map a xs)) (run (map b xs)) rest) }

  block_left : (r : ℕ) (below : List V) (x : Res V K) (m : ℕ) → ◌≡◌ {A = Out (World S) (Res V S)} (Done 0 (leave_block r below (whole_res x))) (out (Done 0 (leave_block r below x)))
  block_left r below (Go c) m = refl
  block_left r below (Leave (Branch zero) c) m = refl
  block_left r below (Leave (Branch (suc k)) c) m = refl
  block_left r below (Leave j c) m = refl

  block_same : (p r : ℕ) (a : Sem V K) (b : Sem V S) → Same a b → Same (Control.block p r a) (Control.block p r b)
  block_same p r a b h = record { same = λ d n c. out_then N whole_res whole_res n _ _ _ _ (h.same d n (entered p c)) (block_left r (drop p c.operands)) }

  pass_left : (p r : ℕ) (below : List V) (again : ℕ → Conf V K → Out (World K) (Res V K)) (other : ℕ → Conf V S → Out (World S) (Res V S)) → ((n : ℕ) (c : Conf V K) → other n (whole_conf c) ≡ out (again n c)) → (x : Res V K) (n : ℕ) → leave_pass other p r below (whole_res x) n ≡ out (leave_pass again p r below x n)
  pass_left p r below again other h (Go c) n = refl
  pass_left p r below again other h (Leave (Branch zero) c) n = h n (entered p c)
  pass_left p r below again other h (Leave (Branch (suc k)) c) n = refl
  pass_left p r below again other h (Leave j c) n = refl

  passes_same : (k p r : ℕ) (below : List V) (a : Sem V K) (b : Sem V S) → Same a b → (d n : ℕ) (c : Conf V K) → passes k p r below b d n (whole_conf c) ≡ out (passes k p r below a d n c)
  passes_same zero p r below a b h d n c = refl
  passes_same (suc k) p r below a b h d n c =
      out_turn N whole_res n c.world _ _ (λ m. out_then N whole_res whole_res m _ _ _ _ (h.same d m c) (pass_left p r below (passes k p r below a d) (passes k p r below b d) (passes_same k p r below a b h d)))

  loop_same : (p r : ℕ) (a : Sem V K) (b : Sem V S) → Same a b → Same (Control.loop p r a) (Control.loop p r b)
  loop_same p r a b h = record { same = λ d n c. passes_same n p r (drop p c.operands) a b h d n (entered p c) }

  either : (chosen : Bool) (a a' : Sem V K) (b b' : Sem V S) → Same a b → Same a' b' → Same (if chosen then a else a') (if chosen then b else b')
  either true a a' b b' h h' = h
  either false a a' b b' h h' = h'

  choose_same : (test : List V → Bool) (p r : ℕ) (a a' : Sem V K) (b b' : Sem V S) → Same a b → Same a' b' → Same (Control.choose test p r a a') (Control.choose test p r b b')
  choose_same test p r a a' b b' h h' = record {
    same = λ d n c. (block_same p r _ _ (either (test c.operands) a a' b b' h h')).same d n (popped c);
  }

  takes : (e : ℕ) (o : Option (Caught V S)) (c : Conf V K) → IsWholeCaught N o → taken e o (whole_conf c) ≡ whole_res (taken e (option_map (part_caught N) o) c)
  takes e None c h = refl
  takes e (Some k) c h = ap (λ (s : S). Leave k.jump (record { operands = k.operands; locals = c.locals; world = record { state = s; deepest = c.world.deepest } })) (sym h)

  guard_left : (h : Handler V S) → ((e : ℕ) (s : K) → IsWholeCaught N (h e (N.whole s))) → (r : ℕ) (below : List V) (x : Res V K) (m : ℕ) → ◌≡◌ {A = Out (World S) (Res V S)} (Done 0 (handled h (leave_block r below (whole_res x)))) (out (Done 0 (handled (part_handler N h) (leave_block r below x))))
  guard_left h steady r below (Go c) m = refl
  guard_left h steady r below (Leave (Branch zero) c) m = refl
  guard_left h steady r below (Leave (Branch (suc k)) c) m = refl
  guard_left h steady r below (Leave (Throw e) c) m = ap (λ x. Done 0 x) (takes e (h e (N.whole c.world.state)) c (steady e c.world.state))
  guard_left h steady r below (Leave j c) m = refl

  guard_same : (p r : ℕ) (h : Handler V S) (a : Sem V K) (b : Sem V S) → ((e : ℕ) (s : K) → IsWholeCaught N (h e (N.whole s))) → Same a b → Same (Control.guard p r (part_handler N h) a) (Control.guard p r h b)
  guard_same p r h a b steady same = record {
    same = λ d n c. out_then N whole_res whole_res n _ _ _ _ (same.same d n (entered p c)) (guard_left h steady r (drop p c.operands));
  }

  call_left : (locals below : List V) (x : Res V K) (m : ℕ) → ◌≡◌ {A = Out (World S) (Res V S)} (Done 0 (returned locals below (whole_res x))) (out (Done 0 (returned locals below x)))
  call_left locals below (Go c) m = refl
  call_left locals below (Leave j c) m = refl

  call_same : (p : ℕ) (a : Sem V K) (b : Sem V S) → Same a b → Same (Control.call p a) (Control.call p b)
  call_same p a b h = record { same = λ d n c. out_then N whole_res whole_res n _ _ _ _ (h.same d n (entered p c)) (call_left c.locals (drop p c.operands)) }

  picked_same : (p : ℕ) (funcs : ℕ → Sem V K) (others : ℕ → Sem V S) → ((f : ℕ) → Same (funcs f) (others f)) → (o : Option ℕ) → Same (call_picked p funcs o) (call_picked p others o)
  picked_same p funcs others h None = record { same = λ d n c. refl }
  picked_same p funcs others h (Some f) = call_same p (funcs f) (others f) (h f)

  call_by_same : (p : ℕ) (pick : Plain V S → Option ℕ) (funcs : ℕ → Sem V K) (others : ℕ → Sem V S) → ((f : ℕ) → Same (funcs f) (others f)) → Same (Control.call_by p (λ q. pick (whole_plain N q)) funcs) (Control.call_by p pick others)
  call_by_same p pick funcs others h = record {
    same = λ d n c. (picked_same p funcs others h (pick (whole_plain N (plain_of c)))).same d n (popped c);
  }

  eval_same : {X : Type 0} (a : X → Sem V K) (b : X → Sem V S) (funcs : ℕ → Sem V K) (others : ℕ → Sem V S) → ((x : X) → Same (a x) (b x)) → ((f : ℕ) → Same (funcs f) (others f)) → (form : Form V S X) → SteadyForm N form → Same (eval funcs (map_form a (part_form N form))) (eval others (map_form b form))
  eval_same a b funcs others each fs (Flat act) h = leaf_same act h
  eval_same a b funcs others each fs (Enclose p r body) h = block_same p r _ _ (run_same a b each body)
  eval_same a b funcs others each fs (Repeat p r body) h = loop_same p r _ _ (run_same a b each body)
  eval_same a b funcs others each fs (Choose test p r first second) h = choose_same test p r _ _ _ _ (run_same a b each first) (run_same a b each second)
  eval_same a b funcs others each fs (Guard p r k body) h = guard_same p r k _ _ h (run_same a b each body)
  eval_same a b funcs others each fs (Invoke p f) h = call_same p (funcs f) (others f) (fs f)
  eval_same a b funcs others each fs (InvokeBy p pick) h = call_by_same p pick funcs others fs

  ready_same : (ready : Bool) (a : Sem V K) (b : Sem V S) → Same a b → (d n : ℕ) (c : Conf V K) → where_ready ready b d n (whole_conf c) ≡ out (where_ready ready a d n c)
  ready_same true a b h d n c = h.same d n c
  ready_same false a b h d n c = refl

  when_ready_same : (ready : Plain V S → Bool) (a : Sem V K) (b : Sem V S) → Same a b → Same (when_ready (λ q. ready (whole_plain N q)) a) (when_ready ready b)
  when_ready_same ready a b h = record { same = λ d n c. ready_same (ready (whole_plain N (plain_of c))) a b h d n c }

  body_left : (d r : ℕ) (funcs : ℕ → Sem V K) (others : ℕ → Sem V S) → ((f : ℕ) → Same (funcs f) (others f)) → (x : Res V K) (n : ℕ) → leave_body (λ g. others g d) r (whole_res x) n ≡ out (leave_body (λ g. funcs g d) r x n)
  body_left d r funcs others fs (Go c) n = refl
  body_left d r funcs others fs (Leave (Branch k) c) n = refl
  body_left d r funcs others fs (Leave Return c) n = refl
  body_left d r funcs others fs (Leave (TailCall g) c) n = (fs g).same d n c
  body_left d r funcs others fs (Leave j c) n = refl

  enter_same : {I : Type 0} (a : Sem V K) (b : Sem V S) (funcs : ℕ → Sem V K) (others : ℕ → Sem V S) → Same a b → ((f : ℕ) → Same (funcs f) (others f)) → (f : Function I V) → Same (enter a funcs f) (enter b others f)
  enter_same a b funcs others h fs f = record {
    same = λ d n c. out_then N whole_res whole_res n _ _ _ _ (h.same (d + 1) n (opened d f c)) (body_left d f.results funcs others fs);
  }

  arrive_same : {I : Type 0} (o : Option (Callee I V S)) → SteadyCallee N o → (own : Function I V → Sem V K) (other : Function I V → Sem V S) → ((f : Function I V) → Same (own f) (other f)) → Same (arrive (option_map (part_callee N) o) own) (arrive o other)
  arrive_same None steady own other h = record { same = λ d n c. refl }
  arrive_same (Some (Own f)) steady own other h = h f
  arrive_same (Some (Host p act)) steady own other h = record {
    same = λ d n c. ap (λ r. Done 0 r) (settles c.world (act (record { operands = take p c.operands; locals = []; state = N.whole c.world.state })) (steady (record { operands = take p c.operands; locals = []; state = c.world.state })));
  }

module _ {I : Type 0} {F : Type 0 → Type 0} {V S : Type 0} (L : Language I F V S) where
  -- an instruction whose bodies are given with anything beside
  layer_of : (P : I → Type 0) (funcs : ℕ → Sem V S) (l : F ((i : I) × P i)) → when_ready (L.ready ((i : I) × P i) l) (eval funcs (map_form (λ x. exec_with L funcs x.0) (L.layer ((i : I) × P i) l))) ≡ exec_with L funcs (L.tree.roll (L.tree.over ((i : I) × P i) I (λ x. x.0) l))
  layer_of P funcs l =
      let inner = (i : I) × P i in
      let f : inner → Sem V S = λ x. exec_with L funcs x.0 in
      ap (λ ready. when_ready ready (eval funcs (map_form f (L.layer inner l)))) (sym (L.ready_over inner (Sem V S) f l))
      ∙ ap (λ form. when_ready (L.ready (Sem V S) (L.tree.over inner (Sem V S) f l)) (eval funcs form)) (sym (L.layer_over inner (Sem V S) f l))
      ∙ ap (exec_layer L funcs) (sym (L.tree.over_twice inner I (Sem V S) (λ x. x.0) (exec_with L funcs) l))
      ∙ sym (L.tree.fold_roll (Sem V S) (exec_layer L funcs) (L.tree.over inner I (λ x. x.0) l))

module _ {I : Type 0} {F : Type 0 → Type 0} {V K S : Type 0} (N : Narrowing K S) (L : Language I F V S) (forms : (X : Type 0) (l : F X) → SteadyForm N (L.layer X l)) (callees : (x : ℕ) → SteadyCallee N (L.callee x)) where
  moved : (a a' : Sem V K) (b b' : Sem V S) → a ≡ a' → b ≡ b' → Same N a b → Same N a' b'
  moved a a' b b' e e' h = subst (λ z. Same N z b') e (subst (λ z. Same N a z) e' h)

  exec_same : (funcs : ℕ → Sem V K) (others : ℕ → Sem V S) → ((f : ℕ) → Same N (funcs f) (others f)) → (i : I) → Same N (exec_with (part_language N L) funcs i) (exec_with L others i)
  exec_same funcs others fs i =
      let M = part_language N L in
      let P : I → Type 0 = λ j. Same N (exec_with M funcs j) (exec_with L others j) in
      L.tree.induct P (λ l. moved _ _ _ _ (layer_of M P funcs l) (layer_of L P others l)
      (when_ready_same N (L.ready ((j : I) × P j) l) _ _
      (eval_same N (λ x. exec_with M funcs x.0) (λ x. exec_with L others x.0) funcs others (λ x. x.1) fs (L.layer ((j : I) × P j) l) (forms ((j : I) × P j) l)))) i

  entry_same : (funcs : ℕ → Sem V K) (others : ℕ → Sem V S) → ((f : ℕ) → Same N (funcs f) (others f)) → (x : ℕ) → Same N (enter_with (part_language N L) funcs x) (enter_with L others x)
  entry_same funcs others fs x =
      arrive_same N (L.callee x) (callees x) _ _ (λ f. record {
        same = λ d n c. out_turn N (whole_res N) n c.world _ _
            (λ m. (enter_same N (code_with (part_language N L) funcs f.body) (code_with L others f.body) funcs others (run_same N _ _ (exec_same funcs others fs) f.body) fs f).same d m c);
      })

  within_same : (k x : ℕ) → Same N (func_within (part_language N L) k x) (func_within L k x)
  within_same zero x = arrive_same N (L.callee x) (callees x) _ _ (λ f. record { same = λ d n c. refl })
  within_same (suc k) x = entry_same (func_within (part_language N L) k) (func_within L k) (within_same k) x

  func_same : (x : ℕ) → Same N (func (part_language N L) x) (func L x)
  unfolding func
  func_same x = record { same = λ d n c. (within_same n x).same d n c }

  -- tasks
  abbrev whole_status : Status (World K) → Status (World S)
  whole_status (Go w) = Go (whole_world N w)
  whole_status (Leave j w) = Leave j (whole_world N w)

  places : (w : World K) (s : Status S) → IsWholeStatus N s → placed (whole_world N w) s ≡ whole_status (placed w (part_status N s))
  places w (Go s) h = ap (λ (t : S). Go (record { state = t; deepest = w.deepest })) (sym h)
  places w (Leave j s) h = ap (λ (t : S). Leave j (record { state = t; deepest = w.deepest })) (sym h)

  shows : (see : PlainRes V S → Status S) → ((r : PlainRes V K) → IsWholeStatus N (see (whole_plain_res N r))) → (r : Res V K) → shown see (whole_res N r) ≡ whole_status (shown (λ q. part_status N (see (whole_plain_res N q))) r)
  shows see steady (Go c) = places c.world (see (whole_plain_res N (Go (plain_of c)))) (steady (Go (plain_of c)))
  shows see steady (Leave j c) = places c.world (see (whole_plain_res N (Leave j (plain_of c)))) (steady (Leave j (plain_of c)))

  task_same : (t : Task V S) → SteadyTask N t → (n : ℕ) (w : World K) → task (func L) t n (whole_world N w) ≡ whole_out N whole_status (task (func (part_language N L)) (part_task N t) n w)
  task_same (Change f) steady n w = ap (λ r. Done 0 r) (places w (f (N.whole w.state)) (steady w.state))
  task_same (Enter x operands see) steady n w =
      out_then N (whole_res N) whole_status n _ _ _ _ ((func_same x).same 0 n (record { operands = operands; locals = []; world = w })) (λ r m. ap (λ s. Done 0 s) (shows see steady r))

  next_same : (a : ℕ → World K → Out (World K) (Status (World K))) (b : ℕ → World S → Out (World S) (Status (World S))) → ((n : ℕ) (w : World K) → b n (whole_world N w) ≡ whole_out N whole_status (a n w)) → (r : Status (World K)) (m : ℕ) → go_on b (whole_status r) m ≡ whole_out N whole_status (go_on a r m)
  next_same a b h (Go w) m = h m w
  next_same a b h (Leave j w) m = refl

  tasks_same : (ts : List (Task V S)) → AllByRecursion (SteadyTask N) ts → (n : ℕ) (w : World K) → tasks (func L) ts n (whole_world N w) ≡ whole_out N whole_status (tasks (func (part_language N L)) (map (part_task N) ts) n w)
  tasks_same [] steady n w = refl
  tasks_same (t ∷ ts) steady n w =
      out_then N whole_status whole_status n _ _ _ _ (task_same t steady.0 n w) (next_same _ _ (tasks_same ts steady.1))

  place_same : (o : Out (World K) (Status (World K))) → place_of stands (whole_out N whole_status o) ≡ whole_world N (place_of stands o)
  place_same (Done u (Go w)) = refl
  place_same (Done u (Leave j w)) = refl
  place_same (Halt w) = refl

  -- the world after tasks is that after them over the parts
  pub world_same : (ts : List (Task V S)) → AllByRecursion (SteadyTask N) ts → (s : K) (n : ℕ) → world_after (func L) ts (N.whole s) n ≡ whole_world N (world_after (func (part_language N L)) (map (part_task N) ts) s n)
  world_same ts steady s n =
      ap (place_of stands) (tasks_same ts steady n (record { state = s; deepest = 0 }))
      ∙ place_same (tasks (func (part_language N L)) (map (part_task N) ts) n (record { state = s; deepest = 0 }))
