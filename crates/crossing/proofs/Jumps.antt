-- A language whose instructions are always ready, and none of which throws, calls in tail position, lacks its operands or
-- finds a store full: no function of it is left so.
use Rattle.std.proofs.Common.{◌≡◌, ℕ, zero, suc, ◌+◌, ◌-◌, Bool, true, false, List, [], ◌∷◌, map, drop, take, Option, Some, None, sym, ap, ◌∙◌, subst, if◌then◌else◌}
use Rattle.std.specs.List.{AllByRecursion}
use Rattle.evaluation_kit.specs.declared.jump.Jump.{Jump}
use Rattle.evaluation_kit.specs.declared.jump.Jump.TheVariants.{Branch, Return, Trap, NoReply}
use Rattle.outcome_kit.specs.Outcome.{Out, Done, Halt, after, bind, turn}
use Rattle.outcome_kit.specs.Code as code
use Rattle.outcome_kit.specs.Code.{Go, Leave, go_on, run}
use Rattle.evaluation_kit.specs.Configurations.{World, Conf, Plain, PlainRes, Res, Sem, plain_of, settled}
use Rattle.evaluation_kit.specs.Control.{Function, Callee, Own, Host, entered, popped, leave_block, block, leave_pass, passes, choose, returned, call, call_picked, where_ready, opened, leave_body, enter, arrive}
use Rattle.evaluation_kit.specs.Forms.{Form, Flat, Enclose, Repeat, Choose, Guard, Invoke, InvokeBy, map_form, eval}
use Rattle.evaluation_kit.specs.Languages.{Language, exec_layer, exec_with, code_with, func_within, func}
use Rattle.evaluation_kit.specs.Tasks.{plain_result}

-- the jumps by which code of 1.0 is left
abbrev pub Ordinary : Jump → Type 0
Ordinary (Branch k) = Unit {0}
Ordinary Return = Unit {0}
Ordinary Trap = Unit {0}
Ordinary (NoReply x) = Unit {0}
Ordinary _ = ⊥

abbrev pub EndsSo : {C : Type 0} → code.Res Jump C → Type 0
EndsSo (Go c) = Unit {0}
EndsSo (Leave j c) = Ordinary j

abbrev pub ComesSo : {H C : Type 0} → Out H (code.Res Jump C) → Type 0
ComesSo (Done u r) = EndsSo r
ComesSo (Halt h) = Unit {0}

pub record Does {V S : Type 0} (a : Sem V S) : Type 0 where
  pub by : (d n : ℕ) (c : Conf V S) → ComesSo (a d n c)

pub record Acts {V S : Type 0} (act : Plain V S → PlainRes V S) : Type 0 where
  pub by : (q : Plain V S) → EndsSo (act q)

after_so : {H C : Type 0} (u : ℕ) (o : Out H (code.Res Jump C)) → ComesSo o → ComesSo (after u o)
after_so u (Done v r) h = h
after_so u (Halt w) h = tt

bind_so : {H C D : Type 0} (n : ℕ) (o : Out H (code.Res Jump C)) (k : code.Res Jump C → ℕ → Out H (code.Res Jump D)) → ComesSo o → ((r : code.Res Jump C) (m : ℕ) → EndsSo r → ComesSo (k r m)) → ComesSo (bind n o k)
bind_so n (Done u r) k h next = after_so u (k r (n - u)) (next r (n - u) h)
bind_so n (Halt w) k h next = tt

turn_so : {H C : Type 0} (n : ℕ) (w : H) (body : ℕ → Out H (code.Res Jump C)) → ((m : ℕ) → ComesSo (body m)) → ComesSo (turn n w body)
turn_so zero w body h = tt
turn_so (suc n) w body h = after_so 1 (body n) (h n)

module _ {V S : Type 0} where
  settled_so : (w : World S) (r : PlainRes V S) → EndsSo r → EndsSo (settled w r)
  settled_so w (Go p) h = tt
  settled_so w (Leave j p) h = h

  pub plain_so : (r : Res V S) → EndsSo r → EndsSo (plain_result r)
  plain_so (Go c) h = tt
  plain_so (Leave j c) h = h

  goes_on : (a : Sem V S) → Does a → (d : ℕ) (r : Res V S) (m : ℕ) → EndsSo r → ComesSo (go_on (a d) r m)
  goes_on a h d (Go c) m e = h.by d m c
  goes_on a h d (Leave j c) m e = e

  run_so : (parts : List (Sem V S)) → AllByRecursion Does parts → Does (run parts)
  run_so [] h = record { by = λ d n c. tt }
  run_so (a ∷ more) h = record { by = λ d n c. bind_so n (a d n c) (go_on (run more d)) (h.0.by d n c) (λ r m e. goes_on (run more) (run_so more h.1) d r m e) }

  block_ends : (r : ℕ) (below : List V) (x : Res V S) → EndsSo x → EndsSo (leave_block r below x)
  block_ends r below (Go c) h = tt
  block_ends r below (Leave (Branch zero) c) h = tt
  block_ends r below (Leave (Branch (suc k)) c) h = tt
  block_ends r below (Leave Return c) h = tt
  block_ends r below (Leave Trap c) h = tt
  block_ends r below (Leave (NoReply x) c) h = tt
  block_ends r below (Leave j c) h = absurd h

  block_so : (p r : ℕ) (a : Sem V S) → Does a → Does (block p r a)
  block_so p r a h = record { by = λ d n c. bind_so n (a d n (entered p c)) (λ x m. Done 0 (leave_block r (drop p c.operands) x)) (h.by d n (entered p c)) (λ x m e. block_ends r (drop p c.operands) x e) }

  pass_ends : (again : ℕ → Conf V S → Out (World S) (Res V S)) → ((n : ℕ) (c : Conf V S) → ComesSo (again n c)) → (p r : ℕ) (below : List V) (x : Res V S) (n : ℕ) → EndsSo x → ComesSo (leave_pass again p r below x n)
  pass_ends again h p r below (Go c) n e = tt
  pass_ends again h p r below (Leave (Branch zero) c) n e = h n (entered p c)
  pass_ends again h p r below (Leave (Branch (suc k)) c) n e = tt
  pass_ends again h p r below (Leave Return c) n e = tt
  pass_ends again h p r below (Leave Trap c) n e = tt
  pass_ends again h p r below (Leave (NoReply x) c) n e = tt
  pass_ends again h p r below (Leave j c) n e = absurd e

  passes_so : (k p r : ℕ) (below : List V) (a : Sem V S) → Does a → (d n : ℕ) (c : Conf V S) → ComesSo (passes k p r below a d n c)
  passes_so zero p r below a h d n c = tt
  passes_so (suc k) p r below a h d n c =
      turn_so n c.world (λ m. bind m (a d m c) (leave_pass (passes k p r below a d) p r below))
      (λ m. bind_so m (a d m c) (leave_pass (passes k p r below a d) p r below) (h.by d m c) (λ x i e. pass_ends (passes k p r below a d) (λ i' c'. passes_so k p r below a h d i' c') p r below x i e))

  chosen_so : (b : Bool) (a e : Sem V S) → Does a → Does e → Does (if b then a else e)
  chosen_so true a e h g = h
  chosen_so false a e h g = g

  choose_so : (test : List V → Bool) (p r : ℕ) (a e : Sem V S) → Does a → Does e → Does (choose test p r a e)
  choose_so test p r a e h g = record { by = λ d n c. (block_so p r (if test c.operands then a else e) (chosen_so (test c.operands) a e h g)).by d n (popped c) }

  returned_so : (locals below : List V) (x : Res V S) → EndsSo x → EndsSo (returned locals below x)
  returned_so locals below (Go c) h = tt
  returned_so locals below (Leave j c) h = h

  call_so : (p : ℕ) (f : Sem V S) → Does f → Does (call p f)
  call_so p f h = record { by = λ d n c. bind_so n (f d n (entered p c)) (λ x m. Done 0 (returned c.locals (drop p c.operands) x)) (h.by d n (entered p c)) (λ x m e. returned_so c.locals (drop p c.operands) x e) }

  picked_so : (p : ℕ) (funcs : ℕ → Sem V S) → ((x : ℕ) → Does (funcs x)) → (o : Option ℕ) → Does (call_picked p funcs o)
  picked_so p funcs h None = record { by = λ d n c. tt }
  picked_so p funcs h (Some f) = record { by = λ d n c. (call_so p (funcs f) (h f)).by d n c }

  -- what instructions and functions of the host owe
  abbrev pub FormSo : {X : Type 0} → Form V S X → Type 0
  FormSo (Flat act) = Acts act
  FormSo (Guard p r t body) = ⊥
  FormSo _ = Unit {0}

  abbrev pub CalleeSo : {I : Type 0} → Option (Callee I V S) → Type 0
  CalleeSo (Some (Host p act)) = Acts act
  CalleeSo _ = Unit {0}

  bodies_so : {X : Type 0} (sem : X → Sem V S) → ((y : X) → Does (sem y)) → (parts : List X) → AllByRecursion Does (map sem parts)
  bodies_so sem h [] = tt
  bodies_so sem h (y ∷ parts) = (h y, bodies_so sem h parts)

  eval_so : {X : Type 0} (sem : X → Sem V S) → ((y : X) → Does (sem y)) → (funcs : ℕ → Sem V S) → ((x : ℕ) → Does (funcs x)) → (form : Form V S X) → FormSo form → Does (eval funcs (map_form sem form))
  eval_so sem h funcs g (Flat act) k = record { by = λ d n c. settled_so c.world (act (plain_of c)) (k.by (plain_of c)) }
  eval_so sem h funcs g (Enclose p r body) k = block_so p r (run (map sem body)) (run_so (map sem body) (bodies_so sem h body))
  eval_so sem h funcs g (Repeat p r body) k = record { by = λ d n c. passes_so n p r (drop p c.operands) (run (map sem body)) (run_so (map sem body) (bodies_so sem h body)) d n (entered p c) }
  eval_so sem h funcs g (Choose test p r first second) k = choose_so test p r (run (map sem first)) (run (map sem second)) (run_so (map sem first) (bodies_so sem h first)) (run_so (map sem second) (bodies_so sem h second))
  eval_so sem h funcs g (Guard p r t body) k = absurd k
  eval_so sem h funcs g (Invoke p x) k = call_so p (funcs x) (g x)
  eval_so sem h funcs g (InvokeBy p pick) k = record { by = λ d n c. (picked_so p funcs g (pick (plain_of c))).by d n (popped c) }

  arrive_so : {I : Type 0} (o : Option (Callee I V S)) (own : Function I V → Sem V S) → CalleeSo o → ((f : Function I V) → Does (own f)) → Does (arrive o own)
  arrive_so None own k h = record { by = λ d n c. tt }
  arrive_so (Some (Own f)) own k h = record { by = λ d n c. (h f).by d n c }
  arrive_so (Some (Host p act)) own k h = record { by = λ d n c. settled_so c.world (act (record { operands = take p c.operands; locals = []; state = c.world.state })) (k.by (record { operands = take p c.operands; locals = []; state = c.world.state })) }

  body_ends : (tail : ℕ → ℕ → Conf V S → Out (World S) (Res V S)) (r : ℕ) (x : Res V S) (n : ℕ) → EndsSo x → ComesSo (leave_body tail r x n)
  body_ends tail r (Go c) n h = tt
  body_ends tail r (Leave (Branch k) c) n h = tt
  body_ends tail r (Leave Return c) n h = tt
  body_ends tail r (Leave Trap c) n h = tt
  body_ends tail r (Leave (NoReply x) c) n h = tt
  body_ends tail r (Leave j c) n h = absurd h

module _ {I : Type 0} {F : Type 0 → Type 0} {V S : Type 0} (L : Language I F V S) (ready : (X : Type 0) (l : F X) (q : Plain V S) → L.ready X l q ≡ true) (forms : (X : Type 0) (l : F X) → FormSo (L.layer X l)) (hosts : (x : ℕ) → CalleeSo (L.callee x)) where
  module _ (funcs : ℕ → Sem V S) (g : (x : ℕ) → Does (funcs x)) where
    ready_so : (b : Bool) (a : Sem V S) → b ≡ true → Does a → Does (where_ready b a)
    ready_so true a e h = record { by = λ d n c. h.by d n c }
    ready_so false a e h = absurd cc

    layer_so : (X : Type 0) (sem : X → Sem V S) → ((y : X) → Does (sem y)) → (l : F X) → Does (exec_layer L funcs (L.tree.over X (Sem V S) sem l))
    layer_so X sem h l = record {
      by = λ d n c.
          (ready_so (L.ready (Sem V S) (L.tree.over X (Sem V S) sem l) (plain_of c)) (eval funcs (L.layer (Sem V S) (L.tree.over X (Sem V S) sem l))) (ready (Sem V S) (L.tree.over X (Sem V S) sem l) (plain_of c))
          (subst (λ form. Does (eval funcs form)) (sym (L.layer_over X (Sem V S) sem l)) (eval_so sem h funcs g (L.layer X l) (forms X l)))).by d n c;
    }

    instr_so : (i : I) → Does (exec_with L funcs i)
    instr_so =
        L.tree.induct (λ i. Does (exec_with L funcs i)) (λ l.
        let Y = (i : I) × Does (exec_with L funcs i) in
        subst Does (sym (L.tree.fold_roll (Sem V S) (exec_layer L funcs) (L.tree.over Y I (λ y. y.0) l) ∙ ap (exec_layer L funcs) (L.tree.over_twice Y I (Sem V S) (λ y. y.0) (exec_with L funcs) l)))
        (layer_so Y (λ y. exec_with L funcs y.0) (λ y. y.1) l))

    entry_so : (f : Function I V) (d n : ℕ) (c : Conf V S) → ComesSo (enter (code_with L funcs f.body) funcs f d n c)
    entry_so f d n c =
        bind_so n (code_with L funcs f.body (d + 1) n (opened d f c)) (leave_body (λ x. funcs x d) f.results)
        ((run_so (map (exec_with L funcs) f.body) (bodies_so (exec_with L funcs) instr_so f.body)).by (d + 1) n (opened d f c))
        (λ r m e. body_ends (λ x. funcs x d) f.results r m e)

  within_so : (k x : ℕ) → Does (func_within L k x)
  within_so zero x = arrive_so (L.callee x) (λ f d n c. Halt c.world) (hosts x) (λ f. record { by = λ d n c. tt })
  within_so (suc k) x =
      arrive_so (L.callee x) (λ f d n c. turn n c.world (λ m. enter (code_with L (func_within L k) f.body) (func_within L k) f d m c)) (hosts x)
      (λ f. record { by = λ d n c. turn_so n c.world (λ m. enter (code_with L (func_within L k) f.body) (func_within L k) f d m c) (λ m. entry_so (func_within L k) (within_so k) f d m c) })

  -- no function is left by another jump
  pub func_so : (x : ℕ) → Does (func L x)
  unfolding func
  func_so x = record { by = λ d n c. (within_so n x).by d n c }
