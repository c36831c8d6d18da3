-- A law that is closed holds of all code and of all functions of a language, if it holds of its plain instructions,
-- handlers and host functions. And functions in terms of themselves: a call is the entry of a function whose calls are
-- calls again.
use Rattle.std.proofs.Common.{◌≡◌, ℕ, suc, ◌+◌, List, [], take, Bool, Option, Some, None, sym, ap, ◌∙◌, subst}
use Rattle.evaluation_kit.specs.declared.jump.Jump.TheVariants.{Branch, Return, TailCall, Trap}
use Rattle.outcome_kit.specs.Outcome.{Done}
use Rattle.outcome_kit.specs.Code.{Go, Leave}
use Rattle.evaluation_kit.specs.Configurations.{Plain, PlainRes, Res, Sem, in_world, settled}
use Rattle.evaluation_kit.specs.Control.{Function, Callee, Own, Host, opened, ended, leave_body, enter, arrive, when_ready}
use Rattle.evaluation_kit.specs.Forms.{Form, Flat, Enclose, Repeat, Choose, Guard, Invoke, InvokeBy, map_form, eval}
use Rattle.evaluation_kit.specs.Languages.{Language, exec_layer, exec_with, code_with, enter_with}
use Rattle.evaluation_kit.proofs.Closure.{Closed, branch_ends, return_ends, tail_begins, traps, res_place, res_put, res_jump}
use Rattle.evaluation_kit.proofs.Parts.{Both, Related, OwesLeaf, OwesHandler, OwesPick, run_related, leaf_related, block_related, loop_related, choose_related, guard_related, call_related, call_by_related, when_ready_related}

module _ {V S : Type 0} (C : Closed S) where
  pub record OwesHost (act : Plain V S → PlainRes V S) : Type 0 where
    pub host : (N : ℕ) (operands : List V) → Both C N None (λ w n. Done 0 (settled w (act (record { operands = operands; locals = []; state = w.state })))) (λ w n. Done 0 (settled w (act (record { operands = operands; locals = []; state = w.state }))))

  -- what a law asks of a form, and of what an index names
  abbrev pub OwesForm : {X : Type 0} → Form V S X → Type 0
  OwesForm (Flat act) = OwesLeaf C act
  OwesForm (Guard p r h body) = OwesHandler C h
  OwesForm (InvokeBy p pick) = OwesPick C (Option ℕ) pick
  OwesForm _ = Unit {0}

  abbrev pub OwesCallee : {I : Type 0} → Option (Callee I V S) → Type 0
  OwesCallee (Some (Host p act)) = OwesHost act
  OwesCallee _ = Unit {0}

  eval_related : (N : ℕ) (X : Type 0) (a b : X → Sem V S) (funcs others : ℕ → Sem V S) → ((x : X) → Related C N (a x) (b x)) → ((f : ℕ) → Related C N (funcs f) (others f)) → (form : Form V S X) → OwesForm form → Related C N (eval funcs (map_form a form)) (eval others (map_form b form))
  eval_related N X a b funcs others each fs (Flat act) owes = leaf_related C N act owes
  eval_related N X a b funcs others each fs (Enclose p r body) owes = block_related C N p r _ _ (run_related C N X a b each body)
  eval_related N X a b funcs others each fs (Repeat p r body) owes = loop_related C N p r _ _ (run_related C N X a b each body)
  eval_related N X a b funcs others each fs (Choose test p r first second) owes =
      choose_related C N test p r _ _ _ _ (run_related C N X a b each first) (run_related C N X a b each second)
  eval_related N X a b funcs others each fs (Guard p r h body) owes = guard_related C N p r h _ _ owes (run_related C N X a b each body)
  eval_related N X a b funcs others each fs (Invoke p f) owes = call_related C N p (funcs f) (others f) (fs f)
  eval_related N X a b funcs others each fs (InvokeBy p pick) owes = call_by_related C N p pick funcs others owes fs

  moved : (N : ℕ) (a b a' b' : Sem V S) → a ≡ a' → b ≡ b' → Related C N a b → Related C N a' b'
  moved N a b a' b' e e' h = subst (λ z. Related C N z b') e (subst (λ z. Related C N a z) e' h)

  body_left : (N d r : ℕ) (funcs others : ℕ → Sem V S) → ((f : ℕ) → Related C N (funcs f) (others f)) → (x : Res V S) → Both C N (res_jump x) (λ w n. leave_body (λ g. funcs g d) r (res_put w x) n) (λ w n. leave_body (λ g. others g d) r (res_put w x) n)
  body_left N d r funcs others fs (Go c) = C.done (Res V S) res_place N (ended r c)
  body_left N d r funcs others fs (Leave (Branch k) c) = C.lighter (Res V S) res_place N _ _ _ _ (branch_ends k) (C.done (Res V S) res_place N (ended r c))
  body_left N d r funcs others fs (Leave Return c) = C.lighter (Res V S) res_place N _ _ _ _ return_ends (C.done (Res V S) res_place N (ended r c))
  body_left N d r funcs others fs (Leave (TailCall g) c) = C.lighter (Res V S) res_place N _ _ _ _ (tail_begins g) ((fs g).from d c)
  body_left N d r funcs others fs (Leave j c) = C.done (Res V S) res_place N (Leave j c)

  enter_related : {I : Type 0} (N : ℕ) (a b : Sem V S) (funcs others : ℕ → Sem V S) → Related C N a b → ((f : ℕ) → Related C N (funcs f) (others f)) → (f : Function I V) → Related C N (enter a funcs f) (enter b others f)
  enter_related N a b funcs others h fs f = record {
    from = λ d c. C.bind (Res V S) (Res V S) res_place res_place N None _ _ _ _
        (C.deeper (Res V S) res_place N (λ w n. a (d + 1) n (in_world w (opened d f c))) (λ w n. b (d + 1) n (in_world w (opened d f c))) d (h.from (d + 1) (opened d f c)))
        (body_left N d f.results funcs others fs);
  }

  arrive_related : {I : Type 0} (N : ℕ) (o : Option (Callee I V S)) → OwesCallee o → (own other : Function I V → Sem V S) → ((f : Function I V) → Related C N (own f) (other f)) → Related C N (arrive o own) (arrive o other)
  arrive_related N None owes own other h = record {
    from = λ d c. C.lighter (Res V S) res_place N None (Some Trap) _ _ traps (C.done (Res V S) res_place N (Leave Trap c));
  }
  arrive_related N (Some (Own f)) owes own other h = h f
  arrive_related N (Some (Host p act)) owes own other h = record { from = λ d c. owes.host N (take p c.operands) }

module _ {I : Type 0} {F : Type 0 → Type 0} {V S : Type 0} (L : Language I F V S) where
  -- an instruction whose bodies are given with anything beside
  layer_of : (P : I → Type 0) (funcs : ℕ → Sem V S) (l : F ((i : I) × P i)) → when_ready (L.ready ((i : I) × P i) l) (eval funcs (map_form (λ x. exec_with L funcs x.0) (L.layer ((i : I) × P i) l))) ≡ exec_with L funcs (L.tree.roll (L.tree.over ((i : I) × P i) I (λ x. x.0) l))
  layer_of P funcs l =
      let inner = (i : I) × P i in
      let f : inner → Sem V S = λ x. exec_with L funcs x.0 in
      ap (λ ready. when_ready ready (eval funcs (map_form f (L.layer inner l)))) (sym (L.ready_over inner (Sem V S) f l))
      ∙ ap (λ form. when_ready (L.ready (Sem V S) (L.tree.over inner (Sem V S) f l)) (eval funcs form)) (sym (L.layer_over inner (Sem V S) f l))
      ∙ ap (exec_layer L funcs) (sym (L.tree.over_twice inner I (Sem V S) (λ x. x.0) (exec_with L funcs) l))
      ∙ sym (L.tree.fold_roll (Sem V S) (exec_layer L funcs) (L.tree.over inner I (λ x. x.0) l))

  module _ (C : Closed S) where
    -- what a law asks of a language
    pub record Owes : Type 1 where
      pub forms : (X : Type 0) (l : F X) → OwesForm C (L.layer X l)
      pub ready : (X : Type 0) (l : F X) → OwesPick C Bool (L.ready X l)
      pub callees : (x : ℕ) → OwesCallee C (L.callee x)

    pub exec_related : (N : ℕ) (funcs others : ℕ → Sem V S) → Owes → ((f : ℕ) → Related C N (funcs f) (others f)) → (i : I) → Related C N (exec_with L funcs i) (exec_with L others i)
    exec_related N funcs others owes fs i =
        let P : I → Type 0 = λ i'. Related C N (exec_with L funcs i') (exec_with L others i') in
        L.tree.induct P (λ l. moved C N _ _ _ _ (layer_of P funcs l) (layer_of P others l)
        (when_ready_related C N (L.ready ((i' : I) × P i') l) _ _ (owes.ready ((i' : I) × P i') l)
        (eval_related C N ((i' : I) × P i') (λ x. exec_with L funcs x.0) (λ x. exec_with L others x.0) funcs others (λ x. x.1) fs (L.layer ((i' : I) × P i') l) (owes.forms ((i' : I) × P i') l)))) i

    pub code_related : (N : ℕ) (funcs others : ℕ → Sem V S) → Owes → ((f : ℕ) → Related C N (funcs f) (others f)) → (code : List I) → Related C N (code_with L funcs code) (code_with L others code)
    code_related N funcs others owes fs code = run_related C N I (exec_with L funcs) (exec_with L others) (exec_related N funcs others owes fs) code

    pub entry_at_once : (funcs others : ℕ → Sem V S) → Owes → (x : ℕ) → Related C 0 (enter_with L funcs x) (enter_with L others x)
    entry_at_once funcs others owes x = arrive_related C 0 (L.callee x) (owes.callees x) _ _ (λ f. record {
      from = λ d c. C.start (Res V S) res_place
          (λ w m. enter (code_with L funcs f.body) funcs f d m (in_world w c)) (λ w m. enter (code_with L others f.body) others f d m (in_world w c));
    })

    pub entry_related : (N : ℕ) (funcs others : ℕ → Sem V S) → Owes → ((f : ℕ) → Related C N (funcs f) (others f)) → (x : ℕ) → Related C (suc N) (enter_with L funcs x) (enter_with L others x)
    entry_related N funcs others owes fs x = arrive_related C (suc N) (L.callee x) (owes.callees x) _ _ (λ f. record {
      from = λ d c. C.turn (Res V S) res_place N
          (λ w m. enter (code_with L funcs f.body) funcs f d m (in_world w c)) (λ w m. enter (code_with L others f.body) others f d m (in_world w c))
          ((enter_related C N (code_with L funcs f.body) (code_with L others f.body) funcs others (code_related N funcs others owes fs f.body) fs f).from d c);
    })
