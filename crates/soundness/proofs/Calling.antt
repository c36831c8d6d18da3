-- Calls, and instructions that ask for the types of their operands, over typed operands.
use Rattle.std.proofs.Common.{arith, refl, ◌≡◌, ℕ, ◌≤◌, true, List, ◌∷◌, ◌++◌, take, drop, length, reverse, Option, Some, None, sym, subst, le_refl, Bool}
use Rattle.std.proofs.lemmas.List.{length-reverse}
use Rattle.wasm_ast.specs.declared.module.ty.Ty.{Ty}
use Rattle.wasm_ast.specs.declared.module.ty.FuncType.{FuncType}
use Rattle.wasm_ast.specs.declared.module.parts.Module.{Module}
use Rattle.typed_trees.specs.Contexts.{Context, func_type}
use Rattle.typed_trees.specs.Modules.{context}
use Rattle.outcome_kit.specs.Outcome.{Done}
use Rattle.outcome_kit.specs.Code.{Go, Leave}
use Rattle.evaluation_kit.specs.declared.jump.Jump.{Jump}
use Rattle.evaluation_kit.specs.declared.jump.Jump.TheVariants.{Branch, Return, Throw, TailCall, Trap, NoReply, Full, Stuck}
use Rattle.evaluation_kit.specs.Configurations.{Conf, Plain, Res, Sem, plain_of, PlainRes}
use Rattle.evaluation_kit.specs.Control
use Rattle.evaluation_kit.specs.Control.{entered, popped, returned, call_picked, where_ready, when_ready}
use Rattle.evaluation_kit.specs.Tasks.{plain_result}
use Rattle.meaning_new.specs.declared.val.Val.{Val}
use Rattle.meaning_new.specs.Store.{State}
use Rattle.soundness.specs.States.{made, Has, HaveTypes, PlainTyped, JumpTyped, EscapeTyped, CallResultTyped, ResultTyped}
use Rattle.wasm_ast.specs.declared.module.code.Instr.{Instr}
use Rattle.evaluation_kit.specs.Forms.{Form, Flat, Enclose, Repeat, Choose, Guard, Invoke, InvokeBy, eval}
use Rattle.node_meaning.specs.Nodes.{with_code}
use Rattle.soundness.specs.Strict.{top_typed, left_typed, gives_typed}
use Rattle.soundness.proofs.Lists.{IfAny, pair_append, pair_take, pair_drop, pair_front}
use Rattle.soundness.proofs.Values.{have_more, have_decided}
use Rattle.soundness.specs.Laws.{Safe}
use Rattle.soundness.proofs.Judging.{plain_settled, safe_done, safe_bind, Ended, CodeSafe, FuncsSafe}
use Rattle.soundness.proofs.Blocks.{pops}

module _ (m : Module) (c : Context) (ls : List (List Ty)) where
  -- what escapes a call is no jump of the caller
  escape_jump : (j : Jump) (k : ℕ) (vs : List Val) → EscapeTyped m j k → JumpTyped m c ls j k vs
  escape_jump (Branch i) k vs h = absurd h
  escape_jump Return k vs h = absurd h
  escape_jump (TailCall f) k vs h = absurd h
  escape_jump Stuck k vs h = absurd h
  escape_jump (Throw e) k vs h = h
  escape_jump Trap k vs h = tt
  escape_jump (NoReply x) k vs h = tt
  escape_jump Full k vs h = tt

  returned_left : (results rest : List Ty) (k : ℕ) (locals below : List Val) → HaveTypes m k locals c.locals → HaveTypes m k below rest → (r : Res Val State) → CallResultTyped m results k (plain_result r) → Ended m c ls (Some (reverse results ++ rest)) k (returned locals below r)
  returned_left results rest k locals below held aside (Go x) h =
      let later = h.1.extends in
      let j = made x.world.state in (
        record {
          operands_typed = pair_append (Has m j) x.operands (reverse results) below rest h.0 (have_more m k j later below rest aside);
          locals = have_more m k j later locals c.locals held;
          state = h.1.state;
        },
        later,
      )
  returned_left results rest k locals below held aside (Leave i x) h =
      let j = made x.world.state in
      record { jump = escape_jump i j x.operands h.0; locals = have_more m k j h.1.extends locals c.locals held; state = h.1.state; extends = h.1.extends }

  module _ (N : ℕ) (funcs others : ℕ → Sem Val State) (safe : FuncsSafe m N funcs others) where
    call_at : (f : ℕ) (t : FuncType) → func_type (context m) f ≡ Some t → (rest : List Ty) (d n : ℕ) (x : Conf Val State) → n ≤ N → PlainTyped m c (reverse t.params ++ rest) (plain_of x) → Safe m (Ended m c ls (Some (reverse t.results ++ rest)) (made x.world.state)) (Control.call (length (reverse t.params)) (funcs f) d n x) (Control.call (length (reverse t.params)) (others f) d n x)
    call_at f t e rest d n x le h =
        let k = made x.world.state in
        let p = length (reverse t.params) in
        let below = drop p x.operands in
        safe_bind m (λ r. CallResultTyped m t.results k (plain_result r)) (Ended m c ls (Some (reverse t.results ++ rest)) k) n (funcs f d n (entered p x)) (others f d n (entered p x))
        (λ r j. Done 0 (returned x.locals below r)) (λ r j. Done 0 (returned x.locals below r))
        (safe.by f t e d n (entered p x) le (pair_front (Has m k) x.operands (reverse t.params) (pair_take (Has m k) x.operands (reverse t.params) rest h.operands_typed)) h.state)
        (λ r j less q. safe_done m (Ended m c ls (Some (reverse t.results ++ rest)) k) (returned x.locals below r) (returned_left t.results rest k x.locals below h.locals (pair_drop (Has m k) x.operands (reverse t.params) rest h.operands_typed) r q))

    pub call_safe : (f : ℕ) (t : FuncType) → func_type (context m) f ≡ Some t → (rest : List Ty) → CodeSafe m N c ls (reverse t.params ++ rest) (Some (reverse t.results ++ rest)) (Control.call (length t.params) (funcs f)) (Control.call (length t.params) (others f))
    call_safe f t e rest =
        subst (λ p. CodeSafe m N c ls (reverse t.params ++ rest) (Some (reverse t.results ++ rest)) (Control.call p (funcs f)) (Control.call p (others f))) (length-reverse t.params) (record { by = call_at f t e rest })

    -- a pick gives functions of a type alone
    pub record PickSafe (stack : List Ty) (t : FuncType) (pick : Plain Val State → Option ℕ) : Type 0 where
      pub by : (p : Plain Val State) → PlainTyped m c stack p → IfAny (λ f. func_type (context m) f ≡ Some t) (pick p)

    pub call_by_safe : (condition : Ty) (t : FuncType) (rest : List Ty) (pick : Plain Val State → Option ℕ) → PickSafe (condition ∷ (reverse t.params ++ rest)) t pick → CodeSafe m N c ls (condition ∷ (reverse t.params ++ rest)) (Some (reverse t.results ++ rest)) (Control.call_by (length t.params) pick funcs) (Control.call_by (length t.params) pick others)
    call_by_safe condition t rest pick picks = record {
      by = λ d n x le h. picked d n (popped x) le (pops m c ls N condition (reverse t.params ++ rest) x h) (pick (plain_of x)) (picks.by (plain_of x) h);
    }
      where
        picked : (d n : ℕ) (x : Conf Val State) → n ≤ N → PlainTyped m c (reverse t.params ++ rest) (plain_of x) → (o : Option ℕ) → IfAny (λ f. func_type (context m) f ≡ Some t) o → Safe m (Ended m c ls (Some (reverse t.results ++ rest)) (made x.world.state)) (call_picked (length t.params) funcs o d n x) (call_picked (length t.params) others o d n x)
        picked d n x le h None e = safe_done m (Ended m c ls (Some (reverse t.results ++ rest)) (made x.world.state)) (Leave Trap x) (record { jump = tt; locals = h.locals; state = h.state; extends = le_refl (made x.world.state) })
        picked d n x le h (Some f) e = (call_safe f t e rest).by d n x le h

  -- operands of these types lie on the top
  pub top_decided : (ts rest : List Ty) (p : Plain Val State) → PlainTyped m c (reverse ts ++ rest) p → top_typed m ts p ≡ true
  top_decided ts rest p t =
      have_decided m (made p.state) (take (length ts) p.operands) (reverse ts)
      (subst (λ i. HaveTypes m (made p.state) (take i p.operands) (reverse ts)) (length-reverse ts) (pair_take (Has m (made p.state)) p.operands (reverse ts) rest t.operands_typed))

  left_decided : (gives rest : List Ty) (k : ℕ) (r : PlainRes Val State) → ResultTyped m c ls (Some (reverse gives ++ rest)) k r → left_typed m gives r ≡ true
  left_decided gives rest k (Go p) h = top_decided gives rest p h.0
  left_decided gives rest k (Leave j p) h = refl

  -- what an instruction leaves has its types
  pub gives_decided : (N : ℕ) (gives rest stack : List Ty) (form : Form Val State Instr) (funcs others : ℕ → Sem Val State) (a a' b b' : List (Sem Val State)) → CodeSafe m N c ls stack (Some (reverse gives ++ rest)) (eval funcs (with_code form a a')) (eval others (with_code form b b')) → (x : Conf Val State) → PlainTyped m c stack (plain_of x) → gives_typed m gives form (plain_of x) ≡ true
  gives_decided N gives rest stack (Flat act) funcs others a a' b b' h x t =
      let none : 0 ≤ N = omega arith in
      left_decided gives rest (made x.world.state) (act (plain_of x)) (subst (ResultTyped m c ls (Some (reverse gives ++ rest)) (made x.world.state)) (plain_settled m x.world (act (plain_of x))) (h.by 0 0 x none t).typed)
  gives_decided N gives rest stack (Enclose p r body) funcs others a a' b b' h x t = refl
  gives_decided N gives rest stack (Repeat p r body) funcs others a a' b b' h x t = refl
  gives_decided N gives rest stack (Choose test p r first second) funcs others a a' b b' h x t = refl
  gives_decided N gives rest stack (Guard p r handler body) funcs others a a' b b' h x t = refl
  gives_decided N gives rest stack (Invoke p f) funcs others a a' b b' h x t = refl
  gives_decided N gives rest stack (InvokeBy p pick) funcs others a a' b b' h x t = refl

  -- an instruction that asks for what is so
  pub ready_safe : (N : ℕ) (stack : List Ty) (end : Option (List Ty)) (ready : Plain Val State → Bool) (a b : Sem Val State) → ((x : Conf Val State) → PlainTyped m c stack (plain_of x) → ready (plain_of x) ≡ true) → CodeSafe m N c ls stack end a b → CodeSafe m N c ls stack end (when_ready ready a) b
  ready_safe N stack end ready a b is h = record {
    by = λ d n x le t. subst (λ yes. Safe m (Ended m c ls end (made x.world.state)) (where_ready yes a d n x) (b d n x)) (sym (is x t)) (h.by d n x le t);
  }
