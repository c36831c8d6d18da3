-- Blocks, loops, choices, handlers and calls, over typed operands.
use Rattle.std.proofs.Common.{◌≡◌, ℕ, zero, suc, ◌≤◌, Bool, true, false, if◌then◌else◌, List, [], ◌∷◌, ◌++◌, take, drop, length, reverse, Option, Some, sym, ap, ◌∙◌, subst, arith, le_refl, le_trans}
use Rattle.wasm_ast.specs.declared.module.ty.Ty.{Ty}
use Rattle.wasm_ast.specs.declared.module.parts.Module.{Module}
use Rattle.typed_trees.specs.Contexts.{Context}
use Rattle.outcome_kit.specs.Outcome.{Out, Done, bind, turn}
use Rattle.outcome_kit.specs.Code.{Go, Leave}
use Rattle.evaluation_kit.specs.declared.jump.Jump.{Jump}
use Rattle.evaluation_kit.specs.declared.jump.Jump.TheVariants.{Branch, Return, Throw, TailCall, Trap, NoReply, Full, Stuck}
use Rattle.evaluation_kit.specs.Configurations.{World, Conf, Plain, Res, Sem, plain_of}
use Rattle.evaluation_kit.specs.Control
use Rattle.evaluation_kit.specs.Control.{Handler, Caught, entered, kept, popped, leave_block, leave_pass, cycle, handled, taken, returned, call_picked}
use Rattle.evaluation_kit.specs.Tasks.{plain_result}
use Rattle.evaluation_kit.proofs.Loops.{cycle-pass}
use Rattle.meaning_new.specs.declared.val.Val.{Val}
use Rattle.meaning_new.specs.Store.{State}
use Rattle.soundness.specs.States.{made, Has, HaveTypes, StateTyped, PlainTyped, OnTop, JumpTyped, LeftTyped}
use Rattle.soundness.proofs.Lists.{some_same, pair_append, pair_take, pair_drop, pair_whole}
use Rattle.soundness.proofs.Values.{have_more}
use Rattle.soundness.specs.Laws.{Safe}
use Rattle.soundness.proofs.Judging.{safe_done, safe_bind, safe_turn, safe_weaker, Ended, CodeSafe, result_later}

module _ (m : Module) (c : Context) (ls : List (List Ty)) where
  -- the topmost operands alone
  pub enters : (ts rest : List Ty) (x : Conf Val State) → PlainTyped m c (ts ++ rest) (plain_of x) → PlainTyped m c ts (plain_of (entered (length ts) x))
  enters ts rest x h = record { operands_typed = pair_take (Has m (made x.world.state)) x.operands ts rest h.operands_typed; locals = h.locals; state = h.state }

  -- operands over those that were set aside
  pub keeps : (ts rest : List Ty) (k : ℕ) (below : List Val) (x : Conf Val State) → HaveTypes m k below rest → k ≤ made x.world.state → OnTop m (made x.world.state) x.operands ts → HaveTypes m (made x.world.state) x.locals c.locals → StateTyped m x.world.state → PlainTyped m c (ts ++ rest) (plain_of (kept (length ts) below x))
  keeps ts rest k below x aside le top locals state = record {
    operands_typed = pair_append (Has m (made x.world.state)) (take (length ts) x.operands) ts below rest top (have_more m k (made x.world.state) le below rest aside);
    locals = locals;
    state = state;
  }

  -- a jump that is no branch is the same outside a block
  outward : (label : List Ty) (k : ℕ) (j : Jump) (p : Plain Val State) → JumpTyped m c ls j (made p.state) p.operands → LeftTyped m c (label ∷ ls) k j p → LeftTyped m c ls k j p
  outward label k j p i h = record { jump = i; locals = h.locals; state = h.state; extends = h.extends }

  -- the end of a block whose label takes its results
  block_left : (ts rest label : List Ty) (k : ℕ) (below : List Val) → reverse label ≡ ts → HaveTypes m k below rest → (r : Res Val State) → Ended m c (label ∷ ls) (Some ts) k r → Ended m c ls (Some (ts ++ rest)) k (leave_block (length ts) below r)
  block_left ts rest label k below e aside (Go x) h = (keeps ts rest k below x aside h.1 (pair_whole (Has m (made x.world.state)) x.operands ts h.0.operands_typed) h.0.locals h.0.state, h.1)
  block_left ts rest label k below e aside (Leave (Branch zero) x) h =
      let same : reverse h.jump.0 ≡ ts = ap reverse (sym (some_same label h.jump.0 h.jump.1)) ∙ e in
      (keeps ts rest k below x aside h.extends (subst (OnTop m (made x.world.state) x.operands) same h.jump.2) h.locals h.state, h.extends)
  block_left ts rest label k below e aside (Leave (Branch (suc i)) x) h = record { jump = h.jump; locals = h.locals; state = h.state; extends = h.extends }
  block_left ts rest label k below e aside (Leave Return x) h = outward label k Return (plain_of x) h.jump h
  block_left ts rest label k below e aside (Leave (Throw i) x) h = outward label k (Throw i) (plain_of x) h.jump h
  block_left ts rest label k below e aside (Leave (TailCall i) x) h = outward label k (TailCall i) (plain_of x) h.jump h
  block_left ts rest label k below e aside (Leave Trap x) h = outward label k Trap (plain_of x) h.jump h
  block_left ts rest label k below e aside (Leave (NoReply i) x) h = outward label k (NoReply i) (plain_of x) h.jump h
  block_left ts rest label k below e aside (Leave Full x) h = outward label k Full (plain_of x) h.jump h
  block_left ts rest label k below e aside (Leave Stuck x) h = absurd h.jump

  module _ (N : ℕ) where
    pub block_safe : (takes gives rest label : List Ty) (a b : Sem Val State) → reverse label ≡ gives → CodeSafe m N c (label ∷ ls) takes (Some gives) a b → CodeSafe m N c ls (takes ++ rest) (Some (gives ++ rest)) (Control.block (length takes) (length gives) a) (Control.block (length takes) (length gives) b)
    block_safe takes gives rest label a b e body = record {
      by = λ d n x le t.
          let k = made x.world.state in
          let below = drop (length takes) x.operands in
          safe_bind m (Ended m c (label ∷ ls) (Some gives) k) (Ended m c ls (Some (gives ++ rest)) k) n (a d n (entered (length takes) x)) (b d n (entered (length takes) x))
          (λ r j. Done 0 (leave_block (length gives) below r)) (λ r j. Done 0 (leave_block (length gives) below r))
          (body.by d n (entered (length takes) x) le (enters takes rest x t))
          (λ r j less q. safe_done m (Ended m c ls (Some (gives ++ rest)) k) (leave_block (length gives) below r) (block_left gives rest label k below e (pair_drop (Has m k) x.operands takes rest t.operands_typed) r q));
    }

    either : (test : Bool) (stack : List Ty) (end : Option (List Ty)) (label : List Ty) (a b a' b' : Sem Val State) → CodeSafe m N c (label ∷ ls) stack end a b → CodeSafe m N c (label ∷ ls) stack end a' b' → CodeSafe m N c (label ∷ ls) stack end (if test then a else a') (if test then b else b')
    either true stack end label a b a' b' h g = h
    either false stack end label a b a' b' h g = g

    -- without the operand on the top
    pub pops : (t : Ty) (ts : List Ty) (x : Conf Val State) → PlainTyped m c (t ∷ ts) (plain_of x) → PlainTyped m c ts (plain_of (popped x))
    pops t ts x h = record { operands_typed = pair_drop (Has m (made x.world.state)) x.operands (t ∷ []) ts h.operands_typed; locals = h.locals; state = h.state }

    pub choose_safe : (test : List Val → Bool) (t : Ty) (takes gives rest label : List Ty) (a b a' b' : Sem Val State) → reverse label ≡ gives → CodeSafe m N c (label ∷ ls) takes (Some gives) a b → CodeSafe m N c (label ∷ ls) takes (Some gives) a' b' → CodeSafe m N c ls (t ∷ (takes ++ rest)) (Some (gives ++ rest)) (Control.choose test (length takes) (length gives) a a') (Control.choose test (length takes) (length gives) b b')
    choose_safe test t takes gives rest label a b a' b' e first second = record {
      by = λ d n x le h. (block_safe takes gives rest label _ _ e (either (test x.operands) takes (Some gives) label a b a' b' first second)).by d n (popped x) le (pops t (takes ++ rest) x h);
    }

    -- a loop, whose label takes what it takes
    module _ (takes gives rest label : List Ty) (a b : Sem Val State) (e : reverse label ≡ takes) (body : CodeSafe m N c (label ∷ ls) takes (Some gives) a b) (k : ℕ) (below : List Val) (aside : HaveTypes m k below rest) where
      abbrev Q : Res Val State → Type 0
      Q = Ended m c ls (Some (gives ++ rest)) k

      pass_left : (d : ℕ) (again other : ℕ → Conf Val State → Out (World State) (Res Val State)) (j : ℕ) → ((x : Conf Val State) → k ≤ made x.world.state → PlainTyped m c takes (plain_of x) → Safe m Q (again j x) (other j x)) → (r : Res Val State) → Ended m c (label ∷ ls) (Some gives) k r → Safe m Q (leave_pass again (length takes) (length gives) below r j) (leave_pass other (length takes) (length gives) below r j)
      pass_left d again other j next (Go x) h = safe_done m Q _ (keeps gives rest k below x aside h.1 (pair_whole (Has m (made x.world.state)) x.operands gives h.0.operands_typed) h.0.locals h.0.state, h.1)
      pass_left d again other j next (Leave (Branch zero) x) h =
          let same : reverse h.jump.0 ≡ takes = ap reverse (sym (some_same label h.jump.0 h.jump.1)) ∙ e in
          let top : OnTop m (made x.world.state) x.operands takes = subst (OnTop m (made x.world.state) x.operands) same h.jump.2 in
          next (entered (length takes) x) h.extends (record { operands_typed = top; locals = h.locals; state = h.state })
      pass_left d again other j next (Leave (Branch (suc i)) x) h = safe_done m Q _ (record { jump = h.jump; locals = h.locals; state = h.state; extends = h.extends })
      pass_left d again other j next (Leave Return x) h = safe_done m Q _ (outward label k Return (plain_of x) h.jump h)
      pass_left d again other j next (Leave (Throw i) x) h = safe_done m Q _ (outward label k (Throw i) (plain_of x) h.jump h)
      pass_left d again other j next (Leave (TailCall i) x) h = safe_done m Q _ (outward label k (TailCall i) (plain_of x) h.jump h)
      pass_left d again other j next (Leave Trap x) h = safe_done m Q _ (outward label k Trap (plain_of x) h.jump h)
      pass_left d again other j next (Leave (NoReply i) x) h = safe_done m Q _ (outward label k (NoReply i) (plain_of x) h.jump h)
      pass_left d again other j next (Leave Full x) h = safe_done m Q _ (outward label k Full (plain_of x) h.jump h)
      pass_left d again other j next (Leave Stuck x) h = absurd h.jump

      abbrev passes_a : ℕ → ℕ → Conf Val State → Out (World State) (Res Val State)
      passes_a d = cycle (length takes) (length gives) below a d

      abbrev passes_b : ℕ → ℕ → Conf Val State → Out (World State) (Res Val State)
      passes_b d = cycle (length takes) (length gives) below b d

      -- one pass, where those that follow are so within fewer turns
      one_pass : (M : ℕ) → M ≤ N → ((d n : ℕ) (x : Conf Val State) → n ≤ M → k ≤ made x.world.state → PlainTyped m c takes (plain_of x) → Safe m Q (passes_a d n x) (passes_b d n x)) → (d j : ℕ) (x : Conf Val State) → j ≤ M → k ≤ made x.world.state → PlainTyped m c takes (plain_of x) → Safe m Q (bind j (a d j x) (leave_pass (passes_a d) (length takes) (length gives) below)) (bind j (b d j x) (leave_pass (passes_b d) (length takes) (length gives) below))
      one_pass M less more d j x le ext t =
          safe_bind m (Ended m c (label ∷ ls) (Some gives) k) Q j (a d j x) (b d j x) (leave_pass (passes_a d) (length takes) (length gives) below) (leave_pass (passes_b d) (length takes) (length gives) below)
          (safe_weaker m (Ended m c (label ∷ ls) (Some gives) (made x.world.state)) (Ended m c (label ∷ ls) (Some gives) k) (a d j x) (b d j x) (λ r q. result_later m c (label ∷ ls) (Some gives) k (made x.world.state) (plain_result r) ext q) (body.by d j x (le_trans le less) t))
          (λ r i fewer q. pass_left d (passes_a d) (passes_b d) i (λ y later h. more d i y (le_trans fewer le) later h) r q)

      by_turns : (d n : ℕ) (x : Conf Val State) → PlainTyped m c takes (plain_of x) → ((j : ℕ) → n ≡ suc j → Safe m Q (bind j (a d j x) (leave_pass (passes_a d) (length takes) (length gives) below)) (bind j (b d j x) (leave_pass (passes_b d) (length takes) (length gives) below))) → Safe m Q (passes_a d n x) (passes_b d n x)
      by_turns d n x t next =
          subst (λ o. Safe m Q o (passes_b d n x)) (sym (cycle-pass (length takes) (length gives) below a d n x))
          (subst (λ o. Safe m Q (turn n x.world (λ j. bind j (a d j x) (leave_pass (passes_a d) (length takes) (length gives) below))) o) (sym (cycle-pass (length takes) (length gives) below b d n x))
          (safe_turn m Q n x.world (λ j. bind j (a d j x) (leave_pass (passes_a d) (length takes) (length gives) below)) (λ j. bind j (b d j x) (leave_pass (passes_b d) (length takes) (length gives) below)) t.state next))

      cycle_safe : (M : ℕ) → M ≤ N → (d n : ℕ) (x : Conf Val State) → n ≤ M → k ≤ made x.world.state → PlainTyped m c takes (plain_of x) → Safe m Q (passes_a d n x) (passes_b d n x)
      cycle_safe zero less d n x le ext t = by_turns d n x t (λ j is. let no : ⊥ = omega arith in absurd no)
      cycle_safe (suc M) less d n x le ext t =
          let most : M ≤ N = omega arith in
          by_turns d n x t (λ j is. let few : j ≤ M = omega arith in one_pass M most (cycle_safe M most) d j x few ext t)

    pub loop_safe : (takes gives rest label : List Ty) (a b : Sem Val State) → reverse label ≡ takes → CodeSafe m N c (label ∷ ls) takes (Some gives) a b → CodeSafe m N c ls (takes ++ rest) (Some (gives ++ rest)) (Control.loop (length takes) (length gives) a) (Control.loop (length takes) (length gives) b)
    loop_safe takes gives rest label a b e body = record {
      by = λ d n x le t.
          let k = made x.world.state in
          cycle_safe takes gives rest label a b e body k (drop (length takes) x.operands) (pair_drop (Has m k) x.operands takes rest t.operands_typed) N (le_refl N) d n (entered (length takes) x) le (le_refl k) (enters takes rest x t);
    }

    -- a handler, which is asked of exceptions that have been made
    pub record HandlerSafe (end : Option (List Ty)) (h : Handler Val State) : Type 0 where
      pub by : (k e : ℕ) (x : Conf Val State) → LeftTyped m c ls k (Throw e) (plain_of x) → Ended m c ls end k (taken e (h e x.world.state) x)

    handled_left : (end : Option (List Ty)) (h : Handler Val State) → HandlerSafe end h → (k : ℕ) (r : Res Val State) → Ended m c ls end k r → Ended m c ls end k (handled h r)
    handled_left end h safe k (Leave (Throw e) x) q = safe.by k e x q
    handled_left end h safe k (Go x) q = q
    handled_left end h safe k (Leave (Branch i) x) q = q
    handled_left end h safe k (Leave Return x) q = q
    handled_left end h safe k (Leave (TailCall i) x) q = q
    handled_left end h safe k (Leave Trap x) q = q
    handled_left end h safe k (Leave (NoReply i) x) q = q
    handled_left end h safe k (Leave Full x) q = q
    handled_left end h safe k (Leave Stuck x) q = q

    pub guard_safe : (takes gives rest label : List Ty) (h : Handler Val State) (a b : Sem Val State) → reverse label ≡ gives → HandlerSafe (Some (gives ++ rest)) h → CodeSafe m N c (label ∷ ls) takes (Some gives) a b → CodeSafe m N c ls (takes ++ rest) (Some (gives ++ rest)) (Control.guard (length takes) (length gives) h a) (Control.guard (length takes) (length gives) h b)
    guard_safe takes gives rest label h a b e safe body = record {
      by = λ d n x le t.
          let k = made x.world.state in
          let below = drop (length takes) x.operands in
          safe_bind m (Ended m c (label ∷ ls) (Some gives) k) (Ended m c ls (Some (gives ++ rest)) k) n (a d n (entered (length takes) x)) (b d n (entered (length takes) x))
          (λ r j. Done 0 (handled h (leave_block (length gives) below r))) (λ r j. Done 0 (handled h (leave_block (length gives) below r)))
          (body.by d n (entered (length takes) x) le (enters takes rest x t))
          (λ r j less q. safe_done m (Ended m c ls (Some (gives ++ rest)) k) (handled h (leave_block (length gives) below r)) (handled_left (Some (gives ++ rest)) h safe k (leave_block (length gives) below r) (block_left gives rest label k below e (pair_drop (Has m k) x.operands takes rest t.operands_typed) r q)));
    }
