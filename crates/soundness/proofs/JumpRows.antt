-- "Variable Instructions" on locals, branches, returns, tail calls and exceptions: what they leave and what they carry is
-- typed.
use Rattle.std.proofs.Common.{◌≡◌, ℕ, zero, suc, ◌<◌, ◌≤◌, Bool, true, false, nat_lt, ◌&&◌, List, [], ◌∷◌, ◌++◌, take, length, reverse, Option, Some, None, refl, sym, ap, ◌∙◌, subst, arith, le_refl}
use Rattle.std.specs.Prelude.{slice_get, slice_index_or, set}
use Rattle.std.specs.List.{AllByRecursion}
use Rattle.std.proofs.lemmas.Bool.{lt-ltb}
use Rattle.std.proofs.lemmas.List.{length-append}
use Rattle.wasm_ast.specs.declared.module.ty.Ty.{Ty}
use Rattle.wasm_ast.specs.declared.module.ty.Ty.TheVariants as types
use Rattle.wasm_ast.specs.declared.module.ty.FuncType.{FuncType}
use Rattle.wasm_ast.specs.declared.module.parts.Module.{Module}
use Rattle.typing_kit.specs.Leaf.{AllSub}
use Rattle.typed_trees.specs.Contexts.{Context, func_type, tag_type}
use Rattle.typed_trees.specs.Forms.{labels_at, both_labels}
use Rattle.typed_trees.specs.Matching.{matches, all_match}
use Rattle.typed_trees.specs.Modules.{context}
use Rattle.typed_trees.proofs.Lawfulness.{matches_equal}
use Rattle.evaluation_kit.specs.declared.jump.Jump.{Jump}
use Rattle.evaluation_kit.specs.declared.jump.Jump.TheVariants.{Branch, Return, Throw, TailCall, Trap}
use Rattle.evaluation_kit.specs.Configurations.{Plain}
use Rattle.evaluation_kit.specs.Leaves as leaves
use Rattle.evaluation_kit.specs.Leaves.{top, below}
use Rattle.meaning_new.specs.declared.val.Val.{Val}
use Rattle.meaning_new.specs.declared.val.Val.TheVariants as vals
use Rattle.meaning_new.specs.Store.{State, Exception, missing}
use Rattle.meaning_new.specs.Exceptions.{throw, thrown, throw_ref}
use Rattle.soundness.specs.States.{made, Has, HaveTypes, ExceptionTyped, StateTyped, PlainTyped, OnTop, JumpTyped, LeftTyped, ResultTyped}
use Rattle.soundness.proofs.Lists.{some_same, pair_take, pair_set, pair_index, pair_weaker, all_append, all_weaker}
use Rattle.soundness.proofs.Values.{has_more, have_more, exceptions_more}
use Rattle.soundness.proofs.Operators.{under, topmost}
use Rattle.soundness.proofs.Judging.{ActSafe}

-- types that match are the same
pub all_same : (ss ts : List Ty) → all_match ss ts ≡ true → ss ≡ ts
all_same [] [] h = refl
all_same [] (t ∷ ts) h = let no : ⊥ = cc in absurd no
all_same (s ∷ ss) [] h = let no : ⊥ = cc in absurd no
all_same (s ∷ ss) (t ∷ ts) h = both (matches s t) refl (all_same ss ts)
  where
    both : (b : Bool) → matches s t ≡ b → (all_match ss ts ≡ true → ss ≡ ts) → (s ∷ ss) ≡ (t ∷ ts)
    both true e more = let first = matches_equal s t e in let rest = more (sym (ap (λ x. x && all_match ss ts) e) ∙ h) in λ i. first i ∷ rest i
    both false e more = let wrong : false ≡ true = sym (ap (λ x. x && all_match ss ts) e) ∙ h in let no : ⊥ = cc in absurd no

pub sub_same : (ss ts : List Ty) → AllSub matches ss ts → ss ≡ ts
sub_same [] [] h = refl
sub_same [] (t ∷ ts) h = absurd h
sub_same (s ∷ ss) [] h = absurd h
sub_same (s ∷ ss) (t ∷ ts) h = let first = matches_equal s t h.0 in let rest = sub_same ss ts h.1 in λ i. first i ∷ rest i

module _ (m : Module) (c : Context) (ls : List (List Ty)) where
  -- code that is left by a jump, and code that goes on with other operands
  leaves_by : (k : ℕ) (j : Jump) (p : Plain Val State) → JumpTyped m c ls j (made p.state) p.operands → HaveTypes m (made p.state) p.locals c.locals → StateTyped m p.state → k ≤ made p.state → LeftTyped m c ls k j p
  leaves_by k j p h l s le = record { jump = h; locals = l; state = s; extends = le }

  pub nothing_safe : (rest : List Ty) → ActSafe m c ls rest (Some rest) leaves.nothing
  nothing_safe rest = record { by = λ p t. (t, le_refl (made p.state)) }

  pub trap_safe : (stack : List Ty) (end : Option (List Ty)) → ActSafe m c ls stack end (leaves.jump Trap)
  trap_safe stack end = record { by = λ p t. leaves_by (made p.state) Trap p tt t.locals t.state (le_refl (made p.state)) }

  -- locals
  module _ (rest : List Ty) (x : ℕ) (t : Ty) (e : slice_get c.locals x ≡ Some t) where
    pub get_local_safe : ActSafe m c ls rest (Some (t ∷ rest)) (leaves.get_local missing x)
    get_local_safe = record {
      by = λ p h. (record { operands_typed = (pair_index (Has m (made p.state)) missing p.locals c.locals x t e h.locals, h.operands_typed); locals = h.locals; state = h.state }, le_refl (made p.state));
    }

    set_typed : (p : Plain Val State) → PlainTyped m c (t ∷ rest) p → HaveTypes m (made p.state) (set p.locals x (top missing p.operands)) c.locals
    set_typed p h = pair_set (Has m (made p.state)) p.locals c.locals x (top missing p.operands) t e (topmost m (made p.state) p.operands t rest h.operands_typed) h.locals

    pub set_local_safe : ActSafe m c ls (t ∷ rest) (Some rest) (leaves.set_local missing x)
    set_local_safe = record {
      by = λ p h. (record { operands_typed = under m (made p.state) p.operands t rest h.operands_typed; locals = set_typed p h; state = h.state }, le_refl (made p.state));
    }

    pub tee_local_safe : ActSafe m c ls (t ∷ rest) (Some (t ∷ rest)) (leaves.tee_local missing x)
    tee_local_safe = record { by = λ p h. (record { operands_typed = h.operands_typed; locals = set_typed p h; state = h.state }, le_refl (made p.state)) }

  -- branches
  carried : (ts rest : List Ty) (p : Plain Val State) → PlainTyped m c (reverse ts ++ rest) p → OnTop m (made p.state) p.operands (reverse ts)
  carried ts rest p h = pair_take (Has m (made p.state)) p.operands (reverse ts) rest h.operands_typed

  -- without the operand on the top
  pub lower : (t : Ty) (ts : List Ty) (p : Plain Val State) → PlainTyped m c (t ∷ ts) p → PlainTyped m c ts (leaves.with_operands (below p.operands) p)
  lower t ts p h = record { operands_typed = under m (made p.state) p.operands t ts h.operands_typed; locals = h.locals; state = h.state }

  branches : (l : ℕ) (ts rest : List Ty) → slice_get ls l ≡ Some ts → (p : Plain Val State) → PlainTyped m c (reverse ts ++ rest) p → LeftTyped m c ls (made p.state) (Branch l) p
  branches l ts rest e p h = leaves_by (made p.state) (Branch l) p (ts, e, carried ts rest p h) h.locals h.state (le_refl (made p.state))

  pub branch_safe : (l : ℕ) (ts rest : List Ty) → slice_get ls l ≡ Some ts → ActSafe m c ls (reverse ts ++ rest) None (leaves.jump (Branch l))
  branch_safe l ts rest e = record { by = λ p h. branches l ts rest e p h }

  pub branch_if_safe : (test : List Val → Bool) (l : ℕ) (t : Ty) (ts rest : List Ty) → slice_get ls l ≡ Some ts → ActSafe m c ls (t ∷ (reverse ts ++ rest)) (Some (reverse ts ++ rest)) (leaves.branch_if test l)
  branch_if_safe test l t ts rest e = record { by = λ p h. both (test p.operands) (leaves.with_operands (below p.operands) p) (lower t (reverse ts ++ rest) p h) }
    where
      both : (b : Bool) (p : Plain Val State) → PlainTyped m c (reverse ts ++ rest) p → ResultTyped m c ls (Some (reverse ts ++ rest)) (made p.state) (leaves.jump_where b (Branch l) p)
      both true p h = branches l ts rest e p h
      both false p h = (h, le_refl (made p.state))

  -- the labels of a table take the same
  abbrev Chosen : List Ty → ℕ → List ℕ → Type 0
  Chosen ts last xs = (others : List (List Ty)) (i : ℕ) → labels_at ls xs ≡ Some others → AllByRecursion (λ l. AllSub matches ts l) others → slice_get ls (slice_index_or xs i last) ≡ Some ts

  chosen : (ts : List Ty) (last : ℕ) (xs : List ℕ) (others : List (List Ty)) (n : ℕ) → slice_get ls last ≡ Some ts → labels_at ls xs ≡ Some others → AllByRecursion (λ l. AllSub matches ts l) others → slice_get ls (slice_index_or xs n last) ≡ Some ts
  chosen ts last [] others n e is h = e
  chosen ts last (x ∷ xs) others n e is h = split (slice_get ls x) (labels_at ls xs) refl refl is (λ more i g all. chosen ts last xs more i e g all)
    where
      at : (l : List Ty) (more : List (List Ty)) → slice_get ls x ≡ Some l → labels_at ls xs ≡ Some more → AllByRecursion (λ l. AllSub matches ts l) (l ∷ more) → Chosen ts last xs → (i : ℕ) → slice_get ls (slice_index_or (x ∷ xs) i last) ≡ Some ts
      at l more f g all next zero = f ∙ ap (λ z. Some z) (sym (sub_same ts l all.0))
      at l more f g all next (suc i) = next more i g all.1

      split : (a : Option (List Ty)) (b : Option (List (List Ty))) → slice_get ls x ≡ a → labels_at ls xs ≡ b → both_labels (slice_get ls x) (labels_at ls xs) ≡ Some others → Chosen ts last xs → slice_get ls (slice_index_or (x ∷ xs) n last) ≡ Some ts
      split (Some l) (Some more) f g all next =
          let is_all : Some (l ∷ more) ≡ Some others = sym (ap (λ o. both_labels o (labels_at ls xs)) f ∙ ap (both_labels (Some l)) g) ∙ all in
          at l more f g (subst (λ o. AllByRecursion (λ l. AllSub matches ts l) o) (sym (some_same (l ∷ more) others is_all)) h) next n
      split (Some l) None f g all next = let wrong : None ≡ Some others = sym (ap (λ o. both_labels o (labels_at ls xs)) f ∙ ap (both_labels (Some l)) g) ∙ all in let no : ⊥ = cc in absurd no
      split None b f g all next = let wrong : None ≡ Some others = sym (ap (λ o. both_labels o (labels_at ls xs)) f) ∙ all in let no : ⊥ = cc in absurd no

  pub branch_table_safe : (number : List Val → ℕ) (xs : List ℕ) (last : ℕ) (label : List Ty) (others : List (List Ty)) (t : Ty) (ts rest : List Ty) → slice_get ls last ≡ Some label → labels_at ls xs ≡ Some others → AllSub matches ts label → AllByRecursion (λ l. AllSub matches ts l) others → ActSafe m c ls (t ∷ (reverse ts ++ rest)) None (leaves.branch_table number xs last)
  branch_table_safe number xs last label others t ts rest e is fits all = record {
    by = λ p h.
        let there = chosen ts last xs others (number p.operands) (e ∙ ap (λ z. Some z) (sym (sub_same ts label fits))) is all in
        branches (slice_index_or xs (number p.operands) last) ts rest there (leaves.with_operands (below p.operands) p) (lower t (reverse ts ++ rest) p h);
  }

  pub return_safe : (ts rest : List Ty) → c.returns ≡ Some ts → ActSafe m c ls (reverse ts ++ rest) None (leaves.jump Return)
  return_safe ts rest e = record { by = λ p h. leaves_by (made p.state) Return p (ts, e, carried ts rest p h) h.locals h.state (le_refl (made p.state)) }

  -- tail calls, of functions with the results of the caller
  pub tail_typed : (f : ℕ) (t : FuncType) (rest : List Ty) → func_type (context m) f ≡ Some t → c.returns ≡ Some t.results → (p : Plain Val State) → PlainTyped m c (reverse t.params ++ rest) p → LeftTyped m c ls (made p.state) (TailCall f) p
  tail_typed f t rest e same p h = leaves_by (made p.state) (TailCall f) p (t, e, carried t.params rest p h, same) h.locals h.state (le_refl (made p.state))

  pub tail_safe : (f : ℕ) (t : FuncType) (rest : List Ty) → func_type (context m) f ≡ Some t → c.returns ≡ Some t.results → ActSafe m c ls (reverse t.params ++ rest) None (leaves.jump (TailCall f))
  tail_safe f t rest e same = record { by = λ p h. tail_typed f t rest e same p h }

  -- throw: the exception is made of the operands that its tag takes
  pub throw_safe : (x : ℕ) (t : FuncType) (rest : List Ty) → tag_type (context m) x ≡ Some t → ActSafe m c ls (reverse t.params ++ rest) None (throw x (length (reverse t.params)))
  throw_safe x t rest e = record { by = λ p h. thrown_typed p h }
    where
      more : (xs : List Exception) (y : Exception) → length xs ≤ length (xs ++ y ∷ [])
      more xs y = let count = length-append xs (y ∷ []) in omega arith

      is_there : (xs : List Exception) (y : Exception) → nat_lt (length xs) (length (xs ++ y ∷ [])) ≡ true
      is_there xs y = let count = length-append xs (y ∷ []) in let less : length xs < length (xs ++ y ∷ []) = omega arith in lt-ltb (length xs) (length (xs ++ y ∷ [])) less

      thrown_typed : (p : Plain Val State) → PlainTyped m c (reverse t.params ++ rest) p → ResultTyped m c ls None (made p.state) (throw x (length (reverse t.params)) p)
      thrown_typed p h =
          let payload = take (length (reverse t.params)) p.operands in
          let new : Exception = record { tag = x; payload = payload } in
          let xs = p.state.store.exceptions in
          let later = more xs new in
          let k = length xs in
          let j = length (xs ++ new ∷ []) in
          record {
            jump = is_there xs new;
            locals = have_more m k j later p.locals c.locals h.locals;
            state = record {
              store = record {
                globals = pair_weaker (λ v g. Has m k v g.ty) (λ v g. Has m j v g.ty) (λ v g i. has_more m k j later v g.ty i) p.state.store.globals _ h.state.store.globals;
                memories = h.state.store.memories;
                tables = pair_weaker (λ i u. AllByRecursion (λ v. Has m k v u) i.entries) (λ i u. AllByRecursion (λ v. Has m j v u) i.entries) (λ i u all. all_weaker (λ v. Has m k v u) (λ v. Has m j v u) (λ v one. has_more m k j later v u one) i.entries all) p.state.store.tables _ h.state.store.tables;
                elems = pair_weaker (λ i u. AllByRecursion (λ v. Has m k v u) i) (λ i u. AllByRecursion (λ v. Has m j v u) i) (λ i u all. all_weaker (λ v. Has m k v u) (λ v. Has m j v u) (λ v one. has_more m k j later v u one) i all) p.state.store.elems _ h.state.store.elems;
                datas = h.state.store.datas;
                exceptions = all_append (ExceptionTyped m j) xs (new ∷ []) (exceptions_more m k j later xs h.state.store.exceptions)
                    (record { type = t; declared = e; payload = have_more m k j later payload (reverse t.params) (pair_take (Has m k) p.operands (reverse t.params) rest h.operands_typed) }, tt);
              };
              replies = h.state.replies;
              trace = h.state.trace;
            };
            extends = later;
          }

  -- throw_ref
  pub throw_ref_safe : (rest : List Ty) → ActSafe m c ls (types.Exn ∷ rest) None throw_ref
  throw_ref_safe rest = record { by = λ p h. both (top missing p.operands) (leaves.with_operands (below p.operands) p) (topmost m (made p.state) p.operands types.Exn rest h.operands_typed) (lower types.Exn rest p h) }
    where
      both : (v : Val) (p : Plain Val State) → Has m (made p.state) v types.Exn → PlainTyped m c rest p → ResultTyped m c ls None (made p.state) (thrown v p)
      both (vals.Exn i) p e h = leaves_by (made p.state) (Throw i) p e h.locals h.state (le_refl (made p.state))
      both (vals.I32 i) p e h = leaves_by (made p.state) Trap p tt h.locals h.state (le_refl (made p.state))
      both (vals.I64 i) p e h = leaves_by (made p.state) Trap p tt h.locals h.state (le_refl (made p.state))
      both (vals.V128 i) p e h = leaves_by (made p.state) Trap p tt h.locals h.state (le_refl (made p.state))
      both (vals.Func i) p e h = leaves_by (made p.state) Trap p tt h.locals h.state (le_refl (made p.state))
      both (vals.Extern i) p e h = leaves_by (made p.state) Trap p tt h.locals h.state (le_refl (made p.state))
      both (vals.Null t) p e h = leaves_by (made p.state) Trap p tt h.locals h.state (le_refl (made p.state))
