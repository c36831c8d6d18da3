-- Handlers hand on what their labels take, and entries of tables call functions of the type that is asked for.
use Rattle.std.proofs.Common.{◌≡◌, ℕ, ◌≤◌, Bool, true, false, ◌&&◌, List, [], ◌∷◌, ◌++◌, length, reverse, Option, Some, None, refl, sym, ap, ◌∙◌, subst, arith}
use Rattle.std.specs.Prelude.{slice_get, find, filter_map, cond}
use Rattle.std.specs.List.{list_all, AllByRecursion}
use Rattle.std.proofs.lemmas.List.{reverse-append}
use Rattle.host_kit.specs.Trace.{Captured, captured}
use Rattle.host_kit.specs.Fits.{RepliesFit}
use Rattle.wasm_ast.specs.Spaces.{func_import}
use Rattle.std.proofs.lemmas.Bool.Decides.{nat_tests}
use Rattle.wasm_ast.specs.declared.module.ty.Ty.{Ty}
use Rattle.wasm_ast.specs.declared.module.ty.Ty.TheVariants as types
use Rattle.wasm_ast.specs.declared.module.immediates.Catch.{Catch}
use Rattle.wasm_ast.specs.declared.module.immediates.Catch.TheVariants as catches
use Rattle.wasm_ast.specs.declared.module.parts.Module.{Module}
use Rattle.typed_trees.specs.Contexts.{Context, tag_type}
use Rattle.typed_trees.specs.Forms.{takes_all, label_takes, payload_fits, clause_fits}
use Rattle.typed_trees.specs.Modules.{context}
use Rattle.evaluation_kit.specs.declared.jump.Jump.TheVariants.{Branch, Throw}
use Rattle.evaluation_kit.specs.Configurations.{Conf, plain_of}
use Rattle.evaluation_kit.specs.Control.{taken}
use Rattle.meaning_new.specs.declared.val.Val.{Val}
use Rattle.meaning_new.specs.declared.val.Val.TheVariants as vals
use Rattle.meaning_new.specs.Store.{Store, State, Exception}
use Rattle.meaning_new.specs.Exceptions.{takes, caught_ref, caught_by, caught, handler}
use Rattle.soundness.specs.States.{made, Has, HaveTypes, ExceptionTyped, StoreTyped, MarkTyped, OnTop, LeftTyped}
use Rattle.soundness.proofs.Lists.{IfAny, pair_whole, all_append, all_get}
use Rattle.soundness.proofs.Judging.{Ended}
use Rattle.soundness.proofs.Blocks.{HandlerSafe}
use Rattle.soundness.proofs.JumpRows.{all_same}

-- the first item that passes a test is one of those with a property
found : {A : Type 0} (P : A → Bool) (p : A → Bool) (xs : List A) → list_all P xs ≡ true → IfAny (λ x. (P x ≡ true) × (p x ≡ true)) (find p xs)
found P p [] h = tt
found P p (x ∷ xs) h = both (P x) (p x) refl refl (found P p xs)
  where
    both : (a b : Bool) → P x ≡ a → p x ≡ b → (list_all P xs ≡ true → IfAny (λ x. (P x ≡ true) × (p x ≡ true)) (find p xs)) → IfAny (λ x. (P x ≡ true) × (p x ≡ true)) (cond (p x) (Some x) (find p xs))
    both true true e f next = subst (λ b. IfAny (λ x. (P x ≡ true) × (p x ≡ true)) (cond b (Some x) (find p xs))) (sym f) (e, f)
    both true false e f next =
        let rest : list_all P xs ≡ true = sym (ap (λ b. b && list_all P xs) e) ∙ h in
        subst (λ b. IfAny (λ x. (P x ≡ true) × (p x ≡ true)) (cond b (Some x) (find p xs))) (sym f) (next rest)
    both false b e f next = let wrong : false ≡ true = sym (ap (λ b. b && list_all P xs) e) ∙ h in let no : ⊥ = cc in absurd no

module _ (m : Module) (c : Context) (ls : List (List Ty)) where
  -- a label that takes these
  label_is : (l : ℕ) (ts : List Ty) → label_takes ls l ts ≡ true → slice_get ls l ≡ Some ts
  label_is l ts h = at (slice_get ls l) refl h
    where
      at : (o : Option (List Ty)) → slice_get ls l ≡ o → takes_all ts o ≡ true → slice_get ls l ≡ Some ts
      at None e h = let no : ⊥ = cc in absurd no
      at (Some label) e h = e ∙ ap (λ z. Some z) (sym (all_same ts label h))

  -- what a clause hands on to its label
  hands : (end : Option (List Ty)) (k e : ℕ) (x : Conf Val State) → LeftTyped m c ls k (Throw e) (plain_of x) → (l : ℕ) (ts : List Ty) (vs : List Val) (s : State) → s.store ≡ x.world.state.store → s.replies ≡ x.world.state.replies → AllByRecursion (MarkTyped m) s.trace → label_takes ls l ts ≡ true → HaveTypes m (made x.world.state) vs (reverse ts) → Ended m c ls end k (taken e (Some (record { jump = Branch l; operands = vs; state = s })) x)
  hands end k e x h l ts vs s same left told fits typed =
      let back = ap (λ (t : Store). length t.exceptions) (sym same) in
      record {
        jump = (ts, label_is l ts fits, subst (λ j. OnTop m j vs (reverse ts)) back (pair_whole (Has m (made x.world.state)) vs (reverse ts) typed));
        locals = subst (λ j. HaveTypes m j x.locals c.locals) back h.locals;
        state = record {
          store = subst (StoreTyped m) (sym same) h.state.store;
          replies = subst (λ r. RepliesFit m r (filter_map (λ i. func_import i.desc) m.imports)) (sym left) h.state.replies;
          trace = told;
        };
        extends = subst (λ j. k ≤ j) back h.extends;
      }

  hands_ref : (end : Option (List Ty)) (k e : ℕ) (x : Conf Val State) → LeftTyped m c ls k (Throw e) (plain_of x) → (room : Bool) (l : ℕ) (ts : List Ty) (vs : List Val) → label_takes ls l (ts ++ types.Exn ∷ []) ≡ true → HaveTypes m (made x.world.state) vs (reverse ts) → Ended m c ls end k (taken e (caught_ref room e l vs x.world.state) x)
  hands_ref end k e x h true l ts vs fits typed =
      hands end k e x h l (ts ++ types.Exn ∷ []) (vals.Exn e ∷ vs) _ refl refl (all_append (MarkTyped m) x.world.state.trace (Captured ∷ []) h.state.trace (tt, tt)) fits
      (subst (HaveTypes m (made x.world.state) (vals.Exn e ∷ vs)) (sym (reverse-append ts (types.Exn ∷ []))) (h.jump, typed))
  hands_ref end k e x h false l ts vs fits typed = record { jump = tt; locals = h.locals; state = h.state; extends = h.extends }

  -- the payload has the types of the tag that a clause names
  payload_is : (e : ℕ) (y : Exception) (k : ℕ) → ExceptionTyped m k y → (p : List Ty → Bool) (tag : ℕ) → y.tag ≡ tag → payload_fits (tag_type c tag) p ≡ true → tag_type c ≡ tag_type (context m) → (ts : List Ty) × (p ts ≡ true) × HaveTypes m k y.payload (reverse ts)
  payload_is e y k t p tag is fits same =
      let there : tag_type c tag ≡ Some t.type = ap (λ f. f tag) same ∙ ap (tag_type (context m)) (sym is) ∙ t.declared in
      (t.type.params, sym (ap (λ o. payload_fits o p) there) ∙ fits, t.payload)

  module _ (same : tag_type c ≡ tag_type (context m)) where
    by_clause : (end : Option (List Ty)) (k e : ℕ) (x : Conf Val State) → LeftTyped m c ls k (Throw e) (plain_of x) → (y : Exception) → ExceptionTyped m (made x.world.state) y → (o : Option Catch) → IfAny (λ clause. (clause_fits c ls clause ≡ true) × (takes y.tag clause ≡ true)) o → Ended m c ls end k (taken e (caught_by o e y x.world.state) x)
    by_clause end k e x h y t None i = h
    by_clause end k e x h y t (Some (catches.Tag tag l)) i =
        let is : y.tag ≡ tag = grind (arith, nat_tests) in
        let payload = payload_is e y (made x.world.state) t (λ ts. label_takes ls l ts) tag is i.0 same in
        hands end k e x h l payload.0 y.payload x.world.state refl refl h.state.trace payload.1 payload.2
    by_clause end k e x h y t (Some (catches.TagRef tag l)) i =
        let is : y.tag ≡ tag = grind (arith, nat_tests) in
        let payload = payload_is e y (made x.world.state) t (λ ts. label_takes ls l (ts ++ types.Exn ∷ [])) tag is i.0 same in
        hands_ref end k e x h (x.world.state.room (captured x.world.state.trace)) l payload.0 y.payload payload.1 payload.2
    by_clause end k e x h y t (Some (catches.All l)) i = hands end k e x h l [] [] x.world.state refl refl h.state.trace i.0 tt
    by_clause end k e x h y t (Some (catches.AllRef l)) i = hands_ref end k e x h (x.world.state.room (captured x.world.state.trace)) l [] [] i.0 tt

    pub handler_safe : (N : ℕ) (end : Option (List Ty)) (clauses : List Catch) → list_all (clause_fits c ls) clauses ≡ true → HandlerSafe m c ls N end (handler clauses)
    handler_safe N end clauses fits = record { by = λ k e x h. there k e x h (slice_get x.world.state.store.exceptions e) (all_get (ExceptionTyped m (made x.world.state)) x.world.state.store.exceptions e h.state.store.exceptions) }
      where
        there : (k e : ℕ) (x : Conf Val State) → LeftTyped m c ls k (Throw e) (plain_of x) → (o : Option Exception) → IfAny (ExceptionTyped m (made x.world.state)) o → Ended m c ls end k (taken e (caught o clauses e x.world.state) x)
        there k e x h None t = h
        there k e x h (Some y) t = by_clause end k e x h y t (find (takes y.tag) clauses) (found (clause_fits c ls) (takes y.tag) clauses fits)
