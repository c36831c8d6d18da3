-- A step over the plan of an instruction is right.
use Rattle.std.proofs.Common.{◌≡◌, Bool, true, false, cond, ◌&&◌, List, [], ◌∷◌, length, drop, reverse, map, refl, sym, subst, ◌∙◌, Option, Some, None, ap}
use Rattle.std.specs.List.{list_all}
use Rattle.typing_kit.specs.declared.kind.Kind.{Kind}
use Rattle.typing_kit.specs.declared.kind.Kind.TheVariants.{Plain}
use Rattle.typing_kit.specs.declared.operand.Operand.{Operand}
use Rattle.typing_kit.specs.declared.plan.Plan.{Plan}
use Rattle.typing_kit.specs.declared.plan.Plan.TheVariants as plans
use Rattle.typing_kit.specs.declared.plan.Met.{Met}
use Rattle.typing_kit.specs.declared.plan.Met.TheVariants as mets
use Rattle.typing_kit.specs.Form.{Form, Language}
use Rattle.typing_kit.specs.Form as forms
use Rattle.typing_kit.specs.Stack.{Stack, fit}
use Rattle.typing_kit.specs.Steps.{with_top, IsPlanOf, IsLeaf, stepped, flat_step, any_step, select_step, leave_step, table_step, topmost, is_of, agree, joined, took, left, fit_label}
use Rattle.typing_kit.specs.Progress.{Leads, Stuck}
use Rattle.typing_kit.proofs.Laws.{Lawful}
use Rattle.typing_kit.proofs.Covering.{first_of_both, second_of_both}
use Rattle.typing_kit.proofs.Leading.{stuck_by}
use Rattle.typing_kit.proofs.Forms.{flat_exactly, exactly_leads, exactly_stuck, untyped_stuck}
use Rattle.typing_kit.proofs.Open.{any_leads, any_not_of, any_none, select_leads, select_fits, select_lacks_first, select_lacks_second}
use Rattle.typing_kit.proofs.Leaving.{leaves_lead, leaves_stuck, table_leads, table_fits}

module _ {T I : Type 0} (L : Language T I) (laws : Lawful L) (ls : List (List T)) (i : I) where
  -- where it was untyped no code that begins with the instruction is typed, and else the same code is typed before and after it
  abbrev pub Went : Met T → Stack T → Stack T → Type 0
  Went mets.Untyped s t = Stuck L ls i s.dead s.top
  Went mets.Planned s t = Leads L ls i s.dead s.top t.dead t.top
  Went (mets.One o) s t = Leads L ls i s.dead s.top t.dead t.top

  Goes : Stack T → Met T × Stack T → Type 0
  Goes s p = Went p.0 s p.1

  flat_goes : (takes gives : List T) (s : Stack T) → L.form ls i ≡ forms.Flat takes gives → Goes s (flat_step L.sub L.of_kind L.condition takes gives s)
  unfolding Goes
  flat_goes takes gives s form = go (fit L.sub s.dead s.top (reverse takes)) refl
    where
      go : (b : Bool) → fit L.sub s.dead s.top (reverse takes) ≡ b → Goes s (cond b (mets.Planned, took (length takes) gives s) (mets.Untyped, s))
      go true e = exactly_leads L laws ls i s.dead s.top takes gives (flat_exactly L ls i takes gives form) e
      go false e = exactly_stuck L laws ls i s.dead s.top takes gives (flat_exactly L ls i takes gives form) e

  any_goes : (kind : Kind) (gives : List T) (s : Stack T) → L.form ls i ≡ forms.Any kind gives → Goes s (any_step L.sub L.of_kind L.condition kind gives s (topmost s.dead s.top))
  unfolding Goes
  any_goes kind gives s form = go (topmost s.dead s.top) refl
    where
      of : (a : Operand T) → topmost s.dead s.top ≡ Some a → (b : Bool) → is_of L.sub L.of_kind L.condition kind a ≡ b → Goes s (cond b (mets.One a, took 1 gives s) (mets.Untyped, s))
      of a e true k = any_leads L laws ls i s.dead s.top kind gives form a e k
      of a e false k = any_not_of L laws ls i s.dead s.top kind gives form a e k

      go : (o : Option (Operand T)) → topmost s.dead s.top ≡ o → Goes s (any_step L.sub L.of_kind L.condition kind gives s o)
      go None e = any_none L laws ls i s.dead s.top kind gives form e
      go (Some a) e = of a e (is_of L.sub L.of_kind L.condition kind a) refl

  select_goes : (s : Stack T) → L.form ls i ≡ forms.Select → Goes s (select_step L.sub L.of_kind L.condition s (topmost s.dead (drop 2 s.top)) (topmost s.dead (drop 1 s.top)))
  unfolding Goes
  select_goes s form = go (topmost s.dead (drop 2 s.top)) (topmost s.dead (drop 1 s.top)) refl refl
    where
      of : (a b : Operand T) → topmost s.dead (drop 2 s.top) ≡ Some a → topmost s.dead (drop 1 s.top) ≡ Some b → (r : Bool) → (fit L.sub s.dead s.top (L.condition ∷ []) && is_of L.sub L.of_kind L.condition Plain a && is_of L.sub L.of_kind L.condition Plain b && agree L.sub L.of_kind L.condition a b) ≡ r → Goes s (cond r (mets.One (joined a b), record s { top = joined a b ∷ drop 3 s.top }) (mets.Untyped, s))
      of a b p q true e =
          let ag = second_of_both (fit L.sub s.dead s.top (L.condition ∷ []) && is_of L.sub L.of_kind L.condition Plain a && is_of L.sub L.of_kind L.condition Plain b) (agree L.sub L.of_kind L.condition a b) e in
          let e3 = first_of_both (fit L.sub s.dead s.top (L.condition ∷ []) && is_of L.sub L.of_kind L.condition Plain a && is_of L.sub L.of_kind L.condition Plain b) (agree L.sub L.of_kind L.condition a b) e in
          let kb = second_of_both (fit L.sub s.dead s.top (L.condition ∷ []) && is_of L.sub L.of_kind L.condition Plain a) (is_of L.sub L.of_kind L.condition Plain b) e3 in
          let e2 = first_of_both (fit L.sub s.dead s.top (L.condition ∷ []) && is_of L.sub L.of_kind L.condition Plain a) (is_of L.sub L.of_kind L.condition Plain b) e3 in
          select_leads L laws ls i s.dead s.top form a b p q (first_of_both _ (is_of L.sub L.of_kind L.condition Plain a) e2) (second_of_both (fit L.sub s.dead s.top (L.condition ∷ [])) _ e2) kb ag
      of a b p q false e = stuck_by L laws ls i s.dead s.top (λ t g o v d m c.
          (let no : true ≡ false = sym (select_fits L laws ls i s.dead s.top form a b p q t g o v d m c) ∙ e in cc))

      go : (x y : Option (Operand T)) → topmost s.dead (drop 2 s.top) ≡ x → topmost s.dead (drop 1 s.top) ≡ y → Goes s (select_step L.sub L.of_kind L.condition s x y)
      go None y p q = select_lacks_first L laws ls i s.dead s.top form p
      go (Some a) None p q = select_lacks_second L laws ls i s.dead s.top form q
      go (Some a) (Some b) p q = of a b p q (fit L.sub s.dead s.top (L.condition ∷ []) && is_of L.sub L.of_kind L.condition Plain a && is_of L.sub L.of_kind L.condition Plain b && agree L.sub L.of_kind L.condition a b) refl

  leave_goes : (takes : List T) (s : Stack T) → L.form ls i ≡ forms.Leaves takes → Goes s (leave_step L.sub L.of_kind L.condition takes s)
  unfolding Goes
  leave_goes takes s form = go (fit L.sub s.dead s.top (reverse takes)) refl
    where
      go : (b : Bool) → fit L.sub s.dead s.top (reverse takes) ≡ b → Goes s (cond b (mets.Planned, left s) (mets.Untyped, s))
      go true e = leaves_lead L laws ls i s.dead s.top takes form e
      go false e = leaves_stuck L laws ls i s.dead s.top takes form e

  table_goes : (last : List T) (others : List (List T)) (s : Stack T) → L.form ls i ≡ forms.Table last others → Goes s (table_step L.sub L.of_kind L.condition last others s)
  unfolding Goes
  table_goes last others s form = go (fit L.sub s.dead s.top (L.condition ∷ []) && fit L.sub s.dead (drop 1 s.top) (reverse last) && list_all (fit_label L.sub L.of_kind L.condition s.dead (drop 1 s.top) (length last)) others) refl
    where
      go : (b : Bool) → (fit L.sub s.dead s.top (L.condition ∷ []) && fit L.sub s.dead (drop 1 s.top) (reverse last) && list_all (fit_label L.sub L.of_kind L.condition s.dead (drop 1 s.top) (length last)) others) ≡ b → Goes s (cond b (mets.Planned, left s) (mets.Untyped, s))
      go true e =
          let e2 = first_of_both (fit L.sub s.dead s.top (L.condition ∷ []) && fit L.sub s.dead (drop 1 s.top) (reverse last)) (list_all (fit_label L.sub L.of_kind L.condition s.dead (drop 1 s.top) (length last)) others) e in
          table_leads L laws ls i s.dead s.top last others form
          (first_of_both _ (fit L.sub s.dead (drop 1 s.top) (reverse last)) e2) (second_of_both (fit L.sub s.dead s.top (L.condition ∷ [])) _ e2)
          (second_of_both (fit L.sub s.dead s.top (L.condition ∷ []) && fit L.sub s.dead (drop 1 s.top) (reverse last)) _ e)
      go false e = stuck_by L laws ls i s.dead s.top (λ t g o v d m c.
          (let no : true ≡ false = sym (table_fits L laws ls i s.dead s.top last others form t g o v d m c) ∙ e in cc))

  step_goes : (plan : Plan T) (s : Stack T) → IsPlanOf plan (L.form ls i) → IsLeaf plan → Goes s (stepped L.sub L.of_kind L.condition plan s)
  step_goes plans.Untyped s form leaf = unfold Goes in untyped_stuck L laws ls i s.dead s.top form
  step_goes (plans.Flat takes top gives) s form leaf = flat_goes (with_top takes.now top) gives.now s form
  step_goes (plans.Any kind gives) s form leaf = any_goes kind gives.now s form
  step_goes plans.Select s form leaf = select_goes s form
  step_goes (plans.Leaves takes top) s form leaf = leave_goes (with_top takes.now top) s form
  step_goes (plans.Table last others) s form leaf = table_goes last.now (map (λ label. label.now) others.now) s form
  step_goes plans.Nested s form leaf = absurd leaf

  -- what the contract of `step` says, against the rules
  pub step_went : (plan : Plan T) (s t : Stack T) (met : Met T) → IsPlanOf plan (L.form ls i) → IsLeaf plan → (met, t) ≡ stepped L.sub L.of_kind L.condition plan s → Went met s t
  unfolding Goes
  step_went plan s t met form leaf e = subst (λ p. Went p.0 s p.1) (sym e) (step_goes plan s form leaf)

module _ {T : Type 0} (sub : T → T → Bool) (of_kind : Kind → T → Bool) (condition : T) where
  same_outer : (b : Bool) (m n : Met T) (s t : Stack T) → t.outer ≡ s.outer → (cond {A = Met T × Stack T} b (m, t) (n, s)).1.outer ≡ s.outer
  same_outer true m n s t e = e
  same_outer false m n s t e = refl

  any_keeps : (kind : Kind) (gives : List T) (s : Stack T) (o : Option (Operand T)) → (any_step sub of_kind condition kind gives s o).1.outer ≡ s.outer
  any_keeps kind gives s None = refl
  any_keeps kind gives s (Some a) = same_outer _ _ _ s _ refl

  select_keeps : (s : Stack T) (a b : Option (Operand T)) → (select_step sub of_kind condition s a b).1.outer ≡ s.outer
  select_keeps s None b = refl
  select_keeps s (Some a) None = refl
  select_keeps s (Some a) (Some b) = same_outer _ _ _ s _ refl

  stepped_keeps : (plan : Plan T) (s : Stack T) → (stepped sub of_kind condition plan s).1.outer ≡ s.outer
  stepped_keeps plans.Untyped s = refl
  stepped_keeps (plans.Flat takes top gives) s = same_outer _ _ _ s _ refl
  stepped_keeps (plans.Any kind gives) s = any_keeps kind gives.now s (topmost s.dead s.top)
  stepped_keeps plans.Select s = select_keeps s (topmost s.dead (drop 2 s.top)) (topmost s.dead (drop 1 s.top))
  stepped_keeps (plans.Leaves takes top) s = same_outer _ _ _ s _ refl
  stepped_keeps (plans.Table last others) s = same_outer _ _ _ s _ refl
  stepped_keeps plans.Nested s = refl

  -- the operands of the blocks around stay
  pub step_keeps : (plan : Plan T) (s t : Stack T) (met : Met T) → (met, t) ≡ stepped sub of_kind condition plan s → t.outer ≡ s.outer
  step_keeps plan s t met e = ap (λ p. p.1.outer) e ∙ stepped_keeps plan s
