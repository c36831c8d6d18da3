-- What a step over a plan does to values on the stack, and which types a node has then.
use Rattle.std.proofs.Common.{◌≡◌, Bool, true, false, cond, ◌&&◌, ◌==◌, List, [], ◌∷◌, ◌++◌, reverse, drop, length, Option, Some, None, refl, ap, sym, subst, ◌∙◌, append_assoc, arith}
use Rattle.std.proofs.lemmas.List.{reverse-reverse, length-reverse}
use Rattle.typing_kit.proofs.Lists.{reverse-cons}
use Rattle.std.specs.List.{AllByRecursion, list_all}
use Rattle.wasm_ast.specs.declared.module.ty.Ty.{Ty}
use Rattle.wasm_ast.specs.declared.module.ty.Ty.TheVariants.{I32}
use Rattle.typing_kit.specs.declared.kind.Kind.{Kind}
use Rattle.typing_kit.specs.declared.kind.Kind.TheVariants.{Plain}
use Rattle.typing_kit.specs.declared.operand.Operand.{Operand}
use Rattle.typing_kit.specs.declared.operand.Operand.TheVariants.{Known}
use Rattle.typing_kit.specs.declared.plan.Met.{Met}
use Rattle.typing_kit.specs.declared.plan.Met.TheVariants.{Untyped, Planned, One}
use Rattle.typing_kit.specs.Form as forms
use Rattle.typing_kit.specs.Leaf.{AllSub, FitsLeaf}
use Rattle.typing_kit.specs.Matching.{known}
use Rattle.typing_kit.specs.Stack.{Stack, fit}
use Rattle.typing_kit.specs.Steps.{took, left, topmost, joined, is_of, agree, fit_label, flat_step, any_step, select_step, leave_step, table_step}
use Rattle.typed_trees.specs.Contexts.{Context}
use Rattle.typed_trees.specs.Forms.{InstrForm, language, is_of_kind}
use Rattle.typed_trees.specs.Matching.{matches}
use Rattle.typed_trees.proofs.Lawfulness.{matches_self}
use Rattle.valid_new.specs.Bodies.{After, IsMet, type_met, any_types, select_types}
use Rattle.valid_new.proofs.Tops.{fitted_values, put_on, known_reverse, both_true}
use Rattle.typed_trees.proofs.Lawfulness.{matches_equal}

-- over values of these types the node has types that fit the form, and what is behind it
pub record Kept (c : Context) (form : InstrForm) (takes gives : List Ty) (leaving : Bool) (ts : List Ty) (t : Stack Ty) : Type 0 where
  pub fits : FitsLeaf (language c) form takes gives
  pub below : List Ty
  pub is : ts ≡ below ++ takes
  pub after : After leaving (below ++ gives) t

pub record Moves (c : Context) (form : InstrForm) (takes gives : List Ty) (leaving : Bool) (s t : Stack Ty) : Type 0 where
  pub outer : t.outer ≡ s.outer
  pub unreached : s.dead ≡ true → t.dead ≡ true
  pub reached : (ts : List Ty) → s.dead ≡ false → s.top ≡ reverse (known ts) → Kept c form takes gives leaving ts t

-- a test that is false leaves the instruction untyped
pub by_test : (t s u : Stack Ty) (met mets : Met Ty) (b : Bool) → ◌≡◌ {A = Met Ty × Stack Ty} (met, t) (cond b (mets, u) (Untyped, s)) → IsMet met → (b ≡ true) × (t ≡ u) × (met ≡ mets)
by_test t s u met mets true e m = (refl, ap (λ p. p.1) e, ap (λ p. p.0) e)
by_test t s u met mets false e m = absurd (subst IsMet (ap (λ p. p.0) e) m)

module _ (c : Context) (s t : Stack Ty) (met : Met Ty) where
  pub flat_moves : (takes gives : List Ty) → ◌≡◌ {A = Met Ty × Stack Ty} (met, t) (flat_step matches is_of_kind I32 takes gives s) → IsMet met → Moves c (forms.Flat takes gives) takes gives false s t
  flat_moves takes gives e m =
      let p = by_test t s (took (length takes) gives s) met Planned (fit matches s.dead s.top (reverse takes)) e m in
      record {
        outer = ap (λ u. u.outer) p.1;
        unreached = λ d. ap (λ u. u.dead) p.1 ∙ d;
        reached = λ ts d v. (
            let f = fitted_values ts takes (ap (λ x. fit matches x (reverse (known ts)) (reverse takes)) (sym d) ∙ ap (λ l. fit matches s.dead l (reverse takes)) (sym v) ∙ p.0) in
            record {
              fits = (refl, refl);
              below = f.below;
              is = f.is;
              after = (ap (λ u. u.dead) p.1 ∙ d, ap (λ u. u.top) p.1 ∙ ap (λ l. reverse (known gives) ++ drop (length takes) l) v ∙ ap (λ l. reverse (known gives) ++ l) f.rest ∙ put_on f.below gives);
            });
      }

  pub leave_moves : (takes : List Ty) → ◌≡◌ {A = Met Ty × Stack Ty} (met, t) (leave_step matches is_of_kind I32 takes s) → IsMet met → Moves c (forms.Leaves takes) takes [] true s t
  leave_moves takes e m =
      let p = by_test t s (left s) met Planned (fit matches s.dead s.top (reverse takes)) e m in
      record {
        outer = ap (λ u. u.outer) p.1;
        unreached = λ d. ap (λ u. u.dead) p.1;
        reached = λ ts d v. (
            let f = fitted_values ts takes (ap (λ x. fit matches x (reverse (known ts)) (reverse takes)) (sym d) ∙ ap (λ l. fit matches s.dead l (reverse takes)) (sym v) ∙ p.0) in
            record {
              fits = (refl, refl);
              below = f.below;
              is = f.is;
              after = ap (λ u. u.dead) p.1;
            });
      }

-- the values of a stack, the top first
pub from_top : (ts : List Ty) (s : Stack Ty) → s.top ≡ reverse (known ts) → s.top ≡ known (reverse ts)
from_top ts s v = v ∙ known_reverse ts

from_last : (ts r : List Ty) → reverse ts ≡ r → ts ≡ reverse r
from_last ts r e = sym (reverse-reverse ts) ∙ ap reverse e

below_is : (r : List Ty) → known r ≡ reverse (known (reverse r))
below_is r = sym (known_reverse (reverse r) ∙ ap known (reverse-reverse r))

-- the same types on top of the same values
same_top : (a v w : List Ty) → fit matches false (known a) v ≡ true → fit matches false (known a) w ≡ true → length v ≡ length w → v ≡ w
same_top a [] [] p q e = refl
same_top a [] (y ∷ w) p q e = let no : ⊥ = omega (arith, e) in absurd no
same_top a (x ∷ v) [] p q e = let no : ⊥ = omega (arith, e) in absurd no
same_top [] (x ∷ v) (y ∷ w) p q e = let no : ⊥ = cc in absurd no
same_top (t ∷ a) (x ∷ v) (y ∷ w) p q e =
    let f = both_true (matches t x) (fit matches false (known a) v) p in
    let g = both_true (matches t y) (fit matches false (known a) w) q in
    let heads : x ≡ y = sym (matches_equal t x f.0) ∙ matches_equal t y g.0 in
    ap (λ h. h ∷ v) heads ∙ ap (λ l. y ∷ l) (same_top a v w f.1 g.1 (omega (arith, e)))

sub_self : (ts : List Ty) → AllSub matches ts ts
sub_self [] = tt
sub_self (t ∷ ts) = (matches_self t, sub_self ts)

-- labels that take what lies on top take what the last label takes
labels_fit : (a last : List Ty) (others : List (List Ty)) → fit matches false (known a) (reverse last) ≡ true → list_all (fit_label matches is_of_kind I32 false (known a) (length last)) others ≡ true → AllByRecursion (λ label. AllSub matches last label) others
labels_fit a last [] p q = tt
labels_fit a last (label ∷ others) p q =
    let both = both_true (fit_label matches is_of_kind I32 false (known a) (length last) label) (list_all (fit_label matches is_of_kind I32 false (known a) (length last)) others) q in
    let one = both_true (length label == length last) (fit matches false (known a) (reverse label)) both.0 in
    let lengths : length (reverse last) ≡ length (reverse label) = grind (arith, length-reverse last, length-reverse label, one.0) in
    let same : last ≡ label = sym (reverse-reverse last) ∙ ap reverse (same_top a (reverse last) (reverse label) p one.1 lengths) ∙ reverse-reverse label in
    (subst (λ l. AllSub matches last l) same (sub_self last), labels_fit a last others p both.1)

module _ (c : Context) (s t : Stack Ty) (met : Met Ty) where
  -- values r, the top first, from which one operand was taken
  any_kept : (kind : Kind) (gives : List Ty) (r : List Ty) → s.dead ≡ false → s.top ≡ known r → ◌≡◌ {A = Met Ty × Stack Ty} (met, t) (any_step matches is_of_kind I32 kind gives s (topmost false (known r))) → IsMet met → Kept c (forms.Any kind gives) (any_types gives (type_met met)).0 (any_types gives (type_met met)).1 false (reverse r) t
  any_kept kind gives [] d v e m = absurd (subst IsMet (ap (λ p. p.0) e) m)
  any_kept kind gives (x ∷ r) d v e m =
      let p = by_test t s (took 1 gives s) met (One (Known x)) (is_of_kind kind x) e m in
      subst (λ o. Kept c (forms.Any kind gives) (any_types gives (type_met o)).0 (any_types gives (type_met o)).1 false (reverse (x ∷ r)) t) (sym p.2)
      (record {
        fits = ((x, refl, p.0), refl);
        below = reverse r;
        is = reverse-cons x r;
        after = (ap (λ u. u.dead) p.1 ∙ d, ap (λ u. u.top) p.1 ∙ ap (λ l. reverse (known gives) ++ drop 1 l) v ∙ ap (λ l. reverse (known gives) ++ l) (below_is r) ∙ put_on (reverse r) gives);
      })

  any_frame : (kind : Kind) (gives : List Ty) (o : Option (Operand Ty)) → ◌≡◌ {A = Met Ty × Stack Ty} (met, t) (any_step matches is_of_kind I32 kind gives s o) → IsMet met → (t.outer ≡ s.outer) × (t.dead ≡ s.dead)
  any_frame kind gives None e m = absurd (subst IsMet (ap (λ p. p.0) e) m)
  any_frame kind gives (Some a) e m =
      let p = by_test t s (took 1 gives s) met (One a) (is_of matches is_of_kind I32 kind a) e m in
      (ap (λ u. u.outer) p.1, ap (λ u. u.dead) p.1)

  pub any_moves : (kind : Kind) (gives : List Ty) → ◌≡◌ {A = Met Ty × Stack Ty} (met, t) (any_step matches is_of_kind I32 kind gives s (topmost s.dead s.top)) → IsMet met → Moves c (forms.Any kind gives) (any_types gives (type_met met)).0 (any_types gives (type_met met)).1 false s t
  any_moves kind gives e m =
      let frame = any_frame kind gives (topmost s.dead s.top) e m in
      record {
        outer = frame.0;
        unreached = λ d. frame.1 ∙ d;
        reached = λ ts d v.
            subst (λ l. Kept c (forms.Any kind gives) (any_types gives (type_met met)).0 (any_types gives (type_met met)).1 false l t) (reverse-reverse ts)
            (any_kept kind gives (reverse ts) d (from_top ts s v)
            (e ∙ ap (λ x. any_step matches is_of_kind I32 kind gives s (topmost x s.top)) d ∙ ap (λ l. any_step matches is_of_kind I32 kind gives s (topmost false l)) (from_top ts s v)) m);
      }

  -- the same of a select: a condition, and under it two operands
  select_kept : (r : List Ty) → s.dead ≡ false → s.top ≡ known r → ◌≡◌ {A = Met Ty × Stack Ty} (met, t) (select_step matches is_of_kind I32 s (topmost false (drop 2 (known r))) (topmost false (drop 1 (known r)))) → IsMet met → Kept c forms.Select (select_types (type_met met)).0 (select_types (type_met met)).1 false (reverse r) t
  select_kept [] d v e m = absurd (subst IsMet (ap (λ p. p.0) e) m)
  select_kept (x ∷ []) d v e m = absurd (subst IsMet (ap (λ p. p.0) e) m)
  select_kept (x ∷ (y ∷ [])) d v e m = absurd (subst IsMet (ap (λ p. p.0) e) m)
  select_kept (x ∷ (y ∷ (z ∷ r))) d v e m =
      let p = by_test t s (record s { top = Known z ∷ drop 3 s.top }) met (One (Known z)) (fit matches s.dead s.top (I32 ∷ []) && is_of_kind Plain z && is_of_kind Plain y && matches z y) e m in
      let last = both_true (fit matches s.dead s.top (I32 ∷ []) && is_of_kind Plain z && is_of_kind Plain y) (matches z y) p.0 in
      let plain = both_true (fit matches s.dead s.top (I32 ∷ []) && is_of_kind Plain z) (is_of_kind Plain y) last.0 in
      let first = both_true (fit matches s.dead s.top (I32 ∷ [])) (is_of_kind Plain z) plain.0 in
      let on_top : (matches x I32 && true) ≡ true = ap (λ b. fit matches b (known (x ∷ (y ∷ (z ∷ r)))) (I32 ∷ [])) (sym d) ∙ ap (λ l. fit matches s.dead l (I32 ∷ [])) (sym v) ∙ first.0 in
      let condition : x ≡ I32 = matches_equal x I32 (both_true (matches x I32) true on_top).0 in
      let same : z ≡ y = matches_equal z y last.1 in
      subst (λ o. Kept c forms.Select (select_types (type_met o)).0 (select_types (type_met o)).1 false (reverse (x ∷ (y ∷ (z ∷ r)))) t) (sym p.2)
      (record {
        fits = (z, refl, refl, first.1);
        below = reverse r;
        is = reversed_three x y z r ∙ ap (λ h. reverse r ++ (z ∷ (h ∷ (x ∷ [])))) (sym same) ∙ ap (λ h. reverse r ++ (z ∷ (z ∷ (h ∷ [])))) condition;
        after = (ap (λ u. u.dead) p.1 ∙ d, ap (λ u. u.top) p.1 ∙ ap (λ l. Known z ∷ drop 3 l) v ∙ ap (λ l. Known z ∷ l) (below_is r) ∙ put_on (reverse r) (z ∷ []));
      })
    where
      reversed_three : (x y z : Ty) (r : List Ty) → reverse (x ∷ (y ∷ (z ∷ r))) ≡ reverse r ++ (z ∷ (y ∷ (x ∷ [])))
      reversed_three x y z r =
          reverse-cons x (y ∷ (z ∷ r))
          ∙ ap (λ l. l ++ x ∷ []) (reverse-cons y (z ∷ r) ∙ ap (λ l. l ++ y ∷ []) (reverse-cons z r))
          ∙ append_assoc (reverse r ++ z ∷ []) (y ∷ []) (x ∷ [])
          ∙ append_assoc (reverse r) (z ∷ []) (y ∷ (x ∷ []))

  select_frame : (a b : Option (Operand Ty)) → ◌≡◌ {A = Met Ty × Stack Ty} (met, t) (select_step matches is_of_kind I32 s a b) → IsMet met → (t.outer ≡ s.outer) × (t.dead ≡ s.dead)
  select_frame None b e m = absurd (subst IsMet (ap (λ p. p.0) e) m)
  select_frame (Some a) None e m = absurd (subst IsMet (ap (λ p. p.0) e) m)
  select_frame (Some a) (Some b) e m =
      let p = by_test t s (record s { top = joined a b ∷ drop 3 s.top }) met (One (joined a b)) (fit matches s.dead s.top (I32 ∷ []) && is_of matches is_of_kind I32 Plain a && is_of matches is_of_kind I32 Plain b && agree matches is_of_kind I32 a b) e m in
      (ap (λ u. u.outer) p.1, ap (λ u. u.dead) p.1)

  pub select_moves : ◌≡◌ {A = Met Ty × Stack Ty} (met, t) (select_step matches is_of_kind I32 s (topmost s.dead (drop 2 s.top)) (topmost s.dead (drop 1 s.top))) → IsMet met → Moves c forms.Select (select_types (type_met met)).0 (select_types (type_met met)).1 false s t
  select_moves e m =
      let frame = select_frame (topmost s.dead (drop 2 s.top)) (topmost s.dead (drop 1 s.top)) e m in
      record {
        outer = frame.0;
        unreached = λ d. frame.1 ∙ d;
        reached = λ ts d v.
            subst (λ l. Kept c forms.Select (select_types (type_met met)).0 (select_types (type_met met)).1 false l t) (reverse-reverse ts)
            (select_kept (reverse ts) d (from_top ts s v)
            (e ∙ ap (λ x. select_step matches is_of_kind I32 s (topmost x (drop 2 s.top)) (topmost x (drop 1 s.top))) d ∙ ap (λ l. select_step matches is_of_kind I32 s (topmost false (drop 2 l)) (topmost false (drop 1 l))) (from_top ts s v)) m);
      }

  -- br_table: a condition, and under it what the labels take
  table_kept : (last : List Ty) (others : List (List Ty)) (r : List Ty) → fit matches false (known r) (I32 ∷ []) ≡ true → fit matches false (drop 1 (known r)) (reverse last) ≡ true → list_all (fit_label matches is_of_kind I32 false (drop 1 (known r)) (length last)) others ≡ true → t.dead ≡ true → Kept c (forms.Table last others) (last ++ I32 ∷ []) [] true (reverse r) t
  table_kept last others [] p q k d = let no : ⊥ = cc in absurd no
  table_kept last others (x ∷ r) p q k d =
      let condition : x ≡ I32 = matches_equal x I32 (both_true (matches x I32) true p).0 in
      let f = fitted_values (reverse r) last (subst (λ l. fit matches false l (reverse last) ≡ true) (below_is r) q) in
      record {
        fits = (last, refl, refl, sub_self last, labels_fit r last others q k);
        below = f.below;
        is = reverse-cons x r ∙ ap (λ l. l ++ x ∷ []) f.is ∙ append_assoc f.below last (x ∷ []) ∙ ap (λ h. f.below ++ (last ++ h ∷ [])) condition;
        after = d;
      }

  pub table_moves : (last : List Ty) (others : List (List Ty)) → ◌≡◌ {A = Met Ty × Stack Ty} (met, t) (table_step matches is_of_kind I32 last others s) → IsMet met → Moves c (forms.Table last others) (last ++ I32 ∷ []) [] true s t
  table_moves last others e m =
      let p = by_test t s (left s) met Planned (fit matches s.dead s.top (I32 ∷ []) && fit matches s.dead (drop 1 s.top) (reverse last) && list_all (fit_label matches is_of_kind I32 s.dead (drop 1 s.top) (length last)) others) e m in
      let labels = both_true (fit matches s.dead s.top (I32 ∷ []) && fit matches s.dead (drop 1 s.top) (reverse last)) (list_all (fit_label matches is_of_kind I32 s.dead (drop 1 s.top) (length last)) others) p.0 in
      let types = both_true (fit matches s.dead s.top (I32 ∷ [])) (fit matches s.dead (drop 1 s.top) (reverse last)) labels.0 in
      record {
        outer = ap (λ u. u.outer) p.1;
        unreached = λ d. ap (λ u. u.dead) p.1;
        reached = λ ts d v.
            subst (λ l. Kept c (forms.Table last others) (last ++ I32 ∷ []) [] true l t) (reverse-reverse ts)
            (table_kept last others (reverse ts)
            (subst (λ l. fit matches false l (I32 ∷ []) ≡ true) (from_top ts s v) (subst (λ b. fit matches b s.top (I32 ∷ []) ≡ true) d types.0))
            (subst (λ l. fit matches false (drop 1 l) (reverse last) ≡ true) (from_top ts s v) (subst (λ b. fit matches b (drop 1 s.top) (reverse last) ≡ true) d types.1))
            (subst (λ l. list_all (fit_label matches is_of_kind I32 false (drop 1 l) (length last)) others ≡ true) (from_top ts s v) (subst (λ b. list_all (fit_label matches is_of_kind I32 b (drop 1 s.top) (length last)) others ≡ true) d labels.1))
            (ap (λ u. u.dead) p.1));
      }
