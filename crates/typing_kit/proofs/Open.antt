-- The forms that leave a type open: one operand of a kind, and select.
use Rattle.std.proofs.Common.{◌≡◌, Bool, true, false, ◌&&◌, List, [], ◌∷◌, ◌++◌, drop, reverse, refl, ap, sym, subst, ◌∙◌, Option, Some, None}
use Rattle.typing_kit.specs.declared.kind.Kind.{Kind}
use Rattle.typing_kit.specs.declared.kind.Kind.TheVariants.{Plain}
use Rattle.typing_kit.specs.declared.operand.Operand.{Operand}
use Rattle.typing_kit.specs.declared.operand.Operand.TheVariants.{Known, Bottom}
use Rattle.typing_kit.specs.Matching.{known, IsOf, Matches, AllMatch}
use Rattle.typing_kit.specs.Form.{Language, Any, Select}
use Rattle.typing_kit.specs.Typing.{Typed, flat, any, select, leaves, table, block, choice}
use Rattle.typing_kit.specs.Stack.{fit}
use Rattle.typing_kit.specs.Steps.{topmost, joined, is_of, agree}
use Rattle.typing_kit.specs.Progress.{Covers, Leads, Stuck}
use Rattle.typing_kit.proofs.Laws.{Lawful, match_refl, match_trans, all_refl, is_of_below}
use Rattle.typing_kit.proofs.Covering.{covers_append, covers_rest, covers_topmost, covers_above, fitted, covered}
use Rattle.typing_kit.proofs.Leading.{Best, best_leads, stuck_by}

all_four : (a b c d : Bool) → a ≡ true → b ≡ true → c ≡ true → d ≡ true → (a && b && c && d) ≡ true
all_four a b c d p q r s = ap (λ x. x && b && c && d) p ∙ ap (λ x. x && c && d) q ∙ ap (λ x. x && d) r ∙ s

module _ {T I : Type 0} (L : Language T I) where
  pub is_of_true : (kind : Kind) (a : Operand T) → is_of L.sub L.of_kind L.condition kind a ≡ true → IsOf (L.of_kind kind) a
  is_of_true kind (Known t) e = e
  is_of_true kind Bottom e = tt

  pub true_is_of : (kind : Kind) (a : Operand T) → IsOf (L.of_kind kind) a → is_of L.sub L.of_kind L.condition kind a ≡ true
  true_is_of kind (Known t) e = e
  true_is_of kind Bottom e = refl

  record AnyParts (kind : Kind) (gives : List T) (t g : List (Operand T)) : Type 0 where
    operand : Operand T
    takes_is : t ≡ operand ∷ []
    gives_is : g ≡ known gives
    of_kind : IsOf (L.of_kind kind) operand

  any_parts : {ls : List (List T)} {i : I} {t g : List (Operand T)} (kind : Kind) (gives : List T) → Typed L ls i t g → L.form ls i ≡ Any kind gives → AnyParts kind gives t g
  any_parts kind gives (any ls i kind' b t f k) e =
      let same : kind' ≡ kind = cc in
      let given : b ≡ gives = cc in
      record { operand = t; takes_is = refl; gives_is = ap known given; of_kind = subst (λ x. IsOf (L.of_kind x) t) same k }
  any_parts kind gives (flat ls i a b f) e = let no : ⊥ = cc in absurd no
  any_parts kind gives (select ls i t f k) e = let no : ⊥ = cc in absurd no
  any_parts kind gives (leaves ls i a below after f) e = let no : ⊥ = cc in absurd no
  any_parts kind gives (table ls i last others a below after f m n) e = let no : ⊥ = cc in absurd no
  any_parts kind gives (block ls i label a b code f c) e = let no : ⊥ = cc in absurd no
  any_parts kind gives (choice ls i label a b first second f c d) e = let no : ⊥ = cc in absurd no

  record SelectParts (t g : List (Operand T)) : Type 0 where
    operand : Operand T
    takes_is : t ≡ operand ∷ (operand ∷ (Known L.condition ∷ []))
    gives_is : g ≡ operand ∷ []
    plain : IsOf (L.of_kind Plain) operand

  select_parts : {ls : List (List T)} {i : I} {t g : List (Operand T)} → Typed L ls i t g → L.form ls i ≡ Select → SelectParts t g
  select_parts (select ls i t f k) e = record { operand = t; takes_is = refl; gives_is = refl; plain = k }
  select_parts (any ls i kind b t f k) e = let no : ⊥ = cc in absurd no
  select_parts (flat ls i a b f) e = let no : ⊥ = cc in absurd no
  select_parts (leaves ls i a below after f) e = let no : ⊥ = cc in absurd no
  select_parts (table ls i last others a below after f m n) e = let no : ⊥ = cc in absurd no
  select_parts (block ls i label a b code f c) e = let no : ⊥ = cc in absurd no
  select_parts (choice ls i label a b first second f c d) e = let no : ⊥ = cc in absurd no

  record One (o : List (Operand T)) (x : Operand T) : Type 0 where
    operand : Operand T
    is : o ≡ operand ∷ []
    matches : Matches L.sub operand x

  one_of : (o : List (Operand T)) (x : Operand T) → AllMatch L.sub o (x ∷ []) → One o x
  one_of [] x m = absurd m
  one_of (p ∷ []) x m = record { operand = p; is = refl; matches = m.0 }
  one_of (p ∷ (q ∷ o)) x m = absurd m.1

  record Three (o : List (Operand T)) (x y z : Operand T) : Type 0 where
    first : Operand T
    second : Operand T
    third : Operand T
    is : o ≡ first ∷ (second ∷ (third ∷ []))
    first_matches : Matches L.sub first x
    second_matches : Matches L.sub second y
    third_matches : Matches L.sub third z

  three_of : (o : List (Operand T)) (x y z : Operand T) → AllMatch L.sub o (x ∷ (y ∷ (z ∷ []))) → Three o x y z
  three_of [] x y z m = absurd m
  three_of (p ∷ []) x y z m = absurd m.1
  three_of (p ∷ (q ∷ [])) x y z m = absurd m.1.1
  three_of (p ∷ (q ∷ (r ∷ []))) x y z m = record { first = p; second = q; third = r; is = refl; first_matches = m.0; second_matches = m.1.0; third_matches = m.1.1.0 }
  three_of (p ∷ (q ∷ (r ∷ (l ∷ o)))) x y z m = absurd m.1.1.1

  drop_second : (s : List (Operand T)) → drop 1 (drop 1 s) ≡ drop 2 s
  drop_second [] = refl
  drop_second (a ∷ s) = refl

  drop_third : (s : List (Operand T)) → drop 1 (drop 2 s) ≡ drop 3 s
  drop_third [] = refl
  drop_third (a ∷ []) = refl
  drop_third (a ∷ (b ∷ s)) = refl

  module _ (laws : Lawful L) (ls : List (List T)) (i : I) (dead : Bool) (s : List (Operand T)) where
    -- the topmost operand that every typing finds
    module _ (kind : Kind) (gives : List T) (form : L.form ls i ≡ Any kind gives) where
      any_above : (t g o v : List (Operand T)) → Typed L ls i t g → AllMatch L.sub o t → Covers L.sub dead s (reverse o ++ v) → (a : Operand T) → topmost dead s ≡ Some a → IsOf (L.of_kind kind) a × Covers L.sub dead (drop 1 s) v × (g ≡ known gives)
      any_above t g o v d m c a e =
          let p = any_parts kind gives d form in
          let q = one_of o p.operand (subst (λ l. AllMatch L.sub o l) p.takes_is m) in
          let c' : Covers L.sub dead s (q.operand ∷ v) = subst (λ l. Covers L.sub dead s (reverse l ++ v)) q.is c in
          let u = covers_above L.sub dead s q.operand v c' in
          let same : u.operand ≡ a = (let both : Some u.operand ≡ Some a = sym u.is ∙ e in cc) in (
            is_of_below L laws kind a p.operand (match_trans L laws a q.operand p.operand (subst (λ x. Matches L.sub x q.operand) same u.matches) q.matches) p.of_kind,
            covers_rest L.sub dead s q.operand v c',
            p.gives_is,
          )

      any_best : (a : Operand T) → topmost dead s ≡ Some a → IsOf (L.of_kind kind) a → Best L laws ls i dead s (drop 1 s) (a ∷ []) (known gives)
      any_best a e k = record {
        typed = any ls i kind gives a form k;
        taken = λ v c. covers_topmost L.sub dead s a a v e (match_refl L laws a) c;
        best = λ t g o v d m c.
            (let r = any_above t g o v d m c a e in
            subst (λ l. Covers L.sub dead (reverse (known gives) ++ drop 1 s) (reverse l ++ v)) (sym r.2)
            (covers_append L.sub dead (reverse (known gives)) (reverse (known gives)) (drop 1 s) v (all_refl L laws (reverse (known gives))) r.1));
      }

      pub any_leads : (a : Operand T) → topmost dead s ≡ Some a → is_of L.sub L.of_kind L.condition kind a ≡ true → Leads L ls i dead s dead (reverse (known gives) ++ drop 1 s)
      any_leads a e k = best_leads L laws ls i dead s (drop 1 s) (a ∷ []) (known gives) (any_best a e (is_of_true kind a k))

      pub any_not_of : (a : Operand T) → topmost dead s ≡ Some a → is_of L.sub L.of_kind L.condition kind a ≡ false → Stuck L ls i dead s
      any_not_of a e k = stuck_by L laws ls i dead s (λ t g o v d m c.
          (let yes = true_is_of kind a (any_above t g o v d m c a e).0 in
          let no : true ≡ false = sym yes ∙ k in cc))

      pub any_none : topmost dead s ≡ None → Stuck L ls i dead s
      any_none e = stuck_by L laws ls i dead s (λ t g o v d m c.
          (let p = any_parts kind gives d form in
          let q = one_of o p.operand (subst (λ l. AllMatch L.sub o l) p.takes_is m) in
          let u = covers_above L.sub dead s q.operand v (subst (λ l. Covers L.sub dead s (reverse l ++ v)) q.is c) in
          let no : Some u.operand ≡ None = sym u.is ∙ e in cc))

    module _ (form : L.form ls i ≡ Select) where
      -- the operands that every typing finds
      record Selected (g v : List (Operand T)) : Type 0 where
        first : Operand T
        second : Operand T
        given : Operand T
        condition_fits : fit L.sub dead s (L.condition ∷ []) ≡ true
        second_is : topmost dead (drop 1 s) ≡ Some second
        first_is : topmost dead (drop 2 s) ≡ Some first
        second_matches : Matches L.sub second given
        first_matches : Matches L.sub first given
        plain : IsOf (L.of_kind Plain) given
        gives_is : g ≡ given ∷ []
        rest_covered : Covers L.sub dead (drop 3 s) v

      selected : (t g o v : List (Operand T)) → Typed L ls i t g → AllMatch L.sub o t → Covers L.sub dead s (reverse o ++ v) → Selected g v
      selected t g o v d m c =
          let p = select_parts d form in
          let x = p.operand in
          let q = three_of o x x (Known L.condition) (subst (λ l. AllMatch L.sub o l) p.takes_is m) in
          let c1 : Covers L.sub dead s (q.third ∷ (q.second ∷ (q.first ∷ v))) = subst (λ l. Covers L.sub dead s (reverse l ++ v)) q.is c in
          let fits = fitted L laws dead s (L.condition ∷ []) (q.third ∷ []) (q.second ∷ (q.first ∷ v)) (q.third_matches, tt) c1 in
          let above = covers_above L.sub dead (drop 1 s) q.second (q.first ∷ v) fits.1 in
          let c2 : Covers L.sub dead (drop 2 s) (q.first ∷ v) = subst (λ l. Covers L.sub dead l (q.first ∷ v)) (drop_second s) (covers_rest L.sub dead (drop 1 s) q.second (q.first ∷ v) fits.1) in
          let deeper = covers_above L.sub dead (drop 2 s) q.first v c2 in
          record {
            first = deeper.operand;
            second = above.operand;
            given = x;
            condition_fits = fits.0;
            second_is = above.is;
            first_is = deeper.is;
            second_matches = match_trans L laws above.operand q.second x above.matches q.second_matches;
            first_matches = match_trans L laws deeper.operand q.first x deeper.matches q.first_matches;
            plain = p.plain;
            gives_is = p.gives_is;
            rest_covered = subst (λ l. Covers L.sub dead l v) (drop_third s) (covers_rest L.sub dead (drop 2 s) q.first v c2);
          }

      some_same : (a b : Operand T) (o : Option (Operand T)) → o ≡ Some a → o ≡ Some b → a ≡ b
      some_same a b o p q = let both : Some a ≡ Some b = sym p ∙ q in cc

      -- both match one plain type, so they agree
      agree_under : (a b x : Operand T) → Matches L.sub a x → Matches L.sub b x → IsOf (L.of_kind Plain) x → agree L.sub L.of_kind L.condition a b ≡ true
      agree_under (Known t) (Known u) (Known w) p q k = ap (λ r. L.sub r u) (laws.alone t w k p) ∙ ap (λ r. L.sub w r) (laws.alone u w k q) ∙ laws.reflexive w
      agree_under (Known t) (Known u) Bottom p q k = absurd p
      agree_under (Known t) Bottom x p q k = refl
      agree_under Bottom b x p q k = refl

      first_matches_joined : (a b : Operand T) → Matches L.sub a (joined a b)
      first_matches_joined (Known t) b = laws.reflexive t
      first_matches_joined Bottom b = tt

      second_matches_joined : (a b : Operand T) → IsOf (L.of_kind Plain) b → agree L.sub L.of_kind L.condition a b ≡ true → Matches L.sub b (joined a b)
      second_matches_joined (Known t) (Known u) k e = subst (λ r. L.sub u r ≡ true) (sym (laws.alone t u k e)) (laws.reflexive u)
      second_matches_joined (Known t) Bottom k e = tt
      second_matches_joined Bottom b k e = match_refl L laws b

      joined_matches : (a b x : Operand T) → Matches L.sub a x → Matches L.sub b x → Matches L.sub (joined a b) x
      joined_matches (Known t) b x p q = p
      joined_matches Bottom b x p q = q

      joined_plain : (a b : Operand T) → IsOf (L.of_kind Plain) a → IsOf (L.of_kind Plain) b → IsOf (L.of_kind Plain) (joined a b)
      joined_plain (Known t) b p q = p
      joined_plain Bottom b p q = q

      module _ (a b : Operand T) (first_is : topmost dead (drop 2 s) ≡ Some a) (second_is : topmost dead (drop 1 s) ≡ Some b) where
        select_best : fit L.sub dead s (L.condition ∷ []) ≡ true → IsOf (L.of_kind Plain) a → IsOf (L.of_kind Plain) b → agree L.sub L.of_kind L.condition a b ≡ true → Best L laws ls i dead s (drop 3 s) (joined a b ∷ (joined a b ∷ (Known L.condition ∷ []))) (joined a b ∷ [])
        select_best f ka kb e = record {
          typed = select ls i (joined a b) form (joined_plain a b ka kb);
          taken = λ v c.
              (let j = joined a b in
              let c3 : Covers L.sub dead (drop 2 s) (j ∷ v) = covers_topmost L.sub dead (drop 2 s) a j v first_is (first_matches_joined a b) (subst (λ l. Covers L.sub dead l v) (sym (drop_third s)) c) in
              let c2 : Covers L.sub dead (drop 1 s) (j ∷ (j ∷ v)) = covers_topmost L.sub dead (drop 1 s) b j (j ∷ v) second_is (second_matches_joined a b kb e) (subst (λ l. Covers L.sub dead l (j ∷ v)) (sym (drop_second s)) c3) in
              covered L laws dead s (L.condition ∷ []) (j ∷ (j ∷ v)) f c2);
          best = λ t g o v d m c.
              (let r = selected t g o v d m c in
              let same_first = some_same r.first a (topmost dead (drop 2 s)) r.first_is first_is in
              let same_second = some_same r.second b (topmost dead (drop 1 s)) r.second_is second_is in
              subst (λ l. Covers L.sub dead (joined a b ∷ drop 3 s) (reverse l ++ v)) (sym r.gives_is)
              (joined_matches a b r.given (subst (λ x. Matches L.sub x r.given) same_first r.first_matches) (subst (λ x. Matches L.sub x r.given) same_second r.second_matches), r.rest_covered));
        }

        pub select_leads : fit L.sub dead s (L.condition ∷ []) ≡ true → is_of L.sub L.of_kind L.condition Plain a ≡ true → is_of L.sub L.of_kind L.condition Plain b ≡ true → agree L.sub L.of_kind L.condition a b ≡ true → Leads L ls i dead s dead (joined a b ∷ drop 3 s)
        select_leads f ka kb e = best_leads L laws ls i dead s (drop 3 s) (joined a b ∷ (joined a b ∷ (Known L.condition ∷ []))) (joined a b ∷ []) (select_best f (is_of_true Plain a ka) (is_of_true Plain b kb) e)

        -- what the test finds where a typing is
        pub select_fits : (t g o v : List (Operand T)) → Typed L ls i t g → AllMatch L.sub o t → Covers L.sub dead s (reverse o ++ v) → (fit L.sub dead s (L.condition ∷ []) && is_of L.sub L.of_kind L.condition Plain a && is_of L.sub L.of_kind L.condition Plain b && agree L.sub L.of_kind L.condition a b) ≡ true
        select_fits t g o v d m c =
            let r = selected t g o v d m c in
            let same_first = some_same r.first a (topmost dead (drop 2 s)) r.first_is first_is in
            let same_second = some_same r.second b (topmost dead (drop 1 s)) r.second_is second_is in
            let ma : Matches L.sub a r.given = subst (λ x. Matches L.sub x r.given) same_first r.first_matches in
            let mb : Matches L.sub b r.given = subst (λ x. Matches L.sub x r.given) same_second r.second_matches in
            let pa = true_is_of Plain a (is_of_below L laws Plain a r.given ma r.plain) in
            let pb = true_is_of Plain b (is_of_below L laws Plain b r.given mb r.plain) in
            let ag = agree_under a b r.given ma mb r.plain in
            all_four _ _ _ _ r.condition_fits pa pb ag

      pub select_lacks_second : topmost dead (drop 1 s) ≡ None → Stuck L ls i dead s
      select_lacks_second e = stuck_by L laws ls i dead s (λ t g o v d m c.
          (let r = selected t g o v d m c in
          let no : Some r.second ≡ None = sym r.second_is ∙ e in cc))

      pub select_lacks_first : topmost dead (drop 2 s) ≡ None → Stuck L ls i dead s
      select_lacks_first e = stuck_by L laws ls i dead s (λ t g o v d m c.
          (let r = selected t g o v d m c in
          let no : Some r.first ≡ None = sym r.first_is ∙ e in cc))
