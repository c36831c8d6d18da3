-- The forms that nothing follows: leaving, and a table of labels.
use Rattle.std.proofs.Common.{◌≡◌, ℕ, zero, suc, Bool, true, false, ◌&&◌, ◌==◌, List, [], ◌∷◌, ◌++◌, length, drop, reverse, refl, ap, sym, subst, ◌∙◌, arith}
use Rattle.std.specs.List.{AllByRecursion, list_all}
use Rattle.std.proofs.lemmas.List.{reverse-append, reverse-reverse, length-reverse, append_assoc}
use Rattle.std.proofs.lemmas.Bool.Decides.{nat_tests}
use Rattle.typing_kit.specs.declared.operand.Operand.{Operand}
use Rattle.typing_kit.specs.declared.operand.Operand.TheVariants.{Known, Bottom}
use Rattle.typing_kit.specs.Matching.{known, AllMatch}
use Rattle.typing_kit.specs.Form.{Language, Leaves, Table}
use Rattle.typing_kit.specs.Typing.{Typed, flat, any, select, leaves, table, block, choice}
use Rattle.typing_kit.specs.Stack.{meets, fit}
use Rattle.typing_kit.specs.Steps.{fit_label}
use Rattle.typing_kit.proofs.Lists.{map-reverse}
use Rattle.typing_kit.specs.Progress.{Covers, Leads, Stuck}
use Rattle.typing_kit.proofs.Laws.{Lawful, match_refl, all_trans, all_split, all_reverse}
use Rattle.typing_kit.proofs.Covering.{covers_refl, fitted, covered, same_length, both, first_of_both, second_of_both, meets_to}
use Rattle.typing_kit.proofs.Leading.{leaving_leads, stuck_by}

module _ {T I : Type 0} (L : Language T I) where
  record LeavesParts (takes : List T) (t : List (Operand T)) : Type 0 where
    below : List (Operand T)
    is : t ≡ below ++ known takes

  leaves_parts : {ls : List (List T)} {i : I} {t g : List (Operand T)} (takes : List T) → Typed L ls i t g → L.form ls i ≡ Leaves takes → LeavesParts takes t
  leaves_parts takes (leaves ls i a below after f) e = let same : a ≡ takes = cc in record { below = below; is = ap (λ l. below ++ known l) same }
  leaves_parts takes (flat ls i a b f) e = let no : ⊥ = cc in absurd no
  leaves_parts takes (any ls i kind b t f k) e = let no : ⊥ = cc in absurd no
  leaves_parts takes (select ls i t f k) e = let no : ⊥ = cc in absurd no
  leaves_parts takes (table ls i last others a below after f m n) e = let no : ⊥ = cc in absurd no
  leaves_parts takes (block ls i label a b code f c) e = let no : ⊥ = cc in absurd no
  leaves_parts takes (choice ls i label a b first second f c d) e = let no : ⊥ = cc in absurd no

  record TableParts (last : List T) (others : List (List T)) (t : List (Operand T)) : Type 0 where
    below : List (Operand T)
    takes : List (Operand T)
    is : t ≡ below ++ (takes ++ Known L.condition ∷ [])
    last_matches : AllMatch L.sub takes (known last)
    others_match : AllByRecursion (λ label. AllMatch L.sub takes (known label)) others

  table_parts : {ls : List (List T)} {i : I} {t g : List (Operand T)} (last : List T) (others : List (List T)) → Typed L ls i t g → L.form ls i ≡ Table last others → TableParts last others t
  table_parts last others (table ls i last' others' a below after f m n) e =
      let same : last' ≡ last = cc in
      let same_others : others' ≡ others = cc in
      record {
        below = below;
        takes = a;
        is = refl;
        last_matches = subst (λ l. AllMatch L.sub a (known l)) same m;
        others_match = subst (λ l. AllByRecursion (λ label. AllMatch L.sub a (known label)) l) same_others n;
      }
  table_parts last others (leaves ls i a below after f) e = let no : ⊥ = cc in absurd no
  table_parts last others (flat ls i a b f) e = let no : ⊥ = cc in absurd no
  table_parts last others (any ls i kind b t f k) e = let no : ⊥ = cc in absurd no
  table_parts last others (select ls i t f k) e = let no : ⊥ = cc in absurd no
  table_parts last others (block ls i label a b code f c) e = let no : ⊥ = cc in absurd no
  table_parts last others (choice ls i label a b first second f c d) e = let no : ⊥ = cc in absurd no

  module _ (laws : Lawful L) (ls : List (List T)) (i : I) (dead : Bool) (s : List (Operand T)) where
    module _ (takes : List T) (form : L.form ls i ≡ Leaves takes) where
      pub leaves_lead : fit L.sub dead s (reverse takes) ≡ true → Leads L ls i dead s true []
      leaves_lead f =
          let below = drop (length takes) s in
          leaving_leads L laws ls i dead s (reverse below ++ known takes)
          (λ g. leaves ls i takes (reverse below) g form)
          (subst (λ l. Covers L.sub dead s l) (sym (reverse-append (reverse below) (known takes) ∙ ap (λ l. reverse (known takes) ++ l) (reverse-reverse below)))
          (covered L laws dead s takes below f (covers_refl L laws dead below)))

      pub leaves_stuck : fit L.sub dead s (reverse takes) ≡ false → Stuck L ls i dead s
      leaves_stuck f = stuck_by L laws ls i dead s (λ t g o v d m c.
          (let p = leaves_parts takes d form in
          let q = all_split L.sub o p.below (known takes) (subst (λ l. AllMatch L.sub o l) p.is m) in
          let c' : Covers L.sub dead s (reverse q.back ++ (reverse q.front ++ v)) =
          subst (λ l. Covers L.sub dead s l) (ap (λ l. reverse l ++ v) q.is ∙ ap (λ l. l ++ v) (reverse-append q.front q.back) ∙ append_assoc (reverse q.back) (reverse q.front) v) c in
          let no : true ≡ false = sym (fitted L laws dead s takes q.back (reverse q.front ++ v) q.back_matches c').0 ∙ f in cc))

  -- the topmost operands, so many of them, with bot where the stack has no more
  padded : ℕ → List (Operand T) → List (Operand T)
  padded zero s = []
  padded (suc n) [] = Bottom ∷ padded n []
  padded (suc n) (a ∷ s) = a ∷ padded n s

  module _ (laws : Lawful L) where
    none_lack : (us : List T) → fit L.sub true [] us ≡ true
    none_lack [] = refl
    none_lack (u ∷ us) = refl

    padded_matches : (dead : Bool) (s : List (Operand T)) (ts : List T) (n : ℕ) → length ts ≡ n → fit L.sub dead s ts ≡ true → AllMatch L.sub (padded n s) (known ts)
    unfolding padded
    padded_matches dead s [] zero e f = tt
    padded_matches dead s [] (suc n) e f = absurd (omega arith)
    padded_matches dead s (t ∷ ts) zero e f = absurd (omega arith)
    padded_matches dead [] (t ∷ ts) (suc n) e f = (tt, padded_matches true [] ts n (omega arith) (none_lack ts))
    padded_matches dead (a ∷ s) (t ∷ ts) (suc n) e f = (meets_to L laws a t (first_of_both _ (fit L.sub dead s ts) f), padded_matches dead s ts n (omega arith) (second_of_both (meets L.sub a t) _ f))

    padded_covers : (dead : Bool) (s : List (Operand T)) (ts : List T) → fit L.sub dead s ts ≡ true → Covers L.sub dead s (padded (length ts) s ++ drop (length ts) s)
    unfolding padded
    padded_covers dead s [] f = covers_refl L laws dead s
    padded_covers dead [] (t ∷ ts) f = f
    padded_covers dead (a ∷ s) (t ∷ ts) f = (match_refl L laws a, padded_covers dead s ts (second_of_both (meets L.sub a t) _ f))

    -- in the order of the rules
    label_matches : (dead : Bool) (s : List (Operand T)) (label : List T) (n : ℕ) → length label ≡ n → fit L.sub dead s (reverse label) ≡ true → AllMatch L.sub (reverse (padded n s)) (known label)
    label_matches dead s label n e f =
        subst (λ l. AllMatch L.sub (reverse (padded n s)) l) (sym (map-reverse Known (reverse label)) ∙ ap known (reverse-reverse label))
        (all_reverse L.sub (padded n s) (known (reverse label)) (padded_matches dead s (reverse label) n (length-reverse label ∙ e) f))

    equal_lengths : (a b : ℕ) → (a == b) ≡ true → a ≡ b
    equal_lengths a b e = grind (arith, nat_tests)

    lengths_equal : (a b : ℕ) → a ≡ b → (a == b) ≡ true
    lengths_equal a b e = grind (arith, nat_tests)

    labels_match : (dead : Bool) (s : List (Operand T)) (n : ℕ) (labels : List (List T)) → list_all (fit_label L.sub L.of_kind L.condition dead s n) labels ≡ true → AllByRecursion (λ label. AllMatch L.sub (reverse (padded n s)) (known label)) labels
    labels_match dead s n [] f = tt
    labels_match dead s n (label ∷ labels) f =
        let this = first_of_both _ (list_all (fit_label L.sub L.of_kind L.condition dead s n) labels) f in (
          label_matches dead s label n (equal_lengths (length label) n (first_of_both _ (fit L.sub dead s (reverse label)) this)) (second_of_both (length label == n) _ this),
          labels_match dead s n labels (second_of_both (fit_label L.sub L.of_kind L.condition dead s n label) _ f),
        )

    -- operands that match each label fit each
    labels_fit : (dead : Bool) (s : List (Operand T)) (n : ℕ) (o takes v : List (Operand T)) (labels : List (List T)) → length takes ≡ n → AllMatch L.sub o takes → Covers L.sub dead s (reverse o ++ v) → AllByRecursion (λ label. AllMatch L.sub takes (known label)) labels → list_all (fit_label L.sub L.of_kind L.condition dead s n) labels ≡ true
    labels_fit dead s n o takes v [] e m c all = refl
    labels_fit dead s n o takes v (label ∷ labels) e m c all =
        both _ _
        (both _ _ (lengths_equal (length label) n (sym (same_length L laws takes label all.0) ∙ e)) (fitted L laws dead s label o v (all_trans L laws o takes (known label) m all.0) c).0)
        (labels_fit dead s n o takes v labels e m c all.1)

    module _ (ls : List (List T)) (i : I) (dead : Bool) (s : List (Operand T)) (last : List T) (others : List (List T)) (form : L.form ls i ≡ Table last others) where
      pub table_leads : fit L.sub dead s (L.condition ∷ []) ≡ true → fit L.sub dead (drop 1 s) (reverse last) ≡ true → list_all (fit_label L.sub L.of_kind L.condition dead (drop 1 s) (length last)) others ≡ true → Leads L ls i dead s true []
      table_leads f g h =
          let r = drop 1 s in
          let n = length last in
          let taken = padded n r in
          let below = drop n r in
          let c : Covers L.sub dead r (taken ++ below) = subst (λ k. Covers L.sub dead r (padded k r ++ drop k r)) (length-reverse last) (padded_covers dead r (reverse last) g) in
          let turned : reverse (reverse below ++ (reverse taken ++ Known L.condition ∷ [])) ≡ Known L.condition ∷ (taken ++ below) =
          reverse-append (reverse below) (reverse taken ++ Known L.condition ∷ [])
          ∙ ap (λ l. l ++ reverse (reverse below)) (reverse-append (reverse taken) (Known L.condition ∷ []) ∙ ap (λ l. Known L.condition ∷ l) (reverse-reverse taken))
          ∙ ap (λ l. (Known L.condition ∷ taken) ++ l) (reverse-reverse below) in
          leaving_leads L laws ls i dead s (reverse below ++ (reverse taken ++ Known L.condition ∷ []))
          (λ after. table ls i last others (reverse taken) (reverse below) after form (label_matches dead r last n refl g) (labels_match dead r n others h))
          (subst (λ l. Covers L.sub dead s l) (sym turned) (covered L laws dead s (L.condition ∷ []) (taken ++ below) f c))

      pub table_fits : (t g o v : List (Operand T)) → Typed L ls i t g → AllMatch L.sub o t → Covers L.sub dead s (reverse o ++ v) → (fit L.sub dead s (L.condition ∷ []) && fit L.sub dead (drop 1 s) (reverse last) && list_all (fit_label L.sub L.of_kind L.condition dead (drop 1 s) (length last)) others) ≡ true
      table_fits t g o v d m c =
          let p = table_parts last others d form in
          let q = all_split L.sub o p.below (p.takes ++ Known L.condition ∷ []) (subst (λ l. AllMatch L.sub o l) p.is m) in
          let r = all_split L.sub q.back p.takes (Known L.condition ∷ []) q.back_matches in
          let v' = reverse q.front ++ v in
          let turned : reverse o ++ v ≡ reverse r.back ++ (reverse r.front ++ v') =
          ap (λ l. reverse l ++ v) q.is ∙ ap (λ l. l ++ v) (reverse-append q.front q.back) ∙ append_assoc (reverse q.back) (reverse q.front) v
          ∙ ap (λ l. reverse l ++ v') r.is ∙ ap (λ l. l ++ v') (reverse-append r.front r.back) ∙ append_assoc (reverse r.back) (reverse r.front) v' in
          let top = fitted L laws dead s (L.condition ∷ []) r.back (reverse r.front ++ v') r.back_matches (subst (λ l. Covers L.sub dead s l) turned c) in
          let at_last = fitted L laws dead (drop 1 s) last r.front v' (all_trans L laws r.front p.takes (known last) r.front_matches p.last_matches) top.1 in
          both _ _ (both _ _ top.0 at_last.0) (labels_fit dead (drop 1 s) (length last) r.front p.takes v' others (same_length L laws p.takes last p.last_matches) r.front_matches top.1 p.others_match)
