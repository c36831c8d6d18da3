-- The stacks of the rules that a stack of the algorithm stands for. Both have the top first here.
use Rattle.std.proofs.Common.{◌≡◌, ℕ, suc, ◌≤◌, Bool, true, false, ◌&&◌, nat_le, List, [], ◌∷◌, ◌++◌, length, drop, reverse, refl, ap, sym, subst, ◌∙◌, arith, Some}
use Rattle.std.proofs.lemmas.List.{drop_all, length-reverse, length-map, append-nil}
use Rattle.typing_kit.proofs.Lists.{map-reverse}
use Rattle.std.proofs.lemmas.Bool.Decides.{nat_tests}
use Rattle.typing_kit.specs.declared.operand.Operand.{Operand}
use Rattle.typing_kit.specs.declared.operand.Operand.TheVariants.{Known, Bottom}
use Rattle.typing_kit.specs.Matching.{known, Matches, AllMatch}
use Rattle.typing_kit.specs.Form.{Language}
use Rattle.typing_kit.specs.Stack.{meets, fit, fit_whole}
use Rattle.typing_kit.specs.Steps.{topmost}
use Rattle.typing_kit.specs.Progress.{Covers}
use Rattle.typing_kit.proofs.Laws.{Lawful, match_refl, match_trans, all_reverse}

pub both : (a b : Bool) → a ≡ true → b ≡ true → (a && b) ≡ true
both a b p q = ap (λ x. x && b) p ∙ q

pub first_of_both : (a b : Bool) → (a && b) ≡ true → a ≡ true
first_of_both true b e = refl
first_of_both false b e = e

pub second_of_both : (a b : Bool) → (a && b) ≡ true → b ≡ true
second_of_both true b e = e
second_of_both false b e = let no : ⊥ = cc in absurd no

module _ {T : Type 0} (sub : T → T → Bool) where
  pub covers_dead : (v : List (Operand T)) → Covers sub true [] v
  covers_dead [] = tt
  covers_dead (b ∷ v) = refl

  -- what lies below all operands
  covers_below : (dead : Bool) (v : List (Operand T)) → dead ≡ true → Covers sub dead [] v
  covers_below dead [] e = tt
  covers_below dead (b ∷ v) e = e

  pub covers_append : (dead : Bool) (g f s v : List (Operand T)) → AllMatch sub g f → Covers sub dead s v → Covers sub dead (g ++ s) (f ++ v)
  covers_append dead [] [] s v m c = c
  covers_append dead [] (y ∷ f) s v m c = absurd m
  covers_append dead (x ∷ g) [] s v m c = absurd m
  covers_append dead (x ∷ g) (y ∷ f) s v m c = (m.0, covers_append dead g f s v m.1 c)

  pub record Front (dead : Bool) (g s v : List (Operand T)) : Type 0 where
    pub front : List (Operand T)
    pub back : List (Operand T)
    pub is : v ≡ front ++ back
    pub front_matches : AllMatch sub g front
    pub back_covered : Covers sub dead s back

  pub covers_front : (dead : Bool) (g s v : List (Operand T)) → Covers sub dead (g ++ s) v → Front dead g s v
  covers_front dead [] s v c = record { front = []; back = v; is = refl; front_matches = tt; back_covered = c }
  covers_front dead (x ∷ g) s [] c = absurd c
  covers_front dead (x ∷ g) s (y ∷ v) c =
      let r = covers_front dead g s v c.1 in
      record { front = y ∷ r.front; back = r.back; is = ap (λ l. y ∷ l) r.is; front_matches = (c.0, r.front_matches); back_covered = r.back_covered }

  -- in code that can be reached
  pub covers_alive : (s v : List (Operand T)) → Covers sub false s v → AllMatch sub s v
  covers_alive [] [] c = tt
  covers_alive [] (b ∷ v) c = let no : ⊥ = cc in absurd no
  covers_alive (a ∷ s) [] c = absurd c
  covers_alive (a ∷ s) (b ∷ v) c = (c.0, covers_alive s v c.1)

  -- without the topmost operand
  pub covers_rest : (dead : Bool) (s : List (Operand T)) (o : Operand T) (v : List (Operand T)) → Covers sub dead s (o ∷ v) → Covers sub dead (drop 1 s) v
  covers_rest dead [] o v c = covers_below dead v c
  covers_rest dead (a ∷ s) o v c = c.1

  -- with it again
  pub covers_topmost : (dead : Bool) (s : List (Operand T)) (a o : Operand T) (v : List (Operand T)) → topmost dead s ≡ Some a → Matches sub a o → Covers sub dead (drop 1 s) v → Covers sub dead s (o ∷ v)
  covers_topmost dead (b ∷ s) a o v e m c = let same : b ≡ a = cc in (subst (λ x. Matches sub x o) (sym same) m, c)
  covers_topmost true [] a o v e m c = refl
  covers_topmost false [] a o v e m c = let no : ⊥ = cc in absurd no

  -- what lies on top of a stack that has one
  pub record Above (dead : Bool) (s : List (Operand T)) (o : Operand T) : Type 0 where
    pub operand : Operand T
    pub is : topmost dead s ≡ Some operand
    pub matches : Matches sub operand o

  pub covers_above : (dead : Bool) (s : List (Operand T)) (o : Operand T) (v : List (Operand T)) → Covers sub dead s (o ∷ v) → Above dead s o
  covers_above dead (a ∷ s) o v c = record { operand = a; is = refl; matches = c.0 }
  covers_above true [] o v c = record { operand = Bottom; is = refl; matches = tt }
  covers_above false [] o v c = let no : ⊥ = cc in absurd no

module _ {T I : Type 0} (L : Language T I) (laws : Lawful L) where
  pub covers_refl : (dead : Bool) (s : List (Operand T)) → Covers L.sub dead s s
  covers_refl dead [] = tt
  covers_refl dead (a ∷ s) = (match_refl L laws a, covers_refl dead s)

  pub meets_from : (a : Operand T) (t : T) → Matches L.sub a (Known t) → meets L.sub a t ≡ true
  meets_from (Known s) t m = m
  meets_from Bottom t m = refl

  pub meets_to : (a : Operand T) (t : T) → meets L.sub a t ≡ true → Matches L.sub a (Known t)
  meets_to (Known s) t m = m
  meets_to Bottom t m = tt

  -- a stack that stands for values of these types on others fits the types
  pub covers_fits : (dead : Bool) (s : List (Operand T)) (ts : List T) (a v : List (Operand T)) → AllMatch L.sub a (known ts) → Covers L.sub dead s (a ++ v) → (fit L.sub dead s ts ≡ true) × Covers L.sub dead (drop (length ts) s) v
  covers_fits dead s [] [] v m c = (refl, c)
  covers_fits dead s [] (o ∷ a) v m c = absurd m
  covers_fits dead s (t ∷ ts) [] v m c = absurd m
  covers_fits dead [] (t ∷ ts) (o ∷ a) v m c = (c, covers_below L.sub dead v c)
  covers_fits dead (p ∷ s) (t ∷ ts) (o ∷ a) v m c =
      let r = covers_fits dead s ts a v m.1 c.1 in
      (both (meets L.sub p t) (fit L.sub dead s ts) (meets_from p t (match_trans L laws p o (Known t) c.0 m.0)) r.0, r.1)

  -- and the other way round
  pub fits_covers : (dead : Bool) (s : List (Operand T)) (ts : List T) (v : List (Operand T)) → fit L.sub dead s ts ≡ true → Covers L.sub dead (drop (length ts) s) v → Covers L.sub dead s (known ts ++ v)
  fits_covers dead s [] v f c = c
  fits_covers dead [] (t ∷ ts) v f c = f
  fits_covers dead (p ∷ s) (t ∷ ts) v f c =
      (meets_to p t (first_of_both _ (fit L.sub dead s ts) f), fits_covers dead s ts v (second_of_both (meets L.sub p t) _ f) c)

  reversed_known : (ts : List T) → reverse (known ts) ≡ known (reverse ts)
  reversed_known ts = sym (map-reverse Known ts)

  -- the same for operands that have the top last
  pub fitted : (dead : Bool) (s : List (Operand T)) (ts : List T) (o v : List (Operand T)) → AllMatch L.sub o (known ts) → Covers L.sub dead s (reverse o ++ v) → (fit L.sub dead s (reverse ts) ≡ true) × Covers L.sub dead (drop (length ts) s) v
  fitted dead s ts o v m c =
      let r = covers_fits dead s (reverse ts) (reverse o) v (subst (λ l. AllMatch L.sub (reverse o) l) (reversed_known ts) (all_reverse L.sub o (known ts) m)) c in
      (r.0, subst (λ n. Covers L.sub dead (drop n s) v) (length-reverse ts) r.1)

  pub covered : (dead : Bool) (s : List (Operand T)) (ts : List T) (v : List (Operand T)) → fit L.sub dead s (reverse ts) ≡ true → Covers L.sub dead (drop (length ts) s) v → Covers L.sub dead s (reverse (known ts) ++ v)
  covered dead s ts v f c =
      subst (λ l. Covers L.sub dead s (l ++ v)) (sym (reversed_known ts))
      (fits_covers dead s (reverse ts) v f (subst (λ n. Covers L.sub dead (drop n s) v) (sym (length-reverse ts)) c))

  matched_lengths : (a b : List (Operand T)) → AllMatch L.sub a b → length a ≡ length b
  matched_lengths [] [] m = refl
  matched_lengths [] (y ∷ b) m = absurd m
  matched_lengths (x ∷ a) [] m = absurd m
  matched_lengths (x ∷ a) (y ∷ b) m = ap suc (matched_lengths a b m.1)

  pub same_length : (o : List (Operand T)) (ts : List T) → AllMatch L.sub o (known ts) → length o ≡ length ts
  same_length o ts m = matched_lengths o (known ts) m ∙ length-map ts Known

  shorter : (dead : Bool) (s v : List (Operand T)) → Covers L.sub dead s v → length s ≤ length v
  shorter dead [] v c = omega arith
  shorter dead (a ∷ s) [] c = absurd c
  shorter dead (a ∷ s) (b ∷ v) c = let h = shorter dead s v c.1 in omega arith

  le_true : (a b : ℕ) → a ≤ b → nat_le a b ≡ true
  le_true a b h = grind (arith, nat_tests)

  true_le : (a b : ℕ) → nat_le a b ≡ true → a ≤ b
  true_le a b e = grind (arith, nat_tests)

  -- all operands of the stack, where nothing is to be left
  pub covers_whole : (dead : Bool) (s : List (Operand T)) (ts : List T) (a : List (Operand T)) → AllMatch L.sub a (known ts) → Covers L.sub dead s (reverse a) → fit_whole L.sub dead s (reverse ts) ≡ true
  covers_whole dead s ts a m c =
      let f = fitted dead s ts a [] m (subst (λ l. Covers L.sub dead s l) (sym (append-nil (reverse a))) c) in
      let short : length s ≤ length (reverse ts) = omega (arith, shorter dead s (reverse a) c, same_length a ts m, length-reverse a, length-reverse ts) in
      both _ _ (le_true (length s) (length (reverse ts)) short) f.0

  pub whole_covers : (dead : Bool) (s : List (Operand T)) (ts : List T) → fit_whole L.sub dead s (reverse ts) ≡ true → Covers L.sub dead s (reverse (known ts))
  whole_covers dead s ts f =
      let short = true_le (length s) (length (reverse ts)) (first_of_both _ (fit L.sub dead s (reverse ts)) f) in
      let none : drop (length ts) s ≡ [] = drop_all (length ts) s (omega (arith, length-reverse ts)) in
      subst (λ l. Covers L.sub dead s l) (append-nil (reverse (known ts)))
      (covered dead s ts [] (second_of_both (nat_le (length s) (length (reverse ts))) _ f) (subst (λ l. Covers L.sub dead l []) (sym none) tt))
