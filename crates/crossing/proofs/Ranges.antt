-- Items written over a part of a list.
use Rattle.std.proofs.lemmas.List.{length-map}
use Rattle.std.proofs.Common.{◌≡◌, ℕ, zero, suc, ◌+◌, ◌≤◌, true, List, [], ◌∷◌, ◌++◌, map, take, drop, set, length, Some, None, option_map, refl, sym, ap, ◌∙◌, if◌then◌else◌, arith}
use Rattle.std.specs.Prelude.{slice_get, slice_index_or, nat_le}
use Rattle.std.specs.List.{take-map, drop-map}
use Rattle.std.proofs.lemmas.Bool.{le-leb, leb-true}
use Rattle.std.proofs.lemmas.List.{map-append, length-append, length-take-le, length-drop}
use Rattle.std.proofs.Math.Seq.{take-length}
use Rattle.evaluation_kit.specs.Leaves.{read_range}
use Rattle.meaning_core1.specs.Instances.{overwritten}

-- a whole list is read
pub whole_range : {A : Type 0} (l : List A) (n : ℕ) → n ≡ length l → read_range 0 n l ≡ Some l
whole_range l n e =
    let le : 0 + n ≤ length l = omega arith in
    ap (λ b. if b then Some (take n l) else None) (le-leb (0 + n) (length l) le)
    ∙ ap (λ (k : ℕ). Some (take k l)) e
    ∙ ap (λ r. Some r) (take-length l)

-- the list is as long as before
pub length-overwritten : {A : Type 0} (at : ℕ) (new l : List A) → nat_le (at + length new) (length l) ≡ true → length (overwritten at new l) ≡ length l
length-overwritten at new l h =
    let le = leb-true (at + length new) (length l) h in
    let within : at ≤ length l = omega arith in
    let a = length-append (take at l) (new ++ drop (at + length new) l) in
    let b = length-append new (drop (at + length new) l) in
    let c = length-take-le at l within in
    let d = length-drop (at + length new) l in
    omega arith

-- the image of what is written
pub map-overwritten : {A B : Type 0} (f : A → B) (at : ℕ) (new l : List A) → overwritten at (map f new) (map f l) ≡ map f (overwritten at new l)
map-overwritten f at new l =
    ap (λ (n : ℕ). take at (map f l) ++ (map f new ++ drop (at + n) (map f l))) (length-map new f)
    ∙ ap (λ r. r ++ (map f new ++ drop (at + length new) (map f l))) (take-map f at l)
    ∙ ap (λ r. map f (take at l) ++ (map f new ++ r)) (drop-map f (at + length new) l)
    ∙ ap (λ r. map f (take at l) ++ r) (sym (map-append f new (drop (at + length new) l)))
    ∙ sym (map-append f (take at l) (new ++ drop (at + length new) l))

-- what is at a place
pub at_place : {C : Type 0} (cs : List C) (x : ℕ) (c d : C) → slice_get cs x ≡ Some c → slice_index_or cs x d ≡ c
at_place [] x c d e = absurd cc
at_place (b ∷ cs) zero c d e = let h : b ≡ c = cc in h
at_place (b ∷ cs) (suc x) c d e = at_place cs x c d e

-- sizes stay where one of the same size takes a place
pub sizes_set : {C : Type 0} (size : C → ℕ) (cs : List C) (x y : ℕ) (new old : C) → slice_get cs x ≡ Some old → size new ≡ size old → option_map size (slice_get (set cs x new) y) ≡ option_map size (slice_get cs y)
sizes_set size [] x y new old e f = refl
sizes_set size (c ∷ cs) zero zero new old e f = let h : old ≡ c = cc in ap (λ (n : ℕ). Some n) (f ∙ ap size h)
sizes_set size (c ∷ cs) zero (suc y) new old e f = refl
sizes_set size (c ∷ cs) (suc x) zero new old e f = refl
sizes_set size (c ∷ cs) (suc x) (suc y) new old e f = sizes_set size cs x y new old e f
