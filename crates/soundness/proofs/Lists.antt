-- Two lists whose items are related place by place, and values of types.
use Rattle.std.proofs.Common.{◌≡◌, ℕ, zero, suc, ◌+◌, Bool, true, false, List, [], ◌∷◌, ◌++◌, map, take, drop, length, reverse, Option, Some, None, if◌then◌else◌, refl, sym, subst}
use Rattle.std.specs.Prelude.{set, nat_le, replicate, slice_get, slice_index_or}
use Rattle.std.specs.List.{AllByRecursion}
use Rattle.std.proofs.lemmas.List.{reverse-append}
use Rattle.host_kit.specs.Pairwise.{Pairwise}
use Rattle.evaluation_kit.specs.Leaves.{top, below, read_range, write_range}

-- an item that has a property, if there is one
abbrev pub IfAny : {A : Type 0} → (A → Type 0) → Option A → Type 0
IfAny P None = Unit {0}
IfAny P (Some a) = P a

pub some_same : {A : Type 0} (a b : A) → Some a ≡ Some b → a ≡ b
some_same a b e = cc

module _ {A B : Type 0} (R : A → B → Type 0) where
  pub pair_append : (xs : List A) (ys : List B) (us : List A) (vs : List B) → Pairwise R xs ys → Pairwise R us vs → Pairwise R (xs ++ us) (ys ++ vs)
  pair_append [] [] us vs h g = g
  pair_append [] (y ∷ ys) us vs h g = absurd h
  pair_append (x ∷ xs) [] us vs h g = absurd h
  pair_append (x ∷ xs) (y ∷ ys) us vs h g = (h.0, pair_append xs ys us vs h.1 g)

  pub pair_reverse : (xs : List A) (ys : List B) → Pairwise R xs ys → Pairwise R (reverse xs) (reverse ys)
  pair_reverse [] [] h = tt
  pair_reverse [] (y ∷ ys) h = absurd h
  pair_reverse (x ∷ xs) [] h = absurd h
  pair_reverse (x ∷ xs) (y ∷ ys) h =
      subst (λ l. Pairwise R l (reverse (y ∷ ys))) (sym (reverse-append (x ∷ []) xs))
      (subst (λ l. Pairwise R (reverse xs ++ x ∷ []) l) (sym (reverse-append (y ∷ []) ys)) (pair_append (reverse xs) (reverse ys) (x ∷ []) (y ∷ []) (pair_reverse xs ys h.1) (h.0, tt)))

  -- the part for the first items, and what is left
  pub pair_take : (xs : List A) (ys more : List B) → Pairwise R xs (ys ++ more) → Pairwise R (take (length ys) xs) ys
  pair_take xs [] more h = tt
  pair_take [] (y ∷ ys) more h = absurd h
  pair_take (x ∷ xs) (y ∷ ys) more h = (h.0, pair_take xs ys more h.1)

  pub pair_drop : (xs : List A) (ys more : List B) → Pairwise R xs (ys ++ more) → Pairwise R (drop (length ys) xs) more
  pair_drop xs [] more h = h
  pair_drop [] (y ∷ ys) more h = absurd h
  pair_drop (x ∷ xs) (y ∷ ys) more h = pair_drop xs ys more h.1

  -- the front of a front
  pub pair_front : (xs : List A) (ys : List B) → Pairwise R (take (length ys) xs) ys → Pairwise R (take (length ys) (take (length ys) xs)) ys
  pair_front xs [] h = tt
  pair_front [] (y ∷ ys) h = absurd h
  pair_front (x ∷ xs) (y ∷ ys) h = (h.0, pair_front xs ys h.1)

  -- all of a list is its front
  pub pair_whole : (xs : List A) (ys : List B) → Pairwise R xs ys → Pairwise R (take (length ys) xs) ys
  pair_whole [] [] h = tt
  pair_whole [] (y ∷ ys) h = absurd h
  pair_whole (x ∷ xs) [] h = absurd h
  pair_whole (x ∷ xs) (y ∷ ys) h = (h.0, pair_whole xs ys h.1)

  pub pair_top : (missing : A) (xs : List A) (y : B) (ys : List B) → Pairwise R xs (y ∷ ys) → R (top missing xs) y
  pair_top missing [] y ys h = absurd h
  pair_top missing (x ∷ xs) y ys h = h.0

  pub pair_below : (xs : List A) (y : B) (ys : List B) → Pairwise R xs (y ∷ ys) → Pairwise R (below xs) ys
  pair_below [] y ys h = absurd h
  pair_below (x ∷ xs) y ys h = h.1

  pub pair_set : (xs : List A) (ys : List B) (i : ℕ) (x : A) (y : B) → slice_get ys i ≡ Some y → R x y → Pairwise R xs ys → Pairwise R (set xs i x) ys
  pair_set [] [] i x y e r h = tt
  pair_set [] (u ∷ ys) i x y e r h = absurd h
  pair_set (u ∷ xs) [] i x y e r h = absurd h
  pair_set (u ∷ xs) (v ∷ ys) zero x y e r h = (subst (R x) (sym (some_same v y e)) r, h.1)
  pair_set (u ∷ xs) (v ∷ ys) (suc i) x y e r h = (h.0, pair_set xs ys i x y e r h.1)

  -- the item at a place of the second list has a partner
  pub pair_get : (xs : List A) (ys : List B) (i : ℕ) (y : B) → slice_get ys i ≡ Some y → Pairwise R xs ys → (x : A) × (slice_get xs i ≡ Some x) × R x y
  pair_get [] [] i y e h = let no : ⊥ = cc in absurd no
  pair_get [] (v ∷ ys) i y e h = absurd h
  pair_get (u ∷ xs) [] i y e h = absurd h
  pair_get (u ∷ xs) (v ∷ ys) zero y e h = (u, refl, subst (R u) (some_same v y e) h.0)
  pair_get (u ∷ xs) (v ∷ ys) (suc i) y e h = pair_get xs ys i y e h.1

  pub pair_index : (missing : A) (xs : List A) (ys : List B) (i : ℕ) (y : B) → slice_get ys i ≡ Some y → Pairwise R xs ys → R (slice_index_or xs i missing) y
  pair_index missing [] [] i y e h = let no : ⊥ = cc in absurd no
  pair_index missing [] (v ∷ ys) i y e h = absurd h
  pair_index missing (u ∷ xs) [] i y e h = absurd h
  pair_index missing (u ∷ xs) (v ∷ ys) zero y e h = subst (R u) (some_same v y e) h.0
  pair_index missing (u ∷ xs) (v ∷ ys) (suc i) y e h = pair_index missing xs ys i y e h.1

-- by a weaker relation, and of the images of items
pub pair_weaker : {A B : Type 0} (R S : A → B → Type 0) → ((x : A) (y : B) → R x y → S x y) → (xs : List A) (ys : List B) → Pairwise R xs ys → Pairwise S xs ys
pair_weaker R S f [] [] h = tt
pair_weaker R S f [] (y ∷ ys) h = absurd h
pair_weaker R S f (x ∷ xs) [] h = absurd h
pair_weaker R S f (x ∷ xs) (y ∷ ys) h = (f x y h.0, pair_weaker R S f xs ys h.1)

pub pair_map : {A B C : Type 0} (R : A → B → Type 0) (f : C → A) (xs : List C) (ys : List B) → Pairwise (λ x y. R (f x) y) xs ys → Pairwise R (map f xs) ys
pair_map R f [] [] h = tt
pair_map R f [] (y ∷ ys) h = absurd h
pair_map R f (x ∷ xs) [] h = absurd h
pair_map R f (x ∷ xs) (y ∷ ys) h = (h.0, pair_map R f xs ys h.1)

pub all_weaker : {A : Type 0} (P Q : A → Type 0) → ((x : A) → P x → Q x) → (xs : List A) → AllByRecursion P xs → AllByRecursion Q xs
all_weaker P Q f [] h = tt
all_weaker P Q f (x ∷ xs) h = (f x h.0, all_weaker P Q f xs h.1)

-- lists all of whose items have a property
module _ {A : Type 0} (P : A → Type 0) where
  pub all_take : (n : ℕ) (l : List A) → AllByRecursion P l → AllByRecursion P (take n l)
  all_take zero l h = tt
  all_take (suc n) [] h = tt
  all_take (suc n) (a ∷ l) h = (h.0, all_take n l h.1)

  pub all_drop : (n : ℕ) (l : List A) → AllByRecursion P l → AllByRecursion P (drop n l)
  all_drop zero l h = h
  all_drop (suc n) [] h = tt
  all_drop (suc n) (a ∷ l) h = all_drop n l h.1

  pub all_append : (a b : List A) → AllByRecursion P a → AllByRecursion P b → AllByRecursion P (a ++ b)
  all_append [] b h g = g
  all_append (x ∷ a) b h g = (h.0, all_append a b h.1 g)

  pub all_replicate : (n : ℕ) (a : A) → P a → AllByRecursion P (replicate n a)
  all_replicate zero a p = tt
  all_replicate (suc n) a p = (p, all_replicate n a p)

  pub all_get : (l : List A) (i : ℕ) → AllByRecursion P l → IfAny P (slice_get l i)
  all_get [] i h = tt
  all_get (a ∷ l) zero h = h.0
  all_get (a ∷ l) (suc i) h = all_get l i h.1

  -- what is read from a range, and what it is written into
  pub all_read : (at count : ℕ) (l : List A) → AllByRecursion P l → IfAny (AllByRecursion P) (read_range at count l)
  all_read at count l h = either (nat_le (at + count) (length l))
    where
      either : (b : Bool) → IfAny (AllByRecursion P) (if b then Some (take count (drop at l)) else None)
      either true = all_take count (drop at l) (all_drop at l h)
      either false = tt

  pub all_write : (at : ℕ) (new l : List A) → AllByRecursion P new → AllByRecursion P l → IfAny (AllByRecursion P) (write_range at new l)
  all_write at new l g h = either (nat_le (at + length new) (length l))
    where
      either : (b : Bool) → IfAny (AllByRecursion P) (if b then Some (take at l ++ (new ++ drop (at + length new) l)) else None)
      either true = all_append (take at l) (new ++ drop (at + length new) l) (all_take at l h) (all_append new (drop (at + length new) l) g (all_drop (at + length new) l h))
      either false = tt

-- another item in the place of one
pub pair_replace : {A B : Type 0} (R : A → B → Type 0) (xs : List A) (ys : List B) (i : ℕ) (x x' : A) → slice_get xs i ≡ Some x → ((y : B) → R x y → R x' y) → Pairwise R xs ys → Pairwise R (set xs i x') ys
pair_replace R [] ys i x x' e f h = h
pair_replace R (u ∷ xs) [] i x x' e f h = absurd h
pair_replace R (u ∷ xs) (y ∷ ys) zero x x' e f h = (f y (subst (λ z. R z y) (some_same u x e) h.0), h.1)
pair_replace R (u ∷ xs) (y ∷ ys) (suc i) x x' e f h = (h.0, pair_replace R xs ys i x x' e f h.1)
