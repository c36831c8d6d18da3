-- Lists all of whose items have a property.
use Rattle.std.proofs.Common.{ℕ, zero, suc, ◌+◌, Bool, true, false, List, [], ◌∷◌, ◌++◌, take, drop, length, reverse, Option, Some, None, if◌then◌else◌, sym, subst}
use Rattle.std.specs.Prelude.{nat_le, set, replicate, slice_get, slice_index_or}
use Rattle.std.specs.List.{AllByRecursion}
use Rattle.std.proofs.lemmas.List.{reverse-append}
use Rattle.evaluation_kit.specs.Leaves.{top, below, read_range, write_range}

-- an item that has it, if there is one
abbrev pub IfAny : {A : Type 0} → (A → Type 0) → Option A → Type 0
IfAny P None = Unit {0}
IfAny P (Some a) = P a

module _ {A : Type 0} (P : A → Type 0) where
  pub all_take : (n : ℕ) (l : List A) → AllByRecursion P l → AllByRecursion P (take n l)
  all_take zero l h = tt
  all_take (suc n) [] h = tt
  all_take (suc n) (a ∷ l) h = (h.0, all_take n l h.1)

  pub all_drop : (n : ℕ) (l : List A) → AllByRecursion P l → AllByRecursion P (drop n l)
  all_drop zero l h = h
  all_drop (suc n) [] h = tt
  all_drop (suc n) (a ∷ l) h = all_drop n l h.1

  pub all_append : (a b : List A) → AllByRecursion P a → AllByRecursion P b → AllByRecursion P (a ++ b)
  all_append [] b h g = g
  all_append (x ∷ a) b h g = (h.0, all_append a b h.1 g)

  pub all_reverse : (l : List A) → AllByRecursion P l → AllByRecursion P (reverse l)
  all_reverse [] h = tt
  all_reverse (a ∷ l) h = subst (AllByRecursion P) (sym (reverse-append (a ∷ []) l)) (all_append (reverse l) (a ∷ []) (all_reverse l h.1) (h.0, tt))

  pub all_set : (l : List A) (i : ℕ) (a : A) → P a → AllByRecursion P l → AllByRecursion P (set l i a)
  all_set [] i a p h = tt
  all_set (x ∷ l) zero a p h = (p, h.1)
  all_set (x ∷ l) (suc i) a p h = (h.0, all_set l i a p h.1)

  pub all_replicate : (n : ℕ) (a : A) → P a → AllByRecursion P (replicate n a)
  all_replicate zero a p = tt
  all_replicate (suc n) a p = (p, all_replicate n a p)

  pub all_get : (l : List A) (i : ℕ) → AllByRecursion P l → IfAny P (slice_get l i)
  all_get [] i h = tt
  all_get (a ∷ l) zero h = h.0
  all_get (a ∷ l) (suc i) h = all_get l i h.1

  pub all_index : (l : List A) (i : ℕ) (missing : A) → P missing → AllByRecursion P l → P (slice_index_or l i missing)
  all_index [] i missing p h = p
  all_index (a ∷ l) zero missing p h = h.0
  all_index (a ∷ l) (suc i) missing p h = all_index l i missing p h.1

  pub all_top : (missing : A) (l : List A) → P missing → AllByRecursion P l → P (top missing l)
  all_top missing [] p h = p
  all_top missing (a ∷ l) p h = h.0

  pub all_below : (l : List A) → AllByRecursion P l → AllByRecursion P (below l)
  all_below [] h = tt
  all_below (a ∷ l) h = h.1

  pub all_read : (at count : ℕ) (l : List A) → AllByRecursion P l → IfAny (AllByRecursion P) (read_range at count l)
  all_read at count l h = either (nat_le (at + count) (length l))
    where
      either : (b : Bool) → IfAny (AllByRecursion P) (if b then Some (take count (drop at l)) else None)
      either true = all_take count (drop at l) (all_drop at l h)
      either false = tt

  pub all_write : (at : ℕ) (new l : List A) → AllByRecursion P new → AllByRecursion P l → IfAny (AllByRecursion P) (write_range at new l)
  all_write at new l g h = either (nat_le (at + length new) (length l))
    where
      either : (b : Bool) → IfAny (AllByRecursion P) (if b then Some (take at l ++ (new ++ drop (at + length new) l)) else None)
      either true = all_append (take at l) (new ++ drop (at + length new) l) (all_take at l h) (all_append new (drop (at + length new) l) g (all_drop (at + length new) l h))
      either false = tt
