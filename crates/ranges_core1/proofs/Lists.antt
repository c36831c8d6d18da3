-- What all items of a list keep, through the operations on lists that a meaning uses.
use Rattle.std.proofs.Common.{◌≡◌, ℕ, zero, suc, Bool, true, false, ◌&&◌, List, [], ◌∷◌, ◌++◌, map, take, drop, reverse, replicate, set, slice_index_or, slice_get, Option, Some, None, refl, sym, subst}
use Rattle.std.specs.List.{AllByRecursion, cons_option, list_all}
use Rattle.std.specs.Prelude.{filter_map}
use Rattle.std.proofs.lemmas.List.{reverse-append}
use Rattle.evaluation_kit.specs.Leaves.{top, below}

-- what holds of an item that is there
abbrev pub IfThere : {A : Type 0} → (A → Type 0) → Option A → Type 0
IfThere P None = Unit {0}
IfThere P (Some a) = P a

module _ {A : Type 0} (P : A → Type 0) where
  pub all_take : (n : ℕ) (l : List A) → AllByRecursion P l → AllByRecursion P (take n l)
  all_take zero l h = tt
  all_take (suc n) [] h = tt
  all_take (suc n) (a ∷ l) h = (h.0, all_take n l h.1)

  pub all_drop : (n : ℕ) (l : List A) → AllByRecursion P l → AllByRecursion P (drop n l)
  all_drop zero l h = h
  all_drop (suc n) [] h = tt
  all_drop (suc n) (a ∷ l) h = all_drop n l h.1

  pub all_append : (a b : List A) → AllByRecursion P a → AllByRecursion P b → AllByRecursion P (a ++ b)
  all_append [] b h g = g
  all_append (x ∷ a) b h g = (h.0, all_append a b h.1 g)

  pub all_reverse : (l : List A) → AllByRecursion P l → AllByRecursion P (reverse l)
  all_reverse [] h = tt
  all_reverse (a ∷ l) h = subst (AllByRecursion P) (sym (reverse-append (a ∷ []) l)) (all_append (reverse l) (a ∷ []) (all_reverse l h.1) (h.0, tt))

  pub all_replicate : (n : ℕ) (a : A) → P a → AllByRecursion P (replicate n a)
  all_replicate zero a p = tt
  all_replicate (suc n) a p = (p, all_replicate n a p)

  pub all_set : (l : List A) (i : ℕ) (a : A) → AllByRecursion P l → P a → AllByRecursion P (set l i a)
  all_set [] i a h p = h
  all_set (x ∷ l) zero a h p = (p, h.1)
  all_set (x ∷ l) (suc i) a h p = (h.0, all_set l i a h.1 p)

  pub all_at : (l : List A) (i : ℕ) (d : A) → AllByRecursion P l → P d → P (slice_index_or l i d)
  all_at [] i d h p = p
  all_at (x ∷ l) zero d h p = h.0
  all_at (x ∷ l) (suc i) d h p = all_at l i d h.1 p

  pub all_get : (l : List A) (i : ℕ) → AllByRecursion P l → IfThere P (slice_get l i)
  all_get [] i h = tt
  all_get (x ∷ l) zero h = h.0
  all_get (x ∷ l) (suc i) h = all_get l i h.1

  pub all_below : (l : List A) → AllByRecursion P l → AllByRecursion P (below l)
  all_below [] h = tt
  all_below (a ∷ l) h = h.1

  pub all_top : (l : List A) (d : A) → AllByRecursion P l → P d → P (top d l)
  all_top [] d h p = p
  all_top (a ∷ l) d h p = h.0

  pub all_map : {B : Type 0} (f : B → A) (bs : List B) → AllByRecursion (λ b. P (f b)) bs → AllByRecursion P (map f bs)
  all_map f [] h = tt
  all_map f (b ∷ bs) h = (h.0, all_map f bs h.1)

pub all_weaker : {A : Type 0} (P Q : A → Type 0) → ((a : A) → P a → Q a) → (l : List A) → AllByRecursion P l → AllByRecursion Q l
all_weaker P Q f [] h = tt
all_weaker P Q f (a ∷ l) h = (f a h.0, all_weaker P Q f l h.1)

-- of the items that a function gives
all_cons : {A : Type 0} (P : A → Type 0) (o : Option A) (l : List A) → IfThere P o → AllByRecursion P l → AllByRecursion P (cons_option o l)
all_cons P None l h g = g
all_cons P (Some a) l h g = (h, g)

pub all_given : {A B : Type 0} (P : B → Type 0) (f : A → Option B) → ((a : A) → IfThere P (f a)) → (l : List A) → AllByRecursion P (filter_map f l)
all_given P f g [] = tt
all_given P f g (a ∷ l) = all_cons P (f a) (filter_map f l) (g a) (all_given P f g l)

-- tests that hold of all
pub both : (a b : Bool) → (a && b) ≡ true → (a ≡ true) × (b ≡ true)
both true b h = (refl, h)
both false b h = absurd cc

pub all_passed : {A : Type 0} (test : A → Bool) (l : List A) → list_all test l ≡ true → AllByRecursion (λ a. test a ≡ true) l
all_passed test [] h = tt
all_passed test (a ∷ l) h =
    let parts = both (test a) (list_all test l) h in
    (parts.0, all_passed test l parts.1)
