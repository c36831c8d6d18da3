-- Operands, locals and globals stay integers.
use Rattle.std.proofs.Common.{ℕ, zero, suc, List, [], ◌∷◌, ◌++◌, take, drop, reverse, set, slice_index_or, slice_get, Option, Some, None, sym, subst}
use Rattle.std.specs.List.{AllByRecursion}
use Rattle.std.proofs.lemmas.List.{reverse-append}
use Rattle.num_core.specs.declared.operators.Width.{Width}
use Rattle.num_core.specs.declared.operators.Width.TheVariants.{W32, W64}
use Rattle.evaluation_kit.specs.Leaves.{top, below}
use Rattle.simulation_kit.specs.Keeping.{Keeping}
use Rattle.meaning_new.specs.declared.val.Val.{Val}
use Rattle.meaning_new.specs.Store.{State, int}
use Rattle.crossing.specs.States.{IsInteger, IsPlain}

module _ {A : Type 0} (P : A → Type 0) where
  pub all_take : (n : ℕ) (l : List A) → AllByRecursion P l → AllByRecursion P (take n l)
  all_take zero l h = tt
  all_take (suc n) [] h = tt
  all_take (suc n) (a ∷ l) h = (h.0, all_take n l h.1)

  pub all_drop : (n : ℕ) (l : List A) → AllByRecursion P l → AllByRecursion P (drop n l)
  all_drop zero l h = h
  all_drop (suc n) [] h = tt
  all_drop (suc n) (a ∷ l) h = all_drop n l h.1

  pub all_append : (a b : List A) → AllByRecursion P a → AllByRecursion P b → AllByRecursion P (a ++ b)
  all_append [] b h g = g
  all_append (x ∷ a) b h g = (h.0, all_append a b h.1 g)

  pub all_reverse : (l : List A) → AllByRecursion P l → AllByRecursion P (reverse l)
  all_reverse [] h = tt
  all_reverse (a ∷ l) h = subst (AllByRecursion P) (sym (reverse-append (a ∷ []) l)) (all_append (reverse l) (a ∷ []) (all_reverse l h.1) (h.0, tt))

  pub all_set : (l : List A) (i : ℕ) (a : A) → AllByRecursion P l → P a → AllByRecursion P (set l i a)
  all_set [] i a h p = h
  all_set (x ∷ l) zero a h p = (p, h.1)
  all_set (x ∷ l) (suc i) a h p = (h.0, all_set l i a h.1 p)

  pub all_at : (l : List A) (i : ℕ) (d : A) → AllByRecursion P l → P d → P (slice_index_or l i d)
  all_at [] i d h p = p
  all_at (x ∷ l) zero d h p = h.0
  all_at (x ∷ l) (suc i) d h p = all_at l i d h.1 p

  -- what holds of an item that is there
  abbrev pub IfThere : Option A → Type 0
  IfThere None = Unit {0}
  IfThere (Some a) = P a

  pub all_get : (l : List A) (i : ℕ) → AllByRecursion P l → IfThere (slice_get l i)
  all_get [] i h = tt
  all_get (x ∷ l) zero h = h.0
  all_get (x ∷ l) (suc i) h = all_get l i h.1

  pub all_below : (l : List A) → AllByRecursion P l → AllByRecursion P (below l)
  all_below [] h = tt
  all_below (a ∷ l) h = h.1

  pub all_top : (l : List A) (d : A) → AllByRecursion P l → P d → P (top d l)
  all_top [] d h p = p
  all_top (a ∷ l) d h p = h.0

-- values that are integers, in lists, and what all states keep
abbrev pub Integers : List Val → Type 0
Integers l = AllByRecursion IsInteger l

abbrev pub keeps : Keeping Val State
keeps = record {
  Named = λ f. Unit {0};
  Sound = Integers;
  none = tt;
  takes = all_take IsInteger;
  drops = all_drop IsInteger;
  appends = all_append IsInteger;
  reverses = all_reverse IsInteger;
  Safe = IsPlain;
}

pub int_is : (w : Width) (i : ℕ) → IsInteger (int w i)
int_is W32 i = tt
int_is W64 i = tt
