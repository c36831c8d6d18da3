-- Marks stand for the numbers that were marked, whatever their order and however often.
use Rattle.std.proofs.Common.{◌≡◌, ℕ, zero, suc, ◌+◌, ◌<◌, Bool, true, false, cond, ◌⊎◌, inl, inr, List, [], ◌∷◌, map, length, replicate, refl, sym, ap, ◌∙◌, subst, Option, Some, None, arith, add-zero}
use Rattle.std.specs.Prelude.{slice_get, slice_set, filter_map}
use Rattle.std.specs.List.{cons_option}
use Rattle.std.proofs.lemmas.List.{length-replicate}
use Rattle.wasm_ast.specs.declared.module.ty.FuncType.{FuncType}
use Rattle.wasm_ast.specs.Kept.{all_agree, lowered_and_own}
use Rattle.wasm_ast.specs.Marking.{marked, is_marked, marked_items}
use Rattle.wasm_ast.proofs.Pairs.{In, In-map, all_agree-same}

-- a number that is set, and one beside it
set-other : (flags : List Bool) (x i : ℕ) → is_marked (slice_set flags x true) i ≡ true → (x ≡ i) ⊎ (is_marked flags i ≡ true)
set-other [] x i e = inr e
set-other (f ∷ flags) zero zero e = inl refl
set-other (f ∷ flags) zero (suc i) e = inr e
set-other (f ∷ flags) (suc x) zero e = inr e
set-other (f ∷ flags) (suc x) (suc i) e = elim (set-other flags x i e) [ inl p ↦ inl (ap suc p) | inr q ↦ inr q ]

set-kept : (flags : List Bool) (x i : ℕ) → is_marked flags i ≡ true → is_marked (slice_set flags x true) i ≡ true
set-kept [] x i e = e
set-kept (f ∷ flags) zero zero e = refl
set-kept (f ∷ flags) zero (suc i) e = e
set-kept (f ∷ flags) (suc x) zero e = e
set-kept (f ∷ flags) (suc x) (suc i) e = set-kept flags x i e

set-same : (flags : List Bool) (i : ℕ) → i < length flags → is_marked (slice_set flags i true) i ≡ true
set-same [] i lt = let no : ⊥ = omega arith in absurd no
set-same (f ∷ flags) zero lt = refl
set-same (f ∷ flags) (suc i) lt = let less : i < length flags = omega arith in set-same flags i less

set-length : (flags : List Bool) (x : ℕ) → length (slice_set flags x true) ≡ length flags
set-length [] x = refl
set-length (f ∷ flags) zero = refl
set-length (f ∷ flags) (suc x) = ap suc (set-length flags x)

-- what is marked was marked, or stood there before
marked-cases : (xs : List ℕ) (flags : List Bool) (i : ℕ) → is_marked (marked xs flags) i ≡ true → In i xs ⊎ (is_marked flags i ≡ true)
marked-cases [] flags i e = inr e
marked-cases (x ∷ xs) flags i e =
    elim (marked-cases xs (slice_set flags x true) i e) [
      | inl j ↦ inl (inr j)
      | inr f ↦ elim (set-other flags x i f) [ inl p ↦ inl (inl p) | inr g ↦ inr g ]
    ]

marked-kept : (xs : List ℕ) (flags : List Bool) (i : ℕ) → is_marked flags i ≡ true → is_marked (marked xs flags) i ≡ true
marked-kept [] flags i e = e
marked-kept (x ∷ xs) flags i e = marked-kept xs (slice_set flags x true) i (set-kept flags x i e)

marked-in : (xs : List ℕ) (flags : List Bool) (i : ℕ) → i < length flags → In i xs → is_marked (marked xs flags) i ≡ true
marked-in [] flags i lt j = absurd j
marked-in (x ∷ xs) flags i lt (inl e) =
    marked-kept xs (slice_set flags x true) i (subst (λ y. is_marked (slice_set flags y true) i ≡ true) (sym e) (set-same flags i lt))
marked-in (x ∷ xs) flags i lt (inr j) = let less : i < length (slice_set flags x true) = omega (arith, set-length flags x) in marked-in xs (slice_set flags x true) i less j

unmarked : (n i : ℕ) → is_marked (replicate n false) i ≡ true → ⊥
unmarked zero i e = cc
unmarked (suc n) zero e = cc
unmarked (suc n) (suc i) e = unmarked n i e

-- the marked items are those whose numbers are marked
pub record Stands {A : Type 0} (marks : List Bool) (n : ℕ) (xs : List A) (x : A) : Type 0 where
  pub place : ℕ
  pub set : is_marked marks (n + place) ≡ true
  pub there : slice_get xs place ≡ Some x

module _ {A : Type 0} (marks : List Bool) (x : A) where
  further : (n : ℕ) (y : A) (ys : List A) → Stands marks (n + 1) ys x → Stands marks n (y ∷ ys) x
  further n y ys s = record {
    place = suc s.place;
    set = (let e : n + suc s.place ≡ n + 1 + s.place = omega arith in subst (λ k. is_marked marks k ≡ true) (sym e) s.set);
    there = s.there;
  }

  stands_at : (b : Bool) (n : ℕ) (y : A) (ys : List A) → is_marked marks n ≡ b → (In x (marked_items marks (n + 1) ys) → Stands marks (n + 1) ys x) → In x (cond b (y ∷ marked_items marks (n + 1) ys) (marked_items marks (n + 1) ys)) → Stands marks n (y ∷ ys) x
  stands_at true n y ys e more (inl p) = record { place = zero; set = ap (is_marked marks) (add-zero n) ∙ e; there = ap Some p }
  stands_at true n y ys e more (inr i) = further n y ys (more i)
  stands_at false n y ys e more i = further n y ys (more i)

  stands : (n : ℕ) (xs : List A) → In x (marked_items marks n xs) → Stands marks n xs x
  stands n [] i = absurd i
  stands n (y ∷ ys) i = stands_at (is_marked marks n) n y ys refl (stands (n + 1) ys) i

  item_here : (b : Bool) (y : A) (ys : List A) → b ≡ true → y ≡ x → In x (cond b (y ∷ ys) ys)
  item_here true y ys e p = inl p
  item_here false y ys e p = cc

  item_later : (b : Bool) (y : A) (ys : List A) → In x ys → In x (cond b (y ∷ ys) ys)
  item_later true y ys i = inr i
  item_later false y ys i = i

  item : (n j : ℕ) (xs : List A) → slice_get xs j ≡ Some x → is_marked marks (n + j) ≡ true → In x (marked_items marks n xs)
  item n j [] e m = cc
  item n zero (y ∷ ys) e m =
      let same : y ≡ x = cc in
      item_here (is_marked marks n) y (marked_items marks (n + 1) ys) (ap (is_marked marks) (sym (add-zero n)) ∙ m) same
  item n (suc j) (y ∷ ys) e m =
      let next : n + suc j ≡ n + 1 + j = omega arith in
      item_later (is_marked marks n) y (marked_items marks (n + 1) ys) (item (n + 1) j ys e (subst (λ k. is_marked marks k ≡ true) next m))

-- an item that a number names
got_within : {A : Type 0} (xs : List A) (i : ℕ) (x : A) → slice_get xs i ≡ Some x → i < length xs
got_within [] i x e = cc
got_within (y ∷ ys) zero x e = omega arith
got_within (y ∷ ys) (suc i) x e = omega (arith, got_within ys i x e)

pub record Named {A : Type 0} (xs : List A) (is : List ℕ) (x : A) : Type 0 where
  pub number : ℕ
  pub listed : In number is
  pub there : slice_get xs number ≡ Some x

module _ {A : Type 0} (xs : List A) (x : A) where
  later : (i : ℕ) (is : List ℕ) → Named xs is x → Named xs (i ∷ is) x
  later i is n = record { number = n.number; listed = inr n.listed; there = n.there }

  named_at : (o : Option A) (i : ℕ) (is : List ℕ) → slice_get xs i ≡ o → (In x (filter_map (slice_get xs) is) → Named xs is x) → In x (cons_option o (filter_map (slice_get xs) is)) → Named xs (i ∷ is) x
  named_at None i is e more j = later i is (more j)
  named_at (Some y) i is e more (inl p) = record { number = i; listed = inl refl; there = e ∙ ap Some p }
  named_at (Some y) i is e more (inr j) = later i is (more j)

  named : (is : List ℕ) → In x (filter_map (slice_get xs) is) → Named xs is x
  named [] j = absurd j
  named (i ∷ is) j = named_at (slice_get xs i) i is refl (named is) j

  listed_here : (o : Option A) (ys : List A) → o ≡ Some x → In x (cons_option o ys)
  listed_here None ys e = cc
  listed_here (Some y) ys e = let same : y ≡ x = cc in inl same

  listed_later : (o : Option A) (ys : List A) → In x ys → In x (cons_option o ys)
  listed_later None ys j = j
  listed_later (Some y) ys j = inr j

  listed : (i : ℕ) (is : List ℕ) → In i is → slice_get xs i ≡ Some x → In x (filter_map (slice_get xs) is)
  listed i [] j e = absurd j
  listed i (k ∷ is) (inl p) e = listed_here (slice_get xs k) (filter_map (slice_get xs) is) (ap (slice_get xs) p ∙ e)
  listed i (k ∷ is) (inr j) e = listed_later (slice_get xs k) (filter_map (slice_get xs) is) (listed i is j e)

-- marking numbers of a list picks what they name
module _ {A : Type 0} (xs : List A) (is : List ℕ) (x : A) where
  abbrev marks : List Bool
  marks = marked is (replicate (length xs) false)

  picked_is_named : In x (marked_items marks 0 xs) → In x (filter_map (slice_get xs) is)
  picked_is_named j =
      let s : Stands marks 0 xs x = stands marks x 0 xs j in
      let at : 0 + s.place ≡ s.place = omega arith in
      elim (marked-cases is (replicate (length xs) false) (0 + s.place) s.set) [
        | inl i ↦ listed xs x s.place is (subst (λ k. In k is) at i) s.there
        | inr e ↦ absurd (unmarked (length xs) (0 + s.place) e)
      ]

  named_is_picked : In x (filter_map (slice_get xs) is) → In x (marked_items marks 0 xs)
  named_is_picked j =
      let n : Named xs is x = named xs x is j in
      let at : n.number ≡ 0 + n.number = omega arith in
      let within : n.number < length (replicate (length xs) false) = omega (arith, length-replicate (length xs) false, got_within xs n.number x n.there) in
      item marks x 0 n.number xs n.there (subst (λ k. is_marked marks k ≡ true) at (marked-in is (replicate (length xs) false) n.number within n.listed))

-- and back from a list that a function gave
pub record From {A B : Type 0} (f : A → B) (xs : List A) (b : B) : Type 0 where
  pub source : A
  pub held : In source xs
  pub gives : f source ≡ b

from_map : {A B : Type 0} (f : A → B) (xs : List A) (b : B) → In b (map f xs) → From f xs b
from_map f [] b i = absurd i
from_map f (x ∷ xs) b (inl e) = record { source = x; held = inl refl; gives = e }
from_map f (x ∷ xs) b (inr i) =
    let s : From f xs b = from_map f xs b i in record { source = s.source; held = inr s.held; gives = s.gives }

-- so the marked types agree where the named ones do
pub all_agree_marked : (types : List FuncType) (is : List ℕ) → all_agree (map lowered_and_own (marked_items (marked is (replicate (length types) false)) 0 types)) ≡ all_agree (map lowered_and_own (filter_map (slice_get types) is))
all_agree_marked types is =
    let picked = marked_items (marked is (replicate (length types) false)) 0 types in
    let named_types = filter_map (slice_get types) is in
    all_agree-same (map lowered_and_own picked) (map lowered_and_own named_types)
    (λ a i. let s : From lowered_and_own picked a = from_map lowered_and_own picked a i in subst (λ p. In p (map lowered_and_own named_types)) s.gives (In-map lowered_and_own s.source named_types (picked_is_named types is s.source s.held)))
    (λ a i. let s : From lowered_and_own named_types a = from_map lowered_and_own named_types a i in subst (λ p. In p (map lowered_and_own picked)) s.gives (In-map lowered_and_own s.source picked (named_is_picked types is s.source s.held)))
