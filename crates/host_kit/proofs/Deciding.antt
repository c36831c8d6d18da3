-- Tests that decide facts: in a row, over a list, and over two lists place by place.
use Rattle.std.proofs.Common.{◌≡◌, ℕ, suc, ◌<◌, ◌≤◌, List, [], ◌∷◌, length, Bool, true, false, ◌&&◌, nat_eq, nat_lt, nat_le, Decides, refl, arith}
use Rattle.std.specs.List.{AllByRecursion, list_all, zip}
use Rattle.std.proofs.lemmas.Bool.{and_parts, and_from, eqb-true, eq-eqb, ltb-true, lt-ltb, leb-true, le-leb}
use Rattle.host_kit.specs.Pairwise.{Pairwise}
use Rattle.host_kit.specs.FitTests.{pairs}

pub never : Decides false ⊥
never = (λ h. absurd cc, λ f. absurd f)

pub always : Decides true (Unit {0})
always = (λ h. tt, λ f. refl)

pub less : (a b : ℕ) → Decides (nat_lt a b) (a < b)
less a b = (ltb-true a b, lt-ltb a b)

pub most : (a b : ℕ) → Decides (nat_le a b) (a ≤ b)
most a b = (leb-true a b, le-leb a b)

pub both : {P Q : Type 0} (a b : Bool) → Decides a P → Decides b Q → Decides (a && b) (P × Q)
both a b p q = (λ h. (p.0 (and_parts a b h).0, q.0 (and_parts a b h).1), λ f. and_from a b (p.1 f.0) (q.1 f.1))

pub all : {A : Type 0} (test : A → Bool) (P : A → Type 0) → ((x : A) → Decides (test x) (P x)) → (xs : List A) → Decides (list_all test xs) (AllByRecursion P xs)
all test P each [] = always
all test P each (x ∷ xs) = both (test x) (list_all test xs) (each x) (all test P each xs)

pub pairwise : {A B : Type 0} (test : A → B → Bool) (R : A → B → Type 0) → ((x : A) (y : B) → Decides (test x y) (R x y)) → (xs : List A) (ys : List B) → Decides (pairs test xs ys) (Pairwise R xs ys)
pairwise test R each [] [] = always
pairwise test R each [] (y ∷ ys) = (
  λ h. let same : 0 ≡ suc (length ys) = eqb-true 0 (suc (length ys)) (and_parts (nat_eq 0 (suc (length ys))) true h).0 in absurd (omega arith),
  λ f. absurd f,
)
pairwise test R each (x ∷ xs) [] = (
  λ h. let same : suc (length xs) ≡ 0 = eqb-true (suc (length xs)) 0 (and_parts (nat_eq (suc (length xs)) 0) true h).0 in absurd (omega arith),
  λ f. absurd f,
)
pairwise test R each (x ∷ xs) (y ∷ ys) =
    let rest = pairwise test R each xs ys in
    let front = each x y in (
      λ h.
          let parts = and_parts (nat_eq (suc (length xs)) (suc (length ys))) (test x y && list_all (λ p. test p.0 p.1) (zip xs ys)) h in
          let inner = and_parts (test x y) (list_all (λ p. test p.0 p.1) (zip xs ys)) parts.1 in
          let same : suc (length xs) ≡ suc (length ys) = eqb-true (suc (length xs)) (suc (length ys)) parts.0 in
          let one : length xs ≡ length ys = omega arith in
          (front.0 inner.0, rest.0 (and_from (nat_eq (length xs) (length ys)) (list_all (λ p. test p.0 p.1) (zip xs ys)) (eq-eqb (length xs) (length ys) one) inner.1)),
      λ f.
          let parts = and_parts (nat_eq (length xs) (length ys)) (list_all (λ p. test p.0 p.1) (zip xs ys)) (rest.1 f.1) in
          let same : length xs ≡ length ys = eqb-true (length xs) (length ys) parts.0 in
          let one : suc (length xs) ≡ suc (length ys) = omega arith in
          and_from (nat_eq (suc (length xs)) (suc (length ys))) (test x y && list_all (λ p. test p.0 p.1) (zip xs ys)) (eq-eqb (suc (length xs)) (suc (length ys)) one)
          (and_from (test x y) (list_all (λ p. test p.0 p.1) (zip xs ys)) (front.1 f.0) parts.1),
    )
