-- Where each element of a list is one of another list, what holds of all pairs of the other holds of all pairs of the list.
use Rattle.std.proofs.Common.{◌≡◌, Bool, true, false, ◌||◌, ◌&&◌, not, List, [], ◌∷◌, ◌++◌, map, filter_map, Option, Some, None, refl, ap, sym, ◌∙◌}
use Rattle.std.specs.List.{cons_option, list_any, list_all}
use Rattle.std.proofs.lemmas.Bool.{and_parts, and_from}
use Rattle.std.proofs.lemmas.List.Folds.{list_any-append}
use Rattle.wasm_ast.specs.Kept.{agree, all_agree}
use Rattle.wasm_ast.proofs.Pairs.{Pair}
use Rattle.stage_entry.proofs.Wider.{Implies, or_implies}

pub and_implies : (a b c d : Bool) → Implies a c → Implies b d → Implies (a && b) (c && d)
and_implies a b c d f g e =
    let both : (a ≡ true) × (b ≡ true) = and_parts a b e in
    and_from c d (f both.0) (g both.1)

pub not_implies : (a b : Bool) → Implies a b → Implies (not b) (not a)
not_implies true true f e = e
not_implies true false f e = let no : false ≡ true = f refl in absurd cc
not_implies false b f e = refl

all_implies : {A : Type 0} (f g : A → Bool) → ((x : A) → Implies (f x) (g x)) → (xs : List A) → Implies (list_all f xs) (list_all g xs)
all_implies f g h [] e = e
all_implies f g h (x ∷ xs) e = and_implies (f x) (list_all f xs) (g x) (list_all g xs) (h x) (all_implies f g h xs) e

-- whatever some element of the first list passes, some element of the second passes
abbrev pub Covered : {A : Type 0} → List A → List A → Type 0
Covered {A} xs ys = (q : A → Bool) → Implies (list_any q xs) (list_any q ys)

pub covered_append : {A : Type 0} (a b c d : List A) → Covered a c → Covered b d → Covered (a ++ b) (c ++ d)
covered_append a b c d f g q e =
    list_any-append q c d ∙ or_implies (list_any q a) (list_any q b) (list_any q c) (list_any q d) (f q) (g q) (sym (list_any-append q a b) ∙ e)

any-map : {A B : Type 0} (f : A → B) (q : B → Bool) (xs : List A) → list_any q (map f xs) ≡ list_any (λ x. q (f x)) xs
any-map f q [] = refl
any-map f q (x ∷ xs) = ap (λ b. q (f x) || b) (any-map f q xs)

pub covered_map : {A B : Type 0} (f : A → B) (xs ys : List A) → Covered xs ys → Covered (map f xs) (map f ys)
covered_map f xs ys h q e = any-map f q ys ∙ h (λ x. q (f x)) (sym (any-map f q xs) ∙ e)

-- what there is passes
abbrev passes : {A : Type 0} → (A → Bool) → Option A → Bool
passes q (Some x) = q x
passes q None = false

any-cons_option : {A : Type 0} (q : A → Bool) (o : Option A) (xs : List A) → list_any q (cons_option o xs) ≡ (passes q o || list_any q xs)
any-cons_option q (Some x) xs = refl
any-cons_option q None xs = refl

any-filter_map : {A B : Type 0} (f : A → Option B) (q : B → Bool) (xs : List A) → list_any q (filter_map f xs) ≡ list_any (λ x. passes q (f x)) xs
any-filter_map f q [] = refl
any-filter_map f q (x ∷ xs) = any-cons_option q (f x) (filter_map f xs) ∙ ap (λ b. passes q (f x) || b) (any-filter_map f q xs)

pub covered_filter_map : {A B : Type 0} (f : A → Option B) (xs ys : List A) → Covered xs ys → Covered (filter_map f xs) (filter_map f ys)
covered_filter_map f xs ys h q e = any-filter_map f q ys ∙ h (λ x. passes q (f x)) (sym (any-filter_map f q xs) ∙ e)

-- all pass where none fails
none_fails : (b c d : Bool) → c ≡ not d → (b && c) ≡ not (not b || d)
none_fails true c d e = e
none_fails false c d e = refl

all-any : {A : Type 0} (q : A → Bool) (xs : List A) → list_all q xs ≡ not (list_any (λ x. not (q x)) xs)
all-any q [] = refl
all-any q (x ∷ xs) = none_fails (q x) (list_all q xs) (list_any (λ y. not (q y)) xs) (all-any q xs)

all_covered : {A : Type 0} (xs ys : List A) → Covered xs ys → (q : A → Bool) → Implies (list_all q ys) (list_all q xs)
all_covered xs ys h q e =
    all-any q xs ∙ not_implies (list_any (λ x. not (q x)) xs) (list_any (λ x. not (q x)) ys) (h (λ x. not (q x))) (sym (all-any q ys) ∙ e)

pub all_agree_covered : (xs ys : List Pair) → Covered xs ys → Implies (all_agree ys) (all_agree xs)
all_agree_covered xs ys h e =
    all_implies (λ a. list_all (agree a) ys) (λ a. list_all (agree a) xs) (λ a. all_covered xs ys h (agree a)) xs
    (all_covered xs ys h (λ a. list_all (agree a) ys) e)
