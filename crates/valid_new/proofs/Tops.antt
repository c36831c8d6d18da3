-- Stacks of values: where types fit, they lie on top.
use Rattle.std.proofs.Common.{◌≡◌, Bool, true, false, ◌&&◌, List, [], ◌∷◌, ◌++◌, reverse, drop, length, refl, ap, sym, subst, ◌∙◌}
use Rattle.std.proofs.Math.Seq.{drop-append_seam}
use Rattle.std.proofs.lemmas.List.{length-reverse, reverse-append, length-map, reverse-reverse}
use Rattle.wasm_ast.specs.declared.module.ty.Ty.{Ty}
use Rattle.typing_kit.specs.declared.operand.Operand.TheVariants.{Known}
use Rattle.typing_kit.specs.Matching.{known}
use Rattle.typing_kit.specs.Stack.{fit}
use Rattle.typing_kit.proofs.Lists.{reverse-cons}
use Rattle.typed_trees.specs.Matching.{matches}
use Rattle.typed_trees.proofs.Lawfulness.{matches_equal}
use Rattle.typed_trees.proofs.LeafTyped.{known_append}

pub both_true : (a b : Bool) → (a && b) ≡ true → (a ≡ true) × (b ≡ true)
both_true true true h = (refl, refl)
both_true true false h = let no : ⊥ = cc in absurd no
both_true false b h = let no : ⊥ = cc in absurd no

pub known_reverse : (ts : List Ty) → reverse (known ts) ≡ known (reverse ts)
known_reverse [] = refl
known_reverse (t ∷ ts) =
    reverse-cons (Known t) (known ts)
    ∙ ap (λ l. l ++ Known t ∷ []) (known_reverse ts)
    ∙ sym (known_append (reverse ts) (t ∷ []))
    ∙ ap known (sym (reverse-cons t ts))

-- the top first in both lists
fit_top : (a w : List Ty) → fit matches false (known a) w ≡ true → (rest : List Ty) × (a ≡ w ++ rest)
fit_top a [] h = (a, refl)
fit_top [] (t ∷ w) h = let no : ⊥ = cc in absurd no
fit_top (x ∷ a) (t ∷ w) h =
    let both = both_true (matches x t) (fit matches false (known a) w) h in
    let rest = fit_top a w both.1 in
    (rest.0, ap (λ y. y ∷ a) (matches_equal x t both.0) ∙ ap (λ l. t ∷ l) rest.1)

-- the types on top, and what lies below them
pub record Fitted (ts takes : List Ty) : Type 0 where
  pub below : List Ty
  pub is : ts ≡ below ++ takes
  pub rest : drop (length takes) (reverse (known ts)) ≡ reverse (known below)

rest_of : (below takes : List Ty) → drop (length takes) (reverse (known (below ++ takes))) ≡ reverse (known below)
rest_of below takes =
    ap (λ l. drop (length takes) (reverse l)) (known_append below takes)
    ∙ ap (drop (length takes)) (reverse-append (known below) (known takes))
    ∙ ap (λ n. drop n (reverse (known takes) ++ reverse (known below))) (sym (length-reverse (known takes) ∙ length-map takes Known))
    ∙ drop-append_seam (reverse (known takes)) (reverse (known below))

pub fitted_values : (ts takes : List Ty) → fit matches false (reverse (known ts)) (reverse takes) ≡ true → Fitted ts takes
fitted_values ts takes h =
    let top = fit_top (reverse ts) (reverse takes) (subst (λ l. fit matches false l (reverse takes) ≡ true) (known_reverse ts) h) in
    let e : ts ≡ reverse top.0 ++ takes = sym (reverse-reverse ts) ∙ ap reverse top.1 ∙ reverse-append (reverse takes) top.0 ∙ ap (λ l. reverse top.0 ++ l) (reverse-reverse takes) in
    record { below = reverse top.0; is = e; rest = subst (λ l. drop (length takes) (reverse (known l)) ≡ reverse (known (reverse top.0))) (sym e) (rest_of (reverse top.0) takes) }

-- what is put on top of values
pub put_on : (below gives : List Ty) → reverse (known gives) ++ reverse (known below) ≡ reverse (known (below ++ gives))
put_on below gives = sym (ap reverse (known_append below gives) ∙ reverse-append (known below) (known gives))
