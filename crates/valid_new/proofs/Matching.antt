-- Turns of a loop over two lists of types.
use Rattle.std.proofs.Common.{◌≡◌, ◌≢◌, ℕ, suc, ◌+◌, ◌<◌, Bool, true, false, ◌&&◌, List, [], ◌∷◌, ◌++◌, drop, length, get_or, refl, ap, sym, ◌∙◌, drop-cons, add-one, arith}
use Rattle.wasm_ast.specs.declared.module.ty.Ty.{Ty}
use Rattle.typed_trees.specs.Matching.{matches, all_match}

pub drop_at : {A : Type 0} (l : List A) (k : ℕ) (d : A) → k < length l → drop k l ≡ get_or l k d ∷ drop (k + 1) l
drop_at l k d h = drop-cons l k d h ∙ ap (λ n. get_or l k d ∷ drop n l) (sym (add-one k))

module _ (given wanted : List Ty) (k : ℕ) (a t : Ty) (r : Bool) (hg : k < length given) (hw : k < length wanted) (ea : a ≡ get_or given k a) (et : t ≡ get_or wanted k t) (er : r ≡ matches a t) (whole : Bool) (so_far : all_match (drop k given) (drop k wanted) ≡ whole) where
  turn : (r && all_match (drop (k + 1) given) (drop (k + 1) wanted)) ≡ whole
  turn =
      ap (λ b. b && all_match (drop (k + 1) given) (drop (k + 1) wanted)) er
      ∙ ap (λ b. matches b t && all_match (drop (k + 1) given) (drop (k + 1) wanted)) ea
      ∙ ap (λ b. matches (get_or given k a) b && all_match (drop (k + 1) given) (drop (k + 1) wanted)) et
      ∙ ap (λ l. all_match (get_or given k a ∷ drop (k + 1) given) l) (sym (drop_at wanted k t hw))
      ∙ ap (λ l. all_match l (drop k wanted)) (sym (drop_at given k a hg))
      ∙ so_far

  pub ends : r ≡ false → false ≡ whole
  ends e = ap (λ b. b && all_match (drop (k + 1) given) (drop (k + 1) wanted)) (sym e) ∙ turn

  pub goes_on : r ≡ true → all_match (drop (k + 1) given) (drop (k + 1) wanted) ≡ whole
  goes_on e = ap (λ b. b && all_match (drop (k + 1) given) (drop (k + 1) wanted)) (sym e) ∙ turn

-- lists of other lengths do not match
pub unequal : (given wanted : List Ty) → length given ≢ length wanted → false ≡ all_match given wanted
unequal [] [] h = absurd (h refl)
unequal [] (t ∷ wanted) h = refl
unequal (a ∷ given) [] h = refl
unequal (a ∷ given) (t ∷ wanted) h =
    elim (matches a t) as (λ b. false ≡ (b && all_match given wanted)) [ true ↦ unequal given wanted (λ e. h (ap (λ n. suc n) e)) | false ↦ refl ]

-- a type above others
pub all_match_with_top : (given below : List Ty) (a t : Ty) → all_match (given ++ a ∷ []) (below ++ t ∷ []) ≡ (all_match given below && matches a t)
all_match_with_top [] [] a t = elim (matches a t) as (λ b. (b && true) ≡ b) [ true ↦ refl | false ↦ refl ]
all_match_with_top [] (u ∷ []) a t = elim (matches a u) as (λ b. (b && false) ≡ false) [ true ↦ refl | false ↦ refl ]
all_match_with_top [] (u ∷ (v ∷ below)) a t = elim (matches a u) as (λ b. (b && false) ≡ false) [ true ↦ refl | false ↦ refl ]
all_match_with_top (s ∷ []) [] a t = elim (matches s t) as (λ b. (b && false) ≡ false) [ true ↦ refl | false ↦ refl ]
all_match_with_top (s ∷ (r ∷ given)) [] a t = elim (matches s t) as (λ b. (b && false) ≡ false) [ true ↦ refl | false ↦ refl ]
all_match_with_top (s ∷ given) (u ∷ below) a t =
    elim (matches s u) as (λ b. (b && all_match (given ++ a ∷ []) (below ++ t ∷ [])) ≡ ((b && all_match given below) && matches a t)) [ true ↦ all_match_with_top given below a t | false ↦ refl ]

pub all_match_nothing : (given : List Ty) (a : Ty) → false ≡ all_match (given ++ a ∷ []) []
all_match_nothing [] a = refl
all_match_nothing (s ∷ given) a = refl

pub all_match_of_nothing : (given : List Ty) (a : Ty) (wanted : List Ty) → length wanted ≡ 0 → false ≡ all_match (given ++ a ∷ []) wanted
all_match_of_nothing given a [] e = all_match_nothing given a
all_match_of_nothing given a (t ∷ wanted) e = let no : ⊥ = omega (arith, e) in absurd no
