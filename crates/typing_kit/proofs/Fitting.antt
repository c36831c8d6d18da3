-- How the test whether operands fit types goes along both lists.
use Rattle.std.proofs.Common.{◌≡◌, ℕ, ◌+◌, ◌-◌, ◌≤◌, ◌<◌, Bool, true, false, ◌&&◌, List, [], ◌∷◌, ◌++◌, length, get_or, drop, reverse, refl, ap, sym, ◌∙◌, arith, Some, None}
use Rattle.std.proofs.lemmas.List.{drop_more, drop_all, length-drop, length-reverse, reverse-append}
use Rattle.typing_kit.specs.declared.operand.Operand.{Operand}
use Rattle.typing_kit.specs.declared.operand.Operand.TheVariants.{Bottom}
use Rattle.typing_kit.specs.Stack.{meets, fit}
use Rattle.typing_kit.specs.Steps.{topmost}
use Rattle.typing_kit.proofs.Lists.{at_from_end}

module _ {T : Type 0} (sub : T → T → Bool) where
  -- one place further
  pub fit_more : (dead : Bool) (s : List (Operand T)) (ts : List T) (k : ℕ) (a : Operand T) (t : T) → k < length s → k < length ts → get_or s k a ≡ a → get_or ts k t ≡ t → fit sub dead (drop k s) (drop k ts) ≡ (meets sub a t && fit sub dead (drop (k + 1) s) (drop (k + 1) ts))
  fit_more dead s ts k a t hs ht ea et =
      ap (λ l. fit sub dead l (drop k ts)) (drop_more s k a hs ∙ ap (λ x. x ∷ drop (k + 1) s) ea)
      ∙ ap (λ l. fit sub dead (a ∷ drop (k + 1) s) l) (drop_more ts k t ht ∙ ap (λ x. x ∷ drop (k + 1) ts) et)

  fit_lacking : (dead : Bool) (ts : List T) → 0 < length ts → fit sub dead [] ts ≡ dead
  fit_lacking dead [] h = absurd (omega arith)
  fit_lacking dead (t ∷ ts) h = refl

  -- past the last operand
  pub fit_past : (dead : Bool) (s : List (Operand T)) (ts : List T) (k : ℕ) → length s ≤ k → k < length ts → fit sub dead (drop k s) (drop k ts) ≡ dead
  fit_past dead s ts k hs ht =
      ap (λ l. fit sub dead l (drop k ts)) (drop_all k s hs)
      ∙ fit_lacking dead (drop k ts) (omega (arith, length-drop k ts))

  pub fit_nothing : (dead : Bool) (s : List (Operand T)) (ts : List T) (k : ℕ) → length ts ≤ k → fit sub dead (drop k s) (drop k ts) ≡ true
  fit_nothing dead s ts k ht = ap (λ l. fit sub dead (drop k s) l) (drop_all k ts ht)

  -- a turn of a loop over both lists from their ends, where r is whether this operand meets this type
  module _ (dead : Bool) (operands : List (Operand T)) (wanted : List T) (k : ℕ) (a : Operand T) (t : T) (r : Bool) (ho : k < length operands) (hw : k < length wanted) (ea : a ≡ get_or operands (length operands - 1 - k) a) (et : t ≡ get_or wanted (length wanted - 1 - k) t) (er : r ≡ meets sub a t) (whole : Bool) (so_far : fit sub dead (drop k (reverse operands)) (drop k (reverse wanted)) ≡ whole) where
    fit_turn : (r && fit sub dead (drop (k + 1) (reverse operands)) (drop (k + 1) (reverse wanted))) ≡ whole
    fit_turn =
        ap (λ b. b && fit sub dead (drop (k + 1) (reverse operands)) (drop (k + 1) (reverse wanted))) er
        ∙ sym (fit_more dead (reverse operands) (reverse wanted) k a t (omega (arith, length-reverse operands)) (omega (arith, length-reverse wanted))
        (at_from_end operands k a ho ∙ sym ea) (at_from_end wanted k t hw ∙ sym et))
        ∙ so_far

    pub fit_ends : r ≡ false → false ≡ whole
    fit_ends e = ap (λ b. b && fit sub dead (drop (k + 1) (reverse operands)) (drop (k + 1) (reverse wanted))) (sym e) ∙ fit_turn

    pub fit_goes_on : r ≡ true → fit sub dead (drop (k + 1) (reverse operands)) (drop (k + 1) (reverse wanted)) ≡ whole
    fit_goes_on e = ap (λ b. b && fit sub dead (drop (k + 1) (reverse operands)) (drop (k + 1) (reverse wanted))) (sym e) ∙ fit_turn

  fit_dead : (ts : List T) → fit sub true [] ts ≡ true
  fit_dead [] = refl
  fit_dead (t ∷ ts) = refl

  -- the topmost one, and then those below it
  pub fit_first : (dead : Bool) (s : List (Operand T)) (t : T) (ts : List T) (a : Operand T) → topmost dead s ≡ Some a → fit sub dead s (t ∷ ts) ≡ (meets sub a t && fit sub dead (drop 1 s) ts)
  fit_first dead (b ∷ s) t ts a e = let same : b ≡ a = cc in ap (λ x. meets sub x t && fit sub dead s ts) same
  fit_first true [] t ts a e = let same : Bottom ≡ a = cc in sym (fit_dead ts) ∙ ap (λ x. meets sub x t && fit sub true [] ts) same
  fit_first false [] t ts a e = let no : ⊥ = cc in absurd no

  pub fit_none : (dead : Bool) (s : List (Operand T)) (t : T) (ts : List T) → topmost dead s ≡ None → fit sub dead s (t ∷ ts) ≡ false
  fit_none dead (b ∷ s) t ts e = let no : ⊥ = cc in absurd no
  fit_none true [] t ts e = let no : ⊥ = cc in absurd no
  fit_none false [] t ts e = refl

  -- a type on top, and those below it
  pub fit_split : (dead : Bool) (s : List (Operand T)) (t : T) (ts : List T) → fit sub dead s (t ∷ ts) ≡ (fit sub dead s (t ∷ []) && fit sub dead (drop 1 s) ts)
  fit_split true [] t ts = sym (fit_dead ts)
  fit_split false [] t ts = refl
  fit_split dead (a ∷ s) t ts = elim (meets sub a t) as (λ b. (b && fit sub dead s ts) ≡ ((b && true) && fit sub dead s ts)) [ true ↦ refl | false ↦ refl ]

  pub fit_under : (dead : Bool) (s : List (Operand T)) (t : T) (ts : List T) → fit sub dead s (reverse (ts ++ t ∷ [])) ≡ (fit sub dead s (t ∷ []) && fit sub dead (drop 1 s) (reverse ts))
  fit_under dead s t ts = ap (fit sub dead s) (reverse-append ts (t ∷ [])) ∙ fit_split dead s t (reverse ts)
