-- Which limit a module passes first, by its numbers.
use Rattle.std.proofs.Common.{◌≡◌, ℕ, zero, suc, ◌+◌, ◌≤◌, List, [], ◌∷◌, length, Option, Some, None, sym, subst, ◌∙◌}
use Rattle.std.specs.Prelude.{IfSome}
use Rattle.std.specs.List.{AllByRecursion}
use Rattle.wasm_frame.specs.Payloads.{FirstWithout}
use Rattle.module_reading.specs.declared.kind.Kind.{Kind}
use Rattle.module_reading.specs.declared.numbers.Numbers.{Numbers}
use Rattle.module_reading.specs.Format.{Format}
use Rattle.module_reading.specs.Limits.{IsWithin, front_kinds, last_kinds, IsWithinLimits, FirstPassed}
use Rattle.module_reading.specs.Numbers.{number_in, AreOf, AllWithin, IsFirstPassed}
use Rattle.module_reading.proofs.Lists.{first_in_front, first_of_others, all_both, place_in_front, place_of_others}

-- what holds, holds where there is a limit
pub told : {P : Type 0} (o : Option ℕ) → P → IfSome o (λ most. P)
told (Some most) p = p
told None p = tt

module _ {Module : Type 0} (f : Format Module) (n : Numbers) (m : Module) where
  same_within : (k : Kind) → IfSome (f.limit k) (λ most. number_in n k ≡ f.number k m) → IsWithin f k (number_in n k) → IsWithin f k (f.number k m)
  same_within k same h = step (f.limit k) same h
    where
      step : (o : Option ℕ) → IfSome o (λ most. number_in n k ≡ f.number k m) → IfSome o (λ most. number_in n k ≤ most) → IfSome o (λ most. f.number k m ≤ most)
      step None same h = tt
      step (Some most) same h = subst (λ (x : ℕ). x ≤ most) same h

  within_same : (k : Kind) → IfSome (f.limit k) (λ most. number_in n k ≡ f.number k m) → IsWithin f k (f.number k m) → IsWithin f k (number_in n k)
  within_same k same h = step (f.limit k) same h
    where
      step : (o : Option ℕ) → IfSome o (λ most. number_in n k ≡ f.number k m) → IfSome o (λ most. f.number k m ≤ most) → IfSome o (λ most. number_in n k ≤ most)
      step None same h = tt
      step (Some most) same h = subst (λ (x : ℕ). x ≤ most) (sym same) h

  pub within : (ks : List Kind) → AreOf f ks n m → AllWithin f ks n → AllByRecursion (λ k. IsWithin f k (f.number k m)) ks
  within [] same h = tt
  within (k ∷ ks) same h = (same_within k same.0 h.0, within ks same.1 h.1)

  first : (ks : List Kind) (i : ℕ) → AreOf f ks n m → FirstWithout (λ k. IsWithin f k (number_in n k)) ks i → FirstWithout (λ k. IsWithin f k (f.number k m)) ks i
  first [] i same h = absurd h
  first (k ∷ ks) zero same h = λ le. h (within_same k same.0 le)
  first (k ∷ ks) (suc i) same h = (same_within k same.0 h.0, first ks i same.1 h.1)

  pub passed_in_front : (k : Kind) → AreOf f front_kinds n m → IsFirstPassed f front_kinds n k → FirstPassed f m k
  passed_in_front k same h = (
    h.0,
    place_in_front front_kinds last_kinds h.0 k h.1,
    first_in_front (λ j. IsWithin f j (f.number j m)) front_kinds last_kinds h.0 (first front_kinds h.0 same h.2),
  )

  module _ (front : AllByRecursion (λ k. IsWithin f k (f.number k m)) front_kinds) (same : AreOf f last_kinds n m) where
    pub passed_behind : (k : Kind) → IsFirstPassed f last_kinds n k → FirstPassed f m k
    passed_behind k h = (
      length front_kinds + h.0,
      place_of_others front_kinds last_kinds h.0 ∙ h.1,
      first_of_others (λ j. IsWithin f j (f.number j m)) front_kinds last_kinds h.0 front (first last_kinds h.0 same h.2),
    )

    pub all_within : AllWithin f last_kinds n → IsWithinLimits f m
    all_within h = all_both (λ j. IsWithin f j (f.number j m)) front_kinds last_kinds front (within last_kinds same h)
