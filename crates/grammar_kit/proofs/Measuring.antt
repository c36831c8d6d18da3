-- Measuring entries one after the other, as a loop does.
use Rattle.std.proofs.Common.{◌≡◌, ℕ, suc, ◌-◌, ◌+◌, ◌<◌, List, ◌∷◌, Option, Some, None, max, refl, sym, ◌∙◌, add_assoc, arith}
use Rattle.std.specs.Prelude.{option_and_then, option_map, sum_by}
use Rattle.std.specs.Ordering.{ord_max, nat_cmp}
use Rattle.std.proofs.lemmas.List.Sums.{sum_by-cons}
use Rattle.std.proofs.lemmas.Option.{some_pair_parts}
use Rattle.grammar_kit.specs.Form.{Form, many}
use Rattle.grammar_kit.specs.Measures.{through, greatest}

-- the greater of two numbers, as code finds it
pub larger_is : (a b : ℕ) → ord_max nat_cmp a b ≡ max a b
larger_is a b = grind arith

module _ {X : Type 0} (size : X → ℕ) where
  -- the extent of what was measured before, and of what is still read
  abbrev pub joined : ℕ → ℕ → Option (List X × List ℕ) → Option ((ℕ × ℕ) × List ℕ)
  joined g t read = option_map (λ p. ((max g (greatest size p.0), t + sum_by size p.0), p.1)) read

  max_max : (a b c : ℕ) → max a (max b c) ≡ max (max a b) c
  max_max a b c = omega arith

  first_joined : (g t : ℕ) (x : X) (read : Option (List X × List ℕ)) → joined g t (option_and_then (λ p. Some (x ∷ p.0, p.1)) read) ≡ joined (max g (size x)) (t + size x) read
  first_joined g t x (Some p) = rw (sum_by-cons size x p.0, max_max g (size x) (greatest size p.0), ← (add_assoc t (size x) (sum_by size p.0))) refl
  first_joined g t x None = refl

  pub measure_goes_on : (f : Form X) (g t count i : ℕ) (b : List ℕ) (s : ℕ) (after : List ℕ) (total : Option ((ℕ × ℕ) × List ℕ))
      → i < count → through size (f.read b) ≡ Some (s, after)
      → joined g t ((many f (count - i)).read b) ≡ total → joined (max g s) (t + s) ((many f (count - (i + 1))).read after) ≡ total
  measure_goes_on f g t count i b s after total lt h so_far =
      let k : count - i ≡ suc (count - (i + 1)) = omega arith in
      some_joined (f.read b) (count - (i + 1)) h (rw k at so_far)
    where
      some_joined : (o : Option (X × List ℕ)) (n : ℕ) → through size o ≡ Some (s, after) → joined g t (option_and_then (λ p. option_and_then (λ q. Some (p.0 ∷ q.0, q.1)) ((many f n).read p.1)) o) ≡ total → joined (max g s) (t + s) ((many f n).read after) ≡ total
      some_joined None n h e = absurd cc
      some_joined (Some p) n h e =
          let parts = some_pair_parts (size p.0) s p.1 after h in
          rw (← parts.0, ← parts.1) (sym (first_joined g t p.0 ((many f n).read p.1)) ∙ e)
