-- The relation of numbers and its reading agree, a spelling stands for a number in range, and the shortest one exists.
use Rattle.std.proofs.Common.{◌≡◌, ℕ, zero, suc, ◌+◌, ◌-◌, ◌*◌, ◌/◌, ◌%◌, ◌^◌, ◌<◌, ◌≤◌, ◌⊎◌, Bool, true, false, cond, ltb, List, [], ◌∷◌, ◌++◌, length, Option, Some, None, refl, ap, subst, inl, inr, arith}
use Rattle.std.specs.Prelude.{option_map, ◌&&◌}
use Rattle.std.proofs.lemmas.Bool.{cases_lt, lt-ltb, le-ltb, ltb-true, and_parts}
use Rattle.std.proofs.lemmas.Bool.Decides.{nat_tests}
use Rattle.std.proofs.lemmas.Option.{some_pair_parts}
use Rattle.grammar_kit.specs.Exact.{Exact}
use Rattle.wasm_frame.specs.declared.leb128.Sign.{Sign}
use Rattle.wasm_frame.specs.declared.leb128.Sign.TheVariants.{Unsigned, Signed}
use Rattle.wasm_frame.specs.Leb128.{Last, Leb, last_value, read_leb, integer, integer_after, u32, u64, s32, s64, s33, IsShortest}
use Rattle.wasm_frame.proofs.Powers.{seven_more, halves, within_seven}

-- ---- the last byte

last_below : (sign : Sign) (w b n : ℕ) → Last sign w b n → b < 128
last_below Unsigned w b n h = h.0
last_below Signed w b n (inl h) = omega arith
last_below Signed w b n (inr h) = h.1

last_range : (sign : Sign) (w b n : ℕ) → 0 < w → Last sign w b n → n < 2 ^ w
last_range Unsigned w b n lt h = h.2
last_range Signed w b n lt (inl h) = omega (arith, halves w lt)
last_range Signed w b n lt (inr h) = omega arith

last_read : (sign : Sign) (w b n : ℕ) → 0 < w → Last sign w b n → last_value sign w b ≡ Some n
last_read Unsigned w b n lt h = grind (arith, nat_tests)
last_read Signed w b n lt (inl h) = grind (arith, nat_tests, halves)
last_read Signed w b n lt (inr h) = grind (arith, nat_tests, halves)

last_sound : (sign : Sign) (w b n : ℕ) → 0 < w → b < 128 → last_value sign w b ≡ Some n → Last sign w b n
last_sound Unsigned w b n lt small e = grind (arith, nat_tests)
last_sound Signed w b n lt small e = grind (arith, nat_tests, halves)

-- ---- the whole number

value_read : (o : Option ℕ) (bs : List ℕ) (n : ℕ) (rest : List ℕ) → option_map {T = ℕ} {U = ℕ × List ℕ} (λ m. (m, bs)) o ≡ Some (n, rest) → (o ≡ Some n) × (bs ≡ rest)
value_read (Some m) bs n rest e = let k = some_pair_parts m n bs rest e in (ap Some k.0, k.1)
value_read None bs n rest e = absurd cc

high_read : (low : ℕ) (o : Option (ℕ × List ℕ)) (n : ℕ) (rest : List ℕ) → option_map {T = ℕ × List ℕ} {U = ℕ × List ℕ} (λ p. (low + 128 * p.0, p.1)) o ≡ Some (n, rest)
    → (high : ℕ) × (o ≡ Some (high, rest)) × (low + 128 * high ≡ n)
high_read low (Some p) n rest e = let k = some_pair_parts (low + 128 * p.0) n p.1 rest e in (p.0, ap (λ (u : List ℕ). Some (p.0, u)) k.1, k.0)
high_read low None n rest e = absurd cc

-- a test that did not refuse
passed : {A : Type 0} (test : Bool) (o : Option A) (y : A) → cond test o None ≡ Some y → (test ≡ true) × (o ≡ Some y)
passed true o y e = (refl, e)
passed false o y e = absurd cc

one_more : (b : ℕ) (bs cs : List ℕ) → bs ≡ cs → b ∷ bs ≡ b ∷ cs
one_more b bs cs e = ap (λ (r : List ℕ). b ∷ r) e

-- what is read from the front is a spelling
sound : (sign : Sign) (w : ℕ) (b : List ℕ) (n : ℕ) (rest : List ℕ) → 0 < w → read_leb sign w b ≡ Some (n, rest) → (t : List ℕ) × (b ≡ t ++ rest) × Leb sign w t n
unfolding Leb read_leb
sound sign w [] n rest lt e = absurd cc
sound sign w (b ∷ bs) n rest lt e =
    elim (cases_lt b 128) [
      | inl small ↦
          let k = value_read (last_value sign w b) bs n rest (rw (lt-ltb b 128 small) at e) in
          (b ∷ [], one_more b bs rest k.1, inl (refl, last_sound sign w b n lt small k.0))
      | inr big ↦
          let g = passed (ltb b 256 && ltb 7 w) (option_map {T = ℕ × List ℕ} {U = ℕ × List ℕ} (λ p. (b - 128 + 128 * p.0, p.1)) (read_leb sign (w - 7) bs)) (n, rest) (rw (le-ltb b 128 big) at e) in
          let tests = and_parts (ltb b 256) (ltb 7 w) g.0 in
          let wide : 7 < w = ltb-true 7 w tests.1 in
          let k = high_read (b - 128) (read_leb sign (w - 7) bs) n rest g.1 in
          let ih = sound sign (w - 7) bs k.0 rest (omega arith) k.1 in
          (b ∷ ih.0, one_more b bs (ih.0 ++ rest) ih.1, inr (big, ltb-true b 256 tests.0, wide, k.0, omega arith, ih.2))
    ]

-- a spelling is read, whatever follows it
complete : (sign : Sign) (w : ℕ) (t : List ℕ) (n : ℕ) (rest : List ℕ) → 0 < w → Leb sign w t n → read_leb sign w (t ++ rest) ≡ Some (n, rest)
unfolding Leb read_leb
complete sign w [] n rest lt h = absurd h
complete sign w (b ∷ bs) n rest lt (inl h) =
    rw (lt-ltb b 128 (last_below sign w b n h.1), last_read sign w b n lt h.1, h.0) refl
complete sign w (b ∷ bs) n rest lt (inr h) =
    let ih : read_leb sign (w - 7) (bs ++ rest) ≡ Some (h.3, rest) = complete sign (w - 7) bs h.3 rest (omega arith) h.5 in
    rw (le-ltb b 128 h.0, lt-ltb b 256 h.1, lt-ltb 7 w h.2, ih) (ap (λ m. Some (m, rest)) (omega arith))

pub exact_integer : (sign : Sign) (w : ℕ) → 0 < w → Exact (integer sign w)
exact_integer sign w lt = record { sound = λ b n rest e. sound sign w b n rest lt e; complete = λ t n rest h. complete sign w t n rest lt h }

pub exact_u32 : Exact u32
exact_u32 = exact_integer Unsigned 32 (omega arith)

pub exact_u64 : Exact u64
exact_u64 = exact_integer Unsigned 64 (omega arith)

pub exact_s32 : Exact s32
exact_s32 = exact_integer Signed 32 (omega arith)

pub exact_s64 : Exact s64
exact_s64 = exact_integer Signed 64 (omega arith)

pub exact_s33 : Exact s33
exact_s33 = exact_integer Signed 33 (omega arith)

-- a number whose first byte was read already
after_sound : (k : ℕ) (sign : Sign) (w : ℕ) (b t : List ℕ) (n : ℕ) (rest : List ℕ) → k ∷ b ≡ t ++ rest → Leb sign w t n
    → (u : List ℕ) × (b ≡ u ++ rest) × Leb sign w (k ∷ u) n
unfolding Leb
after_sound k sign w b [] n rest e h = absurd h
after_sound k sign w b (c ∷ t) n rest e h = let first : c ≡ k = cc in (t, cc, subst (λ (m : ℕ). Leb sign w (m ∷ t) n) first h)

pub exact_after : (k : ℕ) (sign : Sign) (w : ℕ) → 0 < w → Exact (integer_after k sign w)
exact_after k sign w lt = record {
  sound = λ b n rest e. let s = sound sign w (k ∷ b) n rest lt e in after_sound k sign w b s.0 n rest s.1 s.2;
  complete = λ t n rest h. complete sign w (k ∷ t) n rest lt h;
}

pub exact_s33_after : (k : ℕ) → Exact (integer_after k Signed 33)
exact_s33_after k = exact_after k Signed 33 (omega arith)

pub ruleset exact_numbers = (exact_u32, exact_u64, exact_s32, exact_s64, exact_s33, exact_s33_after)

-- what is spelled with w bits is below 2 ^ w
pub in_range : (sign : Sign) (w : ℕ) (t : List ℕ) (n : ℕ) → 0 < w → Leb sign w t n → n < 2 ^ w
unfolding Leb
in_range sign w [] n lt h = absurd h
in_range sign w (b ∷ bs) n lt (inl h) = last_range sign w b n lt h.1
in_range sign w (b ∷ bs) n lt (inr h) = omega (arith, seven_more w h.2, in_range sign (w - 7) bs h.3 (omega arith) h.5)

-- a spelling has seven bits a byte, and no byte more than the number's bits ask for
pub length_within : (sign : Sign) (w : ℕ) (t : List ℕ) (n : ℕ) → 0 < w → Leb sign w t n → 7 * length t < w + 7
unfolding Leb
length_within sign w [] n lt h = absurd h
length_within sign w (b ∷ bs) n lt (inl h) = rw h.0 (omega arith)
length_within sign w (b ∷ bs) n lt (inr h) = omega (arith, length_within sign (w - 7) bs h.3 (omega arith) h.5)

-- ---- the shortest spelling

-- a number that no last byte spells has more than seven bits
pub wide_without_last : (sign : Sign) (w n : ℕ) → 0 < w → n < 2 ^ w → ((b : ℕ) → Last sign w b n → ⊥) → 7 < w
wide_without_last Unsigned w n lt range none =
    elim (cases_lt 7 w) [ inl wide ↦ wide | inr le ↦ absurd (none n (omega (arith, within_seven w le), refl, range)) ]
wide_without_last Signed w n lt range none =
    elim (cases_lt 7 w) [
      | inl wide ↦ wide
      | inr le ↦
          elim (cases_lt n (2 ^ (w - 1))) [
            | inl low ↦ absurd (none n (inl (omega (arith, within_seven w le, halves w lt), refl, low)))
            | inr high ↦
                let b : ℕ = n + 128 - 2 ^ w in
                absurd (none b (inr (omega (arith, within_seven w le, halves w lt), omega arith, omega (arith, within_seven w le), high)))
          ]
    ]

pub shortest_last : (sign : Sign) (w b n : ℕ) → Last sign w b n → IsShortest sign w (b ∷ []) n
unfolding Leb
shortest_last sign w b n h = record {
  spells = inl (refl, h);
  least = elim [ [] ↦ λ k. absurd k | c ∷ cs ↦ λ k. omega arith ];
}

not_fewer : (sign : Sign) (w : ℕ) (t : List ℕ) (n : ℕ) → ((b : ℕ) → Last sign w b n → ⊥) → IsShortest sign (w - 7) t (n / 128)
    → (others : List ℕ) → Leb sign w others n → suc (length t) ≤ length others
unfolding Leb
not_fewer sign w t n none short [] h = absurd h
not_fewer sign w t n none short (c ∷ cs) (inl h) = absurd (none c h.1)
not_fewer sign w t n none short (c ∷ cs) (inr h) =
    let high : h.3 ≡ n / 128 = omega arith in
    let least = short.least cs (subst (λ (k : ℕ). Leb sign (w - 7) cs k) high h.5) in
    omega arith

pub shortest_more : (sign : Sign) (w : ℕ) (t : List ℕ) (n : ℕ) → 7 < w → ((b : ℕ) → Last sign w b n → ⊥) → IsShortest sign (w - 7) t (n / 128)
    → IsShortest sign w ((128 + n % 128) ∷ t) n
unfolding Leb
shortest_more sign w t n wide none short = record {
  spells = inr (omega arith, omega arith, wide, n / 128, omega arith, short.spells);
  least = not_fewer sign w t n none short;
}

-- a last byte spells the number, or none does
last_or_more : (sign : Sign) (w n : ℕ) → 0 < w → n < 2 ^ w → ((b : ℕ) × Last sign w b n) ⊎ ((b : ℕ) → Last sign w b n → ⊥)
last_or_more Unsigned w n lt range =
    elim (cases_lt n 128) [ inl small ↦ inl (n, (small, refl, range)) | inr big ↦ inr (λ b h. absurd (omega arith)) ]
last_or_more Signed w n lt range =
    elim (cases_lt n (2 ^ (w - 1))) [
      | inl low ↦
          elim (cases_lt n 64) [
            | inl small ↦ inl (n, inl (small, refl, low))
            | inr big ↦ inr (λ b. elim [ inl h ↦ absurd (omega arith) | inr h ↦ absurd (omega (arith, halves w lt)) ])
          ]
      | inr high ↦
          elim (cases_lt (2 ^ w) (n + 65)) [
            | inl near ↦ inl (n + 128 - 2 ^ w, inr (omega (arith, halves w lt), omega arith, omega arith, high))
            | inr far ↦ inr (λ b. elim [ inl h ↦ absurd (omega arith) | inr h ↦ absurd (omega arith) ])
          ]
    ]

-- the number of recursions bounds how many bytes are asked for
shortest_within : (k : ℕ) (sign : Sign) (w n : ℕ) → w ≤ 7 * k → 0 < w → n < 2 ^ w → (t : List ℕ) × IsShortest sign w t n
shortest_within zero sign w n within lt range = absurd (omega arith)
shortest_within (suc k) sign w n within lt range =
    elim (last_or_more sign w n lt range) [
      | inl last ↦ (last.0 ∷ [], shortest_last sign w last.0 n last.1)
      | inr none ↦
          let wide = wide_without_last sign w n lt range none in
          let short = shortest_within k sign (w - 7) (n / 128) (omega arith) (omega arith) (omega (arith, seven_more w wide)) in
          ((128 + n % 128) ∷ short.0, shortest_more sign w short.0 n wide none short.1)
    ]

pub shortest_exists : (sign : Sign) (w n : ℕ) → 0 < w → n < 2 ^ w → (t : List ℕ) × IsShortest sign w t n
shortest_exists sign w n lt range = shortest_within w sign w n (omega arith) lt range
