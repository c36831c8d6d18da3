-- Numbers that are written in decimal, and read again.
use Rattle.std.proofs.Common.{◌≡◌, ◌≢◌, ℕ, zero, suc, ◌<◌, ◌≤◌, ◌+◌, ◌*◌, ◌-◌, ◌^◌, List, [], ◌∷◌, get_or, nat_le, true, false, sym, ap, subst, ◌∙◌, arith, rules}
use Rattle.std.proofs.lemmas.Bool.{leb-true, leb-false}
use Rattle.std.proofs.lemmas.Fmt.{decimal_digit, first_decimal, parse-decimal, decimal-digits_value}
use Rattle.std.proofs.lemmas.Str.Parse.{IsNumeralModel, numerals_by_fold, parse_plain}
use Rattle.std.specs.Fmt.{decimal}
use Rattle.std.specs.Prelude.{Result, Ok, Err, MatchOption, codes}
use Rattle.std.specs.Result.{result_ok}
use Rattle.std.specs.Str.{all_ascii_digits}
use Rattle.std.specs.Str.Parse.{ParsesUnsigned}

abbrev read_on : ℕ → List ℕ → ℕ
read_on n [] = n
read_on n (c ∷ cs) = read_on (10 * n + (c - 48)) cs

own : IsNumeralModel (λ ds. all_ascii_digits ds ≡ true) (read_on 0)
own = numerals_by_fold _ (search rules) read_on (search rules)

-- a text that is not `0`, and does not begin with a digit above zero, is no number
pub no_number : (text : List ℕ) → text ≢ codes "0" → get_or text 0 0 ≤ 48 → (turns : ℕ) → turns < 2 ^ 64 → text ≡ decimal turns → ⊥
no_number text differs low zero within e = differs (e ∙ decimal_digit 0 (omega arith))
no_number text differs low (suc k) within e =
    let first : 48 < get_or (decimal (suc k)) 0 0 = first_decimal (suc k) (omega arith) within in
    let same : get_or text 0 0 ≡ get_or (decimal (suc k)) 0 0 = ap (λ t. get_or t 0 0) e in
    omega (arith, first, same, low)

-- what is read of a text that begins with a digit above zero
pub reads_number : {E : Type 0} (text : List ℕ) (r : Result ℕ E) → ParsesUnsigned 64 10 text r → 48 < get_or text 0 0 → MatchOption (result_ok r) ((turns : ℕ) → turns < 2 ^ 64 → text ≡ decimal turns → ⊥) (λ turns. (turns < 2 ^ 64) × (text ≡ decimal turns))
reads_number {E} text (Ok n) h high =
    let plain = parse_plain own {E = E} 64 text (Ok n) h (omega (arith, high)) in
    let written : decimal (read_on 0 text) ≡ text = decimal-digits_value own text plain.0.0 plain.0.1 (λ low. absurd (omega (arith, high, low))) plain.0.2 in
    (subst (λ m. m < 2 ^ 64) (sym plain.1) plain.0.2, sym written ∙ ap decimal (sym plain.1))
reads_number {E} text (Err e) h high = λ turns within same.
    let no : ◌≡◌ {A = Result ℕ E} (Err e) (Ok turns) = parse-decimal 64 turns text (Err e) within within same h in absurd cc

-- the first byte of a text, as a test tells it
pub is_low : (text slice : List ℕ) → slice ≡ text → true ≡ nat_le (get_or slice 0 0) 48 → get_or text 0 0 ≤ 48
is_low text slice same h = leb-true (get_or text 0 0) 48 (sym (h ∙ ap (λ t. nat_le (get_or t 0 0) 48) same))

pub is_high : (text slice : List ℕ) → slice ≡ text → false ≡ nat_le (get_or slice 0 0) 48 → 48 < get_or text 0 0
is_high text slice same h = leb-false (get_or text 0 0) 48 (sym (h ∙ ap (λ t. nat_le (get_or t 0 0) 48) same))
