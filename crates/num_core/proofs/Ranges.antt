-- That what an operator gives is an integer of its width.
use Rattle.std.proofs.Common.{◌≡◌, ℕ, zero, suc, ◌+◌, ◌-◌, ◌*◌, ◌/◌, ◌%◌, ◌^◌, ◌<◌, ◌≤◌, Bool, true, false, cond, nat_eq, nat_lt, Option, Some, None, ◌∙◌, subst, arith, mod-lt, pow_pos, pow_mono, lit<, lit≤}
use Rattle.std.specs.Prelude.{ℤ, pos, negsuc, int_le, int_div, int_rem, unsigned_abs, neg_ℤ, bit_and, bit_or, bit_xor, if◌then◌else◌}
use Rattle.std.proofs.Math.Nat.{div-le_self, mod-le, mul-le-mul_right, mul-mod_left}
use Rattle.std.proofs.Math.Pow.{shr_lt}
use Rattle.std.proofs.lemmas.Bool.{leb-false}
use Rattle.std.proofs.lemmas.Nat.{leading_le, trailing_le, ones_le_self, and_le_l, or_lt, xor_lt, shl-shr, pow-add, mod-pow-add}
use Rattle.num_core.specs.Integers.{bits, signed, unsigned, wrap, extend_signed, add_of, sub_of, mul_of, shift_left, shift_right_signed, shift_right_unsigned, rotate_left, rotate_right, binary, unary, convert, width_from, width_to}
use Rattle.num_core.specs.declared.operators.Width.{Width}
use Rattle.num_core.specs.declared.operators.Width.TheVariants.{W32, W64}
use Rattle.num_core.specs.declared.operators.Bin.{Bin}
use Rattle.num_core.specs.declared.operators.Bin.TheVariants.{Add, Sub, Mul, DivS, DivU, RemS, RemU, And, Or, Xor, Shl, ShrS, ShrU, Rotl, Rotr}
use Rattle.num_core.specs.declared.operators.Un.{Un}
use Rattle.num_core.specs.declared.operators.Un.TheVariants.{Clz, Ctz, Popcnt}
use Rattle.num_core.specs.declared.operators.Conv.{Conv}
use Rattle.num_core.specs.declared.operators.Conv.TheVariants.{Wrap, Ext32S, Ext32U, S8of32, S16of32, S8of64, S16of64, S32of64}

pub wrap_below : (n i : ℕ) → wrap n i < 2 ^ n
wrap_below n i = mod-lt i (pow_pos n)

chosen : (b : Bool) (x y bound : ℕ) → x < bound → y < bound → cond b x y < bound
chosen true x y bound p q = p
chosen false x y bound p q = q

pub extend_signed_below : (m n i : ℕ) → m ≤ n → i < 2 ^ m → extend_signed m n i < 2 ^ n
extend_signed_below m n i le lt =
    let more : 2 ^ m ≤ 2 ^ n = pow_mono le in
    chosen (nat_lt i (2 ^ (m - 1))) i (i + (2 ^ n - 2 ^ m)) (2 ^ n) (omega arith) (omega arith)

pub shift_right_signed_below : (n i j : ℕ) → 0 < n → i < 2 ^ n → shift_right_signed n i j < 2 ^ n
shift_right_signed_below n i j above lt =
    let count : j % n < n = mod-lt j above in
    let all : n ≡ (n - j % n) + j % n = omega arith in
    let less : n - j % n ≤ n = omega arith in
    let within : i < 2 ^ ((n - j % n) + j % n) = subst (λ w. i < 2 ^ w) all lt in
    extend_signed_below (n - j % n) n (i / 2 ^ (j % n)) less (shr_lt (n - j % n) (j % n) within)

-- the bits that a shift to the left keeps
pub shifted_up : (j k i : ℕ) → (i * 2 ^ k) % 2 ^ (j + k) ≡ i % 2 ^ j * 2 ^ k
shifted_up j k i =
    mod-pow-add (i * 2 ^ k) j k ∙ (let none : (i * 2 ^ k) % 2 ^ k ≡ 0 = mul-mod_left i (2 ^ k) in let back : i * 2 ^ k / 2 ^ k ≡ i = shl-shr i k in rw (back, none) (omega arith))

-- what leaves at the one end
pub turned_high : (j k i : ℕ) → i < 2 ^ (j + k) → i / 2 ^ j < 2 ^ k
turned_high j k i lt = shr_lt k j (subst (λ n. i < 2 ^ n) (let e : j + k ≡ k + j = omega arith in e) lt)

-- what leaves at the one end has room at the other
turned : (j k i : ℕ) → i < 2 ^ (j + k) → (i * 2 ^ k) % 2 ^ (j + k) + i / 2 ^ j < 2 ^ (j + k)
turned j k i lt =
    let high : i / 2 ^ j < 2 ^ k = turned_high j k i lt in
    let moved : (i * 2 ^ k) % 2 ^ (j + k) ≡ i % 2 ^ j * 2 ^ k = shifted_up j k i in
    let low : i % 2 ^ j < 2 ^ j = mod-lt i (pow_pos j) in
    let least : i % 2 ^ j + 1 ≤ 2 ^ j = omega arith in
    let all : (i % 2 ^ j + 1) * 2 ^ k ≤ 2 ^ j * 2 ^ k = mul-le-mul_right (2 ^ k) least in
    omega (arith, moved, high, all, pow-add 2 j k)

parts : (n j : ℕ) → 0 < n → (n - j % n) + j % n ≡ n
parts n j above = let count : j % n < n = mod-lt j above in omega arith

pub rotate_left_below : (n i j : ℕ) → 0 < n → i < 2 ^ n → rotate_left n i j < 2 ^ n
rotate_left_below n i j above lt =
    let P : ℕ → Type 0 = λ w. i < 2 ^ w → (i * 2 ^ (j % n)) % 2 ^ w + i / 2 ^ (n - j % n) < 2 ^ w in
    subst P (parts n j above) (turned (n - j % n) (j % n) i) lt

pub rotate_right_below : (n i j : ℕ) → 0 < n → i < 2 ^ n → rotate_right n i j < 2 ^ n
rotate_right_below n i j above lt =
    let all : j % n + (n - j % n) ≡ n = omega (arith, parts n j above) in
    let P : ℕ → Type 0 = λ w. i < 2 ^ w → (i * 2 ^ (n - j % n)) % 2 ^ w + i / 2 ^ (j % n) < 2 ^ w in
    let turn : (i * 2 ^ (n - j % n)) % 2 ^ n + i / 2 ^ (j % n) < 2 ^ n = subst P all (turned (j % n) (n - j % n) i) lt in
    omega (arith, turn)

-- the number of a signed value lies in the range where its positive part does
unsigned_below : (n : ℕ) (z : ℤ) → ((k : ℕ) → z ≡ pos k → k < 2 ^ n) → unsigned n z < 2 ^ n
unsigned_below n (pos k) within = within k (λ i. pos k)
unsigned_below n (negsuc k) within = omega (arith, pow_pos n)

some_below : (a r bound : ℕ) → Some a ≡ Some r → a < bound → r < bound
some_below a r bound e lt = let same : a ≡ r = cc in omega arith

-- a value is given where the test for none fails
unless : (b : Bool) (o : Option ℕ) (r : ℕ) → (if b then None else o) ≡ Some r → o ≡ Some r
unless true o r e = cc
unless false o r e = e

small_quotient : (n : ℕ) (q : ℤ) (b : Bool) (r : ℕ) → int_le (pos (2 ^ (n - 1))) q ≡ b → (if b then None else Some (unsigned n q)) ≡ Some r → r < 2 ^ n
small_quotient n q true r test e = cc
small_quotient n (pos k) false r test e =
    let less : k < 2 ^ (n - 1) = leb-false (2 ^ (n - 1)) k test in
    let fewer : n - 1 ≤ n = omega arith in
    let most : 2 ^ (n - 1) ≤ 2 ^ n = pow_mono fewer in
    some_below k r (2 ^ n) e (omega arith)
small_quotient n (negsuc k) false r test e = some_below (unsigned n (negsuc k)) r (2 ^ n) e (omega (arith, pow_pos n))

signed_within : (b : Bool) (n i m k : ℕ) → i < 2 ^ n → (if b then pos i else negsuc m) ≡ pos k → k < 2 ^ n
signed_within true n i m k lt e = let same : i ≡ k = cc in omega arith
signed_within false n i m k lt e = cc

negated : (m k : ℕ) → neg_ℤ (pos m) ≡ pos k → k ≡ 0
negated zero k e = cc
negated (suc m) k e = cc

rem_within : (n : ℕ) (a d : ℤ) → ((k : ℕ) → a ≡ pos k → k < 2 ^ n) → (k : ℕ) → int_rem a d ≡ pos k → k < 2 ^ n
rem_within n (pos x) d within k e =
    let less : x < 2 ^ n = within x (λ i. pos x) in
    let same : x % unsigned_abs d ≡ k = cc in
    omega (arith, mod-le x (unsigned_abs d))
rem_within n (negsuc x) d within k e = omega (arith, negated (suc x % unsigned_abs d) k e, pow_pos n)

-- the result of a binary operator, where it gives one
module _ (w : Width) (i j r : ℕ) (p : i < 2 ^ bits w) (q : j < 2 ^ bits w) where
  above : 0 < bits w
  above = elim w as (λ v. 0 < bits v) [ W32 ↦ lit< tt | W64 ↦ lit< tt ]

  given : (a : ℕ) → a < 2 ^ bits w → Some a ≡ Some r → r < 2 ^ bits w
  given a lt e = some_below a r (2 ^ bits w) e lt

  pub binary_below : (op : Bin) → binary w op i j ≡ Some r → r < 2 ^ bits w
  binary_below Add e = given (add_of (bits w) i j) (wrap_below (bits w) (i + j)) e
  binary_below Sub e = given (sub_of (bits w) i j) (wrap_below (bits w) (i + (2 ^ bits w - j))) e
  binary_below Mul e = given (mul_of (bits w) i j) (wrap_below (bits w) (i * j)) e
  binary_below DivS e =
      let quotient = int_div (signed (bits w) i) (signed (bits w) j) in
      small_quotient (bits w) quotient (int_le (pos (2 ^ (bits w - 1))) quotient) r (λ k. int_le (pos (2 ^ (bits w - 1))) quotient)
      (unless (nat_eq j 0) (if int_le (pos (2 ^ (bits w - 1))) quotient then None else Some (unsigned (bits w) quotient)) r e)
  binary_below DivU e = given (i / j) (omega (arith, div-le_self i j)) (unless (nat_eq j 0) (Some (i / j)) r e)
  binary_below RemS e =
      let remainder = int_rem (signed (bits w) i) (signed (bits w) j) in
      given (unsigned (bits w) remainder)
      (unsigned_below (bits w) remainder
      (rem_within (bits w) (signed (bits w) i) (signed (bits w) j)
      (λ k. signed_within (nat_lt i (2 ^ (bits w - 1))) (bits w) i (2 ^ bits w - suc i) k p)))
      (unless (nat_eq j 0) (Some (unsigned (bits w) remainder)) r e)
  binary_below RemU e = given (i % j) (omega (arith, mod-le i j)) (unless (nat_eq j 0) (Some (i % j)) r e)
  binary_below And e = given (bit_and i j) (omega (arith, and_le_l i j)) e
  binary_below Or e = given (bit_or i j) (or_lt (bits w) i j p q) e
  binary_below Xor e = given (bit_xor i j) (xor_lt (bits w) i j p q) e
  binary_below Shl e = given (shift_left (bits w) i j) (wrap_below (bits w) (i * 2 ^ (j % bits w))) e
  binary_below ShrS e = given (shift_right_signed (bits w) i j) (shift_right_signed_below (bits w) i j above p) e
  binary_below ShrU e = given (shift_right_unsigned (bits w) i j) (omega (arith, div-le_self i (2 ^ (j % bits w)))) e
  binary_below Rotl e = given (rotate_left (bits w) i j) (rotate_left_below (bits w) i j above p) e
  binary_below Rotr e = given (rotate_right (bits w) i j) (rotate_right_below (bits w) i j above p) e

-- the result of a unary operator
pub unary_below : (w : Width) (op : Un) (i : ℕ) → i < 2 ^ bits w → unary w op i < 2 ^ bits w
unary_below W32 Clz i p = let most : 32 < 2 ^ 32 = lit< tt in omega (arith, leading_le 32 i)
unary_below W64 Clz i p = let most : 64 < 2 ^ 64 = lit< tt in omega (arith, leading_le 64 i)
unary_below W32 Ctz i p = let most : 32 < 2 ^ 32 = lit< tt in omega (arith, trailing_le 32 i)
unary_below W64 Ctz i p = let most : 64 < 2 ^ 64 = lit< tt in omega (arith, trailing_le 64 i)
unary_below w Popcnt i p = omega (arith, ones_le_self i)

-- the result of a conversion
pub convert_below : (op : Conv) (i : ℕ) → i < 2 ^ bits (width_from op) → convert op i < 2 ^ bits (width_to op)
convert_below Wrap i p = wrap_below 32 i
convert_below Ext32S i p = extend_signed_below 32 64 i (lit≤ tt) p
convert_below Ext32U i p = let more : 2 ^ 32 < 2 ^ 64 = lit< tt in omega arith
convert_below S8of32 i p = extend_signed_below 8 32 (wrap 8 i) (lit≤ tt) (wrap_below 8 i)
convert_below S16of32 i p = extend_signed_below 16 32 (wrap 16 i) (lit≤ tt) (wrap_below 16 i)
convert_below S8of64 i p = extend_signed_below 8 64 (wrap 8 i) (lit≤ tt) (wrap_below 8 i)
convert_below S16of64 i p = extend_signed_below 16 64 (wrap 16 i) (lit≤ tt) (wrap_below 16 i)
convert_below S32of64 i p = extend_signed_below 32 64 (wrap 32 i) (lit≤ tt) (wrap_below 32 i)
