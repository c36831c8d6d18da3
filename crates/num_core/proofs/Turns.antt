-- That std's shifts and rotations are those of the standard.
use Rattle.std.proofs.Common.{◌≡◌, ℕ, zero, suc, ◌+◌, ◌-◌, ◌*◌, ◌/◌, ◌%◌, ◌^◌, ◌<◌, ◌≤◌, Bool, true, false, cond, nat_lt, ◌∙◌, ap, sym, subst, arith, mod-lt, pow_pos, pow_mono, mod-eq_of_lt}
use Rattle.std.specs.Prelude.{bit_or, ℤ, pos, negsuc, FitsSigned}
use Rattle.std.specs.Int.{Width, cast_signed, cast_unsigned, int_shr}
use Rattle.std.proofs.Math.Nat.{div-eq_of_lt, mod_self, mul-mod_left}
use Rattle.std.proofs.Math.Pow.{shr_lt}
use Rattle.std.specs.Int.Bits.{or_self}
use Rattle.std.proofs.lemmas.Bool.{ltb-true, ltb-false, lt-ltb, le-ltb}
use Rattle.std.proofs.lemmas.Int.{to_z-of_z}
use Rattle.std.proofs.lemmas.Nat.{or_shifted, or_comm, pow-add, le-div, div-mul-add, shr_split}
use Rattle.num_core.specs.Integers.{signed, unsigned, wrap, extend_signed, rotate_left, rotate_right, shift_right_signed}
use Rattle.num_core.proofs.Ranges.{shifted_up, turned_high}

-- the two parts of a rotation share no bit
parts_apart : (m k i : ℕ) → i < 2 ^ (m + k) → bit_or ((i * 2 ^ k) % 2 ^ (m + k)) (i / 2 ^ m) ≡ (i * 2 ^ k) % 2 ^ (m + k) + i / 2 ^ m
parts_apart m k i lt =
    ap (λ x. bit_or x (i / 2 ^ m)) (shifted_up m k i)
    ∙ or_shifted (i % 2 ^ m) k (i / 2 ^ m) (turned_high m k i lt)
    ∙ ap (λ x. x + i / 2 ^ m) (sym (shifted_up m k i))

-- std takes the count for the other end modulo the width too, so that a rotation by 0 has both parts whole
joined : (n k i : ℕ) → k < n → i < 2 ^ n → bit_or ((i * 2 ^ k) % 2 ^ n) (i / 2 ^ ((n - k) % n)) ≡ (i * 2 ^ k) % 2 ^ n + i / 2 ^ (n - k)
joined n zero i less lt =
    let whole : (i * 2 ^ 0) % 2 ^ n ≡ i = (let one : i * 2 ^ 0 ≡ i = omega arith in ap (λ x. x % 2 ^ n) one ∙ mod-eq_of_lt lt) in
    let count : (n - 0) % n ≡ 0 = (let all : n - 0 ≡ n = omega arith in ap (λ x. x % n) all ∙ mod_self n) in
    let same : i / 2 ^ ((n - 0) % n) ≡ i = (ap (λ x. i / 2 ^ x) count ∙ (let one : i / 1 ≡ i = omega arith in one)) in
    let all : n - 0 ≡ n = omega arith in
    let none : i / 2 ^ (n - 0) ≡ 0 = ap (λ x. i / 2 ^ x) all ∙ div-eq_of_lt lt in
    let right : (i * 2 ^ 0) % 2 ^ n + i / 2 ^ (n - 0) ≡ i = omega arith in
    ap (λ x. bit_or x (i / 2 ^ ((n - 0) % n))) whole ∙ ap (bit_or i) same ∙ or_self i ∙ sym right
joined n (suc k) i less lt =
    let rest : n - suc k < n = omega arith in
    let count : (n - suc k) % n ≡ n - suc k = mod-eq_of_lt rest in
    let all : (n - suc k) + suc k ≡ n = omega arith in
    let P : ℕ → Type 0 = λ w. i < 2 ^ w → bit_or ((i * 2 ^ suc k) % 2 ^ w) (i / 2 ^ (n - suc k)) ≡ (i * 2 ^ suc k) % 2 ^ w + i / 2 ^ (n - suc k) in
    ap (λ x. bit_or ((i * 2 ^ suc k) % 2 ^ n) (i / 2 ^ x)) count ∙ subst P all (parts_apart (n - suc k) (suc k) i) lt

-- the same, for the other direction: the count for the left part is n - k
joined_right : (n k i : ℕ) → k < n → i < 2 ^ n → bit_or (i / 2 ^ k) ((i * 2 ^ ((n - k) % n)) % 2 ^ n) ≡ i / 2 ^ k + (i * 2 ^ (n - k)) % 2 ^ n
joined_right n zero i less lt =
    let all : n - 0 ≡ n = omega arith in
    let count : (n - 0) % n ≡ 0 = ap (λ x. x % n) all ∙ mod_self n in
    let same : i / 2 ^ 0 ≡ i = (let one : i / 1 ≡ i = omega arith in one) in
    let whole : (i * 2 ^ ((n - 0) % n)) % 2 ^ n ≡ i = (ap (λ x. (i * 2 ^ x) % 2 ^ n) count ∙ (let one : i * 1 ≡ i = omega arith in ap (λ x. x % 2 ^ n) one ∙ mod-eq_of_lt lt)) in
    let none : (i * 2 ^ (n - 0)) % 2 ^ n ≡ 0 = ap (λ x. (i * 2 ^ x) % 2 ^ n) all ∙ mul-mod_left i (2 ^ n) in
    let right : i / 2 ^ 0 + (i * 2 ^ (n - 0)) % 2 ^ n ≡ i = omega arith in
    ap (λ x. bit_or x ((i * 2 ^ ((n - 0) % n)) % 2 ^ n)) same ∙ ap (bit_or i) whole ∙ or_self i ∙ sym right
joined_right n (suc k) i less lt =
    let rest : n - suc k < n = omega arith in
    let count : (n - suc k) % n ≡ n - suc k = mod-eq_of_lt rest in
    let all : suc k + (n - suc k) ≡ n = omega arith in
    let P : ℕ → Type 0 = λ w. i < 2 ^ w → bit_or ((i * 2 ^ (n - suc k)) % 2 ^ w) (i / 2 ^ suc k) ≡ (i * 2 ^ (n - suc k)) % 2 ^ w + i / 2 ^ suc k in
    let turned : bit_or ((i * 2 ^ (n - suc k)) % 2 ^ n) (i / 2 ^ suc k) ≡ (i * 2 ^ (n - suc k)) % 2 ^ n + i / 2 ^ suc k = subst P all (parts_apart (suc k) (n - suc k) i) lt in
    ap (λ x. bit_or (i / 2 ^ suc k) ((i * 2 ^ x) % 2 ^ n)) count
    ∙ or_comm (i / 2 ^ suc k) ((i * 2 ^ (n - suc k)) % 2 ^ n)
    ∙ turned
    ∙ (let swap : (i * 2 ^ (n - suc k)) % 2 ^ n + i / 2 ^ suc k ≡ i / 2 ^ suc k + (i * 2 ^ (n - suc k)) % 2 ^ n = omega arith in swap)

pub turns_left : (n j i : ℕ) → 0 < n → i < 2 ^ n → bit_or ((i * 2 ^ (j % n)) % 2 ^ n) (i / 2 ^ ((n - j % n) % n)) ≡ rotate_left n i j
turns_left n j i above lt = joined n (j % n) i (mod-lt j above) lt

pub turns_right : (n j i : ℕ) → 0 < n → i < 2 ^ n → bit_or (i / 2 ^ (j % n)) ((i * 2 ^ ((n - j % n) % n)) % 2 ^ n) ≡ rotate_right n i j
turns_right n j i above lt = joined_right n (j % n) i (mod-lt j above) lt

-- a number whose sign is 0 keeps it
low_half : (h k a : ℕ) → k ≤ h → a < 2 ^ h → a / 2 ^ k < 2 ^ (h - k)
low_half h k a le lt = let all : h ≡ (h - k) + k = omega arith in shr_lt (h - k) k (subst (λ n. a < 2 ^ n) all lt)

high_half : (h k a : ℕ) → k ≤ h → 2 ^ h ≤ a → 2 ^ (h - k) ≤ a / 2 ^ k
high_half h k a le ge =
    let all : (h - k) + k ≡ h = omega arith in
    let power : 2 ^ (h - k) * 2 ^ k ≡ 2 ^ h = sym (pow-add 2 (h - k) k) ∙ ap (λ n. 2 ^ n) all in
    le-div (2 ^ (h - k)) a (2 ^ k) (pow_pos k) (omega arith)

-- what a number lacks to all ones, shifted, is what the shifted number lacks
negated : (m k a : ℕ) → a < 2 ^ (m + k) → (2 ^ (m + k) - suc a) / 2 ^ k + suc (a / 2 ^ k) ≡ 2 ^ m
negated m k a lt =
    let quotient : a / 2 ^ k < 2 ^ m = shr_lt m k lt in
    let rest : a % 2 ^ k < 2 ^ k = mod-lt a (pow_pos k) in
    let parts : a / 2 ^ k * 2 ^ k + a % 2 ^ k ≡ a = shr_split a k in
    let power : 2 ^ (m + k) ≡ 2 ^ m * 2 ^ k = pow-add 2 m k in
    let d = 2 ^ m - suc (a / 2 ^ k) in
    let sum : d + a / 2 ^ k + 1 ≡ 2 ^ m = omega arith in
    let spread : d * 2 ^ k + a / 2 ^ k * 2 ^ k + 2 ^ k ≡ 2 ^ m * 2 ^ k =
    (let split : d * 2 ^ k + a / 2 ^ k * 2 ^ k + 2 ^ k ≡ (d + a / 2 ^ k + 1) * 2 ^ k = omega arith in split ∙ ap (λ x. x * 2 ^ k) sum) in
    let lacks : 2 ^ (m + k) - suc a ≡ d * 2 ^ k + (2 ^ k - 1 - a % 2 ^ k) = omega arith in
    let fewer : 2 ^ k - 1 - a % 2 ^ k < 2 ^ k = omega arith in
    let result : (2 ^ (m + k) - suc a) / 2 ^ k ≡ d = ap (λ x. x / 2 ^ k) lacks ∙ div-mul-add d (2 ^ k) (2 ^ k - 1 - a % 2 ^ k) fewer in
    omega arith

-- a shift that copies the sign, by the sign
shifted : (n k a : ℕ) → k < n → a < 2 ^ n → (b : Bool) → nat_lt a (2 ^ (n - 1)) ≡ b → unsigned n (int_shr (cond b (pos a) (negsuc (2 ^ n - suc a))) k) ≡ extend_signed (n - k) n (a / 2 ^ k)
shifted n k a less lt true e =
    let within : k ≤ n - 1 = omega arith in
    let half : n - 1 - k ≡ n - k - 1 = omega arith in
    let below : a / 2 ^ k < 2 ^ (n - 1 - k) = low_half (n - 1) k a within (ltb-true a (2 ^ (n - 1)) e) in
    let test : nat_lt (a / 2 ^ k) (2 ^ (n - k - 1)) ≡ true = lt-ltb (a / 2 ^ k) (2 ^ (n - k - 1)) (subst (λ w. a / 2 ^ k < 2 ^ w) half below) in
    ap (λ t. cond t (a / 2 ^ k) (a / 2 ^ k + (2 ^ n - 2 ^ (n - k)))) (sym test)
shifted n k a less lt false e =
    let within : k ≤ n - 1 = omega arith in
    let half : n - 1 - k ≡ n - k - 1 = omega arith in
    let above : 2 ^ (n - 1 - k) ≤ a / 2 ^ k = high_half (n - 1) k a within (ltb-false a (2 ^ (n - 1)) e) in
    let test : nat_lt (a / 2 ^ k) (2 ^ (n - k - 1)) ≡ false = le-ltb (a / 2 ^ k) (2 ^ (n - k - 1)) (subst (λ w. 2 ^ w ≤ a / 2 ^ k) half above) in
    let all : (n - k) + k ≡ n = omega arith in
    let P : ℕ → Type 0 = λ w. a < 2 ^ w → (2 ^ w - suc a) / 2 ^ k + suc (a / 2 ^ k) ≡ 2 ^ (n - k) in
    let lacks : (2 ^ n - suc a) / 2 ^ k + suc (a / 2 ^ k) ≡ 2 ^ (n - k) = subst P all (negated (n - k) k a) lt in
    let fewer : n - k ≤ n = omega arith in
    let most : 2 ^ (n - k) ≤ 2 ^ n = pow_mono fewer in
    let value : 2 ^ n - suc ((2 ^ n - suc a) / 2 ^ k) ≡ a / 2 ^ k + (2 ^ n - 2 ^ (n - k)) = omega arith in
    value ∙ ap (λ t. cond t (a / 2 ^ k) (a / 2 ^ k + (2 ^ n - 2 ^ (n - k)))) (sym test)

pub shifts_signed : (n j a : ℕ) → 0 < n → a < 2 ^ n → unsigned n (int_shr (signed n a) (j % n)) ≡ shift_right_signed n a j
shifts_signed n j a above lt = shifted n (j % n) a (mod-lt j above) lt (nat_lt a (2 ^ (n - 1))) (λ i. nat_lt a (2 ^ (n - 1)))

-- what std's calls hand on is cast to bits and back on the way
pub through : (w : Width) (a k u : ℕ) (x y : ℤ) → FitsSigned w x → FitsSigned w y → x ≡ cast_signed w a → y ≡ int_shr (cast_signed w (cast_unsigned w x)) k → u ≡ cast_unsigned w (cast_signed w (cast_unsigned w y)) → u ≡ cast_unsigned w (int_shr (cast_signed w a) k)
through w a k u x y fits_x fits_y is_x is_y is_u =
    is_u
    ∙ ap (cast_unsigned w) (to_z-of_z w y fits_y ∙ is_y ∙ ap (λ t. int_shr t k) (to_z-of_z w x fits_x ∙ is_x))

-- a count that is taken modulo the width twice
pub twice : (n j : ℕ) → 0 < n → j % n % n ≡ j % n
twice n j above = mod-eq_of_lt (mod-lt j above)

pub turns_left_twice : (n j i : ℕ) → 0 < n → rotate_left n i (j % n) ≡ rotate_left n i j
turns_left_twice n j i above = ap (λ k. wrap n (i * 2 ^ k) + i / 2 ^ (n - k)) (twice n j above)

pub turns_right_twice : (n j i : ℕ) → 0 < n → rotate_right n i (j % n) ≡ rotate_right n i j
turns_right_twice n j i above = ap (λ k. i / 2 ^ k + wrap n (i * 2 ^ (n - k))) (twice n j above)

pub shifts_signed_twice : (n j i : ℕ) → 0 < n → shift_right_signed n i (j % n) ≡ shift_right_signed n i j
shifts_signed_twice n j i above = ap (λ k. extend_signed (n - k) n (i / 2 ^ k)) (twice n j above)
