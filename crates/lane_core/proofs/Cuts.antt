-- Numbers cut into parts of n bits, and numbers made of such parts.
use Rattle.std.proofs.Common.{◌≡◌, ℕ, zero, suc, ◌+◌, ◌*◌, ◌/◌, ◌%◌, ◌^◌, ◌<◌, ◌≤◌, List, [], ◌∷◌, length, map, get_or, refl, sym, ap, ◌∙◌, subst, arith, mod-lt, pow_pos}
use Rattle.std.proofs.Math.Nat.{mul_comm, mul-le-mul_left}
use Rattle.std.proofs.lemmas.Nat.{pow-add, shr-shr, shr_split, shr_below, shr_high, mod_low}
use Rattle.lane_core.specs.Lanes.{cut_into, joined}

-- each part is a number of n bits
abbrev pub Below : ℕ → List ℕ → Type 0
Below n [] = Unit
Below n (i ∷ more) = (i < 2 ^ n) × Below n more

pub length_cut : (n k v : ℕ) → length (cut_into n k v) ≡ k
length_cut n zero v = refl
length_cut n (suc k) v = ap suc (length_cut n k (v / 2 ^ n))

pub length_map : (f : ℕ → ℕ) (ls : List ℕ) → length (map f ls) ≡ length ls
length_map f [] = refl
length_map f (i ∷ more) = ap suc (length_map f more)

pub below_cut : (n k v : ℕ) → Below n (cut_into n k v)
below_cut n zero v = tt
below_cut n (suc k) v = (mod-lt v (pow_pos n), below_cut n k (v / 2 ^ n))

pub below_map : (m n : ℕ) (f : ℕ → ℕ) → ((i : ℕ) → i < 2 ^ m → f i < 2 ^ n) → (ls : List ℕ) → Below m ls → Below n (map f ls)
below_map m n f within [] b = tt
below_map m n f within (i ∷ more) b = (within i b.0, below_map m n f within more b.1)

pub joined_below : (n : ℕ) (ls : List ℕ) → Below n ls → joined n ls < 2 ^ (length ls * n)
joined_below n [] b = let none : 0 * n ≡ 0 = omega arith in rw none (pow_pos 0)
joined_below n (i ∷ more) b =
    let rest : joined n more < 2 ^ (length more * n) = joined_below n more b.1 in
    let least : joined n more + 1 ≤ 2 ^ (length more * n) = omega arith in
    let all : 2 ^ n * (joined n more + 1) ≤ 2 ^ n * 2 ^ (length more * n) = mul-le-mul_left (2 ^ n) least in
    let power : 2 ^ (n + length more * n) ≡ 2 ^ n * 2 ^ (length more * n) = pow-add 2 n (length more * n) in
    let low : i < 2 ^ n = b.0 in
    let order : suc (length more) * n ≡ n + length more * n = omega arith in
    let sum : i + 2 ^ n * joined n more < 2 ^ (n + length more * n) = omega (arith, all, power) in
    subst (λ k. i + 2 ^ n * joined n more < 2 ^ k) (sym order) sum

-- a number is what its parts make, and parts are those of the number that they make
pub joined_cut : (n k v : ℕ) → v < 2 ^ (k * n) → joined n (cut_into n k v) ≡ v
joined_cut n zero v lt =
    let none : 0 * n ≡ 0 = omega arith in
    let less : v < 1 = subst (λ b. v < 2 ^ b) none lt in
    omega arith
joined_cut n (suc k) v lt =
    let order : suc k * n ≡ k * n + n = omega arith in
    let less : v / 2 ^ n < 2 ^ (k * n) = shr_below v (k * n) n (subst (λ b. v < 2 ^ b) order lt) in
    ap (λ x. v % 2 ^ n + 2 ^ n * x) (joined_cut n k (v / 2 ^ n) less)
    ∙ (let turned : 2 ^ n * (v / 2 ^ n) ≡ v / 2 ^ n * 2 ^ n = mul_comm (2 ^ n) (v / 2 ^ n) in omega (arith, shr_split v n, turned))

pub cut_joined : (n : ℕ) (ls : List ℕ) → Below n ls → cut_into n (length ls) (joined n ls) ≡ ls
cut_joined n [] b = refl
cut_joined n (i ∷ more) b =
    let order : i + 2 ^ n * joined n more ≡ joined n more * 2 ^ n + i = (let turned : 2 ^ n * joined n more ≡ joined n more * 2 ^ n = mul_comm (2 ^ n) (joined n more) in omega arith) in
    ap (λ x. x % 2 ^ n ∷ cut_into n (length more) (x / 2 ^ n)) order
    ∙ ap (λ x. x ∷ cut_into n (length more) ((joined n more * 2 ^ n + i) / 2 ^ n)) (mod_low (joined n more) n i b.0)
    ∙ ap (λ x. i ∷ cut_into n (length more) x) (shr_high (joined n more) n i b.0)
    ∙ ap (λ x. i ∷ x) (cut_joined n more b.1)

-- one part
pub part_at : (n k v at : ℕ) → at < k → get_or (cut_into n k v) at 0 ≡ v / 2 ^ (n * at) % 2 ^ n
part_at n zero v at lt = omega arith
part_at n (suc k) v zero lt = let none : n * 0 ≡ 0 = omega arith in rw none (let whole : v / 1 ≡ v = omega arith in rw whole)
part_at n (suc k) v (suc at) lt =
    let within : at < k = omega arith in
    let place : n + n * at ≡ n * suc at = omega arith in
    part_at n k (v / 2 ^ n) at within ∙ ap (λ x. x % 2 ^ n) (shr-shr v n (n * at) ∙ ap (λ p. v / 2 ^ p) place)
