-- A step of the loops over lanes: the next lower lane goes below those that are made.
use Rattle.std.proofs.Common.{◌≡◌, ℕ, zero, suc, ◌+◌, ◌-◌, ◌*◌, ◌/◌, ◌%◌, ◌^◌, ◌<◌, ◌≤◌, List, length, map, refl, sym, ap, ◌∙◌, subst, arith, mod-lt, pow_pos, Bool, false, nat_eq}
use Rattle.std.specs.Prelude.{bit_or, not, ◌&&◌}
use Rattle.std.specs.List.{list_all}
use Rattle.std.proofs.Math.Dec.{eqb-suc-zero}
use Rattle.std.proofs.Math.Nat.{mul_comm, mul-le-mul_left}
use Rattle.std.proofs.lemmas.Nat.{shr-shr, shl_whole, or_shifted}
use Rattle.lane_core.specs.Lanes.{cut_into, joined, lane_by_lane}
use Rattle.lane_core.proofs.Cuts.{Below, length_cut, length_map, below_cut, below_map, joined_below}

-- a part put below what is made
put_below : (made k part n : ℕ) → made < 2 ^ (k * n) → k * n + n ≤ 128 → part < 2 ^ n → bit_or ((made * 2 ^ n) % 2 ^ 128) part ≡ part + 2 ^ n * made
put_below made k part n less room lt =
    let whole : (made * 2 ^ n) % 2 ^ 128 ≡ made * 2 ^ n = shl_whole made (k * n) n 128 less room in
    ap (λ x. bit_or x part) whole ∙ or_shifted made n part lt
    ∙ (let turned : made * 2 ^ n ≡ 2 ^ n * made = mul_comm made (2 ^ n) in omega arith)

-- the parts above one are the parts of what lies above it
above : (n left v : ℕ) → v / 2 ^ (n * left) / 2 ^ n ≡ v / 2 ^ (n * suc left)
above n left v = shr-shr v (n * left) n ∙ (let place : n * left + n ≡ n * suc left = omega arith in ap (λ p. v / 2 ^ p) place)

all_of : (n count v : ℕ) → v / 2 ^ (n * (count - count)) ≡ v
all_of n count v =
    let none : n * (count - count) ≡ 0 = (let zero_left : count - count ≡ 0 = omega arith in rw zero_left (let e : n * 0 ≡ 0 = omega arith in e)) in
    ap (λ p. v / 2 ^ p) none ∙ (let whole : v / 1 ≡ v = omega arith in whole)

-- there is room for one lane more
room : (n lane count : ℕ) → lane < count → n * count ≤ 128 → lane * n + n ≤ 128
room n lane count lt all =
    let next : lane + 1 ≤ count = omega arith in
    let more : n * (lane + 1) ≤ n * count = mul-le-mul_left n next in
    let turned : n * (lane + 1) ≡ lane * n + n = omega arith in
    omega arith

-- what is made where so many lanes are done and so many are left
abbrev pub made_of : ℕ → ℕ → (ℕ → ℕ) → ℕ → ℕ → ℕ → ℕ
made_of read given f v done left = joined given (map f (cut_into read done (v / 2 ^ (read * left))))

abbrev pub both_made_of : ℕ → (ℕ → ℕ → ℕ) → ℕ → ℕ → ℕ → ℕ → ℕ
both_made_of n f v w done left = joined n (lane_by_lane f (cut_into n done (v / 2 ^ (n * left))) (cut_into n done (w / 2 ^ (n * left))))

-- at the end nothing is left below
pub each_end : (read given : ℕ) (f : ℕ → ℕ) (v done count : ℕ) → done ≡ count → made_of read given f v done (count - done) ≡ joined given (map f (cut_into read count v))
each_end read given f v done count e =
    subst (λ k. made_of read given f v k (count - k) ≡ joined given (map f (cut_into read count v))) (sym e)
    (ap (λ x. joined given (map f (cut_into read count x))) (all_of read count v))

module _ (read given : ℕ) (f : ℕ → ℕ) (within : (i : ℕ) → i < 2 ^ read → f i < 2 ^ given) (v : ℕ) where
  made_below : (done left : ℕ) → made_of read given f v done left < 2 ^ (done * given)
  made_below done left =
      let ls = cut_into read done (v / 2 ^ (read * left)) in
      let count : length (map f ls) ≡ done = length_map f ls ∙ length_cut read done (v / 2 ^ (read * left)) in
      subst (λ k. made_of read given f v done left < 2 ^ (k * given)) count
      (joined_below given (map f ls) (below_map read given f within ls (below_cut read done (v / 2 ^ (read * left)))))

  pub each_more : (done left made : ℕ) → done * given + given ≤ 128 → made ≡ made_of read given f v done (suc left) → bit_or ((made * 2 ^ given) % 2 ^ 128) (f (v / 2 ^ (read * left) % 2 ^ read)) ≡ made_of read given f v (suc done) left
  each_more done left made room is =
      let part = v / 2 ^ (read * left) % 2 ^ read in
      let less : made < 2 ^ (done * given) = subst (λ x. x < 2 ^ (done * given)) (sym is) (made_below done (suc left)) in
      put_below made done (f part) given less room (within part (mod-lt (v / 2 ^ (read * left)) (pow_pos read)))
      ∙ ap (λ x. f part + 2 ^ given * x) (is ∙ ap (λ x. joined given (map f (cut_into read done x))) (sym (above read left v)))

  pub each_step : (count lane made value : ℕ) → lane < count → given * count ≤ 128 → made ≡ made_of read given f v lane (count - lane) → value ≡ f (v / 2 ^ (read * (count - 1 - lane)) % 2 ^ read) → bit_or ((made * 2 ^ given) % 2 ^ 128) value ≡ made_of read given f v (lane + 1) (count - (lane + 1))
  each_step count lane made value lt all is value_is =
      let left = count - 1 - lane in
      let so_far : count - lane ≡ suc left = omega arith in
      let rest : left ≡ count - (lane + 1) = omega arith in
      let next : suc lane ≡ lane + 1 = omega arith in
      ap (λ x. bit_or ((made * 2 ^ given) % 2 ^ 128) x) value_is
      ∙ each_more lane left made (room given lane count lt all) (subst (λ k. made ≡ made_of read given f v lane k) so_far is)
      ∙ ap (λ k. made_of read given f v k left) next
      ∙ ap (λ k. made_of read given f v (lane + 1) k) rest

module _ (n : ℕ) (f : ℕ → ℕ → ℕ) (within : (i j : ℕ) → i < 2 ^ n → j < 2 ^ n → f i j < 2 ^ n) (v w : ℕ) where
  below_both : (k i j : ℕ) → Below n (lane_by_lane f (cut_into n k i) (cut_into n k j))
  below_both zero i j = tt
  below_both (suc k) i j = (within (i % 2 ^ n) (j % 2 ^ n) (mod-lt i (pow_pos n)) (mod-lt j (pow_pos n)), below_both k (i / 2 ^ n) (j / 2 ^ n))

  length_both : (k i j : ℕ) → length (lane_by_lane f (cut_into n k i) (cut_into n k j)) ≡ k
  length_both zero i j = refl
  length_both (suc k) i j = ap suc (length_both k (i / 2 ^ n) (j / 2 ^ n))

  both_below : (done left : ℕ) → both_made_of n f v w done left < 2 ^ (done * n)
  both_below done left =
      let i = v / 2 ^ (n * left) in
      let j = w / 2 ^ (n * left) in
      subst (λ k. both_made_of n f v w done left < 2 ^ (k * n)) (length_both done i j)
      (joined_below n (lane_by_lane f (cut_into n done i) (cut_into n done j)) (below_both done i j))

  pub both_more : (done left made : ℕ) → done * n + n ≤ 128 → made ≡ both_made_of n f v w done (suc left) → bit_or ((made * 2 ^ n) % 2 ^ 128) (f (v / 2 ^ (n * left) % 2 ^ n) (w / 2 ^ (n * left) % 2 ^ n)) ≡ both_made_of n f v w (suc done) left
  both_more done left made room is =
      let i = v / 2 ^ (n * left) in
      let j = w / 2 ^ (n * left) in
      let part = f (i % 2 ^ n) (j % 2 ^ n) in
      let less : made < 2 ^ (done * n) = subst (λ x. x < 2 ^ (done * n)) (sym is) (both_below done (suc left)) in
      put_below made done part n less room (within (i % 2 ^ n) (j % 2 ^ n) (mod-lt i (pow_pos n)) (mod-lt j (pow_pos n)))
      ∙ ap (λ x. part + 2 ^ n * x)
      (is ∙ ap (λ x. joined n (lane_by_lane f (cut_into n done x) (cut_into n done (w / 2 ^ (n * suc left))))) (sym (above n left v))
      ∙ ap (λ x. joined n (lane_by_lane f (cut_into n done (i / 2 ^ n)) (cut_into n done x))) (sym (above n left w)))

  pub both_step : (count lane made value : ℕ) → lane < count → n * count ≤ 128 → made ≡ both_made_of n f v w lane (count - lane) → value ≡ f (v / 2 ^ (n * (count - 1 - lane)) % 2 ^ n) (w / 2 ^ (n * (count - 1 - lane)) % 2 ^ n) → bit_or ((made * 2 ^ n) % 2 ^ 128) value ≡ both_made_of n f v w (lane + 1) (count - (lane + 1))
  both_step count lane made value lt all is value_is =
      let left = count - 1 - lane in
      let so_far : count - lane ≡ suc left = omega arith in
      let rest : left ≡ count - (lane + 1) = omega arith in
      let next : suc lane ≡ lane + 1 = omega arith in
      ap (λ x. bit_or ((made * 2 ^ n) % 2 ^ 128) x) value_is
      ∙ both_more lane left made (room n lane count lt all) (subst (λ k. made ≡ both_made_of n f v w lane k) so_far is)
      ∙ ap (λ k. both_made_of n f v w k left) next
      ∙ ap (λ k. both_made_of n f v w (lane + 1) k) rest

-- how great the result is
pub each_below : (read given count : ℕ) (f : ℕ → ℕ) (v : ℕ) → ((i : ℕ) → i < 2 ^ read → f i < 2 ^ given) → joined given (map f (cut_into read count v)) < 2 ^ (count * given)
each_below read given count f v within =
    subst (λ k. joined given (map f (cut_into read count v)) < 2 ^ (k * given)) (length_map f (cut_into read count v) ∙ length_cut read count v)
    (joined_below given (map f (cut_into read count v)) (below_map read given f within (cut_into read count v) (below_cut read count v)))

-- a test of all lanes, from the lowest: it fails at a 0, and else goes on with the rest
abbrev pub all_set : List ℕ → Bool
all_set ls = list_all (λ i. not (nat_eq i 0)) ls

not_zero : (i : ℕ) → (i ≡ 0 → ⊥) → nat_eq i 0 ≡ false
not_zero zero h = elim (h refl) [ ]
not_zero (suc i) h = eqb-suc-zero i

pub all_more : (n left less rest : ℕ) → left ≡ suc less → (rest % 2 ^ n ≡ 0 → ⊥) → all_set (cut_into n left rest) ≡ all_set (cut_into n less (rest / 2 ^ n))
all_more n left less rest e h =
    subst (λ k. all_set (cut_into n k rest) ≡ all_set (cut_into n less (rest / 2 ^ n))) (sym e)
    (ap (λ b. not b && all_set (cut_into n less (rest / 2 ^ n))) (not_zero (rest % 2 ^ n) h))
