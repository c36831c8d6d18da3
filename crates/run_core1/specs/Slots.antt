-- A value as its bits, and whether they are those of an i64.
use Rattle.std.specs.Prelude.{◌≡◌, ℕ, Bool, true, false, refl}
use Rattle.meaning_core1.specs.declared.val1.Val1.{Val1}
use Rattle.meaning_core1.specs.declared.val1.Val1.TheVariants.{I32, I64}

abbrev pub value_in : Bool → ℕ → Val1
value_in true n = I64 n
value_in false n = I32 n

abbrev pub wide_of : Val1 → Bool
wide_of (I32 i) = false
wide_of (I64 i) = true

abbrev pub number_in : Val1 → ℕ
number_in (I32 i) = i
number_in (I64 i) = i

-- both are got back from the value
pub wide_again : (w : Bool) (n : ℕ) → wide_of (value_in w n) ≡ w
wide_again true n = refl
wide_again false n = refl

pub number_again : (w : Bool) (n : ℕ) → number_in (value_in w n) ≡ n
number_again true n = refl
number_again false n = refl
