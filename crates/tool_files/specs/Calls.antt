-- Calls that are counted, some of which are to fail.
use Rattle.std.specs.Prelude.{ℕ, ◌+◌, ◌-◌, ◌^◌, min, List, Bool, ◌==◌}
use Rattle.std.specs.List.{list_any}

-- how many calls of one kind were made, and the numbers of those that are to fail
pub record CallPlan : Type 0 where
  pub made : ℕ
  pub fails : List ℕ

-- one more, up to the end of the count
abbrev pub one_more : ℕ → ℕ
one_more count = min (count + 1) (2 ^ 64 - 1)

-- whether the next call is to fail
abbrev pub is_due : CallPlan → Bool
is_due plan = list_any (λ number. number == one_more plan.made) plan.fails

-- after one more call
abbrev pub counted : CallPlan → CallPlan
counted plan = record { made = one_more plan.made; fails = plan.fails }
