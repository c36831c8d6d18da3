use Rattle.std.proofs.Common.{◌≡◌, ℕ, drop, nat_lt}
use Rattle.std.specs.List.{list_all}
use Rattle.valid_core1.proofs.parts.segments.all_below.Given as goal

abbrev pub invariant-loop-index : goal.invariant-loop-index
invariant-loop-index l = list_all (λ (x : ℕ). nat_lt x l.bound) (drop l.index-index l.indices) ≡ list_all (λ (x : ℕ). nat_lt x l.bound) l.indices
