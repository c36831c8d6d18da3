-- When a run of the output meets a run of the input: a forward relation whose cost does not depend on the turns that are
-- left.
use Rattle.std.specs.Prelude.{◌≡◌, ℕ, ◌+◌, ◌≤◌, ◌⊎◌, Bool, true, false}
use Rattle.outcome_kit.specs.Outcome.{Out, Done, Halt}

-- Which results of the output match a result of the input, and after which results of the input the output is free.
pub record Post (R R' : Type 0) : Type 1 where
  pub Matches : R → R' → Type 0
  pub Free : R → Type 0

-- the turns that the output takes for those of the input: the same, or no fewer
abbrev pub Spends : Bool → ℕ → ℕ → Type 0
Spends true used cost = cost ≡ used
Spends false used cost = used ≤ cost

-- The input was done after some of n turns, and the output comes to a result that matches, however many turns are left.
pub record Comes {H R R' : Type 0} (exact : Bool) (Q : Post R R') (n used : ℕ) (r : R) (t : ℕ → Out H R') : Type 0 where
  pub cost : ℕ
  pub spends : Spends exact used cost
  pub within : used ≤ n
  pub result : R'
  pub matches : Q.Matches r result
  pub does : (k : ℕ) → t (cost + k) ≡ Done cost result

-- The input is halted after n turns, and the output is, where it has so many, at a place that matches.
pub record Stops {H H' R' : Type 0} (exact : Bool) (Ends : H → H' → Type 0) (n : ℕ) (here : H) (t : ℕ → Out H' R') : Type 0 where
  pub turns : ℕ
  pub spends : Spends exact n turns
  pub place : H'
  pub matches : Ends here place
  pub does : t turns ≡ Halt place

module _ {H H' R R' : Type 0} (exact : Bool) (Ends : H → H' → Type 0) (Q : Post R R') where
  -- by what the outcome of the input is
  abbrev pub Meets : ℕ → Out H R → (ℕ → Out H' R') → Type 0
  Meets n (Done used r) t = Q.Free r ⊎ Comes exact Q n used r t
  Meets n (Halt here) t = Stops exact Ends n here t

  -- the outcome of the input within n turns is met by the output, by the turns that it is given
  pub record Runs (n : ℕ) (o : Out H R) (t : ℕ → Out H' R') : Type 0 where
    pub by : Meets n o t

  -- an outcome after which the output is free
  abbrev pub IsFree : Out H R → Type 0
  IsFree (Done used r) = Q.Free r
  IsFree (Halt here) = ⊥
