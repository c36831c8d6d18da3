-- A run is given a number of turns. Its outcome says how many it used, so turns stand in no state.
use Rattle.std.specs.Prelude.{ℕ, zero, suc, ◌+◌, ◌-◌}

-- what a run comes to: done, with the turns that it used and its result, or halted where no turn was left
pub data Out (H R : Type 0) : Type 0 where
  Done : ℕ → R → Out H R
  Halt : H → Out H R

-- the outcome of a run before which so many turns were used
abbrev pub after : {H R : Type 0} → ℕ → Out H R → Out H R
after used (Done more result) = Done (used + more) result
after used (Halt here) = Halt here

-- a run, and then another one on its result, with the turns that are left of n
abbrev pub bind : {H R S : Type 0} → ℕ → Out H R → (R → ℕ → Out H S) → Out H S
bind n (Done used result) next = after used (next result (n - used))
bind n (Halt here) next = Halt here

-- a run that takes one turn before it begins, and halts here where none is left
abbrev pub turn : {H R : Type 0} → ℕ → H → (ℕ → Out H R) → Out H R
turn zero here body = Halt here
turn (suc n) here body = after 1 (body n)

-- where an outcome leaves a run
abbrev pub place_of : {H R : Type 0} → (R → H) → Out H R → H
place_of at (Done used result) = at result
place_of at (Halt here) = here
