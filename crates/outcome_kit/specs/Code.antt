-- Code is a list of parts that run in order, each from where the one before it ended.
use Rattle.std.specs.Prelude.{ℕ, List, [], ◌∷◌}
use Rattle.outcome_kit.specs.Outcome.{Out, Done, bind}

-- how code ends: at its end, or by a jump out of it
pub data Res (J C : Type 0) : Type 0 where
  Go : C → Res J C
  Leave : J → C → Res J C

-- what a part does, by the number of calls that are open, the turns that it is given, and where it begins
abbrev pub Sem : Type 0 → Type 0 → Type 0 → Type 0
Sem H J C = ℕ → ℕ → C → Out H (Res J C)

-- goes on at the end of what ran before; a jump passes
abbrev pub go_on : {H J C : Type 0} → (ℕ → C → Out H (Res J C)) → Res J C → ℕ → Out H (Res J C)
go_on next (Go c) n = next n c
go_on next (Leave jump c) n = Done 0 (Leave jump c)

-- the parts in order
abbrev pub run : {H J C : Type 0} → List (Sem H J C) → Sem H J C
run [] open_calls n c = Done 0 (Go c)
run (part ∷ parts) open_calls n c = bind n (part open_calls n c) (go_on (run parts open_calls))

-- where code stands at its end or at its jump
abbrev pub stands : {J C : Type 0} → Res J C → C
stands (Go c) = c
stands (Leave jump c) = c
