-- What a host does with a module: tasks in order. A task changes the state, or calls a function and makes a state of what
-- comes of it; and it may end the run.
use Rattle.std.specs.Prelude.{ℕ, List, [], ◌∷◌}
use Rattle.evaluation_kit.specs.declared.jump.Jump.{Jump}
use Rattle.outcome_kit.specs.Outcome.{Out, Done, bind, place_of}
use Rattle.outcome_kit.specs.Code as code
use Rattle.outcome_kit.specs.Code.{Go, Leave, go_on, stands}
use Rattle.evaluation_kit.specs.Configurations.{World, PlainRes, Res, Sem, plain_of}

-- the state after a task: the run goes on there, or it is over for the reason that the jump tells
abbrev pub Status : Type 0 → Type 0
Status S = code.Res Jump S

pub data Task (V S : Type 0) : Type 0 where
  -- a change of the state
  Change : (S → Status S) → Task V S
  -- a call of the function with this index on these operands, the top first, and what becomes of its result
  Enter : ℕ → List V → (PlainRes V S → Status S) → Task V S

-- a status in a world
abbrev pub placed : {S : Type 0} → World S → Status S → Status (World S)
placed w (Go s) = Go (record w { state = s })
placed w (Leave jump s) = Leave jump (record w { state = s })

module _ {V S : Type 0} where
  -- what the host sees of the result of a call
  abbrev pub plain_result : Res V S → PlainRes V S
  plain_result (Go c) = Go (plain_of c)
  plain_result (Leave jump c) = Leave jump (plain_of c)

  abbrev pub shown : (PlainRes V S → Status S) → Res V S → Status (World S)
  shown see r = placed (stands r).world (see (plain_result r))

  -- a task: a call from the host has no other call open beside it
  abbrev pub task : (ℕ → Sem V S) → Task V S → ℕ → World S → Out (World S) (Status (World S))
  task funcs (Change f) n w = Done 0 (placed w (f w.state))
  task funcs (Enter x operands see) n w =
      bind n (funcs x 0 n (record { operands = operands; locals = []; world = w })) (λ r m. Done 0 (shown see r))

  -- tasks in order
  abbrev pub tasks : (ℕ → Sem V S) → List (Task V S) → ℕ → World S → Out (World S) (Status (World S))
  tasks funcs [] n w = Done 0 (Go w)
  tasks funcs (t ∷ more) n w = bind n (task funcs t n w) (go_on (tasks funcs more))

  -- the world in which tasks leave a state, within so many turns
  abbrev pub world_after : (ℕ → Sem V S) → List (Task V S) → S → ℕ → World S
  world_after funcs ts s n = place_of stands (tasks funcs ts n (record { state = s; deepest = 0 }))
