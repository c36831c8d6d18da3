-- What is still to be done behind a place in code: the forms and the calls around it, the innermost first.
use Rattle.std.specs.Prelude.{ℕ, ◌+◌, List, [], ◌∷◌}
use Rattle.outcome_kit.specs.Outcome.{Out, Done, bind, turn}
use Rattle.outcome_kit.specs.Code.{Go, go_on}
use Rattle.evaluation_kit.specs.Configurations.{World, Conf, Res}
use Rattle.evaluation_kit.specs.Control.{Handler, leave_block, leave_pass, cycle, handled, returned, leave_body}
use Rattle.machine_kit.specs.Acts.{Acts, total, code_in}

-- Each has the operands that are set aside for it and the code behind it. A call has the locals of the caller too; inside
-- it lies the body of the function that was called.
pub data Pending (I V S : Type 0) : Type 0 where
  InBlock : ℕ → List V → List I → Pending I V S
  InLoop : ℕ → ℕ → List V → List I → List I → Pending I V S
  InGuard : ℕ → Handler V S → List V → List I → Pending I V S
  InBody : ℕ → Pending I V S
  InCall : List V → List V → List I → Pending I V S

module _ {I V S : Type 0} where
  -- how many calls are open
  abbrev pub open_calls : List (Pending I V S) → ℕ
  open_calls [] = 0
  open_calls (InBlock r below rest ∷ more) = open_calls more
  open_calls (InLoop p r below body rest ∷ more) = open_calls more
  open_calls (InGuard r h below rest ∷ more) = open_calls more
  open_calls (InBody r ∷ more) = open_calls more + 1
  open_calls (InCall locals below rest ∷ more) = open_calls more

  -- how much of it there is
  abbrev pub pending_size : (I → ℕ) → List (Pending I V S) → ℕ
  pending_size size [] = 0
  pending_size size (InBlock r below rest ∷ more) = total size rest + 2 + pending_size size more
  pending_size size (InLoop p r below body rest ∷ more) = total size rest + 2 + pending_size size more
  pending_size size (InGuard r h below rest ∷ more) = total size rest + 2 + pending_size size more
  pending_size size (InBody r ∷ more) = 2 + pending_size size more
  pending_size size (InCall locals below rest ∷ more) = total size rest + 2 + pending_size size more

module _ {I V S : Type 0} (acts : Acts I V S) where
  -- the rest behind a form
  abbrev pub rest_in : List (Pending I V S) → List I → Res V S → ℕ → Out (World S) (Res V S)
  rest_in more rest = go_on (code_in acts rest (open_calls more))

  -- what comes of the result of the code inside
  abbrev pub resume : List (Pending I V S) → Res V S → ℕ → Out (World S) (Res V S)
  resume [] x n = Done 0 x
  resume (InBlock r below rest ∷ more) x n = bind n (rest_in more rest (leave_block r below x) n) (resume more)
  resume (InLoop p r below body rest ∷ more) x n =
      bind n (leave_pass (cycle p r below (code_in acts body) (open_calls more)) p r below x n) (λ y m. bind m (rest_in more rest y m) (resume more))
  resume (InGuard r h below rest ∷ more) x n = bind n (rest_in more rest (handled h (leave_block r below x)) n) (resume more)
  resume (InBody r ∷ more) x n = bind n (leave_body (λ g. acts.func g (open_calls more)) r x n) (resume more)
  resume (InCall locals below rest ∷ more) x n = bind n (rest_in more rest (returned locals below x) n) (resume more)

  -- the next pass through the loop that is innermost
  abbrev pub again : List (Pending I V S) → Conf V S → ℕ → Out (World S) (Res V S)
  again (InLoop p r below body rest ∷ more) c n =
      bind n (cycle p r below (code_in acts body) (open_calls more) n c) (λ y m. bind m (rest_in more rest y m) (resume more))
  again more c n = turn n c.world (λ m. resume more (Go c) m)
