-- A stretch of plain instructions.
use Rattle.std.specs.Prelude.{◌≡◌, ℕ, ◌≤◌, Bool, true, false, List, [], ◌∷◌, Option, Some, None}
use Rattle.evaluation_kit.specs.declared.jump.Jump.{Jump}
use Rattle.machine_kit.specs.declared.frame.Flow.TheVariants as flows
use Rattle.machine_kit.specs.Acts.{Acts}
use Rattle.machine_kit.specs.Heads.{IsForm}
use Rattle.machine_kit.specs.Machines.{Place, Moves, means, size_of}

module _ {I V S : Type 0} where
  -- code at whose front no plain instruction lies
  abbrev pub Stops : Acts I V S → List I → Type 0
  Stops acts [] = Unit {0}
  Stops acts (i ∷ code) = IsForm (acts.form i)

  -- instructions were run: the same is left of the run, and no more of it before a turn is wanted
  pub record Slides (acts : Acts I V S) (a : Place I V) (s : S) (b : Place I V) (s' : S) : Type 0 where
    pub same : (top n : ℕ) → means acts flows.Run a s top n ≡ means acts flows.Run b s' top n
    pub less : size_of acts flows.Run b ≤ size_of acts flows.Run a

  -- plain instructions were run, up to what is not plain or to one that ended by a jump
  abbrev pub Stretch : Acts I V S → Place I V → S → Option Jump → Place I V → S → Type 0
  Stretch acts a s None b s' = Slides acts a s b s' × Stops acts b.code
  Stretch acts a s (Some jump) b s' = Moves acts flows.Run a s (flows.Close (Some jump)) b s'
