-- What code runs on ("Runtime Structure" of chapter 4: stacks, frames, configurations), for any values V and any state S.
use Rattle.std.specs.Prelude.{ℕ, ◌+◌, max, List}
use Rattle.evaluation_kit.specs.declared.jump.Jump.{Jump}
use Rattle.outcome_kit.specs.Code as code
use Rattle.outcome_kit.specs.Code.{Go, Leave}

-- What stays from call to call: the state, and how many calls of functions of the module were open at once, at most.
pub record World (S : Type 0) : Type 0 where
  pub state : S
  pub deepest : ℕ

-- A configuration: the operands of the innermost block with the top first, the locals of the function, and the world.
pub record Conf (V S : Type 0) : Type 0 where
  pub operands : List V
  pub locals : List V
  pub world : World S

-- What a plain instruction sees and makes of it: no instruction sees how many calls are open, or were.
pub record Plain (V S : Type 0) : Type 0 where
  pub operands : List V
  pub locals : List V
  pub state : S

-- how code ends: at its end, or by a jump
abbrev pub Res : Type 0 → Type 0 → Type 0
Res V S = code.Res Jump (Conf V S)

-- what a plain instruction gives
abbrev pub PlainRes : Type 0 → Type 0 → Type 0
PlainRes V S = code.Res Jump (Plain V S)

-- what code does, by the number of calls that are open, the turns that it is given, and what it runs on
abbrev pub Sem : Type 0 → Type 0 → Type 0
Sem V S = code.Sem (World S) Jump (Conf V S)

-- a world in which one more call is open beside these
abbrev pub deeper : {S : Type 0} → ℕ → World S → World S
deeper open_calls w = record w { deepest = max w.deepest (open_calls + 1) }

module _ {V S : Type 0} where
  -- the configuration in another world
  abbrev pub in_world : World S → Conf V S → Conf V S
  in_world w c = record c { world = w }

  -- what a plain instruction sees of a configuration, and the configuration that it leaves
  abbrev pub plain_of : Conf V S → Plain V S
  plain_of c = record { operands = c.operands; locals = c.locals; state = c.world.state }

  abbrev pub with_plain : World S → Plain V S → Conf V S
  with_plain w p = record { operands = p.operands; locals = p.locals; world = record w { state = p.state } }

  abbrev pub settled : World S → PlainRes V S → Res V S
  settled w (Go p) = Go (with_plain w p)
  settled w (Leave jump p) = Leave jump (with_plain w p)
