-- What a machine does at the end of the code inside a form, or at a jump out of it.
use Rattle.std.specs.Prelude.{ℕ, List, ◌∷◌, ◌++◌, take, drop, reverse, Option, Some, None}
use Rattle.std.specs.Borrow.{Bor}
use Rattle.evaluation_kit.specs.declared.jump.Jump.{Jump}
use Rattle.machine_kit.specs.declared.close.Leaving.{Leaving}
use Rattle.machine_kit.specs.declared.close.Leaving.TheVariants.{Ends, Calls, Passes}
use Rattle.machine_kit.specs.declared.frame.Frame.TheVariants as frames
use Rattle.machine_kit.specs.declared.frame.Flow.{Flow}
use Rattle.machine_kit.specs.declared.frame.Flow.TheVariants as flows
use Rattle.machine_kit.specs.Stacks.{Stack}
use Rattle.machine_kit.specs.Exits.{past_label, leaving}
use Rattle.machine_kit.specs.Machines.{Place}

module _ {V : Type 0} where
  -- the results of a form lie on what was set aside for it
  abbrev pub finished : ℕ → ℕ → Stack V → Stack V
  finished r n o = record { used = take r o.used ++ take n o.aside; aside = drop n o.aside }

  -- what was set aside for a form is gone
  abbrev pub forgotten : ℕ → Stack V → Stack V
  forgotten n o = record o { aside = drop n o.aside }

  -- the operands in use without those below so many
  abbrev pub shortened : ℕ → Stack V → Stack V
  shortened p o = record o { used = take p o.used }

  -- the locals of the caller are in use again
  abbrev pub recovered : ℕ → Stack V → Stack V
  recovered n l = record { used = reverse (take n l.aside); aside = drop n l.aside }

module _ {I V : Type 0} where
  abbrev pub finished_at : ℕ → ℕ → List I → Place I V → Place I V
  finished_at r n rest a = record a { code = rest; operands = finished r n a.operands }

  abbrev pub forgotten_at : ℕ → Place I V → Place I V
  forgotten_at n a = record a { operands = forgotten n a.operands }

  -- a block, and the code with a handler where no exception is thrown
  abbrev pub past_block : ℕ → ℕ → List I → Option Jump → Place I V → Place I V
  past_block r n rest None a = finished_at r n rest a
  past_block r n rest (Some j) a = forgotten_at n a

  abbrev pub block_place : ℕ → ℕ → List I → Option Jump → Place I V → Place I V
  block_place r n rest None a = finished_at r n rest a
  block_place r n rest (Some j) a = past_block r n rest (past_label j) a

  -- a loop
  abbrev pub past_loop : ℕ → ℕ → ℕ → Bor (List I) → Bor (List I) → Option Jump → Place I V → Place I V
  past_loop p r n body rest None a = record a { operands = shortened p a.operands; frames = frames.Loop p r n body rest ∷ a.frames }
  past_loop p r n body rest (Some j) a = forgotten_at n a

  abbrev pub loop_place : ℕ → ℕ → ℕ → Bor (List I) → Bor (List I) → Option Jump → Place I V → Place I V
  loop_place p r n body rest None a = finished_at r n rest.now a
  loop_place p r n body rest (Some j) a = past_loop p r n body rest (past_label j) a

  -- a body
  abbrev pub past_body : ℕ → Leaving → Place I V → Place I V
  past_body r Ends a = record a { operands = shortened r a.operands }
  past_body r _ a = a

  abbrev pub body_place : ℕ → Option Jump → Place I V → Place I V
  body_place r None a = record a { operands = shortened r a.operands }
  body_place r (Some j) a = past_body r (leaving j) a

  -- a call
  abbrev pub call_place : ℕ → ℕ → List I → Option Jump → Place I V → Place I V
  call_place own n rest None a = record a { code = rest; operands = record { used = a.operands.used ++ take n a.operands.aside; aside = drop n a.operands.aside }; locals = recovered own a.locals }
  call_place own n rest (Some j) a = record a { operands = forgotten n a.operands; locals = recovered own a.locals }

module _ {I : Type 0} where
  abbrev pub past_block_flow : Option Jump → Flow I
  past_block_flow None = flows.Run
  past_block_flow (Some j) = flows.Close (Some j)

  abbrev pub block_flow : Option Jump → Flow I
  block_flow None = flows.Run
  block_flow (Some j) = past_block_flow (past_label j)

  abbrev pub past_loop_flow : Option Jump → Flow I
  past_loop_flow None = flows.Again
  past_loop_flow (Some j) = flows.Close (Some j)

  abbrev pub loop_flow : Option Jump → Flow I
  loop_flow None = flows.Run
  loop_flow (Some j) = past_loop_flow (past_label j)

  abbrev pub past_body_flow : Jump → Leaving → Flow I
  past_body_flow j Ends = flows.Close None
  past_body_flow j (Calls x) = flows.Enter x
  past_body_flow j Passes = flows.Close (Some j)

  abbrev pub body_flow : Option Jump → Flow I
  body_flow None = flows.Close None
  body_flow (Some j) = past_body_flow j (leaving j)

  abbrev pub call_flow : Option Jump → Flow I
  call_flow None = flows.Run
  call_flow (Some j) = flows.Close (Some j)

  -- an exception, by what its handler makes of it
  abbrev pub caught_flow : Option Jump → Jump → Flow I
  caught_flow (Some j) e = flows.Close (Some j)
  caught_flow None e = flows.Close (Some e)
