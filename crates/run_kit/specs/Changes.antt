-- A plain instruction as a call: it is given the topmost operands and the state, and answers what becomes of the operands.
use Rattle.std.specs.Prelude.{◌≡◌, List, [], ◌∷◌, drop, Option, Some, None}
use Rattle.evaluation_kit.specs.declared.jump.Jump.{Jump}
use Rattle.evaluation_kit.specs.Configurations.{Plain, PlainRes}
use Rattle.evaluation_kit.specs.Leaves.{top, below, with_operands}
use Rattle.machine_kit.specs.Acts.{ended_by}
use Rattle.machine_kit.specs.Stacks.{Stack}
use Rattle.run_kit.specs.declared.change.Change.{Change}
use Rattle.run_kit.specs.declared.change.Change.TheVariants.{Take, Put, Exit}

module _ {V : Type 0} where
  -- these values lie on the top, the first of them topmost; where an operand is missing, the absent value is given
  abbrev pub Lie : V → List V → List V → Type 0
  Lie absent [] operands = Unit {0}
  Lie absent (v ∷ given) operands = (top absent operands ≡ v) × Lie absent given (below operands)

  -- what a change makes of the operands, and the jump by which the instruction ends, if it does not end at its end
  abbrev pub after : Change V → List V → List V
  after (Take n) operands = drop n operands
  after (Put n v) operands = v ∷ drop n operands
  after (Exit n jump) operands = drop n operands

  abbrev pub jump_of : Change V → Option Jump
  jump_of (Exit n jump) = Some jump
  jump_of _ = None

  abbrev pub changed : {S : Type 0} → Change V → Plain V S → PlainRes V S
  changed change p = ended_by (jump_of change) (with_operands (after change p.operands) p)

  -- an instruction that is given these operands does this change, and makes the second state of the first
  abbrev pub Does : {S : Type 0} → V → (Plain V S → PlainRes V S) → List V → S → Change V → S → Type 0
  Does absent act given old change new =
      (operands locals : List V) → Lie absent given operands
      → act (record { operands = operands; locals = locals; state = old }) ≡ changed change (record { operands = operands; locals = locals; state = new })

  -- an instruction does this change to these operands, and makes the second locals and state of the first
  abbrev pub Changes : {S : Type 0} → (Plain V S → PlainRes V S) → Stack V → List V → S → Change V → List V → S → Type 0
  Changes act o l s change l' s' =
      act (record { operands = o.used; locals = l; state = s }) ≡ changed change (record { operands = o.used; locals = l'; state = s' })
