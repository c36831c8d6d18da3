-- A plain instruction of 1.0 as a call: it is given the topmost operands and the state, and answers what becomes of the
-- operands.
use Rattle.std.specs.Prelude.{◌≡◌, List, [], ◌∷◌, drop}
use Rattle.outcome_kit.specs.Code.{Go, Leave}
use Rattle.evaluation_kit.specs.Configurations.{Plain, PlainRes}
use Rattle.evaluation_kit.specs.Leaves.{top, below, with_operands}
use Rattle.meaning_core1.specs.declared.val1.Val1.{Val1}
use Rattle.meaning_core1.specs.Store.{absent}
use Rattle.run_core1.specs.declared.change.Change.{Change}
use Rattle.run_core1.specs.declared.change.Change.TheVariants.{Take, Put, Exit}

-- these values lie on the top, the first of them topmost; where an operand is missing, the absent value is given
abbrev pub Lie : List Val1 → List Val1 → Type 0
Lie [] operands = Unit {0}
Lie (v ∷ given) operands = (top absent operands ≡ v) × Lie given (below operands)

-- what a change makes of the operands, and how the instruction ends
abbrev pub changed : {S : Type 0} → Change → Plain Val1 S → PlainRes Val1 S
changed (Take n) p = Go (with_operands (drop n p.operands) p)
changed (Put n v) p = Go (with_operands (v ∷ drop n p.operands) p)
changed (Exit n jump) p = Leave jump (with_operands (drop n p.operands) p)

-- an instruction that is given these operands does this change, and makes the second state of the first
abbrev pub Does : {S : Type 0} → (Plain Val1 S → PlainRes Val1 S) → List Val1 → S → Change → S → Type 0
Does act given old change new =
    (operands locals : List Val1) → Lie given operands
    → act (record { operands = operands; locals = locals; state = old }) ≡ changed change (record { operands = operands; locals = locals; state = new })
