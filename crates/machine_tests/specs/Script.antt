-- What a host does with the small language.
use Rattle.std.specs.Prelude.{ℕ, [], ◌∷◌}
use Rattle.evaluation_kit.specs.declared.jump.Jump.TheVariants.{Trap}
use Rattle.outcome_kit.specs.Code.{Go, Leave}
use Rattle.evaluation_kit.specs.Configurations.{PlainRes}
use Rattle.evaluation_kit.specs.Tasks.{Status, Task, Change, Enter}
use Rattle.evaluation_kit.specs.Leaves as leaves
use Rattle.machine_tests.specs.declared.script.Item.{Item}
use Rattle.machine_tests.specs.declared.script.Item.TheVariants.{Put, Stop, Call}

-- the state takes the result of a call; a jump out of it ends the run
abbrev pub takes_result : PlainRes ℕ ℕ → Status ℕ
takes_result (Go p) = Go (leaves.top 0 p.operands)
takes_result (Leave j p) = Leave j p.state

abbrev pub task_of : Item → Task ℕ ℕ
task_of (Put value) = Change (λ s. Go value)
task_of Stop = Change (λ s. Leave Trap s)
task_of (Call x operand) = Enter x (operand ∷ []) takes_result
