-- What comes next in a script, as a call answers it.
use Rattle.std.specs.Prelude.{◌≡◌, ℕ, map, reverse}
use Rattle.core1_ast.specs.declared.module.parts.Module1.{Module1}
use Rattle.outcome_kit.specs.Code.{Go}
use Rattle.evaluation_kit.specs.Tasks.{Task, Change, Enter}
use Rattle.meaning_core1.specs.declared.val1.Val1.{Val1}
use Rattle.meaning_core1.specs.Store.{State1, value_from}
use Rattle.meaning_core1.specs.Hosting.{act1}
use Rattle.meaning_core1.specs.Runs.{show_trap, call_status}
use Rattle.run_core1.specs.declared.items.Next1.{Next1}
use Rattle.run_core1.specs.declared.items.Next1.TheVariants.{Call, Host, Missing}

-- the task of an item at a place: a call of this function on these arguments, an act, or a call of no function
abbrev pub NextIs : Module1 → ℕ → Task Val1 State1 → Next1 → Type 0
NextIs m i task (Call x arguments) = task ≡ Enter x (reverse (map value_from arguments.now)) (call_status m i)
NextIs m i task (Host act) = task ≡ Change (λ s. Go (act1 m act.now s))
NextIs m i task Missing = task ≡ Change (λ s. Go (show_trap m i s))
