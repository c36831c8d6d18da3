-- What comes next in a script, as a call answers it.
use Rattle.std.specs.Prelude.{◌≡◌, ℕ, map, reverse}
use Rattle.wasm_ast.specs.declared.module.parts.Module.{Module}
use Rattle.outcome_kit.specs.Code.{Go}
use Rattle.evaluation_kit.specs.Tasks.{Task, Change, Enter}
use Rattle.meaning_new.specs.declared.val.Val.{Val}
use Rattle.meaning_new.specs.Store.{State, from_host}
use Rattle.meaning_new.specs.Host.{act}
use Rattle.meaning_new.specs.Runs.{trapped, answered}
use Rattle.run_new.specs.declared.items.Next.TheVariants.{Call, Host, Missing}
use Rattle.run_new.specs.declared.items.Next as next

-- the task of an item at a place: a call of this function on these arguments, an act, or a call of no function
abbrev pub NextIs : Module → ℕ → Task Val State → next.Next → Type 0
NextIs m i task (Call x arguments) = task ≡ Enter x (reverse (map from_host arguments.now)) (answered m i)
NextIs m i task (Host a) = task ≡ Change (λ s. Go (act m a.now s))
NextIs m i task Missing = task ≡ Change (λ s. Go (trapped m i s))
