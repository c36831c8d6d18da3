-- What a stage leaves alone of what the host of a module sees, and what the tasks of a script keep by themselves.
use Rattle.std.specs.Prelude.{◌≡◌, ℕ, Bool, true, List, option_map}
use Rattle.std.specs.List.{AllByRecursion}
use Rattle.wasm_ast.specs.declared.module.parts.ExportDesc.{ExportDesc}
use Rattle.wasm_ast.specs.declared.module.parts.ExportDesc.TheVariants as exports
use Rattle.wasm_ast.specs.declared.module.parts.Module.{Module}
use Rattle.outcome_kit.specs.Code.{Go, Leave}
use Rattle.evaluation_kit.specs.Tasks.{Status, Task, Change, Enter}
use Rattle.simulation_kit.specs.Keeping.{Keeping, ActKeeps, ChangeKeeps, SeeKeeps}
use Rattle.meaning_new.specs.declared.val.Val.{Val}
use Rattle.meaning_new.specs.Store.{State}
use Rattle.meaning_new.specs.Host.{host_call}
use Rattle.meaning_new.specs.Instances.{place_segments}
use Rattle.stage_kit.specs.Adding.{Names, Adding, more_store, more}

-- an export of a global that is named
abbrev pub export_named : Names → ExportDesc → Bool
export_named names (exports.Global x) = names.global x
export_named names _ = true

-- the state of the output after a task
abbrev pub moved_status : List Val → Status State → Status State
moved_status extra (Go s) = Go (more extra s)
moved_status extra (Leave jump s) = Leave jump (more extra s)

-- what the tasks of a host keep
abbrev pub TaskKeeps : Keeping Val State → Task Val State → Type 0
TaskKeeps K (Change f) = ChangeKeeps K f
TaskKeeps K (Enter x operands see) = K.Named x × K.Sound operands × SeeKeeps K see

abbrev pub TasksKeep : Keeping Val State → List (Task Val State) → Type 0
TasksKeep K ts = AllByRecursion (TaskKeeps K) ts

-- Exports and the start function stay, and segments are placed as before.
pub record Offers {m o : Module} (A : Adding m o) : Type 0 where
  pub exports : o.exports ≡ m.exports
  pub named : AllByRecursion (λ e. export_named A.names e.desc ≡ true) m.exports
  pub start : o.start ≡ m.start
  pub segments : (extra : List Val) (s : State) → A.keeps.Safe s → A.Extra extra → place_segments o (more_store extra s.store) ≡ option_map (more_store extra) (place_segments m s.store)
  pub keeps_host : (x : ℕ) → ActKeeps A.keeps (host_call m x)
