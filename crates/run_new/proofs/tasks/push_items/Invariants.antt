use Rattle.std.proofs.Common.{◌≡◌, ◌++◌, map, drop}
use Rattle.wasm_ast.specs.declared.module.parts.Module.{Module}
use Rattle.meaning_new.specs.Runs.{item_tasks}
use Rattle.run_new.specs.Tasks.{state_task}
use Rattle.run_new.proofs.tasks.push_items.Given as goal

abbrev pub invariant-loop-place : goal.invariant-loop-place
invariant-loop-place l =
    (m : Module) → map (state_task m) l.tasks.items ++ item_tasks m l.place (drop l.place l.items) ≡ map (state_task m) l.fn.tasks.items ++ item_tasks m 0 l.items
