use Rattle.std.proofs.Common.{◌≡◌, ◌++◌, map, drop}
use Rattle.core1_ast.specs.declared.module.parts.Module1.{Module1}
use Rattle.meaning_core1.specs.Runs.{items1}
use Rattle.run_core1.specs.Tasks.{task_of}
use Rattle.run_core1.proofs.tasks.push_items.Given as goal

abbrev pub invariant-loop-place : goal.invariant-loop-place
invariant-loop-place l =
    (m : Module1) → map (task_of m) l.tasks.items ++ items1 m l.place (drop l.place l.items) ≡ map (task_of m) l.fn.tasks.items ++ items1 m 0 l.items
