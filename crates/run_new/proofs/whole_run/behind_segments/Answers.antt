use Rattle.std.proofs.Common.{ap, ◌∙◌}
use Rattle.host_kit.specs.Trace.{events}
use Rattle.typed_trees.specs.Typed.{module_of}
use Rattle.run_new.specs.States.{Kept}
use Rattle.run_new.proofs.WholeRun.{leaves_end}
use Rattle.run_new.proofs.whole_run.behind_segments.Goals as goal

pub returns : goal.returns
returns c =
    c.in_ok-seen.ensures
    ∙ ap events (c.into_trace.ensures
    ∙ ap (λ (k : Kept). k.trace) (leaves_end c.args.program c.args.script.now c.args.turns c.args.state c.run_tasks.new.state c.in_ok-tasks.tasks.items c.as_slice-2.result.now
    (c.in_ok-tasks.ensures (module_of c.args.program) ∙ rw (c.part.ensures, c.as_slice.ensures)) c.as_slice-2.ensures.value c.in_ok-run_tasks.ensures.leaves))
