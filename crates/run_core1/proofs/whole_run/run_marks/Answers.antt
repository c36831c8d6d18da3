use Rattle.std.proofs.Common.{map}
use Rattle.run_core1.specs.Views.{mark_of}
use Rattle.run_core1.proofs.WholeRun.{is_trace}
use Rattle.run_core1.proofs.TypedConstants.{typed_constants}
use Rattle.run_core1.proofs.whole_run.run_marks.Goals as goal

pub new-requires : goal.new-requires
new-requires c = typed_constants c.args.source.now c.requires

pub returns : goal.returns
returns c =
    is_trace c.args.source.now c.in_ok-program.program c.args.script.now c.in_ok-state.state c.run_tasks.new.state c.in_ok-tasks.tasks.items c.as_slice.result.now c.args.turns (map mark_of c.into_trace.result.items)
    c.in_ok-program.ensures c.in_ok-state.ensures c.in_ok-tasks.ensures c.as_slice.ensures.value c.in_ok-run_tasks.ensures.leaves c.into_trace.ensures
