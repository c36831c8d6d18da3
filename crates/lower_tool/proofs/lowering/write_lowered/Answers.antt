use Rattle.typed_trees.specs.Typed.{module_of}
use Rattle.lower_tool.proofs.Written.{written_by}
use Rattle.lower_tool.proofs.lowering.write_lowered.Goals as goal

pub returns : goal.returns
returns c =
    written_by c.args.settings.captures (module_of c.args.typed) c.in_ok-lowered.lowered c.write1.result c.in_ok-lowered.ensures.typed c.in_ok-lowered.ensures.linked c.in_ok-lowered.ensures.same c.write1.ensures
