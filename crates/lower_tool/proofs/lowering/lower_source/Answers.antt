use Rattle.std.proofs.Common.{◌≡◌}
use Rattle.typed_trees.specs.Typed.{module_of}
use Rattle.pass_stack.proofs.Cut.{is_cut, taken_too}
use Rattle.lower_tool.proofs.Written.{written_whole}
use Rattle.lower_tool.proofs.lowering.lower_source.Goals as goal

pub write_lowered-requires-clause-profile : goal.write_lowered-requires-clause-profile
write_lowered-requires-clause-profile c =
    taken_too c.args.source c.in_ok-typed.typed c.in_ok-typed.ensures.stands c.in_ok-typed.ensures.fine.0

pub returns-clause-lowered : goal.returns-clause-lowered
returns-clause-lowered c =
    written_whole c.args.settings.captures c.args.source (module_of c.in_ok-typed.typed) _
    (is_cut c.args.source c.in_ok-typed.typed c.in_ok-typed.ensures.stands c.in_ok-typed.ensures.runs) c.in_ok-write_lowered.ensures
