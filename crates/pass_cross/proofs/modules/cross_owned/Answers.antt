use Rattle.std.proofs.Common.{map, ap, ◌∙◌}
use Rattle.crossing.specs.Modules.{cross_segment}
use Rattle.pass_cross.proofs.InRange.{numbers_in_range}
use Rattle.pass_cross.proofs.Joining.{joined}
use Rattle.pass_cross.proofs.Linking.{typed_out, is_crossed}
use Rattle.pass_cross.proofs.modules.cross_owned.Goals as goal

pub returns-clause-value : goal.returns-clause-value
returns-clause-value c =
    let tree = c.into_tree-part in
    let segments = c.in_ok-datas.ensures ∙ ap (λ l. map cross_segment l) c.replace-segments.ensures.value in
    joined c.args.m tree.result.0 tree.result.1 tree.ensures.tree c.in_ok-codes.ensures segments c.in_ok-out.ensures

pub returns-clause-typed : goal.returns-clause-typed
returns-clause-typed c = typed_out c.args.m c.into_tree-part.ensures.typed c.requires c.in_ok-out.out (returns-clause-value c) c.in_ok-check_lengths.ensures.short

pub returns-clause-ranges : goal.returns-clause-ranges
returns-clause-ranges c = numbers_in_range c.in_ok-out.out (returns-clause-typed c) c.in_ok-check_lengths.ensures.ranges

pub returns-clause-crossed : goal.returns-clause-crossed
returns-clause-crossed c = is_crossed c.args.m c.into_tree-part.ensures.typed c.requires c.in_ok-out.out (returns-clause-value c)
