use Rattle.std.proofs.Common.{List, map, ap, ◌∙◌}
use Rattle.wasm_ast.specs.declared.module.parts.Module.{Module}
use Rattle.typed_trees.specs.declared.module.TypedFn.{TypedFn}
use Rattle.crossing.specs.Modules.{cross_segment}
use Rattle.pass_cross.proofs.InRange.{numbers_in_range}
use Rattle.pass_cross.proofs.Joining.{joined}
use Rattle.pass_cross.proofs.Linking.{typed_out, is_crossed}
use Rattle.pass_cross.proofs.modules.cross.Goals as goal

pub returns-clause-value : goal.returns-clause-value
returns-clause-value c =
    let tree = c.tree in
    let same = ap (λ (m : Module). (m, tree.result.1.now)) tree.ensures.part ∙ ap (λ (l : List TypedFn). (c.args.m.now.0, l)) tree.ensures.functions in
    let segments = c.in_ok-datas.ensures ∙ ap (λ l. map cross_segment l) c.as_slice.ensures in
    joined c.args.m.now tree.result.0.now tree.result.1.now same c.in_ok-codes.ensures segments c.in_ok-out.ensures

pub returns-clause-typed : goal.returns-clause-typed
returns-clause-typed c = typed_out c.args.m.now c.tree.ensures.typed c.requires c.in_ok-out.out (returns-clause-value c) c.in_ok-check_lengths.ensures.short

pub returns-clause-ranges : goal.returns-clause-ranges
returns-clause-ranges c = numbers_in_range c.in_ok-out.out (returns-clause-typed c) c.in_ok-check_lengths.ensures.ranges

pub returns-clause-crossed : goal.returns-clause-crossed
returns-clause-crossed c = is_crossed c.args.m.now c.tree.ensures.typed c.requires c.in_ok-out.out (returns-clause-value c)
