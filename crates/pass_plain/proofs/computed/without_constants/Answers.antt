use Rattle.std.proofs.Common.{◌≡◌, ◌++◌, rules, sym, subst}
use Rattle.typed_trees.specs.Typed.{IsTypedTree}
use Rattle.pass_plain.specs.Folding.{folded_part, setting_code, started_part, start_fns}
use Rattle.pass_plain.proofs.FoldedTree.{constants_tree}
use Rattle.pass_plain.proofs.Keeping.{same_tree}
use Rattle.pass_plain.proofs.computed.without_constants.Goals as goal

pub build-requires : goal.build-requires
build-requires c =
    let m = c.args.m in
    let part : c.in_ok-new.new ≡ started_part (setting_code m.0) (folded_part m.0) = search rules in
    let fns : c.in_ok-new.all ≡ m.1 ++ start_fns m.0 (setting_code m.0) = search rules in
    subst IsTypedTree (sym (same_tree c.in_ok-new.new (started_part (setting_code m.0) (folded_part m.0)) c.in_ok-new.all (m.1 ++ start_fns m.0 (setting_code m.0)) part fns)) (constants_tree m c.into_tree-part.ensures.typed c.requires.foldable)
