use Rattle.std.proofs.Common.{◌≡◌, sym, subst}
use Rattle.std.proofs.lemmas.Result.{IfOk-weaker}
use Rattle.typed_trees.specs.Typed.{module_of}
use Rattle.pass_law.specs.Law.{Law}
use Rattle.pass_plain.specs.ConstantPlan.{constant_plan}
use Rattle.pass_plain.specs.Folding.{tree_without_constants}
use Rattle.pass_plain.proofs.TypedConstants.{AreInRange}
use Rattle.pass_plain.proofs.FoldableFrom.{foldable_from}
use Rattle.pass_plain.proofs.LawfulConstants.{lawful_constants}
use Rattle.pass_plain.proofs.computed.ConstPass.lower_owned.Goals as goal

pub without_constants-requires : goal.without_constants-requires
without_constants-requires c = record { foldable = foldable_from (module_of c.args.m) c.requires.takes c.requires.stage c.tree.ensures.typed.parts }

pub returns : goal.returns
returns c =
    let m = c.args.m in
    let captures = c.args.settings.now.captures in
    let range = c.constants_in_range.ensures in
    let at : AreInRange m.0 = subst AreInRange c.tree.ensures.part (record { globals = range.globals; elems = range.elems; datas = range.datas }) in
    let ranges : AreInRange (module_of m) = record { globals = at.globals; elems = at.elems; datas = at.datas } in
    let law : Law constant_plan (module_of m) (module_of (tree_without_constants m)) captures = lawful_constants m c.tree.ensures.typed ranges c.requires.takes c.requires.stage captures in
    record { law = IfOk-weaker c.without_constants.result (λ o. o ≡ tree_without_constants m) (λ o. Law constant_plan (module_of m) (module_of o) captures) (λ o same. subst (λ x. Law constant_plan (module_of m) (module_of x) captures) (sym same) law) c.without_constants.ensures }
