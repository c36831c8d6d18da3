use Rattle.std.proofs.Common.{◌≡◌, rules, sym, ◌∙◌, subst}
use Rattle.typed_trees.specs.Typed.{module_of, IsTypedTree}
use Rattle.pass_law.specs.Law.{Law}
use Rattle.pass_plain.specs.Bodies.{no_entry, rewritten_functions}
use Rattle.pass_plain.specs.Plans.{trim_plan}
use Rattle.pass_plain.specs.Trimming.{by_trimming, trimmed_part}
use Rattle.pass_plain.proofs.Keeping.{same_tree}
use Rattle.pass_plain.proofs.TrimLaw.{trimming_tree, trim_law}
use Rattle.pass_plain.proofs.trim.TrimPass.lower_owned.Goals as goal

pub build-requires : goal.build-requires
build-requires c =
    let m = c.args.m in
    let part : c.in_ok-part.part ≡ trimmed_part m = search rules in
    let fns : c.in_ok-fns.fns ≡ rewritten_functions no_entry by_trimming m.1 = search rules in
    subst IsTypedTree (sym (same_tree c.in_ok-part.part (trimmed_part m) c.in_ok-fns.fns (rewritten_functions no_entry by_trimming m.1) part fns)) (trimming_tree m c.into_tree-part.ensures.typed)

pub returns : goal.returns
returns c =
    let m = c.args.m in
    let captures = c.args.settings.now.captures in
    let part : c.in_ok-part.part ≡ trimmed_part m = search rules in
    let fns : c.in_ok-fns.fns ≡ rewritten_functions no_entry by_trimming m.1 = search rules in
    record {
      law = subst (λ o. Law trim_plan (module_of m) (module_of o) captures) (sym (c.build.ensures ∙ same_tree c.in_ok-part.part (trimmed_part m) c.in_ok-fns.fns (rewritten_functions no_entry by_trimming m.1) part fns))
          (trim_law m c.into_tree-part.ensures.typed captures c.requires.stage);
    }
