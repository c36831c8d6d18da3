use Rattle.std.proofs.Common.{List, rules, sym, subst}
use Rattle.wasm_ast.specs.declared.module.parts.Module.{Module}
use Rattle.typed_trees.specs.declared.module.TypedFn.{TypedFn}
use Rattle.typed_trees.specs.Typed.{module_of, IsTypedTree}
use Rattle.pass_law.specs.Law.{Law}
use Rattle.pass_plain.specs.Plans.{sign_plan}
use Rattle.pass_plain.specs.Bodies.{no_entry, rewritten_functions}
use Rattle.pass_plain.specs.Shifts.{by_shifts}
use Rattle.pass_plain.proofs.Keeping.{at_tree}
use Rattle.pass_plain.proofs.SignLaw.{shifts_tree, sign_law}
use Rattle.pass_plain.proofs.sign.SignPass.lower_owned.Goals as goal

pub build-requires : goal.build-requires
build-requires c =
    let m = c.args.m in
    at_tree IsTypedTree (m.0, rewritten_functions no_entry by_shifts m.1) c.into_tree-part.result.0 c.in_ok-fns.fns (search rules) (search rules) (shifts_tree m c.into_tree-part.ensures.typed)

pub returns : goal.returns
returns c =
    let m = c.args.m in
    let owed : Module × List TypedFn → Type 0 = λ o. Law sign_plan (module_of m) (module_of o) c.args.settings.now.captures in
    record { law = subst owed (sym c.build.ensures) (at_tree owed (m.0, rewritten_functions no_entry by_shifts m.1) c.into_tree-part.result.0 c.in_ok-fns.fns (search rules) (search rules) (sign_law m c.into_tree-part.ensures.typed c.args.settings.now.captures c.requires.stage)) }
