use Rattle.typed_trees.specs.Typed.{module_of}
use Rattle.pass_law_tests.proofs.Keeping.{copied, once}
use Rattle.pass_law_tests.proofs.same.SamePass.lower_owned.Goals as goal

pub returns : goal.returns
returns c = record { law = copied (λ n. n) 1 0 once (module_of c.args.m) c.args.settings.now.captures (record { has = λ f e. e; region = λ e. e; computed_exports = λ e. e }) c.requires.stage }
