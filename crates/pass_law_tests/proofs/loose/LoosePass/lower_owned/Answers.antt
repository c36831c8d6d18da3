use Rattle.std.proofs.Common.{refl}
use Rattle.typed_trees.specs.Typed.{module_of}
use Rattle.pass_law_tests.specs.Stages.{everything}
use Rattle.pass_law_tests.proofs.Keeping.{copied, more}
use Rattle.pass_law_tests.proofs.loose.LoosePass.lower_owned.Goals as goal

pub returns : goal.returns
returns c = record { law = copied everything 2 3 more (module_of c.args.m) c.args.settings.now.captures (record { has = λ f e. refl; region = λ e. refl; computed_exports = λ e. refl }) c.requires.stage }
