use Rattle.std.proofs.Common.{◌≡◌, drop}
use Rattle.typed_trees.specs.Typed.{module_of}
use Rattle.meaning_new.specs.Host.{acts}
use Rattle.run_new.specs.States.{whole}
use Rattle.run_new.proofs.program.Program.acts.Given as goal

abbrev pub invariant-loop-act : goal.invariant-loop-act
invariant-loop-act l = acts (module_of l.self) (drop l.act-index l.acts) (whole l.state) ≡ acts (module_of l.self) l.acts (whole l.fn.state)
