use Rattle.std.proofs.Common.{◌≡◌, drop}
use Rattle.meaning_core1.specs.Hosting.{acts1}
use Rattle.run_core1.proofs.program.Program.acts.Given as goal

abbrev pub invariant-loop-act : goal.invariant-loop-act
invariant-loop-act l = acts1 l.self (drop l.act-index l.acts) l.state ≡ acts1 l.self l.acts l.fn.state
