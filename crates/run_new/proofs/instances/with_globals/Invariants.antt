use Rattle.std.proofs.Common.{◌≡◌, drop}
use Rattle.meaning_new.specs.Instances.{with_globals}
use Rattle.run_new.proofs.instances.with_globals.Given as goal

abbrev pub invariant-loop-global : goal.invariant-loop-global
invariant-loop-global l = with_globals (drop l.global-index l.own) l.globals.items ≡ with_globals l.own l.fn.imported.items
