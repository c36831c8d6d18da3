use Rattle.std.proofs.Common.{◌≡◌, ◌++◌, replicate}
use Rattle.machine_tests.proofs.version.push_zeros.Given as goal

abbrev pub invariant-loop-done : goal.invariant-loop-done
invariant-loop-done l = l.locals ≡ record l.initial.locals { used = l.initial.locals.used ++ replicate l.done 0 }
