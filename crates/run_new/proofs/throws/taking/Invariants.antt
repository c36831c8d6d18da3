use Rattle.std.proofs.Common.{◌≡◌, drop, find}
use Rattle.meaning_new.specs.Exceptions.{takes}
use Rattle.run_new.proofs.throws.taking.Given as goal

abbrev pub invariant-loop-clause : goal.invariant-loop-clause
invariant-loop-clause l = find (takes l.tag) (drop l.clause-index l.clauses) ≡ find (takes l.tag) l.clauses
