use Rattle.soundness.proofs.Whole.{runs_are_strict, runs_are_never_stuck, states_stay_typed}
use Rattle.soundness.proofs.typed_runs_are_strict.Goals as goal

pub returns-clause-strict : goal.returns-clause-strict
returns-clause-strict c = runs_are_strict

pub returns-clause-typed : goal.returns-clause-typed
returns-clause-typed c = states_stay_typed

pub returns-clause-stuck : goal.returns-clause-stuck
returns-clause-stuck c = runs_are_never_stuck
