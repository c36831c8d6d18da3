use Rattle.soundness.proofs.RunEvents.{events_are_typed}
use Rattle.soundness.proofs.typed_runs_show_typed_events.Goals as goal

pub returns : goal.returns
returns c = events_are_typed
