-- What a run keeps of its state: a run without bounds permits everything, and its bounds stay as they are.
use Rattle.std.specs.Prelude.{Bool, true, false, List}
use Rattle.host_kit.specs.Trace.{Mark}
use Rattle.host_kit.specs.declared.script.Reply.{Reply}
use Rattle.run_kit.specs.Narrowing.{Narrowing}
use Rattle.meaning_new.specs.Store.{Store, State}

-- the store, what the host has left to answer, and what the run has left behind
pub record Kept : Type 0 where
  pub store : Store
  pub replies : List (List Reply)
  pub grows : List Bool
  pub trace : List Mark

-- the state of a run without bounds
abbrev pub whole : Kept → State
whole k = record {
  store = k.store;
  replies = k.replies;
  grows = k.grows;
  trace = k.trace;
  permits = λ sizes. true;
  room = λ captures. true;
  strict = false;
}

abbrev pub part : State → Kept
part s = record { store = s.store; replies = s.replies; grows = s.grows; trace = s.trace }

abbrev pub unbounded : Narrowing Kept State
unbounded = record { whole = whole; part = part }
