-- The state once the segments are written.
use Rattle.std.specs.Prelude.{◌≡◌, true, false, Option, Some, None}
use Rattle.host_kit.specs.declared.script.Script.{Script}
use Rattle.wasm_ast.specs.declared.module.parts.Module.{Module}
use Rattle.meaning_new.specs.Store.{State, with_store}
use Rattle.meaning_new.specs.Instances.{new_state, place_segments}
use Rattle.run_new.specs.States.{Kept, whole}

-- the state in which a run without bounds begins
abbrev pub first : Module → Script → State
first m script = new_state (λ sizes. true) (λ captures. true) false m script

-- none where a segment is not inside, else the state with the store in which all are written
abbrev pub IsInstance : Module → Script → Option Kept → Type 0
IsInstance m script None = place_segments m (first m script).store ≡ None
IsInstance m script (Some k) = (place_segments m (first m script).store ≡ Some k.store) × (whole k ≡ with_store k.store (first m script))
