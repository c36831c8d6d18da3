-- The headline: a module and its lowered module show the same events, in both directions, with few more live frames.
use Rattle.std.specs.Prelude.{◌≡◌, ℕ, ◌+◌, ◌*◌, ◌<◌, ◌≤◌, ◌⊎◌, nat_lt, nat_le, true, false, Bool, List, [], ◌∷◌, ◌++◌}
use Rattle.host_kit.specs.Scripts.{regrow}
use Rattle.host_kit.specs.Trace.{Mark, Seen, Told, seen, events, answers, captured, cut, Begins}
use Rattle.host_kit.specs.declared.event.Event.{Event}
use Rattle.host_kit.specs.declared.event.Event.TheVariants.{Failed, Full}
use Rattle.host_kit.specs.declared.script.Script.{Script}
use Rattle.wasm_ast.specs.declared.features.kind.Feature.TheVariants as features
use Rattle.wasm_ast.specs.Has.{has_of}
use Rattle.wasm_ast.specs.Region.{needs_region, fixed_pages}
use Rattle.wasm_ast.specs.declared.module.parts.Module.{Module}
use Rattle.host_kit.specs.Fits.{ScriptFits}
use Rattle.meaning_new.specs.Runs.{trace, depth}
use Rattle.host_kit.specs.Fits1.{ScriptFits1}
use Rattle.meaning_core1.specs.Runs.{trace1, depth1}
use Rattle.core1_ast.specs.declared.module.parts.Module1.{Module1}
use Rattle.stage_entry.specs.Cut.{pages}
use Rattle.headline.specs.Mapping.{map_script}
use Rattle.headline.specs.MappedEvents.{FitEvents}
use Rattle.headline.specs.Unmapping.{unmap}

-- the sizes that a lowered module has room for, beside the pages that it needs for itself
abbrev pub has_pages : Module → List ℕ → Bool
has_pages m sizes = nat_le (fixed_pages m + pages m sizes) 65536

-- the trace before the first successful growth past 65,536 pages and before the first capture for which the store has no room
abbrev pub safe : Module → ℕ → List Mark → List Mark
safe m captures marks = cut (has_pages m) (λ k. nat_lt k captures) 0 marks

-- the trace before its capture number captures + 1
abbrev pub before_full : ℕ → List Mark → List Mark
before_full captures marks = cut (λ sizes. true) (λ k. nat_lt k captures) 0 marks

-- the events of the output, as the host of the input would see them, within n turns
abbrev pub unmapped : Module → Module1 → Script → ℕ → List Seen
unmapped m m1 s n = unmap m s (seen (trace1 m1 (map_script m s) n))

-- the output stopped because its capture store was full, just where the input makes one capture too many
pub record StoppedFull (captures : ℕ) (shown : List Seen) (input : List Mark) : Type 0 where
  pub front : List Seen
  pub last : Event
  pub ends : shown ≡ front ++ Told last ∷ []
  pub stop : (last ≡ Full) ⊎ (last ≡ Failed)
  pub many : captures < captured input
  pub agrees : front ≡ seen (before_full captures input)

-- Out to in: what the output shows within n turns, the input shows, within no more turns and under answers to
-- growths that begin with those the output was given. At that same run of the input with d live frames the output
-- has at most a * d + b.
pub record OutToIn (a b : ℕ) (m : Module) (m1 : Module1) (captures : ℕ) (s : Script) (n : ℕ) : Type 0 where
  pub turns : ℕ
  pub fewer : turns ≤ n
  pub grows : List Bool
  pub begins : Begins (answers (unmapped m m1 s n)) grows
  pub same : Begins (unmapped m m1 s n) (seen (trace m (regrow grows s) turns))
      ⊎ StoppedFull captures (unmapped m m1 s n) (trace m (regrow grows s) turns)
  pub frames : captured (trace m (regrow grows s) turns) ≤ captures
      → depth1 m1 (map_script m s) n ≤ a * depth m (regrow grows s) turns + b

-- In to out: what the input shows within n turns, growth past 65,536 pages and a full capture store aside, the
-- output shows within some number of turns.
pub record InToOut (m : Module) (m1 : Module1) (captures : ℕ) (s : Script) (n : ℕ) : Type 0 where
  pub turns : ℕ
  pub shows : Begins (seen (safe m captures (trace m s n))) (unmapped m m1 s turns)

-- A module of 1.0 with sign extension and typed selects at most, which needs no region of memory
pub record StaysDirect (m : Module) : Type 0 where
  pub constants : has_of m features.Constants ≡ false
  pub multi : has_of m features.Multi ≡ false
  pub simd : has_of m features.Simd ≡ false
  pub late_lanes : has_of m features.LateLanes ≡ false
  pub tail : has_of m features.Tail ≡ false
  pub refs : has_of m features.Refs ≡ false
  pub tables : has_of m features.Tables ≡ false
  pub exceptions : has_of m features.Exceptions ≡ false
  pub bulk : has_of m features.Bulk ≡ false
  pub wide_memory : has_of m features.WideMemory ≡ false
  pub memories : has_of m features.Memories ≡ false
  pub region : needs_region m ≡ false

-- what holds for one script
pub record SameUnder (a b : ℕ) (m : Module) (m1 : Module1) (captures : ℕ) (s : Script) : Type 0 where
  pub fits : ScriptFits1 m1 (map_script m s)
  pub mapped_events : (n : ℕ) → FitEvents m s (events (trace1 m1 (map_script m s) n))
  pub out_to_in : (n : ℕ) → OutToIn a b m m1 captures s n
  pub in_to_out : (n : ℕ) → InToOut m m1 captures s n
  -- a module with no features but sign extension and typed selects needs no more turns when it is lowered
  pub direct : StaysDirect m → (n : ℕ) → Begins (seen (safe m captures (trace m s n))) (unmapped m m1 s n)

-- Both modules show the same under every fitting script, in both directions, and where the input has d live frames
-- the output has at most a * d + b.
pub record Same (a b : ℕ) (m : Module) (m1 : Module1) (captures : ℕ) : Type 0 where
  pub under : (s : Script) → ScriptFits m s → SameUnder a b m m1 captures s
