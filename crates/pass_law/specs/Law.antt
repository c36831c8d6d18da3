-- The one law of every stage of lowering: what its output has to do with its input.
use Rattle.std.specs.Prelude.{◌≡◌, ℕ, ◌+◌, ◌*◌, ◌<◌, ◌≤◌, ◌⊎◌, Bool, true, List, [], ◌∷◌, ◌++◌}
use Rattle.host_kit.specs.Fits.{ScriptFits}
use Rattle.host_kit.specs.Scripts.{regrow}
use Rattle.host_kit.specs.Trace.{Begins}
use Rattle.host_kit.specs.declared.event.Event.{Event}
use Rattle.host_kit.specs.declared.event.Event.TheVariants.{Failed, Full}
use Rattle.host_kit.specs.declared.script.Script.{Script}
use Rattle.wasm_ast.specs.declared.module.parts.Module.{Module}
use Rattle.meaning_new.specs.Runs.{trace, depth}
use Rattle.pass_law.specs.Hosts.{HostTypes, host_types}
use Rattle.pass_law.specs.Needs.{NoMore, IsDirect, needs_of}
use Rattle.pass_law.specs.Plans.{Plan}
use Rattle.pass_law.specs.Stages.{Stage, has_load}
use Rattle.pass_law.specs.Views.{Sight, Told, view, answers_of, taken, untaken, kept, apply, Passes, before_full, safe}

-- the output stopped because its store of captured exceptions was full, just where the input makes one capture too many
pub record StoppedFull (captures : ℕ) (shown input : List Sight) : Type 0 where
  pub front : List Sight
  pub last : Event
  pub ends : shown ≡ front ++ Told last ∷ []
  pub stop : (last ≡ Full) ⊎ (last ≡ Failed)
  pub many : captures < taken input
  pub agrees : front ≡ untaken (before_full captures input)

-- what the output shows, the input shows; a stage that removes captures may have stopped
abbrev pub InStep : Bool → ℕ → List Sight → List Sight → Type 0
InStep removes captures shown input = Begins shown (kept removes input) ⊎ ((removes ≡ true) × StoppedFull captures shown input)

-- Out to in: what the output shows within n turns under the script t, the input shows under the script s within no more
-- turns, where its growths are answered as the output's were, whatever is answered after them. At that same run of the
-- input with d open calls the output has at most a * d + b.
pub record Explained (P : Plan) (h : HostTypes) (m o : Module) (captures : ℕ) (s : Script) (n : ℕ) : Type 0 where
  pub turns : ℕ
  pub fewer : turns ≤ n
  pub grows : List Bool
  pub begins : Begins (answers_of (apply (P.event h s) (view (trace o (P.script h s) n)))) grows
  pub same : InStep P.removes_captures captures (apply (P.event h s) (view (trace o (P.script h s) n))) (view (trace m (regrow grows s) turns))
  pub frames : taken (view (trace m (regrow grows s) turns)) ≤ captures
      → depth o (P.script h s) n ≤ P.frames * depth m (regrow grows s) turns + P.more_frames

-- what the output shows within so many turns as far as there is room holds what the input shows within n
abbrev pub Reaches : Plan → HostTypes → Module → Module → ℕ → Script → ℕ → ℕ → Type 0
Reaches P h m o captures s n turns =
    Begins (kept P.removes_captures (safe (has_load m) captures (trace m s n))) (apply (P.event h s) (safe (has_load o) captures (trace o (P.script h s) turns)))

-- In to out.
pub record Reached (P : Plan) (h : HostTypes) (m o : Module) (captures : ℕ) (s : Script) (n : ℕ) : Type 0 where
  pub turns : ℕ
  pub reaches : Reaches P h m o captures s n turns

-- The law, at the host types h of the input.
pub record LawAt (P : Plan) (h : HostTypes) (m o : Module) (captures : ℕ) : Type 0 where
  -- no more is left than the plan says, the output's host sees what the plan says, and the output may be lowered further
  pub left : NoMore (needs_of o) (P.leaves (needs_of m))
  pub host : host_types o ≡ P.types h
  pub stage : Stage o
  -- scripts that fit the input become scripts that fit the output, whose events pass the test of the plan
  pub fits : (s : Script) → ScriptFits m s → ScriptFits o (P.script h s)
  pub passes : (s : Script) → ScriptFits m s → (n : ℕ) → Passes (P.test h s) (P.event h s) (view (trace o (P.script h s) n))
  -- both directions
  pub explained : (s : Script) → ScriptFits m s → (n : ℕ) → Explained P h m o captures s n
  pub reached : (s : Script) → ScriptFits m s → (n : ℕ) → Reached P h m o captures s n
  -- a module of 1.0 with sign extension and typed selects at most stays one, and needs no more turns
  pub direct : IsDirect (needs_of m) → IsDirect (needs_of o)
  pub reached_directly : IsDirect (needs_of m) → (s : Script) → ScriptFits m s → (n : ℕ) → Reaches P h m o captures s n n

abbrev pub Law : Plan → Module → Module → ℕ → Type 0
Law P m o captures = LawAt P (host_types m) m o captures
