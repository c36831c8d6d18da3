-- The theorem: a crossed module shows what the module shows and opens as many calls, turn for turn.
use Rattle.std.proofs.Common.{◌≡◌, ℕ, ◌-◌, List, ◌∷◌, Option, Some, None, refl, sym, ap, ◌∙◌, subst, arith}
use Rattle.outcome_kit.specs.Outcome.{Out, Done, Halt, after, place_of}
use Rattle.outcome_kit.specs.Code.{Go, Leave, go_on, stands}
use Rattle.evaluation_kit.specs.Configurations.{World, Sem}
use Rattle.evaluation_kit.specs.Languages.{func}
use Rattle.evaluation_kit.specs.Tasks.{Status, Task, Change, placed, tasks, world_after}
use Rattle.simulation_kit.specs.Mirrors.{mirrored}
use Rattle.host_kit.specs.declared.event.Event.TheVariants as events
use Rattle.host_kit.specs.declared.script.Script.{Script}
use Rattle.wasm_ast.specs.declared.module.parts.Module.{Module}
use Rattle.meaning_new.specs.Store.{Store, State, with_store}
use Rattle.meaning_new.specs.Instances.{place_segments}
use Rattle.meaning_new.specs.Runs.{instantiated, trace, depth}
use Rattle.meaning_core1.specs.Store.{Store1, State1, show, in_store}
use Rattle.meaning_core1.specs.Instances.{new_state1, with_segments}
use Rattle.meaning_core1.specs.Runs.{segments_status, trace1, depth1}
use Rattle.crossing.specs.Modules.{cross}
use Rattle.crossing.specs.InStep.{WorldLike}
use Rattle.crossing.specs.States.{cross_store, cross_state, IsPlain, ScriptIsPlain}
use Rattle.crossing.specs.Crossing.{InstrCrosses, FunctionsCross, StoresAgree, first_state, InstantiationCrosses, CrossedRuns}
use Rattle.crossing.proofs.Callees.{callees}
use Rattle.crossing.proofs.Ends.{world_same}
use Rattle.crossing.proofs.Images.{M}
use Rattle.crossing.proofs.Instructions.{Owes, functions_in_step}
use Rattle.crossing.proofs.Layers.{L, L', seen, becomes, forms_like}
use Rattle.crossing.proofs.Ordinary.{functions_so}
use Rattle.crossing.proofs.Runs.{rest, rest1, rest_seen, rest_like, rest_agrees}
use Rattle.crossing.proofs.Tasks.{worlds_alike}

-- a change of the state, and then other tasks
module _ {V S : Type 0} (funcs : ℕ → Sem V S) (ts : List (Task V S)) where
  abbrev next : Status S → ℕ → World S
  next (Go s) n = world_after funcs ts s n
  next (Leave j s) n = record { state = s; deepest = 0 }

  after_none : (o : Out (World S) (Status (World S))) → place_of stands (after 0 o) ≡ place_of stands o
  after_none (Done u r) = refl
  after_none (Halt w) = refl

  settles : (s : S) (r : Status S) (n : ℕ) → place_of stands (after 0 (go_on (tasks funcs ts) (placed (record { state = s; deepest = 0 }) r) (n - 0))) ≡ next r n
  settles s (Go t) n =
      let e : n - 0 ≡ n = omega arith in
      after_none (tasks funcs ts (n - 0) (record { state = t; deepest = 0 }))
      ∙ ap (λ (i : ℕ). place_of stands (tasks funcs ts i (record { state = t; deepest = 0 }))) e
  settles s (Leave j t) n = refl

  changes_first : (f : S → Status S) (s : S) (n : ℕ) → world_after funcs (Change f ∷ ts) s n ≡ next (f s) n
  changes_first f s n = settles s (f s) n

module _ (m : Module) (crossing : FunctionsCross m) (script : Script) (plain : ScriptIsPlain script) where
  -- what the crossing owes
  owed : Owes (mirrored M) (L m crossing) (L' m crossing) (becomes m crossing) (seen m crossing) (InstrCrosses m)
  owed = record {
    forms = λ P l x fits. forms_like m crossing P l fits;
    readies = λ P l x q q'. refl;
    callees = callees m crossing;
  }

  -- worlds that agree in all that a host learns
  abbrev Agree : World State → World State1 → Type 0
  Agree w w' = WorldLike (mirrored M) w w'

  -- from images on
  pub runs_alike : (s : State) → IsPlain s → (n : ℕ) → Agree (world_after (func (L m crossing)) (rest m script.items) s n) (world_after (func (L' m crossing)) (rest1 m script.items) (cross_state s) n)
  runs_alike s h n =
      subst (Agree (world_after (func (L m crossing)) (rest m script.items) s n))
      (world_same (func (L' m crossing)) (functions_so (cross m)) (rest_seen m script.items) (rest1 m script.items) (rest_agrees m script.items) (cross_state s) n)
      (worlds_alike (mirrored M) (func (L m crossing)) (func (L' m crossing)) (functions_in_step (mirrored M) (L m crossing) (L' m crossing) (becomes m crossing) (seen m crossing) (InstrCrosses m) owed)
      (rest m script.items) (rest_seen m script.items) (rest_like m script.items plain.items) s (cross_state s) refl h n)

  module _ (same : InstantiationCrosses m script) where
    abbrev s0 : State
    s0 = first_state m script

    abbrev s1 : State1
    s1 = new_state1 (cross m) script

    abbrev after_segments : Status State → ℕ → World State
    after_segments = next (func (L m crossing)) (rest m script.items)

    abbrev after_segments1 : Status State1 → ℕ → World State1
    after_segments1 = next (func (L' m crossing)) (rest1 m script.items)

    agrees : (o : Option Store) (o' : Option Store1) → StoresAgree o o' → (n : ℕ) → Agree (after_segments (instantiated s0 o) n) (after_segments1 (segments_status s1 o') n)
    agrees None None h n = record { state = ap (show events.Failed) same.begins; deepest = refl }
    agrees None (Some t') h n = absurd h
    agrees (Some t) None h n = absurd h
    agrees (Some t) (Some t') h n =
        let e : in_store t' s1 ≡ cross_state (with_store t s0) = ap (λ (u : Store1). in_store u s1) h.0 ∙ ap (in_store (cross_store t)) same.begins in
        subst (λ (u : State1). Agree (world_after (func (L m crossing)) (rest m script.items) (with_store t s0) n) (world_after (func (L' m crossing)) (rest1 m script.items) u n)) (sym e)
        (runs_alike (with_store t s0) (record { store = h.1; permits = λ l. refl; replies = plain.replies }) n)

    all_alike : (n : ℕ) → Agree (world_after (func (L m crossing)) (Change (λ s. instantiated s (place_segments m s.store)) ∷ rest m script.items) s0 n) (world_after (func (L' m crossing)) (Change (λ s. segments_status s (with_segments (cross m) s.store)) ∷ rest1 m script.items) s1 n)
    all_alike n =
        subst (λ w. Agree w (world_after (func (L' m crossing)) (Change (λ s. segments_status s (with_segments (cross m) s.store)) ∷ rest1 m script.items) s1 n))
        (sym (changes_first (func (L m crossing)) (rest m script.items) (λ s. instantiated s (place_segments m s.store)) s0 n))
        (subst (Agree (after_segments (instantiated s0 (place_segments m s0.store)) n))
        (sym (changes_first (func (L' m crossing)) (rest1 m script.items) (λ s. segments_status s (with_segments (cross m) s.store)) s1 n))
        (agrees (place_segments m s0.store) (with_segments (cross m) s1.store) same.segments n))

    -- all that the host sees, and the calls that were open
    pub crossed_runs : (n : ℕ) → CrossedRuns m script n
    unfolding trace depth trace1 depth1
    crossed_runs n =
        let h = all_alike n in
        record { trace = ap (λ (s : State1). s.trace) h.state; depth = h.deepest }
