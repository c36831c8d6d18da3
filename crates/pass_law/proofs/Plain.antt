-- A stage whose maps change nothing, and which keeps traces, keeps the law.
use Rattle.std.proofs.Common.{◌≡◌, ℕ, ◌+◌, ◌*◌, ◌≤◌, Bool, true, List, [], ◌∷◌, map, refl, sym, ap, ◌∙◌, subst, le_refl}
use Rattle.std.specs.List.{AllByRecursion}
use Rattle.host_kit.specs.Fits.{ScriptFits}
use Rattle.host_kit.specs.Trace.{Mark, Shows, Grown, Captured}
use Rattle.host_kit.specs.declared.event.Event.{Event}
use Rattle.host_kit.specs.declared.event.Event.TheVariants.{Full}
use Rattle.host_kit.specs.declared.script.Script.{Script}
use Rattle.wasm_ast.specs.declared.module.parts.Module.{Module}
use Rattle.meaning_new.specs.Runs.{trace, depth, bounded_trace, bounded_depth}
use Rattle.meaning_new.proofs.RunLaws.{trace_not_full}
use Rattle.pass_law.specs.Hosts.{HostTypes, host_types}
use Rattle.pass_law.specs.Needs.{Needs, NoMore, IsDirect, needs_of}
use Rattle.pass_law.specs.Stages.{Stage, has_load}
use Rattle.pass_law.specs.Plain.{plain}
use Rattle.pass_law.specs.Views.{view, UnlessFull, Passes}
use Rattle.pass_law.specs.Law.{Law}
use Rattle.pass_law.proofs.Sights.{NotFull, NoFull, never_full}
use Rattle.pass_law.proofs.Twins.{Twin, Heard, Grew, Caught, outer, inner, IsFit}
use Rattle.pass_law.proofs.Simulated.{Simulates, simulated_law}

-- What a stage owes whose maps change nothing and which keeps traces.
pub record KeepsRuns (leaves : Needs → Needs) (test : HostTypes → Script → Event → Bool) (frames more_frames : ℕ) (m o : Module) : Type 0 where
  pub left : NoMore (needs_of o) (leaves (needs_of m))
  pub host : host_types o ≡ host_types m
  pub stage : Stage o
  pub load : (sizes : List ℕ) → has_load m sizes ≡ true → has_load o sizes ≡ true
  pub fits : (s : Script) → ScriptFits m s → ScriptFits o s
  pub passes : (s : Script) → ScriptFits m s → (n : ℕ) → Passes (test (host_types m) s) (λ e. e) (view (trace o s n))
  pub traces : (s : Script) → ScriptFits m s → (n : ℕ) → trace o s n ≡ trace m s n
  pub depths : (s : Script) → ScriptFits m s → (n : ℕ) → depth o s n ≤ frames * depth m s n + more_frames
  pub direct : IsDirect (needs_of m) → IsDirect (needs_of o)

-- a trace beside itself
twin : Mark → Twin
twin (Shows e) = Heard e
twin (Grown ok sizes) = Grew ok sizes sizes
twin Captured = Caught

outer-twins : (marks : List Mark) → map outer (map twin marks) ≡ marks
unfolding twin
outer-twins [] = refl
outer-twins (Shows e ∷ marks) = ap (λ l. Shows e ∷ l) (outer-twins marks)
outer-twins (Grown ok sizes ∷ marks) = ap (λ l. Grown ok sizes ∷ l) (outer-twins marks)
outer-twins (Captured ∷ marks) = ap (λ l. Captured ∷ l) (outer-twins marks)

inner-twins : (marks : List Mark) → map (inner (λ e. e)) (map twin marks) ≡ marks
unfolding twin
inner-twins [] = refl
inner-twins (Shows e ∷ marks) = ap (λ l. Shows e ∷ l) (inner-twins marks)
inner-twins (Grown ok sizes ∷ marks) = ap (λ l. Grown ok sizes ∷ l) (inner-twins marks)
inner-twins (Captured ∷ marks) = ap (λ l. Captured ∷ l) (inner-twins marks)

always : {X : Type 0} (e : Event) → NotFull e → UnlessFull e X → X
always Full n h = absurd n
always e n h = h

twins_fit : (test : Event → Bool) (K K' : List ℕ → Bool) → ((sizes : List ℕ) → K sizes ≡ true → K' sizes ≡ true) → (marks : List Mark) → NoFull (view marks) → Passes test (λ e. e) (view marks) → AllByRecursion (IsFit test K K') (map twin marks)
unfolding twin
twins_fit test K K' load [] n h = tt
twins_fit test K K' load (Shows e ∷ marks) n h = (h.0, twins_fit test K K' load marks n.1 (always e n.0 h.1))
twins_fit test K K' load (Grown ok sizes ∷ marks) n h = (load sizes, twins_fit test K K' load marks n h)
twins_fit test K K' load (Captured ∷ marks) n h = (tt, twins_fit test K K' load marks n h)

-- bounds that permit all are none
free-trace : (m : Module) (s : Script) (n : ℕ) → bounded_trace (λ sizes. true) (λ k. true) m s n ≡ trace m s n
unfolding bounded_trace trace
free-trace m s n = refl

free-depth : (m : Module) (s : Script) (n : ℕ) → bounded_depth (λ sizes. true) (λ k. true) m s n ≡ depth m s n
unfolding bounded_depth depth
free-depth m s n = refl

module _ (takes : Needs → Bool) (leaves : Needs → Needs) (test : HostTypes → Script → Event → Bool) (frames more_frames : ℕ) (m o : Module) (h : KeepsRuns leaves test frames more_frames m o) (s : Script) (fit : ScriptFits m s) (n : ℕ) where
  simulates : Simulates (plain takes leaves test frames more_frames) (host_types m) m o (λ sizes. true) s n
  simulates = record {
    turns = n;
    enough = le_refl n;
    twins = map twin (trace m s n);
    input = free-trace m s n ∙ sym (inner-twins (trace m s n));
    output = h.traces s fit n ∙ sym (outer-twins (trace m s n));
    fit = twins_fit (test (host_types m) s) (has_load m) (has_load o) h.load (trace m s n) (never_full (trace m s n) (trace_not_full m s n))
        (subst (λ l. Passes (test (host_types m) s) (λ e. e) (view l)) (h.traces s fit n) (h.passes s fit n));
    frames = subst (λ d. depth o s n ≤ frames * d + more_frames) (sym (free-depth m s n)) (h.depths s fit n);
    direct = λ d. refl;
  }

pub plain_law : (takes : Needs → Bool) (leaves : Needs → Needs) (test : HostTypes → Script → Event → Bool) (frames more_frames : ℕ) (m o : Module) (captures : ℕ) → KeepsRuns leaves test frames more_frames m o → Law (plain takes leaves test frames more_frames) m o captures
plain_law takes leaves test frames more_frames m o captures h =
    simulated_law (plain takes leaves test frames more_frames) m o captures (record {
      left = h.left;
      host = h.host;
      stage = h.stage;
      direct = h.direct;
      fits = h.fits;
      keeps = refl;
      permits = λ sizes. true;
      wide = λ sizes e. refl;
      by = simulates takes leaves test frames more_frames m o h;
    })
