-- From what a stage owes to its law.
use Rattle.std.proofs.Common.{◌≡◌, ℕ, ◌+◌, ◌-◌, ◌*◌, ◌≤◌, Bool, true, false, List, [], ◌∷◌, map, length, Option, Some, None, refl, sym, ap, ◌∙◌, subst, arith}
use Rattle.std.specs.Prelude.{nat_lt, slice_get, option_and_then, option_map, if◌then◌else◌}
use Rattle.std.specs.List.{AllByRecursion}
use Rattle.host_kit.specs.Fits.{ScriptFits}
use Rattle.host_kit.specs.Offered.{func_type}
use Rattle.host_kit.specs.Trace.{Mark, Shows, Grown, Captured}
use Rattle.host_kit.specs.declared.event.Event.{Event}
use Rattle.host_kit.specs.declared.event.Event.TheVariants.{Full}
use Rattle.host_kit.specs.declared.script.Script.{Script}
use Rattle.wasm_ast.specs.declared.module.code.Body.{Body}
use Rattle.wasm_ast.specs.declared.module.code.Instr.{Instr}
use Rattle.wasm_ast.specs.declared.module.code.Instr.TheOpen.{Instr-F}
use Rattle.wasm_ast.specs.declared.module.parts.Module.{Module}
use Rattle.wasm_ast.specs.declared.module.ty.FuncType.{FuncType}
use Rattle.evaluation_kit.specs.Languages.{func}
use Rattle.evaluation_kit.specs.Control.{Own, Host}
use Rattle.evaluation_kit.specs.Tasks.{tasks, world_after}
use Rattle.simulation_kit.specs.Runs.{Spends}
use Rattle.simulation_kit.specs.Hosting.{Final}
use Rattle.simulation_kit.specs.Likenesses.{matching, CalleeLike}
use Rattle.simulation_kit.specs.Rewriting.{Step}
use Rattle.simulation_kit.proofs.Directions.{unless_stuck}
use Rattle.simulation_kit.proofs.LikeCode.{OwesCallees, like_final}
use Rattle.meaning_new.specs.Store.{State, default}
use Rattle.meaning_new.specs.Host.{host_call}
use Rattle.meaning_new.specs.Forms.{function, imported_funcs, callee_of_type, callee}
use Rattle.meaning_new.specs.Language.{language}
use Rattle.meaning_new.specs.Runs.{trace, depth, bounded_trace, bounded_depth, run_tasks}
use Rattle.meaning_new.proofs.RunLaws.{trace_not_full}
use Rattle.pass_law.specs.Hosts.{HostTypes, host_types}
use Rattle.pass_law.specs.Needs.{Needs}
use Rattle.pass_law.specs.Stages.{has_load}
use Rattle.pass_law.specs.Plain.{plain}
use Rattle.pass_law.specs.Views.{view, UnlessFull, Passes}
use Rattle.pass_law.specs.Law.{Law}
use Rattle.pass_law.proofs.Sights.{NotFull, NoFull, never_full}
use Rattle.pass_law.proofs.Twins.{Twin, Heard, Grew, Caught, outer, inner, IsFit}
use Rattle.pass_law.proofs.Simulated.{Simulates, simulated_law}
use Rattle.stage_kit.specs.Adding.{Adding, added}
use Rattle.stage_kit.specs.Staged.{start_state, CodeStays, Staged, Lowered}
use Rattle.stage_kit.proofs.Hosts.{host_like}
use Rattle.stage_kit.proofs.Scripts.{script_like}

-- a trace beside itself
pub twin : Mark → Twin
twin (Shows e) = Heard e
twin (Grown ok sizes) = Grew ok sizes sizes
twin Captured = Caught

pub outer-twins : (marks : List Mark) → map outer (map twin marks) ≡ marks
unfolding twin
outer-twins [] = refl
outer-twins (Shows e ∷ marks) = ap (λ l. Shows e ∷ l) (outer-twins marks)
outer-twins (Grown ok sizes ∷ marks) = ap (λ l. Grown ok sizes ∷ l) (outer-twins marks)
outer-twins (Captured ∷ marks) = ap (λ l. Captured ∷ l) (outer-twins marks)

pub inner-twins : (marks : List Mark) → map (inner (λ e. e)) (map twin marks) ≡ marks
unfolding twin
inner-twins [] = refl
inner-twins (Shows e ∷ marks) = ap (λ l. Shows e ∷ l) (inner-twins marks)
inner-twins (Grown ok sizes ∷ marks) = ap (λ l. Grown ok sizes ∷ l) (inner-twins marks)
inner-twins (Captured ∷ marks) = ap (λ l. Captured ∷ l) (inner-twins marks)

always : {X : Type 0} (e : Event) → NotFull e → UnlessFull e X → X
always Full n h = absurd n
always e n h = h

pub twins_fit : (test : Event → Bool) (K K' : List ℕ → Bool) → ((sizes : List ℕ) → K sizes ≡ true → K' sizes ≡ true) → (marks : List Mark) → NoFull (view marks) → Passes test (λ e. e) (view marks) → AllByRecursion (IsFit test K K') (map twin marks)
unfolding twin
twins_fit test K K' load [] n h = tt
twins_fit test K K' load (Shows e ∷ marks) n h = (h.0, twins_fit test K K' load marks n.1 (always e n.0 h.1))
twins_fit test K K' load (Grown ok sizes ∷ marks) n h = (load sizes, twins_fit test K K' load marks n h)
twins_fit test K K' load (Captured ∷ marks) n h = (tt, twins_fit test K K' load marks n h)

module _ {m o : Module} (A : Adding m o) {X : Type 0} (step : Step X Instr-F Instr) (seen : A.Place → X) (Fits : Instr → Type 0) (h : Staged A step seen Fits) where
  -- functions that are named
  own_like : (t : FuncType) (body body' : Option Body) → CodeStays A step seen Fits body body' → CalleeLike (added A) (language m) step seen Fits (option_map (λ b. Own (function t b)) body) (option_map (λ b. Own (function t b)) body')
  own_like t None None stays = tt
  own_like t None (Some body') stays = absurd stays
  own_like t (Some body) None stays = absurd stays
  own_like t (Some body) (Some body') stays = record {
    place = stays.place;
    params = refl;
    results = refl;
    zeros = ap (map default) stays.locals;
    sound = stays.sound;
    fits = stays.fits;
    body = stays.code;
  }

  typed_like : (x : ℕ) → A.keeps.Named x → (t : FuncType) → CalleeLike (added A) (language m) step seen Fits (callee_of_type m x t) (callee_of_type o x t)
  typed_like x named t =
      subst (λ n. CalleeLike (added A) (language m) step seen Fits (callee_of_type m x t) (if nat_lt x n then Some (Host (length t.params) (host_call o x)) else option_map (λ b. Own (function t b)) (slice_get o.codes (x - n))))
      (sym h.imported) (either (nat_lt x (imported_funcs m)) refl)
    where
      either : (b : Bool) → nat_lt x (imported_funcs m) ≡ b → CalleeLike (added A) (language m) step seen Fits (if b then Some (Host (length t.params) (host_call m x)) else option_map (λ i. Own (function t i)) (slice_get m.codes (x - imported_funcs m)))
          (if b then Some (Host (length t.params) (host_call o x)) else option_map (λ i. Own (function t i)) (slice_get o.codes (x - imported_funcs m)))
      either true e = (refl, host_like A h.offers x)
      either false e = own_like t (slice_get m.codes (x - imported_funcs m)) (slice_get o.codes (x - imported_funcs m)) (h.code x named e)

  callee_like : (x : ℕ) → A.keeps.Named x → CalleeLike (added A) (language m) step seen Fits (callee m x) (callee o x)
  callee_like x named =
      subst (λ i. CalleeLike (added A) (language m) step seen Fits (callee m x) (option_and_then (callee_of_type o x) i)) (sym (A.func_types x (h.named x named)))
      (by (func_type m x))
    where
      by : (i : Option FuncType) → CalleeLike (added A) (language m) step seen Fits (option_and_then (callee_of_type m x) i) (option_and_then (callee_of_type o x) i)
      by None = tt
      by (Some t) = typed_like x named t

  pub callees : OwesCallees (added A) (language m) (language o) step seen Fits
  callees = callee_like

  -- The theorem: where the input stops within n turns, the output does, with the same state but for the globals behind.
  pub staged_runs : (s : Script) → ScriptFits m s → (n : ℕ) → Final (matching (added A)) n (world_after (func (language m)) (run_tasks m s) (start_state m s) n) (world_after (func (language o)) (run_tasks o s) (start_state o s))
  staged_runs s fit n =
      unless_stuck false (tasks (func (language m)) (run_tasks m s) n (record { state = start_state m s; deepest = 0 })) refl
      (like_final (added A) (language m) (language o) step seen Fits h.layers callees (run_tasks m s) (run_tasks o s) (script_like A h.offers s (h.keeps_tasks s fit)) (start_state m s) (start_state o s) (h.begins s fit, h.safe s fit) n)

  -- what it leaves behind
  staged_trace : (s : Script) (fit : ScriptFits m s) (n : ℕ) → trace o s (staged_runs s fit n).turns ≡ trace m s n
  unfolding trace
  staged_trace s fit n = ap (λ (t : State). t.trace) (staged_runs s fit n).halts.state.is_more

  staged_depth : (s : Script) (fit : ScriptFits m s) (n : ℕ) → depth o s (staged_runs s fit n).turns ≤ A.frames * bounded_depth (λ sizes. true) (λ k. true) m s n + A.more_frames
  unfolding depth bounded_depth
  staged_depth s fit n = (staged_runs s fit n).halts.bound

  free-trace : (s : Script) (n : ℕ) → bounded_trace (λ sizes. true) (λ k. true) m s n ≡ trace m s n
  unfolding bounded_trace trace
  free-trace s n = refl

  enough : (exact : Bool) (n j : ℕ) → Spends exact n j → n ≤ j
  enough true n j e = omega arith
  enough false n j e = e

  spent : (exact : Bool) (n j : ℕ) → exact ≡ true → Spends exact n j → j ≡ n
  spent true n j e spends = spends
  spent false n j e spends = let no : ⊥ = cc in absurd no

  module _ (takes : Needs → Bool) (leaves : Needs → Needs) (test : HostTypes → Script → Event → Bool) (low : Lowered A leaves test) where
    simulates : (s : Script) → ScriptFits m s → (n : ℕ) → Simulates (plain takes leaves test A.frames A.more_frames) (host_types m) m o (λ sizes. true) s n
    simulates s fit n =
        let run = staged_runs s fit n in
        record {
          turns = run.turns;
          enough = enough A.exact n run.turns run.spends;
          twins = map twin (trace m s n);
          input = free-trace s n ∙ sym (inner-twins (trace m s n));
          output = staged_trace s fit n ∙ sym (outer-twins (trace m s n));
          fit = twins_fit (test (host_types m) s) (has_load m) (has_load o) low.load (trace m s n) (never_full (trace m s n) (trace_not_full m s n))
              (subst (λ l. Passes (test (host_types m) s) (λ e. e) (view l)) (staged_trace s fit n) (low.passes s fit run.turns));
          frames = staged_depth s fit n;
          direct = λ d. spent A.exact n run.turns (low.turns d) run.spends;
        }

    -- The law of the stage.
    pub staged_law : (captures : ℕ) → Law (plain takes leaves test A.frames A.more_frames) m o captures
    staged_law captures =
        simulated_law (plain takes leaves test A.frames A.more_frames) m o captures (record {
          left = low.left;
          host = low.host;
          stage = low.stage;
          direct = low.direct;
          fits = low.fits;
          keeps = refl;
          permits = λ sizes. true;
          wide = λ sizes e. refl;
          by = simulates;
        })
