-- The law of the stage that leaves no constant expression that computes.
use Rattle.std.proofs.Common.{◌≡◌, ℕ, ◌+◌, ◌*◌, ◌≤◌, true, List, [], ◌∷◌, map, refl, sym, ◌∙◌, arith}
use Rattle.host_kit.specs.Fits.{ScriptFits}
use Rattle.host_kit.specs.declared.script.Script.{Script}
use Rattle.wasm_ast.specs.declared.module.code.Instr.{Instr}
use Rattle.wasm_ast.specs.declared.module.parts.Module.{Module}
use Rattle.meaning_new.specs.Runs.{trace, depth, bounded_trace, bounded_depth}
use Rattle.meaning_new.proofs.RunLaws.{trace_not_full}
use Rattle.pass_law.specs.Hosts.{host_types}
use Rattle.pass_law.specs.Law.{Law}
use Rattle.pass_law.specs.Stages.{has_load}
use Rattle.pass_law.proofs.Plain.{plain_law}
use Rattle.pass_law.proofs.Sights.{never_full}
use Rattle.pass_law.proofs.Simulated.{Simulates, simulated_law}
use Rattle.stage_kit.specs.Prepared.{ShowsLater}
use Rattle.stage_kit.proofs.Staged.{twin, outer-twins, inner-twins, twins_fit}
use Rattle.pass_plain.specs.Constants.{HasConstants, NamesThere}
use Rattle.pass_plain.specs.ConstantPlan.{takes_constants, leaves_no_constants, constant_plan, ConstantLowered}
use Rattle.pass_plain.specs.Folding.{setting_code, started, without_constants}
use Rattle.pass_plain.specs.Plans.{any_event}
use Rattle.pass_plain.proofs.ConstantRuns.{started_shows, folded_trace, folded_depth}
use Rattle.pass_plain.proofs.Stages.{all_pass}

module _ (m : Module) (globals : ℕ) (h : HasConstants m) (there : NamesThere m globals) (captures : ℕ) where
  as_deep : (a b : ℕ) → a ≡ b → a ≤ 1 * b + 1
  as_deep a b e = omega (arith, e)

  -- where all expressions fold
  folded_law : setting_code m ≡ [] → ConstantLowered m (started m []) → Law constant_plan m (started m []) captures
  folded_law none low =
      plain_law takes_constants leaves_no_constants any_event 1 1 m (started m []) captures (record {
        left = low.left;
        host = low.host;
        stage = low.stage;
        load = low.load;
        fits = low.fits;
        passes = λ s fit n. all_pass (trace (started m []) s n);
        traces = λ s fit n. folded_trace m h none s fit n;
        depths = λ s fit n. as_deep (depth (started m []) s n) (depth m s n) (folded_depth m h none s fit n);
        direct = low.direct;
      })

  -- where code sets a global
  module _ (i : Instr) (code : List Instr) (is : setting_code m ≡ i ∷ code) (low : ConstantLowered m (started m (i ∷ code))) where
    abbrev o : Module
    o = started m (i ∷ code)

    free_trace : (s : Script) (n : ℕ) → bounded_trace (λ sizes. true) (λ k. true) m s n ≡ trace m s n
    unfolding bounded_trace trace
    free_trace s n = refl

    free_depth : (s : Script) (n : ℕ) → depth m s n ≡ bounded_depth (λ sizes. true) (λ k. true) m s n
    unfolding bounded_depth depth
    free_depth s n = refl

    no_deeper : (a b c : ℕ) → a ≤ b + 1 → b ≡ c → a ≤ 1 * c + 1
    no_deeper a b c le e = omega arith

    simulates : (s : Script) → ScriptFits m s → (n : ℕ) → Simulates constant_plan (host_types m) m o (λ sizes. true) s n
    simulates s fit n =
        let run : ShowsLater m o s n = started_shows m globals h there i code is s fit n in
        record {
          turns = run.turns;
          enough = run.enough;
          twins = map twin (trace m s n);
          input = free_trace s n ∙ sym (inner-twins (trace m s n));
          output = run.shows ∙ sym (outer-twins (trace m s n));
          fit = twins_fit (λ e. true) (has_load m) (has_load o) low.load (trace m s n) (never_full (trace m s n) (trace_not_full m s n)) (all_pass (trace m s n));
          frames = no_deeper (depth o s run.turns) (depth m s n) (bounded_depth (λ sizes. true) (λ k. true) m s n) run.deep (free_depth s n);
          direct = λ d. let e = low.folds_directly d in let no : ⊥ = cc in absurd no;
        }

    started_law : Law constant_plan m o captures
    started_law =
        simulated_law constant_plan m o captures (record {
          left = low.left;
          host = low.host;
          stage = low.stage;
          direct = low.direct;
          fits = low.fits;
          keeps = refl;
          permits = λ sizes. true;
          wide = λ sizes e. refl;
          by = simulates;
        })

  by_code : (code : List Instr) → setting_code m ≡ code → ConstantLowered m (started m code) → Law constant_plan m (started m code) captures
  by_code [] e low = folded_law e low
  by_code (i ∷ code) e low = started_law i code e low

  -- The law.
  pub constant_law : ConstantLowered m (without_constants m) → Law constant_plan m (without_constants m) captures
  constant_law low = by_code (setting_code m) refl low
