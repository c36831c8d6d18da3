-- The law of a stage that maps no script and no event, but what a host is shown beside runs: it is that of a stage whose
-- maps change nothing, since no run asks for the host.
use mathlib.Core.Path.{fun_ext}
use Rattle.std.proofs.Common.{◌≡◌, ℕ, ◌+◌, ◌*◌, ◌≤◌, Bool, false, List, sym, ◌∙◌, subst}
use Rattle.host_kit.specs.Scripts.{regrow}
use Rattle.host_kit.specs.Trace.{Begins}
use Rattle.host_kit.specs.declared.script.Script.{Script}
use Rattle.wasm_ast.specs.declared.module.parts.Module.{Module}
use Rattle.meaning_new.specs.Runs.{trace, depth}
use Rattle.pass_law.specs.Hosts.{HostTypes, host_types}
use Rattle.pass_law.specs.Law.{Explained, InStep, Reaches, Law}
use Rattle.pass_law.specs.Needs.{Needs, NoMore, needs_of}
use Rattle.pass_law.specs.Plain.{plain}
use Rattle.pass_law.specs.Plans.{Plan}
use Rattle.pass_law.specs.Stages.{Stage, has_load}
use Rattle.pass_law.specs.Views.{view, answers_of, apply, safe}
use Rattle.pass_plain.specs.Plans.{takes_all, any_event}
use Rattle.pass_plain.proofs.Stages.{Kept, all_pass}

-- another output with the same runs has the law with other maps of what a host is shown
module _ (leaves : Needs → Needs) (types : HostTypes → HostTypes) (m o o' : Module) (captures : ℕ) (law : Law (plain takes_all leaves any_event 1 0) m o' captures) (kept : Kept m o) (kept' : Kept m o') where
  abbrev mapped : Plan
  mapped = record (plain takes_all leaves any_event 1 0) { types = types }

  same_trace : (s : Script) (n : ℕ) → trace o' s n ≡ trace o s n
  same_trace s n = kept'.traces s n ∙ sym (kept.traces s n)

  same_load : has_load o' ≡ has_load o
  same_load = fun_ext (λ sizes. kept'.load sizes ∙ sym (kept.load sizes))

  reaches : (s : Script) (n turns : ℕ) → Reaches (plain takes_all leaves any_event 1 0) (host_types m) m o' captures s n turns → Reaches mapped (host_types m) m o captures s n turns
  reaches s n turns h =
      subst (λ (l : List ℕ → Bool). Begins (safe (has_load m) captures (trace m s n)) (apply (λ e. e) (safe l captures (trace o s turns)))) same_load
      (subst (λ marks. Begins (safe (has_load m) captures (trace m s n)) (apply (λ e. e) (safe (has_load o') captures marks))) (same_trace s turns) h)

  explained : (s : Script) (n : ℕ) → Explained (plain takes_all leaves any_event 1 0) (host_types m) m o' captures s n → Explained mapped (host_types m) m o captures s n
  explained s n e = record {
    turns = e.turns;
    fewer = e.fewer;
    grows = e.grows;
    begins = subst (λ marks. Begins (answers_of (apply (λ x. x) (view marks))) e.grows) (same_trace s n) e.begins;
    same = subst (λ marks. InStep false captures (apply (λ x. x) (view marks)) (view (trace m (regrow e.grows s) e.turns))) (same_trace s n) e.same;
    frames = λ few. subst (λ d. d ≤ 1 * depth m (regrow e.grows s) e.turns + 0) (kept'.depths s n ∙ sym (kept.depths s n)) (e.frames few);
  }

  pub mapped_law : NoMore (needs_of o) (leaves (needs_of m)) → host_types o ≡ types (host_types m) → Stage m → Law mapped m o captures
  mapped_law left host stage = record {
    left = left;
    host = host;
    stage = kept.stage stage;
    fits = kept.fits;
    passes = λ s fit n. all_pass (trace o s n);
    explained = λ s fit n. explained s n (law.explained s fit n);
    reached = λ s fit n. (let r = law.reached s fit n in record { turns = r.turns; reaches = reaches s n r.turns r.reaches });
    direct = kept.direct;
    reached_directly = λ d s fit n. reaches s n n (law.reached_directly d s fit n);
  }
