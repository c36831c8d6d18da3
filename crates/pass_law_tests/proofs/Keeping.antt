-- A copy of a module keeps the law, whatever the plan says beside it.
use Rattle.std.proofs.Common.{◌≡◌, ℕ, ◌+◌, ◌*◌, ◌≤◌, true, List, [], ◌∷◌, refl, arith}
use Rattle.host_kit.specs.Trace.{Mark, Shows, Grown, Captured}
use Rattle.host_kit.specs.declared.event.Event.{Event}
use Rattle.host_kit.specs.declared.event.Event.TheVariants.{Full}
use Rattle.wasm_ast.specs.declared.module.parts.Module.{Module}
use Rattle.meaning_new.specs.Runs.{trace, depth}
use Rattle.pass_law.specs.Needs.{Needs, NoMore, needs_of}
use Rattle.pass_law.specs.Stages.{Stage}
use Rattle.pass_law.specs.Plain.{plain}
use Rattle.pass_law.specs.Law.{Law}
use Rattle.pass_law.specs.Views.{view, UnlessFull, Passes}
use Rattle.pass_law.proofs.Plain.{KeepsRuns, plain_law}
use Rattle.pass_law_tests.specs.Stages.{takes_all, any_event}

unless : (X : Type 0) (e : Event) → X → UnlessFull e X
unless X Full h = tt
unless X e h = h

all_pass : (marks : List Mark) → Passes (λ e. true) (λ e. e) (view marks)
all_pass [] = tt
all_pass (Shows e ∷ marks) = (refl, unless (Passes (λ x. true) (λ x. x) (view marks)) e (all_pass marks))
all_pass (Grown ok sizes ∷ marks) = all_pass marks
all_pass (Captured ∷ marks) = all_pass marks

keeps : (leaves : Needs → Needs) (frames more_frames : ℕ) → ((d : ℕ) → d ≤ frames * d + more_frames) → (m : Module) → NoMore (needs_of m) (leaves (needs_of m)) → Stage m → KeepsRuns leaves any_event frames more_frames m m
keeps leaves frames more_frames deep m left stage = record {
  left = left;
  host = refl;
  stage = stage;
  load = λ sizes h. h;
  fits = λ s fit. fit;
  passes = λ s fit n. all_pass (trace m s n);
  traces = λ s fit n. refl;
  depths = λ s fit n. deep (depth m s n);
  direct = λ d. d;
}

pub copied : (leaves : Needs → Needs) (frames more_frames : ℕ) → ((d : ℕ) → d ≤ frames * d + more_frames) → (m : Module) (captures : ℕ) → NoMore (needs_of m) (leaves (needs_of m)) → Stage m → Law (plain takes_all leaves any_event frames more_frames) m m captures
copied leaves frames more_frames deep m captures left stage =
    plain_law takes_all leaves any_event frames more_frames m m captures (keeps leaves frames more_frames deep m left stage)

-- so many calls are open
pub once : (d : ℕ) → d ≤ 1 * d + 0
once d = omega arith

pub more : (d : ℕ) → d ≤ 2 * d + 3
more d = omega arith
