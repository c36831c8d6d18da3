-- The plan of a stage whose maps change nothing.
use Rattle.std.specs.Prelude.{◌≡◌, ℕ, Bool, true, false, List, refl}
use Rattle.host_kit.specs.Scripts.{regrow}
use Rattle.host_kit.specs.declared.event.Event.{Event}
use Rattle.host_kit.specs.declared.event.Event.TheVariants.{Failed, Full}
use Rattle.host_kit.specs.declared.script.Script.{Script}
use Rattle.pass_law.specs.Hosts.{HostTypes}
use Rattle.pass_law.specs.Needs.{Needs, NoMore}
use Rattle.pass_law.specs.Plans.{Plan, Lawful}

-- what it takes and leaves, its test of events and its frame numbers
abbrev pub plain : (Needs → Bool) → (Needs → Needs) → (HostTypes → Script → Event → Bool) → ℕ → ℕ → Plan
plain takes leaves test frames more_frames = record {
  takes = takes;
  leaves = leaves;
  types = λ h. h;
  script = λ h s. s;
  test = test;
  event = λ h s e. e;
  frames = frames;
  more_frames = more_frames;
  removes_captures = false;
}

-- what such a plan owes
pub record PlainLawful (takes : Needs → Bool) (leaves : Needs → Needs) (test : HostTypes → Script → Event → Bool) : Type 0 where
  pub takes_less : (less more : Needs) → NoMore less more → takes more ≡ true → takes less ≡ true
  pub leaves_less : (less more : Needs) → NoMore less more → NoMore (leaves less) (leaves more)
  pub test_regrows : (h : HostTypes) (s : Script) (grows : List Bool) (e : Event) → test h (regrow grows s) e ≡ test h s e
  pub full_passes : (h : HostTypes) (s : Script) → test h s Full ≡ true
  pub failed_passes : (h : HostTypes) (s : Script) → test h s Failed ≡ true

pub plain_lawful : (takes : Needs → Bool) (leaves : Needs → Needs) (test : HostTypes → Script → Event → Bool) (frames more_frames : ℕ) → PlainLawful takes leaves test → Lawful (plain takes leaves test frames more_frames)
plain_lawful takes leaves test frames more_frames h = record {
  takes_less = h.takes_less;
  leaves_less = h.leaves_less;
  script_regrows = λ t s grows. refl;
  test_regrows = h.test_regrows;
  event_regrows = λ t s grows e. refl;
  full = λ t s. refl;
  failed = λ t s. refl;
  full_passes = h.full_passes;
  failed_passes = h.failed_passes;
}
