-- What a stage of lowering says of itself, whatever module it is given.
use Rattle.std.specs.Prelude.{◌≡◌, ℕ, ◌+◌, ◌*◌, ◌&&◌, ◌||◌, Bool, true, List}
use Rattle.host_kit.specs.Scripts.{regrow}
use Rattle.host_kit.specs.declared.event.Event.{Event}
use Rattle.host_kit.specs.declared.event.Event.TheVariants.{Failed, Full}
use Rattle.host_kit.specs.declared.script.Script.{Script}
use Rattle.pass_law.specs.Hosts.{HostTypes}
use Rattle.pass_law.specs.Needs.{Needs, NoMore}

pub record Plan : Type 0 where
  -- which modules it takes, and what is left of what they need
  pub takes : Needs → Bool
  pub leaves : Needs → Needs
  -- what the output's host sees, by what the input's host sees
  pub types : HostTypes → HostTypes
  -- the script for the output; which events the output may show; and which event of the input each stands for
  pub script : HostTypes → Script → Script
  pub test : HostTypes → Script → Event → Bool
  pub event : HostTypes → Script → Event → Event
  -- where d calls are open in the input, at most frames * d + more_frames are in the output
  pub frames : ℕ
  pub more_frames : ℕ
  -- whether the output makes no captures where the input does
  pub removes_captures : Bool

-- What holds of every plan. Growths are answered by the script, and nothing else asks for its answers.
pub record Lawful (P : Plan) : Type 0 where
  pub takes_less : (less more : Needs) → NoMore less more → P.takes more ≡ true → P.takes less ≡ true
  pub leaves_less : (less more : Needs) → NoMore less more → NoMore (P.leaves less) (P.leaves more)
  pub script_regrows : (h : HostTypes) (s : Script) (grows : List Bool) → P.script h (regrow grows s) ≡ regrow grows (P.script h s)
  pub test_regrows : (h : HostTypes) (s : Script) (grows : List Bool) (e : Event) → P.test h (regrow grows s) e ≡ P.test h s e
  pub event_regrows : (h : HostTypes) (s : Script) (grows : List Bool) (e : Event) → P.event h (regrow grows s) e ≡ P.event h s e
  -- a full store of captured exceptions, and an instantiation that failed, stay what they are
  pub full : (h : HostTypes) (s : Script) → P.event h s Full ≡ Full
  pub failed : (h : HostTypes) (s : Script) → P.event h s Failed ≡ Failed
  pub full_passes : (h : HostTypes) (s : Script) → P.test h s Full ≡ true
  pub failed_passes : (h : HostTypes) (s : Script) → P.test h s Failed ≡ true

-- One stage after another: the maps of the second are taken at what the first makes of host types and script.
abbrev pub then : Plan → Plan → Plan
then P Q = record {
  takes = λ n. P.takes n && Q.takes (P.leaves n);
  leaves = λ n. Q.leaves (P.leaves n);
  types = λ h. Q.types (P.types h);
  script = λ h s. Q.script (P.types h) (P.script h s);
  test = λ h s e. Q.test (P.types h) (P.script h s) e && P.test h s (Q.event (P.types h) (P.script h s) e);
  event = λ h s e. P.event h s (Q.event (P.types h) (P.script h s) e);
  frames = Q.frames * P.frames;
  more_frames = Q.frames * P.more_frames + Q.more_frames;
  removes_captures = P.removes_captures || Q.removes_captures;
}
