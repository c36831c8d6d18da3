-- The plans of the stages of this crate. They take every module, they map no script and no event, and as many calls are
-- open as before.
use Rattle.std.specs.Prelude.{Bool, true, false, not, ◌&&◌, Option, Some, refl}
use Rattle.std.specs.List.{filter}
use Rattle.host_kit.specs.declared.event.Event.{Event}
use Rattle.host_kit.specs.declared.script.Script.{Script}
use Rattle.wasm_ast.specs.declared.features.kind.Feature.{Feature}
use Rattle.wasm_ast.specs.declared.features.kind.Feature.TheVariants as features
use Rattle.meaning_new.specs.Interface.{ExternType, tag}
use Rattle.pass_law.specs.Hosts.{HostTypes}
use Rattle.pass_law.specs.Needs.{Needs}
use Rattle.pass_law.specs.Plain.{plain, plain_lawful}
use Rattle.pass_law.specs.Plans.{Plan, Lawful}
use Rattle.pass_law.specs.ThenLawful.{and_left, and_right, both}

abbrev pub takes_all : Needs → Bool
takes_all n = true

-- a stage that maps no event asks nothing of one
abbrev pub any_event : HostTypes → Script → Event → Bool
any_event h s e = true

-- sign extension goes, and all else that a module needs is left
abbrev pub is_sign : Feature → Bool
is_sign features.Sign = true
is_sign _ = false

abbrev pub without_sign : Needs → Needs
without_sign n = record { has = λ f. n.has f && not (is_sign f); region = n.region; computed_exports = n.computed_exports }

abbrev pub sign_plan : Plan
sign_plan = plain takes_all without_sign any_event 1 0

pub sign_lawful : Lawful sign_plan
sign_lawful = plain_lawful takes_all without_sign any_event 1 0 (record {
  takes_less = λ less more h t. refl;
  leaves_less = λ less more h. record {
    has = λ f e. both (more.has f) (not (is_sign f)) (h.has f (and_left (less.has f) (not (is_sign f)) e)) (and_right (less.has f) (not (is_sign f)) e);
    region = h.region;
    computed_exports = h.computed_exports;
  };
  test_regrows = λ h s grows e. refl;
  full_passes = λ h s. refl;
  failed_passes = λ h s. refl;
})

-- the host sees no tag among the exports any more
abbrev pub is_tag_type : Option ExternType → Bool
is_tag_type (Some (tag type)) = true
is_tag_type _ = false

abbrev pub without_tags : HostTypes → HostTypes
without_tags h = record h { interface = record h.interface { exports = filter (λ e. not (is_tag_type e.type)) h.interface.exports } }

-- nothing that is told of what a module needs goes with nops, exported tags and the count of data segments
abbrev pub trim_plan : Plan
trim_plan = record (plain takes_all (λ n. n) any_event 1 0) { types = without_tags }

pub trim_lawful : Lawful trim_plan
trim_lawful = record {
  takes_less = λ less more h t. refl;
  leaves_less = λ less more h. h;
  script_regrows = λ h s grows. refl;
  test_regrows = λ h s grows e. refl;
  event_regrows = λ h s grows e. refl;
  full = λ h s. refl;
  failed = λ h s. refl;
  full_passes = λ h s. refl;
  failed_passes = λ h s. refl;
}
