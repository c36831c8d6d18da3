-- Two small stages: one that leaves a module as it is, and one that says less of what it does.
use Rattle.std.specs.Prelude.{Bool, true, refl}
use Rattle.host_kit.specs.declared.event.Event.{Event}
use Rattle.host_kit.specs.declared.script.Script.{Script}
use Rattle.pass_law.specs.Hosts.{HostTypes}
use Rattle.pass_law.specs.Needs.{Needs}
use Rattle.pass_law.specs.Plain.{plain, plain_lawful}
use Rattle.pass_law.specs.Plans.{Plan, Lawful}

abbrev pub takes_all : Needs → Bool
takes_all n = true

abbrev pub any_event : HostTypes → Script → Event → Bool
any_event h s e = true

-- all that a module may need
abbrev pub everything : Needs → Needs
everything n = record { has = λ f. true; region = true; computed_exports = true }

abbrev pub same_plan : Plan
same_plan = plain takes_all (λ n. n) any_event 1 0

abbrev pub loose_plan : Plan
loose_plan = plain takes_all everything any_event 2 3

pub same_lawful : Lawful same_plan
same_lawful = plain_lawful takes_all (λ n. n) any_event 1 0 (record {
  takes_less = λ less more h t. refl;
  leaves_less = λ less more h. h;
  test_regrows = λ h s grows e. refl;
  full_passes = λ h s. refl;
  failed_passes = λ h s. refl;
})

pub loose_lawful : Lawful loose_plan
loose_lawful = plain_lawful takes_all everything any_event 2 3 (record {
  takes_less = λ less more h t. refl;
  leaves_less = λ less more h. record { has = λ f e. e; region = λ e. e; computed_exports = λ e. e };
  test_regrows = λ h s grows e. refl;
  full_passes = λ h s. refl;
  failed_passes = λ h s. refl;
})
