-- The plan of two stages in a row is as every plan is.
use Rattle.std.specs.Prelude.{◌≡◌, ◌&&◌, Bool, true, false, List, refl}
use Rattle.std.proofs.Common.{ap, ◌∙◌}
use Rattle.host_kit.specs.Scripts.{regrow}
use Rattle.host_kit.specs.declared.event.Event.{Event}
use Rattle.host_kit.specs.declared.event.Event.TheVariants.{Failed, Full}
use Rattle.host_kit.specs.declared.script.Script.{Script}
use Rattle.pass_law.specs.Hosts.{HostTypes}
use Rattle.pass_law.specs.Needs.{Needs, NoMore}
use Rattle.pass_law.specs.Plans.{Plan, Lawful, then}

pub and_left : (a b : Bool) → (a && b) ≡ true → a ≡ true
and_left true b h = refl
and_left false b h = h

pub and_right : (a b : Bool) → (a && b) ≡ true → b ≡ true
and_right true b h = h
and_right false b h = absurd cc

pub both : (a b : Bool) → a ≡ true → b ≡ true → (a && b) ≡ true
both true b h h' = h'
both false b h h' = h

module _ (P Q : Plan) (p : Lawful P) (q : Lawful Q) where
  takes_less : (less more : Needs) → NoMore less more → (then P Q).takes more ≡ true → (then P Q).takes less ≡ true
  takes_less less more h t =
      both (P.takes less) (Q.takes (P.leaves less)) (p.takes_less less more h (and_left (P.takes more) (Q.takes (P.leaves more)) t))
      (q.takes_less (P.leaves less) (P.leaves more) (p.leaves_less less more h) (and_right (P.takes more) (Q.takes (P.leaves more)) t))

  script_regrows : (h : HostTypes) (s : Script) (grows : List Bool) → (then P Q).script h (regrow grows s) ≡ regrow grows ((then P Q).script h s)
  script_regrows h s grows = ap (Q.script (P.types h)) (p.script_regrows h s grows) ∙ q.script_regrows (P.types h) (P.script h s) grows

  outer_event : (h : HostTypes) (s : Script) (grows : List Bool) (e : Event) → Q.event (P.types h) (P.script h (regrow grows s)) e ≡ Q.event (P.types h) (P.script h s) e
  outer_event h s grows e = ap (λ t. Q.event (P.types h) t e) (p.script_regrows h s grows) ∙ q.event_regrows (P.types h) (P.script h s) grows e

  outer_test : (h : HostTypes) (s : Script) (grows : List Bool) (e : Event) → Q.test (P.types h) (P.script h (regrow grows s)) e ≡ Q.test (P.types h) (P.script h s) e
  outer_test h s grows e = ap (λ t. Q.test (P.types h) t e) (p.script_regrows h s grows) ∙ q.test_regrows (P.types h) (P.script h s) grows e

  event_regrows : (h : HostTypes) (s : Script) (grows : List Bool) (e : Event) → (then P Q).event h (regrow grows s) e ≡ (then P Q).event h s e
  event_regrows h s grows e = ap (P.event h (regrow grows s)) (outer_event h s grows e) ∙ p.event_regrows h s grows (Q.event (P.types h) (P.script h s) e)

  test_regrows : (h : HostTypes) (s : Script) (grows : List Bool) (e : Event) → (then P Q).test h (regrow grows s) e ≡ (then P Q).test h s e
  test_regrows h s grows e =
      ap (λ b. b && P.test h (regrow grows s) (Q.event (P.types h) (P.script h (regrow grows s)) e)) (outer_test h s grows e)
      ∙ ap (λ x. Q.test (P.types h) (P.script h s) e && P.test h (regrow grows s) x) (outer_event h s grows e)
      ∙ ap (λ b. Q.test (P.types h) (P.script h s) e && b) (p.test_regrows h s grows (Q.event (P.types h) (P.script h s) e))

  pub then_lawful : Lawful (then P Q)
  then_lawful = record {
    takes_less = takes_less;
    leaves_less = λ less more h. q.leaves_less (P.leaves less) (P.leaves more) (p.leaves_less less more h);
    script_regrows = script_regrows;
    test_regrows = test_regrows;
    event_regrows = event_regrows;
    full = λ h s. ap (P.event h s) (q.full (P.types h) (P.script h s)) ∙ p.full h s;
    failed = λ h s. ap (P.event h s) (q.failed (P.types h) (P.script h s)) ∙ p.failed h s;
    full_passes = λ h s.
        both (Q.test (P.types h) (P.script h s) Full) (P.test h s (Q.event (P.types h) (P.script h s) Full)) (q.full_passes (P.types h) (P.script h s))
        (ap (P.test h s) (q.full (P.types h) (P.script h s)) ∙ p.full_passes h s);
    failed_passes = λ h s.
        both (Q.test (P.types h) (P.script h s) Failed) (P.test h s (Q.event (P.types h) (P.script h s) Failed)) (q.failed_passes (P.types h) (P.script h s))
        (ap (P.test h s) (q.failed (P.types h) (P.script h s)) ∙ p.failed_passes h s);
  }
