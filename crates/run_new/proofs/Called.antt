-- A call of a function of the host's, by the operands in use.
use Rattle.std.proofs.Common.{◌≡◌, ℕ, List, [], ◌++◌, append-nil, map, reverse, Option, Some, None, option_map, ap, sym, ◌∙◌, Bor}
use Rattle.host_kit.specs.declared.value.Value.{Value}
use Rattle.outcome_kit.specs.Code.{Go, Leave}
use Rattle.evaluation_kit.specs.declared.jump.Jump.TheVariants.{NoReply}
use Rattle.evaluation_kit.specs.Configurations.{PlainRes}
use Rattle.machine_kit.specs.Stacks.{Stack}
use Rattle.meaning_new.specs.declared.val.Val.{Val}
use Rattle.meaning_new.specs.Store.{from_host}
use Rattle.run_kit.specs.Narrowing.{part_plain_res}
use Rattle.run_new.specs.States.{Kept, whole, unbounded}
use Rattle.run_new.specs.Answers.{answered}

module _ (act : List Val → PlainRes Val Kept) (given used : List Val) (x : ℕ) (values : Option (Bor (List Value))) (s : Kept) (h : act given ≡ part_plain_res unbounded (answered x (option_map (λ v. v.now) values) (whole s))) (same : given ≡ used) where
  answers : (o : Option (Bor (List Value))) → values ≡ o → act used ≡ part_plain_res unbounded (answered x (option_map (λ v. v.now) o) (whole s))
  answers o e = ap act (sym same) ∙ (h ∙ ap (λ (v : Option (Bor (List Value))). part_plain_res unbounded (answered x (option_map (λ w. w.now) v) (whole s))) e)

  -- without a reply the operands in use are gone
  pub no_reply : values ≡ None → (old new : Stack Val) → new ≡ record old { used = [] } → (act used ≡ Leave (NoReply x) (record { operands = new.used; locals = []; state = s })) × (new.aside ≡ old.aside)
  no_reply e old new cleared =
      (answers None e ∙ ap (λ (o : Stack Val). Leave (NoReply x) (record { operands = o.used; locals = []; state = s })) (sym cleared), ap (λ (o : Stack Val). o.aside) cleared)

  -- with a reply its values are in their place
  pub with_reply : (these : Bor (List Value)) → values ≡ Some these → (old clear new : Stack Val) → clear ≡ record old { used = [] } → new ≡ record clear { used = reverse (map from_host these.now) ++ clear.used }
      → (act used ≡ Go (record { operands = new.used; locals = []; state = s })) × (new.aside ≡ old.aside)
  with_reply these e old clear new cleared pushed =
      let all : new ≡ record { used = reverse (map from_host these.now); aside = old.aside } = pushed ∙ rw (cleared, append-nil) in
      (answers (Some these) e ∙ ap (λ (o : Stack Val). Go (record { operands = o.used; locals = []; state = s })) (sym all), ap (λ (o : Stack Val). o.aside) all)
