-- A call of a function of the host's, by the operands in use.
use Rattle.std.proofs.Common.{◌≡◌, ℕ, List, [], ◌++◌, append-nil, map, reverse, Option, Some, None, option_map, ap, sym, ◌∙◌, Bor}
use Rattle.host_kit.specs.declared.value.Value.{Value}
use Rattle.outcome_kit.specs.Code.{Go, Leave}
use Rattle.evaluation_kit.specs.declared.jump.Jump.TheVariants.{NoReply}
use Rattle.evaluation_kit.specs.Configurations.{PlainRes}
use Rattle.machine_kit.specs.Stacks.{Stack}
use Rattle.meaning_core1.specs.declared.val1.Val1.{Val1}
use Rattle.meaning_core1.specs.Store.{State1, value_from}
use Rattle.run_core1.specs.Answers.{answered}

module _ (act : List Val1 → PlainRes Val1 State1) (given used : List Val1) (x : ℕ) (values : Option (Bor (List Value))) (s : State1) (h : act given ≡ answered x (option_map (λ v. v.now) values) s) (same : given ≡ used) where
  answers : (o : Option (Bor (List Value))) → values ≡ o → act used ≡ answered x (option_map (λ v. v.now) o) s
  answers o e = ap act (sym same) ∙ (h ∙ ap (λ (v : Option (Bor (List Value))). answered x (option_map (λ w. w.now) v) s) e)

  -- without a reply the operands in use are gone
  pub no_reply : values ≡ None → (old new : Stack Val1) → new ≡ record old { used = [] } → (act used ≡ Leave (NoReply x) (record { operands = new.used; locals = []; state = s })) × (new.aside ≡ old.aside)
  no_reply e old new cleared =
      (answers None e ∙ ap (λ (o : Stack Val1). Leave (NoReply x) (record { operands = o.used; locals = []; state = s })) (sym cleared), ap (λ (o : Stack Val1). o.aside) cleared)

  -- with a reply its values are in their place
  pub with_reply : (these : Bor (List Value)) → values ≡ Some these → (old clear new : Stack Val1) → clear ≡ record old { used = [] } → new ≡ record clear { used = reverse (map value_from these.now) ++ clear.used }
      → (act used ≡ Go (record { operands = new.used; locals = []; state = s })) × (new.aside ≡ old.aside)
  with_reply these e old clear new cleared pushed =
      let all : new ≡ record { used = reverse (map value_from these.now); aside = old.aside } = pushed ∙ rw (cleared, append-nil) in
      (answers (Some these) e ∙ ap (λ (o : Stack Val1). Go (record { operands = o.used; locals = []; state = s })) (sym all), ap (λ (o : Stack Val1). o.aside) all)
