-- From one forward simulation both directions of the law of a pass, as to what is told of a run and how many calls were open.
use Rattle.std.proofs.Common.{◌≡◌, ℕ, ◌≤◌, Bool, true, false, List, ◌⊎◌, inl, inr, sym, subst, arith, le_refl, le_trans}
use Rattle.std.specs.List.{AllByRecursion}
use Rattle.outcome_kit.specs.Outcome.{Out, Done, Halt, place_of}
use Rattle.evaluation_kit.specs.declared.jump.Jump.TheVariants.{Stuck}
use Rattle.outcome_kit.specs.Code.{Go, Leave, stands}
use Rattle.outcome_kit.proofs.Growing.{Order, Extends}
use Rattle.evaluation_kit.specs.Configurations.{World}
use Rattle.evaluation_kit.specs.Languages.{Language, func}
use Rattle.evaluation_kit.specs.Tasks.{Status, Task, tasks, world_after}
use Rattle.evaluation_kit.proofs.Whole.{Owes}
use Rattle.evaluation_kit.proofs.Tasks.{OwesTask, status_at, tasks_related}
use Rattle.evaluation_kit.proofs.Growing.{Leads, leads_same, worlds, GrowsAt, growing}
use Rattle.simulation_kit.specs.Runs.{Spends}
use Rattle.simulation_kit.specs.Matches.{Match, Halts}
use Rattle.simulation_kit.specs.Hosting.{Final, Reached, Led, IsStuckRun}

enough : (exact : Bool) (n j : ℕ) → Spends exact n j → n ≤ j
enough true n j e = omega arith
enough false n j e = e

module _ {I : Type 0} {F : Type 0 → Type 0} {V S : Type 0} (L : Language I F V S) (order : Order S) (owes : Owes L (growing order)) (ts : List (Task V S)) (each : AllByRecursion (OwesTask (growing order)) ts) (s : S) where
  abbrev begins : World S
  begins = record { state = s; deepest = 0 }

  grows : (N : ℕ) → GrowsAt order status_at N begins (λ n. tasks (func L) ts n begins)
  unfolding growing
  grows N = tasks_related (growing order) L owes begins N ts each begins

  places_lead : (o longer : Out (World S) (Status (World S))) → Extends (worlds order) status_at o longer → Leads order (place_of stands o) (place_of stands longer)
  places_lead (Done u r) longer e = subst (λ y. Leads order (stands r) (place_of stands y)) (sym e) (leads_same order (stands r))
  places_lead (Halt h) longer e = e

  -- the world after tasks leads on with the turns
  pub worlds_lead : (n k : ℕ) → n ≤ k → Leads order (world_after (func L) ts s n) (world_after (func L) ts s k)
  worlds_lead n k le = places_lead (tasks (func L) ts n begins) (tasks (func L) ts k begins) ((grows k).extends n k le (le_refl k))

module _ {V S V' S' : Type 0} (W : Match V S V' S') where
  pub reached : (n : ℕ) (w : World S) (after' : ℕ → World S') → Final W n w after' → Reached W n w after'
  reached n w after' f = record { turns = f.turns; enough = enough W.exact n f.turns f.spends; state = f.halts.state }

  pub led : (order : Order S') (n : ℕ) (w : World S) (after' : ℕ → World S') → ((k : ℕ) → n ≤ k → Leads order (after' n) (after' k)) → Final W n w after' → Led W order w (after' n)
  led order n w after' onward f =
      let further = onward f.turns (enough W.exact n f.turns f.spends) in
      record { place = (after' f.turns).state; leads = further.state; state = f.halts.state; deepest = le_trans further.deepest f.halts.bound }

  -- where the output takes exactly the turns of the input, both are at the same place
  pub exactly : (n : ℕ) (w : World S) (after' : ℕ → World S') → W.exact ≡ true → Final W n w after' → Halts W w (after' n)
  exactly n w after' e f = subst (λ j. Halts W w (after' j)) (subst (λ b. Spends b n f.turns) e f.spends) f.halts

-- a run whose input does not ask for types is never stuck
stuck_asks : {H A : Type 0} (strict : Bool) (o : Out H (Status A)) → IsStuckRun o strict → strict ≡ true
stuck_asks strict (Done u (Go a)) h = absurd h
stuck_asks strict (Done u (Leave Stuck a)) h = h
stuck_asks strict (Done u (Leave j a)) h = absurd h
stuck_asks strict (Halt a) h = absurd h

pub unless_stuck : {H A F : Type 0} (strict : Bool) (o : Out H (Status A)) → strict ≡ false → IsStuckRun o strict ⊎ F → F
unless_stuck strict o e (inl h) = let is = stuck_asks strict o h in let no : ⊥ = cc in absurd no
unless_stuck strict o e (inr f) = f
