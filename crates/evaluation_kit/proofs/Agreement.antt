-- That two runs agree up to a number of turns is a law that is closed.
use Rattle.std.proofs.Common.{◌≡◌, ℕ, zero, suc, ◌≤◌, refl, sym, ap, ◌∙◌, arith}
use Rattle.outcome_kit.specs.Outcome.{Out, after, bind, turn}
use Rattle.evaluation_kit.specs.Configurations.{World, deeper}
use Rattle.evaluation_kit.proofs.Closure.{Run, Place, Closed}
use Rattle.evaluation_kit.proofs.Loops.{bind-within}

module _ {S R : Type 0} where
  abbrev pub Agree : ℕ → Run S R → Run S R → Type 0
  Agree N m m' = (w : World S) (n : ℕ) → n ≤ N → m w n ≡ m' w n

  pub start_agrees : (m m' : Run S R) → Agree 0 (λ w n. turn n w (m w)) (λ w n. turn n w (m' w))
  start_agrees m m' w zero le = refl
  start_agrees m m' w (suc n) le = let no : ⊥ = omega arith in absurd no

  pub turn_agrees : (N : ℕ) (m m' : Run S R) → Agree N m m' → Agree (suc N) (λ w n. turn n w (m w)) (λ w n. turn n w (m' w))
  turn_agrees N m m' h w zero le = refl
  turn_agrees N m m' h w (suc n) le = let less : n ≤ N = omega arith in ap (after 1) (h w n less)

  pub less_agrees : (N : ℕ) (m m' : Run S R) → Agree (suc N) m m' → Agree N m m'
  less_agrees N m m' h w n le = let more : n ≤ suc N = omega arith in h w n more

pub bind_agrees : {S R R' : Type 0} (pl : Place S R) (N : ℕ) (m m' : Run S R) (k k' : R → ℕ → Out (World S) R') → Agree N m m' → ((r : R) → Agree N (λ w n. k (pl.put w r) n) (λ w n. k' (pl.put w r) n)) → Agree N (λ w n. bind n (m w n) k) (λ w n. bind n (m' w n) k')
bind_agrees pl N m m' k k' h next w n le =
    ap (λ o. bind n o k) (h w n le)
    ∙ bind-within n (m' w n) k k' (λ r i le'.
    let less : i ≤ N = omega arith in
    ap (λ x. k x i) (sym (pl.put_at r)) ∙ next r (pl.at r) i less ∙ ap (λ x. k' x i) (pl.put_at r))

-- up to so many turns both runs are the same
abbrev pub agreement : (S : Type 0) → Closed S
agreement S = record {
  Holds = λ R pl N j m m'. Agree N m m';
  Stable = λ X g. Unit {0};
  done = λ R pl N r w n le. refl;
  bind = λ R R' pl pl' N j m m' k k' h next. bind_agrees pl N m m' k k' h next;
  start = λ R pl m m'. start_agrees m m';
  turn = λ R pl N m m' h. turn_agrees N m m' h;
  less = λ R pl N j m m' h. less_agrees N m m' h;
  lighter = λ R pl N j i m m' e h. h;
  deeper = λ R pl N m m' d h w n le. h (deeper d w) n le;
  reads = λ X R pl N g m m' s h w n le. h (g w) w n le;
  alike = λ R pl N j m m' l l' h e e' w n le. sym (e w n) ∙ h w n le ∙ e' w n;
}
