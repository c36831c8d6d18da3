-- A loop in terms of itself: one pass, which takes a turn, and then the loop again.
use Rattle.std.proofs.Common.{◌≡◌, ℕ, zero, suc, ◌-◌, ◌≤◌, List, refl, ap, arith, le_refl}
use Rattle.evaluation_kit.specs.declared.jump.Jump.TheVariants.{Branch}
use Rattle.outcome_kit.specs.Outcome.{Out, Done, Halt, after, bind, turn}
use Rattle.outcome_kit.specs.Code.{Leave}
use Rattle.evaluation_kit.specs.Configurations.{World, Conf, Res, Sem}
use Rattle.evaluation_kit.specs.Control.{entered, leave_pass, passes, cycle}

-- what goes on alike from each result, with no more turns than there are
pub bind-within : {H R R' : Type 0} (n : ℕ) (o : Out H R) (k l : R → ℕ → Out H R') → ((r : R) (m : ℕ) → m ≤ n → k r m ≡ l r m) → bind n o k ≡ bind n o l
bind-within n (Done u r) k l e =
    let less : n - u ≤ n = omega arith in
    ap (after u) (e r (n - u) less)
bind-within n (Halt h) k l e = refl

module _ {V S : Type 0} where
  leave_pass-within : (N : ℕ) (again other : ℕ → Conf V S → Out (World S) (Res V S)) (p r : ℕ) (below : List V) → ((n : ℕ) (c : Conf V S) → n ≤ N → again n c ≡ other n c) → (x : Res V S) (n : ℕ) → n ≤ N → leave_pass again p r below x n ≡ leave_pass other p r below x n
  leave_pass-within N again other p r below e (Leave (Branch zero) c) n le = e n (entered p c) le
  leave_pass-within N again other p r below e x n le = refl

  -- more passes than there are turns are as good as these
  passes-enough : (N k i p r : ℕ) (below : List V) (body : Sem V S) (open_calls n : ℕ) (c : Conf V S) → n ≤ N → N ≤ k → N ≤ i → passes k p r below body open_calls n c ≡ passes i p r below body open_calls n c
  passes-enough N zero zero p r below body d n c a b e = refl
  passes-enough N zero (suc i) p r below body d zero c a b e = refl
  passes-enough N (suc k) zero p r below body d zero c a b e = refl
  passes-enough N zero (suc i) p r below body d (suc n) c a b e = let no : ⊥ = omega arith in absurd no
  passes-enough N (suc k) zero p r below body d (suc n) c a b e = let no : ⊥ = omega arith in absurd no
  passes-enough N (suc k) (suc i) p r below body d zero c a b e = refl
  passes-enough zero (suc k) (suc i) p r below body d (suc n) c a b e = let no : ⊥ = omega arith in absurd no
  passes-enough (suc N) (suc k) (suc i) p r below body d (suc n) c a b e =
      let x : n ≤ N = omega arith in
      let y : N ≤ k = omega arith in
      let z : N ≤ i = omega arith in
      ap (after 1) (bind-within n (body d n c) (leave_pass (passes k p r below body d) p r below) (leave_pass (passes i p r below body d) p r below)
      (λ r' m le. leave_pass-within n (passes k p r below body d) (passes i p r below body d) p r below
      (λ m' c' le'. let w : m' ≤ N = omega arith in passes-enough N k i p r below body d m' c' w y z) r' m le))

  pub cycle-pass : (p r : ℕ) (below : List V) (body : Sem V S) (open_calls n : ℕ) (c : Conf V S) → cycle p r below body open_calls n c ≡ turn n c.world (λ m. bind m (body open_calls m c) (leave_pass (cycle p r below body open_calls) p r below))
  cycle-pass p r below body d zero c = refl
  cycle-pass p r below body d (suc n) c =
      ap (after 1) (bind-within n (body d n c) (leave_pass (passes n p r below body d) p r below) (leave_pass (cycle p r below body d) p r below)
      (λ r' m le. leave_pass-within n (passes n p r below body d) (cycle p r below body d) p r below
      (λ m' c' le'. passes-enough m' n m' p r below body d m' c' (le_refl m') le' (le_refl m')) r' m le))
