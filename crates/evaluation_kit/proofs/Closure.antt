-- What a law of runs has to be closed under, so that it holds of all code: one record, of which each law is an instance.
-- A law speaks of two runs side by side, since two meanings of one language are compared too; most speak of one alone.
use Rattle.std.proofs.Common.{◌≡◌, ℕ, suc, Option, Some, None, refl}
use Rattle.evaluation_kit.specs.declared.jump.Jump.{Jump}
use Rattle.evaluation_kit.specs.declared.jump.Jump.TheVariants.{Branch, Return, TailCall, Trap, Stuck}
use Rattle.outcome_kit.specs.Outcome.{Out, Done, bind, turn}
use Rattle.outcome_kit.specs.Code.{Go, Leave}
use Rattle.evaluation_kit.specs.Configurations.{World, Res, deeper, in_world}

-- a run from a world
abbrev pub Run : Type 0 → Type 0 → Type 0
Run S R = World S → ℕ → Out (World S) R

-- the world in a result, and the jump by which it leaves, if it does
pub record Place (S R : Type 0) : Type 0 where
  pub at : R → World S
  pub put : World S → R → R
  pub jump : R → Option Jump
  pub put_at : (r : R) → put (at r) r ≡ r
  pub at_put : (w : World S) (r : R) → at (put w r) ≡ w
  pub put_twice : (v w : World S) (r : R) → put v (put w r) ≡ put v r
  pub jump_put : (w : World S) (r : R) → jump (put w r) ≡ jump r

-- What a result may become without any instruction: a branch or a return reaches the end that it names, a branch leaves a
-- block, a tail call begins, and what is not there traps or is stuck.
pub data Lighter : Option Jump → Option Jump → Type 0 where
  branch_ends : (k : ℕ) → Lighter (Some (Branch k)) None
  branch_moves : (k i : ℕ) → Lighter (Some (Branch k)) (Some (Branch i))
  return_ends : Lighter (Some Return) None
  tail_begins : (f : ℕ) → Lighter (Some (TailCall f)) None
  traps : Lighter None (Some Trap)
  sticks : Lighter None (Some Stuck)

-- Holds R place N j m m': what the law says of two runs m and m' within N turns, that begin after the result j.
-- Stable X g: what g reads of a world is the same on both sides of the law.
pub record Closed (S : Type 0) : Type 1 where
  pub Holds : (R : Type 0) → Place S R → ℕ → Option Jump → Run S R → Run S R → Type 0
  pub Stable : (X : Type 0) → (World S → X) → Type 0
  pub done : (R : Type 0) (pl : Place S R) (N : ℕ) (r : R) → Holds R pl N (pl.jump r) (λ w n. Done 0 (pl.put w r)) (λ w n. Done 0 (pl.put w r))
  pub bind : (R R' : Type 0) (pl : Place S R) (pl' : Place S R') (N : ℕ) (j : Option Jump) (m m' : Run S R) (k k' : R → ℕ → Out (World S) R') → Holds R pl N j m m' → ((r : R) → Holds R' pl' N (pl.jump r) (λ w n. k (pl.put w r) n) (λ w n. k' (pl.put w r) n)) → Holds R' pl' N j (λ w n. bind n (m w n) k) (λ w n. bind n (m' w n) k')
  pub start : (R : Type 0) (pl : Place S R) (m m' : Run S R) → Holds R pl 0 None (λ w n. turn n w (m w)) (λ w n. turn n w (m' w))
  pub turn : (R : Type 0) (pl : Place S R) (N : ℕ) (m m' : Run S R) → Holds R pl N None m m' → Holds R pl (suc N) None (λ w n. turn n w (m w)) (λ w n. turn n w (m' w))
  pub less : (R : Type 0) (pl : Place S R) (N : ℕ) (j : Option Jump) (m m' : Run S R) → Holds R pl (suc N) j m m' → Holds R pl N j m m'
  pub lighter : (R : Type 0) (pl : Place S R) (N : ℕ) (j i : Option Jump) (m m' : Run S R) → Lighter j i → Holds R pl N i m m' → Holds R pl N j m m'
  pub deeper : (R : Type 0) (pl : Place S R) (N : ℕ) (m m' : Run S R) (open_calls : ℕ) → Holds R pl N None m m' → Holds R pl N None (λ w n. m (deeper open_calls w) n) (λ w n. m' (deeper open_calls w) n)
  pub reads : (X R : Type 0) (pl : Place S R) (N : ℕ) (g : World S → X) (m m' : X → Run S R) → Stable X g → ((x : X) → Holds R pl N None (m x) (m' x)) → Holds R pl N None (λ w n. m (g w) w n) (λ w n. m' (g w) w n)
  pub alike : (R : Type 0) (pl : Place S R) (N : ℕ) (j : Option Jump) (m m' l l' : Run S R) → Holds R pl N j m m' → ((w : World S) (n : ℕ) → m w n ≡ l w n) → ((w : World S) (n : ℕ) → m' w n ≡ l' w n) → Holds R pl N j l l'

module _ {V S : Type 0} where
  abbrev pub res_at : Res V S → World S
  res_at (Go c) = c.world
  res_at (Leave j c) = c.world

  abbrev pub res_put : World S → Res V S → Res V S
  res_put w (Go c) = Go (in_world w c)
  res_put w (Leave j c) = Leave j (in_world w c)

  abbrev pub res_jump : Res V S → Option Jump
  res_jump (Go c) = None
  res_jump (Leave j c) = Some j

  pub put_at : (r : Res V S) → res_put (res_at r) r ≡ r
  put_at (Go c) = refl
  put_at (Leave j c) = refl

  pub at_put : (w : World S) (r : Res V S) → res_at (res_put w r) ≡ w
  at_put w (Go c) = refl
  at_put w (Leave j c) = refl

  pub put_twice : (v w : World S) (r : Res V S) → res_put v (res_put w r) ≡ res_put v r
  put_twice v w (Go c) = refl
  put_twice v w (Leave j c) = refl

  pub jump_put : (w : World S) (r : Res V S) → res_jump (res_put w r) ≡ res_jump r
  jump_put w (Go c) = refl
  jump_put w (Leave j c) = refl

  -- the world in the result of code
  abbrev pub res_place : Place S (Res V S)
  res_place = record {
    at = res_at;
    put = res_put;
    jump = res_jump;
    put_at = put_at;
    at_put = at_put;
    put_twice = put_twice;
    jump_put = jump_put;
  }

-- a world as a result of its own
abbrev pub world_place : {S : Type 0} → Place S (World S)
world_place = record {
  at = λ w. w;
  put = λ v w. v;
  jump = λ w. None;
  put_at = λ w. refl;
  at_put = λ v w. refl;
  put_twice = λ u v w. refl;
  jump_put = λ v w. refl;
}
