-- What code of one language comes to, given enough turns: for code that the output alone has.
use Rattle.std.specs.Prelude.{◌≡◌, ℕ, ◌+◌, List, [], ◌∷◌, true}
use Rattle.outcome_kit.specs.Outcome.{Out, Done}
use Rattle.outcome_kit.specs.Code.{Go, Leave}
use Rattle.evaluation_kit.specs.Configurations.{Conf, Plain, PlainRes, Res, Sem}
use Rattle.evaluation_kit.specs.Forms.{Flat}
use Rattle.evaluation_kit.specs.Languages.{Language}

-- a run that comes to a result, by the turns that it is given
pub record Does {H R : Type 0} (t : ℕ → Out H R) (r : R) : Type 0 where
  pub cost : ℕ
  pub does : (k : ℕ) → t (cost + k) ≡ Done cost r

module _ {V S : Type 0} where
  -- code that comes to a result from a configuration, with so many calls open
  abbrev pub ComesTo : Sem V S → ℕ → Conf V S → Res V S → Type 0
  ComesTo a d c r = Does (λ j. a d j c) r

  -- plain instructions in order, up to one that jumps
  abbrev pub next_leaf : (Plain V S → PlainRes V S) → PlainRes V S → PlainRes V S
  next_leaf f (Go p) = f p
  next_leaf f (Leave j p) = Leave j p

  abbrev pub in_turn : List (Plain V S → PlainRes V S) → Plain V S → PlainRes V S
  in_turn [] p = Go p
  in_turn (act ∷ acts) p = next_leaf (in_turn acts) (act p)

module _ {I : Type 0} {F : Type 0 → Type 0} {V S : Type 0} (L : Language I F V S) where
  -- instructions that are plain, and always ready
  abbrev pub AreLeaves : List (F I) → List (Plain V S → PlainRes V S) → Type 0
  AreLeaves [] [] = Unit {0}
  AreLeaves (l ∷ ls) (act ∷ acts) = (L.layer I l ≡ Flat act) × ((q : Plain V S) → L.ready I l q ≡ true) × AreLeaves ls acts
  AreLeaves _ _ = ⊥
