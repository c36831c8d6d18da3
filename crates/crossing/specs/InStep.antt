-- When code of one language goes in step with code of another: as many turns, as many open calls, and ends that are alike.
use Rattle.std.specs.Prelude.{◌≡◌, ℕ}
use Rattle.outcome_kit.specs.Outcome.{Out, Done, Halt}
use Rattle.outcome_kit.specs.Code.{Go, Leave}
use Rattle.evaluation_kit.specs.Configurations.{World, Conf, Res, Sem, plain_of}
use Rattle.evaluation_kit.specs.Tasks.{Status}
use Rattle.simulation_kit.specs.Labels.{IsOther}
use Rattle.simulation_kit.specs.Likenesses.{Likeness, JumpLike, Like}

module _ {V S V' S' : Type 0} (K : Likeness V S V' S') where
  -- configurations that are alike, and as many calls were open at once
  pub record ConfLike (c : Conf V S) (c' : Conf V' S') : Type 0 where
    pub plain : Like K (plain_of c) (plain_of c')
    pub deepest : c'.world.deepest ≡ c.world.deepest

  -- worlds where a run goes on, and where it is halted or over
  pub record IdleLike (w : World S) (w' : World S') : Type 0 where
    pub state : K.States w.state w'.state
    pub safe : K.keeps.Safe w.state
    pub deepest : w'.deepest ≡ w.deepest

  pub record WorldLike (w : World S) (w' : World S') : Type 0 where
    pub state : K.Ends w.state w'.state
    pub deepest : w'.deepest ≡ w.deepest

  -- outcomes after as many turns, by what is asked of their results
  abbrev pub OutLike : {R R' : Type 0} → (R → R' → Type 0) → Out (World S) R → Out (World S') R' → Type 0
  OutLike Q (Done used r) (Done used' r') = (used' ≡ used) × Q r r'
  OutLike Q (Halt w) (Halt w') = WorldLike w w'
  OutLike Q _ _ = ⊥

  -- the ends of code; of functions, which are left by no branch and no return; and of tasks
  abbrev pub EndsLike : Res V S → Res V' S' → Type 0
  EndsLike (Go c) (Go c') = ConfLike c c'
  EndsLike (Leave j c) (Leave j' c') = JumpLike K j j' × ConfLike c c'
  EndsLike _ _ = ⊥

  abbrev pub ReturnsLike : Res V S → Res V' S' → Type 0
  ReturnsLike (Go c) (Go c') = ConfLike c c'
  ReturnsLike (Leave j c) (Leave j' c') = IsOther j × JumpLike K j j' × ConfLike c c'
  ReturnsLike _ _ = ⊥

  abbrev pub TaskEndsLike : Status (World S) → Status (World S') → Type 0
  TaskEndsLike (Go w) (Go w') = IdleLike w w'
  TaskEndsLike (Leave j w) (Leave j' w') = WorldLike w w'
  TaskEndsLike _ _ = ⊥

  -- code, and functions
  pub record CodeInStep (a : Sem V S) (b : Sem V' S') : Type 0 where
    pub by : (d n : ℕ) (c : Conf V S) (c' : Conf V' S') → ConfLike c c' → OutLike EndsLike (a d n c) (b d n c')

  pub record FuncInStep (a : Sem V S) (b : Sem V' S') : Type 0 where
    pub by : (d n : ℕ) (c : Conf V S) (c' : Conf V' S') → ConfLike c c' → OutLike ReturnsLike (a d n c) (b d n c')
