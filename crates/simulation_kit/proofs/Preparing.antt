-- A task of the output that prepares its state and then does what a task of the input does: it enters a function of the
-- output alone, whose body calls the function of the input, or calls none where the input has no such task. It takes one
-- turn more, and one call more is open.
use Rattle.std.proofs.Common.{◌≡◌, ℕ, zero, suc, ◌-◌, Bool, false, List, [], ◌++◌, Some, refl, sym, ap, ◌∙◌, subst, arith}
use Rattle.evaluation_kit.specs.declared.jump.Jump.{Jump}
use Rattle.outcome_kit.specs.Outcome.{Out, Done, after, bind, turn}
use Rattle.outcome_kit.specs.Code.{Go, Leave, go_on, run}
use Rattle.outcome_kit.proofs.Outcomes.{bind-done, bind-after, bind-bind}
use Rattle.evaluation_kit.specs.Configurations.{World, Conf, PlainRes, Res}
use Rattle.evaluation_kit.specs.Control.{Function, Own, returned, opened, ended, leave_body, enter, arrive}
use Rattle.evaluation_kit.specs.Languages.{Language, func, exec_code}
use Rattle.evaluation_kit.specs.Tasks.{Status, Enter, shown, task}
use Rattle.evaluation_kit.proofs.Functions.{func-entered}
use Rattle.simulation_kit.specs.Runs.{Post, Runs}
use Rattle.simulation_kit.proofs.Running.{runs_extra}

-- a turn before a run, and before what follows it
pub bind-turn : {H R S : Type 0} (j : ℕ) (w : H) (t : ℕ → Out H R) (next : R → ℕ → Out H S) → bind j (turn j w t) next ≡ turn j w (λ k. bind k (t k) next)
bind-turn zero w t next = refl
bind-turn (suc k) w t next =
    let e : suc k - 1 ≡ k = omega arith in
    bind-after (suc k) 1 (t k) next ∙ ap (λ i. after 1 (bind i (t k) next)) e

pub turn-same : {H R : Type 0} (j : ℕ) (w : H) (t l : ℕ → Out H R) → ((k : ℕ) → t k ≡ l k) → turn j w t ≡ turn j w l
turn-same zero w t l e = refl
turn-same (suc k) w t l e = ap (after 1) (e k)

-- the output alone takes a turn, in a simulation that does not keep turns
pub runs_later : {H H' R R' : Type 0} (exact : Bool) (Ends : H → H' → Type 0) (Q : Post R R') → exact ≡ false → (n : ℕ) (o : Out H R) (h' : H') (t : ℕ → Out H' R') → Runs exact Ends Q n o t → Runs exact Ends Q n o (λ j. turn j h' t)
runs_later exact Ends Q e n o h' t r =
    subst (λ b. Runs b Ends Q n o (λ j. turn j h' t)) (sym e) (runs_extra Ends Q n o h' t (subst (λ b. Runs b Ends Q n o t) e r))

module _ {I : Type 0} {F : Type 0 → Type 0} {V S : Type 0} (L : Language I F V S) (y : ℕ) (f : Function I V) (is : L.callee y ≡ Some (Own f)) (see : PlainRes V S → Status S) (w : World S) where
  -- where its body begins
  abbrev pub first : Conf V S
  first = opened 0 f (record { operands = []; locals = []; world = w })

  -- its end, and what becomes of it
  abbrev pub left : Res V S → ℕ → Out (World S) (Res V S)
  left = leave_body (λ g. func L g 0) f.results

  abbrev pub seen : Res V S → ℕ → Out (World S) (Status (World S))
  seen r m = Done 0 (shown see r)

  -- the task, by what its body does
  pub entered-task : (last : ℕ → Out (World S) (Res V S)) → ((k : ℕ) → exec_code L f.body 1 k first ≡ last k) → (j : ℕ) → task (func L) (Enter y [] see) j w ≡ turn j w (λ k. bind k (bind k (last k) left) seen)
  entered-task last e j =
      ap (λ o. bind j o seen)
      (func-entered L y 0 j (record { operands = []; locals = []; world = w })
      ∙ ap (λ i. arrive i (λ g i n b. turn n b.world (λ m. enter (exec_code L g.body) (func L) g i m b)) 0 j (record { operands = []; locals = []; world = w })) is)
      ∙ bind-turn j w (λ k. bind k (exec_code L f.body 1 k first) left) seen
      ∙ turn-same j w (λ k. bind k (bind k (exec_code L f.body 1 k first) left) seen) (λ k. bind k (bind k (last k) left) seen) (λ k. ap (λ o. bind k (bind k o left) seen) (e k))

  -- it comes to its end
  pub ended-task : (c : Conf V S) → ((k : ℕ) → exec_code L f.body 1 k first ≡ Done 0 (Go c)) → (j : ℕ) → task (func L) (Enter y [] see) j w ≡ turn j w (λ k. Done 0 (shown see (ended f.results c)))
  ended-task c e j =
      entered-task (λ k. Done 0 (Go c)) e j
      ∙ turn-same j w (λ k. bind k (bind k (Done 0 (Go c)) left) seen) (λ k. Done 0 (shown see (ended f.results c)))
      (λ k. ap (λ o. bind k o seen) (bind-done k (Go c) left) ∙ bind-done k (ended f.results c) seen)

  -- it calls a function that does this, and comes to its end behind it
  module _ (c : Conf V S) (below : List V) where
    abbrev back : Res V S → ℕ → Out (World S) (Res V S)
    back r m = Done 0 (returned c.locals below r)

    abbrev pub follows : Res V S → ℕ → Out (World S) (Status (World S))
    follows r m = bind m (bind m (bind m (back r m) (go_on (run [] 1))) left) seen

    pub calling-task : (called : ℕ → Out (World S) (Res V S)) → ((k : ℕ) → exec_code L f.body 1 k first ≡ bind k (bind k (called k) back) (go_on (run [] 1))) → (j : ℕ) → task (func L) (Enter y [] see) j w ≡ turn j w (λ k. bind k (called k) follows)
    calling-task called e j =
        entered-task (λ k. bind k (bind k (called k) back) (go_on (run [] 1))) e j
        ∙ turn-same j w (λ k. bind k (bind k (bind k (bind k (called k) back) (go_on (run [] 1))) left) seen) (λ k. bind k (called k) follows)
        (λ k.
        ap (λ o. bind k (bind k o left) seen) (bind-bind k (called k) back (go_on (run [] 1)))
        ∙ ap (λ o. bind k o seen) (bind-bind k (called k) (λ r m. bind m (back r m) (go_on (run [] 1))) left)
        ∙ bind-bind k (called k) (λ r m. bind m (bind m (back r m) (go_on (run [] 1))) left) seen)

    -- behind the end of that function, and behind a jump that leaves it
    pub follows-end : (d : Conf V S) (m : ℕ) → follows (Go d) m ≡ Done 0 (shown see (ended f.results (record d { operands = d.operands ++ below; locals = c.locals })))
    follows-end d m =
        let e : Conf V S = record d { operands = d.operands ++ below; locals = c.locals } in
        ap (λ o. bind m (bind m o left) seen) (bind-done m (Go e) (go_on (run [] 1)))
        ∙ ap (λ o. bind m o seen) (bind-done m (Go e) left)
        ∙ bind-done m (ended f.results e) seen

    pub follows-jump : (j : Jump) (d : Conf V S) (m : ℕ) → ((k : ℕ) (e : Conf V S) → left (Leave j e) k ≡ Done 0 (Leave j e)) → follows (Leave j d) m ≡ Done 0 (shown see (Leave j (record d { locals = c.locals })))
    follows-jump j d m h =
        let e : Conf V S = record d { locals = c.locals } in
        ap (λ o. bind m (bind m o left) seen) (bind-done m (Leave j e) (go_on (run [] 1)))
        ∙ ap (λ o. bind m o seen) (bind-done m (Leave j e) left ∙ h m e)
        ∙ bind-done m (Leave j e) seen
