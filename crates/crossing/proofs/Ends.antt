-- Tasks that differ in what they make of the ends that no function has leave the same worlds.
use Rattle.std.proofs.Common.{◌≡◌, ℕ, ◌-◌, List, [], ◌∷◌, refl, ap, ◌∙◌}
use Rattle.outcome_kit.specs.Outcome.{Out, Done, Halt, after, bind, place_of}
use Rattle.outcome_kit.specs.Code.{Go, Leave, go_on, stands}
use Rattle.evaluation_kit.specs.Configurations.{World, PlainRes, Res, Sem}
use Rattle.evaluation_kit.specs.Tasks.{Status, Task, Change, Enter, placed, plain_result, shown, task, tasks, world_after}
use Rattle.crossing.proofs.Jumps.{EndsSo, ComesSo, Does, plain_so}

module _ {V S : Type 0} where
  -- the same task as far as functions end so
  abbrev pub TaskAgrees : Task V S → Task V S → Type 0
  TaskAgrees (Change f) (Change f') = f ≡ f'
  TaskAgrees (Enter x operands see) (Enter x' operands' see') = (x ≡ x') × (operands ≡ operands') × ((r : PlainRes V S) → EndsSo r → see r ≡ see' r)
  TaskAgrees _ _ = ⊥

  abbrev pub TasksAgree : List (Task V S) → List (Task V S) → Type 0
  TasksAgree [] [] = Unit {0}
  TasksAgree (t ∷ ts) (t' ∷ ts') = TaskAgrees t t' × TasksAgree ts ts'
  TasksAgree _ _ = ⊥

  module _ (funcs : ℕ → Sem V S) (so : (x : ℕ) → Does (funcs x)) where
    sees_same : (see see' : PlainRes V S → Status S) → ((r : PlainRes V S) → EndsSo r → see r ≡ see' r) → (n : ℕ) (o : Out (World S) (Res V S)) → ComesSo o → bind n o (λ r m. Done 0 (shown see r)) ≡ bind n o (λ r m. Done 0 (shown see' r))
    sees_same see see' h n (Done u r) e = ap (λ (s : Status S). after u (Done 0 (placed (stands r).world s))) (h (plain_result r) (plain_so r e))
    sees_same see see' h n (Halt w) e = refl

    enters_same : (x x' : ℕ) (operands operands' : List V) (see see' : PlainRes V S → Status S) → x ≡ x' → operands ≡ operands' → ((r : PlainRes V S) → EndsSo r → see r ≡ see' r) → (n : ℕ) (w : World S) → task funcs (Enter x operands see) n w ≡ task funcs (Enter x' operands' see') n w
    enters_same x x' operands operands' see see' e f h n w =
        ap (λ (y : ℕ). task funcs (Enter y operands see) n w) e
        ∙ ap (λ (l : List V). task funcs (Enter x' l see) n w) f
        ∙ sees_same see see' h n (funcs x' 0 n (record { operands = operands'; locals = []; world = w })) ((so x').by 0 n (record { operands = operands'; locals = []; world = w }))

    task_same : (t t' : Task V S) → TaskAgrees t t' → (n : ℕ) (w : World S) → task funcs t n w ≡ task funcs t' n w
    task_same (Change f) (Change f') h n w = ap (λ (g : S → Status S). Done 0 (placed w (g w.state))) h
    task_same (Enter x operands see) (Enter x' operands' see') h n w = enters_same x x' operands operands' see see' h.0 h.1 h.2 n w
    task_same (Change f) (Enter x' operands' see') h n w = absurd h
    task_same (Enter x operands see) (Change f') h n w = absurd h

    goes_same : (a b : ℕ → World S → Out (World S) (Status (World S))) → ((n : ℕ) (w : World S) → a n w ≡ b n w) → (r : Status (World S)) (n : ℕ) → go_on a r n ≡ go_on b r n
    goes_same a b h (Go w) n = h n w
    goes_same a b h (Leave j w) n = refl

    binds_same : (a b : ℕ → World S → Out (World S) (Status (World S))) → ((n : ℕ) (w : World S) → a n w ≡ b n w) → (n : ℕ) (o : Out (World S) (Status (World S))) → bind n o (go_on a) ≡ bind n o (go_on b)
    binds_same a b h n (Done u r) = ap (after u) (goes_same a b h r (n - u))
    binds_same a b h n (Halt w) = refl

    pub tasks_same : (ts ts' : List (Task V S)) → TasksAgree ts ts' → (n : ℕ) (w : World S) → tasks funcs ts n w ≡ tasks funcs ts' n w
    tasks_same [] [] h n w = refl
    tasks_same [] (t' ∷ ts') h n w = absurd h
    tasks_same (t ∷ ts) [] h n w = absurd h
    tasks_same (t ∷ ts) (t' ∷ ts') h n w =
        ap (λ o. bind n o (go_on (tasks funcs ts))) (task_same t t' h.0 n w)
        ∙ binds_same (tasks funcs ts) (tasks funcs ts') (λ i v. tasks_same ts ts' h.1 i v) n (task funcs t' n w)

    pub world_same : (ts ts' : List (Task V S)) → TasksAgree ts ts' → (s : S) (n : ℕ) → world_after funcs ts s n ≡ world_after funcs ts' s n
    world_same ts ts' h s n = ap (place_of stands) (tasks_same ts ts' h n (record { state = s; deepest = 0 }))
