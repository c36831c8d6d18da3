-- A task of the output that prepares its state and then does what the task of the input does, where all else is alike: the
-- tasks behind are simulated.
use Rattle.std.proofs.Common.{◌≡◌, ℕ, ◌+◌, ◌*◌, ◌<◌, ◌≤◌, false, List, [], ◌++◌, take, drop, Some, refl, sym, ap, ◌∙◌, subst, arith}
use Rattle.evaluation_kit.specs.declared.jump.Jump.{Jump}
use Rattle.evaluation_kit.specs.declared.jump.Jump.TheVariants.{Branch, Return, TailCall, Throw, Trap, NoReply, Full, Stuck}
use Rattle.outcome_kit.specs.Outcome.{Out, Done, bind, turn}
use Rattle.outcome_kit.specs.Code.{Go, Leave, go_on, run}
use Rattle.outcome_kit.proofs.Outcomes.{bind-done}
use Rattle.evaluation_kit.specs.Configurations.{World, Conf, PlainRes, Res, plain_of}
use Rattle.evaluation_kit.specs.Control.{Function, Own, entered, returned, ended, leave_body}
use Rattle.evaluation_kit.specs.Languages.{Language, func, exec_code}
use Rattle.evaluation_kit.specs.Tasks.{Status, Enter, plain_result, shown, task}
use Rattle.simulation_kit.specs.Runs.{Post, Runs}
use Rattle.simulation_kit.specs.Labels.{IsOther}
use Rattle.simulation_kit.specs.Matches.{Match, Depths, Halts, IsStuck, Returns, returns}
use Rattle.simulation_kit.specs.Staying.{AllFuncsSim}
use Rattle.simulation_kit.specs.Rewriting.{Step}
use Rattle.simulation_kit.specs.Hosting as hosting
use Rattle.simulation_kit.specs.Hosting.{NoParts, IsStuckStatus, TaskSims}
use Rattle.simulation_kit.specs.Likenesses.{Likeness, JumpLike, Handed, StatusLike, matching, SeeLike}
use Rattle.simulation_kit.proofs.Running.{runs_done, runs_alike, runs_bind}
use Rattle.simulation_kit.proofs.Hosting.{places, stuck_placed, stuck_goes_on, goes_on as goes_on_alike}
use Rattle.simulation_kit.proofs.LikeCode.{statuses, at_values}
use Rattle.simulation_kit.proofs.Ending.{NoTailJump, NoTail, HostTail, func_tail, knowing, runs_knowing}
use Rattle.simulation_kit.proofs.Preparing.{bind-turn, turn-same, runs_later, first, ended-task, calling-task, follows, follows-end, follows-jump}

-- a jump that leaves a function, and no tail call: it leaves the function that called it
left_again : {V S : Type 0} (tail : ℕ → ℕ → Conf V S → Out (World S) (Res V S)) (r : ℕ) (j : Jump) → IsOther j → NoTailJump j → (k : ℕ) (e : Conf V S) → leave_body tail r (Leave j e) k ≡ Done 0 (Leave j e)
left_again tail r (Branch i) o n k e = absurd o
left_again tail r Return o n k e = absurd o
left_again tail r (TailCall g) o n k e = absurd n
left_again tail r (Throw x) o n k e = refl
left_again tail r Trap o n k e = refl
left_again tail r (NoReply x) o n k e = refl
left_again tail r Full o n k e = refl
left_again tail r Stuck o n k e = refl

module _ {V S V' S' : Type 0} (K : Likeness V S V' S') where
  same_jump : (j j' : Jump) → IsOther j → NoTailJump j → JumpLike K j j' → j' ≡ j
  same_jump (Branch i) j' o n e = absurd o
  same_jump Return j' o n e = absurd o
  same_jump (TailCall g) j' o n e = absurd n
  same_jump (Throw x) j' o n e = e
  same_jump Trap j' o n e = e
  same_jump (NoReply x) j' o n e = e
  same_jump Full j' o n e = e
  same_jump Stuck j' o n e = e

  module _ {I I' X : Type 0} {F F' : Type 0 → Type 0} (L : Language I F V S) (L' : Language I' F' V' S') (step : Step X F I') (seen : K.Place → X) (Fits : I → Type 0) (later : K.exact ≡ false) (room : 1 + K.spare ≤ K.more_frames) (y : ℕ) (f : Function I' V') (is : L'.callee y ≡ Some (Own f)) (see' : PlainRes V' S' → Status S') (w' : World S') where
    abbrev W : Match V S V' S'
    W = matching K

    abbrev Idle : S → S' → Type 0
    Idle s s' = K.States s s' × K.keeps.Safe s

    abbrev Q : Post (Status (World S)) (Status (World S'))
    Q = hosting.statuses W Idle NoParts

    never : (s : S) (s' : S') → NoParts s s' → ⊥
    never s s' h = h

    -- where the input has no such task
    pub prepared_alone : (c : Conf V' S') (v' : World S') → ((k : ℕ) → exec_code L' f.body 1 k (first L' y f is see' w') ≡ Done 0 (Go c)) → shown see' (ended f.results c) ≡ Go v' → (w : World S) → Depths W 0 w v' → Idle w.state v'.state → (N : ℕ) (more : ℕ → World S → Out (World S) (Status (World S))) (others : ℕ → World S' → Out (World S') (Status (World S'))) → TaskSims W Idle NoParts N more others → (n : ℕ) → n < N
        → Runs W.exact (Halts W) Q n (more n w) (λ j. bind j (task (func L') (Enter y [] see') j w') (go_on others))
    prepared_alone c v' body e w depths idle N more others sims n lt =
        runs_alike W.exact (Halts W) Q n (more n w) (more n w) (λ j. turn j w' (λ k. others k v')) (λ j. bind j (task (func L') (Enter y [] see') j w') (go_on others)) refl
        (λ j.
        sym (ap (λ o. bind j o (go_on others)) (ended-task L' y f is see' w' c body j)
        ∙ bind-turn j w' (λ k. Done 0 (shown see' (ended f.results c))) (go_on others)
        ∙ turn-same j w' (λ k. bind k (Done 0 (shown see' (ended f.results c))) (go_on others)) (λ k. others k v')
        (λ k. bind-done k (shown see' (ended f.results c)) (go_on others) ∙ ap (λ r. go_on others r k) e)))
        (runs_later W.exact (Halts W) Q later n (more n w) w' (λ k. others k v') (sims.by n w v' lt depths idle))

    -- where the input enters a function, which the function of the output calls with these operands
    module _ (x x' : ℕ) (see : PlainRes V S → Status S) (named : K.keeps.Named x) (index : x' ≡ K.index x) (like : SeeLike K see see') (flat : (a b l : List V') (s : S') → see' (Go (record { operands = a; locals = l; state = s })) ≡ see' (Go (record { operands = b; locals = l; state = s }))) (hosts : (i : ℕ) → HostTail L (L.callee i)) (c : Conf V' S') (p : ℕ)
        (body : (k : ℕ) → exec_code L' f.body 1 k (first L' y f is see' w') ≡ bind k (bind k (func L' x' 1 k (entered p c)) (λ r m. Done 0 (returned c.locals (drop p c.operands) r))) (go_on (run [] 1))) (w : World S) (depths : Depths W 0 w c.world) (handed : Handed K [] w.state (take p c.operands) c.world.state) where
      abbrev next : Res V' S' → ℕ → Out (World S') (Status (World S'))
      next = follows L' y f is see' w' c (drop p c.operands)

      stuck_shown : (r : Res V S) → IsStuck r W.strict → IsStuckStatus (shown see r) W.strict
      stuck_shown (Leave Stuck d) h = stuck_placed W Idle NoParts d.world (see (Leave Stuck (plain_of d))) (like.stuck (plain_of d) h)
      stuck_shown (Leave j d) h = absurd h
      stuck_shown (Go d) h = absurd h

      after_call : (r : Res V S) (r' : Res V' S') (m : ℕ) → Returns W tt 0 r r' → NoTail r → Runs W.exact (Halts W) Q m (Done 0 (shown see r)) (λ k. next r' k)
      after_call (Go d) (Go d') m g n =
          let e : Conf V' S' = record d' { operands = d'.operands ++ drop p c.operands; locals = c.locals } in
          runs_alike W.exact (Halts W) Q m (Done 0 (shown see (Go d))) (Done 0 (shown see (Go d))) (λ k. Done 0 (shown see' (ended f.results e))) (λ k. next (Go d') k) refl
          (λ k. sym (follows-end L' y f is see' w' c (drop p c.operands) d' k))
          (runs_done W.exact (Halts W) Q m (shown see (Go d)) (shown see' (ended f.results e))
          (places W Idle NoParts d.world d'.world (see (plain_result (Go d))) (see' (plain_result (ended f.results e))) g.depths
          (statuses K L L' step seen Fits (see (plain_result (Go d))) (see' (plain_result (ended f.results e)))
          (subst (StatusLike K (see (plain_result (Go d)))) (flat (K.values d.operands) (take f.results (d'.operands ++ drop p c.operands)) c.locals d'.world.state)
          (like.goes d.operands d.locals d.world.state c.locals d'.world.state (at_values K L L' step seen Fits g.plain))))))
      after_call (Go d) (Leave j' d') m g n = absurd g.plain
      after_call (Leave j d) (Go d') m g n = absurd g.plain.1
      after_call (Leave j d) (Leave j' d') m g n = moved j' (same_jump j j' g.plain.0 n g.plain.1.0) g.plain.1.0
        where
          moved : (i : Jump) → i ≡ j → JumpLike K j i → Runs W.exact (Halts W) Q m (Done 0 (shown see (Leave j d))) (λ k. next (Leave i d') k)
          moved i e l =
              let back : Conf V' S' = record d' { locals = c.locals } in
              runs_alike W.exact (Halts W) Q m (Done 0 (shown see (Leave j d))) (Done 0 (shown see (Leave j d))) (λ k. Done 0 (shown see' (Leave i back))) (λ k. next (Leave i d') k) refl
              (λ k. sym (follows-jump L' y f is see' w' c (drop p c.operands) i d' k (left_again (λ g. func L' g 0) f.results i (subst IsOther (sym e) g.plain.0) (subst NoTailJump (sym e) n))))
              (runs_done W.exact (Halts W) Q m (shown see (Leave j d)) (shown see' (Leave i back))
              (places W Idle NoParts d.world d'.world (see (plain_result (Leave j d))) (see' (plain_result (Leave i back))) g.depths
              (statuses K L L' step seen Fits (see (plain_result (Leave j d))) (see' (plain_result (Leave i back)))
              (subst (λ (o : List V'). StatusLike K (see (plain_result (Leave j d))) (see' (Leave i (record { operands = o; locals = c.locals; state = d'.world.state })))) (sym g.plain.1.1.operands)
              (like.leaves j i d.operands d.locals d.world.state c.locals d'.world.state g.plain.0 l (at_values K L L' step seen Fits g.plain.1.1))))))

      module _ (N : ℕ) (fs : AllFuncsSim W N (func L) (func L')) where
        abbrev begins : Conf V S
        begins = record { operands = []; locals = []; world = w }

        called : (n : ℕ) → n < N → Runs W.exact (Halts W) (knowing NoTail (returns W tt 0)) n (func L x 0 n begins) (λ k. func L' x' 1 k (entered p c))
        called n lt =
            let calls : 1 + K.spare ≤ K.frames * 0 + K.more_frames = omega arith in
            runs_knowing W.exact (Halts W) (returns W tt 0) NoTail n (func L x 0 n begins) (λ k. func L' x' 1 k (entered p c)) (func_tail L hosts x 0 n begins)
            ((fs x x' tt tt (named, index)).by 0 1 n begins (entered p c) lt calls depths handed)

        -- the task, and the tasks behind
        pub prepared_call : (n : ℕ) → n < N → Runs W.exact (Halts W) Q n (task (func L) (Enter x [] see) n w) (λ j. task (func L') (Enter y [] see') j w')
        prepared_call n lt =
            runs_alike W.exact (Halts W) Q n (task (func L) (Enter x [] see) n w) (task (func L) (Enter x [] see) n w) (λ j. turn j w' (λ k. bind k (func L' x' 1 k (entered p c)) next)) (λ j. task (func L') (Enter y [] see') j w') refl
            (λ j. sym (calling-task L' y f is see' w' c (drop p c.operands) (λ k. func L' x' 1 k (entered p c)) body j))
            (runs_later W.exact (Halts W) Q later n (task (func L) (Enter x [] see) n w) w' (λ k. bind k (func L' x' 1 k (entered p c)) next)
            (runs_bind W.exact (Halts W) (knowing NoTail (returns W tt 0)) Q (λ r m. Done 0 (shown see r)) next n (func L x 0 n begins) (λ k. func L' x' 1 k (entered p c)) (called n lt)
            (λ r m h. stuck_shown r h)
            (λ r r' m le g. after_call r r' m g.0 g.1)))

        pub prepared_tasks : (more : ℕ → World S → Out (World S) (Status (World S))) (others : ℕ → World S' → Out (World S') (Status (World S'))) → TaskSims W Idle NoParts N more others → (n : ℕ) → n < N
            → Runs W.exact (Halts W) Q n (bind n (task (func L) (Enter x [] see) n w) (go_on more)) (λ j. bind j (task (func L') (Enter y [] see') j w') (go_on others))
        prepared_tasks more others sims n lt =
            runs_bind W.exact (Halts W) Q Q (go_on more) (go_on others) n (task (func L) (Enter x [] see) n w) (λ j. task (func L') (Enter y [] see') j w') (prepared_call n lt)
            (λ r m h. stuck_goes_on W Idle NoParts more r m h)
            (λ r r' m le g. let less : m < N = omega arith in goes_on_alike W Idle NoParts never N more others sims r r' m less g)
