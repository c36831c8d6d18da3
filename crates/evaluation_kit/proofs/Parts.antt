-- A law that is closed holds of each form of code, if it holds of the code inside it.
use Rattle.std.proofs.Common.{ℕ, zero, suc, List, [], ◌∷◌, map, drop, Bool, true, false, if◌then◌else◌, Option, Some, None, sym}
use Rattle.evaluation_kit.specs.declared.jump.Jump.{Jump}
use Rattle.evaluation_kit.specs.declared.jump.Jump.TheVariants.{Branch, Throw, Trap, Stuck}
use Rattle.outcome_kit.specs.Outcome.{Out, Done, bind}
use Rattle.outcome_kit.specs.Code.{Go, Leave, go_on, run}
use Rattle.evaluation_kit.specs.Configurations.{World, Conf, Plain, PlainRes, Res, Sem, in_world, plain_of, settled}
use Rattle.evaluation_kit.specs.Control
use Rattle.evaluation_kit.specs.Control.{Handler, Caught, entered, kept, popped, leave_block, leave_pass, cycle, handled, taken, returned, call_picked, where_ready, when_ready}
use Rattle.evaluation_kit.proofs.Closure.{Run, Closed, Lighter, branch_ends, branch_moves, traps, sticks, res_place, res_put, res_jump}
use Rattle.evaluation_kit.proofs.Loops.{cycle-pass}

module _ {V S : Type 0} (C : Closed S) where
  -- the law between results of code, after the result j
  abbrev pub Both : ℕ → Option Jump → Run S (Res V S) → Run S (Res V S) → Type 0
  Both N j m m' = C.Holds (Res V S) res_place N j m m'

  -- the law of two parts, from wherever both begin
  pub record Related (N : ℕ) (a b : Sem V S) : Type 0 where
    pub from : (open_calls : ℕ) (c : Conf V S) → Both N None (λ w n. a open_calls n (in_world w c)) (λ w n. b open_calls n (in_world w c))

  ends : (N : ℕ) (x : Res V S) → Both N (res_jump x) (λ w n. Done 0 (res_put w x)) (λ w n. Done 0 (res_put w x))
  ends N x = C.done (Res V S) res_place N x

  eased : (N : ℕ) (j i : Option Jump) (m m' : Run S (Res V S)) → Lighter j i → Both N i m m' → Both N j m m'
  eased N j i m m' e h = C.lighter (Res V S) res_place N j i m m' e h

  -- a part, and what follows it
  followed : (N : ℕ) (j : Option Jump) (m m' : Run S (Res V S)) (k k' : Res V S → ℕ → Out (World S) (Res V S)) → Both N j m m' → ((x : Res V S) → Both N (res_jump x) (λ w n. k (res_put w x) n) (λ w n. k' (res_put w x) n)) → Both N j (λ w n. bind n (m w n) k) (λ w n. bind n (m' w n) k')
  followed N j m m' k k' h next = C.bind (Res V S) (Res V S) res_place res_place N j m m' k k' h next

  pub less_related : (N : ℕ) (a b : Sem V S) → Related (suc N) a b → Related N a b
  less_related N a b h = record { from = λ d c. C.less (Res V S) res_place N None _ _ (h.from d c) }

  pub nothing_related : (N : ℕ) → Related N (run []) (run [])
  nothing_related N = record { from = λ d c. ends N (Go c) }

  goes_on : (N d : ℕ) (a b : Sem V S) → Related N a b → (x : Res V S) → Both N (res_jump x) (λ w n. go_on (a d) (res_put w x) n) (λ w n. go_on (b d) (res_put w x) n)
  goes_on N d a b h (Go c) = h.from d c
  goes_on N d a b h (Leave j c) = ends N (Leave j c)

  pub part_related : (N : ℕ) (a b : Sem V S) (more others : List (Sem V S)) → Related N a b → Related N (run more) (run others) → Related N (run (a ∷ more)) (run (b ∷ others))
  part_related N a b more others h rest = record {
    from = λ d c. followed N None _ _ (go_on (run more d)) (go_on (run others d)) (h.from d c) (goes_on N d (run more) (run others) rest);
  }

  pub run_related : (N : ℕ) (X : Type 0) (a b : X → Sem V S) → ((x : X) → Related N (a x) (b x)) → (xs : List X) → Related N (run (map a xs)) (run (map b xs))
  run_related N X a b each [] = nothing_related N
  run_related N X a b each (x ∷ xs) = part_related N (a x) (b x) (map a xs) (map b xs) (each x) (run_related N X a b each xs)

  block_left : (N r : ℕ) (below : List V) (x : Res V S) → Both N (res_jump x) (λ w n. Done 0 (leave_block r below (res_put w x))) (λ w n. Done 0 (leave_block r below (res_put w x)))
  block_left N r below (Go c) = ends N (Go (kept r below c))
  block_left N r below (Leave (Branch zero) c) = eased N _ _ _ _ (branch_ends zero) (ends N (Go (kept r below c)))
  block_left N r below (Leave (Branch (suc k)) c) = eased N _ _ _ _ (branch_moves (suc k) k) (ends N (Leave (Branch k) c))
  block_left N r below (Leave j c) = ends N (Leave j c)

  pub block_related : (N p r : ℕ) (a b : Sem V S) → Related N a b → Related N (Control.block p r a) (Control.block p r b)
  block_related N p r a b h = record {
    from = λ d c. followed N None _ _ _ _ (h.from d (entered p c)) (block_left N r (drop p c.operands));
  }

  pass_left : (N p r : ℕ) (below : List V) (again other : ℕ → Conf V S → Out (World S) (Res V S)) → ((c : Conf V S) → Both N None (λ w n. again n (in_world w c)) (λ w n. other n (in_world w c))) → (x : Res V S) → Both N (res_jump x) (λ w n. leave_pass again p r below (res_put w x) n) (λ w n. leave_pass other p r below (res_put w x) n)
  pass_left N p r below again other h (Go c) = ends N (Go (kept r below c))
  pass_left N p r below again other h (Leave (Branch zero) c) = eased N _ _ _ _ (branch_ends zero) (h (entered p c))
  pass_left N p r below again other h (Leave (Branch (suc k)) c) = eased N _ _ _ _ (branch_moves (suc k) k) (ends N (Leave (Branch k) c))
  pass_left N p r below again other h (Leave j c) = ends N (Leave j c)

  cycle_related : (N p r : ℕ) (below : List V) (a b : Sem V S) → Related N a b → (d : ℕ) (c : Conf V S) → Both N None (λ w n. cycle p r below a d n (in_world w c)) (λ w n. cycle p r below b d n (in_world w c))
  cycle_related zero p r below a b h d c =
      C.alike (Res V S) res_place zero None _ _ _ _
      (C.start (Res V S) res_place (λ w m. bind m (a d m (in_world w c)) (leave_pass (cycle p r below a d) p r below)) (λ w m. bind m (b d m (in_world w c)) (leave_pass (cycle p r below b d) p r below)))
      (λ w n. sym (cycle-pass p r below a d n (in_world w c))) (λ w n. sym (cycle-pass p r below b d n (in_world w c)))
  cycle_related (suc N) p r below a b h d c =
      let less = less_related N a b h in
      C.alike (Res V S) res_place (suc N) None _ _ _ _
      (C.turn (Res V S) res_place N (λ w m. bind m (a d m (in_world w c)) (leave_pass (cycle p r below a d) p r below)) (λ w m. bind m (b d m (in_world w c)) (leave_pass (cycle p r below b d) p r below))
      (followed N None _ _ _ _ (less.from d c) (pass_left N p r below (cycle p r below a d) (cycle p r below b d) (cycle_related N p r below a b less d))))
      (λ w n. sym (cycle-pass p r below a d n (in_world w c))) (λ w n. sym (cycle-pass p r below b d n (in_world w c)))

  pub loop_related : (N p r : ℕ) (a b : Sem V S) → Related N a b → Related N (Control.loop p r a) (Control.loop p r b)
  loop_related N p r a b h = record { from = λ d c. cycle_related N p r (drop p c.operands) a b h d (entered p c) }

  either : (N : ℕ) (chosen : Bool) (a b a' b' : Sem V S) → Related N a b → Related N a' b' → Related N (if chosen then a else a') (if chosen then b else b')
  either N true a b a' b' h h' = h
  either N false a b a' b' h h' = h'

  pub choose_related : (N : ℕ) (test : List V → Bool) (p r : ℕ) (a b a' b' : Sem V S) → Related N a b → Related N a' b' → Related N (Control.choose test p r a a') (Control.choose test p r b b')
  choose_related N test p r a b a' b' h h' = record {
    from = λ d c. (block_related N p r _ _ (either N (test c.operands) a b a' b' h h')).from d (popped c);
  }

  -- what the law asks of a plain instruction, of a handler, of the pick of a function and of a test of types
  pub record OwesLeaf (f : Plain V S → PlainRes V S) : Type 0 where
    pub leaf : (N : ℕ) (c : Conf V S) → Both N None (λ w n. Done 0 (settled w (f (plain_of (in_world w c))))) (λ w n. Done 0 (settled w (f (plain_of (in_world w c)))))

  pub record OwesHandler (h : Handler V S) : Type 0 where
    pub handler : (N e : ℕ) (c : Conf V S) → Both N (Some (Throw e)) (λ w n. Done 0 (taken e (h e w.state) (in_world w c))) (λ w n. Done 0 (taken e (h e w.state) (in_world w c)))

  pub record OwesPick (X : Type 0) (pick : Plain V S → X) : Type 0 where
    pub stable : (c : Conf V S) → C.Stable X (λ w. pick (plain_of (in_world w c)))

  pub leaf_related : (N : ℕ) (f : Plain V S → PlainRes V S) → OwesLeaf f → Related N (Control.leaf f) (Control.leaf f)
  leaf_related N f owes = record { from = λ d c. owes.leaf N c }

  guard_left : (N r : ℕ) (h : Handler V S) (below : List V) → OwesHandler h → (x : Res V S) → Both N (res_jump x) (λ w n. Done 0 (handled h (leave_block r below (res_put w x)))) (λ w n. Done 0 (handled h (leave_block r below (res_put w x))))
  guard_left N r h below owes (Go c) = ends N (Go (kept r below c))
  guard_left N r h below owes (Leave (Branch zero) c) = eased N _ _ _ _ (branch_ends zero) (ends N (Go (kept r below c)))
  guard_left N r h below owes (Leave (Branch (suc k)) c) = eased N _ _ _ _ (branch_moves (suc k) k) (ends N (Leave (Branch k) c))
  guard_left N r h below owes (Leave (Throw e) c) = owes.handler N e c
  guard_left N r h below owes (Leave j c) = ends N (Leave j c)

  pub guard_related : (N p r : ℕ) (h : Handler V S) (a b : Sem V S) → OwesHandler h → Related N a b → Related N (Control.guard p r h a) (Control.guard p r h b)
  guard_related N p r h a b owes related = record {
    from = λ d c. followed N None _ _ _ _ (related.from d (entered p c)) (guard_left N r h (drop p c.operands) owes);
  }

  call_left : (N : ℕ) (locals below : List V) (x : Res V S) → Both N (res_jump x) (λ w n. Done 0 (returned locals below (res_put w x))) (λ w n. Done 0 (returned locals below (res_put w x)))
  call_left N locals below (Go c) = ends N (returned locals below (Go c))
  call_left N locals below (Leave j c) = ends N (returned locals below (Leave j c))

  pub call_related : (N p : ℕ) (a b : Sem V S) → Related N a b → Related N (Control.call p a) (Control.call p b)
  call_related N p a b h = record {
    from = λ d c. followed N None _ _ _ _ (h.from d (entered p c)) (call_left N c.locals (drop p c.operands));
  }

  picked_related : (N p : ℕ) (funcs others : ℕ → Sem V S) → ((f : ℕ) → Related N (funcs f) (others f)) → (o : Option ℕ) → Related N (call_picked p funcs o) (call_picked p others o)
  picked_related N p funcs others h None = record { from = λ d c. eased N None (Some Trap) _ _ traps (ends N (Leave Trap c)) }
  picked_related N p funcs others h (Some f) = call_related N p (funcs f) (others f) (h f)

  pub call_by_related : (N p : ℕ) (pick : Plain V S → Option ℕ) (funcs others : ℕ → Sem V S) → OwesPick (Option ℕ) pick → ((f : ℕ) → Related N (funcs f) (others f)) → Related N (Control.call_by p pick funcs) (Control.call_by p pick others)
  call_by_related N p pick funcs others owes h = record {
    from = λ d c. C.reads (Option ℕ) (Res V S) res_place N (λ w. pick (plain_of (in_world w c)))
        (λ o w n. call_picked p funcs o d n (popped (in_world w c))) (λ o w n. call_picked p others o d n (popped (in_world w c)))
        (owes.stable c) (λ o. (picked_related N p funcs others h o).from d (popped c));
  }

  ready_related : (N : ℕ) (ready : Bool) (a b : Sem V S) → Related N a b → Related N (where_ready ready a) (where_ready ready b)
  ready_related N true a b h = h
  ready_related N false a b h = record { from = λ d c. eased N None (Some Stuck) _ _ sticks (ends N (Leave Stuck c)) }

  pub when_ready_related : (N : ℕ) (ready : Plain V S → Bool) (a b : Sem V S) → OwesPick Bool ready → Related N a b → Related N (when_ready ready a) (when_ready ready b)
  when_ready_related N ready a b owes h = record {
    from = λ d c. C.reads Bool (Res V S) res_place N (λ w. ready (plain_of (in_world w c)))
        (λ o w n. where_ready o a d n (in_world w c)) (λ o w n. where_ready o b d n (in_world w c))
        (owes.stable c) (λ o. (ready_related N o a b h).from d c);
  }
