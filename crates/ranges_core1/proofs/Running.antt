-- What all values and all states of running code keep, for any language without handlers, if plain instructions and functions
-- of the host do: one lemma for each form of code.
use Rattle.std.proofs.Common.{ℕ, zero, suc, ◌+◌, ◌-◌, Bool, true, false, List, [], ◌∷◌, take, drop, reverse, Option, Some, None}
use Rattle.std.specs.Prelude.{if◌then◌else◌}
use Rattle.std.specs.List.{AllByRecursion}
use Rattle.evaluation_kit.specs.declared.jump.Jump.TheVariants.{Branch, Return, TailCall}
use Rattle.outcome_kit.specs.Outcome.{Out, Done, Halt, after, bind, turn}
use Rattle.outcome_kit.specs.Code.{Go, Leave, go_on, run}
use Rattle.evaluation_kit.specs.Configurations.{World, Conf, Plain, PlainRes, Res, Sem, plain_of, settled}
use Rattle.evaluation_kit.specs.Control.{Function, Callee, Own, Host, entered, popped, kept, leave_block, leave_pass, passes, block, loop, choose, returned, call, call_picked, call_by, opened, leave_body, enter, arrive}
use Rattle.evaluation_kit.specs.Forms.{Form, Flat, Enclose, Repeat, Choose, Guard, Invoke, InvokeBy, eval}
use Rattle.ranges_core1.proofs.Lists.{all_take, all_drop, all_append, all_reverse}

-- a run that ends in a result with Q, or is halted in a state that is safe
module _ {S : Type 0} (Safe : S → Type 0) where
  abbrev pub Ends : {R : Type 0} → (R → Type 0) → Out (World S) R → Type 0
  Ends Q (Done used r) = Q r
  Ends Q (Halt w) = Safe w.state

  pub after_ends : {R : Type 0} (Q : R → Type 0) (used : ℕ) (o : Out (World S) R) → Ends Q o → Ends Q (after used o)
  after_ends Q used (Done more r) h = h
  after_ends Q used (Halt w) h = h

  pub bind_ends : {R T : Type 0} (Q : R → Type 0) (U : T → Type 0) (n : ℕ) (next : R → ℕ → Out (World S) T) → ((r : R) (k : ℕ) → Q r → Ends U (next r k)) → (o : Out (World S) R) → Ends Q o → Ends U (bind n o next)
  bind_ends Q U n next more (Done used r) h = after_ends U used (next r (n - used)) (more r (n - used) h)
  bind_ends Q U n next more (Halt w) h = h

  pub turn_ends : {R : Type 0} (Q : R → Type 0) (n : ℕ) (w : World S) (body : ℕ → Out (World S) R) → Safe w.state → ((k : ℕ) → Ends Q (body k)) → Ends Q (turn n w body)
  turn_ends Q zero w body h more = h
  turn_ends Q (suc n) w body h more = after_ends Q 1 (body n) (more n)

module _ {V S : Type 0} (P : V → Type 0) (Safe : S → Type 0) where
  -- values in lists, a configuration, and what a plain instruction sees
  abbrev pub Sound : List V → Type 0
  Sound l = AllByRecursion P l

  pub record Holds (c : Conf V S) : Type 0 where
    pub operands : Sound c.operands
    pub locals : Sound c.locals
    pub state : Safe c.world.state

  pub record PlainHolds (p : Plain V S) : Type 0 where
    pub operands : Sound p.operands
    pub locals : Sound p.locals
    pub state : Safe p.state

  -- results
  abbrev pub ResHolds : Res V S → Type 0
  ResHolds (Go c) = Holds c
  ResHolds (Leave j c) = Holds c

  abbrev pub PlainResHolds : PlainRes V S → Type 0
  PlainResHolds (Go p) = PlainHolds p
  PlainResHolds (Leave j p) = PlainHolds p

  -- plain instructions, and code
  pub record ActKeeps (act : Plain V S → PlainRes V S) : Type 0 where
    pub keeps : (p : Plain V S) → PlainHolds p → PlainResHolds (act p)

  pub record SemKeeps (a : Sem V S) : Type 0 where
    pub keeps : (open_calls n : ℕ) (c : Conf V S) → Holds c → Ends Safe ResHolds (a open_calls n c)

  settled_holds : (w : World S) (r : PlainRes V S) → PlainResHolds r → ResHolds (settled w r)
  settled_holds w (Go p) h = record { operands = h.operands; locals = h.locals; state = h.state }
  settled_holds w (Leave j p) h = record { operands = h.operands; locals = h.locals; state = h.state }

  plain_holds : (c : Conf V S) → Holds c → PlainHolds (plain_of c)
  plain_holds c h = record { operands = h.operands; locals = h.locals; state = h.state }

  -- code in order
  goes_on : (next : Sem V S) → SemKeeps next → (open_calls : ℕ) (r : Res V S) (k : ℕ) → ResHolds r → Ends Safe ResHolds (go_on (next open_calls) r k)
  goes_on next h open_calls (Go c) k g = h.keeps open_calls k c g
  goes_on next h open_calls (Leave j c) k g = g

  pub run_keeps : (parts : List (Sem V S)) → AllByRecursion SemKeeps parts → SemKeeps (run parts)
  run_keeps [] h = record { keeps = λ open_calls n c k. k }
  run_keeps (a ∷ parts) h = record {
    keeps = λ open_calls n c k.
        bind_ends Safe ResHolds ResHolds n (go_on (run parts open_calls)) (goes_on (run parts) (run_keeps parts h.1) open_calls) (a open_calls n c) (h.0.keeps open_calls n c k);
  }

  -- blocks
  entered_holds : (p : ℕ) (c : Conf V S) → Holds c → Holds (entered p c)
  entered_holds p c h = record { operands = all_take P p c.operands h.operands; locals = h.locals; state = h.state }

  kept_holds : (r : ℕ) (under : List V) (c : Conf V S) → Sound under → Holds c → Holds (kept r under c)
  kept_holds r under c u h = record {
    operands = all_append P (take r c.operands) under (all_take P r c.operands h.operands) u;
    locals = h.locals;
    state = h.state;
  }

  popped_holds : (c : Conf V S) → Holds c → Holds (popped c)
  popped_holds c h = record { operands = all_drop P 1 c.operands h.operands; locals = h.locals; state = h.state }

  left_holds : (r : ℕ) (under : List V) (x : Res V S) → Sound under → ResHolds x → ResHolds (leave_block r under x)
  left_holds r under (Go c) u h = kept_holds r under c u h
  left_holds r under (Leave (Branch zero) c) u h = kept_holds r under c u h
  left_holds r under (Leave (Branch (suc k)) c) u h = h
  left_holds r under (Leave j c) u h = h

  block_keeps : (p r : ℕ) (body : Sem V S) → SemKeeps body → SemKeeps (block p r body)
  block_keeps p r body b = record {
    keeps = λ open_calls n c h.
        bind_ends Safe ResHolds ResHolds n (λ x k. Done 0 (leave_block r (drop p c.operands) x))
        (λ x k g. left_holds r (drop p c.operands) x (all_drop P p c.operands h.operands) g) (body open_calls n (entered p c))
        (b.keeps open_calls n (entered p c) (entered_holds p c h));
  }

  chosen_keeps : (test : Bool) (first second : Sem V S) → SemKeeps first → SemKeeps second → SemKeeps (if test then first else second)
  chosen_keeps true first second a b = a
  chosen_keeps false first second a b = b

  choose_keeps : (test : List V → Bool) (p r : ℕ) (first second : Sem V S) → SemKeeps first → SemKeeps second → SemKeeps (choose test p r first second)
  choose_keeps test p r first second a b = record {
    keeps = λ open_calls n c h.
        (block_keeps p r (if test c.operands then first else second) (chosen_keeps (test c.operands) first second a b)).keeps open_calls n (popped c) (popped_holds c h);
  }

  -- loops
  pass_keeps : (again : Sem V S) → SemKeeps again → (p r : ℕ) (under : List V) → Sound under → (open_calls : ℕ) (x : Res V S) (k : ℕ) → ResHolds x → Ends Safe ResHolds (leave_pass (again open_calls) p r under x k)
  pass_keeps again a p r under u open_calls (Go c) k g = kept_holds r under c u g
  pass_keeps again a p r under u open_calls (Leave (Branch zero) c) k g = a.keeps open_calls k (entered p c) (entered_holds p c g)
  pass_keeps again a p r under u open_calls (Leave (Branch (suc i)) c) k g = g
  pass_keeps again a p r under u open_calls (Leave j c) k g = g

  passes_keep : (most p r : ℕ) (under : List V) (body : Sem V S) → Sound under → SemKeeps body → SemKeeps (passes most p r under body)
  passes_keep zero p r under body u b = record { keeps = λ open_calls n c h. h.state }
  passes_keep (suc most) p r under body u b = record {
    keeps = λ open_calls n c h.
        turn_ends Safe ResHolds n c.world (λ k. bind k (body open_calls k c) (leave_pass (passes most p r under body open_calls) p r under)) h.state
        (λ k. bind_ends Safe ResHolds ResHolds k (leave_pass (passes most p r under body open_calls) p r under)
        (pass_keeps (passes most p r under body) (passes_keep most p r under body u b) p r under u open_calls) (body open_calls k c) (b.keeps open_calls k c h));
  }

  loop_keeps : (p r : ℕ) (body : Sem V S) → SemKeeps body → SemKeeps (loop p r body)
  loop_keeps p r body b = record {
    keeps = λ open_calls n c h.
        (passes_keep n p r (drop p c.operands) body (all_drop P p c.operands h.operands) b).keeps open_calls n (entered p c) (entered_holds p c h);
  }

  -- calls
  returned_holds : (locals under : List V) (x : Res V S) → Sound locals → Sound under → ResHolds x → ResHolds (returned locals under x)
  returned_holds locals under (Go c) l u h = record { operands = all_append P c.operands under h.operands u; locals = l; state = h.state }
  returned_holds locals under (Leave j c) l u h = record { operands = h.operands; locals = l; state = h.state }

  call_keeps : (p : ℕ) (f : Sem V S) → SemKeeps f → SemKeeps (call p f)
  call_keeps p f k = record {
    keeps = λ open_calls n c h.
        bind_ends Safe ResHolds ResHolds n (λ x m. Done 0 (returned c.locals (drop p c.operands) x))
        (λ x m g. returned_holds c.locals (drop p c.operands) x h.locals (all_drop P p c.operands h.operands) g) (f open_calls n (entered p c))
        (k.keeps open_calls n (entered p c) (entered_holds p c h));
  }

  picked_keeps : (p : ℕ) (funcs : ℕ → Sem V S) → ((f : ℕ) → SemKeeps (funcs f)) → (o : Option ℕ) → SemKeeps (call_picked p funcs o)
  picked_keeps p funcs fs None = record { keeps = λ open_calls n c h. h }
  picked_keeps p funcs fs (Some f) = record { keeps = λ open_calls n c h. (call_keeps p (funcs f) (fs f)).keeps open_calls n c h }

  call_by_keeps : (p : ℕ) (pick : Plain V S → Option ℕ) (funcs : ℕ → Sem V S) → ((f : ℕ) → SemKeeps (funcs f)) → SemKeeps (call_by p pick funcs)
  call_by_keeps p pick funcs fs = record {
    keeps = λ open_calls n c h. (picked_keeps p funcs fs (pick (plain_of c))).keeps open_calls n (popped c) (popped_holds c h);
  }

  -- what a form owes; there are no handlers
  abbrev pub FormKeeps : Form V S (Sem V S) → Type 0
  FormKeeps (Flat act) = ActKeeps act
  FormKeeps (Enclose p r body) = AllByRecursion SemKeeps body
  FormKeeps (Repeat p r body) = AllByRecursion SemKeeps body
  FormKeeps (Choose test p r first second) = AllByRecursion SemKeeps first × AllByRecursion SemKeeps second
  FormKeeps (Guard p r t body) = ⊥
  FormKeeps (Invoke p f) = Unit {0}
  FormKeeps (InvokeBy p pick) = Unit {0}

  pub eval_keeps : (funcs : ℕ → Sem V S) → ((f : ℕ) → SemKeeps (funcs f)) → (form : Form V S (Sem V S)) → FormKeeps form → SemKeeps (eval funcs form)
  eval_keeps funcs fs (Flat act) h = record { keeps = λ open_calls n c k. settled_holds c.world (act (plain_of c)) (h.keeps (plain_of c) (plain_holds c k)) }
  eval_keeps funcs fs (Enclose p r body) h = block_keeps p r (run body) (run_keeps body h)
  eval_keeps funcs fs (Repeat p r body) h = loop_keeps p r (run body) (run_keeps body h)
  eval_keeps funcs fs (Choose test p r first second) h = choose_keeps test p r (run first) (run second) (run_keeps first h.0) (run_keeps second h.1)
  eval_keeps funcs fs (Guard p r t body) h = absurd h
  eval_keeps funcs fs (Invoke p f) h = call_keeps p (funcs f) (fs f)
  eval_keeps funcs fs (InvokeBy p pick) h = call_by_keeps p pick funcs fs

  -- the entry of a function, whose further locals begin with sound values
  opened_holds : {I : Type 0} (open_calls : ℕ) (f : Function I V) (c : Conf V S) → Sound f.zeros → Holds c → Holds (opened open_calls f c)
  opened_holds open_calls f c z h = record {
    operands = tt;
    locals = all_append P (reverse (take f.params c.operands)) f.zeros (all_reverse P (take f.params c.operands) (all_take P f.params c.operands h.operands)) z;
    state = h.state;
  }

  ended_holds : (r : ℕ) (c : Conf V S) → Holds c → Holds (record c { operands = take r c.operands })
  ended_holds r c h = record { operands = all_take P r c.operands h.operands; locals = h.locals; state = h.state }

  pub enter_keeps : {I : Type 0} (code : Sem V S) (funcs : ℕ → Sem V S) (f : Function I V) → SemKeeps code → ((g : ℕ) → SemKeeps (funcs g)) → Sound f.zeros → SemKeeps (enter code funcs f)
  enter_keeps code funcs f k fs z = record {
    keeps = λ open_calls n c h.
        bind_ends Safe ResHolds ResHolds n (leave_body (λ g. funcs g open_calls) f.results) (left open_calls) (code (open_calls + 1) n (opened open_calls f c))
        (k.keeps (open_calls + 1) n (opened open_calls f c) (opened_holds open_calls f c z h));
  }
    where
      left : (open_calls : ℕ) (x : Res V S) (m : ℕ) → ResHolds x → Ends Safe ResHolds (leave_body (λ g. funcs g open_calls) f.results x m)
      left open_calls (Go c) m g = ended_holds f.results c g
      left open_calls (Leave (Branch i) c) m g = ended_holds f.results c g
      left open_calls (Leave Return c) m g = ended_holds f.results c g
      left open_calls (Leave (TailCall i) c) m g = (fs i).keeps open_calls m c g
      left open_calls (Leave j c) m g = g

  -- what an index names
  abbrev pub CalleeKeeps : {I : Type 0} → (Function I V → Type 0) → Option (Callee I V S) → Type 0
  CalleeKeeps Q None = Unit {0}
  CalleeKeeps Q (Some (Own f)) = Q f
  CalleeKeeps Q (Some (Host p act)) = ActKeeps act

  pub arrive_keeps : {I : Type 0} (Q : Function I V → Type 0) (o : Option (Callee I V S)) (own : Function I V → Sem V S) → CalleeKeeps Q o → ((f : Function I V) → Q f → SemKeeps (own f)) → SemKeeps (arrive o own)
  arrive_keeps Q None own h g = record { keeps = λ open_calls n c k. k }
  arrive_keeps Q (Some (Own f)) own h g = record { keeps = λ open_calls n c k. (g f h).keeps open_calls n c k }
  arrive_keeps Q (Some (Host p act)) own h g = record {
    keeps = λ open_calls n c k.
        let seen : Plain V S = record { operands = take p c.operands; locals = []; state = c.world.state } in
        settled_holds c.world (act seen) (h.keeps seen (record { operands = all_take P p c.operands k.operands; locals = tt; state = k.state }));
  }
