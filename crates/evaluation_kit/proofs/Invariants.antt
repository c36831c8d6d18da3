-- What every state of a run keeps, and what holds where code leaves by a jump.
use Rattle.std.proofs.Common.{ℕ, zero, suc, ◌-◌, ◌≤◌, [], Option, Some, None, sym, subst, arith}
use Rattle.evaluation_kit.specs.declared.jump.Jump.{Jump}
use Rattle.evaluation_kit.specs.declared.jump.Jump.TheVariants.{Branch, Throw, Trap, Stuck}
use Rattle.outcome_kit.specs.Outcome.{Out, Done, Halt, after, bind, turn}
use Rattle.outcome_kit.specs.Code.{Go, Leave}
use Rattle.evaluation_kit.specs.Configurations.{World, Conf, Plain, PlainRes, in_world, plain_of, deeper, settled}
use Rattle.evaluation_kit.specs.Control.{Callee, Own, Host, Caught, taken}
use Rattle.evaluation_kit.specs.Forms.{Form, Flat, Enclose, Repeat, Choose, Guard, Invoke, InvokeBy}
use Rattle.evaluation_kit.specs.Languages.{Language}
use Rattle.evaluation_kit.proofs.Closure.{Run, Place, Closed, Lighter, branch_ends, branch_moves, return_ends, tail_begins, traps, sticks, res_place}
use Rattle.evaluation_kit.proofs.Whole.{OwesForm, OwesCallee, Owes}

-- what holds of each state, and beside it at each jump; a trap and stuck code add nothing, and a branch adds the same at
-- each label
pub record Kept (S : Type 0) : Type 1 where
  pub Always : S → Type 0
  pub At : Jump → S → Type 0
  pub trap : (s : S) → Always s → At Trap s
  pub stuck : (s : S) → Always s → At Stuck s
  pub branch : (k i : ℕ) (s : S) → At (Branch k) s → At (Branch i) s

module _ {S : Type 0} (K : Kept S) where
  abbrev pub AfterJump : Option Jump → S → Type 0
  AfterJump None s = Unit {0}
  AfterJump (Some j) s = K.At j s

  -- the state after a result
  pub record After (j : Option Jump) (s : S) : Type 0 where
    pub always : K.Always s
    pub at_jump : AfterJump j s

  abbrev pub Leaves : {R : Type 0} → Place S R → Out (World S) R → Type 0
  Leaves pl (Done u r) = After (pl.jump r) (pl.at r).state
  Leaves pl (Halt w) = After None w.state

  pub record KeptBy {R : Type 0} (pl : Place S R) (N : ℕ) (j : Option Jump) (m : Run S R) : Type 0 where
    pub by : (w : World S) (n : ℕ) → n ≤ N → After j w.state → Leaves pl (m w n)

  leaves_after : {R : Type 0} (pl : Place S R) (u : ℕ) (o : Out (World S) R) → Leaves pl o → Leaves pl (after u o)
  leaves_after pl u (Done v r) h = h
  leaves_after pl u (Halt w) h = h

  pub bind_kept : {R R' : Type 0} (pl : Place S R) (pl' : Place S R') (N : ℕ) (k : R → ℕ → Out (World S) R') → ((r : R) → KeptBy pl' N (pl.jump r) (λ w n. k (pl.put w r) n)) → (n : ℕ) (o : Out (World S) R) → n ≤ N → Leaves pl o → Leaves pl' (bind n o k)
  bind_kept pl pl' N k next n (Done u r) le h =
      let less : n - u ≤ N = omega arith in
      leaves_after pl' u (k r (n - u)) (subst (λ x. Leaves pl' (k x (n - u))) (pl.put_at r) ((next r).by (pl.at r) (n - u) less h))
  bind_kept pl pl' N k next n (Halt w) le h = h

  pub start_kept : {R : Type 0} (pl : Place S R) (m : Run S R) (w : World S) (n : ℕ) → n ≤ 0 → After None w.state → Leaves pl (turn n w (m w))
  start_kept pl m w zero le h = h
  start_kept pl m w (suc n) le h = let no : ⊥ = omega arith in absurd no

  pub turn_kept : {R : Type 0} (pl : Place S R) (N : ℕ) (m : Run S R) → KeptBy pl N None m → (w : World S) (n : ℕ) → n ≤ suc N → After None w.state → Leaves pl (turn n w (m w))
  turn_kept pl N m g w zero le h = h
  turn_kept pl N m g w (suc n) le h = let less : n ≤ N = omega arith in leaves_after pl 1 (m w n) (g.by w n less h)

  pub lighter_after : (j i : Option Jump) (s : S) → Lighter j i → After j s → After i s
  lighter_after _ _ s (branch_ends k) h = record { always = h.always; at_jump = tt }
  lighter_after _ _ s (branch_moves k i) h = record { always = h.always; at_jump = K.branch k i s h.at_jump }
  lighter_after _ _ s return_ends h = record { always = h.always; at_jump = tt }
  lighter_after _ _ s (tail_begins f) h = record { always = h.always; at_jump = tt }
  lighter_after _ _ s traps h = record { always = h.always; at_jump = K.trap s h.always }
  lighter_after _ _ s sticks h = record { always = h.always; at_jump = K.stuck s h.always }

  pub done_kept : {R : Type 0} (pl : Place S R) (r : R) (w : World S) → After (pl.jump r) w.state → Leaves pl (Done 0 (pl.put w r))
  done_kept pl r w h =
      subst (λ v. After (pl.jump (pl.put w r)) v.state) (sym (pl.at_put w r)) (subst (λ j. After j w.state) (sym (pl.jump_put w r)) h)

  pub less_kept : {R : Type 0} (pl : Place S R) (N : ℕ) (j : Option Jump) (m : Run S R) → KeptBy pl (suc N) j m → (w : World S) (n : ℕ) → n ≤ N → After j w.state → Leaves pl (m w n)
  less_kept pl N j m g w n le h = let more : n ≤ suc N = omega arith in g.by w n more h

  -- every state of a run is so
  unfoldable pub keeping : Closed S
  keeping = record {
    Holds = λ R pl N j m m'. KeptBy pl N j m;
    Stable = λ X g. Unit {0};
    done = λ R pl N r. record { by = λ w n le h. done_kept pl r w h };
    bind = λ R R' pl pl' N j m m' k k' g next. record { by = λ w n le h. bind_kept pl pl' N k next n (m w n) le (g.by w n le h) };
    start = λ R pl m m'. record { by = start_kept pl m };
    turn = λ R pl N m m' g. record { by = turn_kept pl N m g };
    less = λ R pl N j m m' g. record { by = less_kept pl N j m g };
    lighter = λ R pl N j i m m' e g. record { by = λ w n le h. g.by w n le (lighter_after j i w.state e h) };
    deeper = λ R pl N m m' d g. record { by = λ w n le h. g.by (deeper d w) n le h };
    reads = λ X R pl N f m m' s g. record { by = λ w n le h. (g (f w)).by w n le h };
    alike = λ R pl N j m m' l l' g e e'. record { by = λ w n le h. subst (λ o. Leaves pl o) (e w n) (g.by w n le h) };
  }

  -- what this asks of plain instructions, handlers and host functions
  abbrev pub PlainAfter : {V : Type 0} → PlainRes V S → Type 0
  PlainAfter (Go p) = K.Always p.state
  PlainAfter (Leave j p) = After (Some j) p.state

  abbrev pub Keeps : {V : Type 0} → (Plain V S → PlainRes V S) → Type 0
  Keeps {V} act = (p : Plain V S) → K.Always p.state → PlainAfter (act p)

  abbrev pub CaughtKeeps : {V : Type 0} → Option (Caught V S) → Type 0
  CaughtKeeps None = Unit {0}
  CaughtKeeps (Some k) = After (Some k.jump) k.state

  abbrev pub FormKeeps : {V X : Type 0} → Form V S X → Type 0
  FormKeeps (Flat act) = Keeps act
  FormKeeps (Guard p r h body) = (e : ℕ) (s : S) → After (Some (Throw e)) s → CaughtKeeps (h e s)
  FormKeeps _ = Unit {0}

  abbrev pub CalleeKeeps : {I V : Type 0} → Option (Callee I V S) → Type 0
  CalleeKeeps (Some (Host p act)) = Keeps act
  CalleeKeeps _ = Unit {0}

  settled_keeps : {V : Type 0} (w : World S) (r : PlainRes V S) → PlainAfter r → Leaves (res_place {V = V}) (Done 0 (settled w r))
  settled_keeps w (Go p) h = record { always = h; at_jump = tt }
  settled_keeps w (Leave j p) h = h

  taken_keeps : {V : Type 0} (e : ℕ) (w : World S) (c : Conf V S) (k : Option (Caught V S)) → After (Some (Throw e)) w.state → CaughtKeeps k → Leaves res_place (Done 0 (taken e k (in_world w c)))
  taken_keeps e w c None h l = h
  taken_keeps e w c (Some k) h l = l

  form_owes : {V X : Type 0} (form : Form V S X) → FormKeeps form → OwesForm keeping form
  unfolding keeping
  form_owes (Flat act) l = record {
    leaf = λ N c. record { by = λ w n le h. let p = plain_of (in_world w c) in settled_keeps w (act p) (l p h.always) };
  }
  form_owes (Guard p r h body) l = record {
    handler = λ N e c. record { by = λ w n le g. taken_keeps e w c (h e w.state) g (l e w.state g) };
  }
  form_owes (InvokeBy p pick) l = record { stable = λ c. tt }
  form_owes (Enclose p r body) l = tt
  form_owes (Repeat p r body) l = tt
  form_owes (Choose test p r first second) l = tt
  form_owes (Invoke p x) l = tt

  callee_owes : {I V : Type 0} (o : Option (Callee I V S)) → CalleeKeeps o → OwesCallee keeping o
  unfolding keeping
  callee_owes None l = tt
  callee_owes (Some (Own f)) l = tt
  callee_owes {V = V} (Some (Host p act)) l = record {
    host = λ N operands. record {
      by = λ w n le h.
          let seen : Plain V S = record { operands = operands; locals = []; state = w.state } in
          settled_keeps w (act seen) (l seen h.always);
    };
  }

  -- a language whose instructions and host functions keep it
  pub keeping_owes : {I : Type 0} {F : Type 0 → Type 0} {V : Type 0} (L : Language I F V S) → ((X : Type 0) (l : F X) → FormKeeps (L.layer X l)) → ((x : ℕ) → CalleeKeeps (L.callee x)) → Owes L keeping
  unfolding keeping
  keeping_owes L forms callees = record {
    forms = λ X l. form_owes (L.layer X l) (forms X l);
    ready = λ X l. record { stable = λ c. tt };
    callees = λ x. callee_owes (L.callee x) (callees x);
  }
