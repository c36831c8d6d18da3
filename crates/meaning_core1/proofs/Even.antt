-- What instructions of 1.0 and its host do evenly: they tell events alone, touch no answer, and do the same before other
-- answers. Growths tell of an answer. Nothing tells of captures.
use Rattle.std.proofs.Common.{◌≡◌, ℕ, Bool, true, false, ◌&&◌, if◌then◌else◌, List, [], ◌∷◌, ◌++◌, map, reverse, ◌⊎◌, inl, Option, Some, None, refl, sym, ap, ◌∙◌, subst, append-nil}
use Rattle.std.proofs.lemmas.List.{append_cancel_left}
use Rattle.std.specs.Prelude.{slice_get, set}
use Rattle.std.specs.List.{AllByRecursion}
use Rattle.host_kit.specs.Offered1.{exported1}
use Rattle.host_kit.specs.Trace.{Mark, Shows, Grown, Captured, Begins, seen, answers}
use Rattle.host_kit.proofs.Marks.{begins_same, begins_append, begins_trans, begins_answers, answers-shown, answers-grown}
use Rattle.host_kit.specs.declared.event.Event.{Event}
use Rattle.host_kit.specs.declared.event.Event.TheVariants as events
use Rattle.host_kit.specs.declared.script.Act.{Act}
use Rattle.host_kit.specs.declared.script.Act.TheVariants.{Set, Peek, Poke}
use Rattle.host_kit.specs.declared.script.Reply.{Reply}
use Rattle.host_kit.specs.declared.value.Value.{Value}
use Rattle.core1_ast.specs.declared.module.parts.ExportDesc1.{ExportDesc1}
use Rattle.core1_ast.specs.declared.module.parts.ExportDesc1.TheVariants as exports
use Rattle.core1_ast.specs.declared.module.parts.Module1.{Module1}
use Rattle.evaluation_kit.specs.declared.jump.Jump.{Jump}
use Rattle.evaluation_kit.specs.declared.jump.Jump.TheVariants as jumps
use Rattle.outcome_kit.specs.Code.{Go, Leave}
use Rattle.outcome_kit.proofs.Growing.{Order}
use Rattle.evaluation_kit.specs.Configurations.{Plain, PlainRes}
use Rattle.evaluation_kit.specs.Leaves
use Rattle.evaluation_kit.specs.Leaves.{operands_or_trap, on_operands, jump_where, top, below, read_range, write_range, with_operands}
use Rattle.evaluation_kit.proofs.Growing.{state_after, LeadsOn}
use Rattle.evaluation_kit.proofs.Invariants.{Kept, PlainAfter, Keeps}
use Rattle.evaluation_kit.proofs.Replaying.{Answering, ActReplays, untouched, free_plain, freed_plain, PastPlain}
use Rattle.meaning_core1.specs.declared.val1.Val1.{Val1}
use Rattle.meaning_core1.specs.Store.{Store1, State1, Memory1, Effect, Growth1, absent, in_store, show, sizes1, effect_or_trap, by_store, grows1, growth_settled, grow_or_trap, by_growth, host_value, value_from}
use Rattle.meaning_core1.specs.Hosting.{exported_values, set1, shown_bytes, peek_memory, peek1, poked, poke_memory, poke1, act1, acts1, answer1, call_host}

-- the mark is no capture, and does not show that a store of captures is full
abbrev pub NoCapture : Mark → Type 0
NoCapture (Shows events.Full) = ⊥
NoCapture (Shows e) = Unit {0}
NoCapture (Grown ok sizes) = Unit {0}
NoCapture Captured = ⊥

-- the state before other answers to growths
abbrev pub answering_with : List Bool → State1 → State1
answering_with g s = record s { grows = g }

pub record Even (s t : State1) : Type 0 where
  pub begins : Begins s.trace t.trace
  pub told : answers (seen t.trace) ≡ answers (seen s.trace)
  pub no_capture : AllByRecursion NoCapture s.trace → AllByRecursion NoCapture t.trace

pub even_same : (s t : State1) → t.trace ≡ s.trace → Even s t
even_same s t e = record {
  begins = subst (λ l. Begins s.trace l) (sym e) (begins_same s.trace);
  told = ap (λ l. answers (seen l)) e;
  no_capture = subst (λ l. AllByRecursion NoCapture l) (sym e);
}

pub even_itself : (s : State1) → Even s s
even_itself s = even_same s s refl

pub even_trans : (a b c : State1) → Even a b → Even b c → Even a c
even_trans a b c f g = record {
  begins = begins_trans a.trace b.trace c.trace f.begins g.begins;
  told = g.told ∙ f.told;
  no_capture = λ h. g.no_capture (f.no_capture h);
}

pub all_append : {A : Type 0} (P : A → Type 0) (xs : List A) (x : A) → AllByRecursion P xs → P x → AllByRecursion P (xs ++ x ∷ [])
all_append P [] x h p = (p, tt)
all_append P (y ∷ xs) x h p = (h.0, all_append P xs x h.1 p)

pub even_show : (e : Event) (s : State1) → NoCapture (Shows e) → Even s (show e s)
even_show e s other = record {
  begins = begins_append s.trace (Shows e ∷ []);
  told = answers-shown s.trace e;
  no_capture = λ h. all_append NoCapture s.trace (Shows e) h other;
}

-- the laws as the kit asks for them
abbrev pub order : Order State1
order = record {
  Leads = λ s t. Begins s.trace t.trace;
  stays = λ s. begins_same s.trace;
  joins = λ a b c. begins_trans a.trace b.trace c.trace;
}

abbrev pub clean : Kept State1
clean = record {
  Always = λ s. AllByRecursion NoCapture s.trace;
  At = λ j s. Unit {0};
  trap = λ s h. tt;
  stuck = λ s h. tt;
  branch = λ k i s h. tt;
}

abbrev pub answering : Answering State1
answering = record {
  told = λ s. answers (seen s.trace);
  free = answering_with;
  Beyond = λ s t. ⊥;
  Leads = λ s t. Begins s.trace t.trace;
  stays = λ s. begins_same s.trace;
  joins = λ a b c. begins_trans a.trace b.trace c.trace;
  tells = λ a b l. let more = begins_answers a.trace b.trace l in (more.0, sym more.1);
  beyond_stays = λ s a b p l. p;
}

-- plain instructions
pub record EvenHere (s : State1) (here : PlainRes Val1 State1) (there : List Bool → PlainRes Val1 State1) : Type 0 where
  pub even : Even s (state_after here)
  pub again : (g : List Bool) → there g ≡ freed_plain answering g here

pub record EvenAct (act : Plain Val1 State1 → PlainRes Val1 State1) : Type 0 where
  pub here : (p : Plain Val1 State1) → EvenHere p.state (act p) (λ g. act (free_plain answering g p))

clean_after : (r : PlainRes Val1 State1) → AllByRecursion NoCapture (state_after r).trace → PlainAfter clean r
clean_after (Go p) h = h
clean_after (Leave j p) h = record { always = h; at_jump = tt }

module _ (act : Plain Val1 State1 → PlainRes Val1 State1) (h : EvenAct act) where
  pub even_leads : LeadsOn order act
  even_leads p = (h.here p).even.begins

  pub even_clean : Keeps clean act
  even_clean p k = clean_after (act p) ((h.here p).even.no_capture k)

  pub even_replays : ActReplays answering act
  even_replays = untouched answering act even_leads (λ p. (h.here p).even.told) (λ p g. (h.here p).again g)

trap_here : (p : Plain Val1 State1) → EvenHere p.state (Leave jumps.Trap p) (λ g. Leave jumps.Trap (free_plain answering g p))
trap_here p = record { even = even_itself p.state; again = λ g. refl }

operands_here : (p : Plain Val1 State1) (o : Option (List Val1)) → EvenHere p.state (operands_or_trap p o) (λ g. operands_or_trap (free_plain answering g p) o)
operands_here p None = trap_here p
operands_here p (Some operands) = record { even = even_itself p.state; again = λ g. refl }

pub even_operands : (f : List Val1 → Option (List Val1)) → EvenAct (on_operands f)
even_operands f = record { here = λ p. operands_here p (f p.operands) }

store_here : (p : Plain Val1 State1) (o : Effect) → EvenHere p.state (effect_or_trap p o) (λ g. effect_or_trap (free_plain answering g p) o)
store_here p None = trap_here p
store_here p (Some r) = record { even = even_same p.state (in_store r.1 p.state) refl; again = λ g. refl }

pub even_store : (f : List Val1 → Store1 → Effect) → EvenAct (by_store f)
even_store f = record { here = λ p. store_here p (f p.operands p.state.store) }

pub even_nothing : EvenAct (Leaves.nothing {V = Val1} {S = State1})
even_nothing = record { here = λ p. record { even = even_itself p.state; again = λ g. refl } }

pub even_get : (x : ℕ) → EvenAct (Leaves.get_local absent x)
even_get x = record { here = λ p. record { even = even_itself p.state; again = λ g. refl } }

pub even_set : (x : ℕ) → EvenAct (Leaves.set_local absent x)
even_set x = record { here = λ p. record { even = even_itself p.state; again = λ g. refl } }

pub even_tee : (x : ℕ) → EvenAct (Leaves.tee_local absent x)
even_tee x = record { here = λ p. record { even = even_itself p.state; again = λ g. refl } }

pub even_jump : (j : Jump) → EvenAct (Leaves.jump {V = Val1} {S = State1} j)
even_jump j = record { here = λ p. record { even = even_itself p.state; again = λ g. refl } }

where_here : (b : Bool) (k : ℕ) (p : Plain Val1 State1) → EvenHere p.state (jump_where b (jumps.Branch k) p) (λ g. jump_where b (jumps.Branch k) (free_plain answering g p))
where_here true k p = record { even = even_itself p.state; again = λ g. refl }
where_here false k p = record { even = even_itself p.state; again = λ g. refl }

pub even_branch_if : (test : List Val1 → Bool) (k : ℕ) → EvenAct (Leaves.branch_if test k)
even_branch_if test k = record { here = λ p. where_here (test p.operands) k (with_operands (below p.operands) p) }

pub even_branch_table : (number : List Val1 → ℕ) (labels : List ℕ) (last : ℕ) → EvenAct (Leaves.branch_table number labels last)
even_branch_table number labels last = record { here = λ p. record { even = even_itself p.state; again = λ g. refl } }

-- growths
pub no_more : (xs ys : List Bool) → xs ≡ xs ++ ys → ys ≡ []
no_more xs ys e = sym (append_cancel_left xs [] ys (append-nil xs ∙ e))

granted_again : (fits b : Bool) → (fits && (fits && b)) ≡ (fits && b)
granted_again true b = refl
granted_again false b = refl

abbrev after : Bool → Growth1 → Store1 → Store1
after ok g s = if ok then g.larger else s

growth_leads : (p : Plain Val1 State1) (o : Option Growth1) → Begins p.state.trace (state_after (grow_or_trap p o)).trace
growth_leads p None = begins_same p.state.trace
growth_leads p (Some g) = begins_append p.state.trace (Grown (grows1 g p.state) (sizes1 (after (grows1 g p.state) g p.state.store)) ∷ [])

growth_clean : (p : Plain Val1 State1) (o : Option Growth1) → AllByRecursion NoCapture p.state.trace → PlainAfter clean (grow_or_trap p o)
growth_clean p None h = record { always = h; at_jump = tt }
growth_clean p (Some g) h = all_append NoCapture p.state.trace (Grown (grows1 g p.state) (sizes1 (after (grows1 g p.state) g p.state.store))) h tt

growth_again : (p : Plain Val1 State1) (o : Option Growth1) (a t : List Bool) → answers (seen (state_after (grow_or_trap p o)).trace) ≡ answers (seen p.state.trace) ++ a → (grow_or_trap (free_plain answering (a ++ t) p) o ≡ freed_plain answering t (grow_or_trap p o)) ⊎ PastPlain answering (grow_or_trap p o) (grow_or_trap (free_plain answering (a ++ t) p) o)
growth_again p None a t e = inl (ap (λ l. Leave jumps.Trap (free_plain answering (l ++ t) p)) (no_more (answers (seen p.state.trace)) a e))
growth_again p (Some g) a t e =
    let ok = grows1 g p.state in
    let told : a ≡ ok ∷ [] = append_cancel_left (answers (seen p.state.trace)) a (ok ∷ []) (sym e ∙ answers-grown p.state.trace ok (sizes1 (after ok g p.state.store))) in
    let again : grows1 g (answering_with (ok ∷ t) p.state) ≡ ok = granted_again g.fits (top true p.state.grows) in
    inl (ap (λ l. grow_or_trap (free_plain answering (l ++ t) p) (Some g)) told ∙ ap (λ b. growth_settled b g (free_plain answering (ok ∷ t) p)) again)

module _ (f : List Val1 → Store1 → Option Growth1) where
  pub grow_leads : LeadsOn order (by_growth f)
  grow_leads p = growth_leads p (f p.operands p.state.store)

  pub grow_clean : Keeps clean (by_growth f)
  grow_clean p h = growth_clean p (f p.operands p.state.store) h

  pub grow_replays : ActReplays answering (by_growth f)
  grow_replays = record { leads = grow_leads; again = λ p a t. growth_again p (f p.operands p.state.store) a t }

-- what the host does
pub record EvenStep (f : State1 → State1) : Type 0 where
  pub even : (s : State1) → Even s (f s)
  pub again : (g : List Bool) (s : State1) → f (answering_with g s) ≡ answering_with g (f s)

set_step : (o : Option ExportDesc1) (v : Value) → EvenStep (set1 o v)
set_step (Some (exports.Global x)) v = record { even = λ s. even_same s _ refl; again = λ g s. refl }
set_step (Some _) v = record { even = even_itself; again = λ g s. refl }
set_step None v = record { even = even_itself; again = λ g s. refl }

bytes_even : (o : Option (List ℕ)) (s : State1) → Even s (shown_bytes o s)
bytes_even None s = even_show events.OutOfRange s tt
bytes_even (Some bytes) s = even_show (events.Peeked bytes) s tt

bytes_again : (o : Option (List ℕ)) (g : List Bool) (s : State1) → shown_bytes o (answering_with g s) ≡ answering_with g (shown_bytes o s)
bytes_again None g s = refl
bytes_again (Some bytes) g s = refl

peek_even : (o : Option Memory1) (at count : ℕ) (s : State1) → Even s (peek_memory o at count s)
peek_even None at count s = even_itself s
peek_even (Some m) at count s = bytes_even (read_range at count m.bytes) s

peek_again : (o : Option Memory1) (at count : ℕ) (g : List Bool) (s : State1) → peek_memory o at count (answering_with g s) ≡ answering_with g (peek_memory o at count s)
peek_again None at count g s = refl
peek_again (Some m) at count g s = bytes_again (read_range at count m.bytes) g s

peek_step : (o : Option ExportDesc1) (at count : ℕ) → EvenStep (peek1 o at count)
peek_step (Some (exports.Memory x)) at count = record {
  even = λ s. peek_even (slice_get s.store.memories x) at count s;
  again = λ g s. peek_again (slice_get s.store.memories x) at count g s;
}
peek_step (Some _) at count = record { even = even_itself; again = λ g s. refl }
peek_step None at count = record { even = even_itself; again = λ g s. refl }

poked_even : (x : ℕ) (m : Memory1) (o : Option (List ℕ)) (s : State1) → Even s (poked x m o s)
poked_even x m None s = even_show events.OutOfRange s tt
poked_even x m (Some bytes) s = even_same s _ refl

poked_again : (x : ℕ) (m : Memory1) (o : Option (List ℕ)) (g : List Bool) (s : State1) → poked x m o (answering_with g s) ≡ answering_with g (poked x m o s)
poked_again x m None g s = refl
poked_again x m (Some bytes) g s = refl

memory_even : (x : ℕ) (o : Option Memory1) (at : ℕ) (bytes : List ℕ) (s : State1) → Even s (poke_memory x o at bytes s)
memory_even x None at bytes s = even_itself s
memory_even x (Some m) at bytes s = poked_even x m (write_range at bytes m.bytes) s

memory_again : (x : ℕ) (o : Option Memory1) (at : ℕ) (bytes : List ℕ) (g : List Bool) (s : State1) → poke_memory x o at bytes (answering_with g s) ≡ answering_with g (poke_memory x o at bytes s)
memory_again x None at bytes g s = refl
memory_again x (Some m) at bytes g s = poked_again x m (write_range at bytes m.bytes) g s

poke_step : (o : Option ExportDesc1) (at : ℕ) (bytes : List ℕ) → EvenStep (poke1 o at bytes)
poke_step (Some (exports.Memory x)) at bytes = record {
  even = λ s. memory_even x (slice_get s.store.memories x) at bytes s;
  again = λ g s. memory_again x (slice_get s.store.memories x) at bytes g s;
}
poke_step (Some _) at bytes = record { even = even_itself; again = λ g s. refl }
poke_step None at bytes = record { even = even_itself; again = λ g s. refl }

pub act_step : (m : Module1) (a : Act) → EvenStep (act1 m a)
act_step m (Set name v) = set_step (exported1 m name) v
act_step m (Peek name at count) = peek_step (exported1 m name) at count
act_step m (Poke name at bytes) = poke_step (exported1 m name) at bytes

acts_step : (m : Module1) (list : List Act) → EvenStep (acts1 m list)
acts_step m [] = record { even = even_itself; again = λ g s. refl }
acts_step m (a ∷ more) = record {
  even = λ s. even_trans s (act1 m a s) (acts1 m more (act1 m a s)) ((act_step m a).even s) ((acts_step m more).even (act1 m a s));
  again = λ g s. ap (acts1 m more) ((act_step m a).again g s) ∙ (acts_step m more).again g (act1 m a s);
}

answer_here : (m : Module1) (x : ℕ) (o : Option (List Reply)) (s : State1) → EvenHere s (answer1 m x o s) (λ g. answer1 m x o (answering_with g s))
answer_here m x (Some (reply ∷ more)) s =
    let rest : State1 = record s { replies = set s.replies x more } in
    record {
      even = even_trans s rest (acts1 m reply.acts rest) (even_same s rest refl) ((acts_step m reply.acts).even rest);
      again = λ g. ap (λ t. Go (record { operands = reverse (map value_from reply.values); locals = []; state = t })) ((acts_step m reply.acts).again g rest);
    }
answer_here m x (Some []) s = record { even = even_itself s; again = λ g. refl }
answer_here m x None s = record { even = even_itself s; again = λ g. refl }

pub even_host : (m : Module1) (x : ℕ) → EvenAct (call_host m x)
even_host m x = record {
  here = λ p.
      let s = show (events.HostCall x (map host_value (reverse p.operands)) (exported_values m p.state)) p.state in
      let rest = answer_here m x (slice_get p.state.replies x) s in
      record { even = even_trans p.state s _ (even_show _ p.state tt) rest.even; again = rest.again };
}
