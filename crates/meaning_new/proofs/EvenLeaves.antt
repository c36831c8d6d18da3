-- The plain instructions that are even: all but the growths.
use Rattle.std.proofs.Common.{◌≡◌, ℕ, Bool, true, false, List, [], ◌∷◌, map, reverse, Option, Some, None, refl, ap, ◌∙◌}
use Rattle.std.specs.Prelude.{slice_get, set}
use Rattle.host_kit.specs.Offered.{exported}
use Rattle.host_kit.specs.declared.event.Event.TheVariants as events
use Rattle.host_kit.specs.declared.script.Act.{Act}
use Rattle.host_kit.specs.declared.script.Act.TheVariants.{Set, Peek, Poke}
use Rattle.host_kit.specs.declared.script.Reply.{Reply}
use Rattle.host_kit.specs.declared.value.Value.{Value}
use Rattle.wasm_ast.specs.declared.module.parts.ExportDesc.{ExportDesc}
use Rattle.wasm_ast.specs.declared.module.parts.ExportDesc.TheVariants as exports
use Rattle.wasm_ast.specs.declared.module.parts.Module.{Module}
use Rattle.evaluation_kit.specs.declared.jump.Jump.{Jump}
use Rattle.evaluation_kit.specs.declared.jump.Jump.TheVariants as jumps
use Rattle.outcome_kit.specs.Code.{Go, Leave}
use Rattle.evaluation_kit.specs.Configurations.{Plain}
use Rattle.evaluation_kit.specs.Leaves
use Rattle.evaluation_kit.specs.Leaves.{operands_or_trap, on_operands, jump_where, top, below, read_range, with_operands}
use Rattle.meaning_new.specs.declared.val.Val.{Val}
use Rattle.meaning_new.specs.declared.val.Val.TheVariants as vals
use Rattle.meaning_new.specs.Store.{Store, State, Memory, After, store_or_trap, on_store, missing, tell, to_host, from_host, with_store}
use Rattle.meaning_new.specs.Exceptions.{thrown, throw, throw_ref}
use Rattle.meaning_new.specs.Host.{global_values, set_export, exported_memory, told_bytes, peek, told_write, poke, act, acts, replied, host_call}
use Rattle.meaning_new.specs.Memories.{write_at}
use Rattle.meaning_new.specs.Forms.{pick, tail_call, tail_call_by}
use Rattle.meaning_new.proofs.Even.{redial, redial_plain, Even, even_same, even_itself, even_trans, even_tell, EvenAct, EvenHere, even_act}

-- a trap leaves all as it is, and so does what only moves operands and locals
trap_here : (p : Plain Val State) → EvenHere p.state (Leave jumps.Trap p) (λ g permits room. Leave jumps.Trap (redial_plain g permits room p))
trap_here p = record { even = even_itself p.state; redialed = λ g permits room. refl; not_full = λ e. cc }

operands_here : (p : Plain Val State) (o : Option (List Val)) → EvenHere p.state (operands_or_trap p o) (λ g permits room. operands_or_trap (redial_plain g permits room p) o)
operands_here p None = trap_here p
operands_here p (Some operands) = record { even = even_itself p.state; redialed = λ g permits room. refl; not_full = tt }

pub even_operands : (f : List Val → Option (List Val)) → EvenAct (on_operands f)
even_operands f = even_act (on_operands f) (λ p. operands_here p (f p.operands))

store_here : (p : Plain Val State) (o : After) → EvenHere p.state (store_or_trap p o) (λ g permits room. store_or_trap (redial_plain g permits room p) o)
store_here p None = trap_here p
store_here p (Some r) = record {
  even = even_same p.state (with_store r.1 p.state) refl refl refl refl;
  redialed = λ g permits room. refl;
  not_full = tt;
}

pub even_store : (f : List Val → Store → After) → EvenAct (on_store f)
even_store f = even_act (on_store f) (λ p. store_here p (f p.operands p.state.store))

pub even_nothing : EvenAct (Leaves.nothing {V = Val} {S = State})
even_nothing = record { even = λ p. even_itself p.state; redialed = λ g permits room p. refl; not_full = λ p. tt }

pub even_get : (x : ℕ) → EvenAct (Leaves.get_local missing x)
even_get x = record { even = λ p. even_itself p.state; redialed = λ g permits room p. refl; not_full = λ p. tt }

pub even_set : (x : ℕ) → EvenAct (Leaves.set_local missing x)
even_set x = record { even = λ p. even_itself p.state; redialed = λ g permits room p. refl; not_full = λ p. tt }

pub even_tee : (x : ℕ) → EvenAct (Leaves.tee_local missing x)
even_tee x = record { even = λ p. even_itself p.state; redialed = λ g permits room p. refl; not_full = λ p. tt }

pub even_jump : (j : Jump) → (j ≡ jumps.Full → ⊥) → EvenAct (Leaves.jump {V = Val} {S = State} j)
even_jump j other = record { even = λ p. even_itself p.state; redialed = λ g permits room p. refl; not_full = λ p. other }

where_here : (b : Bool) (k : ℕ) (p : Plain Val State) → EvenHere p.state (jump_where b (jumps.Branch k) p) (λ g permits room. jump_where b (jumps.Branch k) (redial_plain g permits room p))
where_here true k p = record { even = even_itself p.state; redialed = λ g permits room. refl; not_full = λ e. cc }
where_here false k p = record { even = even_itself p.state; redialed = λ g permits room. refl; not_full = tt }

pub even_branch_if : (test : List Val → Bool) (k : ℕ) → EvenAct (Leaves.branch_if test k)
even_branch_if test k = even_act (Leaves.branch_if test k) (λ p. where_here (test p.operands) k (with_operands (below p.operands) p))

pub even_branch_table : (number : List Val → ℕ) (labels : List ℕ) (last : ℕ) → EvenAct (Leaves.branch_table number labels last)
even_branch_table number labels last = record { even = λ p. even_itself p.state; redialed = λ g permits room p. refl; not_full = λ p e. cc }

tail_here : (o : Option ℕ) (p : Plain Val State) → EvenHere p.state (tail_call o p) (λ g permits room. tail_call o (redial_plain g permits room p))
tail_here None p = trap_here p
tail_here (Some f) p = record { even = even_itself p.state; redialed = λ g permits room. refl; not_full = λ e. cc }

pub even_tail : (m : Module) (type table : ℕ) → EvenAct (tail_call_by m type table)
even_tail m type table = even_act (tail_call_by m type table) (λ p. tail_here (pick m type table p) (with_operands (below p.operands) p))

pub even_throw : (x count : ℕ) → EvenAct (throw x count)
even_throw x count = record {
  even = λ p. even_same p.state _ refl refl refl refl;
  redialed = λ g permits room p. refl;
  not_full = λ p e. cc;
}

thrown_here : (v : Val) (p : Plain Val State) → EvenHere p.state (thrown v p) (λ g permits room. thrown v (redial_plain g permits room p))
thrown_here (vals.Exn e) p = record { even = even_itself p.state; redialed = λ g permits room. refl; not_full = λ e'. cc }
thrown_here v p = trap_here p

pub even_throw_ref : EvenAct throw_ref
even_throw_ref = even_act throw_ref (λ p. thrown_here (top missing p.operands) (with_operands (below p.operands) p))

-- a change of the state by the host
pub record EvenStep (f : State → State) : Type 0 where
  pub even : (s : State) → Even s (f s)
  pub redialed : (g : List Bool) (permits : List ℕ → Bool) (room : ℕ → Bool) (s : State) → f (redial g permits room s) ≡ redial g permits room (f s)

set_step : (o : Option ExportDesc) (v : Value) → EvenStep (set_export o v)
set_step (Some (exports.Global x)) v = record { even = λ s. even_same s _ refl refl refl refl; redialed = λ g permits room s. refl }
set_step (Some _) v = record { even = even_itself; redialed = λ g permits room s. refl }
set_step None v = record { even = even_itself; redialed = λ g permits room s. refl }

bytes_even : (o : Option (List ℕ)) (s : State) → Even s (told_bytes o s)
bytes_even None s = even_tell events.OutOfRange s (λ e. cc)
bytes_even (Some bytes) s = even_tell (events.Peeked bytes) s (λ e. cc)

bytes_redialed : (o : Option (List ℕ)) (g : List Bool) (permits : List ℕ → Bool) (room : ℕ → Bool) (s : State) → told_bytes o (redial g permits room s) ≡ redial g permits room (told_bytes o s)
bytes_redialed None g permits room s = refl
bytes_redialed (Some bytes) g permits room s = refl

peek_even : (o : Option Memory) (at count : ℕ) (s : State) → Even s (peek o at count s)
peek_even None at count s = even_itself s
peek_even (Some m) at count s = bytes_even (read_range at count m.bytes) s

peek_redialed : (o : Option Memory) (at count : ℕ) (g : List Bool) (permits : List ℕ → Bool) (room : ℕ → Bool) (s : State) → peek o at count (redial g permits room s) ≡ redial g permits room (peek o at count s)
peek_redialed None at count g permits room s = refl
peek_redialed (Some m) at count g permits room s = bytes_redialed (read_range at count m.bytes) g permits room s

write_even : (o : Option Store) (s : State) → Even s (told_write o s)
write_even None s = even_tell events.OutOfRange s (λ e. cc)
write_even (Some store) s = even_same s (with_store store s) refl refl refl refl

write_redialed : (o : Option Store) (g : List Bool) (permits : List ℕ → Bool) (room : ℕ → Bool) (s : State) → told_write o (redial g permits room s) ≡ redial g permits room (told_write o s)
write_redialed None g permits room s = refl
write_redialed (Some store) g permits room s = refl

poke_even : (o : Option ExportDesc) (m : Option Memory) (at : ℕ) (bytes : List ℕ) (s : State) → Even s (poke o m at bytes s)
poke_even (Some (exports.Memory x)) (Some m) at bytes s = write_even (write_at x m at bytes s.store) s
poke_even (Some (exports.Memory x)) None at bytes s = even_itself s
poke_even (Some _) m at bytes s = even_itself s
poke_even None m at bytes s = even_itself s

poke_redialed : (o : Option ExportDesc) (m : Option Memory) (at : ℕ) (bytes : List ℕ) (g : List Bool) (permits : List ℕ → Bool) (room : ℕ → Bool) (s : State) → poke o m at bytes (redial g permits room s) ≡ redial g permits room (poke o m at bytes s)
poke_redialed (Some (exports.Memory x)) (Some m) at bytes g permits room s = write_redialed (write_at x m at bytes s.store) g permits room s
poke_redialed (Some (exports.Memory x)) None at bytes g permits room s = refl
poke_redialed (Some _) m at bytes g permits room s = refl
poke_redialed None m at bytes g permits room s = refl

pub act_step : (m : Module) (a : Act) → EvenStep (act m a)
act_step m (Set name v) = set_step (exported m name) v
act_step m (Peek name at count) = record {
  even = λ s. peek_even (exported_memory (exported m name) s.store) at count s;
  redialed = λ g permits room s. peek_redialed (exported_memory (exported m name) s.store) at count g permits room s;
}
act_step m (Poke name at bytes) = record {
  even = λ s. poke_even (exported m name) (exported_memory (exported m name) s.store) at bytes s;
  redialed = λ g permits room s. poke_redialed (exported m name) (exported_memory (exported m name) s.store) at bytes g permits room s;
}

acts_step : (m : Module) (list : List Act) → EvenStep (acts m list)
acts_step m [] = record { even = even_itself; redialed = λ g permits room s. refl }
acts_step m (a ∷ more) = record {
  even = λ s. even_trans s (act m a s) (acts m more (act m a s)) ((act_step m a).even s) ((acts_step m more).even (act m a s));
  redialed = λ g permits room s. ap (acts m more) ((act_step m a).redialed g permits room s) ∙ (acts_step m more).redialed g permits room (act m a s);
}

replied_here : (m : Module) (x : ℕ) (o : Option (List Reply)) (s : State) → EvenHere s (replied m x o s) (λ g permits room. replied m x o (redial g permits room s))
replied_here m x (Some (reply ∷ more)) s =
    let rest : State = record s { replies = set s.replies x more } in
    record {
      even = even_trans s rest (acts m reply.acts rest) (even_same s rest refl refl refl refl) ((acts_step m reply.acts).even rest);
      redialed = λ g permits room. ap (λ t. Go (record { operands = reverse (map from_host reply.values); locals = []; state = t })) ((acts_step m reply.acts).redialed g permits room rest);
      not_full = tt;
    }
replied_here m x (Some []) s = record { even = even_itself s; redialed = λ g permits room. refl; not_full = λ e. cc }
replied_here m x None s = record { even = even_itself s; redialed = λ g permits room. refl; not_full = λ e. cc }

pub even_host : (m : Module) (x : ℕ) → EvenAct (host_call m x)
even_host m x = even_act (host_call m x) (λ p.
    let s = tell (events.HostCall x (map to_host (reverse p.operands)) (global_values m p.state)) p.state in
    let here = replied_here m x (slice_get p.state.replies x) s in
    record {
      even = even_trans p.state s _ (even_tell _ p.state (λ e. cc)) here.even;
      redialed = here.redialed;
      not_full = here.not_full;
    })
