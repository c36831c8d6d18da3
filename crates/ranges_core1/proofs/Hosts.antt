-- What a host does to a module of 1.0 between and inside calls keeps what runs keep, if it gives values in range.
use Rattle.std.proofs.Common.{ℕ, List, [], ◌∷◌, map, reverse, set, slice_get, slice_index_or, Option, Some, None}
use Rattle.std.specs.List.{AllByRecursion}
use Rattle.host_kit.specs.Offered1.{exported1}
use Rattle.host_kit.specs.declared.event.Event.TheVariants as told
use Rattle.host_kit.specs.declared.script.Act.{Act}
use Rattle.host_kit.specs.declared.script.Act.TheVariants.{Set, Peek, Poke}
use Rattle.host_kit.specs.declared.script.Reply.{Reply}
use Rattle.host_kit.specs.declared.value.Value.{Value}
use Rattle.core1_ast.specs.declared.module.parts.ExportDesc1.{ExportDesc1}
use Rattle.core1_ast.specs.declared.module.parts.ExportDesc1.TheVariants as exports
use Rattle.core1_ast.specs.declared.module.parts.Module1.{Module1}
use Rattle.evaluation_kit.specs.Leaves.{read_range, write_range}
use Rattle.meaning_core1.specs.declared.val1.Val1.{Val1}
use Rattle.meaning_core1.specs.Store.{Store1, State1, Memory1, absent, host_value, value_from, show}
use Rattle.meaning_core1.specs.Accesses.{put_global, put_bytes}
use Rattle.meaning_core1.specs.Hosting.{exported_value, exported_values, set1, shown_bytes, peek_memory, peek1, poked, poke_memory, poke1, act1, acts1, answer1, call_host}
use Rattle.ranges_core1.specs.Ranges.{IsInRange, AreInRange, AreBytes}
use Rattle.ranges_core1.proofs.Lists.{IfThere, all_reverse, all_set, all_at, all_get, all_given}
use Rattle.ranges_core1.proofs.States.{ValueInRange, ValuesInRange, MemoryInRange, StoreInRange, StateInRange, ActInRange, ReplyInRange, absent_in, to_host, from_host, all_to_host, all_from_host, show_in, put_in, written_in, put_bytes_in}
use Rattle.ranges_core1.proofs.Instructions.{Left, Acts, put_global_in}

-- the values of the exported globals
value_shown : (s : Store1) → StoreInRange s → (desc : ExportDesc1) → IfThere IsInRange (exported_value s desc)
value_shown s h (exports.Global x) = to_host (slice_index_or s.globals x absent) (all_at ValueInRange s.globals x absent h.globals absent_in)
value_shown s h _ = tt

pub exported_in : (m : Module1) (s : State1) → StateInRange s → AreInRange (exported_values m s)
exported_in m s h = all_given IsInRange (λ e. exported_value s.store e.desc) (λ e. value_shown s.store h.store e.desc) m.exports

-- operands as the host sees them
pub seen_in : (o : List Val1) → ValuesInRange o → AreInRange (map host_value (reverse o))
seen_in o h = all_to_host (reverse o) (all_reverse ValueInRange o h)

-- values of the host as operands
pub given_in : (vs : List Value) → AreInRange vs → ValuesInRange (reverse (map value_from vs))
given_in vs h = all_reverse ValueInRange (map value_from vs) (all_from_host vs h)

-- acts
set_in : (o : Option ExportDesc1) (v : Value) (s : State1) → IsInRange v → StateInRange s → StateInRange (set1 o v s)
set_in (Some (exports.Global x)) v s h k = put_in (put_global x (value_from v) s.store) s (put_global_in x (value_from v) s.store (from_host v h) k.store) k
set_in (Some _) v s h k = k
set_in None v s h k = k

shown_in : (o : Option (List ℕ)) (s : State1) → StateInRange s → StateInRange (shown_bytes o s)
shown_in None s k = show_in told.OutOfRange s tt k
shown_in (Some bytes) s k = show_in (told.Peeked bytes) s tt k

peek_memory_in : (o : Option Memory1) (at count : ℕ) (s : State1) → StateInRange s → StateInRange (peek_memory o at count s)
peek_memory_in None at count s k = k
peek_memory_in (Some m) at count s k = shown_in (read_range at count m.bytes) s k

peek_in : (o : Option ExportDesc1) (at count : ℕ) (s : State1) → StateInRange s → StateInRange (peek1 o at count s)
peek_in (Some (exports.Memory x)) at count s k = peek_memory_in (slice_get s.store.memories x) at count s k
peek_in (Some _) at count s k = k
peek_in None at count s k = k

poked_in : (x : ℕ) (m : Memory1) (o : Option (List ℕ)) (s : State1) → IfThere (λ bytes. MemoryInRange (record m { bytes = bytes })) o → StateInRange s → StateInRange (poked x m o s)
poked_in x m None s g k = show_in told.OutOfRange s tt k
poked_in x m (Some bytes) s g k = put_in (put_bytes x m bytes s.store) s (put_bytes_in x m bytes s.store k.store g) k

poke_memory_in : (x : ℕ) (o : Option Memory1) (at : ℕ) (bytes : List ℕ) (s : State1) → IfThere MemoryInRange o → AreBytes bytes → StateInRange s → StateInRange (poke_memory x o at bytes s)
poke_memory_in x None at bytes s g h k = k
poke_memory_in x (Some m) at bytes s g h k = poked_in x m (write_range at bytes m.bytes) s (written_in at bytes m h g) k

poke_in : (o : Option ExportDesc1) (at : ℕ) (bytes : List ℕ) (s : State1) → AreBytes bytes → StateInRange s → StateInRange (poke1 o at bytes s)
poke_in (Some (exports.Memory x)) at bytes s h k =
    poke_memory_in x (slice_get s.store.memories x) at bytes s (all_get MemoryInRange s.store.memories x k.store.memories) h k
poke_in (Some _) at bytes s h k = k
poke_in None at bytes s h k = k

pub act_in : (m : Module1) (a : Act) (s : State1) → ActInRange a → StateInRange s → StateInRange (act1 m a s)
act_in m (Set name v) s h k = set_in (exported1 m name) v s h k
act_in m (Peek name at count) s h k = peek_in (exported1 m name) at count s k
act_in m (Poke name at bytes) s h k = poke_in (exported1 m name) at bytes s h k

acts_in : (m : Module1) (acts : List Act) (s : State1) → AllByRecursion ActInRange acts → StateInRange s → StateInRange (acts1 m acts s)
acts_in m [] s h k = k
acts_in m (a ∷ more) s h k = acts_in m more (act1 m a s) h.1 (act_in m a s h.0 k)

-- a call of an imported function
answer_in : (m : Module1) (x : ℕ) (o : Option (List Reply)) (s : State1) → IfThere (AllByRecursion ReplyInRange) o → StateInRange s → Left (answer1 m x o s)
answer_in m x None s h k = record { operands = tt; locals = tt; state = k }
answer_in m x (Some []) s h k = record { operands = tt; locals = tt; state = k }
answer_in m x (Some (reply ∷ more)) s h k = record {
  operands = given_in reply.values h.0.values;
  locals = tt;
  state = acts_in m reply.acts (record s { replies = set s.replies x more }) h.0.acts (record {
    store = k.store;
    replies = all_set (AllByRecursion ReplyInRange) s.replies x more k.replies h.1;
    trace = k.trace;
  });
}

pub call_host_keeps : (m : Module1) (x : ℕ) → Acts (call_host m x)
call_host_keeps m x = record {
  keeps = λ p k.
      let arguments = map host_value (reverse p.operands) in
      let globals = exported_values m p.state in
      answer_in m x (slice_get p.state.replies x) (show (told.HostCall x arguments globals) p.state)
      (all_get (AllByRecursion ReplyInRange) p.state.replies x k.state.replies)
      (show_in (told.HostCall x arguments globals) p.state (seen_in p.operands k.operands, exported_in m p.state k.state) k.state);
}
