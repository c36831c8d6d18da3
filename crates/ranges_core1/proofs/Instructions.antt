-- Plain instructions, and functions of the host, keep what runs keep.
use Rattle.std.proofs.Common.{◌≡◌, ℕ, ◌+◌, ◌*◌, ◌-◌, ◌/◌, ◌<◌, ◌≤◌, ◌^◌, Bool, true, false, List, ◌∷◌, ◌++◌, length, min, take, drop, replicate, slice_get, slice_index_or, Option, Some, None, refl, arith, lit<}
use Rattle.std.specs.Prelude.{nat_le, option_map, option_and_then, if◌then◌else◌, ◌&&◌}
use Rattle.std.proofs.lemmas.Bool.{leb-true}
use Rattle.std.proofs.lemmas.List.{length-append, length-replicate, length-take}
use Rattle.num_core.specs.Accesses.{load_width, load_bytes, store_bytes}
use Rattle.num_core.specs.Bytes.{loaded, stored}
use Rattle.num_core.specs.declared.operators.Load.{Load}
use Rattle.num_core.specs.declared.operators.Store.{Store}
use Rattle.core1_ast.specs.declared.module.immediates.MemArg1.{MemArg1}
use Rattle.evaluation_kit.specs.declared.jump.Jump.{Jump}
use Rattle.evaluation_kit.specs.declared.jump.Jump.TheVariants.{Branch}
use Rattle.evaluation_kit.specs.Configurations.{Plain, PlainRes}
use Rattle.evaluation_kit.specs.Leaves as leaves
use Rattle.evaluation_kit.specs.Leaves.{top, below, read_range, write_range, on_operands, operands_or_trap, jump_where, with_operands}
use Rattle.meaning_core1.specs.declared.val1.Val1.{Val1}
use Rattle.meaning_core1.specs.declared.val1.Val1.TheVariants.{I32}
use Rattle.meaning_core1.specs.Store.{Memory1, Store1, State1, Effect, Growth1, absent, value_of, page_bytes, pages1, by_store, effect_or_trap, by_growth, grow_or_trap, grows1}
use Rattle.meaning_core1.specs.Operators.{top1, next1, is_true}
use Rattle.meaning_core1.specs.Accesses.{get_global1, set_global1, put_global, put_bytes, load1, store1, size1, grow1, page_limit, memory_growth1}
use Rattle.ranges_core1.proofs.Lists.{IfThere, all_take, all_drop, all_append, all_replicate, all_set, all_at, all_get}
use Rattle.ranges_core1.proofs.Running.{PlainHolds, PlainResHolds, ActKeeps}
use Rattle.ranges_core1.proofs.States.{ValueInRange, ValuesInRange, MemoryInRange, StoreInRange, StateInRange, MarkInRange, value_in, absent_in, put_in, written_in, put_bytes_in}
use Rattle.ranges_core1.proofs.Operators.{OperandsInRange, under, over, loaded_below, to_bytes_are}

-- what a plain instruction sees, and what it leaves
abbrev pub Seen : Plain Val1 State1 → Type 0
Seen p = PlainHolds ValueInRange StateInRange p

abbrev pub Left : PlainRes Val1 State1 → Type 0
Left r = PlainResHolds ValueInRange StateInRange r

abbrev pub Acts : (Plain Val1 State1 → PlainRes Val1 State1) → Type 0
Acts act = ActKeeps ValueInRange StateInRange act

with_in : (o : List Val1) (p : Plain Val1 State1) → ValuesInRange o → Seen p → Seen (with_operands o p)
with_in o p h k = record { operands = h; locals = k.locals; state = k.state }

-- on operands alone
operands_in : (p : Plain Val1 State1) (o : Option (List Val1)) → OperandsInRange o → Seen p → Left (operands_or_trap p o)
operands_in p None h k = k
operands_in p (Some o) h k = with_in o p h k

pub on_operands_keeps : (f : List Val1 → Option (List Val1)) → ((o : List Val1) → ValuesInRange o → OperandsInRange (f o)) → Acts (on_operands f)
on_operands_keeps f h = record { keeps = λ p k. operands_in p (f p.operands) (h p.operands k.operands) k }

-- locals
pub get_local_keeps : (x : ℕ) → Acts (leaves.get_local absent x)
get_local_keeps x = record {
  keeps = λ p k. with_in (slice_index_or p.locals x absent ∷ p.operands) p (all_at ValueInRange p.locals x absent k.locals absent_in, k.operands) k;
}

pub set_local_keeps : (x : ℕ) → Acts (leaves.set_local absent x)
set_local_keeps x = record {
  keeps = λ p k. record {
    operands = under p.operands k.operands;
    locals = all_set ValueInRange p.locals x (top absent p.operands) k.locals (over p.operands k.operands);
    state = k.state;
  };
}

pub tee_local_keeps : (x : ℕ) → Acts (leaves.tee_local absent x)
tee_local_keeps x = record {
  keeps = λ p k. record {
    operands = k.operands;
    locals = all_set ValueInRange p.locals x (top absent p.operands) k.locals (over p.operands k.operands);
    state = k.state;
  };
}

-- jumps
pub nothing_keeps : Acts leaves.nothing
nothing_keeps = record { keeps = λ p k. k }

pub jump_keeps : (j : Jump) → Acts (leaves.jump j)
jump_keeps j = record { keeps = λ p k. k }

where_in : (b : Bool) (j : Jump) (p : Plain Val1 State1) → Seen p → Left (jump_where b j p)
where_in true j p k = k
where_in false j p k = k

pub branch_if_keeps : (l : ℕ) → Acts (leaves.branch_if is_true l)
branch_if_keeps l = record {
  keeps = λ p k.
      where_in (is_true p.operands) (Branch l) (with_operands (below p.operands) p) (with_in (below p.operands) p (under p.operands k.operands) k);
}

pub branch_table_keeps : (labels : List ℕ) (last : ℕ) → Acts (leaves.branch_table top1 labels last)
branch_table_keeps labels last = record { keeps = λ p k. with_in (below p.operands) p (under p.operands k.operands) k }

-- on operands and the store
abbrev pub EffectInRange : Effect → Type 0
EffectInRange e = IfThere (λ r. ValuesInRange r.0 × StoreInRange r.1) e

effect_in : (p : Plain Val1 State1) (e : Effect) → EffectInRange e → Seen p → Left (effect_or_trap p e)
effect_in p None h k = k
effect_in p (Some r) h k = record { operands = h.0; locals = k.locals; state = put_in r.1 p.state h.1 k.state }

pub by_store_keeps : (f : List Val1 → Store1 → Effect) → ((o : List Val1) (s : Store1) → ValuesInRange o → StoreInRange s → EffectInRange (f o s)) → Acts (by_store f)
by_store_keeps f h = record { keeps = λ p k. effect_in p (f p.operands p.state.store) (h p.operands p.state.store k.operands k.state.store) k }

-- globals
pub get_global_in : (x : ℕ) (o : List Val1) (s : Store1) → ValuesInRange o → StoreInRange s → EffectInRange (get_global1 x o s)
get_global_in x o s h k = ((all_at ValueInRange s.globals x absent k.globals absent_in, h), k)

pub put_global_in : (x : ℕ) (v : Val1) (s : Store1) → ValueInRange v → StoreInRange s → StoreInRange (put_global x v s)
put_global_in x v s h k = record { globals = all_set ValueInRange s.globals x v k.globals h; memories = k.memories }

pub set_global_in : (x : ℕ) (o : List Val1) (s : Store1) → ValuesInRange o → StoreInRange s → EffectInRange (set_global1 x o s)
set_global_in x o s h k = (under o h, put_global_in x (top absent o) s (over o h) k)

-- the memory
with_memory_in : (f : Memory1 → Effect) → ((m : Memory1) → MemoryInRange m → EffectInRange (f m)) → (o : Option Memory1) → IfThere MemoryInRange o → EffectInRange (option_and_then f o)
with_memory_in f h None k = tt
with_memory_in f h (Some m) k = h m k

first_memory : (s : Store1) → StoreInRange s → IfThere MemoryInRange (slice_get s.memories 0)
first_memory s k = all_get MemoryInRange s.memories 0 k.memories

read_if : (op : Load) (at : ℕ) (m : Memory1) (o : List Val1) (s : Store1) (b : Bool) → ValuesInRange o → StoreInRange s → MemoryInRange m → EffectInRange (option_map (λ bytes. (value_of (load_width op) (loaded op bytes) ∷ o, s)) (if b then Some (take (load_bytes op) (drop at m.bytes)) else None))
read_if op at m o s true h k g =
    let read = take (load_bytes op) (drop at m.bytes) in
    let taken : length read ≡ min (load_bytes op) (length (drop at m.bytes)) = length-take (load_bytes op) (drop at m.bytes) in
    let few : length read ≤ load_bytes op = omega arith in
    ((value_in (load_width op) (loaded op read) (loaded_below op read few (all_take _ (load_bytes op) (drop at m.bytes) (all_drop _ at m.bytes g.bytes))), h), k)
read_if op at m o s false h k g = tt

pub load_in : (op : Load) (arg : MemArg1) (o : List Val1) (s : Store1) → ValuesInRange o → StoreInRange s → EffectInRange (load1 op arg o s)
load_in op arg o s h k =
    with_memory_in (λ m. option_map (λ bytes. (value_of (load_width op) (loaded op bytes) ∷ below o, s)) (read_range (top1 o + arg.offset) (load_bytes op) m.bytes))
    (λ m g. read_if op (top1 o + arg.offset) m (below o) s (nat_le (top1 o + arg.offset + load_bytes op) (length m.bytes)) (under o h) k g) (slice_get s.memories 0) (first_memory s k)

stored_if : (m : Memory1) (o : List Val1) (s : Store1) (b : Option (List ℕ)) → IfThere (λ bytes. MemoryInRange (record m { bytes = bytes })) b → ValuesInRange o → StoreInRange s → EffectInRange (option_map (λ bytes. (o, put_bytes 0 m bytes s)) b)
stored_if m o s None g h k = tt
stored_if m o s (Some bytes) g h k = (h, put_bytes_in 0 m bytes s k g)

pub store_in : (op : Store) (arg : MemArg1) (o : List Val1) (s : Store1) → ValuesInRange o → StoreInRange s → EffectInRange (store1 op arg o s)
store_in op arg o s h k =
    with_memory_in (λ m. option_map (λ bytes. (below (below o), put_bytes 0 m bytes s)) (write_range (next1 o + arg.offset) (stored op (top1 o)) m.bytes))
    (λ m g. stored_if m (below (below o)) s (write_range (next1 o + arg.offset) (stored op (top1 o)) m.bytes) (written_in (next1 o + arg.offset) (stored op (top1 o)) m (to_bytes_are (store_bytes op) (top1 o)) g) (under (below o) (under o h)) k) (slice_get s.memories 0) (first_memory s k)

pages_below : (m : Memory1) → MemoryInRange m → pages1 m < 2 ^ 32
pages_below m g = let most : pages1 m ≤ 2 ^ 16 = g.pages in omega arith

pub size_in : (o : List Val1) (s : Store1) → ValuesInRange o → StoreInRange s → EffectInRange (size1 o s)
size_in o s h k = with_memory_in (λ m. Some (I32 (pages1 m) ∷ o, s)) (λ m g. ((pages_below m g, h), k)) (slice_get s.memories 0) (first_memory s k)

-- growths
pub record GrowthInRange (g : Growth1) : Type 0 where
  pub larger : g.fits ≡ true → StoreInRange g.larger
  pub operands : (ok : Bool) → ValuesInRange (g.operands ok)

limited : (b : Bool) (max : ℕ) → nat_le max (2 ^ 16) ≡ b → (if b then max else 2 ^ 16) ≤ 2 ^ 16
limited true max e = leb-true max (2 ^ 16) e
limited false max e = omega arith

limit_in : (max : Option ℕ) → page_limit max ≤ 2 ^ 16
limit_in None = omega arith
limit_in (Some max) = limited (nat_le max (2 ^ 16)) max refl

larger_pages : (m : Memory1) (more : ℕ) → length (m.bytes ++ replicate (more * page_bytes) 0) / page_bytes ≡ pages1 m + more
larger_pages m more =
    let a = length-append m.bytes (replicate (more * page_bytes) 0) in
    let b = length-replicate {A = ℕ} (more * page_bytes) 0 in
    omega arith

grown_in : (m : Memory1) (more : ℕ) → pages1 m + more ≤ 2 ^ 16 → MemoryInRange m → MemoryInRange (record m { bytes = m.bytes ++ replicate (more * page_bytes) 0 })
grown_in m more le g = record {
  bytes = all_append _ m.bytes (replicate (more * page_bytes) 0) g.bytes (all_replicate _ (more * page_bytes) 0 (lit< tt));
  pages = let same = larger_pages m more in omega arith;
}

settled_size : (m : Memory1) → MemoryInRange m → (ok : Bool) → (if ok then pages1 m else 2 ^ 32 - 1) < 2 ^ 32
settled_size m g true = pages_below m g
settled_size m g false = lit< tt

growth_in : (o : List Val1) (s : Store1) (m : Memory1) → ValuesInRange o → StoreInRange s → MemoryInRange m → GrowthInRange (memory_growth1 o s m)
growth_in o s m h k g = record {
  larger = λ e.
      let limit = limit_in m.max in
      let fits = leb-true (pages1 m + top1 o) (page_limit m.max) e in
      put_bytes_in 0 m (m.bytes ++ replicate (top1 o * page_bytes) 0) s k (grown_in m (top1 o) (omega arith) g);
  operands = λ ok. (settled_size m g ok, under o h);
}

grow_in : (o : List Val1) (s : Store1) (b : Option Memory1) → IfThere MemoryInRange b → ValuesInRange o → StoreInRange s → IfThere GrowthInRange (option_map (memory_growth1 o s) b)
grow_in o s None g h k = tt
grow_in o s (Some m) g h k = growth_in o s m h k g

settled_store : (fits answer : Bool) (larger old : Store1) → (fits ≡ true → StoreInRange larger) → StoreInRange old → StoreInRange (if fits && answer then larger else old)
settled_store true true larger old h k = h refl
settled_store true false larger old h k = k
settled_store false answer larger old h k = k

grow_or_trap_in : (p : Plain Val1 State1) (b : Option Growth1) → IfThere GrowthInRange b → Seen p → Left (grow_or_trap p b)
grow_or_trap_in p None g k = k
grow_or_trap_in p (Some r) g k = record {
  operands = g.operands (grows1 r p.state);
  locals = k.locals;
  state = record {
    store = settled_store r.fits (top true p.state.grows) r.larger p.state.store g.larger k.state.store;
    replies = k.state.replies;
    trace = all_append MarkInRange p.state.trace _ k.state.trace (tt, tt);
  };
}

pub grow_keeps : Acts (by_growth grow1)
grow_keeps = record {
  keeps = λ p k.
      grow_or_trap_in p (grow1 p.operands p.state.store)
      (grow_in p.operands p.state.store (slice_get p.state.store.memories 0) (first_memory p.state.store k.state.store) k.operands k.state.store) k;
}
