-- What the states of a run of 1.0 keep: integers lie in the ranges of their widths, bytes are bytes, and no memory is larger
-- than its pages can be counted.
use Rattle.std.proofs.Common.{◌≡◌, ℕ, ◌+◌, ◌/◌, ◌<◌, ◌≤◌, ◌^◌, Bool, true, false, List, [], ◌∷◌, ◌++◌, map, length, take, drop, Some, None, refl, sym, subst, arith, lit<}
use Rattle.std.specs.Prelude.{nat_le, if◌then◌else◌}
use Rattle.std.specs.List.{AllByRecursion}
use Rattle.std.proofs.lemmas.Bool.{leb-true}
use Rattle.std.proofs.lemmas.List.{length-append, length-take-le, length-drop}
use Rattle.host_kit.specs.Trace.{Mark, Shows, Grown, Captured, events}
use Rattle.host_kit.specs.declared.event.Event.{Event}
use Rattle.host_kit.specs.declared.script.Act.{Act}
use Rattle.host_kit.specs.declared.script.Act.TheVariants.{Set, Peek, Poke}
use Rattle.host_kit.specs.declared.script.Reply.{Reply}
use Rattle.host_kit.specs.declared.value.Value.{Value}
use Rattle.host_kit.specs.declared.value.Value.TheVariants as values
use Rattle.num_core.specs.Integers.{bits}
use Rattle.num_core.specs.declared.operators.Width.{Width}
use Rattle.num_core.specs.declared.operators.Width.TheVariants.{W32, W64}
use Rattle.evaluation_kit.specs.Leaves.{write_range}
use Rattle.meaning_core1.specs.declared.val1.Val1.{Val1}
use Rattle.meaning_core1.specs.declared.val1.Val1.TheVariants.{I32, I64}
use Rattle.meaning_core1.specs.Store.{Memory1, Store1, State1, absent, value_of, bool_value, host_value, value_from, page_bytes, pages1, show}
use Rattle.meaning_core1.specs.Accesses.{put_bytes}
use Rattle.meaning_core1.specs.Instances.{overwritten}
use Rattle.ranges_core1.specs.Ranges.{IsInRange, AreInRange, EventInRange, AreBytes}
use Rattle.ranges_core1.proofs.Lists.{IfThere, all_take, all_drop, all_append, all_set, all_map, all_weaker}

-- a value
abbrev pub ValueInRange : Val1 → Type 0
ValueInRange (I32 i) = i < 2 ^ 32
ValueInRange (I64 i) = i < 2 ^ 64

abbrev pub ValuesInRange : List Val1 → Type 0
ValuesInRange vs = AllByRecursion ValueInRange vs

pub value_in : (w : Width) (i : ℕ) → i < 2 ^ bits w → ValueInRange (value_of w i)
value_in W32 i h = h
value_in W64 i h = h

pub bool_in : (b : Bool) → ValueInRange (bool_value b)
bool_in true = lit< tt
bool_in false = lit< tt

pub absent_in : ValueInRange absent
absent_in = lit< tt

-- between code and the host
pub to_host : (v : Val1) → ValueInRange v → IsInRange (host_value v)
to_host (I32 i) h = h
to_host (I64 i) h = h

pub from_host : (v : Value) → IsInRange v → ValueInRange (value_from v)
from_host (values.I32 i) h = h
from_host (values.I64 i) h = h
from_host _ h = absurd h

pub all_to_host : (vs : List Val1) → ValuesInRange vs → AreInRange (map host_value vs)
all_to_host vs h = all_map IsInRange host_value vs (all_weaker ValueInRange (λ v. IsInRange (host_value v)) to_host vs h)

pub all_from_host : (vs : List Value) → AreInRange vs → ValuesInRange (map value_from vs)
all_from_host vs h = all_map ValueInRange value_from vs (all_weaker IsInRange (λ v. ValueInRange (value_from v)) from_host vs h)

-- a memory, and the store
pub record MemoryInRange (m : Memory1) : Type 0 where
  pub bytes : AreBytes m.bytes
  pub pages : pages1 m ≤ 2 ^ 16

pub record StoreInRange (s : Store1) : Type 0 where
  pub globals : ValuesInRange s.globals
  pub memories : AllByRecursion MemoryInRange s.memories

-- what the host has left to do
abbrev pub ActInRange : Act → Type 0
ActInRange (Set name v) = IsInRange v
ActInRange (Peek name at count) = Unit {0}
ActInRange (Poke name at bytes) = AreBytes bytes

pub record ReplyInRange (reply : Reply) : Type 0 where
  pub acts : AllByRecursion ActInRange reply.acts
  pub values : AreInRange reply.values

-- what is told
abbrev pub MarkInRange : Mark → Type 0
MarkInRange (Shows e) = EventInRange e
MarkInRange (Grown ok sizes) = Unit {0}
MarkInRange Captured = Unit {0}

pub record StateInRange (s : State1) : Type 0 where
  pub store : StoreInRange s.store
  pub replies : AllByRecursion (AllByRecursion ReplyInRange) s.replies
  pub trace : AllByRecursion MarkInRange s.trace

-- an event that is told
pub show_in : (e : Event) (s : State1) → EventInRange e → StateInRange s → StateInRange (show e s)
show_in e s h k = record {
  store = k.store;
  replies = k.replies;
  trace = all_append MarkInRange s.trace (Shows e ∷ []) k.trace (h, tt);
}

-- another store
pub put_in : (store : Store1) (s : State1) → StoreInRange store → StateInRange s → StateInRange (record s { store = store })
put_in store s h k = record { store = h; replies = k.replies; trace = k.trace }

pub events_in : (marks : List Mark) → AllByRecursion MarkInRange marks → AllByRecursion EventInRange (events marks)
events_in [] h = tt
events_in (Shows e ∷ marks) h = (h.0, events_in marks h.1)
events_in (Grown ok sizes ∷ marks) h = events_in marks h.1
events_in (Captured ∷ marks) h = events_in marks h.1

-- bytes that are written where there is room: the memory is as large as before
pub length-overwritten : {A : Type 0} (at : ℕ) (new l : List A) → nat_le (at + length new) (length l) ≡ true → length (overwritten at new l) ≡ length l
length-overwritten at new l h =
    let le = leb-true (at + length new) (length l) h in
    let within : at ≤ length l = omega arith in
    let a = length-append (take at l) (new ++ drop (at + length new) l) in
    let b = length-append new (drop (at + length new) l) in
    let c = length-take-le at l within in
    let d = length-drop (at + length new) l in
    omega arith

pub overwritten_in : (at : ℕ) (new : List ℕ) (m : Memory1) → AreBytes new → MemoryInRange m → nat_le (at + length new) (length m.bytes) ≡ true → MemoryInRange (record m { bytes = overwritten at new m.bytes })
overwritten_in at new m n h room = record {
  bytes = all_append _ (take at m.bytes) (new ++ drop (at + length new) m.bytes) (all_take _ at m.bytes h.bytes)
      (all_append _ new (drop (at + length new) m.bytes) n (all_drop _ (at + length new) m.bytes h.bytes));
  pages = subst (λ (k : ℕ). k / page_bytes ≤ 2 ^ 16) (sym (length-overwritten at new m.bytes room)) h.pages;
}

written_if : (at : ℕ) (new : List ℕ) (m : Memory1) (b : Bool) → nat_le (at + length new) (length m.bytes) ≡ b → AreBytes new → MemoryInRange m → IfThere (λ bytes. MemoryInRange (record m { bytes = bytes })) (if b then Some (overwritten at new m.bytes) else None)
written_if at new m true e n h = overwritten_in at new m n h e
written_if at new m false e n h = tt

pub written_in : (at : ℕ) (new : List ℕ) (m : Memory1) → AreBytes new → MemoryInRange m → IfThere (λ bytes. MemoryInRange (record m { bytes = bytes })) (write_range at new m.bytes)
written_in at new m n h = written_if at new m (nat_le (at + length new) (length m.bytes)) refl n h

pub put_bytes_in : (x : ℕ) (m : Memory1) (bytes : List ℕ) (s : Store1) → StoreInRange s → MemoryInRange (record m { bytes = bytes }) → StoreInRange (put_bytes x m bytes s)
put_bytes_in x m bytes s h k = record { globals = h.globals; memories = all_set MemoryInRange s.memories x (record m { bytes = bytes }) h.memories k }
