-- The state in which a run begins, and what segments write, are in range where the numbers of the module and those of a
-- script that fits are.
use Rattle.std.proofs.Common.{◌≡◌, ℕ, zero, suc, ◌+◌, ◌*◌, ◌/◌, ◌≤◌, ◌^◌, Bool, true, false, List, [], ◌∷◌, map, length, replicate, set, slice_get, slice_index_or, Option, Some, None, option_map, refl, sym, ap, ◌∙◌, subst, arith, lit<}
use Rattle.std.specs.Prelude.{nat_le, if◌then◌else◌}
use Rattle.std.specs.List.{AllByRecursion, list_all}
use Rattle.std.proofs.lemmas.List.{length-replicate}
use Rattle.host_kit.specs.Fits1.{ValueHasType1, ValuesHaveTypes1, ActFits1, ReplyFits1, RepliesFit1, results_of1, ScriptFits1}
use Rattle.host_kit.specs.declared.script.Act.{Act}
use Rattle.host_kit.specs.declared.script.Act.TheVariants.{Set, Peek, Poke}
use Rattle.host_kit.specs.declared.script.Reply.{Reply}
use Rattle.host_kit.specs.declared.script.Script.{Script}
use Rattle.host_kit.specs.declared.value.Value.{Value}
use Rattle.host_kit.specs.declared.value.Value.TheVariants as values
use Rattle.core1_ast.specs.Spaces.{all_memories}
use Rattle.core1_ast.specs.declared.module.ty.Ty1.{Ty1}
use Rattle.core1_ast.specs.declared.module.ty.Ty1.TheVariants as types
use Rattle.core1_ast.specs.declared.module.ty.Limits1.{Limits1}
use Rattle.core1_ast.specs.declared.module.code.Instr1.{Instr1, out-Instr1}
use Rattle.core1_ast.specs.declared.module.code.Instr1.TheOpen.{Instr1-F}
use Rattle.core1_ast.specs.declared.module.code.Instr1.TheFolds.{map-Instr1, fold_out-Instr1}
use Rattle.core1_ast.specs.declared.module.parts.Element1.{Element1}
use Rattle.core1_ast.specs.declared.module.parts.Segment1.{Segment1}
use Rattle.core1_ast.specs.declared.module.parts.Global1.{Global1}
use Rattle.core1_ast.specs.declared.module.parts.Module1.{Module1}
use Rattle.meaning_core1.specs.declared.val1.Val1.{Val1}
use Rattle.meaning_core1.specs.Store.{Store1, Memory1, absent, number1, page_bytes}
use Rattle.meaning_core1.specs.Operators.{pure_op}
use Rattle.meaning_core1.specs.Instances.{kept_or, const_step, const_steps, const_value, imported_values, zero_memory, new_state1, offset_of, is_inside, element_fits, segment_fits, no_memory, write_element, write_segment, write_elements, write_segments, all_fit, with_segments, overwritten}
use Rattle.ranges_core1.specs.Ranges.{IsInRange, AreInRange, range_step, is_in_range, are_in_range, CodeInRange, SegmentInRange, NumbersInRange}
use Rattle.ranges_core1.proofs.Lists.{IfThere, all_append, all_replicate, all_set, all_at, all_top, all_map, all_weaker, both, all_passed}
use Rattle.ranges_core1.proofs.States.{ValueInRange, ValuesInRange, MemoryInRange, StoreInRange, StateInRange, ActInRange, ReplyInRange, absent_in, all_from_host, length-overwritten, overwritten_in}
use Rattle.ranges_core1.proofs.Operators.{OperandsInRange, pure_in}

-- constant expressions
kept_in : (o : List Val1) (r : Option (List Val1)) → ValuesInRange o → OperandsInRange r → ValuesInRange (kept_or o r)
kept_in o None h k = h
kept_in o (Some after) h k = k

module _ (globals : List Val1) (g : ValuesInRange globals) where
  const_step_in : (l : Instr1-F Instr1) (o : List Val1) → range_step (map-Instr1 Instr1 Bool is_in_range l) ≡ true → ValuesInRange o → ValuesInRange (const_step globals l o)
  const_step_in (Instr1-F.GlobalGet x) o h k = (all_at ValueInRange globals x absent g absent_in, k)
  const_step_in (Instr1-F.Pure op) o h k = kept_in o (pure_op op o) k (pure_in op o h k)
  const_step_in l o h k = k

  const_steps_in : (code : List Instr1) (o : List Val1) → CodeInRange code → ValuesInRange o → ValuesInRange (const_steps globals code o)
  const_steps_in [] o h k = k
  const_steps_in (i ∷ code) o h k =
      let parts = both (is_in_range i) (are_in_range code) h in
      const_steps_in code (const_step globals (out-Instr1 i) o) parts.1
      (const_step_in (out-Instr1 i) o (sym (fold_out-Instr1 Bool range_step i) ∙ parts.0) k)

  const_value_in : (code : List Instr1) → CodeInRange code → ValueInRange (const_value globals code)
  const_value_in code h = all_top ValueInRange (const_steps globals code []) absent (const_steps_in code [] h tt) absent_in

-- what a script that fits gives
value_fits : (v : Value) (t : Ty1) → ValueHasType1 v t → IsInRange v
value_fits (values.I32 i) types.I32 h = h
value_fits (values.I64 i) types.I64 h = h
value_fits _ _ h = absurd h

pub values_fit : (vs : List Value) (ts : List Ty1) → ValuesHaveTypes1 vs ts → AreInRange vs
values_fit [] [] h = tt
values_fit [] (t ∷ ts) h = absurd h
values_fit (v ∷ vs) [] h = absurd h
values_fit (v ∷ vs) (t ∷ ts) h = (value_fits v t h.0, values_fit vs ts h.1)

module _ (m : Module1) where
  pub act_fits : (a : Act) → ActFits1 m a → ActInRange a
  act_fits (Set name v) h = value_fits v h.type h.value
  act_fits (Peek name at count) h = tt
  act_fits (Poke name at bytes) h = h.1

  reply_fits : (ts : List Ty1) (reply : Reply) → ReplyFits1 m ts reply → ReplyInRange reply
  reply_fits ts reply h = record {
    acts = all_weaker (ActFits1 m) ActInRange act_fits reply.acts h.acts;
    values = values_fit reply.values ts h.values;
  }

  replies_fit : (replies : List (List Reply)) (indices : List ℕ) → RepliesFit1 m replies indices → AllByRecursion (AllByRecursion ReplyInRange) replies
  replies_fit [] [] h = tt
  replies_fit [] (t ∷ ts) h = absurd h
  replies_fit (rs ∷ replies) [] h = absurd h
  replies_fit (rs ∷ replies) (t ∷ ts) h =
      let results = results_of1 (slice_get m.types t) in
      (all_weaker (ReplyFits1 m results) ReplyInRange (reply_fits results) rs h.0, replies_fit replies ts h.1)

-- the globals and the memories
zero_memory_in : (l : Limits1) → l.min ≤ 2 ^ 16 → MemoryInRange (zero_memory l)
zero_memory_in l h = record {
  bytes = all_replicate _ (l.min * page_bytes) 0 (lit< tt);
  pages =
      let size = length-replicate {A = ℕ} (l.min * page_bytes) 0 in
      let same : length {A = ℕ} (replicate (l.min * page_bytes) 0) / page_bytes ≡ l.min = omega arith in
      omega arith;
}

globals_in : (globals : List Val1) → ValuesInRange globals → (gs : List Global1) → AllByRecursion (λ g. CodeInRange g.init) gs → ValuesInRange (map (λ g. const_value globals g.init) gs)
globals_in globals g gs h =
    all_map ValueInRange (λ x. const_value globals x.init) gs
    (all_weaker (λ x. CodeInRange x.init) (λ x. ValueInRange (const_value globals x.init)) (λ x k. const_value_in globals g x.init k) gs h)

pub new_state_in : (m : Module1) (script : Script) → NumbersInRange m → ScriptFits1 m script → StateInRange (new_state1 m script)
new_state_in m script h fits =
    let imported : ValuesInRange (imported_values script) = all_from_host script.globals (values_fit script.globals _ fits.globals) in
    record {
      store = record {
        globals = all_append ValueInRange (imported_values script) (map (λ g. const_value (imported_values script) g.init) m.globals) imported
            (globals_in (imported_values script) imported m.globals h.globals);
        memories = all_map MemoryInRange zero_memory (all_memories m)
            (all_weaker (λ l. l.min ≤ 2 ^ 16) (λ l. MemoryInRange (zero_memory l)) zero_memory_in (all_memories m) h.memories);
      };
      replies = replies_fit m script.replies _ fits.replies;
      trace = tt;
    }

-- the size of a memory that is there, and that a segment is inside one
abbrev size_at : List Memory1 → ℕ → Option ℕ
size_at ms x = option_map (λ m. length m.bytes) (slice_get ms x)

abbrev Inside : List Val1 → List Memory1 → Segment1 → Type 0
Inside globals ms d = is_inside (number1 (const_value globals d.offset)) (length d.bytes) (size_at ms d.memory) ≡ true

there : (ms : List Memory1) (x at count : ℕ) → is_inside at count (size_at ms x) ≡ true → (slice_get ms x ≡ Some (slice_index_or ms x no_memory)) × (nat_le (at + count) (length (slice_index_or ms x no_memory).bytes) ≡ true)
there [] x at count h = absurd cc
there (m ∷ ms) zero at count h = (refl, h)
there (m ∷ ms) (suc x) at count h = there ms x at count h

sizes_stay : (ms : List Memory1) (x y : ℕ) (old new : Memory1) → slice_get ms x ≡ Some old → length new.bytes ≡ length old.bytes → size_at (set ms x new) y ≡ size_at ms y
sizes_stay [] x y old new e f = refl
sizes_stay (m ∷ ms) zero zero old new e f = let h : old ≡ m = cc in ap (λ (n : ℕ). Some n) (f ∙ ap (λ (k : Memory1). length k.bytes) h)
sizes_stay (m ∷ ms) zero (suc y) old new e f = refl
sizes_stay (m ∷ ms) (suc x) zero old new e f = refl
sizes_stay (m ∷ ms) (suc x) (suc y) old new e f = sizes_stay ms x y old new e f

-- segments of data
segments_written : (ds : List Segment1) (s : Store1) → AllByRecursion SegmentInRange ds → AllByRecursion (Inside s.globals s.memories) ds → StoreInRange s → StoreInRange (write_segments ds s)
segments_written [] s h fits k = k
segments_written (d ∷ ds) s h fits k =
    let at = offset_of s d.offset in
    let old = slice_index_or s.memories d.memory no_memory in
    let new : Memory1 = record old { bytes = overwritten at d.bytes old.bytes } in
    let found = there s.memories d.memory at (length d.bytes) fits.0 in
    let none : MemoryInRange no_memory = record { bytes = tt; pages = omega arith } in
    let sizes = sizes_stay s.memories d.memory in
    segments_written ds (write_segment d s) h.1
    (all_weaker (Inside s.globals s.memories) (Inside s.globals (set s.memories d.memory new))
    (λ e inside. subst (λ o. is_inside (number1 (const_value s.globals e.offset)) (length e.bytes) o ≡ true) (sym (sizes e.memory old new found.0 (length-overwritten at d.bytes old.bytes found.1))) inside) ds fits.1)
    (record {
      globals = k.globals;
      memories = all_set MemoryInRange s.memories d.memory new k.memories
          (overwritten_in at d.bytes old h.0.bytes (all_at MemoryInRange s.memories d.memory no_memory k.memories none) found.1);
    })

-- segments of elements change tables alone
globals_stay : (es : List Element1) (s : Store1) → s.globals ≡ (write_elements es s).globals
globals_stay [] s = refl
globals_stay (e ∷ es) s = globals_stay es (write_element e s)

memories_stay : (es : List Element1) (s : Store1) → s.memories ≡ (write_elements es s).memories
memories_stay [] s = refl
memories_stay (e ∷ es) s = memories_stay es (write_element e s)

all_written : (m : Module1) (s : Store1) → NumbersInRange m → all_fit m s ≡ true → StoreInRange s → StoreInRange (write_segments m.datas (write_elements m.elems s))
all_written m s h fits k =
    let globals = globals_stay m.elems s in
    let memories = memories_stay m.elems s in
    let inside = all_passed (segment_fits s) m.datas (both (list_all (element_fits s) m.elems) (list_all (segment_fits s) m.datas) fits).1 in
    segments_written m.datas (write_elements m.elems s) h.datas
    (subst (λ gs. AllByRecursion (Inside gs (write_elements m.elems s).memories) m.datas) globals (subst (λ ms. AllByRecursion (Inside s.globals ms) m.datas) memories inside))
    (record { globals = subst ValuesInRange globals k.globals; memories = subst (AllByRecursion MemoryInRange) memories k.memories })

written_if : (m : Module1) (s : Store1) (b : Bool) → all_fit m s ≡ b → NumbersInRange m → StoreInRange s → IfThere StoreInRange (if b then Some (write_segments m.datas (write_elements m.elems s)) else None)
written_if m s true e h k = all_written m s h e k
written_if m s false e h k = tt

pub segments_in : (m : Module1) (s : Store1) → NumbersInRange m → StoreInRange s → IfThere StoreInRange (with_segments m s)
segments_in m s h k = written_if m s (all_fit m s) refl h k
