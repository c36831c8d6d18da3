-- Instructions on the store: what 1.0 makes of the images of operands and store is the image of what 3.0 makes of them.
use Rattle.std.proofs.Math.ListN.{get_or-map}
use Rattle.std.proofs.Common.{◌≡◌, ℕ, ◌+◌, Bool, false, List, ◌∷◌, map, set, Option, Some, None, option_map, refl, sym, ap, ◌∙◌, subst}
use Rattle.std.specs.Prelude.{slice_get, option_and_then}
use Rattle.std.proofs.lemmas.List.{map-set}
use Rattle.std.proofs.lemmas.Option.{slice_get-map}
use Rattle.num_core.specs.declared.operators.Load.{Load}
use Rattle.num_core.specs.declared.operators.Store as stores
use Rattle.num_core.specs.Accesses.{load_width, load_bytes}
use Rattle.num_core.specs.Bytes.{loaded, stored}
use Rattle.evaluation_kit.specs.Leaves.{top, below, read_range, write_range}
use Rattle.evaluation_kit.specs.Configurations.{Plain}
use Rattle.simulation_kit.specs.Keeping.{Holds, HoldsAfter}
use Rattle.simulation_kit.specs.Likenesses.{LeafLike}
use Rattle.simulation_kit.specs.Mirrors.{mirrored, image, result_image}
use Rattle.wasm_ast.specs.declared.module.immediates.MemArg.{MemArg}
use Rattle.meaning_new.specs.declared.val.Val.{Val}
use Rattle.meaning_new.specs.Store.{Memory, Store, State, After, missing, int, on_store, store_or_trap, page_count, address_width}
use Rattle.meaning_new.specs.Numeric.{first, second}
use Rattle.meaning_new.specs.Memories as memories
use Rattle.meaning_new.specs.Tables as tables
use Rattle.meaning_core1.specs.declared.val1.Val1.{Val1}
use Rattle.meaning_core1.specs.declared.val1.Val1.TheVariants.{I32}
use Rattle.meaning_core1.specs.Store.{Memory1, Store1, Effect, absent, value_of, by_store, effect_or_trap, pages1}
use Rattle.meaning_core1.specs.Operators.{top1}
use Rattle.meaning_core1.specs.Accesses.{get_global1, set_global1, load1, store1, size1, put_bytes}
use Rattle.crossing.specs.Code.{cross_argument}
use Rattle.crossing.specs.States.{cross_value, cross_memory, cross_store, IsInteger, StoreIsPlain}
use Rattle.crossing.proofs.Keeping.{Integers, IfThere, keeps, all_below, all_top, all_set, all_at, all_get, int_is}
use Rattle.crossing.proofs.Images.{crossed, M, leaf_kept, int-cross, below-map, top-cross, first-cross, second-cross, twice-below}

-- what becomes of operands and store
abbrev pair_image : List Val × Store → List Val1 × Store1
pair_image r = (crossed r.0, cross_store r.1)

abbrev KeptBoth : List Val × Store → Type 0
KeptBoth r = Integers r.0 × StoreIsPlain r.1

-- what an instruction on the store owes
pub record EffectCrosses (f : List Val → Store → After) (f' : List Val1 → Store1 → Effect) : Type 0 where
  pub equal : (o : List Val) (s : Store) → StoreIsPlain s → f' (crossed o) (cross_store s) ≡ option_map pair_image (f o s)
  pub kept : (o : List Val) (s : Store) → Integers o → StoreIsPlain s → IfThere KeptBoth (f o s)

effect_image : (q : Plain Val State) (r : After) → effect_or_trap (image M q) (option_map pair_image r) ≡ result_image M (store_or_trap q r)
effect_image q None = refl
effect_image q (Some r) = refl

effect_kept : (q : Plain Val State) → Holds keeps q → (r : After) → IfThere KeptBoth r → HoldsAfter keeps (store_or_trap q r)
effect_kept q h None k = (tt, h)
effect_kept q h (Some r) k = record { operands = k.0; locals = h.locals; state = record { store = k.1; permits = h.state.permits; replies = h.state.replies } }

pub effect_like : (f : List Val → Store → After) (f' : List Val1 → Store1 → Effect) → EffectCrosses f f' → LeafLike (mirrored M) (on_store f) (by_store f')
effect_like f f' e =
    leaf_kept (on_store f) (by_store f')
    (λ q h. ap (effect_or_trap (image M q)) (e.equal q.operands q.state.store h.state.store) ∙ effect_image q (f q.operands q.state.store))
    (record { keeps = λ q h. effect_kept q h (f q.operands q.state.store) (e.kept q.operands q.state.store h.operands h.state.store) })

-- globals
pub get_global_crosses : (x : ℕ) → EffectCrosses (tables.global_get x) (get_global1 x)
get_global_crosses x = record {
  equal = λ o s h. ap (λ (v : Val1). Some (v ∷ crossed o, cross_store s)) (get_or-map cross_value s.globals x missing);
  kept = λ o s g h. ((all_at IsInteger s.globals x missing h.globals tt, g), h);
}

pub with_global_plain : (x : ℕ) (v : Val) (s : Store) → IsInteger v → StoreIsPlain s → StoreIsPlain (tables.with_global x v s)
with_global_plain x v s p h = record { globals = all_set IsInteger s.globals x v h.globals p; memories = h.memories; exceptions = h.exceptions }

pub with_global_cross : (x : ℕ) (v : Val) (s : Store) → set (map cross_value s.globals) x (cross_value v) ≡ map cross_value (set s.globals x v)
with_global_cross x v s = sym (map-set cross_value s.globals x v)

pub set_global_crosses : (x : ℕ) → EffectCrosses (tables.global_set x) (set_global1 x)
set_global_crosses x = record {
  equal = λ o s h.
      ap (λ (l : List Val1). Some (l, record (cross_store s) { globals = set (map cross_value s.globals) x (top absent (crossed o)) })) (below-map cross_value o)
      ∙ ap (λ (v : Val1). Some (crossed (below o), record (cross_store s) { globals = set (map cross_value s.globals) x v })) (top-cross o)
      ∙ ap (λ (l : List Val1). Some (crossed (below o), record (cross_store s) { globals = l })) (with_global_cross x (top missing o) s);
  kept = λ o s g h. (all_below IsInteger o g, with_global_plain x (top missing o) s (all_top IsInteger o missing g tt) h);
}

-- memories
abbrev pub IsNarrow : Memory → Type 0
IsNarrow m = m.wide ≡ false

pub with_bytes_plain : (x : ℕ) (m : Memory) (bytes : List ℕ) (s : Store) → IsNarrow m → StoreIsPlain s → StoreIsPlain (memories.with_bytes x m bytes s)
with_bytes_plain x m bytes s n h = record { globals = h.globals; memories = all_set IsNarrow s.memories x (record m { bytes = bytes }) h.memories n; exceptions = h.exceptions }

pub with_bytes_cross : (x : ℕ) (m : Memory) (bytes : List ℕ) (s : Store) → put_bytes x (cross_memory m) bytes (cross_store s) ≡ cross_store (memories.with_bytes x m bytes s)
with_bytes_cross x m bytes s = ap (λ (l : List Memory1). record (cross_store s) { memories = l }) (sym (map-set cross_memory s.memories x (record m { bytes = bytes })))

loads : (op : Load) (l : List Val) (s : Store) (r : Option (List ℕ)) → option_map (λ bytes. (value_of (load_width op) (loaded op bytes) ∷ crossed l, cross_store s)) r ≡ option_map pair_image (option_map (λ bytes. (int (load_width op) (loaded op bytes) ∷ l, s)) r)
loads op l s None = refl
loads op l s (Some bytes) = ap (λ (v : Val1). Some (v ∷ crossed l, cross_store s)) (int-cross (load_width op) (loaded op bytes))

loads_at : (op : Load) (at : ℕ) (l : List Val) (s : Store) (o : Option Memory) →
    option_and_then (λ m. option_map (λ bytes. (value_of (load_width op) (loaded op bytes) ∷ crossed l, cross_store s)) (read_range at (load_bytes op) m.bytes)) (option_map cross_memory o)
    ≡ option_map pair_image (option_and_then (λ m. option_map (λ bytes. (int (load_width op) (loaded op bytes) ∷ l, s)) (read_range at (load_bytes op) m.bytes)) o)
loads_at op at l s None = refl
loads_at op at l s (Some m) = loads op l s (read_range at (load_bytes op) m.bytes)

loads_kept : (op : Load) (l : List Val) (s : Store) (r : Option (List ℕ)) → Integers l → StoreIsPlain s → IfThere KeptBoth (option_map (λ bytes. (int (load_width op) (loaded op bytes) ∷ l, s)) r)
loads_kept op l s None g h = tt
loads_kept op l s (Some bytes) g h = ((int_is (load_width op) (loaded op bytes), g), h)

loads_at_kept : (op : Load) (at : ℕ) (l : List Val) (s : Store) (o : Option Memory) → Integers l → StoreIsPlain s → IfThere KeptBoth (option_and_then (λ m. option_map (λ bytes. (int (load_width op) (loaded op bytes) ∷ l, s)) (read_range at (load_bytes op) m.bytes)) o)
loads_at_kept op at l s None g h = tt
loads_at_kept op at l s (Some m) g h = loads_kept op l s (read_range at (load_bytes op) m.bytes) g h

abbrev load_on : Load → ℕ → ℕ → List Val1 → Store1 → Effect
load_on op offset at l s = option_and_then (λ m. option_map (λ bytes. (value_of (load_width op) (loaded op bytes) ∷ l, s)) (read_range (at + offset) (load_bytes op) m.bytes)) (slice_get s.memories 0)

load_first : (op : Load) (align offset : ℕ) → EffectCrosses (memories.load_integer op (record { memory = 0; align = align; offset = offset })) (load1 op (record { align = align; offset = offset }))
load_first op align offset = record {
  equal = λ o s h.
      ap (λ (at : ℕ). load_on op offset at (below (crossed o)) (cross_store s)) (first-cross o)
      ∙ ap (λ (l : List Val1). load_on op offset (first o) l (cross_store s)) (below-map cross_value o)
      ∙ ap (option_and_then (λ m. option_map (λ bytes. (value_of (load_width op) (loaded op bytes) ∷ crossed (below o), cross_store s)) (read_range (first o + offset) (load_bytes op) m.bytes))) (slice_get-map cross_memory s.memories 0)
      ∙ loads_at op (first o + offset) (below o) s (slice_get s.memories 0);
  kept = λ o s g h. loads_at_kept op (first o + offset) (below o) s (slice_get s.memories 0) (all_below IsInteger o g) h;
}

pub load_crosses : (op : Load) (arg : MemArg) → arg.memory ≡ 0 → EffectCrosses (memories.load_integer op arg) (load1 op (cross_argument arg))
load_crosses op arg e = subst (λ (x : ℕ). EffectCrosses (memories.load_integer op (record { memory = x; align = arg.align; offset = arg.offset })) (load1 op (cross_argument arg))) (sym e) (load_first op arg.align arg.offset)

stores_bytes : (l : List Val) (m : Memory) (s : Store) (r : Option (List ℕ)) → option_map (λ bytes. (crossed l, put_bytes 0 (cross_memory m) bytes (cross_store s))) r ≡ option_map pair_image (option_map (λ after. (l, after)) (option_map (λ all. memories.with_bytes 0 m all s) r))
stores_bytes l m s None = refl
stores_bytes l m s (Some bytes) = ap (λ (t : Store1). Some (crossed l, t)) (with_bytes_cross 0 m bytes s)

stores_at : (at : ℕ) (bytes : List ℕ) (l : List Val) (s : Store) (o : Option Memory) →
    option_and_then (λ m. option_map (λ all. (crossed l, put_bytes 0 m all (cross_store s))) (write_range at bytes m.bytes)) (option_map cross_memory o)
    ≡ option_map pair_image (option_and_then (λ m. option_map (λ after. (l, after)) (memories.write_at 0 m at bytes s)) o)
stores_at at bytes l s None = refl
stores_at at bytes l s (Some m) = stores_bytes l m s (write_range at bytes m.bytes)

stores_kept : (l : List Val) (m : Memory) (s : Store) (r : Option (List ℕ)) → Integers l → IsNarrow m → StoreIsPlain s → IfThere KeptBoth (option_map (λ after. (l, after)) (option_map (λ all. memories.with_bytes 0 m all s) r))
stores_kept l m s None g n h = tt
stores_kept l m s (Some bytes) g n h = (g, with_bytes_plain 0 m bytes s n h)

stores_at_kept : (at : ℕ) (bytes : List ℕ) (l : List Val) (s : Store) (o : Option Memory) → Integers l → IfThere IsNarrow o → StoreIsPlain s → IfThere KeptBoth (option_and_then (λ m. option_map (λ after. (l, after)) (memories.write_at 0 m at bytes s)) o)
stores_at_kept at bytes l s None g n h = tt
stores_at_kept at bytes l s (Some m) g n h = stores_kept l m s (write_range at bytes m.bytes) g n h

abbrev store_on : stores.Store → ℕ → ℕ → ℕ → List Val1 → Store1 → Effect
store_on op offset at value l s = option_and_then (λ m. option_map (λ bytes. (l, put_bytes 0 m bytes s)) (write_range (at + offset) (stored op value) m.bytes)) (slice_get s.memories 0)

store_first : (op : stores.Store) (align offset : ℕ) → EffectCrosses (memories.store_integer op (record { memory = 0; align = align; offset = offset })) (store1 op (record { align = align; offset = offset }))
store_first op align offset = record {
  equal = λ o s h.
      ap (λ (at : ℕ). store_on op offset at (top1 (crossed o)) (below (below (crossed o))) (cross_store s)) (second-cross o)
      ∙ ap (λ (v : ℕ). store_on op offset (second o) v (below (below (crossed o))) (cross_store s)) (first-cross o)
      ∙ ap (λ (l : List Val1). store_on op offset (second o) (first o) l (cross_store s)) (twice-below o)
      ∙ ap (option_and_then (λ m. option_map (λ bytes. (crossed (below (below o)), put_bytes 0 m bytes (cross_store s))) (write_range (second o + offset) (stored op (first o)) m.bytes))) (slice_get-map cross_memory s.memories 0)
      ∙ stores_at (second o + offset) (stored op (first o)) (below (below o)) s (slice_get s.memories 0);
  kept = λ o s g h. stores_at_kept (second o + offset) (stored op (first o)) (below (below o)) s (slice_get s.memories 0) (all_below IsInteger (below o) (all_below IsInteger o g)) (all_get IsNarrow s.memories 0 h.memories) h;
}

pub store_crosses : (op : stores.Store) (arg : MemArg) → arg.memory ≡ 0 → EffectCrosses (memories.store_integer op arg) (store1 op (cross_argument arg))
store_crosses op arg e = subst (λ (x : ℕ). EffectCrosses (memories.store_integer op (record { memory = x; align = arg.align; offset = arg.offset })) (store1 op (cross_argument arg))) (sym e) (store_first op arg.align arg.offset)

-- memory.size, whose value is an i32 where addresses are
size_at : (o : List Val) (s : Store) (m : Option Memory) → IfThere IsNarrow m →
    option_and_then (λ n. Some (I32 (pages1 n) ∷ crossed o, cross_store s)) (option_map cross_memory m)
    ≡ option_map pair_image (option_and_then (λ n. Some (int (address_width n.wide) (page_count n) ∷ o, s)) m)
size_at o s None n = refl
size_at o s (Some m) n = ap (λ (w : Bool). Some (cross_value (int (address_width w) (page_count m)) ∷ crossed o, cross_store s)) (sym n)

size_kept : (o : List Val) (s : Store) (m : Option Memory) → Integers o → StoreIsPlain s → IfThere KeptBoth (option_and_then (λ n. Some (int (address_width n.wide) (page_count n) ∷ o, s)) m)
size_kept o s None g h = tt
size_kept o s (Some m) g h = ((int_is (address_width m.wide) (page_count m), g), h)

pub size_crosses : EffectCrosses (memories.memory_size 0) size1
size_crosses = record {
  equal = λ o s h.
      ap (option_and_then (λ n. Some (I32 (pages1 n) ∷ crossed o, cross_store s))) (slice_get-map cross_memory s.memories 0)
      ∙ size_at o s (slice_get s.memories 0) (all_get IsNarrow s.memories 0 h.memories);
  kept = λ o s g h. size_kept o s (slice_get s.memories 0) g h;
}
