-- Growths of the memory: both succeed alike, and tell of the same sizes.
use Rattle.std.proofs.lemmas.List.{length-map}
use Rattle.std.proofs.Common.{◌≡◌, ℕ, ◌+◌, ◌*◌, ◌^◌, ◌-◌, Bool, true, false, ◌&&◌, List, [], ◌∷◌, ◌++◌, map, length, Option, Some, None, option_map, refl, sym, ap, ◌∙◌, if◌then◌else◌}
use Rattle.std.specs.Prelude.{slice_get, nat_le, replicate}
use Rattle.std.proofs.lemmas.Option.{slice_get-map}
use Rattle.evaluation_kit.specs.Leaves.{top, below}
use Rattle.evaluation_kit.specs.Configurations.{Plain}
use Rattle.simulation_kit.specs.Keeping.{Holds, HoldsAfter}
use Rattle.simulation_kit.specs.Likenesses.{LeafLike}
use Rattle.simulation_kit.specs.Mirrors.{mirrored, image, result_image}
use Rattle.host_kit.specs.Trace.{Grown}
use Rattle.outcome_kit.specs.Code.{Go}
use Rattle.meaning_new.specs.declared.val.Val.{Val}
use Rattle.meaning_new.specs.Store.{Memory, Table, Store, State, Growth, int, on_growth, growth_or_trap, settled_growth, told_growth, is_granted, sizes, page_count, address_width}
use Rattle.meaning_new.specs.Forms.{function_of}
use Rattle.meaning_new.specs.Numeric.{first}
use Rattle.meaning_new.specs.Memories.{memory_grow, memory_growth, least, all_ones}
use Rattle.meaning_core1.specs.declared.val1.Val1.{Val1}
use Rattle.meaning_core1.specs.declared.val1.Val1.TheVariants.{I32}
use Rattle.meaning_core1.specs.Store.{Store1, State1, Growth1, by_growth, grow_or_trap, growth_settled, growth_told, grows1, sizes1, pages1, page_bytes}
use Rattle.meaning_core1.specs.Accesses.{grow1, memory_growth1, page_limit, put_bytes}
use Rattle.crossing.specs.States.{cross_value, cross_memory, cross_table, cross_store, cross_state, IsInteger, StoreIsPlain}
use Rattle.crossing.proofs.Keeping.{Integers, IfThere, keeps, all_below, all_get, int_is}
use Rattle.crossing.proofs.Images.{crossed, M, leaf_kept, below-map, first-cross}
use Rattle.crossing.proofs.Stores.{IsNarrow, with_bytes_plain, with_bytes_cross}

-- the sizes of memories and tables
memory_sizes : (ms : List Memory) → map pages1 (map cross_memory ms) ≡ map page_count ms
memory_sizes [] = refl
memory_sizes (m ∷ ms) = ap (λ (l : List ℕ). page_count m ∷ l) (memory_sizes ms)

table_sizes : (ts : List Table) → map length (map cross_table ts) ≡ map (λ t. length t.entries) ts
table_sizes [] = refl
table_sizes (t ∷ ts) =
    ap (λ (n : ℕ). n ∷ map length (map cross_table ts)) (length-map t.entries function_of)
    ∙ ap (λ (l : List ℕ). length t.entries ∷ l) (table_sizes ts)

sizes-cross : (s : Store) → sizes1 (cross_store s) ≡ sizes s
sizes-cross s =
    ap (λ (l : List ℕ). l ++ map length (map cross_table s.tables)) (memory_sizes s.memories)
    ∙ ap (λ (l : List ℕ). map page_count s.memories ++ l) (table_sizes s.tables)

-- a growth that is the image of another
record GrowthCrosses (g : Growth) (g' : Growth1) : Type 0 where
  fits : g'.fits ≡ g.fits
  larger : g'.larger ≡ cross_store g.larger
  operands : (ok : Bool) → g'.operands ok ≡ crossed (g.operands ok)

record GrowthKept (g : Growth) : Type 0 where
  larger : StoreIsPlain g.larger
  operands : (ok : Bool) → Integers (g.operands ok)

told : (ok : Bool) (t : Store) (s : State) → growth_told ok (cross_store t) (cross_state s) ≡ cross_state (told_growth ok t s)
told ok t s = ap (λ (l : List ℕ). record (cross_state (told_growth ok t s)) { trace = s.trace ++ Grown ok l ∷ [] }) (sizes-cross t)

settles : (ok : Bool) (g : Growth) (g' : Growth1) (q : Plain Val State) → GrowthCrosses g g' → growth_settled ok g' (image M q) ≡ result_image M (settled_growth ok g q)
settles true g g' q h =
    ap (λ (o : List Val1). Go (record (image M q) { operands = o; state = growth_told true g'.larger (cross_state q.state) })) (h.operands true)
    ∙ ap (λ (t : Store1). Go (record (image M q) { operands = crossed (g.operands true); state = growth_told true t (cross_state q.state) })) h.larger
    ∙ ap (λ (s : State1). Go (record (image M q) { operands = crossed (g.operands true); state = s })) (told true g.larger q.state)
settles false g g' q h =
    ap (λ (o : List Val1). Go (record (image M q) { operands = o; state = growth_told false (cross_store q.state.store) (cross_state q.state) })) (h.operands false)
    ∙ ap (λ (s : State1). Go (record (image M q) { operands = crossed (g.operands false); state = s })) (told false q.state.store q.state)

and_true : (a b c : Bool) → c ≡ true → (a && b) ≡ (a && (b && c))
and_true false b c e = refl
and_true true false c e = refl
and_true true true c e = sym e

grants : (g : Growth) (g' : Growth1) (s : State) → GrowthCrosses g g' → ((l : List ℕ) → s.permits l ≡ true) → grows1 g' (cross_state s) ≡ is_granted g s
grants g g' s h p =
    ap (λ b. b && top true s.grows) h.fits
    ∙ and_true g.fits (top true s.grows) (s.permits (sizes g.larger)) (p (sizes g.larger))

settled_kept : (ok : Bool) (g : Growth) (q : Plain Val State) → GrowthKept g → Holds keeps q → HoldsAfter keeps (settled_growth ok g q)
settled_kept true g q k h = record { operands = k.operands true; locals = h.locals; state = record { store = k.larger; permits = h.state.permits; replies = h.state.replies } }
settled_kept false g q k h = record { operands = k.operands false; locals = h.locals; state = record { store = h.state.store; permits = h.state.permits; replies = h.state.replies } }

-- memory.grow
limit-cross : (m : Option ℕ) (wide : Bool) → wide ≡ false → page_limit m ≡ least m (if wide then 2 ^ 48 else 2 ^ 16)
limit-cross None wide e = ap (λ b. if b then 2 ^ 48 else 2 ^ 16) (sym e)
limit-cross (Some max) wide e = ap (λ b. least (Some max) (if b then 2 ^ 48 else 2 ^ 16)) (sym e)

memory_growth_crosses : (o : List Val) (s : Store) (m : Memory) → IsNarrow m → GrowthCrosses (memory_growth 0 o s m) (memory_growth1 (crossed o) (cross_store s) (cross_memory m))
memory_growth_crosses o s m n = record {
  fits =
      ap (λ (i : ℕ). nat_le (page_count m + i) (page_limit m.max)) (first-cross o)
      ∙ ap (λ (i : ℕ). nat_le (page_count m + first o) i) (limit-cross m.max m.wide n);
  larger =
      ap (λ (i : ℕ). put_bytes 0 (cross_memory m) (m.bytes ++ replicate (i * page_bytes) 0) (cross_store s)) (first-cross o)
      ∙ with_bytes_cross 0 m (m.bytes ++ replicate (first o * page_bytes) 0) s;
  operands = λ ok.
      ap (λ (l : List Val1). I32 (if ok then page_count m else 2 ^ 32 - 1) ∷ l) (below-map cross_value o)
      ∙ ap (λ (w : Bool). cross_value (int (address_width w) (if ok then page_count m else all_ones w)) ∷ crossed (below o)) (sym n);
}

memory_growth_kept : (o : List Val) (s : Store) (m : Memory) → IsNarrow m → Integers o → StoreIsPlain s → GrowthKept (memory_growth 0 o s m)
memory_growth_kept o s m n g h = record {
  larger = with_bytes_plain 0 m (m.bytes ++ replicate (first o * page_bytes) 0) s n h;
  operands = λ ok. (int_is (address_width m.wide) (if ok then page_count m else all_ones m.wide), all_below IsInteger o g);
}

grows_at : (q : Plain Val State) → Holds keeps q → (m : Option Memory) → IfThere IsNarrow m →
    grow_or_trap (image M q) (option_map (memory_growth1 (crossed q.operands) (cross_store q.state.store)) (option_map cross_memory m))
    ≡ result_image M (growth_or_trap q (option_map (memory_growth 0 q.operands q.state.store) m))
grows_at q h None n = refl
grows_at q h (Some m) n =
    let g = memory_growth 0 q.operands q.state.store m in
    let g' = memory_growth1 (crossed q.operands) (cross_store q.state.store) (cross_memory m) in
    let crosses = memory_growth_crosses q.operands q.state.store m n in
    ap (λ ok. growth_settled ok g' (image M q)) (grants g g' q.state crosses h.state.permits)
    ∙ settles (is_granted g q.state) g g' q crosses

grows_kept : (q : Plain Val State) → Holds keeps q → (m : Option Memory) → IfThere IsNarrow m → HoldsAfter keeps (growth_or_trap q (option_map (memory_growth 0 q.operands q.state.store) m))
grows_kept q h None n = (tt, h)
grows_kept q h (Some m) n =
    let g = memory_growth 0 q.operands q.state.store m in
    settled_kept (is_granted g q.state) g q (memory_growth_kept q.operands q.state.store m n h.operands h.state.store) h

pub grow_like : LeafLike (mirrored M) (on_growth (memory_grow 0)) (by_growth grow1)
grow_like =
    leaf_kept (on_growth (memory_grow 0)) (by_growth grow1)
    (λ q h.
    ap (λ o. grow_or_trap (image M q) (option_map (memory_growth1 (crossed q.operands) (cross_store q.state.store)) o)) (slice_get-map cross_memory q.state.store.memories 0)
    ∙ grows_at q h (slice_get q.state.store.memories 0) (all_get IsNarrow q.state.store.memories 0 h.state.store.memories))
    (record { keeps = λ q h. grows_kept q h (slice_get q.state.store.memories 0) (all_get IsNarrow q.state.store.memories 0 h.state.store.memories) })
