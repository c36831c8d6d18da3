-- "Memory Instructions": what they leave is typed.
use Rattle.std.proofs.Common.{◌≡◌, ℕ, ◌+◌, if◌then◌else◌, List, ◌∷◌, ◌++◌, length, Some, option_map, refl, sym, subst}
use Rattle.std.specs.Prelude.{slice_get, replicate, ◌%◌, ◌^◌, ◌*◌}
use Rattle.wasm_ast.specs.declared.module.ty.Ty.{Ty}
use Rattle.wasm_ast.specs.declared.module.ty.Ty.TheVariants as types
use Rattle.wasm_ast.specs.declared.module.ty.Limits.{Limits}
use Rattle.wasm_ast.specs.declared.module.immediates.MemArg.{MemArg}
use Rattle.wasm_ast.specs.declared.module.parts.Module.{Module}
use Rattle.typed_trees.specs.Contexts.{Context, address_of, address_type}
use Rattle.typed_trees.specs.Modules.{all_memories}
use Rattle.evaluation_kit.specs.Leaves.{below, read_range, write_range}
use Rattle.meaning_new.specs.declared.val.Val.{Val}
use Rattle.meaning_new.specs.Store.{Store, Memory, on_store, on_growth, int, address_width, page, page_count}
use Rattle.meaning_new.specs.Numeric.{first, second, third}
use Rattle.meaning_new.specs.Memories
use Rattle.soundness.specs.States.{Has, HaveTypes, StoreTyped}
use Rattle.soundness.proofs.Lists.{IfAny, pair_get}
use Rattle.soundness.proofs.Values.{address_typed}
use Rattle.soundness.proofs.Operators.{under, under2, under3}
use Rattle.soundness.proofs.Judging.{ActSafe}
use Rattle.soundness.proofs.Stores.{WroteAfter, GrowthTyped, store_safe, growth_safe, with_memory, without_data, at_any_memory, at_typed_memory, then_any, map_any, wrote_any, anything}

module _ (m : Module) (c : Context) (ls : List (List Ty)) (rest : List Ty) where
  -- what is read, whatever the type of the address
  loads : (k count : ℕ) (make : List ℕ → Val) (arg : MemArg) (gives : Ty) → ((bytes : List ℕ) → Has m k (make bytes) gives) → (vs : List Val) (s : Store) → length s.exceptions ≡ k → StoreTyped m s → HaveTypes m k (below vs) rest → IfAny (WroteAfter m k (gives ∷ rest)) (Memories.load count make arg vs s)
  loads k count make arg gives made vs s same t h =
      let P = WroteAfter m k (gives ∷ rest) in
      at_any_memory m P s arg.memory _ (λ mem there.
      map_any m P (λ bytes. Unit {0}) (Memories.read_at mem (first vs + arg.offset) count) _ (anything m (Memories.read_at mem (first vs + arg.offset) count)) (λ bytes i.
      record { same = same; operands = (made bytes, h); store = t }))

  pub load_safe : (count : ℕ) (make : List ℕ → Val) (arg : MemArg) (address gives : Ty) → ((k : ℕ) (bytes : List ℕ) → Has m k (make bytes) gives) → ActSafe m c ls (address ∷ rest) (Some (gives ∷ rest)) (on_store (Memories.load count make arg))
  load_safe count make arg address gives made = store_safe m c ls (address ∷ rest) (gives ∷ rest) (Memories.load count make arg) (λ vs s t h.
      loads (length s.exceptions) count make arg gives (made (length s.exceptions)) vs s refl t (under m (length s.exceptions) vs address rest h))

  -- one whose result depends on a vector on the top
  pub load_lane_safe : (count : ℕ) (make : List Val → List ℕ → Val) (arg : MemArg) (address : Ty) → ((k : ℕ) (vs : List Val) (bytes : List ℕ) → Has m k (make vs bytes) types.V128) → ActSafe m c ls (types.V128 ∷ (address ∷ rest)) (Some (types.V128 ∷ rest)) (on_store (λ vs s. Memories.load count (make vs) arg (below vs) s))
  load_lane_safe count make arg address made = store_safe m c ls (types.V128 ∷ (address ∷ rest)) (types.V128 ∷ rest) (λ vs s. Memories.load count (make vs) arg (below vs) s) (λ vs s t h.
      loads (length s.exceptions) count (make vs) arg types.V128 (made (length s.exceptions) vs) (below vs) s refl t (under2 m (length s.exceptions) vs types.V128 address rest h))

  -- bytes that are written
  written : (k x : ℕ) (mem : Memory) (at : ℕ) (bytes : List ℕ) (left : List Val) (s : Store) → slice_get s.memories x ≡ Some mem → length s.exceptions ≡ k → StoreTyped m s → HaveTypes m k left rest → IfAny (WroteAfter m k rest) (option_map (λ after. (left, after)) (Memories.write_at x mem at bytes s))
  written k x mem at bytes left s there same t h =
      wrote_any m (WroteAfter m k rest) (λ all. Unit {0}) (write_range at bytes mem.bytes) left (λ all. Memories.with_bytes x mem all s) (anything m (write_range at bytes mem.bytes))
      (λ all i. record { same = same; operands = h; store = with_memory m s x mem all there t })

  pub store_bytes_safe : (bytes_of : ℕ → List ℕ) (arg : MemArg) (address value : Ty) → ActSafe m c ls (value ∷ (address ∷ rest)) (Some rest) (on_store (Memories.store bytes_of arg))
  store_bytes_safe bytes_of arg address value = store_safe m c ls (value ∷ (address ∷ rest)) rest (Memories.store bytes_of arg) (λ vs s t h.
      let k = length s.exceptions in
      at_any_memory m (WroteAfter m k rest) s arg.memory _ (λ mem there.
      written k arg.memory mem (second vs + arg.offset) (bytes_of (first vs)) (below (below vs)) s there refl t (under2 m k vs value address rest h)))

  pub memory_size_safe : (x : ℕ) (l : Limits) → slice_get (all_memories m) x ≡ Some l → ActSafe m c ls rest (Some (address_type l ∷ rest)) (on_store (Memories.memory_size x))
  memory_size_safe x l e = store_safe m c ls rest (address_type l ∷ rest) (Memories.memory_size x) (λ vs s t h.
      let k = length s.exceptions in
      at_typed_memory m (WroteAfter m k (address_type l ∷ rest)) s x l e t _ (λ mem there wide.
      record { same = refl; operands = (subst (λ b. Has m k (int (address_width mem.wide) (page_count mem)) (address_of b)) wide (address_typed m k mem.wide (page_count mem)), h); store = t }))

  pub memory_grow_safe : (x : ℕ) (l : Limits) → slice_get (all_memories m) x ≡ Some l → ActSafe m c ls (address_type l ∷ rest) (Some (address_type l ∷ rest)) (on_growth (Memories.memory_grow x))
  memory_grow_safe x l e = growth_safe m c ls (address_type l ∷ rest) (address_type l ∷ rest) (Memories.memory_grow x) (λ vs s t h.
      let k = length s.exceptions in
      let there = pair_get (λ i u. i.wide ≡ u.wide) s.memories (all_memories m) x l e t.memories in
      let mem = there.0 in
      subst (λ o. IfAny (GrowthTyped m k (address_type l ∷ rest)) (option_map (Memories.memory_growth x vs s) o)) (sym there.1)
      (record {
        same = refl;
        larger = with_memory m s x mem (mem.bytes ++ replicate (first vs * page) 0) there.1 t;
        operands = λ ok.
            let old = if ok then page_count mem else Memories.all_ones mem.wide in
            (subst (λ b. Has m k (int (address_width mem.wide) old) (address_of b)) there.2 (address_typed m k mem.wide old), under m k vs (address_type l) rest h);
      }))

  module _ (x : ℕ) (low middle high : Ty) where
    pub memory_fill_safe : ActSafe m c ls (low ∷ (middle ∷ (high ∷ rest))) (Some rest) (on_store (Memories.memory_fill x))
    memory_fill_safe = store_safe m c ls (low ∷ (middle ∷ (high ∷ rest))) rest (Memories.memory_fill x) (λ vs s t h.
        let k = length s.exceptions in
        at_any_memory m (WroteAfter m k rest) s x _ (λ mem there.
        written k x mem (third vs) (replicate (first vs) (second vs % 2 ^ 8)) (below (below (below vs))) s there refl t (under3 m k vs low middle high rest h)))

    pub memory_copy_safe : (from : ℕ) → ActSafe m c ls (low ∷ (middle ∷ (high ∷ rest))) (Some rest) (on_store (Memories.memory_copy x from))
    memory_copy_safe from = store_safe m c ls (low ∷ (middle ∷ (high ∷ rest))) rest (Memories.memory_copy x from) (λ vs s t h.
        let k = length s.exceptions in
        let P = WroteAfter m k rest in
        at_any_memory m P s x _ (λ mem there.
        at_any_memory m P s from _ (λ source other.
        then_any m P (λ bytes. Unit {0}) (Memories.read_at source (second vs) (first vs)) _ (anything m (Memories.read_at source (second vs) (first vs))) (λ bytes i.
        written k x mem (third vs) bytes (below (below (below vs))) s there refl t (under3 m k vs low middle high rest h)))))

    pub memory_init_after : (segment : ℕ) (vs : List Val) (s : Store) → StoreTyped m s → HaveTypes m (length s.exceptions) vs (low ∷ (middle ∷ (high ∷ rest))) → IfAny (WroteAfter m (length s.exceptions) rest) (Memories.memory_init segment x vs s)
    memory_init_after segment vs s t h =
        let k = length s.exceptions in
        let P = WroteAfter m k rest in
        at_any_memory m P s x _ (λ mem there.
        then_any m P (λ bytes. Unit {0}) (read_range (second vs) (first vs) (Memories.segment_bytes segment s)) _ (anything m (read_range (second vs) (first vs) (Memories.segment_bytes segment s))) (λ bytes i.
        written k x mem (third vs) bytes (below (below (below vs))) s there refl t (under3 m k vs low middle high rest h)))

    pub memory_init_safe : (segment : ℕ) → ActSafe m c ls (low ∷ (middle ∷ (high ∷ rest))) (Some rest) (on_store (Memories.memory_init segment x))
    memory_init_safe segment = store_safe m c ls (low ∷ (middle ∷ (high ∷ rest))) rest (Memories.memory_init segment x) (memory_init_after segment)

  pub data_drop_safe : (segment : ℕ) → ActSafe m c ls rest (Some rest) (on_store (Memories.data_drop segment))
  data_drop_safe segment = store_safe m c ls rest rest (Memories.data_drop segment) (λ vs s t h. record { same = refl; operands = h; store = without_data m s segment t })
