-- "Memory Instructions" of chapter 4: what operands and store become, or none where the instruction traps. A range is
-- tested whole before anything is read or written, and then all of it is.
use Rattle.std.specs.Prelude.{ℕ, ◌+◌, ◌-◌, ◌*◌, ◌%◌, ◌^◌, Bool, nat_le, if◌then◌else◌, List, [], ◌∷◌, ◌++◌, replicate, set, slice_get, slice_index_or, Option, Some, None, option_map, option_and_then}
use Rattle.num_core.specs.declared.operators.Load.{Load}
use Rattle.num_core.specs.declared.operators.Store as stores
use Rattle.num_core.specs.Accesses.{load_width, load_bytes}
use Rattle.num_core.specs.Bytes.{loaded, stored}
use Rattle.lane_core.specs.declared.vector.Shape.{Shape}
use Rattle.lane_core.specs.declared.operators.memory.LaneLoad.{LaneLoad}
use Rattle.lane_core.specs.Shapes.{lane_bytes, lane_load_bytes}
use Rattle.lane_core.specs.Memory.{loaded_vector, vector_bytes, stored_lane, loaded_lane}
use Rattle.wasm_ast.specs.declared.module.immediates.MemArg.{MemArg}
use Rattle.evaluation_kit.specs.Leaves.{below, read_range, write_range}
use Rattle.meaning_new.specs.declared.val.Val.{Val}
use Rattle.meaning_new.specs.declared.val.Val.TheVariants.{V128}
use Rattle.meaning_new.specs.Store.{Store, Memory, After, Growth, int, address_width, page, page_count}
use Rattle.meaning_new.specs.Numeric.{first, second, third}

-- a fact on the memory with an index; without such a memory a trap
abbrev pub at_memory : ℕ → Store → (Memory → After) → After
at_memory x s f = option_and_then f (slice_get s.memories x)

-- the store with other bytes in a memory
abbrev pub with_bytes : ℕ → Memory → List ℕ → Store → Store
with_bytes x m bytes s = record s { memories = set s.memories x (record m { bytes = bytes }) }

-- the bytes that lie at an address, and the store in which these bytes lie there
abbrev pub read_at : Memory → ℕ → ℕ → Option (List ℕ)
read_at m at count = read_range at count m.bytes

abbrev pub write_at : ℕ → Memory → ℕ → List ℕ → Store → Option Store
write_at x m at bytes s = option_map (λ all. with_bytes x m all s) (write_range at bytes m.bytes)

-- t.load and v128.load, by how many bytes they read and what they make of them: the address lies on the top
abbrev pub load : ℕ → (List ℕ → Val) → MemArg → List Val → Store → After
load count make arg operands s =
    at_memory arg.memory s (λ m. option_map (λ bytes. (make bytes ∷ below operands, s)) (read_at m (first operands + arg.offset) count))

abbrev pub load_integer : Load → MemArg → List Val → Store → After
load_integer op arg operands s = load (load_bytes op) (λ bytes. int (load_width op) (loaded op bytes)) arg operands s

abbrev pub load_vector : LaneLoad → MemArg → List Val → Store → After
load_vector op arg operands s = load (lane_load_bytes op) (λ bytes. V128 (loaded_vector op bytes)) arg operands s

-- v128.loadN_lane: a vector lies on the top, the address below it
abbrev pub load_lane : Shape → MemArg → ℕ → List Val → Store → After
load_lane shape arg lane operands s =
    load (lane_bytes shape) (λ bytes. V128 (loaded_lane shape lane (first operands) bytes)) arg (below operands) s

-- t.store, v128.store, v128.storeN_lane: what is stored lies on the top, the address below it
abbrev pub store : (ℕ → List ℕ) → MemArg → List Val → Store → After
store bytes_of arg operands s =
    at_memory arg.memory s (λ m. option_map (λ after. (below (below operands), after)) (write_at arg.memory m (second operands + arg.offset) (bytes_of (first operands)) s))

abbrev pub store_integer : stores.Store → MemArg → List Val → Store → After
store_integer op arg operands s = store (stored op) arg operands s

abbrev pub store_vector : MemArg → List Val → Store → After
store_vector arg operands s = store vector_bytes arg operands s

abbrev pub store_lane : Shape → MemArg → ℕ → List Val → Store → After
store_lane shape arg lane operands s = store (stored_lane shape lane) arg operands s

-- memory.size
abbrev pub memory_size : ℕ → List Val → Store → After
memory_size x operands s = at_memory x s (λ m. Some (int (address_width m.wide) (page_count m) ∷ operands, s))

-- memory.grow: the old size, or all ones
abbrev pub least : Option ℕ → ℕ → ℕ
least None most = most
least (Some max) most = if nat_le max most then max else most

abbrev pub most_pages : Memory → ℕ
most_pages m = least m.max (if m.wide then 2 ^ 48 else 2 ^ 16)

abbrev pub larger_memory : ℕ → Memory → ℕ → Store → Store
larger_memory x m pages s = with_bytes x m (m.bytes ++ replicate (pages * page) 0) s

abbrev pub all_ones : Bool → ℕ
all_ones wide = if wide then 2 ^ 64 - 1 else 2 ^ 32 - 1

abbrev pub memory_growth : ℕ → List Val → Store → Memory → Growth
memory_growth x operands s m = record {
  fits = nat_le (page_count m + first operands) (most_pages m);
  larger = larger_memory x m (first operands) s;
  operands = λ ok. int (address_width m.wide) (if ok then page_count m else all_ones m.wide) ∷ below operands;
}

abbrev pub memory_grow : ℕ → List Val → Store → Option Growth
memory_grow x operands s = option_map (memory_growth x operands s) (slice_get s.memories x)

-- memory.fill: how many bytes, the byte and the address, from the top
abbrev pub memory_fill : ℕ → List Val → Store → After
memory_fill x operands s =
    at_memory x s (λ m. option_map (λ after. (below (below (below operands)), after)) (write_at x m (third operands) (replicate (first operands) (second operands % 2 ^ 8)) s))

-- memory.copy: how many bytes, the source and the destination, from the top
abbrev pub memory_copy : ℕ → ℕ → List Val → Store → After
memory_copy to from operands s =
    at_memory to s (λ m. at_memory from s (λ source.
    option_and_then (λ bytes. option_map (λ after. (below (below (below operands)), after)) (write_at to m (third operands) bytes s))
    (read_at source (second operands) (first operands))))

-- memory.init: the same from a data segment, and data.drop
abbrev pub segment_bytes : ℕ → Store → List ℕ
segment_bytes x s = slice_index_or s.datas x []

abbrev pub memory_init : ℕ → ℕ → List Val → Store → After
memory_init segment x operands s =
    at_memory x s (λ m.
    option_and_then (λ bytes. option_map (λ after. (below (below (below operands)), after)) (write_at x m (third operands) bytes s))
    (read_range (second operands) (first operands) (segment_bytes segment s)))

abbrev pub data_drop : ℕ → List Val → Store → After
data_drop segment operands s = Some (operands, record s { datas = set s.datas segment [] })
