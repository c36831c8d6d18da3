-- "Memory Instructions", and "Variable Instructions" on globals, of chapter 4 of 1.0: what operands and store become, or
-- none where the instruction traps. A module of 1.0 has one memory, with index 0.
use Rattle.std.specs.Prelude.{ℕ, ◌+◌, ◌-◌, ◌*◌, ◌^◌, nat_le, if◌then◌else◌, List, ◌∷◌, ◌++◌, replicate, set, slice_get, slice_index_or, Option, Some, None, option_map, option_and_then}
use Rattle.num_core.specs.declared.operators.Load.{Load}
use Rattle.num_core.specs.declared.operators.Store.{Store}
use Rattle.num_core.specs.Accesses.{load_width, load_bytes}
use Rattle.num_core.specs.Bytes.{loaded, stored}
use Rattle.core1_ast.specs.declared.module.immediates.MemArg1.{MemArg1}
use Rattle.evaluation_kit.specs.Leaves.{top, below, read_range, write_range}
use Rattle.meaning_core1.specs.declared.val1.Val1.{Val1}
use Rattle.meaning_core1.specs.declared.val1.Val1.TheVariants.{I32}
use Rattle.meaning_core1.specs.Store.{Store1, Memory1, Effect, Growth1, absent, value_of, page_bytes, pages1}
use Rattle.meaning_core1.specs.Operators.{top1, next1}

-- global.get and global.set
abbrev pub get_global1 : ℕ → List Val1 → Store1 → Effect
get_global1 x operands s = Some (slice_index_or s.globals x absent ∷ operands, s)

abbrev pub put_global : ℕ → Val1 → Store1 → Store1
put_global x v s = record s { globals = set s.globals x v }

abbrev pub set_global1 : ℕ → List Val1 → Store1 → Effect
set_global1 x operands s = Some (below operands, put_global x (top absent operands) s)

-- the memory; without one a trap
abbrev pub with_memory : Store1 → (Memory1 → Effect) → Effect
with_memory s f = option_and_then f (slice_get s.memories 0)

abbrev pub put_bytes : ℕ → Memory1 → List ℕ → Store1 → Store1
put_bytes x m bytes s = record s { memories = set s.memories x (record m { bytes = bytes }) }

-- t.load: the address lies on the top; t.store: the value does, and the address below it
abbrev pub load1 : Load → MemArg1 → List Val1 → Store1 → Effect
load1 op arg operands s =
    with_memory s (λ m. option_map (λ bytes. (value_of (load_width op) (loaded op bytes) ∷ below operands, s)) (read_range (top1 operands + arg.offset) (load_bytes op) m.bytes))

abbrev pub store1 : Store → MemArg1 → List Val1 → Store1 → Effect
store1 op arg operands s =
    with_memory s (λ m. option_map (λ bytes. (below (below operands), put_bytes 0 m bytes s)) (write_range (next1 operands + arg.offset) (stored op (top1 operands)) m.bytes))

-- memory.size
abbrev pub size1 : List Val1 → Store1 → Effect
size1 operands s = with_memory s (λ m. Some (I32 (pages1 m) ∷ operands, s))

-- memory.grow: the old size, or all ones
abbrev pub page_limit : Option ℕ → ℕ
page_limit None = 2 ^ 16
page_limit (Some max) = if nat_le max (2 ^ 16) then max else 2 ^ 16

abbrev pub memory_growth1 : List Val1 → Store1 → Memory1 → Growth1
memory_growth1 operands s m = record {
  fits = nat_le (pages1 m + top1 operands) (page_limit m.max);
  larger = put_bytes 0 m (m.bytes ++ replicate (top1 operands * page_bytes) 0) s;
  operands = λ ok. I32 (if ok then pages1 m else 2 ^ 32 - 1) ∷ below operands;
}

abbrev pub grow1 : List Val1 → Store1 → Option Growth1
grow1 operands s = option_map (memory_growth1 operands s) (slice_get s.memories 0)
