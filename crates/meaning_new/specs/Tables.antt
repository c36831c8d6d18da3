-- "Table Instructions" and "Variable Instructions" on globals, of chapter 4: what operands and store become, or none
-- where the instruction traps.
use Rattle.std.specs.Prelude.{ℕ, ◌+◌, ◌-◌, ◌^◌, nat_le, if◌then◌else◌, List, [], ◌∷◌, ◌++◌, length, replicate, set, slice_get, slice_index_or, Option, Some, None, option_map, option_and_then}
use Rattle.evaluation_kit.specs.Leaves.{top, below, read_range, write_range}
use Rattle.meaning_new.specs.declared.val.Val.{Val}
use Rattle.meaning_new.specs.declared.val.Val.TheVariants.{I32}
use Rattle.meaning_new.specs.Store.{Store, Table, After, Growth, missing}
use Rattle.meaning_new.specs.Numeric.{first, second, third}

-- global.get and global.set
abbrev pub global_get : ℕ → List Val → Store → After
global_get x operands s = Some (slice_index_or s.globals x missing ∷ operands, s)

abbrev pub with_global : ℕ → Val → Store → Store
with_global x v s = record s { globals = set s.globals x v }

abbrev pub global_set : ℕ → List Val → Store → After
global_set x operands s = Some (below operands, with_global x (top missing operands) s)

-- a fact on the table with an index; without such a table a trap
abbrev pub at_table : ℕ → Store → (Table → After) → After
at_table x s f = option_and_then f (slice_get s.tables x)

abbrev pub with_entries : ℕ → Table → List Val → Store → Store
with_entries x t entries s = record s { tables = set s.tables x (record t { entries = entries }) }

abbrev pub put_entries : ℕ → Table → ℕ → List Val → Store → Option Store
put_entries x t at entries s = option_map (λ all. with_entries x t all s) (write_range at entries t.entries)

-- table.get: the place lies on the top; table.set: the reference, and the place below it
abbrev pub table_get : ℕ → List Val → Store → After
table_get x operands s = at_table x s (λ t. option_map (λ v. (v ∷ below operands, s)) (slice_get t.entries (first operands)))

abbrev pub table_set : ℕ → List Val → Store → After
table_set x operands s =
    at_table x s (λ t. option_map (λ after. (below (below operands), after)) (put_entries x t (second operands) (top missing operands ∷ []) s))

-- table.size
abbrev pub table_size : ℕ → List Val → Store → After
table_size x operands s = at_table x s (λ t. Some (I32 (length t.entries) ∷ operands, s))

-- table.grow: how many entries, and the reference below; the old size, or all ones
abbrev pub most_entries : Option ℕ → ℕ
most_entries None = 2 ^ 32 - 1
most_entries (Some max) = max

abbrev pub larger_table : ℕ → Table → ℕ → Val → Store → Store
larger_table x t count v s = with_entries x t (t.entries ++ replicate count v) s

abbrev pub table_growth : ℕ → List Val → Store → Table → Growth
table_growth x operands s t = record {
  fits = nat_le (length t.entries + first operands) (most_entries t.max);
  larger = larger_table x t (first operands) (top missing (below operands)) s;
  operands = λ ok. I32 (if ok then length t.entries else 2 ^ 32 - 1) ∷ below (below operands);
}

abbrev pub table_grow : ℕ → List Val → Store → Option Growth
table_grow x operands s = option_map (table_growth x operands s) (slice_get s.tables x)

-- table.fill: how many entries, the reference and the place, from the top
abbrev pub table_fill : ℕ → List Val → Store → After
table_fill x operands s =
    at_table x s (λ t. option_map (λ after. (below (below (below operands)), after)) (put_entries x t (third operands) (replicate (first operands) (top missing (below operands))) s))

-- table.copy: how many entries, the source and the destination, from the top
abbrev pub table_copy : ℕ → ℕ → List Val → Store → After
table_copy to from operands s =
    at_table to s (λ t. at_table from s (λ source.
    option_and_then (λ entries. option_map (λ after. (below (below (below operands)), after)) (put_entries to t (third operands) entries s))
    (read_range (second operands) (first operands) source.entries)))

-- table.init: the same from an element segment, and elem.drop
abbrev pub segment_entries : ℕ → Store → List Val
segment_entries x s = slice_index_or s.elems x []

abbrev pub table_init : ℕ → ℕ → List Val → Store → After
table_init segment x operands s =
    at_table x s (λ t.
    option_and_then (λ entries. option_map (λ after. (below (below (below operands)), after)) (put_entries x t (third operands) entries s))
    (read_range (second operands) (first operands) (segment_entries segment s)))

abbrev pub elem_drop : ℕ → List Val → Store → After
elem_drop segment operands s = Some (operands, record s { elems = set s.elems segment [] })
