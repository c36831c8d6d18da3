-- Instantiation of a module of 1.0 ("Modules" of chapter 4 of 1.0, "Instantiation"): the ranges of all active segments
-- are tested before any is written.
use Rattle.std.specs.Prelude.{ℕ, ◌+◌, ◌*◌, Bool, false, ◌&&◌, nat_le, if◌then◌else◌, List, [], ◌∷◌, ◌++◌, length, map, take, drop, replicate, set, slice_get, slice_index_or, Option, Some, None, option_map}
use Rattle.std.specs.List.{list_all}
use Rattle.host_kit.specs.declared.script.Script.{Script}
use Rattle.core1_ast.specs.Spaces.{all_tables, all_memories}
use Rattle.core1_ast.specs.declared.module.ty.Limits1.{Limits1}
use Rattle.core1_ast.specs.declared.module.code.Instr1.{Instr1, out-Instr1}
use Rattle.core1_ast.specs.declared.module.code.Instr1.TheOpen.{Instr1-F}
use Rattle.core1_ast.specs.declared.module.parts.Element1.{Element1}
use Rattle.core1_ast.specs.declared.module.parts.Segment1.{Segment1}
use Rattle.core1_ast.specs.declared.module.parts.Module1.{Module1}
use Rattle.evaluation_kit.specs.Leaves.{top}
use Rattle.meaning_core1.specs.declared.val1.Val1.{Val1}
use Rattle.meaning_core1.specs.Store.{Store1, State1, Memory1, absent, number1, value_from, page_bytes}
use Rattle.meaning_core1.specs.Operators.{pure_op}

-- "Constant Expressions", by the globals that are there; what is no instruction of theirs does nothing
abbrev pub kept_or : List Val1 → Option (List Val1) → List Val1
kept_or operands None = operands
kept_or operands (Some after) = after

abbrev pub const_step : List Val1 → Instr1-F Instr1 → List Val1 → List Val1
const_step globals (Instr1-F.GlobalGet x) operands = slice_index_or globals x absent ∷ operands
const_step globals (Instr1-F.Pure op) operands = kept_or operands (pure_op op operands)
const_step globals _ operands = operands

abbrev pub const_steps : List Val1 → List Instr1 → List Val1 → List Val1
const_steps globals [] operands = operands
const_steps globals (i ∷ code) operands = const_steps globals code (const_step globals (out-Instr1 i) operands)

abbrev pub const_value : List Val1 → List Instr1 → Val1
const_value globals code = top absent (const_steps globals code [])

-- the globals: the host's values for those imported, and then the module's own, by the imported ones
abbrev pub imported_values : Script → List Val1
imported_values script = map value_from script.globals

abbrev pub global_values1 : Module1 → Script → List Val1
global_values1 m script = imported_values script ++ map (λ g. const_value (imported_values script) g.init) m.globals

-- memories of zeros and tables without functions, at their least size
abbrev pub zero_memory : Limits1 → Memory1
zero_memory l = record { bytes = replicate (l.min * page_bytes) 0; max = l.max }

abbrev pub empty_table : Limits1 → List (Option ℕ)
empty_table l = replicate l.min None

-- the store before any segment is written
abbrev pub new_store : Module1 → Script → Store1
new_store m script = record {
  globals = global_values1 m script;
  memories = map zero_memory (all_memories m);
  tables = map empty_table (all_tables m);
}

-- the state in which a run begins
abbrev pub new_state1 : Module1 → Script → State1
new_state1 m script = record { store = new_store m script; replies = script.replies; grows = script.grows; trace = [] }

-- where a segment begins, by its offset
abbrev pub offset_of : Store1 → List Instr1 → ℕ
offset_of s code = number1 (const_value s.globals code)

-- whether so many items from a place on are inside, where there is such a list at all
abbrev pub is_inside : ℕ → ℕ → Option ℕ → Bool
is_inside at count None = false
is_inside at count (Some size) = nat_le (at + count) size

abbrev pub element_fits : Store1 → Element1 → Bool
element_fits s e = is_inside (offset_of s e.offset) (length e.items) (option_map length (slice_get s.tables e.table))

abbrev pub segment_fits : Store1 → Segment1 → Bool
segment_fits s d = is_inside (offset_of s d.offset) (length d.bytes) (option_map (λ m. length m.bytes) (slice_get s.memories d.memory))

-- items written over those from a place on
abbrev pub overwritten : {A : Type 0} → ℕ → List A → List A → List A
overwritten at new items = take at items ++ (new ++ drop (at + length new) items)

abbrev pub write_element : Element1 → Store1 → Store1
write_element e s =
    record s { tables = set s.tables e.table (overwritten (offset_of s e.offset) (map (λ f. Some f) e.items) (slice_index_or s.tables e.table [])) }

abbrev pub no_memory : Memory1
no_memory = record { bytes = []; max = None }

abbrev pub with_segment : Segment1 → Memory1 → Store1 → Store1
with_segment d m s = record s { memories = set s.memories d.memory (record m { bytes = overwritten (offset_of s d.offset) d.bytes m.bytes }) }

abbrev pub write_segment : Segment1 → Store1 → Store1
write_segment d s = with_segment d (slice_index_or s.memories d.memory no_memory) s

abbrev pub write_elements : List Element1 → Store1 → Store1
write_elements [] s = s
write_elements (e ∷ more) s = write_elements more (write_element e s)

abbrev pub write_segments : List Segment1 → Store1 → Store1
write_segments [] s = s
write_segments (d ∷ more) s = write_segments more (write_segment d s)

-- all fit, and then all are written; else none
abbrev pub all_fit : Module1 → Store1 → Bool
all_fit m s = list_all (element_fits s) m.elems && list_all (segment_fits s) m.datas

abbrev pub with_segments : Module1 → Store1 → Option Store1
with_segments m s = if all_fit m s then Some (write_segments m.datas (write_elements m.elems s)) else None
