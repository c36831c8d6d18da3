-- Instantiation ("Modules" of chapter 4, "Instantiation"): globals in order, then tables, element segments and data
-- segments. Each active segment is written in order; the first that does not fit traps.
use Rattle.std.specs.Prelude.{ℕ, ◌+◌, ◌*◌, Bool, List, [], ◌∷◌, ◌++◌, length, map, filter_map, replicate, slice_index_or, Option, Some, None, option_and_then}
use Rattle.host_kit.specs.declared.script.Script.{Script}
use Rattle.wasm_ast.specs.declared.module.ty.Ty.{Ty}
use Rattle.wasm_ast.specs.declared.module.ty.Limits.{Limits}
use Rattle.wasm_ast.specs.declared.module.code.Instr.{Instr, out-Instr}
use Rattle.wasm_ast.specs.declared.module.code.Instr.TheOpen.{Instr-F}
use Rattle.wasm_ast.specs.declared.module.parts.ImportDesc.{ImportDesc}
use Rattle.wasm_ast.specs.declared.module.parts.ImportDesc.TheVariants as imports
use Rattle.wasm_ast.specs.declared.module.parts.Mode.{Mode}
use Rattle.wasm_ast.specs.declared.module.parts.Mode.TheVariants.{Active, Passive, Declarative}
use Rattle.wasm_ast.specs.declared.module.parts.Global.{Global}
use Rattle.wasm_ast.specs.declared.module.parts.Element.{Element}
use Rattle.wasm_ast.specs.declared.module.parts.Segment.{Segment}
use Rattle.wasm_ast.specs.declared.module.parts.Module.{Module}
use Rattle.evaluation_kit.specs.Leaves.{top}
use Rattle.meaning_new.specs.declared.val.Val.{Val}
use Rattle.meaning_new.specs.declared.val.Val.TheVariants.{I32, Null}
use Rattle.meaning_new.specs.Store.{Store, State, Memory, Table, After, missing, page, from_host}
use Rattle.meaning_new.specs.Numeric.{pure}
use Rattle.meaning_new.specs.Memories.{memory_init, data_drop}
use Rattle.meaning_new.specs.Tables.{table_init, elem_drop}

-- "Constant Expressions", by the globals that are there; what is no instruction of theirs does nothing
abbrev pub or_same : List Val → Option (List Val) → List Val
or_same operands None = operands
or_same operands (Some after) = after

abbrev pub constant_step : List Val → Instr-F Instr → List Val → List Val
constant_step globals (Instr-F.GlobalGet x) operands = slice_index_or globals x missing ∷ operands
constant_step globals (Instr-F.Pure op) operands = or_same operands (pure op operands)
constant_step globals _ operands = operands

abbrev pub constant_steps : List Val → List Instr → List Val → List Val
constant_steps globals [] operands = operands
constant_steps globals (i ∷ code) operands = constant_steps globals code (constant_step globals (out-Instr i) operands)

abbrev pub constant : List Val → List Instr → Val
constant globals code = top missing (constant_steps globals code [])

-- the globals: the host's values for those imported, and then the module's own, each by those before it
abbrev pub with_globals : List Global → List Val → List Val
with_globals [] globals = globals
with_globals (g ∷ more) globals = with_globals more (globals ++ constant globals g.init ∷ [])

abbrev pub all_values : Module → Script → List Val
all_values m script = with_globals m.globals (map from_host script.globals)

-- memories of zeros at their least size
abbrev pub new_memory : Limits → Memory
new_memory l = record { bytes = replicate (l.min * page) 0; max = l.max; wide = l.wide }

abbrev pub memory_import : ImportDesc → Option Limits
memory_import (imports.Memory l) = Some l
memory_import _ = None

abbrev pub new_memories : Module → List Memory
new_memories m = map new_memory (filter_map (λ i. memory_import i.desc) m.imports ++ m.memories)

-- tables of one entry, null where no expression gives it, at their least size
abbrev pub first_entry : List Val → Ty → Option (List Instr) → Val
first_entry globals t None = Null t
first_entry globals t (Some code) = constant globals code

abbrev pub new_table : Val → Limits → Table
new_table v l = record { entries = replicate l.min v; max = l.max }

abbrev pub table_import : ImportDesc → Option Table
table_import (imports.Table t l) = Some (new_table (Null t) l)
table_import _ = None

abbrev pub new_tables : Module → List Val → List Table
new_tables m globals =
    filter_map (λ i. table_import i.desc) m.imports ++ map (λ t. new_table (first_entry globals t.ty t.init) t.limits) m.tables

-- the store before any segment is written
abbrev pub new_store : Module → List Val → Store
new_store m globals = record {
  globals = globals;
  memories = new_memories m;
  tables = new_tables m globals;
  elems = map (λ e. map (constant globals) e.items) m.elems;
  datas = map (λ d. d.bytes) m.datas;
  exceptions = [];
}

-- the state in which a run begins, within bounds
abbrev pub new_state : (List ℕ → Bool) → (ℕ → Bool) → Bool → Module → Script → State
new_state permits room strict m script =
    record {
      store = new_store m (all_values m script);
      replies = script.replies;
      grows = script.grows;
      trace = [];
      permits = permits;
      room = room;
      strict = strict;
    }

-- the store after an instruction that was given these operands
abbrev pub then : After → (Store → Option Store) → Option Store
then None f = None
then (Some r) f = f r.1

abbrev pub store_of : After → Option Store
store_of o = then o (λ s. Some s)

-- an active segment is copied whole to its offset, and dropped; a declarative one is dropped
abbrev pub whole : ℕ → Val → List Val
whole count offset = I32 count ∷ (I32 0 ∷ (offset ∷ []))

abbrev pub place_elem : ℕ → Element → Mode → Store → Option Store
place_elem i e (Active x offset) s =
    then (table_init i x (whole (length e.items) (constant s.globals offset)) s) (λ after. store_of (elem_drop i [] after))
place_elem i e Passive s = Some s
place_elem i e Declarative s = store_of (elem_drop i [] s)

abbrev pub place_elems : ℕ → List Element → Store → Option Store
place_elems i [] s = Some s
place_elems i (e ∷ more) s = option_and_then (place_elems (i + 1) more) (place_elem i e e.mode s)

abbrev pub place_data : ℕ → Segment → Mode → Store → Option Store
place_data i d (Active x offset) s =
    then (memory_init i x (whole (length d.bytes) (constant s.globals offset)) s) (λ after. store_of (data_drop i [] after))
place_data i d _ s = Some s

abbrev pub place_datas : ℕ → List Segment → Store → Option Store
place_datas i [] s = Some s
place_datas i (d ∷ more) s = option_and_then (place_datas (i + 1) more) (place_data i d d.mode s)

-- elements first
abbrev pub place_segments : Module → Store → Option Store
place_segments m s = option_and_then (place_datas 0 m.datas) (place_elems 0 m.elems s)
