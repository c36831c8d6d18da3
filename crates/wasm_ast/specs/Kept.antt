-- The table that is kept: the single table of a module, where only indirect calls and active segments use it.
use Rattle.std.specs.Prelude.{ℕ, Bool, true, false, not, ◌&&◌, ◌||◌, List, [], ◌∷◌, ◌++◌, map, flat_map, filter_map, nat_eq, bytes_eq, slice_get, is_some, is_none, option_and_then, option_to_list, unwrap_or, Option, Some, None}
use Rattle.std.specs.List.{list_any, list_all}
use Rattle.wasm_ast.specs.declared.module.ty.Ty.{Ty}
use Rattle.wasm_ast.specs.declared.module.ty.Ty.TheVariants as types
use Rattle.wasm_ast.specs.declared.module.ty.FuncType.{FuncType}
use Rattle.wasm_ast.specs.declared.module.op.Op.TheVariants as ops
use Rattle.wasm_ast.specs.declared.module.code.Instr.{Instr}
use Rattle.wasm_ast.specs.declared.module.code.Instr.TheOpen.{Instr-F}
use Rattle.wasm_ast.specs.declared.module.code.Instr.TheFolds.{fold-Instr}
use Rattle.wasm_ast.specs.declared.module.parts.ImportDesc.{ImportDesc}
use Rattle.wasm_ast.specs.declared.module.parts.ImportDesc.TheVariants as imports
use Rattle.wasm_ast.specs.declared.module.parts.ExportDesc.{ExportDesc}
use Rattle.wasm_ast.specs.declared.module.parts.ExportDesc.TheVariants as exports
use Rattle.wasm_ast.specs.declared.module.parts.Mode.{Mode}
use Rattle.wasm_ast.specs.declared.module.parts.Mode.TheVariants.{Active}
use Rattle.wasm_ast.specs.declared.module.parts.Table.{Table}
use Rattle.wasm_ast.specs.declared.module.parts.Element.{Element}
use Rattle.wasm_ast.specs.declared.module.parts.Module.{Module}
use Rattle.wasm_ast.specs.declared.folding.folded.Folded.{Folded}
use Rattle.wasm_ast.specs.declared.folding.folded.Folded.TheVariants.{I32, Imported}
use Rattle.wasm_ast.specs.Occurrence.{Head, head, head_of, inside}
use Rattle.wasm_ast.specs.Places.{anywhere}
use Rattle.wasm_ast.specs.Spaces.{func_indices, table_count}
use Rattle.wasm_ast.specs.Types.{type_key}
use Rattle.wasm_ast.specs.Flattening.{lowered}
use Rattle.wasm_ast.specs.Fold.{fold_of, known_globals}

-- funcref
abbrev pub is_funcref : Ty → Bool
is_funcref types.Func = true
is_funcref _ = false

-- it is the single table, it is funcref, and it has no expression of its own
abbrev pub is_plain_import : ImportDesc → Bool
is_plain_import (imports.Table t limits) = is_funcref t
is_plain_import _ = true

abbrev pub is_plain_table : Table → Bool
is_plain_table t = is_funcref t.ty && is_none t.init

abbrev pub has_one_plain_table : Module → Bool
has_one_plain_table m = nat_eq (table_count m) 1 && list_all (λ i. is_plain_import i.desc) m.imports && list_all is_plain_table m.tables

-- an instruction other than an indirect call that uses table 0, and an export that does
abbrev pub uses_table : Head → Bool
uses_table (Instr-F.TableGet x) = nat_eq x 0
uses_table (Instr-F.TableSet x) = nat_eq x 0
uses_table (Instr-F.TableInit s x) = nat_eq x 0
uses_table (Instr-F.TableCopy to from) = nat_eq to 0 || nat_eq from 0
uses_table (Instr-F.TableGrow x) = nat_eq x 0
uses_table (Instr-F.TableSize x) = nat_eq x 0
uses_table (Instr-F.TableFill x) = nat_eq x 0
uses_table _ = false

abbrev pub exports_table : ExportDesc → Bool
exports_table (exports.Table x) = nat_eq x 0
exports_table _ = false

-- an offset that folds to an i32 constant or to an imported i32 global
abbrev pub is_i32 : Ty → Bool
is_i32 types.I32 = true
is_i32 _ = false

abbrev pub is_plain_offset : Option Folded → Bool
is_plain_offset (Some (I32 n)) = true
is_plain_offset (Some (Imported j t)) = is_i32 t
is_plain_offset _ = false

-- the function of an entry that is one ref.func
abbrev pub func_named : Head → Option ℕ
func_named (Instr-F.Pure (ops.RefFunc f)) = Some f
func_named _ = None

abbrev pub entry_func : List Instr → Option ℕ
entry_func (i ∷ []) = func_named (head_of i)
entry_func _ = None

-- an active segment of table 0 has a plain offset, and its entries are ref.func alone
abbrev pub fits_mode : List (Option Folded) → List (List Instr) → Mode → Bool
fits_mode known entries (Active x offset) =
    not (nat_eq x 0) || (is_plain_offset (fold_of known offset) && list_all (λ e. is_some (entry_func e)) entries)
fits_mode known entries _ = true

abbrev pub is_plain_element : List (Option Folded) → Element → Bool
is_plain_element known e = fits_mode known e.items e.mode

-- the types that indirect calls name
abbrev pub type_called : Head → List ℕ
type_called (Instr-F.CallIndirect t x) = t ∷ []
type_called (Instr-F.ReturnCallIndirect t x) = t ∷ []
type_called _ = []

abbrev pub called_step : Instr-F (List ℕ) → List ℕ
called_step i = type_called (head i) ++ flat_map (λ ts. ts) (inside i)

abbrev pub called : Instr → List ℕ
called = fold-Instr (List ℕ) called_step

abbrev pub called_in : List Instr → List ℕ
called_in code = flat_map called code

-- and so in the places of a module where code stands
abbrev pub called_in_offset : Mode → List ℕ
called_in_offset (Active x offset) = called_in offset
called_in_offset _ = []

abbrev pub called_in_element : Element → List ℕ
called_in_element e = called_in_offset e.mode ++ flat_map called_in e.items

abbrev pub called_anywhere : Module → List ℕ
called_anywhere m =
    flat_map (λ t. called_in (unwrap_or t.init [])) m.tables
    ++ flat_map (λ g. called_in g.init) m.globals
    ++ flat_map (λ b. called_in b.code) m.codes
    ++ flat_map (λ s. called_in_offset s.mode) m.datas
    ++ flat_map called_in_element m.elems

-- the types of the functions that entries of active segments name, by the type index of each function
abbrev pub active_entries : Mode → List (List Instr) → List (List Instr)
active_entries (Active x offset) entries = entries
active_entries _ entries = []

abbrev pub entry_type : List ℕ → List Instr → Option ℕ
entry_type indices entry = option_and_then (slice_get indices) (entry_func entry)

abbrev pub types_placed : List ℕ → Element → List ℕ
types_placed indices e = flat_map (λ entry. option_to_list (entry_type indices entry)) (active_entries e.mode e.items)

-- the used types: those that indirect calls name, and those of functions in active segments
abbrev pub used_indices : Module → List ℕ
used_indices m = called_anywhere m ++ flat_map (types_placed (func_indices m)) m.elems

abbrev pub used_types : Module → List FuncType
used_types m = filter_map (slice_get m.types) (used_indices m)

-- two pairs whose firsts are equal have equal seconds; and so any two of some pairs
abbrev pub agree : List ℕ × List ℕ → List ℕ × List ℕ → Bool
agree a b = not (bytes_eq a.0 b.0) || bytes_eq a.1 b.1

abbrev pub all_agree : List (List ℕ × List ℕ) → Bool
all_agree pairs = list_all (λ a. list_all (agree a) pairs) pairs

-- a type beside its lowered type
abbrev pub lowered_and_own : FuncType → List ℕ × List ℕ
lowered_and_own t = (type_key (lowered t), type_key t)

-- no two unequal types among the used ones have equal lowered types
abbrev pub are_told_apart : Module → Bool
are_told_apart m = all_agree (map lowered_and_own (used_types m))

abbrev pub keeps_table : Module → Bool
keeps_table m =
    has_one_plain_table m
    && not (anywhere uses_table m)
    && not (list_any (λ e. exports_table e.desc) m.exports)
    && list_all (is_plain_element (known_globals m)) m.elems
    && are_told_apart m
