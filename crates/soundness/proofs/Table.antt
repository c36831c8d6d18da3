-- Every instruction of the language, row by row in the order of its types.
use Rattle.std.proofs.Common.{◌≡◌, ℕ, nat_lt, ◌&&◌, List, [], ◌∷◌, ◌++◌, reverse, Option, Some, None, refl, sym, ap, ◌∙◌, subst}
use Rattle.std.specs.Prelude.{slice_get}
use Rattle.std.specs.List.{list_all}
use Rattle.num_core.specs.Accesses.{load_width, load_bytes, store_width}
use Rattle.num_core.specs.Bytes.{loaded, stored}
use Rattle.lane_core.specs.Shapes.{lane_load_bytes, lane_bytes}
use Rattle.lane_core.specs.Memory.{loaded_vector, vector_bytes, stored_lane, loaded_lane}
use Rattle.wasm_ast.specs.declared.module.ty.Ty.{Ty}
use Rattle.wasm_ast.specs.declared.module.ty.Ty.TheVariants as types
use Rattle.wasm_ast.specs.declared.module.ty.FuncType.{FuncType}
use Rattle.wasm_ast.specs.declared.module.code.Instr.{Instr}
use Rattle.wasm_ast.specs.declared.module.code.Instr.TheOpen.{Instr-F}
use Rattle.wasm_ast.specs.declared.module.parts.Module.{Module}
use Rattle.typing_kit.specs.Form as form
use Rattle.typed_trees.specs.Contexts.{Context, tag_type, address_of, address_type}
use Rattle.typed_trees.specs.Forms.{InstrForm, clause_fits, labels_at, block_form, layer_form, addressed, memory_copy_form, where_some}
use Rattle.typed_trees.specs.Matching.{matches}
use Rattle.typed_trees.specs.Operands.{int_type}
use Rattle.typed_trees.proofs.Lawfulness.{matches_equal}
use Rattle.evaluation_kit.specs.declared.jump.Jump.TheVariants as jumps
use Rattle.evaluation_kit.specs.Configurations.{Sem}
use Rattle.evaluation_kit.specs.Control.{leaf}
use Rattle.evaluation_kit.specs.Forms.{eval}
use Rattle.evaluation_kit.specs.Leaves as leaves
use Rattle.meaning_new.specs.declared.val.Val.{Val}
use Rattle.meaning_new.specs.declared.val.Val.TheVariants as vals
use Rattle.meaning_new.specs.Store.{State, missing, int, on_store, on_growth}
use Rattle.meaning_new.specs.Numeric.{first}
use Rattle.meaning_new.specs.Memories
use Rattle.meaning_new.specs.Tables
use Rattle.meaning_new.specs.Exceptions.{throw, throw_ref}
use Rattle.meaning_new.specs.Forms.{param_count, type_of_tag, layer, holds, tail_call_by}
use Rattle.node_meaning.specs.Nodes.{with_code}
use Rattle.soundness.proofs.Values.{int_typed}
use Rattle.soundness.proofs.Judging.{FuncsSafe, leaf_safe}
use Rattle.soundness.proofs.Forms.{Bodies, Owed, some_safe, true_safe}
use Rattle.soundness.proofs.Operators.{op_safe, drop_safe, select_safe}
use Rattle.soundness.proofs.TableRows
use Rattle.soundness.proofs.MemoryRows
use Rattle.soundness.proofs.JumpRows
use Rattle.soundness.proofs.Rows
use Rattle.soundness.specs.Laws.{inside}
use Rattle.soundness.proofs.Rows.{on_the_top, image_of, counts, called_type}

module _ (m : Module) (locals : List Ty) (returns : Option (List Ty)) where
  abbrev c : Context
  c = inside m locals returns

  module _ (N : ℕ) (ls : List (List Ty)) (funcs others : ℕ → Sem Val State) (safe : FuncsSafe m N funcs others) (inner : Bodies m N c ls) where
    abbrev Row : InstrForm → Sem Val State → Sem Val State → Type 0
    Row f a b = Owed m N c ls inner f a b

    table_row : (xs : List ℕ) (last : ℕ) (label : List Ty) (each : List (List Ty)) → slice_get ls last ≡ Some label → labels_at ls xs ≡ Some each → Row (form.Table label each) (leaf (leaves.branch_table first xs last)) (leaf (leaves.branch_table first xs last))
    table_row xs last label each is all = record {
      safe = λ ts fits alike rest. leaf_safe m N c ls (reverse (ts ++ types.I32 ∷ []) ++ rest) None (leaves.branch_table first xs last)
          (subst (λ l. Rows.Act m locals returns N ls funcs others safe inner l None (leaves.branch_table first xs last)) (sym (on_the_top ts types.I32 rest)) (JumpRows.branch_table_safe m c ls first xs last label each types.I32 ts rest is all fits alike));
    }

    tail_row : (type table : ℕ) (t : FuncType) → slice_get m.types type ≡ Some t → returns ≡ Some t.results → Row (form.Leaves (t.params ++ types.I32 ∷ [])) (leaf (tail_call_by m type table)) (leaf (tail_call_by m type table))
    tail_row type table t there same =
        Rows.gone m locals returns N ls funcs others safe inner (t.params ++ types.I32 ∷ []) (tail_call_by m type table) (λ rest.
        subst (λ l. Rows.Act m locals returns N ls funcs others safe inner l None (tail_call_by m type table)) (sym (on_the_top t.params types.I32 rest)) (Rows.tail_by m locals returns N ls funcs others safe inner type table t rest there same))

    throw_row : (x : ℕ) (t : FuncType) → tag_type c x ≡ Some t → Row (form.Leaves t.params) (leaf (throw x (param_count (type_of_tag m x)))) (leaf (throw x (param_count (type_of_tag m x))))
    throw_row x t is =
        Rows.gone m locals returns N ls funcs others safe inner t.params (throw x (param_count (type_of_tag m x))) (λ rest.
        subst (λ n. Rows.Act m locals returns N ls funcs others safe inner (reverse t.params ++ rest) None (throw x n)) (sym (counts m locals returns (type_of_tag m x) t is)) (JumpRows.throw_safe m c ls x t rest is))

    size_row : (x : ℕ) (address : Ty) → addressed c x ≡ Some address → Row (form.Flat [] (address ∷ [])) (leaf (on_store (Memories.memory_size x))) (leaf (on_store (Memories.memory_size x)))
    size_row x address is =
        let l = image_of address_type (slice_get c.memories x) address is in
        subst (λ a. Row (form.Flat [] (a ∷ [])) (leaf (on_store (Memories.memory_size x))) (leaf (on_store (Memories.memory_size x)))) l.2
        (Rows.flat m locals returns N ls funcs others safe inner [] (address_type l.0 ∷ []) (on_store (Memories.memory_size x)) (λ rest. MemoryRows.memory_size_safe m c ls rest x l.0 l.1))

    grow_row : (x : ℕ) (address : Ty) → addressed c x ≡ Some address → Row (form.Flat (address ∷ []) (address ∷ [])) (leaf (on_growth (Memories.memory_grow x))) (leaf (on_growth (Memories.memory_grow x)))
    grow_row x address is =
        let l = image_of address_type (slice_get c.memories x) address is in
        subst (λ a. Row (form.Flat (a ∷ []) (a ∷ [])) (leaf (on_growth (Memories.memory_grow x))) (leaf (on_growth (Memories.memory_grow x)))) l.2
        (Rows.flat m locals returns N ls funcs others safe inner (address_type l.0 ∷ []) (address_type l.0 ∷ []) (on_growth (Memories.memory_grow x)) (λ rest. MemoryRows.memory_grow_safe m c ls rest x l.0 l.1))

    abbrev strict : Instr-F Instr → Sem Val State
    strict l = eval funcs (with_code (layer m Instr l) inner.first inner.second)

    abbrev plain : Instr-F Instr → Sem Val State
    plain l = eval others (with_code (layer m Instr l) inner.other_first inner.other_second)

    pub layer_safe : (l : Instr-F Instr) → Row (layer_form c ls l) (strict l) (plain l)
    layer_safe Instr-F.Nop = Rows.flat m locals returns N ls funcs others safe inner [] [] leaves.nothing (λ rest. JumpRows.nothing_safe m c ls rest)
    layer_safe Instr-F.Unreachable = Rows.gone m locals returns N ls funcs others safe inner [] (leaves.jump jumps.Trap) (λ rest. JumpRows.trap_safe m c ls rest None)
    layer_safe Instr-F.Drop = record { safe = λ t h. drop_safe m N c ls t }
    layer_safe Instr-F.Select = record { safe = λ t. select_safe m N c ls t }
    layer_safe (Instr-F.SelectTyped ts) = Rows.select_row m locals returns N ls funcs others safe inner ts
    layer_safe (Instr-F.Block type code) = some_safe m N c ls inner (λ t is. Rows.enclosed m locals returns N ls funcs others safe inner type t code is)
    layer_safe (Instr-F.Loop type code) = some_safe m N c ls inner (λ t is. Rows.repeated m locals returns N ls funcs others safe inner type t code is)
    layer_safe (Instr-F.If type first second) = some_safe m N c ls inner (λ t is. Rows.chosen m locals returns N ls funcs others safe inner type t first second is)
    layer_safe (Instr-F.Br l) = some_safe m N c ls inner (λ ts is. Rows.gone m locals returns N ls funcs others safe inner ts (leaves.jump (jumps.Branch l)) (λ rest. JumpRows.branch_safe m c ls l ts rest is))
    layer_safe (Instr-F.BrIf l) = some_safe m N c ls inner (λ ts is. Rows.above m locals returns N ls funcs others safe inner ts ts types.I32 (leaves.branch_if holds l) (λ rest. JumpRows.branch_if_safe m c ls holds l types.I32 ts rest is))
    layer_safe (Instr-F.BrTable xs last) = some_safe m N c ls inner (λ label is. some_safe m N c ls inner (λ each all. table_row xs last label each is all))
    layer_safe (Instr-F.Call x) = some_safe m N c ls inner (λ t is. Rows.called m locals returns N ls funcs others safe inner x t is)
    layer_safe (Instr-F.CallIndirect type table) = some_safe m N c ls inner (λ t is. Rows.called_by m locals returns N ls funcs others safe inner type table t is)
    layer_safe Instr-F.Return = some_safe m N c ls inner (λ ts is. Rows.gone m locals returns N ls funcs others safe inner ts (leaves.jump jumps.Return) (λ rest. JumpRows.return_safe m c ls ts rest is))
    layer_safe (Instr-F.ReturnCall x) = some_safe m N c ls inner (λ t is. Rows.tail_owed m locals returns N ls funcs others safe inner returns t t.params _ _ refl (λ same. Rows.gone m locals returns N ls funcs others safe inner t.params (leaves.jump (jumps.TailCall x)) (λ rest. JumpRows.tail_safe m c ls x t rest is same)))
    layer_safe (Instr-F.ReturnCallIndirect type table) = some_safe m N c ls inner (λ t is. Rows.tail_owed m locals returns N ls funcs others safe inner returns t (t.params ++ types.I32 ∷ []) _ _ refl (λ same. tail_row type table t (called_type m locals returns table type t is) same))
    layer_safe (Instr-F.Throw x) = some_safe m N c ls inner (λ t is. throw_row x t is)
    layer_safe Instr-F.ThrowRef = Rows.gone m locals returns N ls funcs others safe inner (types.Exn ∷ []) throw_ref (λ rest. JumpRows.throw_ref_safe m c ls rest)
    layer_safe (Instr-F.TryTable type clauses code) = some_safe m N c ls inner (λ t is. true_safe m N c ls inner {o = list_all (clause_fits c ls) clauses} {f = block_form t code} (λ fits. Rows.guarded m locals returns N ls funcs others safe inner type t clauses code is fits))
    layer_safe (Instr-F.LocalGet x) = some_safe m N c ls inner (λ t is. Rows.flat m locals returns N ls funcs others safe inner [] (t ∷ []) (leaves.get_local missing x) (λ rest. JumpRows.get_local_safe m c ls rest x t is))
    layer_safe (Instr-F.LocalSet x) = some_safe m N c ls inner (λ t is. Rows.flat m locals returns N ls funcs others safe inner (t ∷ []) [] (leaves.set_local missing x) (λ rest. JumpRows.set_local_safe m c ls rest x t is))
    layer_safe (Instr-F.LocalTee x) = some_safe m N c ls inner (λ t is. Rows.flat m locals returns N ls funcs others safe inner (t ∷ []) (t ∷ []) (leaves.tee_local missing x) (λ rest. JumpRows.tee_local_safe m c ls rest x t is))
    layer_safe (Instr-F.GlobalGet x) = some_safe m N c ls inner (λ g is. Rows.flat m locals returns N ls funcs others safe inner [] (g.ty ∷ []) (on_store (Tables.global_get x)) (λ rest. TableRows.global_get_safe m c ls rest x g is))
    layer_safe (Instr-F.GlobalSet x) = some_safe m N c ls inner (λ g is. true_safe m N c ls inner {o = g.mutable} {f = form.Flat (g.ty ∷ []) []} (λ h. Rows.flat m locals returns N ls funcs others safe inner (g.ty ∷ []) [] (on_store (Tables.global_set x)) (λ rest. TableRows.global_set_safe m c ls rest x g is)))
    layer_safe (Instr-F.TableGet x) = some_safe m N c ls inner (λ t is. Rows.flat m locals returns N ls funcs others safe inner (types.I32 ∷ []) (t ∷ []) (on_store (Tables.table_get x)) (λ rest. TableRows.table_get_safe m c ls rest x t is))
    layer_safe (Instr-F.TableSet x) = some_safe m N c ls inner (λ t is. Rows.flat m locals returns N ls funcs others safe inner (types.I32 ∷ (t ∷ [])) [] (on_store (Tables.table_set x)) (λ rest. TableRows.table_set_safe m c ls rest x t is))
    layer_safe (Instr-F.TableSize x) = some_safe m N c ls inner (λ t is. Rows.flat m locals returns N ls funcs others safe inner [] (types.I32 ∷ []) (on_store (Tables.table_size x)) (λ rest. TableRows.table_size_safe m c ls rest x t is))
    layer_safe (Instr-F.TableGrow x) = some_safe m N c ls inner (λ t is. Rows.flat m locals returns N ls funcs others safe inner (t ∷ (types.I32 ∷ [])) (types.I32 ∷ []) (on_growth (Tables.table_grow x)) (λ rest. TableRows.table_grow_safe m c ls rest x t is))
    layer_safe (Instr-F.TableFill x) = some_safe m N c ls inner (λ t is. Rows.flat m locals returns N ls funcs others safe inner (types.I32 ∷ (t ∷ (types.I32 ∷ []))) [] (on_store (Tables.table_fill x)) (λ rest. TableRows.table_fill_safe m c ls rest x t is))
    layer_safe (Instr-F.TableCopy to from) = some_safe m N c ls inner (λ t is. some_safe m N c ls inner (λ s there. true_safe m N c ls inner {o = matches s t} {f = form.Flat (types.I32 ∷ (types.I32 ∷ (types.I32 ∷ []))) []} (λ same. Rows.flat m locals returns N ls funcs others safe inner (types.I32 ∷ (types.I32 ∷ (types.I32 ∷ []))) [] (on_store (Tables.table_copy to from)) (λ rest. TableRows.table_copy_safe m c ls rest to t is from (there ∙ ap (λ z. Some z) (matches_equal s t same))))))
    layer_safe (Instr-F.TableInit segment x) = some_safe m N c ls inner (λ t is. some_safe m N c ls inner (λ s there. true_safe m N c ls inner {o = matches s t} {f = form.Flat (types.I32 ∷ (types.I32 ∷ (types.I32 ∷ []))) []} (λ same. Rows.flat m locals returns N ls funcs others safe inner (types.I32 ∷ (types.I32 ∷ (types.I32 ∷ []))) [] (on_store (Tables.table_init segment x)) (λ rest. TableRows.table_init_safe m c ls rest x t is segment (there ∙ ap (λ z. Some z) (matches_equal s t same))))))
    layer_safe (Instr-F.ElemDrop segment) = some_safe m N c ls inner (λ s there. Rows.flat m locals returns N ls funcs others safe inner [] [] (on_store (Tables.elem_drop segment)) (λ rest. TableRows.elem_drop_safe m c ls rest segment))
    layer_safe (Instr-F.Load op arg) = some_safe m N c ls inner (λ address is. Rows.flat m locals returns N ls funcs others safe inner (address ∷ []) (int_type (load_width op) ∷ []) (on_store (Memories.load_integer op arg)) (λ rest. MemoryRows.load_safe m c ls rest (load_bytes op) (λ bytes. int (load_width op) (loaded op bytes)) arg address (int_type (load_width op)) (λ k bytes. int_typed m k (load_width op) (loaded op bytes))))
    layer_safe (Instr-F.Store op arg) = some_safe m N c ls inner (λ address is. Rows.flat m locals returns N ls funcs others safe inner (address ∷ (int_type (store_width op) ∷ [])) [] (on_store (Memories.store_integer op arg)) (λ rest. MemoryRows.store_bytes_safe m c ls rest (stored op) arg address (int_type (store_width op))))
    layer_safe (Instr-F.LoadVector op arg) = some_safe m N c ls inner (λ address is. Rows.flat m locals returns N ls funcs others safe inner (address ∷ []) (types.V128 ∷ []) (on_store (Memories.load_vector op arg)) (λ rest. MemoryRows.load_safe m c ls rest (lane_load_bytes op) (λ bytes. vals.V128 (loaded_vector op bytes)) arg address types.V128 (λ k bytes. refl)))
    layer_safe (Instr-F.StoreVector arg) = some_safe m N c ls inner (λ address is. Rows.flat m locals returns N ls funcs others safe inner (address ∷ (types.V128 ∷ [])) [] (on_store (Memories.store_vector arg)) (λ rest. MemoryRows.store_bytes_safe m c ls rest vector_bytes arg address types.V128))
    layer_safe (Instr-F.LoadLane shape arg lane) = some_safe m N c ls inner (λ address is. Rows.flat m locals returns N ls funcs others safe inner (address ∷ (types.V128 ∷ [])) (types.V128 ∷ []) (on_store (Memories.load_lane shape arg lane)) (λ rest. MemoryRows.load_lane_safe m c ls rest (lane_bytes shape) (λ vs bytes. vals.V128 (loaded_lane shape lane (first vs) bytes)) arg address (λ k vs bytes. refl)))
    layer_safe (Instr-F.StoreLane shape arg lane) = some_safe m N c ls inner (λ address is. Rows.flat m locals returns N ls funcs others safe inner (address ∷ (types.V128 ∷ [])) [] (on_store (Memories.store_lane shape arg lane)) (λ rest. MemoryRows.store_bytes_safe m c ls rest (stored_lane shape lane) arg address types.V128))
    layer_safe (Instr-F.MemorySize x) = some_safe m N c ls inner (λ address is. size_row x address is)
    layer_safe (Instr-F.MemoryGrow x) = some_safe m N c ls inner (λ address is. grow_row x address is)
    layer_safe (Instr-F.MemoryFill x) = some_safe m N c ls inner (λ l is. Rows.flat m locals returns N ls funcs others safe inner (address_type l ∷ (types.I32 ∷ (address_type l ∷ []))) [] (on_store (Memories.memory_fill x)) (λ rest. MemoryRows.memory_fill_safe m c ls rest x (address_type l) types.I32 (address_type l)))
    layer_safe (Instr-F.MemoryCopy to from) = some_safe m N c ls inner {o = slice_get c.memories to} {f = λ t. where_some (slice_get c.memories from) (λ s. memory_copy_form t s)} (λ t is. some_safe m N c ls inner {o = slice_get c.memories from} {f = λ s. memory_copy_form t s} (λ s there. Rows.flat m locals returns N ls funcs others safe inner (address_type t ∷ (address_type s ∷ (address_of (t.wide && s.wide) ∷ []))) [] (on_store (Memories.memory_copy to from)) (λ rest. MemoryRows.memory_copy_safe m c ls rest to (address_of (t.wide && s.wide)) (address_type s) (address_type t) from)))
    layer_safe (Instr-F.MemoryInit segment x) = some_safe m N c ls inner (λ l is. true_safe m N c ls inner {o = nat_lt segment c.datas} {f = form.Flat (address_type l ∷ (types.I32 ∷ (types.I32 ∷ []))) []} (λ h. Rows.flat m locals returns N ls funcs others safe inner (address_type l ∷ (types.I32 ∷ (types.I32 ∷ []))) [] (on_store (Memories.memory_init segment x)) (λ rest. MemoryRows.memory_init_safe m c ls rest x types.I32 types.I32 (address_type l) segment)))
    layer_safe (Instr-F.DataDrop segment) = true_safe m N c ls inner {o = nat_lt segment c.datas} {f = form.Flat [] []} (λ h. Rows.flat m locals returns N ls funcs others safe inner [] [] (on_store (Memories.data_drop segment)) (λ rest. MemoryRows.data_drop_safe m c ls rest segment))
    layer_safe (Instr-F.Pure op) = op_safe m N c ls inner op refl
    layer_safe (Instr-F.Float code immediates) = record { safe = tt }
