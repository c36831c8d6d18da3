-- The opcode and the immediates that are written spell the instruction.
use Rattle.std.proofs.Common.{◌≡◌, ◌≤◌, ◌<◌, ℕ, Option, Some, None, true, false, ltb, List, [], ◌∷◌, refl, ap, ◌∙◌, inr, arith}
use Rattle.std.specs.Prelude.{option_map, option_and_then}
use Rattle.std.proofs.lemmas.Bool.{le-ltb, lt-ltb}
use Rattle.num_core.specs.declared.operators.Width.{Width}
use Rattle.num_core.specs.declared.operators.Cmp.{Cmp}
use Rattle.num_core.specs.declared.operators.Un.{Un}
use Rattle.num_core.specs.declared.operators.Bin.{Bin}
use Rattle.num_core.specs.declared.operators.Conv.{Conv}
use Rattle.num_core.specs.declared.operators.Load.{Load}
use Rattle.num_core.specs.declared.operators.Store.{Store}
use Rattle.opcode_table.specs.declared.int_op.IntOp.{IntOp}
use Rattle.opcode_table.specs.declared.int_op.IntOp.TheVariants as rows
use Rattle.opcode_table.specs.Operators as table
use Rattle.opcode_table.specs.Accesses.{load_of, store_of}
use Rattle.opcode_table.proofs.Tables.{operator_within, load_within, store_within, no_load}
use Rattle.core1_ast.specs.declared.module.op.Op1.{Op1}
use Rattle.core1_ast.specs.declared.module.op.Op1.TheVariants.{I32Const, I64Const, Eqz, Compare, Unary, Binary, Convert}
use Rattle.core1_ast.specs.declared.module.op.Conv1.{Conv1}
use Rattle.core1_ast.specs.declared.module.immediates.MemArg1.{MemArg1}
use Rattle.core1_ast.specs.declared.module.ty.BlockType1.{BlockType1}
use Rattle.core1_ast.specs.declared.module.code.Instr1.{Instr1}
use Rattle.core1_ast.specs.declared.module.code.Instr1.TheVariants as instrs
use Rattle.grammar_kit.specs.Form.{Form, always}
use Rattle.nested_code.specs.declared.token.Token.TheVariants.{Plain, Open}
use Rattle.wasm_frame.specs.Leb128.{u32, s32, s64}
use Rattle.core1_bytes.specs.declared.head.Head1.{Head1}
use Rattle.core1_bytes.specs.declared.head.Head1.TheVariants as heads
use Rattle.core1_bytes.specs.Types.{block_type}
use Rattle.core1_bytes.specs.Operators.{op_of, operator_of}
use Rattle.core1_bytes.specs.Instructions.{plain_of, numeric_of, jump_of, variable_of, indexed, zero, br_table, indirect, size_of, size, mem_arg, access_of, access, constant, control, instr_at}
use Rattle.core1_bytes.specs.Tokens.{head_of, opened, control_at, token, plain}
use Rattle.core1_bytes.specs.Appends.{Constant, Begins, Opens}
use Rattle.core1_bytes.proofs.Appending.{mapped, found}

-- a byte that is reserved
zero_text : (b : List ℕ) → b ≡ 0x00 ∷ [] → zero.text b 0x00
zero_text b h = (0x00, 0x00 ∷ [], [], h, refl, (refl, refl))

-- what an instruction without code is as a token
as_token : (f : Form Instr1) (i : Instr1) (b : List ℕ) → f.text b i → (plain f).text b (Plain i)
as_token f i b h = mapped f Plain b i h

-- an index that makes an instruction
index_text : (make : ℕ → Option Instr1) (x : ℕ) (i : Instr1) (b : List ℕ) → make x ≡ Some i → u32.text b x → (indexed make).text b i
index_text make x i b e h = found u32 make b x i e h

-- ---- opcodes below 20

pub begins_unreachable : Begins instrs.Unreachable 0x00
unfolding token control_at control plain_of
begins_unreachable = record { spells = λ b h. (0x00, 0x00 ∷ [], b, refl, refl, as_token (always instrs.Unreachable) _ b (h, refl)) }

pub begins_nop : Begins instrs.Nop 0x01
unfolding token control_at control plain_of
begins_nop = record { spells = λ b h. (0x01, 0x01 ∷ [], b, refl, refl, as_token (always instrs.Nop) _ b (h, refl)) }

pub begins_return : Begins instrs.Return 0x0F
unfolding token control_at control plain_of
begins_return = record { spells = λ b h. (0x0F, 0x0F ∷ [], b, refl, refl, as_token (always instrs.Return) _ b (h, refl)) }

pub begins_drop : Begins instrs.Drop 0x1A
unfolding token control_at control plain_of
begins_drop = record { spells = λ b h. (0x1A, 0x1A ∷ [], b, refl, refl, as_token (always instrs.Drop) _ b (h, refl)) }

pub begins_select : Begins instrs.Select 0x1B
unfolding token control_at control plain_of
begins_select = record { spells = λ b h. (0x1B, 0x1B ∷ [], b, refl, refl, as_token (always instrs.Select) _ b (h, refl)) }

pub begins_br : (x : ℕ) → Begins (instrs.Br x) 0x0C
unfolding token control_at control plain_of jump_of
begins_br x = record { spells = λ b h. (0x0C, 0x0C ∷ [], b, refl, refl, as_token (indexed (jump_of 0x0C)) _ b (index_text (jump_of 0x0C) x _ b refl h)) }

pub begins_br_if : (x : ℕ) → Begins (instrs.BrIf x) 0x0D
unfolding token control_at control plain_of jump_of
begins_br_if x = record { spells = λ b h. (0x0D, 0x0D ∷ [], b, refl, refl, as_token (indexed (jump_of 0x0D)) _ b (index_text (jump_of 0x0D) x _ b refl h)) }

pub begins_call : (x : ℕ) → Begins (instrs.Call x) 0x10
unfolding token control_at control plain_of jump_of
begins_call x = record { spells = λ b h. (0x10, 0x10 ∷ [], b, refl, refl, as_token (indexed (jump_of 0x10)) _ b (index_text (jump_of 0x10) x _ b refl h)) }

pub begins_br_table : (ls : List ℕ) (last : ℕ) → Begins (instrs.BrTable ls last) 0x0E
unfolding token control_at control br_table
begins_br_table ls last = record { spells = λ b h. (0x0E, 0x0E ∷ [], b, refl, refl, as_token br_table _ b (ls, h.0, h.1, h.2, h.3, mapped u32 (λ last. instrs.BrTable ls last) h.1 last h.4)) }

pub begins_call_indirect : (t : ℕ) → Begins (instrs.CallIndirect t) 0x11
unfolding token control_at control indirect
begins_call_indirect t = record { spells = λ b h. (0x11, 0x11 ∷ [], b, refl, refl, as_token indirect _ b (t, h.0, h.1, h.2, h.3, mapped zero (λ z. instrs.CallIndirect t) h.1 0x00 (zero_text h.1 h.4))) }

-- ---- opcodes from 20 on

pub begins_local_get : (x : ℕ) → Begins (instrs.LocalGet x) 0x20
unfolding token instr_at variable_of
begins_local_get x = record { spells = λ b h. (0x20, 0x20 ∷ [], b, refl, refl, as_token (indexed (variable_of 0x20)) _ b (index_text (variable_of 0x20) x _ b refl h)) }

pub begins_local_set : (x : ℕ) → Begins (instrs.LocalSet x) 0x21
unfolding token instr_at variable_of
begins_local_set x = record { spells = λ b h. (0x21, 0x21 ∷ [], b, refl, refl, as_token (indexed (variable_of 0x21)) _ b (index_text (variable_of 0x21) x _ b refl h)) }

pub begins_local_tee : (x : ℕ) → Begins (instrs.LocalTee x) 0x22
unfolding token instr_at variable_of
begins_local_tee x = record { spells = λ b h. (0x22, 0x22 ∷ [], b, refl, refl, as_token (indexed (variable_of 0x22)) _ b (index_text (variable_of 0x22) x _ b refl h)) }

pub begins_global_get : (x : ℕ) → Begins (instrs.GlobalGet x) 0x23
unfolding token instr_at variable_of
begins_global_get x = record { spells = λ b h. (0x23, 0x23 ∷ [], b, refl, refl, as_token (indexed (variable_of 0x23)) _ b (index_text (variable_of 0x23) x _ b refl h)) }

pub begins_global_set : (x : ℕ) → Begins (instrs.GlobalSet x) 0x24
unfolding token instr_at variable_of
begins_global_set x = record { spells = λ b h. (0x24, 0x24 ∷ [], b, refl, refl, as_token (indexed (variable_of 0x24)) _ b (index_text (variable_of 0x24) x _ b refl h)) }

pub begins_memory_size : Begins instrs.MemorySize 0x3F
unfolding token instr_at size size_of
begins_memory_size = record { spells = λ b h. (0x3F, 0x3F ∷ [], b, refl, refl, as_token (size 0x3F) _ b (mapped zero (λ z. instrs.MemorySize) b 0x00 (zero_text b h))) }

pub begins_memory_grow : Begins instrs.MemoryGrow 0x40
unfolding token instr_at size size_of
begins_memory_grow = record { spells = λ b h. (0x40, 0x40 ∷ [], b, refl, refl, as_token (size 0x40) _ b (mapped zero (λ z. instrs.MemoryGrow) b 0x00 (zero_text b h))) }

-- ---- rows of the table of opcodes

-- an opcode from 28 to 3E is a load or a store
access_token : (k : ℕ) (i : Instr1) (at : MemArg1) (b : List ℕ) → 0x28 ≤ k → k < 0x3F → access_of k at ≡ Some i → mem_arg.text b at → token.text (k ∷ b) (Plain i)
unfolding token instr_at access
access_token k i at b low high e h =
    let a : ltb k 0x20 ≡ false = le-ltb _ _ (omega arith) in
    let c : ltb k 0x28 ≡ false = le-ltb _ _ (omega arith) in
    let d : ltb k 0x3F ≡ true = lt-ltb _ _ high in
    (k, k ∷ [], b, refl, refl, rw (a, c, d) (as_token (access k) i b (found mem_arg (access_of k) b at i e h)))

pub begins_load : (op : Load) (at : MemArg1) (k : ℕ) → load_of k ≡ Some op → Begins (instrs.Load op at) k
unfolding access_of
begins_load op at k row =
    let within = load_within k op row in
    record { spells = λ b h. access_token k _ at b within.0 (omega arith) (rw row refl) h }

pub begins_store : (op : Store) (at : MemArg1) (k : ℕ) → store_of k ≡ Some op → Begins (instrs.Store op at) k
unfolding access_of
begins_store op at k row =
    let within = store_within k op row in
    let none : load_of k ≡ None = no_load k (inr (omega arith, omega arith)) in
    record { spells = λ b h. access_token k _ at b (omega arith) (omega arith) (rw (none, row) refl) h }

-- from 45 on every opcode is one of an operator
operator_token : (k : ℕ) (op : Op1) (b : List ℕ) → 0x45 ≤ k → operator_of k ≡ Some op → b ≡ [] → token.text (k ∷ b) (Plain (instrs.Pure op))
unfolding token instr_at numeric_of
operator_token k op b far row h =
    let a : ltb k 0x20 ≡ false = le-ltb _ _ (omega arith) in
    let c : ltb k 0x28 ≡ false = le-ltb _ _ (omega arith) in
    let d : ltb k 0x3F ≡ false = le-ltb _ _ (omega arith) in
    let e : ltb k 0x41 ≡ false = le-ltb _ _ (omega arith) in
    let f : ltb k 0x45 ≡ false = le-ltb _ _ far in
    let here : numeric_of k ≡ Some (instrs.Pure op) = rw row refl in
    (k, k ∷ [], b, refl, refl, rw (a, c, d, e, f, here) (as_token (always (instrs.Pure op)) _ b (h, refl)))

begins_operator : (op : Op1) (o : IntOp) (k : ℕ) → ((b : List ℕ) → Constant op b → b ≡ []) → table.operator_of k ≡ Some o → op_of o ≡ Some op → Begins (instrs.Pure op) k
begins_operator op o k none row is =
    let within = operator_within k o row in
    let here : operator_of k ≡ Some op = ap (option_and_then op_of) row ∙ is in
    record { spells = λ b h. operator_token k op b within.0 here (none b h) }

pub begins_i32_const : (n : ℕ) → Begins (instrs.Pure (I32Const n)) 0x41
unfolding token instr_at constant
begins_i32_const n = record { spells = λ b h. (0x41, 0x41 ∷ [], b, refl, refl, as_token (constant 0x41) _ b (mapped s32 (λ n. instrs.Pure (I32Const n)) b n h)) }

pub begins_i64_const : (n : ℕ) → Begins (instrs.Pure (I64Const n)) 0x42
unfolding token instr_at constant
begins_i64_const n = record { spells = λ b h. (0x42, 0x42 ∷ [], b, refl, refl, as_token (constant 0x42) _ b (mapped s64 (λ n. instrs.Pure (I64Const n)) b n h)) }

pub begins_eqz : (w : Width) (k : ℕ) → table.operator_of k ≡ Some (rows.Eqz w) → Begins (instrs.Pure (Eqz w)) k
begins_eqz w k row = begins_operator (Eqz w) (rows.Eqz w) k (λ b h. h) row refl

pub begins_compare : (w : Width) (c : Cmp) (k : ℕ) → table.operator_of k ≡ Some (rows.Compare w c) → Begins (instrs.Pure (Compare w c)) k
begins_compare w c k row = begins_operator (Compare w c) (rows.Compare w c) k (λ b h. h) row refl

pub begins_unary : (w : Width) (u : Un) (k : ℕ) → table.operator_of k ≡ Some (rows.Unary w u) → Begins (instrs.Pure (Unary w u)) k
begins_unary w u k row = begins_operator (Unary w u) (rows.Unary w u) k (λ b h. h) row refl

pub begins_binary : (w : Width) (o : Bin) (k : ℕ) → table.operator_of k ≡ Some (rows.Binary w o) → Begins (instrs.Pure (Binary w o)) k
begins_binary w o k row = begins_operator (Binary w o) (rows.Binary w o) k (λ b h. h) row refl

pub begins_convert : (c : Conv1) (v : Conv) (k : ℕ) → table.operator_of k ≡ Some (rows.Convert v) → op_of (rows.Convert v) ≡ Some (Convert c) → Begins (instrs.Pure (Convert c)) k
begins_convert c v k row is = begins_operator (Convert c) (rows.Convert v) k (λ b h. h) row is

pub ruleset op_rules = (begins_i32_const, begins_i64_const, begins_eqz, begins_compare, begins_unary, begins_binary)

pub ruleset plain_rules = (begins_unreachable, begins_nop, begins_return, begins_drop, begins_select, begins_br, begins_br_if, begins_call, begins_br_table, begins_call_indirect, begins_local_get, begins_local_set, begins_local_tee, begins_global_get, begins_global_set, begins_memory_size, begins_memory_grow, begins_load, begins_store)

-- ---- what holds code

open_text : (k : ℕ) (h : Head1) (t : BlockType1) (b : List ℕ) → head_of k t ≡ Some h → block_type.text b t → (opened k).text b (Open h)
unfolding opened
open_text k h t b e p = found block_type (λ t. option_map Open (head_of k t)) b t (Open h) (ap (option_map Open) e) p

pub opens_block : (t : BlockType1) → Opens (heads.Block t) 0x02
unfolding token control_at head_of
opens_block t = record { spells = λ b p. (0x02, 0x02 ∷ [], b, refl, refl, open_text 0x02 (heads.Block t) t b refl p) }

pub opens_loop : (t : BlockType1) → Opens (heads.Loop t) 0x03
unfolding token control_at head_of
opens_loop t = record { spells = λ b p. (0x03, 0x03 ∷ [], b, refl, refl, open_text 0x03 (heads.Loop t) t b refl p) }

pub opens_if : (t : BlockType1) → Opens (heads.If t) 0x04
unfolding token control_at head_of
opens_if t = record { spells = λ b p. (0x04, 0x04 ∷ [], b, refl, refl, open_text 0x04 (heads.If t) t b refl p) }

pub ruleset head_rules = (opens_block, opens_loop, opens_if)
