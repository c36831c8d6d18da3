-- The form of each instruction of 1.0 in a context: the standard's table of instruction types ("Instructions" of chapter
-- 3), as one function. That the rules of 1.0 type the same code is the law `same_rules`.
use Rattle.std.specs.Prelude.{ℕ, Bool, true, false, cond, ◌&&◌, ◌^◌, nat_lt, nat_le, List, [], ◌∷◌, ◌++◌, length, Option, Some, None, slice_get}
use Rattle.std.specs.List.{list_all}
use Rattle.core1_ast.specs.declared.module.ty.Ty1.{Ty1}
use Rattle.core1_ast.specs.declared.module.ty.Ty1.TheVariants as types
use Rattle.core1_ast.specs.declared.module.ty.BlockType1.{BlockType1}
use Rattle.core1_ast.specs.declared.module.immediates.MemArg1.{MemArg1}
use Rattle.core1_ast.specs.declared.module.code.Instr1.{Instr1, out-Instr1}
use Rattle.core1_ast.specs.declared.module.code.Instr1.TheOpen.{Instr1-F}
use Rattle.num_core.specs.Accesses.{load_bytes, store_bytes}
use Rattle.core1_ast.specs.Operands.{op_takes, op_gives, load_type, store_type, block_results}
use Rattle.core1_ast.specs.Code.{Context, func_type}
use Rattle.typing_kit.specs.declared.kind.Kind.{Kind}
use Rattle.typing_kit.specs.declared.kind.Kind.TheVariants as kinds
use Rattle.typing_kit.specs.Form.{Form, Language, Untyped, Flat, Any, Select, Leaves, Block, Choice}

-- two types are one
abbrev pub same_type : Ty1 → Ty1 → Bool
same_type types.I32 types.I32 = true
same_type types.I64 types.I64 = true
same_type types.F32 types.F32 = true
same_type types.F64 types.F64 = true
same_type _ _ = false

abbrev pub same_types : List Ty1 → List Ty1 → Bool
same_types [] [] = true
same_types [] (t ∷ ts) = false
same_types (s ∷ ss) [] = false
same_types (s ∷ ss) (t ∷ ts) = same_type s t && same_types ss ts

-- 1.0 has no references
abbrev pub of_kind : Kind → Ty1 → Bool
of_kind kinds.Every t = true
of_kind kinds.Reference t = false
of_kind kinds.Plain t = true

-- an integer
abbrev pub is_integer : Ty1 → Bool
is_integer types.I32 = true
is_integer types.I64 = true
is_integer types.F32 = false
is_integer types.F64 = false

-- a list of an instruction is short
abbrev pub is_short : {A : Type 0} → List A → Bool
is_short xs = nat_lt (length xs) (2 ^ 32)

-- the form by what a look-up finds
abbrev pub found : {A : Type 0} → Option A → (A → Form Ty1 Instr1) → Form Ty1 Instr1
found None form = Untyped
found (Some a) form = form a

-- the form where a test holds
abbrev pub where_true : Bool → Form Ty1 Instr1 → Form Ty1 Instr1
where_true b form = cond b form Untyped

-- there is a memory or a table
abbrev pub is_some_of : {A : Type 0} → List A → Bool
is_some_of xs = nat_lt 0 (length xs)

-- the alignment is at most the natural one
abbrev pub is_aligned : MemArg1 → ℕ → Bool
is_aligned arg bytes = nat_le (2 ^ arg.align) bytes

-- the label takes the types
abbrev pub is_label : Option (List Ty1) → List Ty1 → Bool
is_label None ts = false
is_label (Some us) ts = same_types us ts

-- the types of a block are integers, and its code is short
abbrev pub is_block : BlockType1 → List Instr1 → Bool
is_block type code = is_short code && list_all is_integer (block_results type)

-- by the context, the types that branches to the labels take, and an instruction laid open
abbrev pub form_of : Context → List (List Ty1) → Instr1-F Instr1 → Form Ty1 Instr1
form_of c ls Instr1-F.Unreachable = Leaves []
form_of c ls Instr1-F.Nop = Flat [] []
form_of c ls (Instr1-F.Block type code) = where_true (is_block type code) (Block (block_results type) [] (block_results type) code)
-- a branch to the label of a loop takes nothing
form_of c ls (Instr1-F.Loop type code) = where_true (is_block type code) (Block [] [] (block_results type) code)
form_of c ls (Instr1-F.If type first second) = where_true (is_block type first && is_short second) (Choice (block_results type) [] (block_results type) first second)
form_of c ls (Instr1-F.Br l) = found (slice_get ls l) (λ ts. Leaves ts)
form_of c ls (Instr1-F.BrIf l) = found (slice_get ls l) (λ ts. Flat (ts ++ types.I32 ∷ []) ts)
form_of c ls (Instr1-F.BrTable labels last) =
    found (slice_get ls last) (λ ts. where_true (is_short labels && list_all (λ l. is_label (slice_get ls l) ts) labels) (Leaves (ts ++ types.I32 ∷ [])))
form_of c ls Instr1-F.Return = found c.returns (λ ts. Leaves ts)
form_of c ls (Instr1-F.Call x) = found (func_type c x) (λ t. Flat t.params t.results)
form_of c ls (Instr1-F.CallIndirect x) = where_true (is_some_of c.tables) (found (slice_get c.types x) (λ t. Flat (t.params ++ types.I32 ∷ []) t.results))
form_of c ls Instr1-F.Drop = Any kinds.Every []
form_of c ls Instr1-F.Select = Select
form_of c ls (Instr1-F.LocalGet x) = found (slice_get c.locals x) (λ t. Flat [] (t ∷ []))
form_of c ls (Instr1-F.LocalSet x) = found (slice_get c.locals x) (λ t. Flat (t ∷ []) [])
form_of c ls (Instr1-F.LocalTee x) = found (slice_get c.locals x) (λ t. Flat (t ∷ []) (t ∷ []))
form_of c ls (Instr1-F.GlobalGet x) = found (slice_get c.globals x) (λ g. Flat [] (g.type ∷ []))
form_of c ls (Instr1-F.GlobalSet x) = found (slice_get c.globals x) (λ g. where_true g.mutable (Flat (g.type ∷ []) []))
form_of c ls (Instr1-F.Load op arg) = where_true (is_some_of c.memories && is_aligned arg (load_bytes op)) (Flat (types.I32 ∷ []) (load_type op ∷ []))
form_of c ls (Instr1-F.Store op arg) = where_true (is_some_of c.memories && is_aligned arg (store_bytes op)) (Flat (types.I32 ∷ (store_type op ∷ [])) [])
form_of c ls Instr1-F.MemorySize = where_true (is_some_of c.memories) (Flat [] (types.I32 ∷ []))
form_of c ls Instr1-F.MemoryGrow = where_true (is_some_of c.memories) (Flat (types.I32 ∷ []) (types.I32 ∷ []))
form_of c ls (Instr1-F.Pure op) = Flat (op_takes op) (op_gives op)
form_of c ls (Instr1-F.Float code immediates) = Untyped

-- 1.0 in a context, whose own labels say nothing
abbrev pub language : Context → Language Ty1 Instr1
language c = record {
  sub = same_type;
  condition = types.I32;
  of_kind = of_kind;
  form = λ ls i. form_of (record c { labels = [] }) ls (out-Instr1 i);
}
