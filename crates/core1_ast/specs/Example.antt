-- The typing on one small module: its export f calls itself until its argument is 0, and loads from its memory.
use Rattle.std.specs.Prelude.{true, false, List, [], ◌∷◌, Some, None}
use Rattle.num_core.specs.declared.operators.Load.TheVariants as loads
use Rattle.core1_ast.specs.declared.module.ty.Ty1.TheVariants as types
use Rattle.core1_ast.specs.declared.module.ty.BlockType1.TheVariants.{One}
use Rattle.core1_ast.specs.declared.module.ty.FuncType1.{FuncType1}
use Rattle.core1_ast.specs.declared.module.op.Op1.TheVariants.{I32Const, I64Const}
use Rattle.core1_ast.specs.declared.module.code.Instr1.{Instr1}
use Rattle.core1_ast.specs.declared.module.code.Instr1.TheVariants.{Block, BrIf, Call, LocalGet, GlobalGet, Load, Pure}
use Rattle.core1_ast.specs.declared.module.parts.ImportDesc1.TheVariants.{Global}
use Rattle.core1_ast.specs.declared.module.parts.ExportDesc1.TheVariants.{Func}
use Rattle.core1_ast.specs.declared.module.parts.Module1.{Module1}
use Rattle.core1_ast.specs.Typing.{Typed1}

-- from i32 to i32
abbrev pub one_to_one : FuncType1
one_to_one = record { params = types.I32 ∷ []; results = types.I32 ∷ [] }

-- local.get 0, local.get 0, br_if 0, call 0
abbrev pub inner : List Instr1
inner = LocalGet 0 ∷ (LocalGet 0 ∷ (BrIf 0 ∷ (Call 0 ∷ [])))

-- block (result i32) .. end, i32.load
abbrev pub outer : List Instr1
outer = Block (One types.I32) inner ∷ (Load loads.I32 (record { align = 2; offset = 0 }) ∷ [])

-- i32.const 0
abbrev pub at_zero : List Instr1
at_zero = Pure (I32Const 0) ∷ []

-- An imported global, a table, a memory, a global that begins with the imported one, an element and a byte; the only
-- function has this code.
abbrev pub with_code : List Instr1 → Module1
with_code code = record {
  types = one_to_one ∷ [];
  imports = record { «module» = 104 ∷ []; name = 103 ∷ []; desc = Global types.I32 false } ∷ [];
  funcs = 0 ∷ [];
  tables = record { min = 1; max = Some 1 } ∷ [];
  memories = record { min = 1; max = None } ∷ [];
  globals = record { ty = types.I32; mutable = true; init = GlobalGet 0 ∷ [] } ∷ [];
  exports = record { name = 102 ∷ []; desc = Func 0 } ∷ [];
  start = None;
  elems = record { table = 0; offset = at_zero; items = 0 ∷ [] } ∷ [];
  codes = record { locals = types.I64 ∷ []; code = code } ∷ [];
  datas = record { memory = 0; offset = at_zero; bytes = 7 ∷ [] } ∷ [];
}

abbrev pub IsTyped : Type 0
IsTyped = Typed1 (with_code outer)

-- with i64.const 0 as its code the function would give an i64 in place of an i32
abbrev pub IsNotMistyped : Type 0
IsNotMistyped = Typed1 (with_code (Pure (I64Const 0) ∷ [])) → ⊥

-- it may not declare a local that is a float
abbrev pub HasNoFloat : Type 0
HasNoFloat = Typed1 (record (with_code outer) { codes = record { locals = types.F32 ∷ []; code = outer } ∷ [] }) → ⊥

-- a memory has at most 65,536 pages, and there is at most one
abbrev pub IsInRange : Type 0
IsInRange = Typed1 (record (with_code outer) { memories = record { min = 65537; max = None } ∷ [] }) → ⊥

abbrev pub HasOneMemory : Type 0
HasOneMemory =
    Typed1 (record (with_code outer) { memories = record { min = 1; max = None } ∷ (record { min = 1; max = None } ∷ []) }) → ⊥
