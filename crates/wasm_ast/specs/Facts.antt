-- What the code of a module shows, all of it gathered at once.
use Rattle.std.specs.Prelude.{Bool, true, false, ◌||◌, List}
use Rattle.std.specs.List.{list_any}
use Rattle.num_core.specs.declared.operators.Conv.TheVariants.{Wrap, Ext32S, Ext32U}
use Rattle.wasm_ast.specs.declared.module.op.Op.{Op}
use Rattle.wasm_ast.specs.declared.module.op.Op.TheVariants as ops
use Rattle.wasm_ast.specs.declared.module.code.Instr.{Instr}
use Rattle.wasm_ast.specs.declared.module.code.Instr.TheOpen.{Instr-F}
use Rattle.wasm_ast.specs.declared.module.code.Body.{Body}
use Rattle.wasm_ast.specs.declared.module.parts.Module.{Module}
use Rattle.wasm_ast.specs.declared.features.kind.Feature.TheVariants as features
use Rattle.wasm_ast.specs.declared.facts.Facts.{Facts}
use Rattle.wasm_ast.specs.Occurrence.{Head, some, some_in}
use Rattle.wasm_ast.specs.Features.{shows}
use Rattle.wasm_ast.specs.Places.{in_bodies}
use Rattle.wasm_ast.specs.Kept.{uses_table}

-- memory.init
abbrev pub is_memory_init : Head → Bool
is_memory_init (Instr-F.MemoryInit segment memory) = true
is_memory_init _ = false

-- the facts with those that a place shows: a place says of each test of an instruction whether one of its instructions passes
abbrev pub noted : ((Head → Bool) → Bool) → Facts → Facts
noted passes facts = record {
  floats = passes (shows features.Floats) || facts.floats;
  sign = passes (shows features.Sign) || facts.sign;
  multi = passes (shows features.Multi) || facts.multi;
  typed_select = passes (shows features.TypedSelect) || facts.typed_select;
  simd = passes (shows features.Simd) || facts.simd;
  late_lanes = passes (shows features.LateLanes) || facts.late_lanes;
  tail = passes (shows features.Tail) || facts.tail;
  refs = passes (shows features.Refs) || facts.refs;
  tables = passes (shows features.Tables) || facts.tables;
  exceptions = passes (shows features.Exceptions) || facts.exceptions;
  bulk = passes (shows features.Bulk) || facts.bulk;
  table_use = passes uses_table || facts.table_use;
  memory_init = passes is_memory_init || facts.memory_init;
}

-- what the bodies of the module show
abbrev pub facts_of : Module → Facts
facts_of m = record {
  floats = in_bodies (shows features.Floats) m;
  sign = in_bodies (shows features.Sign) m;
  multi = in_bodies (shows features.Multi) m;
  typed_select = in_bodies (shows features.TypedSelect) m;
  simd = in_bodies (shows features.Simd) m;
  late_lanes = in_bodies (shows features.LateLanes) m;
  tail = in_bodies (shows features.Tail) m;
  refs = in_bodies (shows features.Refs) m;
  tables = in_bodies (shows features.Tables) m;
  exceptions = in_bodies (shows features.Exceptions) m;
  bulk = in_bodies (shows features.Bulk) m;
  table_use = in_bodies uses_table m;
  memory_init = in_bodies is_memory_init m;
}

-- the same, of an instruction alone, with its bodies, of code and of several bodies
unfoldable pub with_head : Head → Facts → Facts
with_head h facts = noted (λ p. p h) facts

unfoldable pub with_instr : Instr → Facts → Facts
with_instr i facts = noted (λ p. some p i) facts

unfoldable pub with_code : List Instr → Facts → Facts
with_code code facts = noted (λ p. some_in p code) facts

unfoldable pub with_bodies : List Body → Facts → Facts
with_bodies bodies facts = noted (λ p. list_any (λ b. some_in p b.code) bodies) facts

-- an instruction that shows none of them, whatever its immediates are
abbrev pub is_plain_op : Op → Bool
is_plain_op (ops.I32Const n) = true
is_plain_op (ops.I64Const n) = true
is_plain_op (ops.Eqz w) = true
is_plain_op (ops.Compare w op) = true
is_plain_op (ops.Unary w op) = true
is_plain_op (ops.Binary w op) = true
is_plain_op (ops.Convert Wrap) = true
is_plain_op (ops.Convert Ext32S) = true
is_plain_op (ops.Convert Ext32U) = true
is_plain_op _ = false

abbrev pub is_plain : Head → Bool
is_plain Instr-F.Unreachable = true
is_plain Instr-F.Nop = true
is_plain (Instr-F.Br l) = true
is_plain (Instr-F.BrIf l) = true
is_plain (Instr-F.BrTable ls l) = true
is_plain Instr-F.Return = true
is_plain (Instr-F.Call f) = true
is_plain (Instr-F.CallIndirect t x) = true
is_plain Instr-F.Drop = true
is_plain Instr-F.Select = true
is_plain (Instr-F.LocalGet x) = true
is_plain (Instr-F.LocalSet x) = true
is_plain (Instr-F.LocalTee x) = true
is_plain (Instr-F.GlobalGet x) = true
is_plain (Instr-F.GlobalSet x) = true
is_plain (Instr-F.Load op at) = true
is_plain (Instr-F.Store op at) = true
is_plain (Instr-F.MemorySize x) = true
is_plain (Instr-F.MemoryGrow x) = true
is_plain (Instr-F.Pure op) = is_plain_op op
is_plain _ = false
