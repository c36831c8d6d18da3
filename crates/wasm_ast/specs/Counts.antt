-- The counts of a module that must agree: chapter 5 of the standard, "Modules".
use Rattle.std.specs.Prelude.{◌≡◌, Bool, true, false, List, length, IsTrue, MatchOption}
use Rattle.std.specs.List.{AllByRecursion}
use Rattle.wasm_ast.specs.declared.module.code.Instr.{Instr}
use Rattle.wasm_ast.specs.declared.module.code.Instr.TheOpen.{Instr-F}
use Rattle.wasm_ast.specs.declared.module.parts.Module.{Module}
use Rattle.wasm_ast.specs.Occurrence.{Head, some_in}

-- an instruction that names a data segment
abbrev pub is_data_use : Head → Bool
is_data_use (Instr-F.MemoryInit segment memory) = true
is_data_use (Instr-F.DataDrop segment) = true
is_data_use _ = false

-- whether an instruction of the code names a data segment, at any depth
abbrev pub names_data : List Instr → Bool
names_data = some_in is_data_use

-- the counts of a module agree: each function has a body, a data count is that of the data segments, and without one no
-- body names a data segment
pub record Agrees (m : Module) : Type 0 where
  pub bodies : length m.funcs ≡ length m.codes
  pub segments : MatchOption m.data_count (AllByRecursion (λ body. ¬ (IsTrue (names_data body.code))) m.codes) (λ n. n ≡ length m.datas)
