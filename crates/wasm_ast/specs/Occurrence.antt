-- What occurs in code, however deep: tests of one instruction, asked of all that stand in the code and in its bodies.
use Rattle.std.specs.Prelude.{Bool, ◌||◌, ◌&&◌, List, [], ◌++◌}
use Rattle.std.specs.List.{list_any, list_all}
use Rattle.wasm_ast.specs.declared.module.code.Instr.{Instr, out-Instr}
use Rattle.wasm_ast.specs.declared.module.code.Instr.TheOpen.{Instr-F}
use Rattle.wasm_ast.specs.declared.module.code.Instr.TheFolds.{map-Instr, fold-Instr}

-- an instruction without its bodies, of which only the lengths are left
abbrev pub Head : Type 0
Head = Instr-F (Unit {0})

abbrev pub head : {A : Type 0} → Instr-F A → Head
head {A} i = map-Instr A (Unit {0}) (λ x. tt) i

abbrev pub head_of : Instr → Head
head_of i = head (out-Instr i)

-- what stands in the bodies of an instruction, one level down
abbrev pub inside : {A : Type 0} → Instr-F A → List A
inside (Instr-F.Block type code) = code
inside (Instr-F.Loop type code) = code
inside (Instr-F.If type first second) = first ++ second
inside (Instr-F.TryTable type clauses code) = code
inside _ = []

-- whether the instruction, or one in its bodies, passes
abbrev pub some_step : (Head → Bool) → Instr-F Bool → Bool
some_step p i = p (head i) || list_any (λ b. b) (inside i)

abbrev pub some : (Head → Bool) → Instr → Bool
some p = fold-Instr Bool (some_step p)

-- whether the instruction and each in its bodies pass
abbrev pub every_step : (Head → Bool) → Instr-F Bool → Bool
every_step p i = p (head i) && list_all (λ b. b) (inside i)

abbrev pub every : (Head → Bool) → Instr → Bool
every p = fold-Instr Bool (every_step p)

-- some instruction of the code passes; every instruction of the code passes
abbrev pub some_in : (Head → Bool) → List Instr → Bool
some_in p = list_any (some p)

abbrev pub every_in : (Head → Bool) → List Instr → Bool
every_in p = list_all (every p)
