-- How deeply code of 1.0 is nested: how many blocks, loops and ifs are open at once ("Control Instructions").
use Rattle.std.specs.Prelude.{ℕ, suc, max, List, [], ◌∷◌}
use Rattle.core1_ast.specs.declared.module.code.Instr1.{Instr1}
use Rattle.core1_ast.specs.declared.module.code.Instr1.TheOpen.{Instr1-F}
use Rattle.core1_ast.specs.declared.module.code.Instr1.TheFolds.{fold-Instr1}

abbrev pub greatest : List ℕ → ℕ
greatest [] = 0
greatest (n ∷ ns) = max n (greatest ns)

abbrev pub deepen : Instr1-F ℕ → ℕ
deepen (Instr1-F.Block t code) = suc (greatest code)
deepen (Instr1-F.Loop t code) = suc (greatest code)
deepen (Instr1-F.If t first second) = suc (max (greatest first) (greatest second))
deepen _ = 0

abbrev pub depth : Instr1 → ℕ
depth i = fold-Instr1 ℕ deepen i
