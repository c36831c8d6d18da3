-- An import adds one function at most.
use Rattle.std.proofs.Common.{◌≤◌, List, [], ◌∷◌, length, arith}
use Rattle.std.specs.Prelude.{sum_by}
use Rattle.std.proofs.lemmas.List.Sums.{sum_by-cons}
use Rattle.wasm_ast.specs.declared.module.parts.Import.{Import}
use Rattle.wasm_ast.specs.declared.module.parts.ImportDesc.{ImportDesc}
use Rattle.wasm_ast.specs.declared.module.parts.ImportDesc.TheVariants.{Func, Table, Memory, Global, Tag}
use Rattle.read_new.specs.Limits.{func_count}

one_at_most : (d : ImportDesc) → func_count d ≤ 1
one_at_most (Func t) = omega arith
one_at_most (Table t l) = omega arith
one_at_most (Memory l) = omega arith
one_at_most (Global t m) = omega arith
one_at_most (Tag t) = omega arith

pub few_functions : (imports : List Import) → sum_by (λ i. func_count i.desc) imports ≤ length imports
few_functions [] = omega arith
few_functions (i ∷ imports) = omega (arith, sum_by-cons (λ (x : Import). func_count x.desc) i imports, one_at_most i.desc, few_functions imports)
