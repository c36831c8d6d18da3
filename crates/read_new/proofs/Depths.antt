-- A reference to a function holds no code.
use Rattle.std.proofs.Common.{◌≡◌, ℕ}
use Rattle.wasm_ast.specs.declared.module.code.Instr.TheVariants.{Pure}
use Rattle.wasm_ast.specs.declared.module.op.Op.TheVariants.{RefFunc}
use Rattle.code_new.specs.Code.{depth}
use Rattle.code_new.proofs.Leaves.{pure_leaf}

pub reference_depth : (f : ℕ) → depth (Pure (RefFunc f)) ≡ 0
reference_depth f = (pure_leaf (RefFunc f)).depth
