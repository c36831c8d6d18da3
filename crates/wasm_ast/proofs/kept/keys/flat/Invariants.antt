use Rattle.std.proofs.Common.{◌≡◌, take}
use Rattle.wasm_ast.specs.Flattening.{flat}
use Rattle.wasm_ast.proofs.kept.keys.flat.Given as goal

-- those so far
abbrev pub invariant-loop-ty : goal.invariant-loop-ty
invariant-loop-ty l = l.all.items ≡ flat (take l.ty-index l.types)
