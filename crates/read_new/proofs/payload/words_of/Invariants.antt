use Rattle.std.proofs.Common.{◌≡◌, ◌≤◌, ◌*◌, length, take}
use Rattle.wasm_ast.specs.Flattening.{flat}
use Rattle.read_new.proofs.payload.words_of.Given as goal

-- the words of the types so far
abbrev pub invariant-loop-ty : goal.invariant-loop-ty
invariant-loop-ty l = (l.total ≡ length (flat (take l.ty-index l.types))) × (l.total ≤ 2 * l.ty-index)
