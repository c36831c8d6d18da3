use Rattle.std.proofs.Common.{◌≡◌, ◌++◌, map, take}
use Rattle.wasm_ast.specs.Types.{type_code}
use Rattle.emit_kit.proofs.keys.push_codes.Given as goal

-- the bytes of the types so far are appended
abbrev pub invariant-loop-ty : goal.invariant-loop-ty
invariant-loop-ty l = l.key.items ≡ l.initial.key.items ++ map type_code (take l.ty-index l.types)
