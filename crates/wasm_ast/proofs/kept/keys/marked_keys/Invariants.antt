use Rattle.std.proofs.Common.{◌≡◌, ◌++◌, map, drop}
use Rattle.wasm_ast.specs.Kept.{lowered_and_own}
use Rattle.wasm_ast.specs.Marking.{marked_items}
use Rattle.wasm_ast.proofs.kept.keys.marked_keys.Given as goal

-- the keys so far, and those of the types that are left
abbrev pub invariant-loop-i : goal.invariant-loop-i
invariant-loop-i l =
    map lowered_and_own (marked_items l.marks 0 l.types)
    ≡ map (λ p. (p.0.items, p.1.items)) l.pairs.items ++ map lowered_and_own (marked_items l.marks l.i (drop l.i l.types))
