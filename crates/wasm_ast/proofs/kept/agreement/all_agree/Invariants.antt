use Rattle.std.proofs.Common.{map, take}
use Rattle.wasm_ast.proofs.Pairs.{Tracks}
use Rattle.wasm_ast.proofs.kept.agreement.all_agree.Given as goal

-- the map holds the pairs so far
abbrev pub invariant-loop-pair : goal.invariant-loop-pair
invariant-loop-pair l =
    Tracks (map (λ p. (p.0.items, p.1.items)) (take l.pair-index l.pairs)) (map (λ e. (e.0.now, e.1.now)) l.seen.entries)
