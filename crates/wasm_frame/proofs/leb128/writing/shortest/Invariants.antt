use Rattle.std.proofs.Common.{◌≡◌, ℕ, ◌+◌, ◌*◌, ◌^◌, ◌<◌, List, ◌++◌, length}
use Rattle.wasm_frame.specs.Leb128.{IsShortest}
use Rattle.wasm_frame.proofs.leb128.writing.shortest.Given as goal

-- what spells the rest completes the number
abbrev pub invariant-loop-byte : goal.invariant-loop-byte
invariant-loop-byte l = record {
  width : l.left + 7 * length l.spelling.items ≡ l.width;
  some : 0 < l.left;
  range : l.rest < 2 ^ l.left;
  completes : (t : List ℕ) → IsShortest l.sign l.left t l.rest → IsShortest l.sign l.width (l.spelling.items ++ t) l.bits;
}

abbrev pub decreases-loop-byte : goal.decreases-loop-byte
decreases-loop-byte l = l.left
