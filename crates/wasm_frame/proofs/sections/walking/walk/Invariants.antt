use Rattle.std.proofs.Common.{◌≡◌, ℕ, List, ◌++◌, length}
use Rattle.std.specs.Prelude.{All}
use Rattle.wasm_frame.specs.Frame.{Part, Ending, Sections, Frame, IsWithin, parts_of}
use Rattle.wasm_frame.proofs.sections.walking.walk.Given as goal

-- however the rest goes on and ends, the file does so behind the sections that were found
abbrev pub invariant-loop-rest : goal.invariant-loop-rest
invariant-loop-rest l = record {
  cut : (front : List ℕ) × (l.b ≡ front ++ l.rest);
  ranges : All (IsWithin l.b) l.sections;
  completes : (more : List Part) (end : Ending) → Sections l.left l.rest more end → Frame l.fn.v l.b (parts_of l.b l.sections ++ more) end;
}

abbrev pub decreases-loop-rest : goal.decreases-loop-rest
decreases-loop-rest l = length l.rest
