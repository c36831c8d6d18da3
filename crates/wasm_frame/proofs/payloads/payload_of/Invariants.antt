use Rattle.std.proofs.Common.{◌≡◌, drop}
use Rattle.wasm_frame.specs.Frame.{parts_of}
use Rattle.wasm_frame.specs.Payloads.{payload_of}
use Rattle.wasm_frame.proofs.payloads.payload_of.Given as goal

-- the sections that were looked at are of other ids
abbrev pub invariant-loop-section : goal.invariant-loop-section
invariant-loop-section l = payload_of l.id (parts_of l.b (drop l.section-index l.found)) ≡ payload_of l.id (parts_of l.b l.found)
