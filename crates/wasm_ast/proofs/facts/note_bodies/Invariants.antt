use Rattle.std.proofs.Common.{◌≡◌, take}
use Rattle.wasm_ast.specs.Facts.{with_bodies}
use Rattle.wasm_ast.proofs.facts.note_bodies.Given as goal

-- what the bodies show so far is noted
abbrev pub invariant-loop-body : goal.invariant-loop-body
invariant-loop-body l = l.facts ≡ with_bodies (take l.body-index l.bodies) l.initial.facts
