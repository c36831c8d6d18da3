use Rattle.std.proofs.Common.{◌≡◌, take}
use Rattle.wasm_ast.specs.Marking.{marked}
use Rattle.typed_trees.specs.Modules.{named_in}
use Rattle.valid_new.proofs.spaces.mark_code.Given as goal

abbrev pub invariant-loop-instr : goal.invariant-loop-instr
invariant-loop-instr l = l.refs ≡ marked (named_in (take l.instr-index l.code)) l.initial.refs
