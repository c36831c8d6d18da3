use Rattle.std.proofs.Common.{◌≡◌, drop}
use Rattle.std.specs.List.{list_all}
use Rattle.typed_trees.specs.Constants.{is_constant}
use Rattle.valid_new.specs.Scopes.{spaces_context}
use Rattle.valid_mod.proofs.parts.constants.are_constant.Given as goal

abbrev pub invariant-loop-instr : goal.invariant-loop-instr
invariant-loop-instr l = list_all (is_constant (spaces_context l.spaces)) (drop l.instr-index l.code) ≡ list_all (is_constant (spaces_context l.spaces)) l.code
