use Rattle.std.proofs.Common.{ℕ, ◌<◌}
use Rattle.typed_trees.specs.Constants.{TypedConstant}
use Rattle.valid_new.specs.Scopes.{spaces_context}
use Rattle.valid_mod.specs.Searches.{At}
use Rattle.valid_mod.proofs.parts.constants.are_typed_constants.Given as goal

abbrev pub invariant-loop-code : goal.invariant-loop-code
invariant-loop-code l = (k : ℕ) → k < l.code-index → At l.codes (λ code. TypedConstant (spaces_context l.spaces) code l.ty) k
