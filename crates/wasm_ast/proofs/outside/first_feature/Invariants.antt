use Rattle.std.proofs.Common.{◌≡◌, drop}
use Rattle.wasm_ast.specs.Outside.{first_feature}
use Rattle.wasm_ast.proofs.outside.first_feature.Given as goal

-- the module has none of those so far, so the first is among the rest
abbrev pub invariant-loop-feature : goal.invariant-loop-feature
invariant-loop-feature l = first_feature (drop l.feature-index l.features) l.m ≡ first_feature l.features l.m
