use Rattle.std.proofs.Common.{◌≡◌, take, map}
use Rattle.core1_ast.specs.declared.module.parts.Global1.{Global1}
use Rattle.core1_ast.specs.Spaces.{GlobalType}
use Rattle.valid_core1.specs.Scopes.{global_type}
use Rattle.valid_core1.proofs.spaces.declared_globals.Given as goal

abbrev pub invariant-loop-global : goal.invariant-loop-global
invariant-loop-global l = map global_type l.globals ≡ map (λ (g : Global1). let r : GlobalType = record { type = g.ty; mutable = g.mutable } in r) (take l.global-index l.declared)
