use Rattle.std.proofs.Common.{◌≡◌, ◌++◌, map, take}
use Rattle.std.specs.List.{filter_map}
use Rattle.wasm_ast.specs.Spaces.{global_import}
use Rattle.wasm_ast.proofs.spaces.global_types.Given as goal

-- the imported ones, and those that are listed so far
abbrev pub invariant-loop-global : goal.invariant-loop-global
invariant-loop-global l = l.types.items ≡ filter_map (λ i. global_import i.desc) l.m.imports ++ map (λ g. g.ty) (take l.global-index l.m.globals)
