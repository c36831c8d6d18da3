use Rattle.std.proofs.Common.{◌≡◌, drop}
use Rattle.std.specs.List.{filter_map}
use Rattle.wasm_ast.specs.Spaces.{global_import}
use Rattle.wasm_ast.specs.Fold.{known_imports, with_own}
use Rattle.wasm_ast.proofs.folding.globals.known_globals.Given as goal

-- the rest of the globals fold over those before them
abbrev pub invariant-loop-global : goal.invariant-loop-global
invariant-loop-global l =
    with_own (known_imports (filter_map (λ i. global_import i.desc) l.m.imports)) l.m.globals ≡ with_own l.known.items (drop l.global-index l.m.globals)
