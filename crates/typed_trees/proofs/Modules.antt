-- The module that a typed module stands for is typed.
use Rattle.std.proofs.Common.{◌≡◌, ℕ, List, [], ◌∷◌, map, refl}
use Rattle.wasm_ast.specs.declared.module.parts.Module.{Module}
use Rattle.typed_trees.specs.declared.module.TypedFn.{TypedFn}
use Rattle.typed_trees.specs.Modules.{IsTyped, TypedFuncs, body_context}
use Rattle.typed_trees.specs.Typed.{body_of, module_of, TypedTrees, IsTypedTree}
use Rattle.typed_trees.proofs.Erasing.{nodes_erased}

bodies_typed : (m : Module) (type_indices : List ℕ) (fns : List TypedFn) → TypedTrees m type_indices fns → TypedFuncs m type_indices (map body_of fns)
bodies_typed m [] [] h = tt
bodies_typed m [] (f ∷ fns) h = absurd h
bodies_typed m (t ∷ type_indices) [] h = absurd h
bodies_typed m (t ∷ type_indices) (f ∷ fns) h = (
  record {
    type = h.0.type;
    declared = h.0.declared;
    typed = record {
      locals = h.0.typed.locals;
      code = nodes_erased (body_context m h.0.type (body_of f)) (h.0.type.results ∷ []) f.body [] h.0.typed.end h.0.typed.nodes h.0.type.results h.0.typed.ends;
    };
  },
  bodies_typed m type_indices fns h.1,
)

pub tree_typed : (m : Module × List TypedFn) → IsTypedTree m → IsTyped (module_of m)
tree_typed m h = record {
  counts = h.counts;
  parts = h.parts;
  bodies = bodies_typed (module_of m) m.0.funcs m.1 h.trees;
}
