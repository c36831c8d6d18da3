-- A typed module is what the small stage asks for: its code, its exports and its names.
use Rattle.std.proofs.Common.{◌≡◌, ℕ, List, [], ◌∷◌, ◌++◌, map, Some}
use Rattle.host_kit.specs.Offered.{func_type}
use Rattle.wasm_ast.specs.declared.module.parts.Global.{Global}
use Rattle.wasm_ast.specs.declared.module.parts.Module.{Module}
use Rattle.typed_trees.specs.declared.module.TypedFn.{TypedFn}
use Rattle.typed_trees.specs.Typed.{module_of, IsTypedTree}
use Rattle.evaluation_kit.specs.Control.{Own}
use Rattle.meaning_new.specs.Forms.{param_count, callee}
use Rattle.stage_kit.specs.Appended.{Appended, Alike}
use Rattle.stage_kit.proofs.TypedModules.{global_count, module_named, exports_named, bodies_named}
use Rattle.stage_kit_tests.specs.NullTests.{helper_function, Lowers}
use Rattle.stage_kit_tests.proofs.Nodes.{calling, code}

-- all that is left to show is what the stage adds
pub typed_lowers : (p q : Module × List TypedFn) (helper : ℕ) (global : Global) (more : List TypedFn) → IsTypedTree p → (appended : Appended (module_of p) (module_of q)) → (alike : Alike (module_of p) (module_of q)) → alike.more_globals ≡ global ∷ []
    → param_count (func_type (module_of q) helper) ≡ 1 → callee (module_of q) helper ≡ Some (Own (helper_function (global_count (module_of p)))) → q.1 ≡ map (calling helper) p.1 ++ more → Lowers (module_of p) (module_of q) (global_count (module_of p)) helper
typed_lowers p q helper global more typed appended alike one params body functions = record {
  appended = appended;
  alike = alike;
  named = module_named (module_of p) typed.parts;
  exports = exports_named (module_of p) typed.parts;
  global = global;
  one_global = one;
  helper_params = params;
  helper_body = body;
  code = code p q (global_count (module_of p)) helper appended typed.counts more functions (bodies_named (module_of p) typed.parts p.0.funcs p.1 typed.trees);
}
