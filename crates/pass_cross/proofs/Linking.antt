-- All that is said of a crossed module.
use Rattle.std.proofs.Common.{◌≡◌, false, List, refl, sym, subst, arith}
use Rattle.wasm_ast.specs.declared.module.parts.Export.{Export}
use Rattle.wasm_ast.specs.declared.module.parts.ExportDesc.{ExportDesc}
use Rattle.wasm_ast.specs.declared.module.parts.ExportDesc.TheVariants as exports
use Rattle.wasm_ast.specs.declared.module.parts.Module.{Module}
use Rattle.core1_ast.specs.declared.module.parts.Module1.{Module1}
use Rattle.typed_trees.specs.declared.module.TypedFn.{TypedFn}
use Rattle.typed_trees.specs.Typed.{module_of, IsTypedTree}
use Rattle.typed_trees.specs.Modules.{TypedDesc}
use Rattle.crossing.specs.Modules.{cross}
use Rattle.crossing.specs.Interfaces.{exports_tag, LinksNoTag}
use Rattle.crossing.proofs.Interfaces.{interface-cross}
use Rattle.crossing.proofs.Scripts.{crosses_runs}
use Rattle.pass_cross.specs.Crossable.{Crossable}
use Rattle.core1_ast.specs.Typing.{Typed1}
use Rattle.pass_cross.specs.Crossed.{IsCrossed}
use Rattle.pass_cross.specs.Short.{IsShortThroughout}
use Rattle.pass_cross.proofs.Facts.{no_tag_imports}
use Rattle.pass_cross.proofs.Whole.{all_weaker, crossable_crosses}
use Rattle.pass_cross.proofs.Typing.{untagged, crossed_is_typed}

module _ (p : Module × List TypedFn) (is_typed : IsTypedTree p) (h : Crossable (module_of p)) where
  abbrev m : Module
  m = module_of p

  no_tag : (d : ExportDesc) → TypedDesc m d → exports_tag d ≡ false
  no_tag (exports.Tag x) k = let e = untagged p is_typed h in let no : ⊥ = omega arith in absurd no
  no_tag (exports.Func x) k = refl
  no_tag (exports.Table x) k = refl
  no_tag (exports.Memory x) k = refl
  no_tag (exports.Global x) k = refl

  links : LinksNoTag m
  links = record {
    imports = no_tag_imports m h;
    exports = all_weaker (λ (e : Export). TypedDesc m e.desc) (λ (e : Export). exports_tag e.desc ≡ false) m.exports (λ e k. no_tag e.desc k) is_typed.parts.exports;
  }

  pub is_crossed : (out : Module1) → out ≡ cross m → IsCrossed m out
  is_crossed out e =
      subst (IsCrossed m) (sym e) (record {
        linked = interface-cross m links;
        trace = λ script n fits. (crosses_runs m script n (crossable_crosses p is_typed h) fits).trace;
        depth = λ script n fits. (crosses_runs m script n (crossable_crosses p is_typed h) fits).depth;
      })

  pub typed_out : (out : Module1) → out ≡ cross m → IsShortThroughout out → Typed1 out
  typed_out out e short = subst Typed1 (sym e) (crossed_is_typed p is_typed h (subst IsShortThroughout e short))
