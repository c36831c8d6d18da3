-- The parts of a typed module, crossed one by one and put together, are its crossed module.
use Rattle.std.proofs.Common.{◌≡◌, List, map, sym, ap, ◌∙◌}
use Rattle.wasm_ast.specs.declared.module.parts.Module.{Module}
use Rattle.core1_ast.specs.declared.module.code.Body1.{Body1}
use Rattle.core1_ast.specs.declared.module.parts.Segment1.{Segment1}
use Rattle.core1_ast.specs.declared.module.parts.Module1.{Module1}
use Rattle.typed_trees.specs.declared.module.TypedFn.{TypedFn}
use Rattle.typed_trees.specs.Typed.{body_of, module_of}
use Rattle.meaning_new.specs.Language.{map_twice}
use Rattle.crossing.specs.Modules.{cross_body, cross_segment, cross}

pub joined : (p : Module × List TypedFn) (part : Module) (fns : List TypedFn) → (part, fns) ≡ p → {codes : List Body1} {datas : List Segment1} {out : Module1} → codes ≡ map (λ f. cross_body (body_of f)) fns → datas ≡ map cross_segment part.datas → out ≡ record (cross part) { codes = codes; datas = datas } → out ≡ cross (module_of p)
joined p part fns tree {codes} {datas} bodies segments whole =
    whole ∙ ap (λ (l : List Body1). record (cross part) { codes = l; datas = datas }) (bodies ∙ sym (map_twice body_of cross_body fns))
    ∙ ap (λ (l : List Segment1). record (cross (module_of (part, fns))) { datas = l }) segments ∙ ap (λ q. cross (module_of q)) tree
