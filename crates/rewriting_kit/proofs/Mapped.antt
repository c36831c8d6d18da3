-- Code that is rewritten by layers that map types is typed by the mapped types.
use Rattle.std.proofs.Common.{List, ◌∷◌, map, option_map, Option, refl, sym, ap, subst}
use Rattle.wasm_ast.specs.declared.module.ty.Ty.{Ty}
use Rattle.wasm_ast.specs.declared.module.code.Instr.{Instr}
use Rattle.typed_trees.specs.declared.node.Node.{Node}
use Rattle.typed_trees.specs.Contexts.{Context}
use Rattle.typed_trees.specs.Forms.{form}
use Rattle.typed_trees.specs.Trees.{leaves, TypedNodes}
use Rattle.rewriting_kit.specs.Rewrites.{Layer, rewritten}
use Rattle.rewriting_kit.specs.Fitting.{Here, Fits, Enters, Owes, after}
use Rattle.rewriting_kit.specs.Moving.{TypeMap, Indices, MovedLabels}
use Rattle.rewriting_kit.specs.Mappedly.{mapped_world, MappedBody, OwesMappedly}
use Rattle.rewriting_kit.proofs.Images.{map_there}
use Rattle.rewriting_kit.proofs.Moving.{moved_typed}
use Rattle.rewriting_kit.proofs.Typing.{code_typed}

module _ {E : Type 0} (T : TypeMap) (entry : Instr → E) (layer : Layer E) (from into : Context) (n : Indices) (h : OwesMappedly T entry layer from into n) where
  enters : Enters (mapped_world T entry layer from into)
  enters = record { enters = λ x ls ls' head label at. ap (λ l. T.over label ∷ l) at }

  labels : (ls : List (List Ty)) → MovedLabels T (λ l. l) ls (map T.over ls)
  labels ls l ts e = map_there T.over ls l ts e

  made : (x : List E) (ls : List (List Ty)) (head : Instr) (takes gives : List Ty) (first second : List Node) → Fits from (MappedBody T entry layer from into ls) (form from ls head) takes gives first second
      → TypedNodes into (map T.over ls) (layer x head takes gives first second) (T.over takes) (after (leaves head) (T.over gives))
  made x ls head takes gives first second fits =
      h.made x ls head takes gives first second fits
      (λ stays. moved_typed T n from into h.context ls (map T.over ls) (λ l. l) (labels ls) (MappedBody T entry layer from into ls) (λ label nodes a b body. body) takes gives first second head stays fits)

  owes : Owes (mapped_world T entry layer from into)
  owes = record {
    owes = λ x ls ls' head takes gives first second at fits.
        subst (λ l. TypedNodes into l (layer x head takes gives first second) (T.over takes) (after (leaves head) (T.over gives))) (sym at)
        (made x ls head takes gives first second (subst (λ l. Fits from (λ label nodes a b. Here into l (T.over label) nodes (T.over a) (T.over b)) (form from ls head) takes gives first second) at fits));
  }

  pub mappedly_typed : (x : List E) (ls : List (List Ty)) (nodes : List Node) (start : List Ty) (end : Option (List Ty)) → TypedNodes from ls nodes start end → TypedNodes into (map T.over ls) (rewritten entry layer nodes x) (T.over start) (option_map T.over end)
  mappedly_typed x ls nodes start end typed = code_typed (mapped_world T entry layer from into) enters owes x ls (map T.over ls) nodes start end refl typed
