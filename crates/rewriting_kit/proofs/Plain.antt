-- Code that is rewritten by layers under which types and labels stay is typed as it was.
use Rattle.std.proofs.Common.{◌≡◌, List, ◌∷◌, option_map, Option, Some, None, refl, sym, ap, subst}
use Rattle.wasm_ast.specs.declared.module.ty.Ty.{Ty}
use Rattle.wasm_ast.specs.declared.module.code.Instr.{Instr}
use Rattle.typed_trees.specs.declared.node.Node.{Node}
use Rattle.typed_trees.specs.Contexts.{Context}
use Rattle.typed_trees.specs.Forms.{form}
use Rattle.typed_trees.specs.Trees.{leaves, TypedNodes}
use Rattle.rewriting_kit.specs.Rewrites.{Layer, rewritten}
use Rattle.rewriting_kit.specs.Fitting.{Here, Fits, Enters, Owes, after}
use Rattle.rewriting_kit.specs.Plainly.{plain_world, OwesPlainly}
use Rattle.rewriting_kit.proofs.Typing.{code_typed}

pub same_end : (end : Option (List Ty)) → option_map (λ (s : List Ty). s) end ≡ end
same_end None = refl
same_end (Some s) = refl

module _ {E : Type 0} (entry : Instr → E) (layer : Layer E) (from into : Context) (h : OwesPlainly entry layer from into) where
  enters : Enters (plain_world entry layer from into)
  enters = record { enters = λ x ls ls' head label at. ap (λ l. label ∷ l) at }

  owes : Owes (plain_world entry layer from into)
  owes = record {
    owes = λ x ls ls' head takes gives first second at fits.
        let same : Fits from (Here into ls) (form from ls head) takes gives first second = subst (λ l. Fits from (Here into l) (form from ls head) takes gives first second) (sym at) fits in
        subst (λ l. TypedNodes into l (layer x head takes gives first second) takes (after (leaves head) gives)) at
        (h.made x ls head takes gives first second (h.moves ls head takes gives first second same));
  }

  pub plainly_typed : (x : List E) (ls : List (List Ty)) (nodes : List Node) (start : List Ty) (end : Option (List Ty)) → TypedNodes from ls nodes start end → TypedNodes into ls (rewritten entry layer nodes x) start end
  plainly_typed x ls nodes start end typed =
      subst (TypedNodes into ls (rewritten entry layer nodes x) start) (same_end end) (code_typed (plain_world entry layer from into) enters owes x ls ls nodes start end refl typed)
