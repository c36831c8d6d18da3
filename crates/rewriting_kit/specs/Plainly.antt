-- Rewritings under which types and labels stay: sign extension by shifts, for one.
use Rattle.std.specs.Prelude.{◌≡◌, List, ◌∷◌, refl}
use Rattle.wasm_ast.specs.declared.module.ty.Ty.{Ty}
use Rattle.wasm_ast.specs.declared.module.code.Instr.{Instr}
use Rattle.typed_trees.specs.declared.node.Node.{Node}
use Rattle.typed_trees.specs.Contexts.{Context}
use Rattle.typed_trees.specs.Forms.{form}
use Rattle.typed_trees.specs.Trees.{leaves, TypedNodes}
use Rattle.rewriting_kit.specs.Rewrites.{Layer}
use Rattle.rewriting_kit.specs.Fitting.{World, Here, Fits, after}

module _ {E : Type 0} (entry : Instr → E) (layer : Layer E) (from into : Context) where
  abbrev pub plain_world : World E
  plain_world = record {
    entry = entry;
    layer = layer;
    from = from;
    into = into;
    At = λ x ls ls'. ls ≡ ls';
    inside = λ x head label ls. label ∷ ls;
    types = λ ts. ts;
    types_none = refl;
    types_append = λ a b. refl;
  }

  -- A node that fits its form in the context of the input fits the form that it has in that of the output; and what becomes
  -- of it there is typed as it is.
  pub record OwesPlainly : Type 0 where
    pub moves : (ls : List (List Ty)) (head : Instr) (takes gives : List Ty) (first second : List Node)
        → Fits from (Here into ls) (form from ls head) takes gives first second → Fits into (Here into ls) (form into ls head) takes gives first second
    pub made : (x : List E) (ls : List (List Ty)) (head : Instr) (takes gives : List Ty) (first second : List Node)
        → Fits into (Here into ls) (form into ls head) takes gives first second → TypedNodes into ls (layer x head takes gives first second) takes (after (leaves head) gives)
