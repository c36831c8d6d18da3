-- Rewritings that map types, each to a list of types: a vector to two integers of 64 bits, for one. Labels stay, and what
-- branches to them take is mapped.
use Rattle.std.specs.Prelude.{◌≡◌, List, [], ◌∷◌, map}
use Rattle.wasm_ast.specs.declared.module.ty.Ty.{Ty}
use Rattle.wasm_ast.specs.declared.module.code.Instr.{Instr, out-Instr}
use Rattle.typed_trees.specs.declared.node.Node.{Node}
use Rattle.typed_trees.specs.Contexts.{Context}
use Rattle.typed_trees.specs.Forms.{form}
use Rattle.typed_trees.specs.Trees.{leaves, TypedNodes}
use Rattle.rewriting_kit.specs.Rewrites.{Layer}
use Rattle.rewriting_kit.specs.Fitting.{OfBody, World, Here, Fits, after}
use Rattle.rewriting_kit.specs.Moving.{TypeMap, Indices, MovedContext, Stays, moved_node}

module _ {E : Type 0} (T : TypeMap) (entry : Instr → E) (layer : Layer E) (from into : Context) where
  abbrev pub mapped_world : World E
  mapped_world = record {
    entry = entry;
    layer = layer;
    from = from;
    into = into;
    At = λ x ls ls'. ls' ≡ map T.over ls;
    inside = λ x head label ls. T.over label ∷ ls;
    types = T.over;
    types_none = T.over_none;
    types_append = T.over_append;
  }

  -- a body that is rewritten already, among the labels of the output
  abbrev pub MappedBody : List (List Ty) → OfBody
  MappedBody ls label nodes takes gives = Here into (map T.over ls) (T.over label) nodes (T.over takes) (T.over gives)

  -- What such a rewriting owes: the contexts, and that what becomes of a node is typed. Where the node can stay it is typed
  -- as it stays, so that only other nodes are left.
  pub record OwesMappedly (n : Indices) : Type 0 where
    pub context : MovedContext T n from into
    pub made : (x : List E) (ls : List (List Ty)) (head : Instr) (takes gives : List Ty) (first second : List Node)
        → Fits from (MappedBody ls) (form from ls head) takes gives first second
        → (Stays T (out-Instr head) takes gives → TypedNodes into (map T.over ls) (moved_node T n (λ l. l) head takes gives first second ∷ []) (T.over takes) (after (leaves head) (T.over gives)))
        → TypedNodes into (map T.over ls) (layer x head takes gives first second) (T.over takes) (after (leaves head) (T.over gives))
