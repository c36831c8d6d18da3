-- When a node fits a form, by what is known of its bodies; and what a rewriting owes so that typed nodes become typed nodes.
use Rattle.std.specs.Prelude.{◌≡◌, Bool, true, false, List, [], ◌∷◌, ◌++◌, Option, Some, None}
use Rattle.wasm_ast.specs.declared.module.ty.Ty.{Ty}
use Rattle.wasm_ast.specs.declared.module.ty.Ty.TheVariants.{I32}
use Rattle.wasm_ast.specs.declared.module.code.Instr.{Instr}
use Rattle.typing_kit.specs.Form.{Block, Choice}
use Rattle.typing_kit.specs.Leaf.{FitsLeaf}
use Rattle.typed_trees.specs.declared.node.Node.{Node}
use Rattle.typed_trees.specs.Contexts.{Context}
use Rattle.typed_trees.specs.Forms.{InstrForm, form, language}
use Rattle.typed_trees.specs.Trees.{leaves, EndsAs, TypedNodes}
use Rattle.rewriting_kit.specs.Rewrites.{Layer}

-- what is known of a body that stands behind a label, takes operands and gives results
abbrev pub OfBody : Type 1
OfBody = List Ty → List Node → List Ty → List Ty → Type 0

-- a body that is typed under these labels
pub record Body (c : Context) (ls : List (List Ty)) (nodes : List Node) (takes gives : List Ty) : Type 0 where
  pub end : Option (List Ty)
  pub typed : TypedNodes c ls nodes takes end
  pub ends : EndsAs end gives

abbrev pub Here : Context → List (List Ty) → OfBody
Here c ls label nodes takes gives = Body c (label ∷ ls) nodes takes gives

-- a node that takes and gives these types, with these bodies, has this form; in its instruction its bodies are empty
abbrev pub Fits : Context → OfBody → InstrForm → List Ty → List Ty → List Node → List Node → Type 0
Fits c B (Block label a b code) takes gives first second = (takes ≡ a) × (gives ≡ b) × (code ≡ []) × B label first a b × (second ≡ [])
Fits c B (Choice label a b code other) takes gives first second =
    (takes ≡ a ++ I32 ∷ []) × (gives ≡ b) × (code ≡ []) × (other ≡ []) × B label first a b × B label second a b
Fits c B f takes gives first second = FitsLeaf (language c) f takes gives × (first ≡ []) × (second ≡ [])

-- where code ends behind a node that gives these types
abbrev pub after : Bool → List Ty → Option (List Ty)
after true gives = None
after false gives = Some gives

-- What a rewriting is about: from which context into which, by which entries, with which types; and which labels stand
-- around a body, by those around the node that holds it.
pub record World (E : Type 0) : Type 1 where
  pub entry : Instr → E
  pub layer : Layer E
  pub from : Context
  pub into : Context
  -- the labels of the input and of the output, where the bodies around have these entries
  pub At : List E → List (List Ty) → List (List Ty) → Type 0
  -- the labels around a rewritten body
  pub inside : List E → Instr → List Ty → List (List Ty) → List (List Ty)
  -- the types of the output
  pub types : List Ty → List Ty
  pub types_none : types [] ≡ []
  pub types_append : (a b : List Ty) → types (a ++ b) ≡ types a ++ types b

module _ {E : Type 0} (W : World E) where
  -- a body that is rewritten already
  abbrev pub NewBody : List E → List (List Ty) → Instr → OfBody
  NewBody x ls head label nodes takes gives = Body W.into (W.inside x head label ls) nodes (W.types takes) (W.types gives)

  -- a body is entered where its labels are known
  pub record Enters : Type 0 where
    pub enters : (x : List E) (ls ls' : List (List Ty)) (head : Instr) (label : List Ty) → W.At x ls ls' → W.At (x ++ W.entry head ∷ []) (label ∷ ls) (W.inside x head label ls')

  -- what a layer owes: what becomes of a node that fits its form is typed
  pub record Owes : Type 0 where
    pub owes : (x : List E) (ls ls' : List (List Ty)) (head : Instr) (takes gives : List Ty) (first second : List Node) → W.At x ls ls'
        → Fits W.from (NewBody x ls' head) (form W.from ls head) takes gives first second
        → TypedNodes W.into ls' (W.layer x head takes gives first second) (W.types takes) (after (leaves head) (W.types gives))
