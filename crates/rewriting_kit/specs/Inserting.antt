-- Rewritings that open blocks around code: types stay, and branches go over the labels that are inserted.
use Rattle.std.specs.Prelude.{◌≡◌, refl, ℕ, zero, suc, ◌+◌, List, [], ◌∷◌, ◌++◌, length, reverse}
use Rattle.wasm_ast.specs.declared.module.ty.Ty.{Ty}
use Rattle.wasm_ast.specs.declared.module.code.Instr.{Instr}
use Rattle.typed_trees.specs.declared.node.Node.{Node}
use Rattle.typed_trees.specs.Contexts.{Context}
use Rattle.typed_trees.specs.Forms.{form}
use Rattle.typed_trees.specs.Trees.{leaves, TypedNodes}
use Rattle.rewriting_kit.specs.Rewrites.{Layer}
use Rattle.rewriting_kit.specs.Fitting.{OfBody, World, Body, Fits, after}
use Rattle.rewriting_kit.specs.Moving.{same_types, Indices, MovedContext, MovedLabels, moved_node}

-- The labels that a rewriting inserts inside the label of an instruction with bodies, and around it: how many, by what is
-- known of the open body, and what branches to them take, by the instruction and what branches to its own label take.
pub record Insertion (E : Type 0) : Type 0 where
  pub entry : Instr → E
  pub inner : E → ℕ
  pub outer : E → ℕ
  pub inside : Instr → List Ty → List (List Ty)
  pub around : Instr → List Ty → List (List Ty)
  pub inner_count : (head : Instr) (label : List Ty) → length (inside head label) ≡ inner (entry head)
  pub outer_count : (head : Instr) (label : List Ty) → length (around head label) ≡ outer (entry head)

module _ {E : Type 0} (I : Insertion E) where
  -- the label in the output, by the entries of the open bodies, the innermost first
  abbrev pub placed_in : List E → ℕ → ℕ
  placed_in [] l = l
  placed_in (e ∷ x) zero = I.inner e
  placed_in (e ∷ x) (suc l) = I.inner e + suc (I.outer e + placed_in x l)

  -- the same, by those entries as a layer has them, the outermost first
  abbrev pub placed : List E → ℕ → ℕ
  placed x l = placed_in (reverse x) l

  -- the labels inside a node
  abbrev pub opened : Instr → List Ty → List (List Ty) → List (List Ty)
  opened head label ls = I.inside head label ++ (label ∷ (I.around head label ++ ls))

  -- an instruction for which no label is inserted
  pub record OpensNothing (head : Instr) : Type 0 where
    pub inside : (label : List Ty) → I.inside head label ≡ []
    pub around : (label : List Ty) → I.around head label ≡ []

  module _ (layer : Layer E) (from into : Context) where
    abbrev pub inserting_world : World E
    inserting_world = record {
      entry = I.entry;
      layer = layer;
      from = from;
      into = into;
      At = λ x ls ls'. MovedLabels same_types (placed x) ls ls';
      inside = λ x head label ls. opened head label ls;
      types = λ ts. ts;
      types_none = refl;
      types_append = λ a b. refl;
    }

    -- a body that is rewritten already
    abbrev pub OpenedBody : List (List Ty) → Instr → OfBody
    OpenedBody ls head label nodes takes gives = Body into (opened head label ls) nodes takes gives

    -- What such a rewriting owes: the contexts, and that what becomes of a node is typed. A node for which no label is
    -- inserted is typed as it stays, with its labels where they are placed.
    pub record OwesInserting (n : Indices) : Type 0 where
      pub context : MovedContext same_types n from into
      pub made : (x : List E) (ls ls' : List (List Ty)) (head : Instr) (takes gives : List Ty) (first second : List Node) → MovedLabels same_types (placed x) ls ls'
          → Fits from (OpenedBody ls' head) (form from ls head) takes gives first second
          → (OpensNothing head → TypedNodes into ls' (moved_node same_types n (placed x) head takes gives first second ∷ []) takes (after (leaves head) gives))
          → TypedNodes into ls' (layer x head takes gives first second) takes (after (leaves head) gives)
