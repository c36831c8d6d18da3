-- Code that is rewritten by layers that open blocks around code is typed as it was.
use Rattle.std.proofs.Common.{◌≡◌, zero, suc, ◌+◌, List, [], ◌∷◌, ◌++◌, reverse, Option, Some, slice_get, refl, sym, ap, ◌∙◌, subst, arith}
use Rattle.std.specs.List.{AllByRecursion}
use Rattle.std.proofs.lemmas.List.{reverse-append}
use Rattle.wasm_ast.specs.declared.module.ty.Ty.{Ty}
use Rattle.wasm_ast.specs.declared.module.ty.BlockType.{BlockType}
use Rattle.wasm_ast.specs.declared.module.immediates.Catch.{Catch}
use Rattle.wasm_ast.specs.declared.module.immediates.Catch.TheVariants as catches
use Rattle.wasm_ast.specs.declared.module.code.Instr.{Instr, out-Instr, roll-Instr, out-roll-Instr}
use Rattle.wasm_ast.specs.declared.module.code.Instr.TheOpen.{Instr-F}
use Rattle.typing_kit.specs.Form.{Block}
use Rattle.typed_trees.specs.declared.node.Node.{Node}
use Rattle.typed_trees.specs.Contexts.{Context, block_type, one_result}
use Rattle.typed_trees.specs.Forms.{form, layer_form, where_some, block_form}
use Rattle.typed_trees.specs.Trees.{leaves_layer, TypedNodes}
use Rattle.rewriting_kit.specs.Rewrites.{Layer, rewritten, node_of}
use Rattle.rewriting_kit.specs.Fitting.{Body, Here, Fits, Enters, Owes, after}
use Rattle.rewriting_kit.specs.Moving.{same_types, Indices, same_indices, MovedLabels, MovedContext, Alone, ClauseStays, Stays}
use Rattle.rewriting_kit.specs.Inserting.{Insertion, placed_in, placed, opened, inserting_world, OpenedBody, OwesInserting}
use Rattle.rewriting_kit.proofs.Images.{get_behind}
use Rattle.rewriting_kit.proofs.Moving.{moved_typed}
use Rattle.rewriting_kit.proofs.Plain.{same_end}
use Rattle.rewriting_kit.proofs.Staying.{put_together}
use Rattle.rewriting_kit.proofs.Typing.{code_typed}

-- what a context names is there where nothing moves
pub same_context : (c : Context) → MovedContext same_types same_indices c c
same_context c = record {
  blocks = λ t v. ap (λ b. one_result b t) v;
  types = λ x t e. e;
  funcs = λ x t e. e;
  tags = λ x t e. e;
  tables = λ x t e. e;
  elems = λ x t e. e;
  memories = λ x l e. e;
  datas = λ x e. e;
  globals = λ x g e alone. e;
  refs = λ x e. e;
  locals = λ x t e alone. e;
  returns = λ ts e. e;
}

-- where types stay, each node can stay
all_alone : (ts : List Ty) → AllByRecursion (Alone same_types) ts
all_alone [] = tt
all_alone (t ∷ ts) = (refl, all_alone ts)

clause_stays : (clause : Catch) → ClauseStays same_types clause
clause_stays (catches.Tag x l) = tt
clause_stays (catches.TagRef x l) = refl
clause_stays (catches.All l) = tt
clause_stays (catches.AllRef l) = refl

clauses_stay : (clauses : List Catch) → AllByRecursion (ClauseStays same_types) clauses
clauses_stay [] = tt
clauses_stay (clause ∷ clauses) = (clause_stays clause, clauses_stay clauses)

pub all_stay : (l : Instr-F Instr) (takes gives : List Ty) → Stays same_types l takes gives
all_stay (Instr-F.Block t code) takes gives = tt
all_stay (Instr-F.Loop t code) takes gives = tt
all_stay (Instr-F.If t first second) takes gives = tt
all_stay (Instr-F.TryTable t clauses code) takes gives = clauses_stay clauses
all_stay (Instr-F.Br l) takes gives = tt
all_stay (Instr-F.BrIf l) takes gives = tt
all_stay (Instr-F.BrTable ls last) takes gives = tt
all_stay (Instr-F.Call x) takes gives = tt
all_stay (Instr-F.CallIndirect x table) takes gives = tt
all_stay Instr-F.Return takes gives = tt
all_stay (Instr-F.ReturnCall x) takes gives = tt
all_stay (Instr-F.ReturnCallIndirect x table) takes gives = tt
all_stay (Instr-F.Throw x) takes gives = tt
all_stay l takes gives = (all_alone takes, all_alone gives)

module _ {E : Type 0} (I : Insertion E) where
  -- inside a node there are more labels
  opened_labels : (x : List E) (ls ls' : List (List Ty)) (head : Instr) (label : List Ty) → MovedLabels same_types (placed_in I x) ls ls' → MovedLabels same_types (placed_in I (I.entry head ∷ x)) (label ∷ ls) (opened I head label ls')
  opened_labels x ls ls' head label at zero ts e =
      let none : I.inner (I.entry head) ≡ I.inner (I.entry head) + 0 = omega arith in
      ap (slice_get (opened I head label ls')) (none ∙ ap (λ k. k + 0) (sym (I.inner_count head label)))
      ∙ get_behind (I.inside head label) (label ∷ (I.around head label ++ ls')) 0 ∙ e
  opened_labels x ls ls' head label at (suc l) ts e =
      ap (λ k. slice_get (opened I head label ls') (k + suc (I.outer (I.entry head) + placed_in I x l))) (sym (I.inner_count head label))
      ∙ get_behind (I.inside head label) (label ∷ (I.around head label ++ ls')) (suc (I.outer (I.entry head) + placed_in I x l))
      ∙ ap (λ k. slice_get (I.around head label ++ ls') (k + placed_in I x l)) (sym (I.outer_count head label))
      ∙ get_behind (I.around head label) ls' (placed_in I x l) ∙ at l ts e

  module _ (layer : Layer E) (from into : Context) where
    enters : Enters (inserting_world I layer from into)
    enters = record {
      enters = λ x ls ls' head label at.
          subst (λ r. MovedLabels same_types (placed_in I r) (label ∷ ls) (opened I head label ls')) (sym (reverse-append x (I.entry head ∷ [])))
          (opened_labels (reverse x) ls ls' head label at);
    }

    module _ (n : Indices) (h : OwesInserting I layer from into n) where
      owes : Owes (inserting_world I layer from into)
      owes = record {
        owes = λ x ls ls' head takes gives first second at fits.
            h.made x ls ls' head takes gives first second at fits
            (λ nothing. moved_typed same_types n from into h.context ls ls' (placed I x) at (OpenedBody I layer from into ls' head)
            (λ label nodes a b body. subst (λ l. Body into (l ++ (label ∷ ls')) nodes a b) (nothing.inside label) (subst (λ l. Body into (I.inside head label ++ (label ∷ (l ++ ls'))) nodes a b) (nothing.around label) body))
            takes gives first second head (all_stay (out-Instr head) takes gives) fits);
      }

      pub inserting_typed : (x : List E) (ls ls' : List (List Ty)) (nodes : List Node) (start : List Ty) (end : Option (List Ty)) → MovedLabels same_types (placed I x) ls ls' → TypedNodes from ls nodes start end → TypedNodes into ls' (rewritten I.entry layer nodes x) start end
      inserting_typed x ls ls' nodes start end at typed =
          subst (TypedNodes into ls' (rewritten I.entry layer nodes x) start) (same_end end) (code_typed (inserting_world I layer from into) enters owes x ls ls' nodes start end at typed)

-- code in a block, whose label takes what the code gives
pub in_block : (c : Context) (ls : List (List Ty)) (t : BlockType) (takes gives : List Ty) (nodes : List Node) → block_type c t ≡ Some (record { params = takes; results = gives }) → Here c ls gives nodes takes gives
    → TypedNodes c ls (node_of (roll-Instr (Instr-F.Block t [])) takes gives nodes [] ∷ []) takes (Some gives)
in_block c ls t takes gives nodes e body =
    let head : Instr = roll-Instr (Instr-F.Block t []) in
    let is : out-Instr head ≡ Instr-F.Block t [] = out-roll-Instr (Instr-F.Block t []) in
    let same : form c ls head ≡ Block gives takes gives [] = ap (layer_form c ls) is ∙ ap (λ o. where_some o (λ u. block_form u [])) e in
    subst (λ b. TypedNodes c ls (node_of head takes gives nodes [] ∷ []) takes (after b gives)) (ap leaves_layer is)
    (put_together c ls head takes gives nodes [] (subst (λ f. Fits c (Here c ls) f takes gives nodes []) (sym same) (refl, refl, refl, body, refl)))
