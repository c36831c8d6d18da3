-- Code whose loops have their bodies in blocks is typed as it was.
use Rattle.std.proofs.Common.{◌≡◌, ℕ, List, [], ◌∷◌, ◌++◌, length, Option, Some, None, refl, sym, ap, ◌∙◌, subst}
use Rattle.wasm_ast.specs.declared.module.ty.Ty.{Ty}
use Rattle.wasm_ast.specs.declared.module.ty.BlockType.{BlockType}
use Rattle.wasm_ast.specs.declared.module.ty.FuncType.{FuncType}
use Rattle.wasm_ast.specs.declared.module.code.Instr.{Instr, out-Instr, roll-Instr, out-roll-Instr}
use Rattle.wasm_ast.specs.declared.module.code.Instr.TheOpen.{Instr-F}
use Rattle.typed_trees.specs.declared.node.Node.{Node}
use Rattle.typed_trees.specs.Contexts.{Context, block_type}
use Rattle.typed_trees.specs.Forms.{layer_form, where_some, loop_form}
use Rattle.typed_trees.specs.Trees.{leaves_layer, TypedNodes}
use Rattle.rewriting_kit.specs.Rewrites.{Layer, node_of, rewritten}
use Rattle.rewriting_kit.specs.Fitting.{Body, Here, Fits, after}
use Rattle.rewriting_kit.specs.Moving.{same_types, same_indices, moved_node}
use Rattle.rewriting_kit.specs.Inserting.{Insertion, placed, OwesInserting}
use Rattle.rewriting_kit.proofs.Inserted.{same_context, in_block, inserting_typed}
use Rattle.rewriting_kit.proofs.Staying.{put_together}
use Rattle.rewriting_kit_tests.specs.Loops.{results_of, label_count, looped, labels_in}

module _ (c : Context) where
  pub counted : (l : Instr-F Instr) → length (labels_in c l) ≡ label_count l
  counted (Instr-F.Loop t code) = refl
  counted l = refl

  -- one label inside that of a loop
  abbrev pub insertion : Insertion ℕ
  insertion = record {
    entry = λ head. label_count (out-Instr head);
    inner = λ e. e;
    outer = λ e. 0;
    inside = λ head label. labels_in c (out-Instr head);
    around = λ head label. [];
    inner_count = λ head label. counted (out-Instr head);
    outer_count = λ head label. refl;
  }

  abbrev pub in_blocks : Layer ℕ
  in_blocks x head takes gives first second = looped (out-Instr head) takes gives first (moved_node same_types same_indices (placed insertion x) head takes gives first second ∷ [])

  module _ (ls ls' : List (List Ty)) (first second : List Node) where
    -- a body in a block in a loop
    loop_typed : (t : BlockType) (u : FuncType) → block_type c t ≡ Some u → Body c (u.results ∷ (u.params ∷ ls')) first u.params u.results → TypedNodes c ls' (looped (Instr-F.Loop t []) u.params u.results first []) u.params (Some u.results)
    loop_typed t u e body =
        let head : Instr = roll-Instr (Instr-F.Loop t []) in
        let is : out-Instr head ≡ Instr-F.Loop t [] = out-roll-Instr (Instr-F.Loop t []) in
        let block : List Node = node_of (roll-Instr (Instr-F.Block t [])) u.params u.results first [] ∷ [] in
        let turn : Body c (u.params ∷ ls') block u.params u.results = record { end = Some u.results; typed = in_block c (u.params ∷ ls') t u.params u.results first e body; ends = refl } in
        subst (λ b. TypedNodes c ls' (node_of head u.params u.results block [] ∷ []) u.params (after b u.results)) (ap leaves_layer is)
        (put_together c ls' head u.params u.results block []
        (subst (λ f. Fits c (Here c ls') f u.params u.results block []) (sym (ap (layer_form c ls') is ∙ ap (λ o. where_some o (λ v. loop_form v [])) e)) (refl, refl, refl, turn, refl)))

    in_loop : (t : BlockType) (code : List Instr) (takes gives : List Ty) (kept : List Node) (o : Option FuncType) → block_type c t ≡ o → Fits c (λ label nodes a b. Body c (results_of o ∷ (label ∷ ls')) nodes a b) (where_some o (λ u. loop_form u code)) takes gives first second
        → TypedNodes c ls' (looped (Instr-F.Loop t code) takes gives first kept) takes (Some gives)
    in_loop t code takes gives kept None e h = absurd h.0
    in_loop t code takes gives kept (Some u) e (is, gs, empty, body, none) = rw (is, gs) (loop_typed t u e body)

    -- what becomes of a node
    node_typed : (l : Instr-F Instr) (takes gives : List Ty) (kept : List Node) → Fits c (λ label nodes a b. Body c (labels_in c l ++ (label ∷ ls')) nodes a b) (layer_form c ls l) takes gives first second
        → ((labels_in c l ≡ []) → TypedNodes c ls' kept takes (after (leaves_layer l) gives)) → TypedNodes c ls' (looped l takes gives first kept) takes (after (leaves_layer l) gives)
    node_typed (Instr-F.Loop t code) takes gives kept h stay = in_loop t code takes gives kept (block_type c t) refl h
    node_typed l takes gives kept h stay = stay refl

  owes : OwesInserting insertion in_blocks c c same_indices
  owes = record {
    context = same_context c;
    made = λ x ls ls' head takes gives first second at fits stay.
        node_typed ls ls' first second (out-Instr head) takes gives (moved_node same_types same_indices (placed insertion x) head takes gives first second ∷ []) fits
        (λ nothing. stay (record { inside = λ label. nothing; around = λ label. refl }));
  }

  pub loops_typed : (ls : List (List Ty)) (nodes : List Node) (start : List Ty) (end : Option (List Ty)) → TypedNodes c ls nodes start end → TypedNodes c ls (rewritten (Insertion.entry insertion) in_blocks nodes []) start end
  loops_typed ls nodes start end typed = inserting_typed insertion in_blocks c c same_indices owes [] ls ls nodes start end (λ l ts e. e) typed
