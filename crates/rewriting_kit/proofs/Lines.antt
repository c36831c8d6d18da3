-- A line of instructions without bodies is typed where each of them is.
use Rattle.std.proofs.Common.{◌≡◌, List, [], ◌∷◌, ◌++◌, option_map, Some, refl, sym, ap, ◌∙◌, subst}
use Rattle.wasm_ast.specs.declared.module.ty.Ty.{Ty}
use Rattle.wasm_ast.specs.declared.module.op.Op.{Op}
use Rattle.wasm_ast.specs.declared.module.code.Instr.{out-Instr, out-roll-Instr}
use Rattle.wasm_ast.specs.declared.module.code.Instr.TheOpen.{Instr-F}
use Rattle.wasm_ast.specs.declared.module.code.Instr.TheVariants.{Pure, rolls-Pure}
use Rattle.typing_kit.specs.Form.{Flat, Block, Choice}
use Rattle.typing_kit.specs.Leaf.{FitsLeaf}
use Rattle.typed_trees.specs.Contexts.{Context}
use Rattle.typed_trees.specs.Forms.{InstrForm, form, layer_form, op_form, language}
use Rattle.typed_trees.specs.Trees.{leaves, leaves_layer, TypedNodes, none}
use Rattle.rewriting_kit.specs.Rewrites.{node_of}
use Rattle.rewriting_kit.specs.Fitting.{Here, Fits, after}
use Rattle.rewriting_kit.specs.Lines.{Written, written, Line, Operator, operators, OperatorLine}
use Rattle.rewriting_kit.proofs.Joining.{over, join}
use Rattle.rewriting_kit.proofs.Staying.{put_together}

-- an instruction on operands alone that is built
pub out_pure : (op : Op) → out-Instr (Pure op) ≡ Instr-F.Pure op
out_pure op = ap out-Instr (sym (rolls-Pure op)) ∙ out-roll-Instr (Instr-F.Pure op)

module _ (c : Context) (ls : List (List Ty)) where
  -- a form without bodies
  leaf_fits : (f : InstrForm) (takes gives : List Ty) → FitsLeaf (language c) f takes gives → Fits c (Here c ls) f takes gives [] []
  leaf_fits (Block label a b code) takes gives h = absurd h
  leaf_fits (Choice label a b code other) takes gives h = absurd h
  leaf_fits f takes gives h = (h, refl, refl)

  pub line_typed : (line : List Written) (start end : List Ty) → Line c ls line start end → TypedNodes c ls (written line) start (Some end)
  line_typed [] start end e = subst (λ s. TypedNodes c ls [] start (Some s)) e (none c ls start)
  line_typed (w ∷ line) start end (below, is, fits, stays, rest) =
      subst (λ s. TypedNodes c ls (written (w ∷ line)) s (Some end)) (sym is)
      (join c ls (node_of w.head w.takes w.gives [] [] ∷ []) (written line) (below ++ w.takes) (below ++ w.gives) (Some end) (option_map (λ s. below ++ s) (after (leaves w.head) w.gives))
      (over c ls below (node_of w.head w.takes w.gives [] [] ∷ []) w.takes (after (leaves w.head) w.gives) (put_together c ls w.head w.takes w.gives [] [] (leaf_fits (form c ls w.head) w.takes w.gives fits)))
      (ap (λ b. option_map (λ s. below ++ s) (after b w.gives)) stays)
      (line_typed line (below ++ w.gives) end rest))

  operator_fits : (op : Op) (takes gives : List Ty) → op_form c op ≡ Flat takes gives → FitsLeaf (language c) (form c ls (Pure op)) takes gives
  operator_fits op takes gives e = subst (λ f. FitsLeaf (language c) f takes gives) (sym (ap (layer_form c ls) (out_pure op) ∙ e)) (refl, refl)

  operator_line : (line : List Operator) (start end : List Ty) → OperatorLine c line start end → Line c ls (operators line) start end
  operator_line [] start end e = e
  operator_line (o ∷ line) start end (below, is, f, rest) = (below, is, operator_fits o.op o.takes o.gives f, ap leaves_layer (out_pure o.op), operator_line line (below ++ o.gives) end rest)

  -- one of instructions on operands
  pub operators_typed : (line : List Operator) (start end : List Ty) → OperatorLine c line start end → TypedNodes c ls (written (operators line)) start (Some end)
  operators_typed line start end h = line_typed (operators line) start end (operator_line line start end h)
