-- What an arm of the code makes is what the instruction becomes.
use Rattle.std.proofs.Common.{◌≡◌, ℕ, false, List, refl, sym, ap, ◌∙◌}
use Rattle.wasm_ast.specs.declared.module.ty.BlockType.{BlockType}
use Rattle.wasm_ast.specs.declared.module.code.Instr.{Instr, out-Instr}
use Rattle.wasm_ast.specs.declared.module.code.Instr.TheOpen.{Instr-F}
use Rattle.wasm_ast.specs.declared.module.code.Instr.TheVariants as instrs
use Rattle.wasm_ast.specs.declared.module.code.Instr.TheViews as views
use Rattle.core1_ast.specs.declared.module.ty.BlockType1.{BlockType1}
use Rattle.core1_ast.specs.declared.module.code.Instr1.{Instr1, roll-Instr1}
use Rattle.core1_ast.specs.declared.module.code.Instr1.TheOpen.{Instr1-F}
use Rattle.core1_ast.specs.declared.module.code.Instr1.TheVariants as instrs1
use Rattle.crossing.specs.Code.{cross_block}
use Rattle.pass_cross.specs.Code.{cross_leaf, cross_with, holds}

rolled_block : (b : BlockType1) (code : List Instr1) → instrs1.Block b code ≡ roll-Instr1 (Instr1-F.Block b code)
unfolding roll-Instr1 denote.Hole.Carrier.roll
rolled_block b code = refl

rolled_loop : (b : BlockType1) (code : List Instr1) → instrs1.Loop b code ≡ roll-Instr1 (Instr1-F.Loop b code)
unfolding roll-Instr1 denote.Hole.Carrier.roll
rolled_loop b code = refl

rolled_if : (b : BlockType1) (first second : List Instr1) → instrs1.If b first second ≡ roll-Instr1 (Instr1-F.If b first second)
unfolding roll-Instr1 denote.Hole.Carrier.roll
rolled_if b first second = refl

rolled_table : (labels : List ℕ) (last : ℕ) → instrs1.BrTable labels last ≡ roll-Instr1 (Instr1-F.BrTable labels last)
unfolding roll-Instr1 denote.Hole.Carrier.roll
rolled_table labels last = refl

module _ (i : Instr) (a b : List Instr1) where
  abbrev Whole : Instr1
  Whole = roll-Instr1 (cross_with (out-Instr i) a b)

  laid : (l : Instr-F Instr) → out-Instr i ≡ l → Whole ≡ roll-Instr1 (cross_with l a b)
  laid l e = ap (λ l. roll-Instr1 (cross_with l a b)) e

  pub block_arm : (t : BlockType) (code : List Instr) (t1 : BlockType1) (first : List Instr1) (out : Instr1) → i ≡ instrs.Block t code → t1 ≡ cross_block t → first ≡ a → out ≡ instrs1.Block t1 first → out ≡ Whole
  block_arm t code t1 first out e q r o =
      o ∙ rolled_block t1 first ∙ ap (λ x. roll-Instr1 (Instr1-F.Block x first)) q ∙ ap (λ x. roll-Instr1 (Instr1-F.Block (cross_block t) x)) r
      ∙ sym (laid (Instr-F.Block t code) (ap out-Instr e ∙ views.outs-Block t code))

  pub loop_arm : (t : BlockType) (code : List Instr) (t1 : BlockType1) (first : List Instr1) (out : Instr1) → i ≡ instrs.Loop t code → t1 ≡ cross_block t → first ≡ a → out ≡ instrs1.Loop t1 first → out ≡ Whole
  loop_arm t code t1 first out e q r o =
      o ∙ rolled_loop t1 first ∙ ap (λ x. roll-Instr1 (Instr1-F.Loop x first)) q ∙ ap (λ x. roll-Instr1 (Instr1-F.Loop (cross_block t) x)) r
      ∙ sym (laid (Instr-F.Loop t code) (ap out-Instr e ∙ views.outs-Loop t code))

  pub if_arm : (t : BlockType) (code other : List Instr) (t1 : BlockType1) (first second : List Instr1) (out : Instr1) → i ≡ instrs.If t code other → t1 ≡ cross_block t → first ≡ a → second ≡ b → out ≡ instrs1.If t1 first second → out ≡ Whole
  if_arm t code other t1 first second out e q r s o =
      o ∙ rolled_if t1 first second ∙ ap (λ x. roll-Instr1 (Instr1-F.If x first second)) q ∙ ap (λ x. roll-Instr1 (Instr1-F.If (cross_block t) x second)) r ∙ ap (λ x. roll-Instr1 (Instr1-F.If (cross_block t) a x)) s
      ∙ sym (laid (Instr-F.If t code other) (ap out-Instr e ∙ views.outs-If t code other))

  pub table_arm : (labels : List ℕ) (last : ℕ) (copy : List ℕ) (out : Instr1) → i ≡ instrs.BrTable labels last → copy ≡ labels → out ≡ instrs1.BrTable copy last → out ≡ Whole
  table_arm labels last copy out e q o =
      o ∙ rolled_table copy last ∙ ap (λ x. roll-Instr1 (Instr1-F.BrTable x last)) q ∙ sym (laid (Instr-F.BrTable labels last) (ap out-Instr e ∙ views.outs-BrTable labels last))

  leaf_with : (l : Instr-F Instr) → holds l ≡ false → cross_with l a b ≡ cross_leaf l
  leaf_with (Instr-F.Block t code) h = absurd cc
  leaf_with (Instr-F.Loop t code) h = absurd cc
  leaf_with (Instr-F.If t code other) h = absurd cc
  leaf_with (Instr-F.BrTable labels last) h = absurd cc
  leaf_with l h = refl

  pub leaf_arm : (out : Instr1) → holds (out-Instr i) ≡ false → out ≡ roll-Instr1 (cross_leaf (out-Instr i)) → out ≡ Whole
  leaf_arm out h o = o ∙ ap roll-Instr1 (sym (leaf_with (out-Instr i) h))
