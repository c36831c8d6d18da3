-- A typed constant expression reads globals of its context alone, and leaves one value.
use Rattle.std.proofs.Common.{◌≡◌, ℕ, Bool, true, false, suc, ◌+◌, ◌<◌, List, [], ◌∷◌, ◌++◌, length, Option, Some, None, option_map, refl, sym, ap, ◌∙◌, arith}
use Rattle.std.specs.Prelude.{slice_get}
use Rattle.std.specs.List.{AllByRecursion}
use Rattle.std.proofs.lemmas.List.{length-append}
use Rattle.num_core.specs.declared.operators.Bin.TheVariants as bins
use Rattle.wasm_ast.specs.Marking.{is_marked}
use Rattle.wasm_ast.specs.declared.module.ty.Ty.{Ty}
use Rattle.wasm_ast.specs.declared.module.ty.Ty.TheVariants as types
use Rattle.wasm_ast.specs.declared.module.op.Op.{Op}
use Rattle.wasm_ast.specs.declared.module.op.Op.TheVariants as ops
use Rattle.wasm_ast.specs.declared.module.code.Instr.{Instr, out-Instr}
use Rattle.wasm_ast.specs.declared.module.code.Instr.TheOpen.{Instr-F}
use Rattle.typing_kit.specs.Form.{Flat}
use Rattle.typed_trees.specs.declared.global_type.GlobalType.{GlobalType}
use Rattle.typed_trees.specs.Contexts.{Context, is_reference_type}
use Rattle.typed_trees.specs.Operands.{int_type}
use Rattle.typed_trees.specs.Constants.{is_constant_op, is_constant_layer, is_fixed}
use Rattle.typed_trees.specs.Forms.{op_form, layer_form, where_some, where_true}
use Rattle.evaluation_kit.specs.Leaves.{below}
use Rattle.meaning_new.specs.declared.val.Val.{Val}
use Rattle.meaning_new.specs.Store.{missing}
use Rattle.meaning_new.specs.Numeric.{pure}
use Rattle.meaning_new.specs.Instances.{or_same, constant_step, constant_steps}
use Rattle.stage_kit.proofs.TypedCode.{got}
use Rattle.pass_plain.specs.Constants.{Reads, IsSettable, LeavesOne}
use Rattle.pass_plain.proofs.ConstantFlow.{flat_form, Flows}

module _ (c : Context) where
  fixed_there : (x : ℕ) (o : Option GlobalType) → slice_get c.globals x ≡ o → is_fixed o ≡ true → x < length c.globals
  fixed_there x None e h = let no : ⊥ = cc in absurd no
  fixed_there x (Some g) e h = got c.globals x g e

  layer_reads : (l : Instr-F Instr) → is_constant_layer c l ≡ true → Reads (length c.globals) l
  layer_reads (Instr-F.Pure op) h = h
  layer_reads (Instr-F.GlobalGet x) h = fixed_there x (slice_get c.globals x) refl h
  layer_reads l h = let no : ⊥ = cc in absurd no

  pub flow_reads : (code : List Instr) (s t : List Ty) → Flows c code s t → IsSettable (length c.globals) code
  flow_reads [] s t f = tt
  flow_reads (i ∷ code) s t f = (layer_reads (out-Instr i) f.5, flow_reads code (f.0 ++ f.2) t f.6)

  -- how many operands there are
  module _ (globals : List Val) (n : ℕ) where
    one_more : (t : Ty) (a b : List Ty) (v : Val) (vs : List Val) → flat_form [] (t ∷ []) ≡ Flat a b → length vs ≡ n + length a → suc (length vs) ≡ n + length b
    one_more t a b v vs f h =
        let nothing : [] ≡ a = cc in
        let one : t ∷ [] ≡ b = cc in
        let before : 0 ≡ length a = ap length nothing in
        let after : 1 ≡ length b = ap length one in
        omega (arith, before, after, h)

    one_for_two : (t : Ty) (a b : List Ty) (vs : List Val) → flat_form (t ∷ (t ∷ [])) (t ∷ []) ≡ Flat a b → length vs ≡ n + length a → suc (length (below (below vs))) ≡ n + length b
    one_for_two t a b vs f h =
        let two : t ∷ (t ∷ []) ≡ a = cc in
        let one : t ∷ [] ≡ b = cc in
        let before : 2 ≡ length a = ap length two in
        let after : 1 ≡ length b = ap length one in
        by vs (h ∙ ap (λ k. n + k) (sym before)) ∙ ap (λ k. n + k) after
      where
        by : (us : List Val) → length us ≡ n + 2 → suc (length (below (below us))) ≡ n + 1
        by [] e = let no : ⊥ = omega (arith, e) in absurd no
        by (u ∷ []) e = let no : ⊥ = omega (arith, e) in absurd no
        by (u ∷ (w ∷ us)) e = omega (arith, e)

    flat_where : (a b a' b' : List Ty) (q : Bool) → where_true q (Flat a b) ≡ Flat a' b' → flat_form a b ≡ Flat a' b'
    flat_where a b a' b' true e = e
    flat_where a b a' b' false e = let no : ⊥ = cc in absurd no

    func_where : (o : Option ℕ) (q : Bool) (a b : List Ty) → where_some o (λ t. where_true q (Flat [] (types.Func ∷ []))) ≡ Flat a b → flat_form [] (types.Func ∷ []) ≡ Flat a b
    func_where None q a b e = let no : ⊥ = cc in absurd no
    func_where (Some t) q a b e = flat_where [] (types.Func ∷ []) a b q e

    op_counts : (op : Op) (a b : List Ty) (vs : List Val) → is_constant_op op ≡ true → op_form c op ≡ Flat a b → length vs ≡ n + length a → length (or_same vs (pure op vs)) ≡ n + length b
    op_counts (ops.I32Const i) a b vs k f h = one_more types.I32 a b missing vs f h
    op_counts (ops.I64Const i) a b vs k f h = one_more types.I64 a b missing vs f h
    op_counts (ops.V128Const v) a b vs k f h = one_more types.V128 a b missing vs f h
    op_counts (ops.RefNull t) a b vs k f h = one_more t a b missing vs (flat_where [] (t ∷ []) a b (is_reference_type t) f) h
    op_counts (ops.RefFunc x) a b vs k f h = one_more types.Func a b missing vs (func_where (slice_get c.funcs x) (is_marked c.refs x) a b f) h
    op_counts (ops.Binary w bins.Add) a b vs k f h = one_for_two (int_type w) a b vs f h
    op_counts (ops.Binary w bins.Sub) a b vs k f h = one_for_two (int_type w) a b vs f h
    op_counts (ops.Binary w bins.Mul) a b vs k f h = one_for_two (int_type w) a b vs f h
    op_counts op a b vs k f h = let no : ⊥ = cc in absurd no

    get_counts : (o : Option GlobalType) (a b : List Ty) (v : Val) (vs : List Val) → where_some o (λ g. Flat [] (g.ty ∷ [])) ≡ Flat a b → length vs ≡ n + length a → suc (length vs) ≡ n + length b
    get_counts None a b v vs f h = let no : ⊥ = cc in absurd no
    get_counts (Some g) a b v vs f h = one_more g.ty a b v vs f h

    layer_counts : (l : Instr-F Instr) (a b : List Ty) (vs : List Val) → is_constant_layer c l ≡ true → layer_form c [] l ≡ Flat a b → length vs ≡ n + length a → length (constant_step globals l vs) ≡ n + length b
    layer_counts (Instr-F.Pure op) a b vs k f h = op_counts op a b vs k f h
    layer_counts (Instr-F.GlobalGet x) a b vs k f h = get_counts (slice_get c.globals x) a b missing vs f h
    layer_counts l a b vs k f h = let no : ⊥ = cc in absurd no

  flow_counts : (globals : List Val) (code : List Instr) (s t : List Ty) (vs : List Val) → Flows c code s t → length vs ≡ length s → length (constant_steps globals code vs) ≡ length t
  flow_counts globals [] s t vs f h = h ∙ ap length f
  flow_counts globals (i ∷ code) s t vs f h =
      let before : length vs ≡ length f.0 + length f.1 = h ∙ ap length f.3 ∙ length-append f.0 f.1 in
      flow_counts globals code (f.0 ++ f.2) t (constant_step globals (out-Instr i) vs) f.6
      (layer_counts globals (length f.0) (out-Instr i) f.1 f.2 vs f.5 f.4 before ∙ sym (length-append f.0 f.2))

  only_one : (l : List Val) → length l ≡ 1 → below l ≡ []
  only_one [] e = let no : ⊥ = omega (arith, e) in absurd no
  only_one (v ∷ []) e = refl
  only_one (v ∷ (w ∷ l)) e = let no : ⊥ = omega (arith, e) in absurd no

  pub flow_leaves_one : (code : List Instr) (t : Ty) → Flows c code [] (t ∷ []) → LeavesOne code
  flow_leaves_one code t f globals = only_one (constant_steps globals code []) (flow_counts globals code [] (t ∷ []) [] f refl)
