-- The globals and the offsets of a typed module are typed when they are folded.
use Rattle.std.proofs.Common.{◌≡◌, ℕ, zero, suc, ◌+◌, Bool, true, false, not, ◌&&◌, List, [], ◌∷◌, ◌++◌, map, length, Option, Some, None, refl, sym, ap, ◌∙◌, subst}
use Rattle.std.specs.Prelude.{slice_get}
use Rattle.std.specs.List.{AllByRecursion}
use Rattle.std.proofs.lemmas.List.{append_assoc}
use Rattle.host_kit.specs.Pairwise.{Pairwise}
use Rattle.wasm_ast.specs.Fold.{folded_type, known_at, fold_of, known_globals}
use Rattle.wasm_ast.specs.declared.folding.folded.Folded.{Folded}
use Rattle.wasm_ast.specs.declared.folding.folded.Folded.TheVariants.{I32, I64, Imported}
use Rattle.wasm_ast.specs.declared.module.ty.Ty.{Ty}
use Rattle.wasm_ast.specs.declared.module.ty.Ty.TheVariants as types
use Rattle.wasm_ast.specs.declared.module.op.Op.TheVariants as ops
use Rattle.wasm_ast.specs.declared.module.code.Instr.{Instr}
use Rattle.wasm_ast.specs.declared.module.code.Instr.TheVariants.{Pure, GlobalGet}
use Rattle.wasm_ast.specs.declared.module.parts.Global.{Global}
use Rattle.wasm_ast.specs.declared.module.parts.Module.{Module}
use Rattle.typing_kit.specs.Form.{Flat}
use Rattle.typing_kit.specs.Matching.{known}
use Rattle.typing_kit.specs.Typing.{flat, none, more}
use Rattle.typed_trees.specs.declared.global_type.GlobalType.{GlobalType}
use Rattle.typed_trees.specs.Constants.{is_constant_layer, is_constant, is_fixed, TypedConstant}
use Rattle.typed_trees.specs.Contexts.{Context, is_value_type}
use Rattle.typed_trees.specs.Forms.{layer_form, form, where_some}
use Rattle.typed_trees.specs.Modules.{early_context, global_type, TypedGlobal, TypedGlobals}
use Rattle.typed_trees.proofs.Lawfulness.{matches_self}
use Rattle.pass_plain.specs.Foldable.{is_integer}
use Rattle.pass_plain.specs.Folding.{folded_instr, zero_of, folded_global, folded_globals}
use Rattle.pass_plain.proofs.ConstantFlow.{Flows}
use Rattle.pass_plain.proofs.FoldedGlobals.{out_pure, out_get, one_longer}
use Rattle.pass_plain.proofs.FoldedTypes.{fold_typed}
use Rattle.pass_plain.proofs.KnownGlobals.{fixed, Lies, Told, told_at, type_at}
use Rattle.pass_plain.proofs.MoreContext.{Keeps}

-- what is in front stays there
pub keeps_more : {X : Type 0} (xs ys : List X) → Keeps xs (xs ++ ys)
keeps_more [] ys i x e = let no : ⊥ = cc in absurd no
keeps_more (a ∷ xs) ys zero x e = e
keeps_more (a ∷ xs) ys (suc i) x e = keeps_more xs ys i x e

-- one instruction as a constant expression
single : (c : Context) (i : Instr) (t : Ty) → is_constant c i ≡ true → form c [] i ≡ Flat [] (t ∷ []) → TypedConstant c (i ∷ []) t
single c i t k f = record {
  constant = ap (λ b. b && true) k;
  typed = more [] i [] [] [] [] (known (t ∷ [])) (known (t ∷ [])) (flat [] i [] (t ∷ []) f) tt (none [] (known (t ∷ [])) (known (t ∷ [])) (matches_self t, tt));
}

module _ (imported : List GlobalType) (c : Context) (keeps : Keeps imported c.globals) where
  pub folded_constant : (v : Folded) → Lies imported v → TypedConstant c (folded_instr v ∷ []) (folded_type v)
  folded_constant (I32 n) h = single c (Pure (ops.I32Const n)) types.I32 (ap (is_constant_layer c) (out_pure (ops.I32Const n))) (ap (layer_form c []) (out_pure (ops.I32Const n)))
  folded_constant (I64 n) h = single c (Pure (ops.I64Const n)) types.I64 (ap (is_constant_layer c) (out_pure (ops.I64Const n))) (ap (layer_form c []) (out_pure (ops.I64Const n)))
  folded_constant (Imported j t) h =
      let there : slice_get c.globals j ≡ Some (fixed t) = keeps j (fixed t) h in
      single c (GlobalGet j) t (ap (is_constant_layer c) (out_get j) ∙ ap is_fixed there) (ap (layer_form c []) (out_get j) ∙ ap (λ o. where_some o (λ g. Flat [] (g.ty ∷ []))) there)

zero_constant : (c : Context) (t : Ty) → is_integer t ≡ true → TypedConstant c (zero_of t ∷ []) t
zero_constant c types.I32 h = single c (Pure (ops.I32Const 0)) types.I32 (ap (is_constant_layer c) (out_pure (ops.I32Const 0))) (ap (layer_form c []) (out_pure (ops.I32Const 0)))
zero_constant c types.I64 h = single c (Pure (ops.I64Const 0)) types.I64 (ap (is_constant_layer c) (out_pure (ops.I64Const 0))) (ap (layer_form c []) (out_pure (ops.I64Const 0)))
zero_constant c t h = let no : ⊥ = cc in absurd no

-- what is known of a global in the midst of others
told_here : (imported : List GlobalType) (known : List (Option Folded)) (before rest : List GlobalType) (g : GlobalType) → Pairwise (Told imported) known (before ++ g ∷ rest) → Told imported (known_at known (length before)) g
told_here imported [] [] rest g h = absurd h
told_here imported [] (b ∷ before) rest g h = absurd h
told_here imported (k ∷ known) [] rest g h = h.0
told_here imported (k ∷ known) (b ∷ before) rest g h = told_here imported known before rest g h.1

module _ (imported : List GlobalType) (m o : Module) where
  global_folds : (before : List GlobalType) (g : Global) (k : Option Folded) → Keeps imported before → is_value_type g.ty ≡ true → is_integer g.ty ≡ true → Told imported k (global_type g) → TypedGlobal o before (folded_global g k)
  global_folds before g (Some v) keeps value integer told = record {
    type = value;
    init = subst (TypedConstant (early_context o before) (folded_instr v ∷ [])) told.1 (folded_constant imported (early_context o before) keeps v told.0);
  }
  global_folds before g None keeps value integer told = record { type = value; init = zero_constant (early_context o before) g.ty integer }

  -- The lemma, of globals: those before are any that begin with the imported ones.
  pub globals_fold : (known : List (Option Folded)) (x : ℕ) (before new : List GlobalType) (gs : List Global) → Pairwise (Told imported) known (before ++ map global_type gs) → x ≡ length before → Keeps imported new → AllByRecursion (λ g. is_integer g.ty ≡ true) gs → TypedGlobals m before gs → TypedGlobals o new (folded_globals known x gs)
  globals_fold known x before new [] told at keeps integers typed = tt
  globals_fold known x before new (g ∷ gs) told at keeps integers typed =
      let k = known_at known x in
      let here : Told imported k (global_type g) = subst (λ n. Told imported (known_at known n) (global_type g)) (sym at) (told_here imported known before (map global_type gs) (global_type g) told) in (
        global_folds new g k keeps typed.0.type integers.0 here,
        globals_fold known (x + 1) (before ++ global_type g ∷ []) (new ++ global_type (folded_global g k) ∷ []) gs
            (subst (Pairwise (Told imported) known) (sym (append_assoc before (global_type g ∷ []) (map global_type gs))) told)
            (ap (λ n. n + 1) at ∙ sym (one_longer before (global_type g)))
            (λ i u e. keeps_more new (global_type (folded_global g k) ∷ []) i u (keeps i u e)) integers.1 typed.1,
      )

-- The lemma, of an offset that folds.
pub offset_folds : (imported : List GlobalType) (known : List (Option Folded)) (c c' : Context) → Pairwise (Told imported) known c.globals → Keeps imported c'.globals → (code : List Instr) (t : Ty) (v : Folded) → Flows c code [] (t ∷ []) → fold_of known code ≡ Some v → TypedConstant c' (folded_instr v ∷ []) t
offset_folds imported known c c' told keeps code t v f e =
    let r = fold_typed (Lies imported) (λ n. tt) (λ n. tt) c known (told_at imported known c.globals told) (type_at imported known c.globals told) code t v f e in
    subst (TypedConstant c' (folded_instr v ∷ [])) r.1 (folded_constant imported c' keeps v r.0)
