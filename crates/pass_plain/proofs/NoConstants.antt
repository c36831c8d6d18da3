-- No constant expression that computes is left.
use Rattle.std.proofs.Common.{◌≡◌, ℕ, ◌+◌, ◌<◌, true, false, not, ◌||◌, List, [], ◌∷◌, ◌++◌, map, length, Option, Some, None, refl, sym, ap, ◌∙◌, subst}
use Rattle.std.specs.Prelude.{filter_map}
use Rattle.std.specs.List.{AllByRecursion, list_any}
use Rattle.std.proofs.lemmas.Bool.{lt-ltb}
use Rattle.std.proofs.lemmas.List.{length-map}
use Rattle.host_kit.specs.Pairwise.{Pairwise}
use Rattle.wasm_ast.specs.Fold.{fold_of, known_at, known_imports, known_globals, with_own, of_type}
use Rattle.wasm_ast.specs.Has.{has_of, is_simple, is_one_simple, has_simple_offset}
use Rattle.wasm_ast.specs.Occurrence.{head}
use Rattle.wasm_ast.specs.Spaces.{is_global, imported, global_import}
use Rattle.wasm_ast.specs.declared.features.kind.Feature.TheVariants as features
use Rattle.wasm_ast.specs.declared.folding.folded.Folded.{Folded}
use Rattle.wasm_ast.specs.declared.folding.folded.Folded.TheVariants.{I32, I64, Imported}
use Rattle.wasm_ast.specs.declared.module.code.Instr.{Instr}
use Rattle.wasm_ast.specs.declared.module.op.Op.TheVariants as ops
use Rattle.wasm_ast.specs.declared.module.parts.Element.{Element}
use Rattle.wasm_ast.specs.declared.module.parts.Global.{Global}
use Rattle.wasm_ast.specs.declared.module.parts.Mode.{Mode}
use Rattle.wasm_ast.specs.declared.module.parts.Mode.TheVariants.{Active, Passive, Declarative}
use Rattle.wasm_ast.specs.declared.module.parts.Module.{Module}
use Rattle.wasm_ast.specs.declared.module.parts.Segment.{Segment}
use Rattle.wasm_ast.specs.declared.module.ty.Ty.{Ty}
use Rattle.wasm_ast.specs.declared.module.ty.Ty.TheVariants as types
use Rattle.meaning_new.specs.declared.val.Val.{Val}
use Rattle.meaning_new.specs.Store.{missing}
use Rattle.meaning_new.specs.Instances.{constant, with_globals}
use Rattle.pass_plain.specs.Constants.{IsWithin, Tells, CodeInRange, ModeInRange, ModeFolds, HasConstants}
use Rattle.pass_plain.specs.Folding.{folded_instr, folded_code, folded_mode, folded_elem, folded_data, zero_of, folded_global, folded_globals, folded_part, setting_code, started, without_constants}
use Rattle.pass_plain.proofs.FoldedValues.{fold_gives}
use Rattle.pass_plain.proofs.FoldedGlobals.{out_pure, out_get, imports_tell, inputs_tell, known_here, own_tells, pairs_append, pairs_count, one_longer}
use Rattle.pass_plain.proofs.ConstantStart.{imports_counted}
use Rattle.pass_plain.proofs.NothingNew.{both_none}

module _ (imports : List Val) (count : ℕ) (counted : length imports ≡ count) where
  -- the instruction to which an expression folds, and a zero, compute nothing
  folded_simple : (v : Folded) → IsWithin imports v → is_one_simple count (folded_instr v ∷ []) ≡ true
  folded_simple (I32 n) h = ap (λ l. is_simple count (head l)) (out_pure (ops.I32Const n))
  folded_simple (I64 n) h = ap (λ l. is_simple count (head l)) (out_pure (ops.I64Const n))
  folded_simple (Imported j t) h = ap (λ l. is_simple count (head l)) (out_get j) ∙ lt-ltb j count (subst (λ n. j < n) counted h)

  zero_simple : (t : Ty) → is_one_simple count (zero_of t ∷ []) ≡ true
  zero_simple types.I64 = ap (λ l. is_simple count (head l)) (out_pure (ops.I64Const 0))
  zero_simple t = ap (λ l. is_simple count (head l)) (out_pure (ops.I32Const 0))

  global_simple : (g : Global) (k : Option Folded) (value : Val) → Tells imports k value → is_one_simple count (folded_global g k).init ≡ true
  global_simple g (Some v) value t = folded_simple v t.0
  global_simple g None value t = zero_simple g.ty

  -- each global, by what is known of those before it
  globals_simple : (all known : List (Option Folded)) (before : List Val) (gs : List Global) (x : ℕ) → with_own known gs ≡ all → x ≡ length known → AllByRecursion (λ g. CodeInRange g.init) gs → Pairwise (Tells imports) known before → list_any (λ g. not (is_one_simple count g.init)) (folded_globals all x gs) ≡ false
  globals_simple all known before [] x e c r t = refl
  globals_simple all known before (g ∷ gs) x e c r t =
      let k = of_type g.ty (fold_of known g.init) in
      let u = constant before g.init in
      let own : Tells imports k u = own_tells imports known before g r.0 t in
      let here : known_at all x ≡ k = ap (known_at all) c ∙ known_here known all g gs e in
      both_none (not (is_one_simple count (folded_global g (known_at all x)).init)) (list_any (λ i. not (is_one_simple count i.init)) (folded_globals all (x + 1) gs))
      (ap not (global_simple g (known_at all x) u (subst (λ i. Tells imports i u) (sym here) own)))
      (globals_simple all (known ++ k ∷ []) (before ++ u ∷ []) gs (x + 1) e (ap (λ n. n + 1) c ∙ sym (one_longer known k)) r.1 (pairs_append (Tells imports) known before k u t own))

  -- offsets
  module _ (known : List (Option Folded)) (globals : List Val) (tells : Pairwise (Tells imports) known globals) where
    mode_simple : (mode : Mode) → ModeInRange mode → ModeFolds known mode → has_simple_offset count (folded_mode known mode) ≡ true
    mode_simple (Active x offset) r f =
        let g = fold_gives imports known globals tells offset f.0 r f.1 in
        ap (λ o. is_one_simple count (folded_code offset o)) f.1 ∙ folded_simple f.0 g.0
    mode_simple Passive r f = refl
    mode_simple Declarative r f = refl

    elems_simple : (es : List Element) → AllByRecursion (λ e. ModeInRange e.mode) es → AllByRecursion (λ e. ModeFolds known e.mode) es → list_any (λ e. not (has_simple_offset count e.mode)) (map (folded_elem known) es) ≡ false
    elems_simple [] r f = refl
    elems_simple (e ∷ es) r f =
        both_none (not (has_simple_offset count (folded_mode known e.mode))) (list_any (λ i. not (has_simple_offset count i.mode)) (map (folded_elem known) es)) (ap not (mode_simple e.mode r.0 f.0)) (elems_simple es r.1 f.1)

    datas_simple : (ds : List Segment) → AllByRecursion (λ d. ModeInRange d.mode) ds → AllByRecursion (λ d. ModeFolds known d.mode) ds → list_any (λ d. not (has_simple_offset count d.mode)) (map (folded_data known) ds) ≡ false
    datas_simple [] r f = refl
    datas_simple (d ∷ ds) r f =
        both_none (not (has_simple_offset count (folded_mode known d.mode))) (list_any (λ i. not (has_simple_offset count i.mode)) (map (folded_data known) ds)) (ap not (mode_simple d.mode r.0 f.0)) (datas_simple ds r.1 f.1)

module _ (m : Module) (h : HasConstants m) where
  abbrev types_of : List Ty
  types_of = filter_map (λ i. global_import i.desc) m.imports

  -- any values of the imported globals will do
  abbrev some_values : List Val
  some_values = map (λ t. missing) types_of

  values_counted : length some_values ≡ imported is_global m
  values_counted = length-map types_of (λ t. missing) ∙ imports_counted m.imports

  base : Pairwise (Tells some_values) (known_imports types_of) some_values
  base = imports_tell [] some_values types_of (sym (length-map types_of (λ t. missing)))

  tells : Pairwise (Tells some_values) (known_globals m) (with_globals m.globals some_values)
  tells = inputs_tell some_values (known_imports types_of) some_values m.globals h.ranges base

  known_counted : imported is_global m ≡ length (known_imports types_of)
  known_counted = sym values_counted ∙ sym (pairs_count (Tells some_values) (known_imports types_of) some_values base)

  all_simple : has_of (folded_part m) features.Constants ≡ false
  all_simple =
      let count = imported is_global m in
      let known = known_globals m in
      both_none (list_any (λ g. not (is_one_simple count g.init)) (folded_globals known count m.globals) || list_any (λ e. not (has_simple_offset count e.mode)) (map (folded_elem known) m.elems)) (list_any (λ d. not (has_simple_offset count d.mode)) (map (folded_data known) m.datas))
      (both_none (list_any (λ g. not (is_one_simple count g.init)) (folded_globals known count m.globals)) (list_any (λ e. not (has_simple_offset count e.mode)) (map (folded_elem known) m.elems))
      (globals_simple some_values count values_counted known (known_imports types_of) some_values m.globals count refl known_counted h.ranges base)
      (elems_simple some_values count values_counted known (with_globals m.globals some_values) tells m.elems h.elem_ranges h.elem_offsets))
      (datas_simple some_values count values_counted known (with_globals m.globals some_values) tells m.datas h.data_ranges h.data_offsets)

  by_code : (code : List Instr) → has_of (started m code) features.Constants ≡ false
  by_code [] = all_simple
  by_code (i ∷ code) = all_simple

  -- The lemma.
  pub no_constants : has_of (without_constants m) features.Constants ≡ false
  no_constants = by_code (setting_code m)
