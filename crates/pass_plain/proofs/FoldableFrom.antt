-- A typed module that may stand before the stage, which takes it, stays typed without constant expressions that compute.
use Rattle.std.proofs.Common.{◌≡◌, ℕ, zero, suc, ◌+◌, ◌<◌, ◌≤◌, Bool, true, false, not, ◌&&◌, ◌||◌, List, [], ◌∷◌, ◌++◌, map, length, filter_map, Option, Some, None, refl, sym, ap, ◌∙◌, subst, arith}
use Rattle.std.specs.Prelude.{slice_get, nat_eq, nat_le, count_by, cond, is_some}
use Rattle.std.specs.List.{AllByRecursion, list_any, list_all, cons_option}
use Rattle.std.proofs.Math.Numerals.{one-add}
use Rattle.std.proofs.lemmas.Bool.{eqb-true}
use Rattle.std.proofs.lemmas.List.{length-append, length-map}
use Rattle.std.proofs.lemmas.List.Recursion.{is_count_by}
use Rattle.wasm_ast.specs.Features.{type_shows, shows, is_vector, is_reference}
use Rattle.wasm_ast.specs.Fold.{fold_of, known_globals}
use Rattle.wasm_ast.specs.Has.{has_of, is_mutable_global, is_wide_type, is_wide_global, imports_some, exports_wide_global}
use Rattle.wasm_ast.specs.Kept.{has_one_plain_table, is_plain_import, is_plain_table, is_plain_element, is_plain_offset, fits_mode, entry_func, keeps_table, uses_table, exports_table}
use Rattle.wasm_ast.specs.Outside.{outside_features}
use Rattle.wasm_ast.specs.Places.{anywhere, declares, holds, func_type_shows, global_import_shows}
use Rattle.wasm_ast.specs.Region.{is_known_offset, has_known_offset, has_computed_offset, moves_tables}
use Rattle.wasm_ast.specs.Spaces.{is_table, is_tag, imported, memory_count, table_count}
use Rattle.wasm_ast.specs.declared.features.kind.Feature.{Feature}
use Rattle.wasm_ast.specs.declared.features.kind.Feature.TheVariants as features
use Rattle.wasm_ast.specs.declared.folding.folded.Folded.{Folded}
use Rattle.wasm_ast.specs.declared.module.ty.Ty.{Ty}
use Rattle.wasm_ast.specs.declared.module.ty.Ty.TheVariants as types
use Rattle.wasm_ast.specs.declared.module.parts.Element.{Element}
use Rattle.wasm_ast.specs.declared.module.parts.Global.{Global}
use Rattle.wasm_ast.specs.declared.module.parts.Import.{Import}
use Rattle.wasm_ast.specs.declared.module.parts.ImportDesc.{ImportDesc}
use Rattle.wasm_ast.specs.declared.module.parts.ImportDesc.TheVariants as imports
use Rattle.wasm_ast.specs.declared.module.parts.Mode.{Mode}
use Rattle.wasm_ast.specs.declared.module.parts.Mode.TheVariants.{Active, Passive, Declarative}
use Rattle.wasm_ast.specs.declared.module.parts.Segment.{Segment}
use Rattle.wasm_ast.specs.declared.module.parts.Module.{Module}
use Rattle.typed_trees.specs.declared.global_type.GlobalType.{GlobalType}
use Rattle.typed_trees.specs.Contexts.{is_value_type}
use Rattle.typed_trees.specs.Modules.{table_import, imported_of, global_import, global_type, all_tables, TypedImport, TypedGlobals, TypedElement, TypedElementMode, TypedParts}
use Rattle.pass_law.specs.Needs.{needs_of, exports_computed}
use Rattle.pass_law.specs.Stages.{Stage, needs_stage_region, any_from, is_copied_data}
use Rattle.pass_law.specs.ThenLawful.{and_left, and_right}
use Rattle.pass_plain.specs.Constants.{ModeFolds}
use Rattle.pass_plain.specs.ConstantPlan.{gone_before, takes_constants}
use Rattle.pass_plain.specs.Foldable.{is_integer, Foldable}

or_left : (a b : Bool) → (a || b) ≡ false → a ≡ false
or_left true b h = let no : ⊥ = cc in absurd no
or_left false b h = refl

or_right : (a b : Bool) → (a || b) ≡ false → b ≡ false
or_right true b h = let no : ⊥ = cc in absurd no
or_right false b h = h

off : (b : Bool) → not b ≡ true → b ≡ false
off true h = let no : ⊥ = cc in absurd no
off false h = refl

on : (b : Bool) → not b ≡ false → b ≡ true
on true h = refl
on false h = let no : ⊥ = cc in absurd no

none_any : {X : Type 0} (p : X → Bool) (xs : List X) → list_any p xs ≡ false → AllByRecursion (λ x. p x ≡ false) xs
none_any p [] h = tt
none_any p (x ∷ xs) h = (or_left (p x) (list_any p xs) h, none_any p xs (or_right (p x) (list_any p xs) h))

each_all : {X : Type 0} (p : X → Bool) (xs : List X) → list_all p xs ≡ true → AllByRecursion (λ x. p x ≡ true) xs
each_all p [] h = tt
each_all p (x ∷ xs) h = (and_left (p x) (list_all p xs) h, each_all p xs (and_right (p x) (list_all p xs) h))

-- value types that are neither vectors nor references
narrow_integer : (t : Ty) → is_value_type t ≡ true → is_wide_type t ≡ false → is_integer t ≡ true
narrow_integer types.I32 v h = refl
narrow_integer types.I64 v h = refl
narrow_integer t v h = let no : ⊥ = cc in absurd no

shown_integer : (t : Ty) → is_value_type t ≡ true → type_shows features.Simd t ≡ false → type_shows features.Refs t ≡ false → type_shows features.Exceptions t ≡ false → is_integer t ≡ true
unfolding type_shows
shown_integer types.I32 v a b c = refl
shown_integer types.I64 v a b c = refl
shown_integer t v a b c = let no : ⊥ = cc in absurd no

import_integers : (m : Module) (is : List Import) → AllByRecursion (λ i. TypedImport m i.desc) is → AllByRecursion (λ i. is_wide_global i.desc ≡ false) is → AllByRecursion (λ g. is_integer g.ty ≡ true) (filter_map (λ i. global_import i.desc) is)
import_integers m [] v h = tt
import_integers m (i ∷ is) v h = one _ i.desc v.0 h.0 (import_integers m is v.1 h.1)
  where
    one : (gs : List GlobalType) (d : ImportDesc) → TypedImport m d → is_wide_global d ≡ false → AllByRecursion (λ g. is_integer g.ty ≡ true) gs → AllByRecursion (λ g. is_integer g.ty ≡ true) (cons_option (global_import d) gs)
    one gs (imports.Global t mutable) v h r = (narrow_integer t v h, r)
    one gs (imports.Func t) v h r = r
    one gs (imports.Table t l) v h r = r
    one gs (imports.Memory l) v h r = r
    one gs (imports.Tag t) v h r = r

own_integers : (m : Module) (before : List GlobalType) (gs : List Global) → TypedGlobals m before gs → AllByRecursion (λ g. type_shows features.Simd g.ty ≡ false) gs → AllByRecursion (λ g. type_shows features.Refs g.ty ≡ false) gs → AllByRecursion (λ g. type_shows features.Exceptions g.ty ≡ false) gs → AllByRecursion (λ g. is_integer g.ty ≡ true) gs
own_integers m before [] t a b c = tt
own_integers m before (g ∷ gs) t a b c = (shown_integer g.ty t.0.type a.0 b.0 c.0, own_integers m (before ++ global_type g ∷ []) gs t.1 a.1 b.1 c.1)

-- offsets that are known fold
known_folds : (o : Option Folded) → is_known_offset o ≡ true → (v : Folded) × (o ≡ Some v)
known_folds None h = let no : ⊥ = cc in absurd no
known_folds (Some v) h = (v, refl)

plain_folds : (o : Option Folded) → is_plain_offset o ≡ true → (v : Folded) × (o ≡ Some v)
plain_folds None h = let no : ⊥ = cc in absurd no
plain_folds (Some v) h = (v, refl)

datas_fold : (known : List (Option Folded)) (ds : List Segment) → AllByRecursion (λ d. not (has_known_offset known d.mode) ≡ false) ds → AllByRecursion (λ d. ModeFolds known d.mode) ds
datas_fold known [] h = tt
datas_fold known (d ∷ ds) h = (one d.mode (on (has_known_offset known d.mode) h.0), datas_fold known ds h.1)
  where
    one : (mode : Mode) → has_known_offset known mode ≡ true → ModeFolds known mode
    one (Active x offset) h = known_folds (fold_of known offset) h
    one Passive h = tt
    one Declarative h = tt

-- the only table has the number zero
alone : (ts : List Ty) (x : ℕ) (t : Ty) → length ts ≤ 1 → slice_get ts x ≡ Some t → nat_eq x 0 ≡ true
alone [] x t h e = let no : ⊥ = cc in absurd no
alone (u ∷ ts) zero t h e = refl
alone (u ∷ []) (suc x) t h e = let no : ⊥ = cc in absurd no
alone (u ∷ (w ∷ ts)) (suc x) t h e = let no : ⊥ = omega (arith, h) in absurd no

zero_of_both : (q a b : Bool) → q ≡ true → (not q || (a && b)) ≡ true → a ≡ true
zero_of_both true a b e h = and_left a b h
zero_of_both false a b e h = let no : ⊥ = cc in absurd no

elems_fold : (m : Module) (known : List (Option Folded)) → length (all_tables m) ≤ 1 → (es : List Element) → AllByRecursion (TypedElement m) es → AllByRecursion (λ e. is_plain_element known e ≡ true) es → AllByRecursion (λ e. ModeFolds known e.mode) es
elems_fold m known one_table [] t h = tt
elems_fold m known one_table (e ∷ es) t h = (one e.mode t.0.mode h.0, elems_fold m known one_table es t.1 h.1)
  where
    one : (mode : Mode) → TypedElementMode m e.ty mode → fits_mode known e.items mode ≡ true → ModeFolds known mode
    one (Active x offset) t h = plain_folds (fold_of known offset) (zero_of_both (nat_eq x 0) (is_plain_offset (fold_of known offset)) (list_all (λ i. is_some (entry_func i)) e.items) (alone (all_tables m) x t.type one_table t.declared) h)
    one Passive t h = tt
    one Declarative t h = tt

no_table_folds : (m : Module) (known : List (Option Folded)) → all_tables m ≡ [] → (es : List Element) → AllByRecursion (TypedElement m) es → AllByRecursion (λ e. ModeFolds known e.mode) es
no_table_folds m known none [] t = tt
no_table_folds m known none (e ∷ es) t = (one e.mode t.0.mode, no_table_folds m known none es t.1)
  where
    one : (mode : Mode) → TypedElementMode m e.ty mode → ModeFolds known mode
    one (Active x offset) t = let e : slice_get [] x ≡ Some t.type = ap (λ (l : List Ty). slice_get l x) (sym none) ∙ t.declared in let no : ⊥ = cc in absurd no
    one Passive t = tt
    one Declarative t = tt

empty : {A : Type 0} (l : List A) → length l ≡ 0 → l ≡ []
empty [] e = refl
empty (a ∷ l) e = let no : ⊥ = omega (arith, e) in absurd no

tables_counted : (is : List Import) → length (filter_map (λ i. table_import i.desc) is) ≡ count_by (λ i. is_table i.desc) is
tables_counted = is_count_by (λ is. length (filter_map (λ (i : Import). table_import i.desc) is)) (λ i. is_table i.desc) refl (λ i is. one i.desc (filter_map (λ j. table_import j.desc) is))
  where
    one : (d : ImportDesc) (ys : List Ty) → length (cons_option (table_import d) ys) ≡ cond (is_table d) (1 + length ys) (length ys)
    one (imports.Table t l) ys = sym (one-add (length ys))
    one (imports.Global t mutable) ys = refl
    one (imports.Memory l) ys = refl
    one (imports.Func t) ys = refl
    one (imports.Tag t) ys = refl

module _ (m : Module) (takes : takes_constants (needs_of m) ≡ true) (stage : Stage m) (typed : TypedParts m) where
  abbrev all_gone : Bool
  all_gone = list_all (λ f. not (has_of m f)) gone_before

  gone : AllByRecursion (λ f. not (has_of m f) ≡ true) gone_before
  gone = each_all (λ f. not (has_of m f)) gone_before (and_left all_gone _ (and_left (all_gone && not (needs_stage_region m)) _ takes))

  no_region : needs_stage_region m ≡ false
  no_region = off (needs_stage_region m) (and_right all_gone _ (and_left (all_gone && not (needs_stage_region m)) _ takes))

  outside : AllByRecursion (λ f. has_of m f ≡ false) outside_features
  outside = none_any (has_of m) outside_features stage.profile

  -- the value types of globals
  abbrev in_types : Feature → Bool
  in_types f = list_any (func_type_shows f) m.types

  abbrev in_imports : Feature → Bool
  in_imports f = list_any (λ i. global_import_shows f i.desc) m.imports

  abbrev in_globals : Feature → Bool
  in_globals f = list_any (λ g. type_shows f g.ty) m.globals

  unshown : (f : Feature) → declares f m ≡ false → AllByRecursion (λ g. type_shows f g.ty ≡ false) m.globals
  unshown f h = none_any (λ g. type_shows f g.ty) m.globals (or_right (in_types f || in_imports f) (in_globals f) (or_left (in_types f || in_imports f || in_globals f) _ h))

  abbrev tagged : Bool
  tagged = not (nat_eq (length m.tags) 0) || imports_some is_tag m

  no_refs : declares features.Refs m ≡ false
  no_refs = or_left (declares features.Refs m) _ (off (has_of m features.Refs) gone.1.1.0)

  no_vectors : declares features.Simd m ≡ false
  no_vectors = or_left (declares features.Simd m) _ (or_left (declares features.Simd m || holds features.Simd m) _ (off (has_of m features.Simd) gone.1.1.1.1.0))

  no_exceptions : declares features.Exceptions m ≡ false
  no_exceptions =
      or_right tagged (declares features.Exceptions m)
      (or_left (tagged || declares features.Exceptions m) _ (or_left (tagged || declares features.Exceptions m || holds features.Exceptions m) _ (off (has_of m features.Exceptions) gone.1.1.1.1.1.1.0)))

  -- offsets
  no_computed : has_computed_offset m ≡ false
  no_computed = or_right (nat_le 2 (memory_count m) || any_from (is_copied_data m) 0 m.datas || moves_tables m) (has_computed_offset m) no_region

  no_moved : moves_tables m ≡ false
  no_moved = or_right (anywhere (shows features.Tables) m) _ (off (has_of m features.Tables) gone.1.1.1.0)

  count : length (all_tables m) ≡ table_count m
  count = length-append (imported_of table_import m) (map (λ t. t.ty) m.tables) ∙ ap (λ n. n + length (map (λ t. t.ty) m.tables)) (tables_counted m.imports) ∙ ap (λ n. imported is_table m + n) (length-map m.tables (λ t. t.ty))

  abbrev first_three : Bool
  first_three = has_one_plain_table m && not (anywhere uses_table m) && not (list_any (λ e. exports_table e.desc) m.exports)

  kept_elems : keeps_table m ≡ true → AllByRecursion (λ e. ModeFolds (known_globals m) e.mode) m.elems
  kept_elems k =
      let front = and_left (first_three && list_all (is_plain_element (known_globals m)) m.elems) _ k in
      let plain = and_left (has_one_plain_table m) _ (and_left (has_one_plain_table m && not (anywhere uses_table m)) _ (and_left first_three _ front)) in
      let one : table_count m ≡ 1 = eqb-true (table_count m) 1 (and_left (nat_eq (table_count m) 1) _ (and_left (nat_eq (table_count m) 1 && list_all (λ i. is_plain_import i.desc) m.imports) _ plain)) in
      let few : length (all_tables m) ≡ 1 = count ∙ one in
      elems_fold m (known_globals m) (omega (arith, few)) m.elems typed.elems (each_all (is_plain_element (known_globals m)) m.elems (and_right first_three _ front))

  elems_known : (b : Bool) → nat_eq (table_count m) 0 ≡ b → (not b && not (keeps_table m)) ≡ false → AllByRecursion (λ e. ModeFolds (known_globals m) e.mode) m.elems
  elems_known true e h = no_table_folds m (known_globals m) (empty (all_tables m) (count ∙ eqb-true (table_count m) 0 e)) m.elems typed.elems
  elems_known false e h = kept_elems (on (keeps_table m) h)

  -- The lemma.
  pub foldable_from : Foldable m
  foldable_from = record {
    fixed = none_any (λ i. is_mutable_global i.desc) m.imports outside.1.1.1.1.1.0;
    imported_integers = import_integers m m.imports typed.imports (none_any (λ i. is_wide_global i.desc) m.imports (or_left (imports_some is_wide_global m) _ outside.1.1.1.1.1.1.1.1.0));
    integers = own_integers m (imported_of global_import m) m.globals typed.globals (unshown features.Simd no_vectors) (unshown features.Refs no_refs) (unshown features.Exceptions no_exceptions);
    elem_offsets = elems_known (nat_eq (table_count m) 0) refl no_moved;
    data_offsets = datas_fold (known_globals m) m.datas (none_any (λ s. not (has_known_offset (known_globals m) s.mode)) m.datas no_computed);
  }
