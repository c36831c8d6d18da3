-- A typed module whose constants are integers of their widths, that keeps its table and needs no region, is one whose
-- constant expressions become single instructions and code; and what it names is there.
use Rattle.std.proofs.Common.{◌≡◌, append-nil, ℕ, zero, suc, ◌+◌, ◌<◌, cond, Bool, true, false, not, ◌||◌, ◌&&◌, List, [], ◌∷◌, ◌++◌, map, length, Option, Some, None, refl, sym, ap, ◌∙◌, subst, arith}
use Rattle.std.specs.Prelude.{nat_eq, slice_get, filter_map, count_by, is_none, is_some}
use Rattle.std.specs.List.{AllByRecursion, cons_option, list_all, list_any}
use Rattle.std.proofs.Math.Numerals.{one-add}
use Rattle.std.proofs.lemmas.Bool.{eqb-true, eq-eqb}
use Rattle.std.proofs.lemmas.List.{length-append, length-map}
use Rattle.std.proofs.lemmas.List.Recursion.{is_count_by}
use Rattle.wasm_ast.specs.Features.{type_shows, shows}
use Rattle.wasm_ast.specs.Fold.{fold_of, known_globals}
use Rattle.wasm_ast.specs.Has.{has_of}
use Rattle.wasm_ast.specs.Kept.{is_plain_import, is_plain_table, is_plain_offset, has_one_plain_table, uses_table, exports_table, entry_func, is_plain_element, are_told_apart, keeps_table}
use Rattle.wasm_ast.specs.Places.{anywhere, func_type_shows, global_import_shows, declares}
use Rattle.wasm_ast.specs.Region.{is_known_offset, has_known_offset, has_computed_offset, moves_tables}
use Rattle.wasm_ast.specs.Spaces.{is_table, is_global, imported, table_count, func_indices}
use Rattle.wasm_ast.specs.declared.features.kind.Feature.{Feature}
use Rattle.wasm_ast.specs.declared.features.kind.Feature.TheVariants as features
use Rattle.wasm_ast.specs.declared.folding.folded.Folded.{Folded}
use Rattle.wasm_ast.specs.declared.module.code.Body.{Body}
use Rattle.wasm_ast.specs.declared.module.code.Instr.{Instr}
use Rattle.wasm_ast.specs.declared.module.parts.Element.{Element}
use Rattle.wasm_ast.specs.declared.module.parts.Global.{Global}
use Rattle.wasm_ast.specs.declared.module.parts.Import.{Import}
use Rattle.wasm_ast.specs.declared.module.parts.ImportDesc.{ImportDesc}
use Rattle.wasm_ast.specs.declared.module.parts.ImportDesc.TheVariants as imports
use Rattle.wasm_ast.specs.declared.module.parts.Mode.{Mode}
use Rattle.wasm_ast.specs.declared.module.parts.Mode.TheVariants.{Active, Passive, Declarative}
use Rattle.wasm_ast.specs.declared.module.parts.Module.{Module}
use Rattle.wasm_ast.specs.declared.module.parts.Segment.{Segment}
use Rattle.wasm_ast.specs.declared.module.parts.Table.{Table}
use Rattle.wasm_ast.specs.declared.module.ty.Ty.{Ty}
use Rattle.typed_trees.specs.declared.global_type.GlobalType.{GlobalType}
use Rattle.typed_trees.specs.declared.module.TypedFn.{TypedFn}
use Rattle.typed_trees.specs.Modules.{early_context, table_import, global_import, global_type, imported_of, all_tables, all_globals, TypedGlobals, TypedElement, TypedElementMode, TypedParts}
use Rattle.typed_trees.specs.Trees.{erased}
use Rattle.typed_trees.specs.Typed.{body_of, module_of, IsTypedTree}
use Rattle.pass_law.specs.ThenLawful.{and_left, and_right}
use Rattle.stage_kit.specs.Adding.{CodeNamed}
use Rattle.stage_kit.proofs.TypedCode.{got}
use Rattle.stage_kit.proofs.TypedModules.{global_count, all_names, module_named, exports_named, bodies_named, appended_typed}
use Rattle.pass_plain.specs.Constants.{CodeInRange, ModeInRange, IsSettable, LeavesOne, AreSettable, ModeFolds, EntryReadsNone, ReadsNone, HasConstants, NamesThere}
use Rattle.pass_plain.proofs.ConstantTyping.{leaves_one, settable}
use Rattle.pass_plain.proofs.DirectGlobals.{globals_counted}
use Rattle.pass_plain.proofs.NothingNew.{none_of}
use Rattle.pass_plain.proofs.ReferenceConstants.{IsValue, elems_read_none, no_references}
use Rattle.pass_plain.proofs.RegionKept.{false_not}
use Rattle.pass_plain.proofs.Stages.{not_true}

-- initial values
globals_settable : (m : Module) (before : List GlobalType) (gs : List Global) (x : ℕ) → x ≡ length before → TypedGlobals m before gs → AreSettable x gs
globals_settable m before [] x e h = tt
globals_settable m before (g ∷ gs) x e h =
    let longer = length-append before (global_type g ∷ []) in
    let next : x + 1 ≡ length (before ++ global_type g ∷ []) = omega (arith, e, longer) in (
      subst (λ n. IsSettable n g.init) (sym e) (settable (early_context m before) g.init h.0.init.constant),
      leaves_one (early_context m before) g.init g.ty h.0.init,
      globals_settable m (before ++ global_type g ∷ []) gs (x + 1) next h.1,
    )

-- offsets of data segments
data_folds : (known : List (Option Folded)) (mode : Mode) → has_known_offset known mode ≡ true → ModeFolds known mode
data_folds known (Active x offset) h = by (fold_of known offset) refl h
  where
    by : (o : Option Folded) → fold_of known offset ≡ o → is_known_offset o ≡ true → (v : Folded) × (fold_of known offset ≡ Some v)
    by None e f = absurd cc
    by (Some v) e f = (v, e)
data_folds known Passive h = tt
data_folds known Declarative h = tt

datas_fold : (known : List (Option Folded)) (ds : List Segment) → list_any (λ s. not (has_known_offset known s.mode)) ds ≡ false → AllByRecursion (λ d. ModeFolds known d.mode) ds
datas_fold known [] h = tt
datas_fold known (d ∷ ds) h =
    let both = none_of (not (has_known_offset known d.mode)) (list_any (λ s. not (has_known_offset known s.mode)) ds) h in
    (data_folds known d.mode (false_not (has_known_offset known d.mode) both.0), datas_fold known ds both.1)

-- tables are counted
tables_counted : (is : List Import) → length (filter_map (λ i. table_import i.desc) is) ≡ count_by (λ i. is_table i.desc) is
tables_counted = is_count_by (λ is. length (filter_map (λ (i : Import). table_import i.desc) is)) (λ i. is_table i.desc) refl (λ i is. one i.desc (filter_map (λ j. table_import j.desc) is))
  where
    one : (d : ImportDesc) (ys : List Ty) → length (cons_option (table_import d) ys) ≡ cond (is_table d) (1 + length ys) (length ys)
    one (imports.Table t l) ys = sym (one-add (length ys))
    one (imports.Global t mutable) ys = refl
    one (imports.Memory l) ys = refl
    one (imports.Func t) ys = refl
    one (imports.Tag t) ys = refl

all_counted : (m : Module) → length (all_tables m) ≡ table_count m
all_counted m =
    length-append (imported_of table_import m) (map (λ t. t.ty) m.tables)
    ∙ ap (λ n. n + length (map (λ (t : Table). t.ty) m.tables)) (tables_counted m.imports)
    ∙ ap (λ n. imported is_table m + n) (length-map m.tables (λ t. t.ty))

-- the only one is the first
only_first : (n x : ℕ) → nat_eq n 1 ≡ true → x < n → nat_eq x 0 ≡ true
only_first n x e lt =
    let one : n ≡ 1 = eqb-true n 1 e in
    let first : x ≡ 0 = omega (arith, one, lt) in
    eq-eqb x 0 first

-- a table that is there is kept
some_kept : (n x : ℕ) (kept : Bool) → x < n → (not (nat_eq n 0) && not kept) ≡ false → kept ≡ true
some_kept n x kept lt e = by (nat_eq n 0) refl e
  where
    by : (b : Bool) → nat_eq n 0 ≡ b → (not b && not kept) ≡ false → kept ≡ true
    by true f g = let none : n ≡ 0 = eqb-true n 0 f in let no : ⊥ = omega (arith, none, lt) in absurd no
    by false f g = false_not kept g

plain_folds : (o : Option Folded) → is_plain_offset o ≡ true → (v : Folded) × (o ≡ Some v)
plain_folds None h = absurd cc
plain_folds (Some v) h = (v, refl)

module _ (m : Module) (moves : moves_tables m ≡ false) where
  abbrev P : Bool
  P = has_one_plain_table m

  abbrev U : Bool
  U = not (anywhere uses_table m)

  abbrev E : Bool
  E = not (list_any (λ e. exports_table e.desc) m.exports)

  abbrev S : Bool
  S = list_all (is_plain_element (known_globals m)) m.elems

  kept_elems : keeps_table m ≡ true → S ≡ true
  kept_elems h = and_right (P && U && E) S (and_left (P && U && E && S) (are_told_apart m) h)

  kept_plain : keeps_table m ≡ true → P ≡ true
  kept_plain h = and_left P U (and_left (P && U) E (and_left (P && U && E) S (and_left (P && U && E && S) (are_told_apart m) h)))

  kept_one : keeps_table m ≡ true → nat_eq (table_count m) 1 ≡ true
  kept_one h =
      let a = nat_eq (table_count m) 1 in
      let b = list_all (λ i. is_plain_import i.desc) m.imports in
      and_left a b (and_left (a && b) (list_all is_plain_table m.tables) (kept_plain h))

  kept_tables : keeps_table m ≡ true → list_all is_plain_table m.tables ≡ true
  kept_tables h = and_right (nat_eq (table_count m) 1 && list_all (λ i. is_plain_import i.desc) m.imports) (list_all is_plain_table m.tables) (kept_plain h)

  -- offsets of element segments
  elem_folds : (e : Element) → TypedElementMode m e.ty e.mode → (keeps_table m ≡ true → is_plain_element (known_globals m) e ≡ true) → ModeFolds (known_globals m) e.mode
  elem_folds e h plain = by e.mode h plain
    where
      by : (mode : Mode) → TypedElementMode m e.ty mode → (keeps_table m ≡ true → is_plain_element (known_globals m) (record e { mode = mode }) ≡ true) → ModeFolds (known_globals m) mode
      by (Active x offset) t p =
          let lt : x < table_count m = subst (λ n. x < n) (all_counted m) (got (all_tables m) x t.type t.declared) in
          let kept = some_kept (table_count m) x (keeps_table m) lt moves in
          let first = only_first (table_count m) x (kept_one kept) lt in
          let old = is_plain_offset (fold_of (known_globals m) offset) in
          let entries = list_all (λ i. is_some (entry_func i)) e.items in
          plain_folds (fold_of (known_globals m) offset) (and_left old entries (ap (λ b. not b || (old && entries)) (sym first) ∙ p kept))
      by Passive t p = tt
      by Declarative t p = tt

  elems_fold : (es : List Element) → AllByRecursion (TypedElement m) es → (keeps_table m ≡ true → list_all (is_plain_element (known_globals m)) es ≡ true) → AllByRecursion (λ e. ModeFolds (known_globals m) e.mode) es
  elems_fold [] h p = tt
  elems_fold (e ∷ es) h p = (
    elem_folds e h.0.mode (λ k. and_left (is_plain_element (known_globals m) e) (list_all (is_plain_element (known_globals m)) es) (p k)),
    elems_fold es h.1 (λ k. and_right (is_plain_element (known_globals m) e) (list_all (is_plain_element (known_globals m)) es) (p k)),
  )

  -- entries of tables
  plain_entry : (init : Option (List Instr)) → is_none init ≡ true → EntryReadsNone init
  plain_entry None h = tt
  plain_entry (Some code) h = absurd cc

  plain_entries : (ts : List Table) → list_all is_plain_table ts ≡ true → AllByRecursion (λ t. EntryReadsNone t.init) ts
  plain_entries [] h = tt
  plain_entries (t ∷ ts) h = (
    plain_entry t.init (and_right _ (is_none t.init) (and_left (is_plain_table t) (list_all is_plain_table ts) h)),
    plain_entries ts (and_right (is_plain_table t) (list_all is_plain_table ts) h),
  )

  entries_none : AllByRecursion (λ t. EntryReadsNone t.init) m.tables
  entries_none = by m.tables refl
    where
      by : (ts : List Table) → m.tables ≡ ts → AllByRecursion (λ t. EntryReadsNone t.init) ts
      by [] e = tt
      by (t ∷ ts) e =
          let count : length m.tables ≡ suc (length ts) = ap length e in
          let lt : 0 < table_count m = omega (arith, count) in
          plain_entries (t ∷ ts) (ap (list_all is_plain_table) (sym e) ∙ kept_tables (some_kept (table_count m) 0 (keeps_table m) lt moves))

-- The integers of constant expressions are of their widths.
pub record AreInRange (m : Module) : Type 0 where
  pub globals : AllByRecursion (λ g. CodeInRange g.init) m.globals
  pub elems : AllByRecursion (λ e. ModeInRange e.mode) m.elems
  pub datas : AllByRecursion (λ d. ModeInRange d.mode) m.datas

-- no global is declared to be of a type that shows a feature
pub record Undeclared (f : Feature) (m : Module) : Type 0 where
  pub imports : list_any (λ i. global_import_shows f i.desc) m.imports ≡ false
  pub globals : list_any (λ g. type_shows f g.ty) m.globals ≡ false

pub undeclared : (f : Feature) (m : Module) → declares f m ≡ false → Undeclared f m
undeclared f m e =
    let first = list_any (func_type_shows f) m.types in
    let second = list_any (λ i. global_import_shows f i.desc) m.imports in
    let third = list_any (λ g. type_shows f g.ty) m.globals in
    let parts = none_of (first || second || third) (list_any (λ b. list_any (type_shows f) b.locals) m.codes) e in
    let both = none_of (first || second) third parts.0 in
    record { imports = (none_of first second both.0).1; globals = both.1 }

-- The lemma.
pub has_constants : (m : Module) → TypedParts m → AreInRange m → Undeclared features.Refs m → Undeclared features.Exceptions m → moves_tables m ≡ false → has_computed_offset m ≡ false → HasConstants m
has_constants m typed ranges refs exceptions moves computed = record {
  ranges = ranges.globals;
  elem_ranges = ranges.elems;
  data_ranges = ranges.datas;
  settable = globals_settable m (imported_of global_import m) m.globals (imported is_global m) (globals_counted m) typed.globals;
  elem_offsets = elems_fold m moves m.elems typed.elems (kept_elems m moves);
  data_offsets = datas_fold (known_globals m) m.datas computed;
  entries = entries_none m moves;
  items = elems_read_none m (no_references m refs.imports exceptions.imports refs.globals exceptions.globals) m.elems typed.elems;
}

-- What a typed module names is there.
over_bodies : (Q : Body → Type 0) (fns : List TypedFn) → AllByRecursion (λ f. Q (body_of f)) fns → AllByRecursion Q (map body_of fns)
over_bodies Q [] h = tt
over_bodies Q (f ∷ fns) h = (h.0, over_bodies Q fns h.1)

pub names_there : (t : Module × List TypedFn) → IsTypedTree t → NamesThere (module_of t) (global_count (module_of t))
names_there t typed =
    let m = module_of t in
    let appended = appended_typed m typed.parts m [] [] (sym (append-nil m.types)) (sym (append-nil (func_indices m))) refl in
    record {
      named = module_named m typed.parts;
      exports_named = exports_named m typed.parts;
      code_named = over_bodies (λ b. AllByRecursion (CodeNamed m (all_names m)) b.code) t.1 (bodies_named m typed.parts t.0.funcs t.1 typed.trees);
      funcs_typed = appended.funcs_typed;
      tags_typed = appended.tags_typed;
      bodies = typed.counts.bodies;
    }
