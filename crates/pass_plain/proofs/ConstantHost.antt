-- The interface of a module without constant expressions that compute is that of the module that it was made of, where no
-- immutable global is exported whose initial value does not fold.
use Rattle.std.proofs.Common.{◌≡◌, ℕ, zero, suc, ◌+◌, ◌-◌, ◌<◌, cond, Bool, true, false, not, ◌&&◌, ◌||◌, List, [], ◌∷◌, ◌++◌, map, length, Option, Some, None, option_map, refl, sym, ap, ◌∙◌, arith}
use Rattle.std.specs.Prelude.{nat_eq, filter_map, slice_get, option_and_then, is_none, count_by}
use Rattle.std.specs.List.{AllByRecursion, list_any, cons_option}
use Rattle.std.proofs.Math.Numerals.{one-add}
use Rattle.std.proofs.lemmas.List.{append_assoc}
use Rattle.std.proofs.lemmas.List.Recursion.{is_count_by}
use Rattle.wasm_ast.specs.Fold.{known_at, known_globals}
use Rattle.wasm_ast.specs.Spaces.{is_global, is_tag, imported, func_import, func_indices}
use Rattle.wasm_ast.specs.declared.folding.folded.Folded.{Folded}
use Rattle.wasm_ast.specs.declared.module.code.Instr.{Instr}
use Rattle.wasm_ast.specs.declared.module.parts.Export.{Export}
use Rattle.wasm_ast.specs.declared.module.parts.ExportDesc.{ExportDesc}
use Rattle.wasm_ast.specs.declared.module.parts.ExportDesc.TheVariants as exports
use Rattle.wasm_ast.specs.declared.module.parts.Global.{Global}
use Rattle.wasm_ast.specs.declared.module.parts.Import.{Import}
use Rattle.wasm_ast.specs.declared.module.parts.ImportDesc.{ImportDesc}
use Rattle.wasm_ast.specs.declared.module.parts.ImportDesc.TheVariants as imports
use Rattle.wasm_ast.specs.declared.module.parts.Module.{Module}
use Rattle.wasm_ast.specs.declared.module.ty.FuncType.{FuncType}
use Rattle.typed_trees.specs.Modules.{TypedDesc, TypedImport, TypedParts}
use Rattle.meaning_new.specs.Interface.{ExternType, func, tag, global, all_tables, all_memories, Imported, Exported, Interface, interface, typed_func, typed_tag, import_type, export_type, global_import, all_globals, tag_indices}
use Rattle.pass_law.specs.Needs.{is_fixed_global, is_computed_export, exports_computed}
use Rattle.wasm_ast.specs.Features.{shows}
use Rattle.wasm_ast.specs.Has.{has_of, imports_some}
use Rattle.wasm_ast.specs.Places.{declares, holds, anywhere}
use Rattle.wasm_ast.specs.declared.features.kind.Feature.TheVariants as features
use Rattle.pass_law.specs.Hosts.{HostTypes, host_types, catches_by_reference}
use Rattle.pass_plain.proofs.FewerFeatures.{fewer_features}
use Rattle.pass_plain.proofs.NothingNew.{none_of}
use Rattle.pass_plain.proofs.Weaker.{no_references}
use Rattle.stage_kit.proofs.Appending.{get_append}
use Rattle.stage_kit.proofs.Lists.{IfAny, all_get}
use Rattle.pass_plain.specs.Constants.{NamesThere}
use Rattle.pass_plain.specs.Folding.{folded_global, folded_globals, folded_part, setting_code, nothing_to_nothing, started, without_constants}

-- a global that can be changed, or whose initial value folds, has the type that it had
abbrev extern : Global → ExternType
extern g = global g.ty g.mutable

one_same : (g : Global) (k : Option Folded) → (not g.mutable && is_none k) ≡ false → extern (folded_global g k) ≡ extern g
one_same g (Some v) h = refl
one_same g None h = ap (global g.ty) (sym (changes g.mutable h))
  where
    changes : (b : Bool) → (not b && true) ≡ false → b ≡ true
    changes true e = refl
    changes false e = let no : ⊥ = cc in absurd no

own_same : (all : List (Option Folded)) (x : ℕ) (gs : List Global) (i : ℕ) → (is_fixed_global (slice_get gs i) && is_none (known_at all (x + i))) ≡ false → slice_get (map extern (folded_globals all x gs)) i ≡ slice_get (map extern gs) i
own_same all x [] i h = refl
own_same all x (g ∷ gs) zero h =
    let e : x + 0 ≡ x = omega arith in
    ap Some (one_same g (known_at all x) (ap (λ n. not g.mutable && is_none (known_at all n)) (sym e) ∙ h))
own_same all x (g ∷ gs) (suc i) h =
    let e : x + suc i ≡ x + 1 + i = omega arith in
    own_same all (x + 1) gs i (ap (λ n. is_fixed_global (slice_get gs i) && is_none (known_at all n)) (sym e) ∙ h)

behind_same : (front : List ExternType) (all : List (Option Folded)) (x : ℕ) (gs : List Global) (i : ℕ) → (is_fixed_global (slice_get gs (i - length front)) && is_none (known_at all (x + i))) ≡ false → slice_get (front ++ map extern (folded_globals all (x + length front) gs)) i ≡ slice_get (front ++ map extern gs) i
behind_same [] all x gs i h =
    let e : i - 0 ≡ i = omega arith in
    let f : x + 0 ≡ x = omega arith in
    ap (λ n. slice_get (map extern (folded_globals all n gs)) i) f ∙ own_same all x gs i (ap (λ n. is_fixed_global (slice_get gs n) && is_none (known_at all (x + i))) (sym e) ∙ h)
behind_same (t ∷ front) all x gs zero h = refl
behind_same (t ∷ front) all x gs (suc i) h =
    let e : suc i - suc (length front) ≡ i - length front = omega arith in
    let f : x + suc i ≡ x + 1 + i = omega arith in
    let g : x + suc (length front) ≡ x + 1 + length front = omega arith in
    ap (λ n. slice_get (front ++ map extern (folded_globals all n gs)) i) g
    ∙ behind_same front all (x + 1) gs i
    (ap (λ n. is_fixed_global (slice_get gs (i - length front)) && is_none (known_at all n)) (sym f)
    ∙ ap (λ n. is_fixed_global (slice_get gs n) && is_none (known_at all (x + suc i))) (sym e) ∙ h)

globals_counted : (is : List Import) → length (filter_map (λ i. global_import i.desc) is) ≡ count_by (λ i. is_global i.desc) is
globals_counted = is_count_by (λ is. length (filter_map (λ (i : Import). global_import i.desc) is)) (λ i. is_global i.desc) refl (λ i is. one i.desc (filter_map (λ j. global_import j.desc) is))
  where
    one : (d : ImportDesc) (ys : List ExternType) → length (cons_option (global_import d) ys) ≡ cond (is_global d) (1 + length ys) (length ys)
    one (imports.Global t mutable) ys = sym (one-add (length ys))
    one (imports.Table t l) ys = refl
    one (imports.Memory l) ys = refl
    one (imports.Func t) ys = refl
    one (imports.Tag t) ys = refl

module _ (m : Module) where
  global_same : (x : ℕ) → is_computed_export m (exports.Global x) ≡ false → slice_get (all_globals (folded_part m)) x ≡ slice_get (all_globals m) x
  global_same x h =
      let front = filter_map (λ i. global_import i.desc) m.imports in
      let count : length front ≡ imported is_global m = globals_counted m.imports in
      let e : 0 + length front ≡ length front = omega arith in
      let f : 0 + x ≡ x = omega arith in
      ap (λ n. slice_get (front ++ map extern (folded_globals (known_globals m) n m.globals)) x) (sym count ∙ sym e)
      ∙ behind_same front (known_globals m) 0 m.globals x
      (ap (λ n. is_fixed_global (slice_get m.globals (x - n)) && is_none (known_at (known_globals m) (0 + x))) count
      ∙ ap (λ n. is_fixed_global (slice_get m.globals (x - imported is_global m)) && is_none (known_at (known_globals m) n)) f
      ∙ h)

-- an import and an export as a host sees them
abbrev seen_import : Module → Import → Imported
seen_import q i = record { from = i.module; name = i.name; type = import_type q i.desc }

abbrev seen_export : Module → Export → Exported
seen_export q e = record { name = e.name; type = export_type q e.desc }

-- What of o is as in m, for all that the host sees of it.
record SeenAlike (m o : Module) : Type 0 where
  pub same_imports : o.imports ≡ m.imports
  pub same_exports : o.exports ≡ m.exports
  pub types : (t : ℕ) → t < length m.types → slice_get o.types t ≡ slice_get m.types t
  pub funcs : (x : ℕ) → x < length (func_indices m) → slice_get (func_indices o) x ≡ slice_get (func_indices m) x
  pub globals : (x : ℕ) → is_computed_export m (exports.Global x) ≡ false → slice_get (all_globals o) x ≡ slice_get (all_globals m) x
  pub tables : all_tables o ≡ all_tables m
  pub memories : all_memories o ≡ all_memories m
  pub tags : tag_indices o ≡ tag_indices m

got_below : {A : Type 0} (l : List A) (x : ℕ) (a : A) → slice_get l x ≡ Some a → x < length l
got_below [] x a e = let no : ⊥ = cc in absurd no
got_below (b ∷ l) zero a e = omega arith
got_below (b ∷ l) (suc x) a e = let less = got_below l x a e in omega arith

module _ (m o : Module) (seen : SeenAlike m o) (names : ℕ) (there : NamesThere m names) (parts : TypedParts m) (none : exports_computed m ≡ false) where
  func_typed : (i : Option ℕ) → IfAny (λ t. t < length m.types) i → option_and_then (typed_func o) i ≡ option_and_then (typed_func m) i
  func_typed None h = refl
  func_typed (Some t) h = ap (option_map (λ u. func u)) (seen.types t h)

  tag_typed : (i : Option ℕ) → IfAny (λ t. t < length m.types) i → option_and_then (typed_tag o) i ≡ option_and_then (typed_tag m) i
  tag_typed None h = refl
  tag_typed (Some t) h = ap (option_map (λ u. tag u)) (seen.types t h)

  import_same : (d : ImportDesc) → TypedImport m d → import_type o d ≡ import_type m d
  import_same (imports.Func t) h = ap (option_map (λ u. func u)) (seen.types t h)
  import_same (imports.Tag t) h = ap (option_map (λ u. tag u)) (seen.types t (got_below m.types t h.type h.declared))
  import_same (imports.Table t l) h = refl
  import_same (imports.Memory l) h = refl
  import_same (imports.Global t mutable) h = refl

  export_same : (d : ExportDesc) → TypedDesc m d → is_computed_export m d ≡ false → export_type o d ≡ export_type m d
  export_same (exports.Func x) h c = ap (option_and_then (typed_func o)) (seen.funcs x h) ∙ func_typed (slice_get (func_indices m) x) (all_get (λ t. t < length m.types) (func_indices m) x there.funcs_typed)
  export_same (exports.Table x) h c = ap (λ (l : List ExternType). slice_get l x) seen.tables
  export_same (exports.Memory x) h c = ap (λ (l : List ExternType). slice_get l x) seen.memories
  export_same (exports.Global x) h c = seen.globals x c
  export_same (exports.Tag x) h c = ap (λ (l : List ℕ). option_and_then (typed_tag o) (slice_get l x)) seen.tags ∙ tag_typed (slice_get (tag_indices m) x) (all_get (λ t. t < length m.types) (tag_indices m) x there.tags_typed)

  imports_same : (is : List Import) → AllByRecursion (λ i. TypedImport m i.desc) is → map (seen_import o) is ≡ map (seen_import m) is
  imports_same [] h = refl
  imports_same (i ∷ is) h =
      ap (λ (t : Option ExternType). record { from = i.module; name = i.name; type = t } ∷ map (seen_import o) is) (import_same i.desc h.0)
      ∙ ap (λ (l : List Imported). record { from = i.module; name = i.name; type = import_type m i.desc } ∷ l) (imports_same is h.1)

  exports_same : (es : List Export) → AllByRecursion (λ e. TypedDesc m e.desc) es → list_any (λ e. is_computed_export m e.desc) es ≡ false → map (seen_export o) es ≡ map (seen_export m) es
  exports_same [] h c = refl
  exports_same (e ∷ es) h c =
      let both = none_of (is_computed_export m e.desc) (list_any (λ i. is_computed_export m i.desc) es) c in
      ap (λ (t : Option ExternType). record { name = e.name; type = t } ∷ map (seen_export o) es) (export_same e.desc h.0 both.0)
      ∙ ap (λ (l : List Exported). record { name = e.name; type = export_type m e.desc } ∷ l) (exports_same es h.1 both.1)

  tags_same : (l : List ℕ) → AllByRecursion (λ t. t < length m.types) l → map (slice_get o.types) l ≡ map (slice_get m.types) l
  tags_same [] h = refl
  tags_same (t ∷ l) h = ap (λ i. i ∷ map (slice_get o.types) l) (seen.types t h.0) ∙ ap (λ k. slice_get m.types t ∷ k) (tags_same l h.1)

  interfaces : interface o ≡ interface m
  interfaces =
      ap (λ (l : List Import). record (interface o) { imports = map (seen_import o) l }) seen.same_imports
      ∙ ap (λ (l : List Imported). record (interface o) { imports = l }) (imports_same m.imports parts.imports)
      ∙ ap (λ (l : List Export). record (interface o) { imports = (interface m).imports; exports = map (seen_export o) l }) seen.same_exports
      ∙ ap (λ (l : List Exported). record (interface o) { imports = (interface m).imports; exports = l }) (exports_same m.exports parts.exports none)
      ∙ ap (λ (l : List ℕ). record (interface m) { tags = map (slice_get o.types) l }) seen.tags
      ∙ ap (λ (l : List (Option FuncType)). record (interface m) { tags = l }) (tags_same (tag_indices m) there.tags_typed)

module _ (m : Module) where
  seen_alike : (code : List Instr) → SeenAlike m (started m code)
  seen_alike [] = record { same_imports = refl; same_exports = refl; types = λ t lt. refl; funcs = λ x lt. refl; globals = global_same m; tables = refl; memories = refl; tags = refl }
  seen_alike (i ∷ code) = record {
    same_imports = refl;
    same_exports = refl;
    types = λ t lt. get_append m.types (nothing_to_nothing ∷ []) t lt;
    funcs = λ x lt.
        ap (λ (l : List ℕ). slice_get l x) (sym (append_assoc (filter_map (λ j. func_import j.desc) m.imports) m.funcs (length m.types ∷ [])))
        ∙ get_append (func_indices m) (length m.types ∷ []) x lt;
    globals = global_same m;
    tables = refl;
    memories = refl;
    tags = refl;
  }

  -- The lemma.
  pub interface_stays : (names : ℕ) → NamesThere m names → TypedParts m → exports_computed m ≡ false → interface (without_constants m) ≡ interface m
  interface_stays names there parts none = interfaces m (without_constants m) (seen_alike (setting_code m)) names there parts none

no_marks : (q : Module) → has_of q features.Exceptions ≡ false → anywhere catches_by_reference q ≡ false
no_marks q e =
    no_references q (none_of (not (nat_eq (length q.tags) 0) || imports_some is_tag q || declares features.Exceptions q || holds features.Exceptions q) (anywhere (shows features.Exceptions) q) e).1

-- All that the host sees, where no exceptions are left.
pub host_stays : (m : Module) (names : ℕ) → NamesThere m names → TypedParts m → exports_computed m ≡ false → has_of m features.Exceptions ≡ false → host_types (without_constants m) ≡ host_types m
host_stays m names there parts none gone =
    ap {A = Interface} {B = HostTypes} (λ i. record { interface = i; by_reference = anywhere catches_by_reference (without_constants m) }) (interface_stays m names there parts none)
    ∙ ap {A = Bool} {B = HostTypes} (λ b. record { interface = interface m; by_reference = b }) (no_marks (without_constants m) (fewer_features m features.Exceptions refl gone) ∙ sym (no_marks m gone))
