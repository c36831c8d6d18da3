-- A module without constant expressions that compute has no feature that it did not have before.
use Rattle.std.proofs.Common.{◌≡◌, append-nil, ℕ, ◌+◌, Bool, true, false, not, ◌||◌, List, [], ◌∷◌, ◌++◌, map, length, Option, Some, None, refl, sym, ap, ◌∙◌}
use Rattle.std.specs.Prelude.{filter_map, nat_eq}
use Rattle.std.specs.List.{list_any}
use Rattle.std.proofs.lemmas.List.Folds.{list_any-append}
use Rattle.wasm_ast.specs.Features.{type_shows, shows}
use Rattle.wasm_ast.specs.Fold.{known_at, known_globals}
use Rattle.wasm_ast.specs.Has.{has_of, imports_some, exports_wide_global, is_wide_global, has_several_results, is_passive}
use Rattle.wasm_ast.specs.Places.{func_type_shows, global_import_shows, table_import_shows, declares, holds, anywhere, outside_elements}
use Rattle.wasm_ast.specs.Spaces.{is_global, is_tag, imported, global_import, global_types}
use Rattle.wasm_ast.specs.declared.features.kind.Feature.{Feature}
use Rattle.wasm_ast.specs.declared.features.kind.Feature.TheVariants as features
use Rattle.wasm_ast.specs.declared.folding.folded.Folded.{Folded}
use Rattle.wasm_ast.specs.declared.module.code.Instr.{Instr}
use Rattle.wasm_ast.specs.declared.module.parts.Element.{Element}
use Rattle.wasm_ast.specs.declared.module.parts.Global.{Global}
use Rattle.wasm_ast.specs.declared.module.parts.Mode.{Mode}
use Rattle.wasm_ast.specs.declared.module.parts.Mode.TheVariants.{Active, Passive, Declarative}
use Rattle.wasm_ast.specs.declared.module.parts.Module.{Module}
use Rattle.wasm_ast.specs.declared.module.parts.Segment.{Segment}
use Rattle.wasm_ast.specs.declared.module.ty.Ty.{Ty}
use Rattle.pass_plain.specs.Folding.{folded_mode, folded_elem, folded_data, folded_global, folded_globals, setting_code, nothing_to_nothing, start_bodies, started, without_constants}
use Rattle.pass_plain.proofs.NothingNew.{none_of, both_none, nowhere_new, outside_new, overlooks_new}

-- the types of globals stay
type_same : (g : Global) (k : Option Folded) → (folded_global g k).ty ≡ g.ty
type_same g (Some v) = refl
type_same g None = refl

types_same : (all : List (Option Folded)) (x : ℕ) (gs : List Global) → map (λ g. g.ty) (folded_globals all x gs) ≡ map (λ g. g.ty) gs
types_same all x [] = refl
types_same all x (g ∷ gs) = ap (λ t. t ∷ map (λ i. i.ty) (folded_globals all (x + 1) gs)) (type_same g (known_at all x)) ∙ ap (λ l. g.ty ∷ l) (types_same all (x + 1) gs)

any_type : (p : Ty → Bool) (gs : List Global) → list_any (λ g. p g.ty) gs ≡ list_any p (map (λ g. g.ty) gs)
any_type p [] = refl
any_type p (g ∷ gs) = ap (λ b. p g.ty || b) (any_type p gs)

any_global : (p : Ty → Bool) (all : List (Option Folded)) (x : ℕ) (gs : List Global) → list_any (λ g. p g.ty) (folded_globals all x gs) ≡ list_any (λ g. p g.ty) gs
any_global p all x gs = any_type p (folded_globals all x gs) ∙ ap (list_any p) (types_same all x gs) ∙ sym (any_type p gs)

any_elem : (p : Ty → Bool) (known : List (Option Folded)) (es : List Element) → list_any (λ e. p e.ty) (map (folded_elem known) es) ≡ list_any (λ e. p e.ty) es
any_elem p known [] = refl
any_elem p known (e ∷ es) = ap (λ b. p e.ty || b) (any_elem p known es)

pub passive_same : (known : List (Option Folded)) (mode : Mode) → is_passive (folded_mode known mode) ≡ is_passive mode
passive_same known (Active x offset) = refl
passive_same known Passive = refl
passive_same known Declarative = refl

any_passive : (known : List (Option Folded)) (ds : List Segment) → list_any (λ s. is_passive s.mode) (map (folded_data known) ds) ≡ list_any (λ s. is_passive s.mode) ds
any_passive known [] = refl
any_passive known (d ∷ ds) = ap (λ b. b || list_any (λ s. is_passive s.mode) (map (folded_data known) ds)) (passive_same known d.mode) ∙ ap (λ b. is_passive d.mode || b) (any_passive known ds)

-- the features that are told by what stands in expressions and bodies, by types and by parts that stay
abbrev pub is_told_apart : Feature → Bool
is_told_apart features.Constants = false
is_told_apart features.Tables = false
is_told_apart features.HostExnref = false
is_told_apart _ = true

module _ (m : Module) where
  -- types that are declared, with those of a function without any
  declared : (f : Feature) → declares f m ≡ false → (list_any (func_type_shows f) m.types || list_any (λ i. global_import_shows f i.desc) m.imports || list_any (λ g. type_shows f g.ty) (folded_globals (known_globals m) (imported is_global m) m.globals) ≡ false) × (list_any (λ b. list_any (type_shows f) b.locals) m.codes ≡ false)
  declared f e =
      let both = none_of (list_any (func_type_shows f) m.types || list_any (λ i. global_import_shows f i.desc) m.imports || list_any (λ g. type_shows f g.ty) m.globals) (list_any (λ b. list_any (type_shows f) b.locals) m.codes) e in
      (ap (λ b. list_any (func_type_shows f) m.types || list_any (λ i. global_import_shows f i.desc) m.imports || b) (any_global (type_shows f) (known_globals m) (imported is_global m) m.globals) ∙ both.0, both.1)

  declares_by : (f : Feature) (code : List Instr) → declares f m ≡ false → declares f (started m code) ≡ false
  declares_by f [] e =
      let d = declared f e in
      both_none (list_any (func_type_shows f) m.types || list_any (λ i. global_import_shows f i.desc) m.imports || list_any (λ g. type_shows f g.ty) (folded_globals (known_globals m) (imported is_global m) m.globals)) (list_any (λ b. list_any (type_shows f) b.locals) (m.codes ++ []))
      d.0 (ap (list_any (λ b. list_any (type_shows f) b.locals)) (append-nil m.codes) ∙ d.1)
  declares_by f (i ∷ code) e =
      let d = declared f e in
      let rest = none_of (list_any (func_type_shows f) m.types || list_any (λ i. global_import_shows f i.desc) m.imports) (list_any (λ g. type_shows f g.ty) (folded_globals (known_globals m) (imported is_global m) m.globals)) d.0 in
      let types = none_of (list_any (func_type_shows f) m.types) (list_any (λ i. global_import_shows f i.desc) m.imports) rest.0 in
      both_none (list_any (func_type_shows f) (m.types ++ nothing_to_nothing ∷ []) || list_any (λ i. global_import_shows f i.desc) m.imports || list_any (λ g. type_shows f g.ty) (folded_globals (known_globals m) (imported is_global m) m.globals)) (list_any (λ b. list_any (type_shows f) b.locals) (m.codes ++ start_bodies m.start (i ∷ code)))
      (both_none (list_any (func_type_shows f) (m.types ++ nothing_to_nothing ∷ []) || list_any (λ i. global_import_shows f i.desc) m.imports) (list_any (λ g. type_shows f g.ty) (folded_globals (known_globals m) (imported is_global m) m.globals))
      (both_none (list_any (func_type_shows f) (m.types ++ nothing_to_nothing ∷ [])) (list_any (λ i. global_import_shows f i.desc) m.imports)
      (list_any-append (func_type_shows f) m.types (nothing_to_nothing ∷ []) ∙ both_none (list_any (func_type_shows f) m.types) false types.0 refl) types.1) rest.1)
      (list_any-append (λ b. list_any (type_shows f) b.locals) m.codes (start_bodies m.start (i ∷ code)) ∙ both_none (list_any (λ b. list_any (type_shows f) b.locals) m.codes) false d.1 refl)

  holds_by : (f : Feature) (code : List Instr) → holds f (started m code) ≡ holds f m
  holds_by f [] = ap (λ b. list_any (λ i. table_import_shows f i.desc) m.imports || list_any (λ t. type_shows f t.ty) m.tables || b) (any_elem (type_shows f) (known_globals m) m.elems)
  holds_by f (i ∷ code) = ap (λ b. list_any (λ i. table_import_shows f i.desc) m.imports || list_any (λ t. type_shows f t.ty) m.tables || b) (any_elem (type_shows f) (known_globals m) m.elems)

  several_by : (code : List Instr) → list_any has_several_results m.types ≡ false → list_any has_several_results (started m code).types ≡ false
  several_by [] e = e
  several_by (i ∷ code) e = list_any-append has_several_results m.types (nothing_to_nothing ∷ []) ∙ both_none (list_any has_several_results m.types) false e refl

  passive_by : (code : List Instr) → list_any (λ s. is_passive s.mode) (started m code).datas ≡ list_any (λ s. is_passive s.mode) m.datas
  passive_by [] = any_passive (known_globals m) m.datas
  passive_by (i ∷ code) = any_passive (known_globals m) m.datas

  -- the types of all globals
  global_types_by : (code : List Instr) → global_types (started m code) ≡ global_types m
  global_types_by [] = ap (λ l. filter_map (λ i. global_import i.desc) m.imports ++ l) (types_same (known_globals m) (imported is_global m) m.globals)
  global_types_by (i ∷ code) = ap (λ l. filter_map (λ i. global_import i.desc) m.imports ++ l) (types_same (known_globals m) (imported is_global m) m.globals)

  -- features of parts that stay
  abbrev is_of_parts : Feature → Bool
  is_of_parts features.WideTable = true
  is_of_parts features.TableInitialiser = true
  is_of_parts features.ImportedTable = true
  is_of_parts features.ImportedTag = true
  is_of_parts features.ImportedMutableGlobal = true
  is_of_parts features.ImportedMemory = true
  is_of_parts features.ExportedTable = true
  is_of_parts features.WideMemory = true
  is_of_parts features.Memories = true
  is_of_parts _ = false

  part_by : (f : Feature) (code : List Instr) → is_of_parts f ≡ true → has_of (started m code) f ≡ has_of m f
  part_by features.WideTable [] h = refl
  part_by features.WideTable (i ∷ code) h = refl
  part_by features.TableInitialiser [] h = refl
  part_by features.TableInitialiser (i ∷ code) h = refl
  part_by features.ImportedTable [] h = refl
  part_by features.ImportedTable (i ∷ code) h = refl
  part_by features.ImportedTag [] h = refl
  part_by features.ImportedTag (i ∷ code) h = refl
  part_by features.ImportedMutableGlobal [] h = refl
  part_by features.ImportedMutableGlobal (i ∷ code) h = refl
  part_by features.ImportedMemory [] h = refl
  part_by features.ImportedMemory (i ∷ code) h = refl
  part_by features.ExportedTable [] h = refl
  part_by features.ExportedTable (i ∷ code) h = refl
  part_by features.WideMemory [] h = refl
  part_by features.WideMemory (i ∷ code) h = refl
  part_by features.Memories [] h = refl
  part_by features.Memories (i ∷ code) h = refl
  part_by f code h = let no : ⊥ = cc in absurd no

  wide_by : (code : List Instr) → has_of (started m code) features.WideGlobal ≡ has_of m features.WideGlobal
  wide_by [] = ap (λ ts. imports_some is_wide_global m || list_any (λ e. exports_wide_global ts e.desc) m.exports) (global_types_by [])
  wide_by (i ∷ code) = ap (λ ts. imports_some is_wide_global m || list_any (λ e. exports_wide_global ts e.desc) m.exports) (global_types_by (i ∷ code))

  tags_by : (code : List Instr) → (not (nat_eq (length (started m code).tags) 0) || imports_some is_tag (started m code)) ≡ (not (nat_eq (length m.tags) 0) || imports_some is_tag m)
  tags_by [] = refl
  tags_by (i ∷ code) = refl

  abbrev o : Module
  o = without_constants m

  nowhere : (f : Feature) → anywhere (shows f) m ≡ false → anywhere (shows f) o ≡ false
  nowhere f e = nowhere_new (shows f) (overlooks_new f) m e

  holds_none : (f : Feature) → holds f m ≡ false → holds f o ≡ false
  holds_none f e = holds_by f (setting_code m) ∙ e

  -- The lemma.
  pub fewer_features : (f : Feature) → is_told_apart f ≡ true → has_of m f ≡ false → has_of o f ≡ false
  fewer_features features.Floats h e =
      let both = none_of (declares features.Floats m || holds features.Floats m) (anywhere (shows features.Floats) m) e in
      let types = none_of (declares features.Floats m) (holds features.Floats m) both.0 in
      both_none (declares features.Floats o || holds features.Floats o) (anywhere (shows features.Floats) o)
      (both_none (declares features.Floats o) (holds features.Floats o) (declares_by features.Floats (setting_code m) types.0) (holds_none features.Floats types.1)) (nowhere features.Floats both.1)
  fewer_features features.Simd h e =
      let both = none_of (declares features.Simd m || holds features.Simd m) (anywhere (shows features.Simd) m) e in
      let types = none_of (declares features.Simd m) (holds features.Simd m) both.0 in
      both_none (declares features.Simd o || holds features.Simd o) (anywhere (shows features.Simd) o)
      (both_none (declares features.Simd o) (holds features.Simd o) (declares_by features.Simd (setting_code m) types.0) (holds_none features.Simd types.1)) (nowhere features.Simd both.1)
  fewer_features features.Exceptions h e =
      let tags = not (nat_eq (length m.tags) 0) || imports_some is_tag m in
      let both = none_of (tags || declares features.Exceptions m || holds features.Exceptions m) (anywhere (shows features.Exceptions) m) e in
      let types = none_of (tags || declares features.Exceptions m) (holds features.Exceptions m) both.0 in
      let first = none_of tags (declares features.Exceptions m) types.0 in
      let new = not (nat_eq (length o.tags) 0) || imports_some is_tag o in
      both_none (new || declares features.Exceptions o || holds features.Exceptions o) (anywhere (shows features.Exceptions) o)
      (both_none (new || declares features.Exceptions o) (holds features.Exceptions o)
      (both_none new (declares features.Exceptions o) (tags_by (setting_code m) ∙ first.0) (declares_by features.Exceptions (setting_code m) first.1)) (holds_none features.Exceptions types.1))
      (nowhere features.Exceptions both.1)
  fewer_features features.Refs h e =
      let both = none_of (declares features.Refs m) (outside_elements (shows features.Refs) m) e in
      both_none (declares features.Refs o) (outside_elements (shows features.Refs) o) (declares_by features.Refs (setting_code m) both.0) (outside_new (shows features.Refs) (overlooks_new features.Refs) m both.1)
  fewer_features features.Multi h e =
      let both = none_of (list_any has_several_results m.types) (anywhere (shows features.Multi) m) e in
      both_none (list_any has_several_results o.types) (anywhere (shows features.Multi) o) (several_by (setting_code m) both.0) (nowhere features.Multi both.1)
  fewer_features features.Bulk h e =
      let both = none_of (list_any (λ s. is_passive s.mode) m.datas) (anywhere (shows features.Bulk) m) e in
      both_none (list_any (λ s. is_passive s.mode) o.datas) (anywhere (shows features.Bulk) o) (passive_by (setting_code m) ∙ both.0) (nowhere features.Bulk both.1)
  fewer_features features.Sign h e = nowhere features.Sign e
  fewer_features features.TypedSelect h e = nowhere features.TypedSelect e
  fewer_features features.LateLanes h e = nowhere features.LateLanes e
  fewer_features features.Tail h e = nowhere features.Tail e
  fewer_features features.ExnrefTable h e = holds_none features.Exceptions e
  fewer_features features.WideGlobal h e = wide_by (setting_code m) ∙ e
  fewer_features features.WideTable h e = part_by features.WideTable (setting_code m) refl ∙ e
  fewer_features features.TableInitialiser h e = part_by features.TableInitialiser (setting_code m) refl ∙ e
  fewer_features features.ImportedTable h e = part_by features.ImportedTable (setting_code m) refl ∙ e
  fewer_features features.ImportedTag h e = part_by features.ImportedTag (setting_code m) refl ∙ e
  fewer_features features.ImportedMutableGlobal h e = part_by features.ImportedMutableGlobal (setting_code m) refl ∙ e
  fewer_features features.ImportedMemory h e = part_by features.ImportedMemory (setting_code m) refl ∙ e
  fewer_features features.ExportedTable h e = part_by features.ExportedTable (setting_code m) refl ∙ e
  fewer_features features.WideMemory h e = part_by features.WideMemory (setting_code m) refl ∙ e
  fewer_features features.Memories h e = part_by features.Memories (setting_code m) refl ∙ e
  fewer_features features.Constants h e = let no : ⊥ = cc in absurd no
  fewer_features features.Tables h e = let no : ⊥ = cc in absurd no
  fewer_features features.HostExnref h e = let no : ⊥ = cc in absurd no
