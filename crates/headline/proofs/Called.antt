-- The functions that a host calls and that call it, by the interface alone.
use Rattle.std.proofs.Common.{◌≡◌, ℕ, zero, suc, Bool, false, not, List, [], ◌∷◌, map, filter_map, Option, Some, None, option_map, option_and_then, slice_get, refl, sym, ap, ◌∙◌}
use Rattle.std.specs.Prelude.{bytes_eq}
use Rattle.std.specs.List.{AllByRecursion, filter, find, cons_option}
use Rattle.host_kit.specs.Fits.{ItemFits, ScriptFits}
use Rattle.host_kit.specs.Offered.{exported}
use Rattle.host_kit.specs.declared.script.Item.{Item}
use Rattle.host_kit.specs.declared.script.Item.TheVariants.{Call, Host}
use Rattle.host_kit.specs.declared.script.Script.{Script}
use Rattle.wasm_ast.specs.Spaces.{func_import, func_indices}
use Rattle.wasm_ast.specs.declared.module.parts.Export.{Export}
use Rattle.wasm_ast.specs.declared.module.parts.ExportDesc.{ExportDesc}
use Rattle.wasm_ast.specs.declared.module.parts.ExportDesc.TheVariants as exports
use Rattle.wasm_ast.specs.declared.module.parts.Global.{Global}
use Rattle.wasm_ast.specs.declared.module.parts.Import.{Import}
use Rattle.wasm_ast.specs.declared.module.parts.ImportDesc.{ImportDesc}
use Rattle.wasm_ast.specs.declared.module.parts.ImportDesc.TheVariants as imports
use Rattle.wasm_ast.specs.declared.module.parts.Module.{Module}
use Rattle.wasm_ast.specs.declared.module.parts.Table.{Table}
use Rattle.wasm_ast.specs.declared.module.ty.FuncType.{FuncType}
use Rattle.wasm_ast.specs.declared.module.ty.Limits.{Limits}
use Rattle.meaning_new.specs.Interface.{ExternType, Imported, Exported, Interface, interface, func, table, memory, global, tag, typed_func, typed_tag, table_import, memory_import, global_import, all_tables, all_memories, all_globals, tag_indices, import_type, export_type}
use Rattle.crossing.proofs.Keeping.{IfThere, all_append, all_get}
use Rattle.crossing.proofs.Types.{filter_map-cross}
use Rattle.pass_cross.proofs.Facts.{all_map, all_filtered}
use Rattle.pass_plain.specs.Plans.{is_tag_type}
use Rattle.soundness.specs.Events.{imported_type, exported_type, item_type, called_type}
use Rattle.headline.proofs.Listed.{There, found, find-map}

-- the type of a function that is linked
abbrev pub func_of : Option ExternType → Option FuncType
func_of (Some (func t)) = Some t
func_of _ = None

-- ---- imported functions

abbrev pub imported_by : Interface → ℕ → Option FuncType
imported_by i j = slice_get (filter_map (λ x. func_of x.type) i.imports) j

-- the import is linked
abbrev pub IsThere : Option ExternType → Type 0
IsThere o = There (λ x. Unit {0}) o

no_func : (o : Option FuncType) → func_of (option_map (λ t. tag t) o) ≡ None
no_func None = refl
no_func (Some t) = refl

module _ (m : Module) where
  abbrev SameAt : List ℕ → List FuncType → Type 0
  SameAt fs gs = (j : ℕ) → option_and_then (slice_get m.types) (slice_get fs j) ≡ slice_get gs j

  func_next : (t : ℕ) (o : Option FuncType) → slice_get m.types t ≡ o → IsThere (option_map (λ x. func x) o) → (fs : List ℕ) (gs : List FuncType) → SameAt fs gs → SameAt (t ∷ fs) (cons_option (func_of (option_map (λ x. func x) o)) gs)
  func_next t None e there fs gs h j = absurd there
  func_next t (Some f) e there fs gs h zero = e
  func_next t (Some f) e there fs gs h (suc j) = h j

  import_next : (d : ImportDesc) → IsThere (import_type m d) → (fs : List ℕ) (gs : List FuncType) → SameAt fs gs → SameAt (cons_option (func_import d) fs) (cons_option (func_of (import_type m d)) gs)
  import_next (imports.Func t) there fs gs h j = func_next t (slice_get m.types t) refl there fs gs h j
  import_next (imports.Table t l) there fs gs h j = h j
  import_next (imports.Memory l) there fs gs h j = h j
  import_next (imports.Global t mutable) there fs gs h j = h j
  import_next (imports.Tag t) there fs gs h j = h j ∙ ap (λ o. slice_get (cons_option o gs) j) (sym (no_func (slice_get m.types t)))

  imports_at : (is : List Import) → AllByRecursion (λ i. IsThere (import_type m i.desc)) is → SameAt (filter_map (λ i. func_import i.desc) is) (filter_map (λ i. func_of (import_type m i.desc)) is)
  imports_at [] h j = refl
  imports_at (i ∷ is) h j = import_next i.desc h.0 (filter_map (λ i. func_import i.desc) is) (filter_map (λ i. func_of (import_type m i.desc)) is) (imports_at is h.1) j

  abbrev pub as_imported : Import → Imported
  as_imported i = record { from = i.«module»; name = i.name; type = import_type m i.desc }

  all_there : (is : List Import) → AllByRecursion (λ x. IsThere x.type) (map as_imported is) → AllByRecursion (λ i. IsThere (import_type m i.desc)) is
  all_there [] h = tt
  all_there (i ∷ is) h = (h.0, all_there is h.1)

  pub imported-by : AllByRecursion (λ x. IsThere x.type) (interface m).imports → (j : ℕ) → imported_type m j ≡ imported_by (interface m) j
  imported-by h j =
      imports_at m.imports (all_there m.imports h) j
      ∙ ap (λ l. slice_get l j) (sym (filter_map-cross as_imported (λ i. func_of (import_type m i.desc)) (λ x. func_of x.type) (λ i. refl) m.imports))

-- ---- exported functions

abbrev pub called_by : List Exported → List ℕ → Option FuncType
called_by es name = option_and_then (λ e. func_of e.type) (find (λ e. bytes_eq e.name name) es)

-- of what is no function
abbrev IsOther : ExternType → Type 0
IsOther x = func_of (Some x) ≡ None

other_there : (o : Option ExternType) → IfThere IsOther o → None ≡ func_of o
other_there None h = refl
other_there (Some x) h = sym h

module _ (m : Module) where
  table_other : (d : ImportDesc) → IfThere IsOther (table_import d)
  table_other (imports.Table t l) = refl
  table_other (imports.Func x) = tt
  table_other (imports.Memory l) = tt
  table_other (imports.Global t b) = tt
  table_other (imports.Tag x) = tt

  memory_other : (d : ImportDesc) → IfThere IsOther (memory_import d)
  memory_other (imports.Memory l) = refl
  memory_other (imports.Func x) = tt
  memory_other (imports.Table t l) = tt
  memory_other (imports.Global t b) = tt
  memory_other (imports.Tag x) = tt

  global_other : (d : ImportDesc) → IfThere IsOther (global_import d)
  global_other (imports.Global t b) = refl
  global_other (imports.Func x) = tt
  global_other (imports.Table t l) = tt
  global_other (imports.Memory l) = tt
  global_other (imports.Tag x) = tt

  each : {A : Type 0} (P : A → Type 0) → ((a : A) → P a) → (l : List A) → AllByRecursion P l
  each P f [] = tt
  each P f (a ∷ l) = (f a, each P f l)

  others : (kind : ImportDesc → Option ExternType) → ((d : ImportDesc) → IfThere IsOther (kind d)) → AllByRecursion IsOther (filter_map (λ i. kind i.desc) m.imports)
  others kind h = all_filtered (λ i. kind i.desc) IsOther m.imports (each (λ i. IfThere IsOther (kind i.desc)) (λ i. h i.desc) m.imports)

  table_others : AllByRecursion IsOther (all_tables m)
  table_others =
      all_append IsOther (filter_map (λ i. table_import i.desc) m.imports) (map (λ t. table t.ty t.limits) m.tables) (others table_import table_other)
      (all_map (λ (t : Table). table t.ty t.limits) IsOther m.tables (each (λ (t : Table). IsOther (table t.ty t.limits)) (λ t. refl) m.tables))

  memory_others : AllByRecursion IsOther (all_memories m)
  memory_others =
      all_append IsOther (filter_map (λ i. memory_import i.desc) m.imports) (map (λ l. memory l) m.memories) (others memory_import memory_other)
      (all_map (λ (l : Limits). memory l) IsOther m.memories (each (λ (l : Limits). IsOther (memory l)) (λ l. refl) m.memories))

  global_others : AllByRecursion IsOther (all_globals m)
  global_others =
      all_append IsOther (filter_map (λ i. global_import i.desc) m.imports) (map (λ g. global g.ty g.mutable) m.globals) (others global_import global_other)
      (all_map (λ (g : Global). global g.ty g.mutable) IsOther m.globals (each (λ (g : Global). IsOther (global g.ty g.mutable)) (λ g. refl) m.globals))

  func_image : (o : Option FuncType) → o ≡ func_of (option_map (λ x. func x) o)
  func_image None = refl
  func_image (Some t) = refl

  func_at : (o : Option ℕ) → option_and_then (slice_get m.types) o ≡ func_of (option_and_then (typed_func m) o)
  func_at None = refl
  func_at (Some t) = func_image (slice_get m.types t)

  tag_at : (o : Option ℕ) → None ≡ func_of (option_and_then (typed_tag m) o)
  tag_at None = refl
  tag_at (Some t) = sym (no_func (slice_get m.types t))

  export_at : (d : ExportDesc) → exported_type m d ≡ func_of (export_type m d)
  export_at (exports.Func x) = func_at (slice_get (func_indices m) x)
  export_at (exports.Table x) = other_there (slice_get (all_tables m) x) (all_get IsOther (all_tables m) x table_others)
  export_at (exports.Memory x) = other_there (slice_get (all_memories m) x) (all_get IsOther (all_memories m) x memory_others)
  export_at (exports.Global x) = other_there (slice_get (all_globals m) x) (all_get IsOther (all_globals m) x global_others)
  export_at (exports.Tag x) = tag_at (slice_get (tag_indices m) x)

  abbrev pub as_exported : Export → Exported
  as_exported e = record { name = e.name; type = export_type m e.desc }

  found_at : (o : Option Export) → option_and_then (exported_type m) (option_map (λ e. e.desc) o) ≡ option_and_then (λ x. func_of x.type) (option_map as_exported o)
  found_at None = refl
  found_at (Some e) = export_at e.desc

  pub called-by : (name : List ℕ) → option_and_then (exported_type m) (exported m name) ≡ called_by (interface m).exports name
  called-by name =
      found_at (find (λ e. bytes_eq e.name name) m.exports)
      ∙ ap (option_and_then (λ x. func_of x.type)) (sym (find-map as_exported (λ x. bytes_eq x.name name) m.exports))

-- ---- without tags

abbrev pub stays : Exported → Bool
stays e = not (is_tag_type e.type)

pub tags_call_nothing : (o : Option ExternType) → not (is_tag_type o) ≡ false → func_of o ≡ None
tags_call_nothing (Some (tag t)) h = refl
tags_call_nothing (Some (func t)) h = absurd cc
tags_call_nothing o h = absurd cc

module _ (m o : Module) (offers : (interface o).exports ≡ filter stays (interface m).exports) where
  item-same : (item : Item) → ItemFits m item → item_type o item ≡ item_type m item
  item-same (Call name arguments) fits =
      let is : option_and_then (exported_type m) (exported m name) ≡ Some fits.type = ap (option_and_then (exported_type m)) fits.offered ∙ fits.typed in
      called-by o name ∙ ap (λ es. called_by es name) offers
      ∙ found stays (λ e. bytes_eq e.name name) (λ e. func_of e.type) (λ e. tags_call_nothing e.type) fits.type (interface m).exports (sym (called-by m name) ∙ is)
      ∙ sym is
  item-same (Host act) fits = refl

  at : (item : Option Item) → IfThere (ItemFits m) item → option_and_then (item_type o) item ≡ option_and_then (item_type m) item
  at None h = refl
  at (Some item) h = item-same item h

  pub called-same : (s : Script) → ScriptFits m s → (i : ℕ) → called_type o s i ≡ called_type m s i
  called-same s fits i = at (slice_get s.items i) (all_get (ItemFits m) s.items i fits.items)
