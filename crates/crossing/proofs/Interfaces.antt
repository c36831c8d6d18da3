-- The interface crosses.
use Rattle.std.proofs.Common.{◌≡◌, ℕ, false, List, [], ◌∷◌, ◌++◌, map, Option, Some, None, option_map, refl, sym, ap, ◌∙◌}
use Rattle.std.specs.Prelude.{slice_get, filter_map, option_and_then}
use Rattle.std.specs.List.{AllByRecursion, cons_option}
use Rattle.std.proofs.lemmas.List.{map-append}
use Rattle.std.proofs.lemmas.Option.{slice_get-map}
use Rattle.wasm_ast.specs.Spaces.{is_tag, func_indices}
use Rattle.wasm_ast.specs.declared.module.ty.FuncType.{FuncType}
use Rattle.wasm_ast.specs.declared.module.ty.Limits.{Limits}
use Rattle.wasm_ast.specs.declared.module.parts.Global.{Global}
use Rattle.wasm_ast.specs.declared.module.parts.Table.{Table}
use Rattle.wasm_ast.specs.declared.module.parts.Import.{Import}
use Rattle.wasm_ast.specs.declared.module.parts.ImportDesc.{ImportDesc}
use Rattle.wasm_ast.specs.declared.module.parts.ImportDesc.TheVariants as imports
use Rattle.wasm_ast.specs.declared.module.parts.Export.{Export}
use Rattle.wasm_ast.specs.declared.module.parts.ExportDesc.{ExportDesc}
use Rattle.wasm_ast.specs.declared.module.parts.ExportDesc.TheVariants as exports
use Rattle.wasm_ast.specs.declared.module.parts.Module.{Module}
use Rattle.core1_ast.specs.Spaces as spaces1
use Rattle.core1_ast.specs.declared.module.parts.Import1.{Import1}
use Rattle.core1_ast.specs.declared.module.parts.Export1.{Export1}
use Rattle.core1_ast.specs.declared.module.parts.Global1.{Global1}
use Rattle.meaning_new.specs.Interface as new
use Rattle.meaning_core1.specs.Interface as old
use Rattle.crossing.specs.Modules.{cross, cross_func_type, cross_limits, cross_import_desc, cross_import, cross_global, cross_export_desc, cross_export}
use Rattle.crossing.specs.Code.{cross_type}
use Rattle.crossing.specs.Interfaces.{cross_extern, cross_interface, exports_tag, LinksNoTag, CrossesInterface}
use Rattle.crossing.proofs.Types.{indices-cross}

-- what imports add to an index space
cons_images : {Y Y' Z : Type 0} (g : Y → Z) (g' : Y' → Z) (o : Option Y) (o' : Option Y') (l : List Y) (l' : List Y') → option_map g' o' ≡ option_map g o → map g' l' ≡ map g l → map g' (cons_option o' l') ≡ map g (cons_option o l)
cons_images g g' None None l l' e f = f
cons_images g g' None (Some y') l l' e f = absurd cc
cons_images g g' (Some y) None l l' e f = absurd cc
cons_images g g' (Some y) (Some y') l l' e f = ap (λ o. cons_option o (map g' l')) e ∙ ap (λ r. g y ∷ r) f

filtered : {X X' Y Y' Z : Type 0} (f : X → X') (g : Y → Z) (g' : Y' → Z) (h : X → Option Y) (h' : X' → Option Y') → ((x : X) → option_map g' (h' (f x)) ≡ option_map g (h x)) → (xs : List X) → map g' (filter_map h' (map f xs)) ≡ map g (filter_map h xs)
filtered f g g' h h' e [] = refl
filtered f g g' h h' e (x ∷ xs) = cons_images g g' (h x) (h' (f x)) (filter_map h xs) (filter_map h' (map f xs)) (e x) (filtered f g g' h h' e xs)

table_of : (d : ImportDesc) → option_map (λ l. old.table l) (spaces1.table_import (cross_import_desc d)) ≡ option_map cross_extern (new.table_import d)
table_of (imports.Table t l) = refl
table_of (imports.Func x) = refl
table_of (imports.Memory l) = refl
table_of (imports.Global t mutable) = refl
table_of (imports.Tag x) = refl

memory_of : (d : ImportDesc) → option_map (λ l. old.memory l) (spaces1.memory_import (cross_import_desc d)) ≡ option_map cross_extern (new.memory_import d)
memory_of (imports.Memory l) = refl
memory_of (imports.Func x) = refl
memory_of (imports.Table t l) = refl
memory_of (imports.Global t mutable) = refl
memory_of (imports.Tag x) = refl

own_tables : (ts : List Table) → map (λ l. old.table l) (map (λ t. cross_limits t.limits) ts) ≡ map cross_extern (map (λ t. new.table t.ty t.limits) ts)
own_tables [] = refl
own_tables (t ∷ ts) = ap (λ r. old.table (cross_limits t.limits) ∷ r) (own_tables ts)

own_memories : (ls : List Limits) → map (λ l. old.memory l) (map cross_limits ls) ≡ map cross_extern (map (λ l. new.memory l) ls)
own_memories [] = refl
own_memories (l ∷ ls) = ap (λ r. old.memory (cross_limits l) ∷ r) (own_memories ls)

abbrev global1 : spaces1.GlobalType → old.ExternType1
global1 g = old.global g.type g.mutable

abbrev typed_global : Global1 → spaces1.GlobalType
typed_global g = record { type = g.ty; mutable = g.mutable }

own_globals : (gs : List Global) → map global1 (map typed_global (map cross_global gs)) ≡ map cross_extern (map (λ g. new.global g.ty g.mutable) gs)
own_globals [] = refl
own_globals (g ∷ gs) = ap (λ r. old.global (cross_type g.ty) g.mutable ∷ r) (own_globals gs)

global_of : (d : ImportDesc) → is_tag d ≡ false → option_map global1 (spaces1.global_import (cross_import_desc d)) ≡ option_map cross_extern (new.global_import d)
global_of (imports.Global t mutable) h = refl
global_of (imports.Func x) h = refl
global_of (imports.Table t l) h = refl
global_of (imports.Memory l) h = refl
global_of (imports.Tag x) h = absurd cc

-- the globals, where no tag is imported, which is written as one
imported_globals : (is : List Import) → AllByRecursion (λ (i : Import). is_tag i.desc ≡ false) is → map global1 (filter_map (λ i. spaces1.global_import i.desc) (map cross_import is)) ≡ map cross_extern (filter_map (λ i. new.global_import i.desc) is)
imported_globals [] h = refl
imported_globals (i ∷ is) h =
    cons_images cross_extern global1 (new.global_import i.desc) (spaces1.global_import (cross_import_desc i.desc)) (filter_map (λ j. new.global_import j.desc) is) (filter_map (λ j. spaces1.global_import j.desc) (map cross_import is)) (global_of i.desc h.0) (imported_globals is h.1)

module _ (m : Module) (none : LinksNoTag m) where
  tables-cross : map (λ l. old.table l) (spaces1.all_tables (cross m)) ≡ map cross_extern (new.all_tables m)
  tables-cross =
      map-append (λ l. old.table l) (filter_map (λ i. spaces1.table_import i.desc) (map cross_import m.imports)) (map (λ t. cross_limits t.limits) m.tables)
      ∙ ap (λ r. r ++ map (λ l. old.table l) (map (λ t. cross_limits t.limits) m.tables)) (filtered cross_import cross_extern (λ l. old.table l) (λ i. new.table_import i.desc) (λ i. spaces1.table_import i.desc) (λ i. table_of i.desc) m.imports)
      ∙ ap (λ r. map cross_extern (filter_map (λ i. new.table_import i.desc) m.imports) ++ r) (own_tables m.tables)
      ∙ sym (map-append cross_extern (filter_map (λ i. new.table_import i.desc) m.imports) (map (λ t. new.table t.ty t.limits) m.tables))

  memories-cross : map (λ l. old.memory l) (spaces1.all_memories (cross m)) ≡ map cross_extern (new.all_memories m)
  memories-cross =
      map-append (λ l. old.memory l) (filter_map (λ i. spaces1.memory_import i.desc) (map cross_import m.imports)) (map cross_limits m.memories)
      ∙ ap (λ r. r ++ map (λ l. old.memory l) (map cross_limits m.memories)) (filtered cross_import cross_extern (λ l. old.memory l) (λ i. new.memory_import i.desc) (λ i. spaces1.memory_import i.desc) (λ i. memory_of i.desc) m.imports)
      ∙ ap (λ r. map cross_extern (filter_map (λ i. new.memory_import i.desc) m.imports) ++ r) (own_memories m.memories)
      ∙ sym (map-append cross_extern (filter_map (λ i. new.memory_import i.desc) m.imports) (map (λ l. new.memory l) m.memories))

  globals-cross : map global1 (spaces1.all_globals (cross m)) ≡ map cross_extern (new.all_globals m)
  globals-cross =
      map-append global1 (spaces1.imported_globals (cross m)) (map typed_global (map cross_global m.globals))
      ∙ ap (λ r. r ++ map global1 (map typed_global (map cross_global m.globals))) (imported_globals m.imports none.imports)
      ∙ ap (λ r. map cross_extern (filter_map (λ i. new.global_import i.desc) m.imports) ++ r) (own_globals m.globals)
      ∙ sym (map-append cross_extern (filter_map (λ i. new.global_import i.desc) m.imports) (map (λ g. new.global g.ty g.mutable) m.globals))

  type_image : (o : Option FuncType) → option_map (λ t. old.func t) (option_map cross_func_type o) ≡ option_map cross_extern (option_map (λ t. new.func t) o)
  type_image None = refl
  type_image (Some t) = refl

  typed-cross : (t : ℕ) → old.typed_func (cross m) t ≡ option_map cross_extern (new.typed_func m t)
  typed-cross t = ap (option_map (λ x. old.func x)) (slice_get-map cross_func_type m.types t) ∙ type_image (slice_get m.types t)

  func_image : (o : Option ℕ) → option_and_then (old.typed_func (cross m)) o ≡ option_map cross_extern (option_and_then (new.typed_func m) o)
  func_image None = refl
  func_image (Some t) = typed-cross t

  import-cross : (d : ImportDesc) → is_tag d ≡ false → old.import_type (cross m) (cross_import_desc d) ≡ option_map cross_extern (new.import_type m d)
  import-cross (imports.Func t) h = typed-cross t
  import-cross (imports.Table t l) h = refl
  import-cross (imports.Memory l) h = refl
  import-cross (imports.Global t mutable) h = refl
  import-cross (imports.Tag t) h = absurd cc

  -- what stands at an index, by both spaces
  at_index : {Y' : Type 0} (g' : Y' → old.ExternType1) (l' : List Y') (l : List new.ExternType) (x : ℕ) → map g' l' ≡ map cross_extern l → option_map g' (slice_get l' x) ≡ option_map cross_extern (slice_get l x)
  at_index g' l' l x e = sym (slice_get-map g' l' x) ∙ ap (λ r. slice_get r x) e ∙ slice_get-map cross_extern l x

  export-cross : (d : ExportDesc) → exports_tag d ≡ false → old.export_type (cross m) (cross_export_desc d) ≡ option_map cross_extern (new.export_type m d)
  export-cross (exports.Func x) h = ap (λ (l : List ℕ). option_and_then (old.typed_func (cross m)) (slice_get l x)) (indices-cross m) ∙ func_image (slice_get (func_indices m) x)
  export-cross (exports.Table x) h = at_index (λ l. old.table l) (spaces1.all_tables (cross m)) (new.all_tables m) x tables-cross
  export-cross (exports.Memory x) h = at_index (λ l. old.memory l) (spaces1.all_memories (cross m)) (new.all_memories m) x memories-cross
  export-cross (exports.Global x) h = at_index global1 (spaces1.all_globals (cross m)) (new.all_globals m) x globals-cross
  export-cross (exports.Tag x) h = absurd cc

  abbrev old_import : Import1 → old.Imported1
  old_import i = record { from = i.«module»; name = i.name; type = old.import_type (cross m) i.desc }

  abbrev new_import : Import → new.Imported
  new_import i = record { from = i.«module»; name = i.name; type = new.import_type m i.desc }

  abbrev import_image : new.Imported → old.Imported1
  import_image x = record { from = x.from; name = x.name; type = option_map cross_extern x.type }

  abbrev old_export : Export1 → old.Exported1
  old_export e = record { name = e.name; type = old.export_type (cross m) e.desc }

  abbrev new_export : Export → new.Exported
  new_export e = record { name = e.name; type = new.export_type m e.desc }

  abbrev export_image : new.Exported → old.Exported1
  export_image x = record { name = x.name; type = option_map cross_extern x.type }

  imports-cross : (is : List Import) → AllByRecursion (λ (i : Import). is_tag i.desc ≡ false) is → map old_import (map cross_import is) ≡ map import_image (map new_import is)
  imports-cross [] h = refl
  imports-cross (i ∷ is) h =
      ap (λ (t : Option old.ExternType1). record { from = i.«module»; name = i.name; type = t } ∷ map old_import (map cross_import is)) (import-cross i.desc h.0)
      ∙ ap (λ (r : List old.Imported1). import_image (new_import i) ∷ r) (imports-cross is h.1)

  exports-cross : (es : List Export) → AllByRecursion (λ (e : Export). exports_tag e.desc ≡ false) es → map old_export (map cross_export es) ≡ map export_image (map new_export es)
  exports-cross [] h = refl
  exports-cross (e ∷ es) h =
      ap (λ (t : Option old.ExternType1). record { name = e.name; type = t } ∷ map old_export (map cross_export es)) (export-cross e.desc h.0)
      ∙ ap (λ (r : List old.Exported1). export_image (new_export e) ∷ r) (exports-cross es h.1)

pub interface-cross : CrossesInterface
interface-cross m none =
    ap (λ (l : List old.Imported1). record (old.interface1 (cross m)) { imports = l }) (imports-cross m none m.imports none.imports)
    ∙ ap (λ (l : List old.Exported1). record (cross_interface (new.interface m)) { exports = l }) (exports-cross m none m.exports none.exports)
