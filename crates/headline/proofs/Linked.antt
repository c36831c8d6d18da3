-- A module that offers what a typed module that crosses offers, tags aside: a host sees integers alone, and links the
-- crossed module as it links the module.
use Rattle.std.proofs.Common.{◌≡◌, ℕ, Bool, true, false, not, List, [], ◌∷◌, ◌++◌, map, take, filter_map, append-nil, Option, Some, None, option_map, option_and_then, slice_get, refl, sym, ap, ◌∙◌, subst}
use Rattle.std.specs.List.{AllByRecursion, filter, cons_option}
use Rattle.host_kit.specs.Fits.{ScriptFits}
use Rattle.host_kit.specs.Offered.{exported}
use Rattle.host_kit.specs.declared.event.Event.{Event}
use Rattle.host_kit.specs.declared.event.Event.TheVariants as event
use Rattle.host_kit.specs.declared.script.Item.{Item}
use Rattle.host_kit.specs.declared.script.Item.TheVariants.{Call, Host}
use Rattle.host_kit.specs.declared.script.Script.{Script}
use Rattle.host_kit.specs.declared.value.Value.{Value}
use Rattle.wasm_ast.specs.Spaces.{func_import, func_indices}
use Rattle.wasm_ast.specs.declared.module.parts.ExportDesc.{ExportDesc}
use Rattle.wasm_ast.specs.declared.module.parts.ExportDesc.TheVariants as exports
use Rattle.wasm_ast.specs.declared.module.parts.Module.{Module}
use Rattle.wasm_ast.specs.declared.module.ty.FuncType.{FuncType}
use Rattle.wasm_ast.specs.declared.module.ty.Ty.{Ty}
use Rattle.wasm_ast.specs.declared.module.ty.Ty.TheVariants as types
use Rattle.core1_ast.specs.declared.module.ty.FuncType1.{FuncType1}
use Rattle.core1_ast.specs.declared.module.ty.Ty1.{Ty1}
use Rattle.typed_trees.specs.declared.module.TypedFn.{TypedFn}
use Rattle.typed_trees.specs.Typed.{module_of, IsTypedTree}
use Rattle.meaning_new.specs.Interface.{ExternType, Imported, Exported, Interface, interface, func, table, memory, global, tag, tag_indices}
use Rattle.meaning_core1.specs.Interface as old
use Rattle.crossing.specs.Code.{cross_type, is_integer}
use Rattle.crossing.specs.Crossing.{AreIntegers}
use Rattle.crossing.specs.Interfaces.{cross_extern, cross_interface}
use Rattle.crossing.specs.Modules.{cross_func_type}
use Rattle.crossing.proofs.Keeping.{IfThere, all_get}
use Rattle.pass_cross.specs.Crossable.{Crossable}
use Rattle.pass_cross.proofs.Facts.{all_filtered}
use Rattle.headline.specs.Flattening.{flat, flattened}
use Rattle.pass_plain.specs.Plans.{is_tag_type}
use Rattle.headline.specs.MappedInterface.{mapped_extern, mapped_export, mapped_func, mapped_import, mapped_interface}
use Rattle.soundness.specs.Events.{exported_globals, global_type, EventTyped, ShownCall, AreShownAs, called_type, exported_type, imported_type, item_type}
use Rattle.headline.specs.Marks.{further_results}
use Rattle.headline.proofs.Called.{IsThere, called-same, imported-by, imported_by, stays}
use Rattle.headline.proofs.Events.{ShowsIntegers}
use Rattle.headline.proofs.Links.{IsLinked, IsPlainExtern, PlainType, exports_linked, imports_linked, no_linked_tag, no_tag_type, types_plain}
use Rattle.headline.proofs.Listed.{all_of, all_through, given}
use Rattle.headline.proofs.Marked.{linked_further, no_mark_types, no_marks_named}
use Rattle.headline.proofs.Values.{first_of, flat-integers}

-- ---- what links a module, as 1.0 writes it

abbrev made : List Ty1 → List Ty1 → FuncType1
made params results = record { params = params; results = results }

func-mapped : (t : FuncType) → PlainType t → mapped_func t ≡ cross_func_type t
func-mapped t h =
    ap (λ l. made l (take 1 (flat t.results))) (flat-integers t.params h.integers.params)
    ∙ ap (made (map cross_type t.params)) (ap (take 1) (flat-integers t.results h.integers.results) ∙ first_of t.results h.one)

global_mapped : (t : Ty) (b : Bool) → is_integer t ≡ true → option_map (λ word. old.global word b) (slice_get (flattened t) 0) ≡ Some (old.global (cross_type t) b)
global_mapped types.I32 b h = refl
global_mapped types.I64 b h = refl
global_mapped t b h = absurd cc

extern_mapped : (x : ExternType) → IsPlainExtern x → mapped_extern x ≡ Some (cross_extern x)
extern_mapped (func t) h = ap (λ (f : FuncType1). Some (old.func f)) (func-mapped t h)
extern_mapped (memory l) h = refl
extern_mapped (global t b) h = global_mapped t b h
extern_mapped (table t l) h = absurd h
extern_mapped (tag t) h = absurd h

type_mapped : {X : Type 0} (make : Option old.ExternType1 → X) (o : Option ExternType) → IsLinked o → option_map (λ type. make (Some type)) (option_and_then mapped_extern o) ≡ Some (make (option_map cross_extern o))
type_mapped make None h = absurd h
type_mapped make (Some x) h = ap (option_map (λ type. make (Some type))) (extern_mapped x h)

abbrev imported_with : Imported → Option old.ExternType1 → old.Imported1
imported_with x t = record { from = x.from; name = x.name; type = t }

abbrev exported_with : Exported → Option old.ExternType1 → old.Exported1
exported_with x t = record { name = x.name; type = t }

abbrev crossed_import : Imported → old.Imported1
crossed_import x = imported_with x (option_map cross_extern x.type)

abbrev crossed_export : Exported → old.Exported1
crossed_export x = exported_with x (option_map cross_extern x.type)

imports-mapped : (xs : List Imported) → AllByRecursion (λ x. IsLinked x.type) xs → filter_map mapped_import xs ≡ map crossed_import xs
imports-mapped [] h = refl
imports-mapped (x ∷ xs) h =
    ap (λ o. cons_option o (filter_map mapped_import xs)) (type_mapped (imported_with x) x.type h.0)
    ∙ ap (λ (l : List old.Imported1). crossed_import x ∷ l) (imports-mapped xs h.1)

exports-mapped : (xs : List Exported) → AllByRecursion (λ x. IsLinked x.type) xs → filter_map mapped_export xs ≡ map crossed_export xs
exports-mapped [] h = refl
exports-mapped (x ∷ xs) h =
    ap (λ o. cons_option o (filter_map mapped_export xs)) (type_mapped (exported_with x) x.type h.0)
    ∙ ap (λ (l : List old.Exported1). crossed_export x ∷ l) (exports-mapped xs h.1)

abbrev linked_by : List old.Imported1 → List old.Exported1 → old.Interface1
linked_by imported exported = record { imports = imported; exports = exported }

-- a tag is mapped to nothing, and is no global
tag_mapped : (make : old.ExternType1 → old.Exported1) (o : Option ExternType) → not (is_tag_type o) ≡ false → option_map make (option_and_then mapped_extern o) ≡ None
tag_mapped make (Some (tag t)) h = refl
tag_mapped make o h = absurd cc

no_global : (o : Option ExternType) → not (is_tag_type o) ≡ false → option_and_then global_type o ≡ None
no_global (Some (tag t)) h = refl
no_global o h = absurd cc

no_result : (o : Option ExternType) → not (is_tag_type o) ≡ false → further_results o ≡ 0
no_result (Some (tag t)) h = refl
no_result o h = absurd cc

is_there : (o : Option ExternType) → IsLinked o → IsThere o
is_there None h = h
is_there (Some x) h = tt

integer_global : (o : Option ExternType) → IsLinked o → IfThere (λ t. is_integer t ≡ true) (option_and_then global_type o)
integer_global None h = absurd h
integer_global (Some (func t)) h = tt
integer_global (Some (table t l)) h = tt
integer_global (Some (memory l)) h = tt
integer_global (Some (global t b)) h = h
integer_global (Some (tag t)) h = tt

empty_source : {A B : Type 0} (f : A → B) (l : List A) → map f l ≡ [] → l ≡ []
empty_source f [] e = refl
empty_source f (a ∷ l) e = absurd cc

-- ---- the types of functions

module _ (m : Module) (plain : AllByRecursion PlainType m.types) where
  pub index_plain : (o : Option ℕ) → IfThere PlainType (option_and_then (slice_get m.types) o)
  index_plain None = tt
  index_plain (Some t) = all_get PlainType m.types t plain

  export_plain : (o : Option ExportDesc) → IfThere PlainType (option_and_then (exported_type m) o)
  export_plain None = tt
  export_plain (Some (exports.Func x)) = index_plain (slice_get (func_indices m) x)
  export_plain (Some (exports.Table x)) = tt
  export_plain (Some (exports.Memory x)) = tt
  export_plain (Some (exports.Global x)) = tt
  export_plain (Some (exports.Tag x)) = tt

  item_plain : (o : Option Item) → IfThere PlainType (option_and_then (item_type m) o)
  item_plain None = tt
  item_plain (Some (Call name arguments)) = export_plain (exported m name)
  item_plain (Some (Host act)) = tt

  pub plain_at : (o : Option FuncType) (t : FuncType) → o ≡ Some t → IfThere PlainType o → PlainType t
  plain_at o t e h = subst (IfThere PlainType) e h

-- ---- the module

module _ (m : Module) (tree : Module × List TypedFn) (typed : IsTypedTree tree) (crossable : Crossable (module_of tree)) (offers : interface (module_of tree) ≡ record (interface m) { exports = filter stays (interface m).exports }) where
  abbrev o : Module
  o = module_of tree

  same_imports : (interface o).imports ≡ (interface m).imports
  same_imports = ap (λ (i : Interface). i.imports) offers

  pub same_exports : (interface o).exports ≡ filter stays (interface m).exports
  same_exports = ap (λ (i : Interface). i.exports) offers

  no_tags : (interface m).tags ≡ []
  no_tags = sym (ap (λ (i : Interface). i.tags) offers) ∙ no_linked_tag tree typed crossable

  linked_imports : AllByRecursion (λ x. IsLinked x.type) (interface m).imports
  linked_imports = subst (AllByRecursion (λ x. IsLinked x.type)) same_imports (imports_linked tree typed crossable)

  linked_exports : AllByRecursion (λ x. IsLinked x.type) (filter stays (interface m).exports)
  linked_exports = subst (AllByRecursion (λ x. IsLinked x.type)) same_exports (exports_linked tree typed crossable)

  few_imported : AllByRecursion (λ x. further_results x.type ≡ 0) (interface m).imports
  few_imported = all_through (λ x. IsLinked x.type) (λ x. further_results x.type ≡ 0) (interface m).imports (λ x h. linked_further x.type h) linked_imports

  few_exported : AllByRecursion (λ x. further_results x.type ≡ 0) (interface m).exports
  few_exported =
      all_of stays (λ x. further_results x.type ≡ 0) (λ x e. no_result x.type e) (interface m).exports
      (all_through (λ x. IsLinked x.type) (λ x. further_results x.type ≡ 0) (filter stays (interface m).exports) (λ x h. linked_further x.type h) linked_exports)

  -- the interface
  pub interface-mapped : cross_interface (interface o) ≡ mapped_interface (interface m)
  interface-mapped =
      ap cross_interface offers
      ∙ ap (λ l. linked_by l (map crossed_export (filter stays (interface m).exports))) (sym (imports-mapped (interface m).imports linked_imports))
      ∙ ap (linked_by (filter_map mapped_import (interface m).imports))
      (sym (exports-mapped (filter stays (interface m).exports) linked_exports)
      ∙ given stays mapped_export (λ x e. tag_mapped (λ type. exported_with x (Some type)) x.type e) (interface m).exports
      ∙ sym (append-nil (filter_map mapped_export (interface m).exports))
      ∙ ap (λ (l : List old.Exported1). filter_map mapped_export (interface m).exports ++ l) (sym (no_marks_named (interface m) no_tags few_imported few_exported)))

  -- the types of what a host sees
  abbrev shown_type : Exported → Option Ty
  shown_type e = option_and_then global_type e.type

  globals-same : exported_globals o ≡ exported_globals m
  globals-same = ap (filter_map shown_type) same_exports ∙ given stays shown_type (λ e. no_global e.type) (interface m).exports

  integer_globals : AreIntegers (exported_globals m)
  integer_globals =
      subst AreIntegers (given stays shown_type (λ e. no_global e.type) (interface m).exports)
      (all_filtered shown_type (λ t. is_integer t ≡ true) (filter stays (interface m).exports)
      (all_through (λ x. IsLinked x.type) (λ x. IfThere (λ t. is_integer t ≡ true) (shown_type x)) (filter stays (interface m).exports) (λ x h. integer_global x.type h) linked_exports))

  there_imports : (xs : List Imported) → AllByRecursion (λ x. IsLinked x.type) xs → AllByRecursion (λ x. IsThere x.type) xs
  there_imports xs h = all_through (λ x. IsLinked x.type) (λ x. IsThere x.type) xs (λ x k. is_there x.type k) h

  imported-same : (j : ℕ) → imported_type o j ≡ imported_type m j
  imported-same j =
      imported-by o (there_imports (interface o).imports (imports_linked tree typed crossable)) j
      ∙ ap (λ i. imported_by i j) offers
      ∙ sym (imported-by m (there_imports (interface m).imports linked_imports) j)

  plain : AllByRecursion PlainType o.types
  plain = types_plain tree typed crossable

  module _ (s : Script) (fits : ScriptFits m s) where
    called-at : (i : ℕ) → called_type o s i ≡ called_type m s i
    called-at i = called-same m o same_exports s fits i

    pub shows_integers : ShowsIntegers m s
    shows_integers = record {
      imported = λ j t e. plain_at o plain (imported_type o j) t (imported-same j ∙ e) (index_plain o plain (slice_get (filter_map (λ i. func_import i.desc) o.imports) j));
      called = λ i t e. plain_at o plain (called_type o s i) t (called-at i ∙ e) (item_plain o plain (slice_get s.items i));
      globals = integer_globals;
      tags = no_tags;
      mark_types = no_mark_types (interface m) no_tags few_imported few_exported;
      no_tag = λ x. ap (λ (l : List ℕ). option_and_then (slice_get m.types) (slice_get l x)) (empty_source (slice_get m.types) (tag_indices m) no_tags);
    }

    moved : (called called' : Option FuncType) → called ≡ called' → (shown : List Value) (P : FuncType → Type 0) → ShownCall o called shown P → ShownCall m called' shown P
    moved called called' e shown P h = record {
      type = h.type;
      named = sym e ∙ h.named;
      values = h.values;
      globals = subst (AreShownAs shown) globals-same h.globals;
    }

    event_typed : (e : Event) → EventTyped o s e → EventTyped m s e
    event_typed (event.HostCall j arguments globals) h = moved (imported_type o j) (imported_type m j) (imported-same j) globals (λ t. AreShownAs arguments t.params) h
    event_typed (event.Returned i results globals) h = moved (called_type o s i) (called_type m s i) (called-at i) globals (λ t. AreShownAs results t.results) h
    event_typed (event.Trapped i globals) h = moved (called_type o s i) (called_type m s i) (called-at i) globals (λ t. Unit {0}) h
    event_typed (event.Uncaught i x payload globals) h = let wrong : None ≡ Some h.1.type = sym (no_tag_type tree typed crossable x) ∙ h.1.named in absurd cc
    event_typed event.Full h = absurd h
    event_typed e h = tt

    pub events_typed : (es : List Event) → AllByRecursion (EventTyped o s) es → AllByRecursion (EventTyped m s) es
    events_typed es h = all_through (EventTyped o s) (EventTyped m s) es event_typed h
