-- A crossed module is typed by the rules of 1.0.
use Rattle.std.proofs.Common.{◌≡◌, ◌≢◌, ◌≤◌, ◌<◌, ◌^◌, ◌-◌, ℕ, zero, suc, true, false, List, [], ◌∷◌, ◌++◌, map, length, Option, Some, None, option_map, refl, sym, ap, ◌∙◌, subst, arith}
use Rattle.std.specs.Prelude.{slice_get, slice_index_or, filter_map, flat_map, option_and_then, AllPairs}
use Rattle.std.specs.List.{AllByRecursion, cons_option}
use Rattle.std.proofs.lemmas.List.{length-map}
use Rattle.std.proofs.lemmas.Option.{slice_get-map}
use Rattle.wasm_ast.specs.declared.module.ty.FuncType.{FuncType}
use Rattle.wasm_ast.specs.declared.module.ty.Limits.{Limits}
use Rattle.wasm_ast.specs.declared.module.parts.Import.{Import}
use Rattle.wasm_ast.specs.declared.module.parts.ImportDesc.{ImportDesc}
use Rattle.wasm_ast.specs.declared.module.parts.ImportDesc.TheVariants as imports
use Rattle.wasm_ast.specs.declared.module.parts.Export.{Export}
use Rattle.wasm_ast.specs.declared.module.parts.ExportDesc.{ExportDesc}
use Rattle.wasm_ast.specs.declared.module.parts.ExportDesc.TheVariants as exports
use Rattle.wasm_ast.specs.declared.module.parts.Element.{Element}
use Rattle.wasm_ast.specs.declared.module.parts.Module.{Module}
use Rattle.wasm_ast.specs.Has.{is_wide_memory}
use Rattle.wasm_ast.specs.Spaces.{is_tag, func_indices}
use Rattle.core1_ast.specs.declared.module.parts.Export1.{Export1}
use Rattle.core1_ast.specs.Code as old
use Rattle.core1_ast.specs.Typing as typing1
use Rattle.core1_ast.specs.Typing.{Typed1}
use Rattle.typed_trees.specs.declared.module.TypedFn.{TypedFn}
use Rattle.typed_trees.specs.Contexts.{func_type}
use Rattle.typed_trees.specs.Typed.{module_of, IsTypedTree}
use Rattle.typed_trees.specs.Modules.{IsGreatest, page_bound, tag_import, all_tags, all_globals, context, TypedLimits, TypedMemory, TypedTable, TypedImport, TypedDesc, TypedStart}
use Rattle.crossing.specs.Code.{is_integer, cross_type}
use Rattle.crossing.specs.Modules.{cross_func_type, cross_limits, cross_import_desc, cross_import, cross_global, cross_export_desc, cross_export, cross_element, cross_segment, cross}
use Rattle.crossing.specs.Crossing.{TypeCrosses}
use Rattle.crossing.proofs.Keeping.{all_append}
use Rattle.crossing.proofs.Types.{indices-cross}
use Rattle.pass_cross.specs.Short.{IsShortThroughout}
use Rattle.pass_cross.specs.Contexts.{cross_types, cross_global_type}
use Rattle.pass_cross.specs.Crossable.{Crossable}
use Rattle.pass_cross.proofs.Trees.{integer_typed}
use Rattle.pass_cross.proofs.Facts.{all_zip, all_map, DescInteger, one_result, one_table, one_memory, own_narrow, imports_narrow, no_tags, no_tag_imports}
use Rattle.pass_cross.proofs.Spaces.{tables_cross, memories_cross, globals_cross}
use Rattle.pass_cross.proofs.Bodies.{types_typed, types_cross, codes_typed, own_integers, descs}
use Rattle.pass_cross.proofs.Segments.{globals_out, elements_out, segments_out}
use Rattle.pass_cross.proofs.Whole.{all_weaker}

-- limits
greatest_within : (a b least : ℕ) (o : Option ℕ) → a ≤ b → IsGreatest a least o → typing1.IsGreatest b least o
greatest_within a b least None le h = tt
greatest_within a b least (Some n) le h = let first = h.0 in (omega arith, h.1)

limits_within : (a b : ℕ) (l : Limits) → a ≤ b → TypedLimits a l → typing1.TypedLimits b (cross_limits l)
limits_within a b l le h = let least = h.least in record { least = omega arith; greatest = greatest_within a b l.min l.max le h.greatest }

table_limits : (l : Limits) → TypedLimits (2 ^ 32 - 1) l → typing1.TypedTable (cross_limits l)
table_limits l h = limits_within 4294967295 4294967296 l (omega arith) h

memory_limits : (l : Limits) → l.wide ≡ false → TypedMemory l → typing1.TypedMemory (cross_limits l)
memory_limits l narrow h = limits_within (2 ^ 16) (2 ^ 16) l (omega arith) (subst (λ b. TypedLimits (page_bound b) l) narrow h)

-- names stay
name_at : (es : List Export) (i : ℕ) (d : Export1) (d' : Export) → i < length es → (slice_index_or (map cross_export es) i d).name ≡ (slice_index_or es i d').name
name_at [] i d d' lt = let no : ⊥ = omega arith in absurd no
name_at (e ∷ es) zero d d' lt = refl
name_at (e ∷ es) (suc i) d d' lt = let less : i < length es = omega arith in name_at es i d d' less

names_cross : (es : List Export) → AllPairs (λ a b. a.name ≢ b.name) es → AllPairs (λ a b. a.name ≢ b.name) (map cross_export es)
names_cross es h i j d before within same =
    let count = length-map es cross_export in
    let second : j < length es = omega arith in
    let first : i < length es = omega arith in
    let spare : Export = record { name = d.name; desc = exports.Func 0 } in
    h i j spare before second (sym (name_at es i d spare first) ∙ same ∙ name_at es j d spare second)

module _ (p : Module × List TypedFn) (is_typed : IsTypedTree p) (h : Crossable (module_of p)) where
  abbrev m : Module
  m = module_of p

  types_out : AllByRecursion typing1.TypedFuncType (cross m).types
  types_out =
      all_map cross_func_type typing1.TypedFuncType m.types
      (all_zip TypeCrosses (λ t. length t.results ≤ 1) (λ t. typing1.TypedFuncType (cross_func_type t)) m.types
      (λ t k le. record { params = types_typed t.params k.params; results = types_typed t.results k.results; one = subst (λ n. n ≤ 1) (sym (length-map t.results cross_type)) le })
      (types_cross p is_typed h) (one_result m h))

  record ImportFacts (d : ImportDesc) : Type 0 where
    narrow : is_wide_memory d ≡ false
    untagged : is_tag d ≡ false
    integer : DescInteger d

  import_out : (d : ImportDesc) → TypedImport m d → ImportFacts d → typing1.TypedImport (cross m) (cross_import_desc d)
  import_out (imports.Func t) k f = subst (λ n. t < n) (sym (length-map m.types cross_func_type)) k
  import_out (imports.Table t l) k f = table_limits l k.limits
  import_out (imports.Memory l) k f = memory_limits l f.narrow k
  import_out (imports.Global t b) k f = integer_typed t f.integer
  import_out (imports.Tag x) k f = let no = f.untagged in absurd cc

  facts : AllByRecursion (λ i. ImportFacts i.desc) m.imports
  facts =
      all_zip (λ i. is_wide_memory i.desc ≡ false) (λ i. (is_tag i.desc ≡ false) × DescInteger i.desc) (λ i. ImportFacts i.desc) m.imports (λ i a b. record { narrow = a; untagged = b.0; integer = b.1 }) (imports_narrow m h)
      (all_zip (λ i. is_tag i.desc ≡ false) (λ i. DescInteger i.desc) (λ i. (is_tag i.desc ≡ false) × DescInteger i.desc) m.imports (λ i a b. (a, b)) (no_tag_imports m h) (descs p is_typed h))

  imports_out : AllByRecursion (λ i. typing1.TypedImport (cross m) i.desc) (cross m).imports
  imports_out = all_map cross_import (λ i. typing1.TypedImport (cross m) i.desc) m.imports (all_zip (λ i. TypedImport m i.desc) (λ i. ImportFacts i.desc) (λ i. typing1.TypedImport (cross m) (cross_import_desc i.desc)) m.imports (λ i k f. import_out i.desc k f) is_typed.parts.imports facts)

  tables_out : AllByRecursion typing1.TypedTable (cross m).tables
  tables_out = all_map (λ t. cross_limits t.limits) typing1.TypedTable m.tables (all_weaker (TypedTable m) (λ t. typing1.TypedTable (cross_limits t.limits)) m.tables (λ t k. table_limits t.limits k.type.limits) is_typed.parts.tables)

  memories_out : AllByRecursion typing1.TypedMemory (cross m).memories
  memories_out = all_map cross_limits typing1.TypedMemory m.memories (all_zip (λ l. l.wide ≡ false) TypedMemory (λ l. typing1.TypedMemory (cross_limits l)) m.memories (λ l a k. memory_limits l a k) (own_narrow m h) is_typed.parts.memories)

  globals_typed : AllByRecursion (typing1.TypedGlobal (cross m)) (cross m).globals
  globals_typed =
      all_map cross_global (typing1.TypedGlobal (cross m)) m.globals
      (all_zip (λ g. is_integer g.ty ≡ true) _ (λ g. typing1.TypedGlobal (cross m) (cross_global g)) m.globals (λ g i o. record { type = integer_typed g.ty i; init = o.typed }) (own_integers p is_typed h) (globals_out p is_typed h))

  -- exports
  no_tag_at : (is : List Import) → AllByRecursion (λ i. is_tag i.desc ≡ false) is → filter_map (λ i. tag_import i.desc) is ≡ []
  no_tag_at [] u = refl
  no_tag_at (i ∷ is) u = ap (λ o. cons_option o (filter_map (λ i. tag_import i.desc) is)) (none_of_desc i.desc u.0) ∙ no_tag_at is u.1
    where
      none_of_desc : (d : ImportDesc) → is_tag d ≡ false → tag_import d ≡ None
      none_of_desc (imports.Tag x) u = absurd cc
      none_of_desc (imports.Func x) u = refl
      none_of_desc (imports.Table t l) u = refl
      none_of_desc (imports.Memory l) u = refl
      none_of_desc (imports.Global t b) u = refl

  pub untagged : length (all_tags m) ≡ 0
  untagged = ap (λ (l : List ℕ). length (l ++ m.tags)) (no_tag_at m.imports (no_tag_imports m h)) ∙ no_tags m h

  export_out : (d : ExportDesc) → TypedDesc m d → typing1.TypedDesc (cross m) (cross_export_desc d)
  export_out (exports.Func x) k = subst (λ (l : List ℕ). x < length l) (sym (indices-cross m)) k
  export_out (exports.Table x) k = subst (λ n. x < n) (sym (tables_cross m)) k
  export_out (exports.Memory x) k = subst (λ n. x < n) (sym (memories_cross m)) k
  export_out (exports.Global x) k = subst (λ n. x < n) (sym (ap length (globals_cross m (no_tag_imports m h)) ∙ length-map (all_globals m) cross_global_type)) k
  export_out (exports.Tag x) k = let e = untagged in let no : ⊥ = omega arith in absurd no

  exports_out : AllByRecursion (λ e. typing1.TypedDesc (cross m) e.desc) (cross m).exports
  exports_out = all_map cross_export (λ e. typing1.TypedDesc (cross m) e.desc) m.exports (all_weaker (λ e. TypedDesc m e.desc) (λ e. typing1.TypedDesc (cross m) (cross_export_desc e.desc)) m.exports (λ e k. export_out e.desc k) is_typed.parts.exports)

  -- the start function
  func_cross : (x : ℕ) (t : FuncType) → func_type (context m) x ≡ Some t → old.func_type (typing1.context (cross m)) x ≡ Some (cross_func_type t)
  func_cross x t e = ap (λ (l : List ℕ). option_and_then (slice_get (map cross_func_type m.types)) (slice_get l x)) (indices-cross m) ∙ at (slice_get (func_indices m) x) e
    where
      at : (o : Option ℕ) → option_and_then (slice_get m.types) o ≡ Some t → option_and_then (slice_get (map cross_func_type m.types)) o ≡ Some (cross_func_type t)
      at None e = absurd cc
      at (Some y) e = slice_get-map cross_func_type m.types y ∙ ap (option_map cross_func_type) e

  start_out : (o : Option ℕ) → TypedStart m o → typing1.TypedStart (cross m) o
  start_out None k = tt
  start_out (Some x) k = record { type = cross_func_type k.type; declared = func_cross x k.type k.declared; params = ap cross_types k.params; results = ap cross_types k.results }

  -- element segments
  elements_typed : AllByRecursion (typing1.TypedElement (cross m)) (cross m).elems
  elements_typed = joined m.elems (all_weaker _ (λ e. AllByRecursion (typing1.TypedElement (cross m)) (cross_element e)) m.elems (λ e o. o.typed) (elements_out p is_typed h))
    where
      joined : (es : List Element) → AllByRecursion (λ e. AllByRecursion (typing1.TypedElement (cross m)) (cross_element e)) es → AllByRecursion (typing1.TypedElement (cross m)) (flat_map cross_element es)
      joined [] k = tt
      joined (e ∷ es) k = all_append (typing1.TypedElement (cross m)) (cross_element e) (flat_map cross_element es) k.0 (joined es k.1)

  pub crossed_is_typed : IsShortThroughout (cross m) → Typed1 (cross m)
  crossed_is_typed short = record {
    types = types_out;
    imports = imports_out;
    funcs = codes_typed p is_typed h short.code;
    tables = tables_out;
    memories = memories_out;
    globals = globals_typed;
    exports = exports_out;
    start = start_out m.start is_typed.parts.start;
    elems = elements_typed;
    datas = all_map cross_segment (typing1.TypedSegment (cross m)) m.datas (all_weaker _ (λ s. typing1.TypedSegment (cross m) (cross_segment s)) m.datas (λ s o. o.typed) (segments_out p is_typed h));
    one_table = subst (λ n. n ≤ 1) (sym (tables_cross m)) (one_table m h);
    one_memory = subst (λ n. n ≤ 1) (sym (memories_cross m)) (one_memory m h);
    names = names_cross m.exports is_typed.parts.names;
    short = short.module_lists;
  }
