-- What links a typed module that crosses: functions of integers with one result at most, integer globals, and memories.
use Rattle.std.proofs.Common.{◌≡◌, ℕ, ◌+◌, ◌<◌, ◌≤◌, true, false, List, [], ◌∷◌, ◌++◌, map, length, filter_map, length-append, Option, Some, None, option_map, option_and_then, slice_get, refl, sym, ap, ◌∙◌, subst, arith}
use Rattle.std.specs.Prelude.{is_some, nat_lt}
use Rattle.std.specs.List.{AllByRecursion, cons_option}
use Rattle.std.proofs.lemmas.Bool.{lt-ltb}
use Rattle.std.proofs.lemmas.List.{length-map, nil_from_length}
use Rattle.wasm_ast.specs.Has.{is_exported_table}
use Rattle.wasm_ast.specs.Spaces.{is_table, is_tag, func_import, func_indices, table_count}
use Rattle.wasm_ast.specs.declared.features.kind.Feature.TheVariants as features
use Rattle.wasm_ast.specs.declared.module.parts.Export.{Export}
use Rattle.wasm_ast.specs.declared.module.parts.ExportDesc.{ExportDesc}
use Rattle.wasm_ast.specs.declared.module.parts.ExportDesc.TheVariants as exports
use Rattle.wasm_ast.specs.declared.module.parts.Global.{Global}
use Rattle.wasm_ast.specs.declared.module.parts.Import.{Import}
use Rattle.wasm_ast.specs.declared.module.parts.ImportDesc.{ImportDesc}
use Rattle.wasm_ast.specs.declared.module.parts.ImportDesc.TheVariants as imports
use Rattle.wasm_ast.specs.declared.module.parts.Module.{Module}
use Rattle.wasm_ast.specs.declared.module.ty.FuncType.{FuncType}
use Rattle.wasm_ast.specs.declared.module.ty.Limits.{Limits}
use Rattle.typed_trees.specs.Modules as typed
use Rattle.typed_trees.specs.Modules.{TypedDesc, TypedImport}
use Rattle.typed_trees.specs.declared.module.TypedFn.{TypedFn}
use Rattle.typed_trees.specs.Typed.{module_of, IsTypedTree}
use Rattle.meaning_new.specs.Forms.{type_of_tag}
use Rattle.meaning_new.specs.Interface.{ExternType, Imported, Exported, interface, func, memory, global, typed_func, memory_import, global_import, tag_import, all_memories, all_globals, tag_indices, import_type, export_type}
use Rattle.crossing.specs.Code.{is_integer}
use Rattle.crossing.specs.Crossing.{TypeCrosses}
use Rattle.crossing.proofs.Keeping.{IfThere, all_append}
use Rattle.pass_cross.specs.Crossable.{Crossable}
use Rattle.pass_cross.proofs.Bodies.{descs, own_integers, types_cross}
use Rattle.pass_cross.proofs.Facts.{DescInteger, all_filtered, all_map, all_zip, no_tag_imports, no_tags, none_any, one_result, tables_counted}
use Rattle.pass_cross.proofs.Typing.{untagged}
use Rattle.headline.proofs.Listed.{There, there, all_through, as_many}

-- a function type of integers with one result at most
pub record PlainType (t : FuncType) : Type 0 where
  pub integers : TypeCrosses t
  pub one : length t.results ≤ 1

abbrev pub IsPlainExtern : ExternType → Type 0
IsPlainExtern (func t) = PlainType t
IsPlainExtern (memory limits) = Unit {0}
IsPlainExtern (global t mutable) = is_integer t ≡ true
IsPlainExtern _ = ⊥

abbrev pub IsLinked : Option ExternType → Type 0
IsLinked o = There IsPlainExtern o

module _ (p : Module × List TypedFn) (is_typed : IsTypedTree p) (h : Crossable (module_of p)) where
  abbrev m : Module
  m = module_of p

  pub types_plain : AllByRecursion PlainType m.types
  types_plain = all_zip TypeCrosses (λ t. length t.results ≤ 1) PlainType m.types (λ t a b. record { integers = a; one = b }) (types_cross p is_typed h) (one_result m h)

  -- functions
  func_linked : (o : Option FuncType) → There PlainType o → IsLinked (option_map (λ t. func t) o)
  func_linked None k = k
  func_linked (Some t) k = k

  index_linked : (t : ℕ) → t < length m.types → IsLinked (typed_func m t)
  index_linked t k = func_linked (slice_get m.types t) (there PlainType m.types t types_plain k)

  in_types : (d : ImportDesc) → TypedImport m d → IfThere (λ t. t < length m.types) (func_import d)
  in_types (imports.Func t) k = k
  in_types (imports.Table t l) k = tt
  in_types (imports.Memory l) k = tt
  in_types (imports.Global t b) k = tt
  in_types (imports.Tag t) k = tt

  indices_typed : AllByRecursion (λ t. t < length m.types) (func_indices m)
  indices_typed =
      all_append (λ t. t < length m.types) (filter_map (λ i. func_import i.desc) m.imports) m.funcs
      (all_filtered (λ i. func_import i.desc) (λ t. t < length m.types) m.imports
      (all_through (λ i. TypedImport m i.desc) (λ i. IfThere (λ t. t < length m.types) (func_import i.desc)) m.imports (λ i k. in_types i.desc k) is_typed.parts.imports))
      is_typed.parts.funcs

  at_index : (o : Option ℕ) → There (λ t. t < length m.types) o → IsLinked (option_and_then (typed_func m) o)
  at_index None k = absurd k
  at_index (Some t) k = index_linked t k

  -- imports
  no_tables : AllByRecursion (λ i. is_table i.desc ≡ false) m.imports
  no_tables = none_any (λ i. is_table i.desc) m.imports (h.has features.ImportedTable refl)

  import_linked : (d : ImportDesc) → TypedImport m d → DescInteger d → is_table d ≡ false → is_tag d ≡ false → IsLinked (import_type m d)
  import_linked (imports.Func t) k i out out_too = index_linked t k
  import_linked (imports.Memory l) k i out out_too = tt
  import_linked (imports.Global t b) k i out out_too = i
  import_linked (imports.Table t l) k i out out_too = absurd cc
  import_linked (imports.Tag t) k i out out_too = absurd cc

  imports_through : (is : List Import) → AllByRecursion (λ i. TypedImport m i.desc) is → AllByRecursion (λ i. DescInteger i.desc) is → AllByRecursion (λ i. is_table i.desc ≡ false) is → AllByRecursion (λ i. is_tag i.desc ≡ false) is → AllByRecursion (λ i. IsLinked (import_type m i.desc)) is
  imports_through [] k i out out_too = tt
  imports_through (x ∷ is) k i out out_too = (import_linked x.desc k.0 i.0 out.0 out_too.0, imports_through is k.1 i.1 out.1 out_too.1)

  pub imports_linked : AllByRecursion (λ x. IsLinked x.type) (interface m).imports
  imports_linked =
      all_map (λ i. record { from = i.«module»; name = i.name; type = import_type m i.desc }) (λ (x : Imported). IsLinked x.type) m.imports
      (imports_through m.imports is_typed.parts.imports (descs p is_typed h) no_tables (no_tag_imports m h))

  -- memories and globals
  memory_plain : (d : ImportDesc) → IfThere IsPlainExtern (memory_import d)
  memory_plain (imports.Memory l) = tt
  memory_plain (imports.Func x) = tt
  memory_plain (imports.Table t l) = tt
  memory_plain (imports.Global t b) = tt
  memory_plain (imports.Tag x) = tt

  each : {A : Type 0} (P : A → Type 0) → ((a : A) → P a) → (l : List A) → AllByRecursion P l
  each P f [] = tt
  each P f (a ∷ l) = (f a, each P f l)

  memories_plain : AllByRecursion IsPlainExtern (all_memories m)
  memories_plain =
      all_append IsPlainExtern (filter_map (λ i. memory_import i.desc) m.imports) (map (λ l. memory l) m.memories)
      (all_filtered (λ i. memory_import i.desc) IsPlainExtern m.imports (each (λ i. IfThere IsPlainExtern (memory_import i.desc)) (λ i. memory_plain i.desc) m.imports))
      (all_map (λ (l : Limits). memory l) IsPlainExtern m.memories (each (λ (l : Limits). IsPlainExtern (memory l)) (λ l. tt) m.memories))

  global_plain : (d : ImportDesc) → DescInteger d → IfThere IsPlainExtern (global_import d)
  global_plain (imports.Global t b) k = k
  global_plain (imports.Func x) k = tt
  global_plain (imports.Table t l) k = tt
  global_plain (imports.Memory l) k = tt
  global_plain (imports.Tag x) k = tt

  globals_plain : AllByRecursion IsPlainExtern (all_globals m)
  globals_plain =
      all_append IsPlainExtern (filter_map (λ i. global_import i.desc) m.imports) (map (λ g. global g.ty g.mutable) m.globals)
      (all_filtered (λ i. global_import i.desc) IsPlainExtern m.imports
      (all_through (λ i. DescInteger i.desc) (λ i. IfThere IsPlainExtern (global_import i.desc)) m.imports (λ i k. global_plain i.desc k) (descs p is_typed h)))
      (all_map (λ (g : Global). global g.ty g.mutable) IsPlainExtern m.globals (own_integers p is_typed h))

  -- there are as many as the rules of typing count
  memory_same : (d : ImportDesc) → is_some (memory_import d) ≡ is_some (typed.memory_import d)
  memory_same (imports.Memory l) = refl
  memory_same (imports.Func x) = refl
  memory_same (imports.Table t l) = refl
  memory_same (imports.Global t b) = refl
  memory_same (imports.Tag x) = refl

  global_same : (d : ImportDesc) → is_some (global_import d) ≡ is_some (typed.global_import d)
  global_same (imports.Global t b) = refl
  global_same (imports.Func x) = refl
  global_same (imports.Table t l) = refl
  global_same (imports.Memory l) = refl
  global_same (imports.Tag x) = refl

  memories_counted : length (all_memories m) ≡ length (typed.all_memories m)
  memories_counted =
      length-append (filter_map (λ i. memory_import i.desc) m.imports) (map (λ l. memory l) m.memories)
      ∙ ap (λ n. n + length (map (λ l. memory l) m.memories)) (as_many (λ i. memory_import i.desc) (λ i. typed.memory_import i.desc) (λ i. memory_same i.desc) m.imports)
      ∙ ap (λ n. length (filter_map (λ i. typed.memory_import i.desc) m.imports) + n) (length-map m.memories (λ l. memory l))
      ∙ sym (length-append (filter_map (λ i. typed.memory_import i.desc) m.imports) m.memories)

  globals_counted : length (all_globals m) ≡ length (typed.all_globals m)
  globals_counted =
      length-append (filter_map (λ i. global_import i.desc) m.imports) (map (λ g. global g.ty g.mutable) m.globals)
      ∙ ap (λ n. n + length (map (λ g. global g.ty g.mutable) m.globals)) (as_many (λ i. global_import i.desc) (λ i. typed.global_import i.desc) (λ i. global_same i.desc) m.imports)
      ∙ ap (λ n. length (filter_map (λ i. typed.global_import i.desc) m.imports) + n) (length-map m.globals (λ g. global g.ty g.mutable) ∙ sym (length-map m.globals typed.global_type))
      ∙ sym (length-append (filter_map (λ i. typed.global_import i.desc) m.imports) (map typed.global_type m.globals))

  -- exports
  export_linked : (d : ExportDesc) → TypedDesc m d → is_exported_table (table_count m) d ≡ false → IsLinked (export_type m d)
  export_linked (exports.Func x) k out = at_index (slice_get (func_indices m) x) (there (λ t. t < length m.types) (func_indices m) x indices_typed k)
  export_linked (exports.Memory x) k out = there IsPlainExtern (all_memories m) x memories_plain (subst (λ n. x < n) (sym memories_counted) k)
  export_linked (exports.Global x) k out = there IsPlainExtern (all_globals m) x globals_plain (subst (λ n. x < n) (sym globals_counted) k)
  export_linked (exports.Table x) k out =
      let is : nat_lt x (table_count m) ≡ true = lt-ltb x (table_count m) (subst (λ n. x < n) (tables_counted m h) k) in
      let wrong : true ≡ false = sym is ∙ out in absurd cc
  export_linked (exports.Tag x) k out = let e = untagged p is_typed h in let no : ⊥ = omega arith in absurd no

  exports_through : (es : List Export) → AllByRecursion (λ e. TypedDesc m e.desc) es → AllByRecursion (λ e. is_exported_table (table_count m) e.desc ≡ false) es → AllByRecursion (λ e. IsLinked (export_type m e.desc)) es
  exports_through [] k out = tt
  exports_through (e ∷ es) k out = (export_linked e.desc k.0 out.0, exports_through es k.1 out.1)

  pub exports_linked : AllByRecursion (λ x. IsLinked x.type) (interface m).exports
  exports_linked =
      all_map (λ e. record { name = e.name; type = export_type m e.desc }) (λ (x : Exported). IsLinked x.type) m.exports
      (exports_through m.exports is_typed.parts.exports (none_any (λ e. is_exported_table (table_count m) e.desc) m.exports (h.has features.ExportedTable refl)))

  -- tags
  tag_none : (d : ImportDesc) → is_tag d ≡ false → tag_import d ≡ None
  tag_none (imports.Tag x) k = absurd cc
  tag_none (imports.Func x) k = refl
  tag_none (imports.Table t l) k = refl
  tag_none (imports.Memory l) k = refl
  tag_none (imports.Global t b) k = refl

  no_imported_tag : (is : List Import) → AllByRecursion (λ i. is_tag i.desc ≡ false) is → filter_map (λ i. tag_import i.desc) is ≡ []
  no_imported_tag [] k = refl
  no_imported_tag (i ∷ is) k = ap (λ o. cons_option o (filter_map (λ i. tag_import i.desc) is)) (tag_none i.desc k.0) ∙ no_imported_tag is k.1

  no_tag_index : tag_indices m ≡ []
  no_tag_index = ap (λ l. l ++ m.tags) (no_imported_tag m.imports (no_tag_imports m h)) ∙ nil_from_length m.tags (no_tags m h)

  pub no_linked_tag : (interface m).tags ≡ []
  no_linked_tag = ap (map (slice_get m.types)) no_tag_index

  pub no_tag_type : (x : ℕ) → type_of_tag m x ≡ None
  no_tag_type x = ap (λ (l : List ℕ). option_and_then (slice_get m.types) (slice_get l x)) no_tag_index
