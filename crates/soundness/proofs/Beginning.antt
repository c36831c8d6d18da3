-- The store in which a run of a typed module begins is typed, and segments keep it so.
use Rattle.std.proofs.Common.{◌≡◌, ℕ, ◌+◌, ◌-◌, List, [], ◌∷◌, ◌++◌, map, length, Option, Some, None, refl, sym, ap, ◌∙◌, subst, arith, le_refl, append-nil}
use Rattle.std.specs.Prelude.{slice_get, filter_map, option_map, option_and_then}
use Rattle.std.specs.List.{AllByRecursion, cons_option}
use Rattle.std.proofs.lemmas.List.{append_assoc, length-append, length-map}
use Rattle.std.proofs.lemmas.Option.{slice_get-map, slice_get_within}
use Rattle.host_kit.specs.Fits.{ValuesHaveTypes, ScriptFits}
use Rattle.host_kit.specs.Pairwise.{Pairwise}
use Rattle.host_kit.specs.declared.script.Script.{Script}
use Rattle.host_kit.specs.declared.value.Value.{Value}
use Rattle.wasm_ast.specs.Spaces as spaces
use Rattle.wasm_ast.specs.Spaces.{func_indices}
use Rattle.wasm_ast.specs.declared.module.ty.Ty.{Ty}
use Rattle.wasm_ast.specs.declared.module.ty.Ty.TheVariants as types
use Rattle.wasm_ast.specs.declared.module.ty.Limits.{Limits}
use Rattle.wasm_ast.specs.declared.module.code.Instr.{Instr}
use Rattle.wasm_ast.specs.declared.module.parts.Import.{Import}
use Rattle.wasm_ast.specs.declared.module.parts.ImportDesc.{ImportDesc}
use Rattle.wasm_ast.specs.declared.module.parts.ImportDesc.TheVariants as imports
use Rattle.wasm_ast.specs.declared.module.parts.Table as tables
use Rattle.wasm_ast.specs.declared.module.parts.Global.{Global}
use Rattle.wasm_ast.specs.declared.module.parts.Element.{Element}
use Rattle.wasm_ast.specs.declared.module.parts.Segment.{Segment}
use Rattle.wasm_ast.specs.declared.module.parts.Mode.{Mode}
use Rattle.wasm_ast.specs.declared.module.parts.Mode.TheVariants.{Active, Passive, Declarative}
use Rattle.wasm_ast.specs.declared.module.parts.Module.{Module}
use Rattle.typed_trees.specs.Contexts.{Context, address_type}
use Rattle.typed_trees.specs.Constants.{TypedConstant}
use Rattle.typed_trees.specs.Modules as modules
use Rattle.typed_trees.specs.Modules.{imported_of, global_import, global_type, all_globals, all_tables, all_memories, context, early_context, TypedGlobals, TypedImport, TypedTable, TypedInitialiser, TypedElement, TypedElementMode, TypedSegment, TypedSegmentMode, TypedParts}
use Rattle.typed_trees.specs.declared.global_type.GlobalType.{GlobalType}
use Rattle.typed_trees.proofs.Lawfulness.{matches_equal}
use Rattle.meaning_new.specs.declared.val.Val.{Val}
use Rattle.meaning_new.specs.declared.val.Val.TheVariants.{Null}
use Rattle.meaning_new.specs.Store.{Store, Table, After, missing, from_host}
use Rattle.meaning_new.specs.Memories.{memory_init, data_drop}
use Rattle.meaning_new.specs.Tables.{table_init, elem_drop}
use Rattle.meaning_new.specs.Instances.{then, store_of, constant, with_globals, all_values, new_memory, first_entry, new_table, table_import, new_store, whole, place_elem, place_elems, place_data, place_datas, place_segments}
use Rattle.soundness.specs.States.{Has, StoreTyped}
use Rattle.soundness.proofs.Lists.{IfAny, pair_append, pair_index, all_replicate}
use Rattle.soundness.proofs.Values.{host_typed, null_typed}
use Rattle.soundness.proofs.Stores.{WroteAfter, without_elem, without_data}
use Rattle.soundness.proofs.TableRows.{table_init_after}
use Rattle.soundness.proofs.MemoryRows.{memory_init_after}
use Rattle.soundness.proofs.Spaces.{get_before, get_behind}
use Rattle.soundness.proofs.Constants.{constant_typed}

module _ (m : Module) where
  -- globals of types, where there are k exceptions
  abbrev Globals : ℕ → List Val → List GlobalType → Type 0
  Globals k vs gs = Pairwise (λ v g. Has m k v g.ty) vs gs

  -- a constant expression over these globals, or over those that stand before others
  valued : (k : ℕ) (globals : List Val) (gs : List GlobalType) (c : Context) → c.funcs ≡ func_indices m → c.globals ≡ gs → Globals k globals gs → (code : List Instr) (t : Ty) → TypedConstant c code t → Has m k (constant globals code) t
  valued k globals gs c funcs e typed code t h =
      constant_typed m k c funcs globals (λ x g is. pair_index (λ v g. Has m k v g.ty) missing globals gs x g (ap (λ l. slice_get l x) (sym e) ∙ is) typed) code t h

  early_valued : (k : ℕ) (globals : List Val) (gs more : List GlobalType) → Globals k globals (gs ++ more) → (code : List Instr) (t : Ty) → TypedConstant (early_context m gs) code t → Has m k (constant globals code) t
  early_valued k globals gs more typed code t h =
      constant_typed m k (early_context m gs) refl globals (λ x g is. pair_index (λ v g. Has m k v g.ty) missing globals (gs ++ more) x g (get_before gs more x (slice_get_within gs x g is) ∙ is) typed) code t h

  -- "Globals": the host's, and then each over those before it
  imported : (is : List Import) (vs : List Value) → ValuesHaveTypes m vs (filter_map (λ i. spaces.global_import i.desc) is) → Globals 0 (map from_host vs) (filter_map (λ i. global_import i.desc) is)
  imported [] [] h = tt
  imported [] (v ∷ vs) h = absurd h
  imported (i ∷ is) vs h = one i.desc vs h (λ us g. imported is us g)
    where
      one : (d : ImportDesc) (vs : List Value) → ValuesHaveTypes m vs (cons_option (spaces.global_import d) (filter_map (λ j. spaces.global_import j.desc) is)) → ((us : List Value) → ValuesHaveTypes m us (filter_map (λ j. spaces.global_import j.desc) is) → Globals 0 (map from_host us) (filter_map (λ j. global_import j.desc) is)) → Globals 0 (map from_host vs) (cons_option (global_import d) (filter_map (λ j. global_import j.desc) is))
      one (imports.Global t mutable) [] h next = absurd h
      one (imports.Global t mutable) (v ∷ vs) h next = (host_typed m 0 v t h.0, next vs h.1)
      one (imports.Func t) vs h next = next vs h
      one (imports.Table t l) vs h next = next vs h
      one (imports.Memory l) vs h next = next vs h
      one (imports.Tag t) vs h next = next vs h

  own_globals : (gs : List Global) (l : List Val) (before : List GlobalType) → TypedGlobals m before gs → Globals 0 l before → Globals 0 (with_globals gs l) (before ++ map global_type gs)
  own_globals [] l before h g = subst (Globals 0 l) (sym (append-nil before)) g
  own_globals (x ∷ gs) l before h g =
      let value = valued 0 l before (early_context m before) refl refl g x.init x.ty h.0.init in
      subst (Globals 0 (with_globals gs (l ++ constant l x.init ∷ []))) (append_assoc before (global_type x ∷ []) (map global_type gs))
      (own_globals gs (l ++ constant l x.init ∷ []) (before ++ global_type x ∷ []) h.1 (pair_append (λ v g. Has m 0 v g.ty) l before (constant l x.init ∷ []) (global_type x ∷ []) g (value, tt)))

  -- "Memories" and "Tables"
  memories_typed : (ls : List Limits) → Pairwise (λ mem l. mem.wide ≡ l.wide) (map new_memory ls) ls
  memories_typed [] = tt
  memories_typed (l ∷ ls) = (refl, memories_typed ls)

  abbrev EntriesTyped : List Table → List Ty → Type 0
  EntriesTyped ts tys = Pairwise (λ t ty. AllByRecursion (λ v. Has m 0 v ty) t.entries) ts tys

  imported_tables : (is : List Import) → AllByRecursion (λ i. TypedImport m i.desc) is → EntriesTyped (filter_map (λ i. table_import i.desc) is) (filter_map (λ i. modules.table_import i.desc) is)
  imported_tables [] h = tt
  imported_tables (i ∷ is) h = one i.desc h.0 (imported_tables is h.1)
    where
      one : (d : ImportDesc) → TypedImport m d → EntriesTyped (filter_map (λ j. table_import j.desc) is) (filter_map (λ j. modules.table_import j.desc) is) → EntriesTyped (cons_option (table_import d) (filter_map (λ j. table_import j.desc) is)) (cons_option (modules.table_import d) (filter_map (λ j. modules.table_import j.desc) is))
      one (imports.Table t l) h rest = (all_replicate (λ v. Has m 0 v t) l.min (Null t) (null_typed m 0 t h.type), rest)
      one (imports.Func t) h rest = rest
      one (imports.Memory l) h rest = rest
      one (imports.Global t mutable) h rest = rest
      one (imports.Tag t) h rest = rest

  module _ (globals : List Val) (typed : Globals 0 globals (all_globals m)) where
    first_typed : (t : Ty) (init : Option (List Instr)) → Has m 0 (Null t) t → TypedInitialiser m t init → Has m 0 (first_entry globals t init) t
    first_typed t None null h = null
    first_typed t (Some code) null h = early_valued 0 globals (imported_of global_import m) (map global_type m.globals) typed code t h

    own_tables : (ts : List tables.Table) → AllByRecursion (TypedTable m) ts → EntriesTyped (map (λ t. new_table (first_entry globals t.ty t.init) t.limits) ts) (map (λ t. t.ty) ts)
    own_tables [] h = tt
    own_tables (t ∷ ts) h =
        (all_replicate (λ v. Has m 0 v t.ty) t.limits.min (first_entry globals t.ty t.init) (first_typed t.ty t.init (null_typed m 0 t.ty h.0.type.type) h.0.init), own_tables ts h.1)

    items_typed : (t : Ty) (items : List (List Instr)) → AllByRecursion (λ code. TypedConstant (context m) code t) items → AllByRecursion (λ v. Has m 0 v t) (map (constant globals) items)
    items_typed t [] h = tt
    items_typed t (code ∷ items) h = (valued 0 globals (all_globals m) (context m) refl refl typed code t h.0, items_typed t items h.1)

    elems_typed : (es : List Element) → AllByRecursion (TypedElement m) es → Pairwise (λ vs ty. AllByRecursion (λ v. Has m 0 v ty) vs) (map (λ e. map (constant globals) e.items) es) (map (λ e. e.ty) es)
    elems_typed [] h = tt
    elems_typed (e ∷ es) h = (items_typed e.ty e.items h.0.items, elems_typed es h.1)

    pub new_store_typed : TypedParts m → StoreTyped m (new_store m globals)
    new_store_typed parts = record {
      globals = typed;
      memories = memories_typed (all_memories m);
      tables = pair_append (λ t ty. AllByRecursion (λ v. Has m 0 v ty) t.entries) (filter_map (λ i. table_import i.desc) m.imports) (imported_of modules.table_import m) (map (λ t. new_table (first_entry globals t.ty t.init) t.limits) m.tables) (map (λ t. t.ty) m.tables) (imported_tables m.imports parts.imports) (own_tables m.tables parts.tables);
      elems = elems_typed m.elems parts.elems;
      datas = length-map m.datas (λ d. d.bytes);
      exceptions = tt;
    }

  pub values_typed : (s : Script) → ScriptFits m s → TypedParts m → Globals 0 (all_values m s) (all_globals m)
  values_typed s fit parts = own_globals m.globals (map from_host s.globals) (imported_of global_import m) parts.globals (imported m.imports s.globals fit.globals)

  -- "Instantiation": active segments
  offset_typed : (s : Store) → StoreTyped m s → (code : List Instr) (t : Ty) → TypedConstant (context m) code t → Has m (length s.exceptions) (constant s.globals code) t
  offset_typed s h code t c = valued (length s.exceptions) s.globals (all_globals m) (context m) refl refl h.globals code t c

  type_at : (before : List Element) (e : Element) (more : List Element) → m.elems ≡ before ++ e ∷ more → slice_get (map (λ i. i.ty) m.elems) (length before) ≡ Some e.ty
  type_at before e more is =
      slice_get-map (λ i. i.ty) m.elems (length before)
      ∙ ap (option_map (λ i. i.ty)) (ap (λ l. slice_get l (length before)) is ∙ get_behind before (e ∷ more) (length before) (le_refl (length before)) ∙ first (length before))
    where
      first : (n : ℕ) → slice_get (e ∷ more) (n - n) ≡ Some e
      first n = let same : n - n ≡ 0 = omega arith in ap (slice_get (e ∷ more)) same

  elem_placed : (before : List Element) (e : Element) (more : List Element) → m.elems ≡ before ++ e ∷ more → (mode : Mode) (s : Store) → TypedElementMode m e.ty mode → StoreTyped m s → IfAny (StoreTyped m) (place_elem (length before) e mode s)
  elem_placed before e more is Passive s h t = t
  elem_placed before e more is Declarative s h t = without_elem m s (length before) t
  elem_placed before e more is (Active x offset) s h t = after (table_init (length before) x (whole (length e.items) (constant s.globals offset)) s) typed
    where
      after : (r : After) → IfAny (WroteAfter m (length s.exceptions) []) r → IfAny (StoreTyped m) (then r (λ z. store_of (elem_drop (length before) [] z)))
      after None w = tt
      after (Some r) w = without_elem m r.1 (length before) w.store

      typed : IfAny (WroteAfter m (length s.exceptions) []) (table_init (length before) x (whole (length e.items) (constant s.globals offset)) s)
      typed = table_init_after m (context m) [] [] x e.ty (h.declared ∙ ap (λ z. Some z) (sym (matches_equal e.ty h.type h.serves))) (length before) (type_at before e more is) (whole (length e.items) (constant s.globals offset)) s t (refl, (refl, (offset_typed s t offset types.I32 h.offset, tt)))

  next_placed : (f : Store → Option Store) (o : Option Store) → IfAny (StoreTyped m) o → ((s : Store) → StoreTyped m s → IfAny (StoreTyped m) (f s)) → IfAny (StoreTyped m) (option_and_then f o)
  next_placed f None h g = tt
  next_placed f (Some s) h g = g s h

  elems_placed : (before es : List Element) (i : ℕ) → m.elems ≡ before ++ es → i ≡ length before → (s : Store) → AllByRecursion (TypedElement m) es → StoreTyped m s → IfAny (StoreTyped m) (place_elems i es s)
  elems_placed before [] i is count s h t = t
  elems_placed before (e ∷ es) i is count s h t =
      let longer : m.elems ≡ (before ++ e ∷ []) ++ es = is ∙ sym (append_assoc before (e ∷ []) es) in
      let more_count = length-append before (e ∷ []) in
      let next_count : i + 1 ≡ length (before ++ e ∷ []) = omega arith in
      next_placed (place_elems (i + 1) es) (place_elem i e e.mode s) (subst (λ n. IfAny (StoreTyped m) (place_elem n e e.mode s)) (sym count) (elem_placed before e es is e.mode s h.0.mode t))
      (λ u k. elems_placed (before ++ e ∷ []) es (i + 1) longer next_count u h.1 k)

  data_placed : (i : ℕ) (d : Segment) (mode : Mode) (s : Store) → TypedSegmentMode m mode → StoreTyped m s → IfAny (StoreTyped m) (place_data i d mode s)
  data_placed i d Passive s h t = t
  data_placed i d Declarative s h t = t
  data_placed i d (Active x offset) s h t = after (memory_init i x (whole (length d.bytes) (constant s.globals offset)) s) typed
    where
      after : (r : After) → IfAny (WroteAfter m (length s.exceptions) []) r → IfAny (StoreTyped m) (then r (λ z. store_of (data_drop i [] z)))
      after None w = tt
      after (Some r) w = without_data m r.1 i w.store

      typed : IfAny (WroteAfter m (length s.exceptions) []) (memory_init i x (whole (length d.bytes) (constant s.globals offset)) s)
      typed = memory_init_after m (context m) [] [] x types.I32 types.I32 (address_type h.limits) i (whole (length d.bytes) (constant s.globals offset)) s t (refl, (refl, (offset_typed s t offset (address_type h.limits) h.offset, tt)))

  datas_placed : (i : ℕ) (ds : List Segment) (s : Store) → AllByRecursion (TypedSegment m) ds → StoreTyped m s → IfAny (StoreTyped m) (place_datas i ds s)
  datas_placed i [] s h t = t
  datas_placed i (d ∷ ds) s h t = next_placed (place_datas (i + 1) ds) (place_data i d d.mode s) (data_placed i d d.mode s h.0 t) (λ u k. datas_placed (i + 1) ds u h.1 k)

  pub segments_placed : TypedParts m → (s : Store) → StoreTyped m s → IfAny (StoreTyped m) (place_segments m s)
  segments_placed parts s t = next_placed (place_datas 0 m.datas) (place_elems 0 m.elems s) (elems_placed [] m.elems 0 refl refl s parts.elems t) (λ u k. datas_placed 0 m.datas u parts.datas k)
