-- A module with more behind begins in the same state, but for the globals behind, and places the same segments.
use Rattle.std.proofs.Common.{◌≡◌, ℕ, ◌+◌, ◌≤◌, le_refl, Bool, true, List, [], ◌∷◌, ◌++◌, map, length, Option, Some, None, option_map, refl, sym, ap, ◌∙◌, append-nil}
use Rattle.std.specs.Prelude.{nat_lt, false, ◌-◌, slice_get, filter_map, count_by, option_and_then}
use Rattle.std.specs.List.{AllByRecursion}
use Rattle.std.proofs.lemmas.List.{append_assoc}
use Rattle.host_kit.specs.Fits.{ScriptFits}
use Rattle.host_kit.specs.declared.script.Script.{Script}
use Rattle.wasm_ast.specs.declared.module.code.Instr.{Instr, out-Instr}
use Rattle.wasm_ast.specs.declared.module.code.Instr.TheOpen.{Instr-F}
use Rattle.wasm_ast.specs.declared.module.parts.Element.{Element}
use Rattle.wasm_ast.specs.declared.module.parts.Global.{Global}
use Rattle.wasm_ast.specs.declared.module.parts.Import.{Import}
use Rattle.wasm_ast.specs.declared.module.parts.Mode.{Mode}
use Rattle.wasm_ast.specs.declared.module.parts.Mode.TheVariants.{Active, Passive, Declarative}
use Rattle.wasm_ast.specs.declared.module.parts.Module.{Module}
use Rattle.wasm_ast.specs.declared.module.parts.Segment.{Segment}
use Rattle.wasm_ast.specs.declared.module.parts.Table as tables
use Rattle.wasm_ast.specs.declared.module.ty.Limits.{Limits}
use Rattle.wasm_ast.specs.declared.module.ty.Ty.{Ty}
use Rattle.meaning_new.specs.declared.val.Val.{Val}
use Rattle.meaning_new.specs.Store.{Store, After, missing, from_host}
use Rattle.meaning_new.specs.Memories.{memory_init, data_drop}
use Rattle.meaning_new.specs.Tables.{table_init, elem_drop}
use Rattle.evaluation_kit.specs.Leaves.{top}
use Rattle.simulation_kit.specs.Rewriting.{Step}
use Rattle.simulation_kit.proofs.LikeCode.{OwesLayers}
use Rattle.meaning_new.specs.Forms.{is_func, imported_funcs}
use Rattle.meaning_new.specs.Language.{language}
use Rattle.meaning_new.specs.Instances.{then, store_of, constant_step, constant_steps, constant, with_globals, all_values, new_memory, memory_import, first_entry, new_table, table_import, new_store, whole, place_elem, place_elems, place_data, place_datas, place_segments}
use Rattle.stage_kit.specs.Adding.{Names, own_named, more_store, Adding, Behind, CodeNamed, added as adds_to}
use Rattle.stage_kit.specs.Naming.{ConstantNamed, InitNamed, ModeNamed, StoreNamed, ModuleNamed}
use Rattle.stage_kit.specs.Appended.{Appended, names_of, Alike, added_values}
use Rattle.stage_kit.specs.Hosting.{export_named, Offers}
use Rattle.stage_kit.specs.Staged.{start_state, CodeStays, Staged}
use Rattle.stage_kit.proofs.Lists.{IfAny}
use Rattle.stage_kit.proofs.Moving
use Rattle.stage_kit.proofs.Moving.{lifted}
use Rattle.stage_kit.proofs.Appending.{named_below, index_append, appending, appending_within}
use Rattle.stage_kit.proofs.NamingForms.{host_keeps}
use Rattle.stage_kit.proofs.Starting.{placed_elem, placed_elems, placed_data, values_count, starts_named, script_keeps}

-- globals, and those behind them
with_append : (gs hs : List Global) (l : List Val) → with_globals (gs ++ hs) l ≡ with_globals hs (with_globals gs l)
with_append [] hs l = refl
with_append (g ∷ gs) hs l = with_append gs hs (l ++ constant l g.init ∷ [])

pub added : (gs : List Global) (l : List Val) → with_globals gs l ≡ l ++ added_values gs l
added [] l = sym (append-nil l)
added (g ∷ gs) l = added gs (l ++ constant l g.init ∷ []) ∙ append_assoc l (constant l g.init ∷ []) (added_values gs (l ++ constant l g.init ∷ []))

module _ (m : Module) (globals : ℕ) (h : ModuleNamed m (names_of m globals) globals) (extra : List Val) where
  abbrev names : Names
  names = names_of m globals

  abbrev S : Store → Type 0
  S = StoreNamed names globals

  -- constant expressions read no globals behind
  step_same : (gs : List Val) (i : Instr-F Instr) (l : List Val) → length gs ≡ globals → own_named names Instr i ≡ true → constant_step (gs ++ extra) i l ≡ constant_step gs i l
  step_same gs (Instr-F.GlobalGet x) l e n = ap (λ v. v ∷ l) (index_append missing gs extra x (named_below x globals (length gs) e n))
  step_same gs i l e n = refl

  steps_same : (gs : List Val) (code : List Instr) (l : List Val) → length gs ≡ globals → ConstantNamed names code → constant_steps (gs ++ extra) code l ≡ constant_steps gs code l
  steps_same gs [] l e n = refl
  steps_same gs (i ∷ code) l e n = ap (constant_steps (gs ++ extra) code) (step_same gs (out-Instr i) l e n.0) ∙ steps_same gs code (constant_step gs (out-Instr i) l) e n.1

  constant_same : (gs : List Val) (code : List Instr) → length gs ≡ globals → ConstantNamed names code → constant (gs ++ extra) code ≡ constant gs code
  constant_same gs code e n = ap (top missing) (steps_same gs code [] e n)

  -- entries of tables, and items of segments
  entry_same : (gs : List Val) (t : Ty) (init : Option (List Instr)) → length gs ≡ globals → InitNamed names init → first_entry (gs ++ extra) t init ≡ first_entry gs t init
  entry_same gs t None e n = refl
  entry_same gs t (Some code) e n = constant_same gs code e n

  tables_same : (gs : List Val) (ts : List tables.Table) → length gs ≡ globals → AllByRecursion (λ t. InitNamed names t.init) ts → map (λ t. new_table (first_entry (gs ++ extra) t.ty t.init) t.limits) ts ≡ map (λ t. new_table (first_entry gs t.ty t.init) t.limits) ts
  tables_same gs [] e n = refl
  tables_same gs (t ∷ ts) e n =
      ap (λ v. new_table v t.limits ∷ map (λ i. new_table (first_entry (gs ++ extra) i.ty i.init) i.limits) ts) (entry_same gs t.ty t.init e n.0)
      ∙ ap (λ l. new_table (first_entry gs t.ty t.init) t.limits ∷ l) (tables_same gs ts e n.1)

  items_same : (gs : List Val) (items : List (List Instr)) → length gs ≡ globals → AllByRecursion (ConstantNamed names) items → map (constant (gs ++ extra)) items ≡ map (constant gs) items
  items_same gs [] e n = refl
  items_same gs (code ∷ items) e n =
      ap (λ v. v ∷ map (constant (gs ++ extra)) items) (constant_same gs code e n.0) ∙ ap (λ l. constant gs code ∷ l) (items_same gs items e n.1)

  elems_same : (gs : List Val) (es : List Element) → length gs ≡ globals → AllByRecursion (λ e. AllByRecursion (ConstantNamed names) e.items) es → map (λ e. map (constant (gs ++ extra)) e.items) es ≡ map (λ e. map (constant gs) e.items) es
  elems_same gs [] e n = refl
  elems_same gs (i ∷ es) e n =
      ap (λ l. l ∷ map (λ j. map (constant (gs ++ extra)) j.items) es) (items_same gs i.items e n.0) ∙ ap (λ l. map (constant gs) i.items ∷ l) (elems_same gs es e n.1)

  -- segments
  drops_elem : (i : ℕ) (r : After) → then (lifted extra r) (λ t. store_of (elem_drop i [] t)) ≡ option_map (more_store extra) (then r (λ t. store_of (elem_drop i [] t)))
  drops_elem i None = refl
  drops_elem i (Some r) = refl

  elem_same : (i : ℕ) (e : Element) (mode : Mode) (s : Store) → S s → ModeNamed names mode → place_elem i e mode (more_store extra s) ≡ option_map (more_store extra) (place_elem i e mode s)
  elem_same i e (Active x offset) s k n =
      ap (λ v. then (table_init i x (whole (length e.items) v) (more_store extra s)) (λ t. store_of (elem_drop i [] t))) (constant_same s.globals offset k.count n)
      ∙ ap (λ r. then r (λ t. store_of (elem_drop i [] t))) (Moving.table_init i x extra (whole (length e.items) (constant s.globals offset)) s)
      ∙ drops_elem i (table_init i x (whole (length e.items) (constant s.globals offset)) s)
  elem_same i e Passive s k n = refl
  elem_same i e Declarative s k n = refl

  elems_placed : (i : ℕ) (es : List Element) (s : Store) → S s → AllByRecursion (λ e. ModeNamed names e.mode) es → place_elems i es (more_store extra s) ≡ option_map (more_store extra) (place_elems i es s)
  elems_placed i [] s k n = refl
  elems_placed i (e ∷ es) s k n =
      ap (option_and_then (place_elems (i + 1) es)) (elem_same i e e.mode s k n.0)
      ∙ next (place_elem i e e.mode s) (placed_elem m names globals h i e.mode e s n.0 k) (λ t g. elems_placed (i + 1) es t g n.1)
    where
      next : (r : Option Store) → IfAny (StoreNamed names globals) r → ((t : Store) → StoreNamed names globals t → place_elems (i + 1) es (more_store extra t) ≡ option_map (more_store extra) (place_elems (i + 1) es t)) → option_and_then (place_elems (i + 1) es) (option_map (more_store extra) r) ≡ option_map (more_store extra) (option_and_then (place_elems (i + 1) es) r)
      next None g f = refl
      next (Some t) g f = f t g

  drops_data : (i : ℕ) (r : After) → then (lifted extra r) (λ t. store_of (data_drop i [] t)) ≡ option_map (more_store extra) (then r (λ t. store_of (data_drop i [] t)))
  drops_data i None = refl
  drops_data i (Some r) = refl

  data_same : (i : ℕ) (d : Segment) (mode : Mode) (s : Store) → S s → ModeNamed names mode → place_data i d mode (more_store extra s) ≡ option_map (more_store extra) (place_data i d mode s)
  data_same i d (Active x offset) s k n =
      ap (λ v. then (memory_init i x (whole (length d.bytes) v) (more_store extra s)) (λ t. store_of (data_drop i [] t))) (constant_same s.globals offset k.count n)
      ∙ ap (λ r. then r (λ t. store_of (data_drop i [] t))) (Moving.memory_init i x extra (whole (length d.bytes) (constant s.globals offset)) s)
      ∙ drops_data i (memory_init i x (whole (length d.bytes) (constant s.globals offset)) s)
  data_same i d mode s k n = refl

  datas_placed : (i : ℕ) (ds : List Segment) (s : Store) → S s → AllByRecursion (λ d. ModeNamed names d.mode) ds → place_datas i ds (more_store extra s) ≡ option_map (more_store extra) (place_datas i ds s)
  datas_placed i [] s k n = refl
  datas_placed i (d ∷ ds) s k n =
      ap (option_and_then (place_datas (i + 1) ds)) (data_same i d d.mode s k n.0)
      ∙ next (place_data i d d.mode s) (placed_data m names globals h i d.mode d s n.0 k) (λ t g. datas_placed (i + 1) ds t g n.1)
    where
      next : (r : Option Store) → IfAny (StoreNamed names globals) r → ((t : Store) → StoreNamed names globals t → place_datas (i + 1) ds (more_store extra t) ≡ option_map (more_store extra) (place_datas (i + 1) ds t)) → option_and_then (place_datas (i + 1) ds) (option_map (more_store extra) r) ≡ option_map (more_store extra) (option_and_then (place_datas (i + 1) ds) r)
      next None g f = refl
      next (Some t) g f = f t g

  segments_placed : (s : Store) → S s → place_segments m (more_store extra s) ≡ option_map (more_store extra) (place_segments m s)
  segments_placed s k =
      ap (option_and_then (place_datas 0 m.datas)) (elems_placed 0 m.elems s k h.elem_modes)
      ∙ next (place_elems 0 m.elems s) (placed_elems m names globals h 0 m.elems s h.elem_modes k)
    where
      next : (r : Option Store) → IfAny (StoreNamed names globals) r → option_and_then (place_datas 0 m.datas) (option_map (more_store extra) r) ≡ option_map (more_store extra) (option_and_then (place_datas 0 m.datas) r)
      next None g = refl
      next (Some t) g = datas_placed 0 m.datas t g h.data_modes

-- a new store, by the parts of its module
abbrev made : List Import → List Limits → List tables.Table → List Element → List Segment → List Val → Store
made is ms ts es ds gs = record {
  globals = gs;
  memories = map new_memory (filter_map (λ i. memory_import i.desc) is ++ ms);
  tables = filter_map (λ i. table_import i.desc) is ++ map (λ t. new_table (first_entry gs t.ty t.init) t.limits) ts;
  elems = map (λ e. map (constant gs) e.items) es;
  datas = map (λ d. d.bytes) ds;
  exceptions = [];
}

made_same : {m o : Module} → Alike m o → (gs : List Val) → new_store o gs ≡ new_store m gs
made_same {m = m} {o = o} a gs =
    ap (λ (l : List Import). made l o.memories o.tables o.elems o.datas gs) a.imports
    ∙ ap (λ (l : List Limits). made m.imports l o.tables o.elems o.datas gs) a.memories
    ∙ ap (λ (l : List tables.Table). made m.imports m.memories l o.elems o.datas gs) a.tables
    ∙ ap (λ (l : List Element). made m.imports m.memories m.tables l o.datas gs) a.elems
    ∙ ap (λ (l : List Segment). made m.imports m.memories m.tables m.elems l gs) a.datas

placed_same : {m o : Module} → Alike m o → (s : Store) → place_segments o s ≡ place_segments m s
placed_same {m = m} {o = o} a s =
    ap (λ (l : List Element). option_and_then (place_datas 0 o.datas) (place_elems 0 l s)) a.elems
    ∙ ap (λ (l : List Segment). option_and_then (place_datas 0 l) (place_elems 0 m.elems s)) a.datas

module _ {m o : Module} (p : Appended m o) (a : Alike m o) (globals : ℕ) (h : ModuleNamed m (names_of m globals) globals) where
  values_more : (s : Script) → all_values o s ≡ all_values m s ++ added_values a.more_globals (all_values m s)
  values_more s =
      ap (λ (l : List Global). with_globals l (map from_host s.globals)) a.globals
      ∙ with_append m.globals a.more_globals (map from_host s.globals)
      ∙ added a.more_globals (all_values m s)

  store_more : (s : Script) → ScriptFits m s → new_store o (all_values o s) ≡ more_store (added_values a.more_globals (all_values m s)) (new_store m (all_values m s))
  store_more s fit =
      let gs = all_values m s in
      let extra = added_values a.more_globals (all_values m s) in
      let count = values_count m (names_of m globals) globals h s fit in
      made_same a (all_values o s)
      ∙ ap (new_store m) (values_more s)
      ∙ ap (λ (l : List _). record (new_store m (gs ++ extra)) { tables = filter_map (λ i. table_import i.desc) m.imports ++ l }) (tables_same m globals h extra gs m.tables count h.entries)
      ∙ ap (λ (l : List (List Val)). record (more_store extra (new_store m gs)) { elems = l }) (elems_same m globals h extra gs m.elems count h.items)

  module _ (exact : Bool) (spare more_frames : ℕ) (within : spare ≤ more_frames) (Place : Type 0) (Around : Place → Place → Type 0) (Extra : List Val → Type 0) where
    abbrev A : Adding m o
    A = appending_within p globals exact spare more_frames within Place Around Extra

    -- the states in which both runs begin
    pub begins : (s : Script) → ScriptFits m s → Extra (added_values a.more_globals (all_values m s)) → Behind A (start_state m s) (start_state o s)
    begins s fit e = record {
      extra = added_values a.more_globals (all_values m s);
      is_extra = e;
      is_more = ap (λ (t : Store). record (start_state m s) { store = t }) (store_more s fit);
    }

    -- what the host sees
    pub offers : AllByRecursion (λ e. export_named (names_of m globals) e.desc ≡ true) m.exports → Offers A
    offers named = record {
      exports = a.exports;
      named = named;
      start = a.start;
      segments = λ extra s safe e. placed_same a (more_store extra s.store) ∙ segments_placed m globals h extra s.store safe.store;
      keeps_host = host_keeps (names_of m globals) globals m;
    }

    -- What a stage owes that only adds behind: its one layer, its bodies, and what its globals begin with.
    pub staged_within : {X : Type 0} (step : Step X Instr-F Instr) (seen : Place → X) → AllByRecursion (λ e. export_named (names_of m globals) e.desc ≡ true) m.exports → ((s : Script) → ScriptFits m s → Extra (added_values a.more_globals (all_values m s))) → OwesLayers (adds_to A) (language m) (language o) step seen (CodeNamed m (names_of m globals)) → ((x : ℕ) → (names_of m globals).func x ≡ true → nat_lt x (imported_funcs m) ≡ false → CodeStays A step seen (CodeNamed m (names_of m globals)) (slice_get m.codes (x - imported_funcs m)) (slice_get o.codes (x - imported_funcs m))) → Staged A step seen (CodeNamed m (names_of m globals))
    staged_within step seen named extra layers code = record {
      offers = offers named;
      layers = layers;
      imported = ap (λ (l : List Import). count_by (λ i. is_func i.desc) l) a.imports;
      code = code;
      named = λ x k. k;
      keeps_tasks = script_keeps m (names_of m globals) globals h;
      begins = λ s fit. begins s fit (extra s fit);
      safe = starts_named m (names_of m globals) globals h;
    }

  -- the same where all further calls are left wherever code runs
  pub staged : (exact : Bool) (spare : ℕ) (Place : Type 0) (Around : Place → Place → Type 0) (Extra : List Val → Type 0) {X : Type 0} (step : Step X Instr-F Instr) (seen : Place → X) → AllByRecursion (λ e. export_named (names_of m globals) e.desc ≡ true) m.exports → ((s : Script) → ScriptFits m s → Extra (added_values a.more_globals (all_values m s))) → OwesLayers (adds_to (appending p globals exact spare Place Around Extra)) (language m) (language o) step seen (CodeNamed m (names_of m globals)) → ((x : ℕ) → (names_of m globals).func x ≡ true → nat_lt x (imported_funcs m) ≡ false → CodeStays (appending p globals exact spare Place Around Extra) step seen (CodeNamed m (names_of m globals)) (slice_get m.codes (x - imported_funcs m)) (slice_get o.codes (x - imported_funcs m))) → Staged (appending p globals exact spare Place Around Extra) step seen (CodeNamed m (names_of m globals))
  staged exact spare Place Around Extra step seen named extra layers code = staged_within exact spare spare (le_refl spare) Place Around Extra step seen named extra layers code
