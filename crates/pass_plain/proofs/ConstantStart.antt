-- How a module without constant expressions that compute begins, beside the module that it was made of.
use Rattle.std.proofs.Common.{◌≡◌, ℕ, ◌+◌, cond, List, [], ◌∷◌, ◌++◌, map, length, Option, Some, None, option_map, refl, sym, ap, ◌∙◌, subst, append-nil}
use Rattle.std.specs.Prelude.{filter_map, count_by}
use Rattle.std.specs.List.{AllByRecursion, cons_option}
use Rattle.std.proofs.Math.Numerals.{one-add}
use Rattle.std.proofs.lemmas.List.{length-map}
use Rattle.std.proofs.lemmas.List.Recursion.{is_count_by}
use Rattle.host_kit.specs.Fits.{ScriptFits}
use Rattle.host_kit.specs.Pairwise.{Pairwise}
use Rattle.host_kit.specs.declared.script.Script.{Script}
use Rattle.wasm_ast.specs.Fold.{known_imports, known_globals}
use Rattle.wasm_ast.specs.Spaces.{is_global, imported, global_import}
use Rattle.wasm_ast.specs.declared.folding.folded.Folded.{Folded}
use Rattle.wasm_ast.specs.declared.module.code.Instr.{Instr}
use Rattle.wasm_ast.specs.declared.module.parts.Element.{Element}
use Rattle.wasm_ast.specs.declared.module.parts.Global as own_globals
use Rattle.wasm_ast.specs.declared.module.parts.Import.{Import}
use Rattle.wasm_ast.specs.declared.module.parts.ImportDesc.{ImportDesc}
use Rattle.wasm_ast.specs.declared.module.parts.ImportDesc.TheVariants as imports
use Rattle.wasm_ast.specs.declared.module.parts.Mode.{Mode}
use Rattle.wasm_ast.specs.declared.module.parts.Mode.TheVariants.{Active, Passive, Declarative}
use Rattle.wasm_ast.specs.declared.module.parts.Module.{Module}
use Rattle.wasm_ast.specs.declared.module.parts.Segment.{Segment}
use Rattle.wasm_ast.specs.declared.module.parts.Table as tables
use Rattle.wasm_ast.specs.declared.module.ty.Ty.{Ty}
use Rattle.meaning_new.specs.declared.val.Val.{Val}
use Rattle.meaning_new.specs.Store.{Store, State, Table, from_host, with_store}
use Rattle.meaning_new.specs.Instances.{constant, all_values, first_entry, new_table, table_import, new_memories, new_store, place_segments}
use Rattle.stage_kit.specs.Appended.{added_values}
use Rattle.stage_kit.specs.Prepared.{store_with, state_with, ModeAlike, ElemAlike, DataAlike}
use Rattle.stage_kit.specs.Staged.{start_state}
use Rattle.stage_kit.proofs.Beginning.{added}
use Rattle.stage_kit.proofs.Placing.{segments_alike, segments_keep}
use Rattle.pass_plain.specs.Constants.{Tells, ModeInRange, ModeFolds, ReadsNone, EntryReadsNone, HasConstants}
use Rattle.pass_plain.specs.Folding.{folded_code, folded_mode, folded_elem, folded_data, folded_globals, folded_part, setting_code}
use Rattle.pass_plain.proofs.FoldedValues.{fold_gives}
use Rattle.pass_plain.proofs.FoldedGlobals.{pairs_count, imports_tell, inputs_tell, folded_constant}
use Rattle.pass_plain.proofs.SettingGlobals.{sets_run, none_set}
use Rattle.evaluation_kit.specs.Configurations.{World}
use Rattle.evaluation_kit.specs.Languages.{exec_code}
use Rattle.meaning_new.specs.Language.{language}

-- how many globals are imported
pub imports_counted : (is : List Import) → length (filter_map (λ i. global_import i.desc) is) ≡ count_by (λ i. is_global i.desc) is
imports_counted = is_count_by (λ is. length (filter_map (λ (i : Import). global_import i.desc) is)) (λ i. is_global i.desc) refl (λ i is. one i.desc (filter_map (λ j. global_import j.desc) is))
  where
    one : (d : ImportDesc) (ys : List Ty) → length (cons_option (global_import d) ys) ≡ cond (is_global d) (1 + length ys) (length ys)
    one (imports.Global t mutable) ys = sym (one-add (length ys))
    one (imports.Table t l) ys = refl
    one (imports.Memory l) ys = refl
    one (imports.Func t) ys = refl
    one (imports.Tag t) ys = refl

-- segments whose offsets fold
module _ (imports rest rest' : List Val) (known : List (Option Folded)) (tells : Pairwise (Tells imports) known (imports ++ rest)) where
  mode_alike : (mode : Mode) → ModeInRange mode → ModeFolds known mode → ModeAlike (imports ++ rest) (imports ++ rest') mode (folded_mode known mode)
  mode_alike (Active x offset) r f =
      let g = fold_gives imports known (imports ++ rest) tells offset f.0 r f.1 in
      (refl, ap (λ o. constant (imports ++ rest') (folded_code offset o)) f.1 ∙ folded_constant imports rest' f.0 g.0 ∙ sym g.1)
  mode_alike Passive r f = tt
  mode_alike Declarative r f = tt

  elems_alike : (es : List Element) → AllByRecursion (λ e. ModeInRange e.mode) es → AllByRecursion (λ e. ModeFolds known e.mode) es → Pairwise (ElemAlike (imports ++ rest) (imports ++ rest')) es (map (folded_elem known) es)
  elems_alike [] r f = tt
  elems_alike (e ∷ es) r f = ((refl, mode_alike e.mode r.0 f.0), elems_alike es r.1 f.1)

  datas_alike : (ds : List Segment) → AllByRecursion (λ d. ModeInRange d.mode) ds → AllByRecursion (λ d. ModeFolds known d.mode) ds → Pairwise (DataAlike (imports ++ rest) (imports ++ rest')) ds (map (folded_data known) ds)
  datas_alike [] r f = tt
  datas_alike (d ∷ ds) r f = ((refl, mode_alike d.mode r.0 f.0), datas_alike ds r.1 f.1)

-- what reads no globals is the same over others
module _ (globals others : List Val) where
  entry_same : (t : Ty) (init : Option (List Instr)) → EntryReadsNone init → first_entry others t init ≡ first_entry globals t init
  entry_same t None h = refl
  entry_same t (Some code) h = h globals others

  tables_same : (ts : List tables.Table) → AllByRecursion (λ t. EntryReadsNone t.init) ts → map (λ t. new_table (first_entry others t.ty t.init) t.limits) ts ≡ map (λ t. new_table (first_entry globals t.ty t.init) t.limits) ts
  tables_same [] h = refl
  tables_same (t ∷ ts) h =
      ap (λ v. new_table v t.limits ∷ map (λ i. new_table (first_entry others i.ty i.init) i.limits) ts) (entry_same t.ty t.init h.0)
      ∙ ap (λ l. new_table (first_entry globals t.ty t.init) t.limits ∷ l) (tables_same ts h.1)

  items_same : (items : List (List Instr)) → AllByRecursion ReadsNone items → map (constant others) items ≡ map (constant globals) items
  items_same [] h = refl
  items_same (code ∷ items) h = ap (λ v. v ∷ map (constant others) items) (h.0 globals others) ∙ ap (λ l. constant globals code ∷ l) (items_same items h.1)

  elems_same : (known : List (Option Folded)) (es : List Element) → AllByRecursion (λ e. AllByRecursion ReadsNone e.items) es → map (λ e. map (constant others) e.items) (map (folded_elem known) es) ≡ map (λ e. map (constant globals) e.items) es
  elems_same known [] h = refl
  elems_same known (e ∷ es) h = ap (λ l. l ∷ map (λ i. map (constant others) i.items) (map (folded_elem known) es)) (items_same e.items h.0) ∙ ap (λ l. map (constant globals) e.items ∷ l) (elems_same known es h.1)

bytes_same : (known : List (Option Folded)) (ds : List Segment) → map (λ d. d.bytes) (map (folded_data known) ds) ≡ map (λ d. d.bytes) ds
bytes_same known [] = refl
bytes_same known (d ∷ ds) = ap (λ l. d.bytes ∷ l) (bytes_same known ds)

module _ (m : Module) (h : HasConstants m) (s : Script) (fit : ScriptFits m s) where
  abbrev pub host_values : List Val
  host_values = map from_host s.globals

  abbrev known : List (Option Folded)
  known = known_globals m

  abbrev types : List Ty
  types = filter_map (λ i. global_import i.desc) m.imports

  values_counted : length types ≡ length host_values
  values_counted = sym (length-map s.globals from_host ∙ pairs_count _ s.globals types fit.globals)

  pub hosts_tell : Pairwise (Tells host_values) (known_imports types) host_values
  hosts_tell = imports_tell [] host_values types values_counted

  -- the globals with which each begins
  abbrev values : List Val
  values = added_values m.globals host_values

  abbrev new_globals : List own_globals.Global
  new_globals = folded_globals known (imported is_global m) m.globals

  abbrev others : List Val
  others = added_values new_globals host_values

  known_counted : imported is_global m ≡ length (known_imports types)
  known_counted = sym (imports_counted m.imports) ∙ values_counted ∙ sym (pairs_count (Tells host_values) (known_imports types) host_values hosts_tell)

  abbrev G : List Val
  G = host_values ++ values

  abbrev pub new_values : List Val
  new_values = host_values ++ others

  pub values_are : all_values m s ≡ G
  values_are = added m.globals host_values

  known_values : Pairwise (Tells host_values) known G
  known_values = subst (Pairwise (Tells host_values) known) values_are (inputs_tell host_values (known_imports types) host_values m.globals h.ranges hosts_tell)

  -- the stores in which both begin
  abbrev store_of : List Val → List Table → List (List Val) → List (List ℕ) → Store
  store_of globals own elems datas = record {
    globals = globals;
    memories = new_memories m;
    tables = filter_map (λ i. table_import i.desc) m.imports ++ own;
    elems = elems;
    datas = datas;
    exceptions = [];
  }

  store_begins : new_store (folded_part m) (all_values (folded_part m) s) ≡ store_with new_values (new_store m (all_values m s))
  store_begins =
      let before = all_values m s in
      ap (new_store (folded_part m)) (added new_globals host_values)
      ∙ ap (λ l. store_of new_values l (map (λ e. map (constant new_values) e.items) (map (folded_elem known) m.elems)) (map (λ d. d.bytes) (map (folded_data known) m.datas))) (tables_same before new_values m.tables h.entries)
      ∙ ap (λ l. store_of new_values (map (λ t. new_table (first_entry before t.ty t.init) t.limits) m.tables) l (map (λ d. d.bytes) (map (folded_data known) m.datas))) (elems_same before new_values known m.elems h.items)
      ∙ ap (λ l. store_of new_values (map (λ t. new_table (first_entry before t.ty t.init) t.limits) m.tables) (map (λ e. map (constant before) e.items) m.elems) l) (bytes_same known m.datas)

  -- the states
  pub state_begins : start_state (folded_part m) s ≡ state_with new_values (start_state m s)
  state_begins = ap (λ (t : Store). record (start_state m s) { store = t }) store_begins

  -- segments
  pub segments_placed : place_segments (folded_part m) (store_with new_values (start_state m s).store) ≡ option_map (store_with new_values) (place_segments m (start_state m s).store)
  segments_placed =
      segments_alike G new_values m.elems (map (folded_elem known) m.elems) m.datas (map (folded_data known) m.datas) (start_state m s).store
      (elems_alike host_values values others known known_values m.elems h.elem_ranges h.elem_offsets) (datas_alike host_values values others known known_values m.datas h.data_ranges h.data_offsets) values_are

  globals_stay : (t : Store) → place_segments m (start_state m s).store ≡ Some t → t.globals ≡ G
  globals_stay =
      segments_keep G new_values m.elems (map (folded_elem known) m.elems) m.datas (map (folded_data known) m.datas) (start_state m s).store
      (elems_alike host_values values others known known_values m.elems h.elem_ranges h.elem_offsets) (datas_alike host_values values others known known_values m.datas h.data_ranges h.data_offsets) values_are

  -- and then the code that sets globals
  pub globals_set : (o : Module) (t : Store) → place_segments m (start_state m s).store ≡ Some t → (code : List Instr) (d n : ℕ) (w : World State)
      → exec_code (language o) (setting_code m ++ code) d n (record { operands = []; locals = []; world = record w { state = state_with new_values (with_store t (start_state m s)) } })
      ≡ exec_code (language o) code d n (record { operands = []; locals = []; world = record w { state = with_store t (start_state m s) } })
  globals_set o t placed code d n w =
      let u : State = with_store t (start_state m s) in
      let here : World State = record w { state = u } in
      ap (λ l. exec_code (language o) (setting_code m ++ code) d n (record { operands = []; locals = []; world = record w { state = state_with (host_values ++ added_values new_globals l) u } })) (sym (append-nil host_values))
      ∙ sets_run o host_values known (known_imports types) host_values [] m.globals (imported is_global m) refl known_counted h.ranges h.settable hosts_tell code d n here
      ∙ ap (λ l. exec_code (language o) code d n (record { operands = []; locals = []; world = record w { state = state_with l u } })) (values_are ∙ sym (globals_stay t placed))

  -- where there is no such code, both begin alike
  module _ (none : setting_code m ≡ []) where
    values_stay : new_values ≡ all_values m s
    values_stay =
        ap (λ l. host_values ++ added_values new_globals l) (sym (append-nil host_values))
        ∙ none_set host_values known (known_imports types) host_values [] m.globals (imported is_global m) refl known_counted h.ranges hosts_tell none

    pub state_stays : start_state (folded_part m) s ≡ start_state m s
    state_stays = state_begins ∙ ap (λ l. state_with l (start_state m s)) values_stay

    stores_stay : (r : Option Store) → ((t : Store) → r ≡ Some t → t.globals ≡ G) → option_map (store_with new_values) r ≡ r
    stores_stay None f = refl
    stores_stay (Some t) f = ap (λ l. Some (store_with l t)) (values_stay ∙ values_are ∙ sym (f t refl))

    pub segments_stay : place_segments (folded_part m) (start_state m s).store ≡ place_segments m (start_state m s).store
    segments_stay =
        ap (λ l. place_segments (folded_part m) (store_with l (start_state m s).store)) (sym values_stay)
        ∙ segments_placed
        ∙ stores_stay (place_segments m (start_state m s).store) globals_stay
