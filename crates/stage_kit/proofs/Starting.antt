-- What the tasks of a script that fits keep by themselves, and the state in which they begin.
use Rattle.std.proofs.Common.{◌≡◌, ℕ, zero, suc, ◌+◌, ◌<◌, true, List, [], ◌∷◌, ◌++◌, map, length, Option, Some, None, refl, sym, ap, ◌∙◌, subst, arith}
use Rattle.std.specs.Prelude.{slice_get, set, filter_map, option_and_then}
use Rattle.std.specs.List.{AllByRecursion, cons_option}
use Rattle.std.proofs.lemmas.List.{length-append, length-map}
use Rattle.host_kit.specs.Fits.{ValueHasType, ValuesHaveTypes, ActFits, ItemFits, ReplyFits, ScriptFits, results_of}
use Rattle.host_kit.specs.Pairwise.{Pairwise}
use Rattle.host_kit.specs.declared.event.Event.TheVariants as events
use Rattle.host_kit.specs.declared.script.Act.{Act}
use Rattle.host_kit.specs.declared.script.Act.TheVariants.{Set, Peek, Poke}
use Rattle.host_kit.specs.declared.script.Item.{Item}
use Rattle.host_kit.specs.declared.script.Item.TheVariants.{Call, Host}
use Rattle.host_kit.specs.declared.script.Reply.{Reply}
use Rattle.host_kit.specs.declared.script.Script.{Script}
use Rattle.host_kit.specs.declared.value.Value.{Value}
use Rattle.host_kit.specs.declared.value.Value.TheVariants as values
use Rattle.wasm_ast.specs.Spaces.{func_indices, func_import, global_import}
use Rattle.wasm_ast.specs.declared.module.code.Instr.{Instr, out-Instr}
use Rattle.wasm_ast.specs.declared.module.code.Instr.TheOpen.{Instr-F}
use Rattle.wasm_ast.specs.declared.module.parts.Element.{Element}
use Rattle.wasm_ast.specs.declared.module.parts.Global.{Global}
use Rattle.wasm_ast.specs.declared.module.parts.ImportDesc.{ImportDesc}
use Rattle.wasm_ast.specs.declared.module.parts.ImportDesc.TheVariants as imports
use Rattle.wasm_ast.specs.declared.module.parts.Import.{Import}
use Rattle.wasm_ast.specs.declared.module.parts.Mode.{Mode}
use Rattle.wasm_ast.specs.declared.module.parts.Mode.TheVariants.{Active, Passive, Declarative}
use Rattle.wasm_ast.specs.declared.module.parts.Module.{Module}
use Rattle.wasm_ast.specs.declared.module.parts.Segment.{Segment}
use Rattle.wasm_ast.specs.declared.module.parts.Table as tables
use Rattle.wasm_ast.specs.declared.module.ty.FuncType.{FuncType}
use Rattle.wasm_ast.specs.declared.module.ty.Ty.{Ty}
use Rattle.wasm_ast.specs.declared.module.ty.Ty.TheVariants as types
use Rattle.evaluation_kit.specs.declared.jump.Jump.{Jump}
use Rattle.evaluation_kit.specs.declared.jump.Jump.TheVariants.{Throw, NoReply, Full, Stuck}
use Rattle.outcome_kit.specs.Code.{Go, Leave}
use Rattle.evaluation_kit.specs.Tasks.{Change}
use Rattle.simulation_kit.specs.Keeping.{HoldsStatus, SeeKeeps}
use Rattle.meaning_new.specs.declared.val.Val.{Val}
use Rattle.meaning_new.specs.declared.val.Val.TheVariants.{Null}
use Rattle.meaning_new.specs.Store.{Store, State, Exception, After, missing, tell, from_host}
use Rattle.meaning_new.specs.Memories.{memory_init, data_drop}
use Rattle.meaning_new.specs.Numeric.{pure}
use Rattle.meaning_new.specs.Tables.{table_init, elem_drop}
use Rattle.meaning_new.specs.Instances.{then, store_of, or_same, constant_step, constant_steps, constant, with_globals, all_values, first_entry, new_table, table_import, whole, place_elem, place_elems, place_data, place_datas, place_segments}
use Rattle.meaning_new.specs.Runs.{instantiated, started, start_task, uncaught, answered, call_task, item_task, item_tasks, run_tasks}
use Rattle.stage_kit.specs.Adding.{Names, own_named}
use Rattle.stage_kit.specs.Hosting.{TaskKeeps, TasksKeep}
use Rattle.stage_kit.specs.Naming.{ValNamed, AllNamed, ActNamed, ReplyNamed, StoreNamed, StateNamed, ConstantNamed, InitNamed, ModeNamed, StartNamed, ModuleNamed}
use Rattle.stage_kit.specs.Staged.{start_state}
use Rattle.stage_kit.proofs.Lists.{IfAny, all_append, all_reverse, all_set, all_replicate, all_index, all_top}
use Rattle.stage_kit.proofs.Naming
use Rattle.stage_kit.proofs.Naming.{naming}
use Rattle.stage_kit.proofs.NamingForms.{init_named, act_named}

module _ (m : Module) (names : Names) (globals : ℕ) (h : ModuleNamed m names globals) where
  abbrev V : Val → Type 0
  V = ValNamed names globals

  abbrev All : List Val → Type 0
  All = AllNamed names globals

  abbrev S : Store → Type 0
  S = StoreNamed names globals

  -- values of the host
  value_named : (v : Value) (t : Ty) → ValueHasType m v t → V (from_host v)
  value_named (values.I32 i) t k = tt
  value_named (values.I64 i) t k = tt
  value_named (values.V128 low high) t k = tt
  value_named (values.Func x) types.Func k = h.funcs x k
  value_named (values.Func x) t k = absurd k
  value_named (values.Extern a) t k = tt
  value_named values.NullFunc t k = tt
  value_named values.NullExtern t k = tt

  values_named : (vs : List Value) (ts : List Ty) → ValuesHaveTypes m vs ts → All (map from_host vs)
  values_named [] [] k = tt
  values_named [] (t ∷ ts) k = absurd k
  values_named (v ∷ vs) [] k = absurd k
  values_named (v ∷ vs) (t ∷ ts) k = (value_named v t k.0, values_named vs ts k.1)

  act_fits : (a : Act) → ActFits m a → ActNamed names globals a
  act_fits (Set name v) k = value_named v k.type k.value
  act_fits (Peek name at count) k = tt
  act_fits (Poke name at bytes) k = tt

  acts_fit : (all : List Act) → AllByRecursion (ActFits m) all → AllByRecursion (ActNamed names globals) all
  acts_fit [] k = tt
  acts_fit (a ∷ rest) k = (act_fits a k.0, acts_fit rest k.1)

  replies_fit : (ts : List Ty) (rs : List Reply) → AllByRecursion (ReplyFits m ts) rs → AllByRecursion (ReplyNamed names globals) rs
  replies_fit ts [] k = tt
  replies_fit ts (r ∷ rs) k = ((values_named r.values ts k.0.values, acts_fit r.acts k.0.acts), replies_fit ts rs k.1)

  all_replies : (lists : List (List Reply)) (indices : List ℕ) → Pairwise (λ rs t. AllByRecursion (ReplyFits m (results_of (slice_get m.types t))) rs) lists indices → AllByRecursion (λ l. AllByRecursion (ReplyNamed names globals) l) lists
  all_replies [] [] k = tt
  all_replies [] (t ∷ ts) k = absurd k
  all_replies (l ∷ ls) [] k = absurd k
  all_replies (l ∷ ls) (t ∷ ts) k = (replies_fit (results_of (slice_get m.types t)) l k.0, all_replies ls ts k.1)

  -- constant expressions
  same_named : (l : List Val) (after : Option (List Val)) → All l → IfAny All after → All (or_same l after)
  same_named l None k g = k
  same_named l (Some after) k g = g

  step_named : (gs : List Val) (i : Instr-F Instr) (l : List Val) → own_named names Instr i ≡ true → All gs → All l → All (constant_step gs i l)
  step_named gs (Instr-F.GlobalGet x) l n g k = (all_index V gs x missing tt g, k)
  step_named gs (Instr-F.Pure op) l n g k = same_named l (pure op l) k (Naming.pure_named names globals op n l k)
  step_named gs i l n g k = k

  steps_named : (gs : List Val) (code : List Instr) (l : List Val) → ConstantNamed names code → All gs → All l → All (constant_steps gs code l)
  steps_named gs [] l n g k = k
  steps_named gs (i ∷ code) l n g k = steps_named gs code (constant_step gs (out-Instr i) l) n.1 g (step_named gs (out-Instr i) l n.0 g k)

  constant_named : (gs : List Val) (code : List Instr) → ConstantNamed names code → All gs → V (constant gs code)
  constant_named gs code n g = all_top V missing (constant_steps gs code []) tt (steps_named gs code [] n g tt)

  globals_named : (gs : List Global) (l : List Val) → AllByRecursion (λ g. ConstantNamed names g.init) gs → All l → All (with_globals gs l)
  globals_named [] l n k = k
  globals_named (g ∷ gs) l n k = globals_named gs (l ++ constant l g.init ∷ []) n.1 (all_append V l (constant l g.init ∷ []) k (constant_named l g.init n.0 k, tt))

  globals_count : (gs : List Global) (l : List Val) → length (with_globals gs l) ≡ length l + length gs
  globals_count [] l = omega arith
  globals_count (g ∷ gs) l =
      let e = globals_count gs (l ++ constant l g.init ∷ []) in
      let f = length-append l (constant l g.init ∷ []) in
      omega arith

  pairs_count : (vs : List Value) (ts : List Ty) → ValuesHaveTypes m vs ts → length vs ≡ length ts
  pairs_count [] [] k = refl
  pairs_count [] (t ∷ ts) k = absurd k
  pairs_count (v ∷ vs) [] k = absurd k
  pairs_count (v ∷ vs) (t ∷ ts) k = ap suc (pairs_count vs ts k.1)

  -- tables and segments
  items_named : (gs : List Val) (items : List (List Instr)) → AllByRecursion (ConstantNamed names) items → All gs → All (map (constant gs) items)
  items_named gs [] n g = tt
  items_named gs (code ∷ items) n g = (constant_named gs code n.0 g, items_named gs items n.1 g)

  elems_named : (gs : List Val) (es : List Element) → AllByRecursion (λ e. AllByRecursion (ConstantNamed names) e.items) es → All gs → AllByRecursion All (map (λ e. map (constant gs) e.items) es)
  elems_named gs [] n g = tt
  elems_named gs (e ∷ es) n g = (items_named gs e.items n.0 g, elems_named gs es n.1 g)

  entry_named : (gs : List Val) (t : Ty) (init : Option (List Instr)) → InitNamed names init → All gs → V (first_entry gs t init)
  entry_named gs t None n g = tt
  entry_named gs t (Some code) n g = constant_named gs code n g

  own_tables : (gs : List Val) (ts : List tables.Table) → AllByRecursion (λ t. InitNamed names t.init) ts → All gs → AllByRecursion (λ t. All t.entries) (map (λ t. new_table (first_entry gs t.ty t.init) t.limits) ts)
  own_tables gs [] n g = tt
  own_tables gs (t ∷ ts) n g = (all_replicate V t.limits.min (first_entry gs t.ty t.init) (entry_named gs t.ty t.init n.0 g), own_tables gs ts n.1 g)

  import_tables : (is : List Import) → AllByRecursion (λ t. All t.entries) (filter_map (λ i. table_import i.desc) is)
  import_tables [] = tt
  import_tables (i ∷ is) = one i.desc (import_tables is)
    where
      one : (d : ImportDesc) → AllByRecursion (λ t. All t.entries) (filter_map (λ j. table_import j.desc) is) → AllByRecursion (λ t. All t.entries) (cons_option (table_import d) (filter_map (λ j. table_import j.desc) is))
      one (imports.Table t l) rest = (all_replicate V l.min (Null t) tt, rest)
      one d rest = rest

  -- the state in which a run begins
  module _ (s : Script) (fit : ScriptFits m s) where
    imported_named : All (map from_host s.globals)
    imported_named = values_named s.globals (filter_map (λ i. global_import i.desc) m.imports) fit.globals

    pub values_count : length (all_values m s) ≡ globals
    values_count =
        globals_count m.globals (map from_host s.globals)
        ∙ ap (λ n. n + length m.globals) (length-map s.globals from_host ∙ pairs_count s.globals (filter_map (λ i. global_import i.desc) m.imports) fit.globals)
        ∙ h.count

    pub all_named : All (all_values m s)
    all_named = globals_named m.globals (map from_host s.globals) h.inits imported_named

    pub starts_named : StateNamed names globals (start_state m s)
    starts_named = record {
      store = record {
        count = values_count;
        globals_named = all_named;
        tables = all_append (λ t. All t.entries) (filter_map (λ i. table_import i.desc) m.imports) (map (λ t. new_table (first_entry (all_values m s) t.ty t.init) t.limits) m.tables) (import_tables m.imports) (own_tables (all_values m s) m.tables h.entries all_named);
        elems = elems_named (all_values m s) m.elems h.items all_named;
        exceptions = tt;
      };
      replies = all_replies s.replies (filter_map (λ i. func_import i.desc) m.imports) fit.replies;
    }

  -- segments
  pub placed_elem : (i : ℕ) (mode : Mode) (e : Element) (s : Store) → ModeNamed names mode → S s → IfAny S (place_elem i e mode s)
  placed_elem i (Active x offset) e s n k = after (table_init i x (whole (length e.items) (constant s.globals offset)) s) (Naming.table_init_named names globals i x (whole (length e.items) (constant s.globals offset)) s (tt, (tt, (constant_named s.globals offset n k.globals_named, tt))) k)
    where
      after : (r : After) → IfAny (λ p. All p.0 × S p.1) r → IfAny S (then r (λ t. store_of (elem_drop i [] t)))
      after None g = tt
      after (Some r) g = Naming.with_elems names globals r.1 (set r.1.elems i []) g.1 (all_set All r.1.elems i [] tt g.1.elems)
  placed_elem i Passive e s n k = k
  placed_elem i Declarative e s n k = Naming.with_elems names globals s (set s.elems i []) k (all_set All s.elems i [] tt k.elems)

  pub placed_elems : (i : ℕ) (es : List Element) (s : Store) → AllByRecursion (λ e. ModeNamed names e.mode) es → S s → IfAny S (place_elems i es s)
  placed_elems i [] s n k = k
  placed_elems i (e ∷ es) s n k = next (place_elem i e e.mode s) (placed_elem i e.mode e s n.0 k) (λ t g. placed_elems (i + 1) es t n.1 g)
    where
      next : (r : Option Store) → IfAny S r → ((t : Store) → S t → IfAny S (place_elems (i + 1) es t)) → IfAny S (option_and_then (place_elems (i + 1) es) r)
      next None g f = tt
      next (Some t) g f = f t g

  pub placed_data : (i : ℕ) (mode : Mode) (d : Segment) (s : Store) → ModeNamed names mode → S s → IfAny S (place_data i d mode s)
  placed_data i (Active x offset) d s n k = after (memory_init i x (whole (length d.bytes) (constant s.globals offset)) s) (init_named names globals i x (whole (length d.bytes) (constant s.globals offset)) s (tt, (tt, (constant_named s.globals offset n k.globals_named, tt))) k)
    where
      after : (r : After) → IfAny (λ p. All p.0 × S p.1) r → IfAny S (then r (λ t. store_of (data_drop i [] t)))
      after None g = tt
      after (Some r) g = Naming.with_datas names globals r.1 (set r.1.datas i []) g.1
  placed_data i mode d s n k = k

  placed_datas : (i : ℕ) (ds : List Segment) (s : Store) → AllByRecursion (λ d. ModeNamed names d.mode) ds → S s → IfAny S (place_datas i ds s)
  placed_datas i [] s n k = k
  placed_datas i (d ∷ ds) s n k = next (place_data i d d.mode s) (placed_data i d.mode d s n.0 k) (λ t g. placed_datas (i + 1) ds t n.1 g)
    where
      next : (r : Option Store) → IfAny S r → ((t : Store) → S t → IfAny S (place_datas (i + 1) ds t)) → IfAny S (option_and_then (place_datas (i + 1) ds) r)
      next None g f = tt
      next (Some t) g f = f t g

  placed_segments : (s : Store) → S s → IfAny S (place_segments m s)
  placed_segments s k = next (place_elems 0 m.elems s) (placed_elems 0 m.elems s h.elem_modes k)
    where
      next : (r : Option Store) → IfAny S r → IfAny S (option_and_then (place_datas 0 m.datas) r)
      next None g = tt
      next (Some t) g = placed_datas 0 m.datas t h.data_modes g

  -- tasks
  again : (s t : State) → t.store ≡ s.store → t.replies ≡ s.replies → StateNamed names globals s → StateNamed names globals t
  again s t e f k = record { store = subst S (sym e) k.store; replies = subst (λ l. AllByRecursion (λ i. AllByRecursion (ReplyNamed names globals) i) l) (sym f) k.replies }

  instantiates : TaskKeeps (naming names globals) (Change (λ s. instantiated s (place_segments m s.store)))
  instantiates = record { keeps = λ s k. placed s k (place_segments m s.store) (placed_segments s.store k.store) }
    where
      placed : (s : State) → StateNamed names globals s → (i : Option Store) → IfAny S i → HoldsStatus (naming names globals) (instantiated s i)
      placed s k None g = tt
      placed s k (Some store) g = record { store = g; replies = k.replies }

  start_keeps : SeeKeeps (naming names globals) started
  start_keeps = record { goes = λ a l s n k. k; leaves = λ j a l s n k. left j a l s }
    where
      left : (j : Jump) (a l : List Val) (s : State) → HoldsStatus (naming names globals) (started (Leave j (record { operands = a; locals = l; state = s })))
      left (NoReply x) a l s = tt
      left Full a l s = tt
      left Stuck a l s = tt
      left j a l s = tt

  answer_keeps : (i : ℕ) → SeeKeeps (naming names globals) (answered m i)
  answer_keeps i = record { goes = λ a l s n k. again s _ refl refl k; leaves = λ j a l s n k. left j a l s k }
    where
      escaped : (x : Option Exception) (s : State) → StateNamed names globals s → StateNamed names globals (uncaught m i x s)
      escaped None s k = again s _ refl refl k
      escaped (Some x) s k = again s _ refl refl k

      left : (j : Jump) (a l : List Val) (s : State) → StateNamed names globals s → HoldsStatus (naming names globals) (answered m i (Leave j (record { operands = a; locals = l; state = s })))
      left (Throw e) a l s k = escaped (slice_get s.store.exceptions e) s k
      left (NoReply x) a l s k = tt
      left Full a l s k = tt
      left Stuck a l s k = tt
      left j a l s k = again s _ refl refl k

  got_below : (l : List ℕ) (x : ℕ) (t : FuncType) → option_and_then (slice_get m.types) (slice_get l x) ≡ Some t → x < length l
  got_below [] x t e = let no : ⊥ = cc in absurd no
  got_below (a ∷ l) zero t e = omega arith
  got_below (a ∷ l) (suc x) t e = let less = got_below l x t e in omega arith

  item_keeps : (i : ℕ) (item : Item) → ItemFits m item → TaskKeeps (naming names globals) (item_task m i item)
  item_keeps i (Call name arguments) fit =
      subst (λ d. TaskKeeps (naming names globals) (call_task m i d arguments)) (sym fit.offered)
      (h.funcs fit.func (got_below (func_indices m) fit.func fit.type fit.typed), all_reverse V (map from_host arguments) (values_named arguments fit.type.params fit.params), answer_keeps i)
  item_keeps i (Host a) fit = record { keeps = λ s k. act_named names globals m a s (act_fits a fit) k }

  items_keep : (i : ℕ) (items : List Item) → AllByRecursion (ItemFits m) items → TasksKeep (naming names globals) (item_tasks m i items)
  items_keep i [] fit = (record { keeps = λ s k. again s _ refl refl k }, tt)
  items_keep i (item ∷ rest) fit = (item_keeps i item fit.0, items_keep (i + 1) rest fit.1)

  from_start : (start : Option ℕ) → StartNamed names start → (s : Script) → ScriptFits m s → TasksKeep (naming names globals) (start_task start ++ (Change (λ t. Go (tell events.Started t)) ∷ item_tasks m 0 s.items))
  from_start None n s fit = (record { keeps = λ t k. again t _ refl refl k }, items_keep 0 s.items fit.items)
  from_start (Some x) n s fit = ((n, tt, start_keeps), (record { keeps = λ t k. again t _ refl refl k }, items_keep 0 s.items fit.items))

  -- All that the host does keeps what runs keep.
  pub script_keeps : (s : Script) → ScriptFits m s → TasksKeep (naming names globals) (run_tasks m s)
  script_keeps s fit = (instantiates, from_start m.start h.start s fit)
