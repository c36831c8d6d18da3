-- A module whose start function prepares the globals shows what the other module shows, in one turn more and with one call
-- more open.
use Rattle.std.proofs.Common.{◌≡◌, ℕ, zero, suc, ◌+◌, ◌-◌, ◌*◌, ◌<◌, ◌≤◌, true, false, List, [], ◌∷◌, ◌++◌, take, drop, Option, Some, None, option_map, refl, sym, ap, ◌∙◌, subst, arith, append-nil, le_refl}
use Rattle.std.specs.Prelude.{nat_lt, slice_get}
use Rattle.std.specs.List.{AllByRecursion}
use Rattle.host_kit.specs.Fits.{ScriptFits}
use Rattle.host_kit.specs.Offered.{func_type}
use Rattle.host_kit.specs.declared.event.Event.TheVariants as events
use Rattle.host_kit.specs.declared.script.Script.{Script}
use Rattle.wasm_ast.specs.declared.module.code.Body.{Body}
use Rattle.wasm_ast.specs.declared.module.code.Instr.{Instr}
use Rattle.wasm_ast.specs.declared.module.code.Instr.TheOpen.{Instr-F}
use Rattle.wasm_ast.specs.declared.module.code.Instr.TheVariants.{Call}
use Rattle.wasm_ast.specs.declared.module.parts.Module.{Module}
use Rattle.outcome_kit.specs.Outcome.{Out, Done, bind, place_of}
use Rattle.outcome_kit.specs.Code.{Go, go_on, run, stands}
use Rattle.outcome_kit.proofs.Outcomes.{bind-done}
use Rattle.evaluation_kit.specs.Configurations.{World, Conf, Sem}
use Rattle.evaluation_kit.specs.Control.{entered, returned}
use Rattle.evaluation_kit.specs.Languages.{Language, func, exec_code}
use Rattle.evaluation_kit.specs.Tasks.{Status, Task, Change, Enter, placed, tasks}
use Rattle.simulation_kit.specs.Hosting.{NoParts, TaskSims, statuses}
use Rattle.simulation_kit.specs.Runs.{Runs}
use Rattle.simulation_kit.specs.Keeping.{HoldsStatus}
use Rattle.simulation_kit.specs.Likenesses.{matching, TasksLike}
use Rattle.simulation_kit.specs.Matches.{Match, Depths, Halts}
use Rattle.simulation_kit.specs.Staying.{AllFuncsSim}
use Rattle.simulation_kit.proofs.Directions.{unless_stuck}
use Rattle.simulation_kit.proofs.Hosting.{final_of, tasks_sims}
use Rattle.simulation_kit.proofs.LikeCode.{OwesLayers, like_functions, tasks_stay}
use Rattle.simulation_kit.proofs.Liking.{lawful}
use Rattle.simulation_kit.proofs.PreparedLike.{prepared_alone, prepared_tasks}
use Rattle.simulation_kit.proofs.Rewriting.{exec-rolled}
use Rattle.meaning_new.specs.declared.val.Val.{Val}
use Rattle.meaning_new.specs.Store.{Store, State, tell, with_store}
use Rattle.meaning_new.specs.Forms.{imported_funcs, param_count}
use Rattle.meaning_new.specs.Instances.{place_segments}
use Rattle.meaning_new.specs.Language.{language}
use Rattle.meaning_new.specs.Runs.{instantiated, started, start_task, item_tasks, run_tasks, trace, depth}
use Rattle.stage_kit.specs.Adding.{Adding, CodeNamed, Behind, added}
use Rattle.stage_kit.specs.Appended.{Appended, Alike, names_of}
use Rattle.stage_kit.specs.Naming.{StateNamed}
use Rattle.stage_kit.specs.Prepared.{store_with, state_with, call_start, preparing, Begins, Prepares, ShowsLater}
use Rattle.stage_kit.specs.Staged.{start_state, CodeStays, Staged}
use Rattle.stage_kit.proofs.Appending.{get_append, appending_within}
use Rattle.stage_kit.proofs.Beginning.{staged_within}
use Rattle.stage_kit.proofs.Bodies.{body_there, defaults_named}
use Rattle.stage_kit.proofs.Lists.{IfAny, all_get}
use Rattle.stage_kit.proofs.Scripts.{script_like}
use Rattle.stage_kit.proofs.Staged.{callees}
use Rattle.stage_kit.proofs.Staying.{stays_named}
use Rattle.stage_kit.proofs.Unchanged.{step, call_rolled, whole_kept, host_tail}

module _ {m o : Module} (globals : ℕ) (h : Prepares m o globals) where
  -- the output without its start: all else of it runs as the input does
  abbrev between : Module
  between = record o { globals = m.globals; elems = m.elems; datas = m.datas; start = m.start }

  joined : Appended m between
  joined = record {
    more_types = h.appended.more_types;
    types = h.appended.types;
    more_funcs = h.appended.more_funcs;
    funcs = h.appended.funcs;
    tags = h.appended.tags;
    funcs_typed = h.appended.funcs_typed;
    tags_typed = h.appended.tags_typed;
  }

  alike : Alike m between
  alike = record {
    imports = h.imports;
    exports = h.exports;
    memories = h.memories;
    tables = h.tables;
    elems = refl;
    datas = refl;
    start = refl;
    more_globals = [];
    globals = sym (append-nil m.globals);
  }

  abbrev None_more : List Val → Type 0
  None_more extra = extra ≡ []

  one_more : 0 ≤ 1
  one_more = omega arith

  abbrev A : Adding m between
  A = appending_within joined globals false 0 1 one_more (Unit {0}) (λ inner outer. Unit {0}) None_more

  abbrev L : Language Instr Instr-F Val State
  L = language m

  abbrev L' : Language Instr Instr-F Val State
  L' = language o

  abbrev Known_code : Instr → Type 0
  Known_code = CodeNamed m (names_of m globals)

  abbrev nowhere : Unit {0} → Unit {0}
  nowhere p = tt

  layers : OwesLayers (added A) L (language between) step nowhere Known_code
  unfolding step
  layers N fs = record { layers = λ l x k j claim. stays_named A step nowhere N fs l x k j claim tt tt }

  body_same : (i : Option Body) → IfAny (λ b. AllByRecursion Known_code b.code) i → CodeStays A step nowhere Known_code i i
  body_same None fits = tt
  body_same (Some b) fits = record { place = tt; locals = refl; sound = defaults_named (names_of m globals) globals b.locals; fits = fits; code = whole_kept m b.code }

  code_stays : (x : ℕ) → (names_of m globals).func x ≡ true → nat_lt x (imported_funcs m) ≡ false → CodeStays A step nowhere Known_code (slice_get m.codes (x - imported_funcs m)) (slice_get between.codes (x - imported_funcs m))
  code_stays x named own =
      subst (λ i. CodeStays A step nowhere Known_code (slice_get m.codes (x - imported_funcs m)) i)
      (sym (ap (λ (l : List Body). slice_get l (x - imported_funcs m)) h.codes ∙ get_append m.codes h.more_codes (x - imported_funcs m) (body_there m globals x h.bodies named own)))
      (body_same (slice_get m.codes (x - imported_funcs m)) (all_get (λ b. AllByRecursion Known_code b.code) m.codes (x - imported_funcs m) h.code_named))

  whole : Staged A step nowhere Known_code
  unfolding alike
  whole = staged_within joined alike globals h.named false 0 1 one_more (Unit {0}) (λ inner outer. Unit {0}) None_more step nowhere h.exports_named (λ s fit. refl) layers code_stays

  functions : (N : ℕ) → AllFuncsSim (matching (added A)) N (func L) (func L')
  unfolding func
  functions N = like_functions (added A) L (language between) step nowhere Known_code layers (callees A step nowhere Known_code whole) N

  abbrev W : Match Val State Val State
  W = matching (added A)

  abbrev Idle : State → State → Type 0
  Idle s s' = Behind A s s' × StateNamed (names_of m globals) globals s

  abbrev never : (s s' : State) → NoParts s s' → ⊥
  never s s' h = h

  same_state : (s : State) → Behind A s s
  same_state s = record { extra = []; is_extra = refl; is_more = ap (λ (l : List Val). record s { store = record s.store { globals = l } }) (sym (append-nil s.store.globals)) }

  no_operands : (p : ℕ) → take {A = Val} p [] ≡ []
  no_operands zero = refl
  no_operands (suc p) = refl

  -- from where segments are placed, with the globals of the output not yet set
  module _ (others : List Val) (u : State) (safe : StateNamed (names_of m globals) globals u) where
    abbrev from : World State
    from = record { state = u; deepest = 0 }

    abbrev from' : World State
    from' = record { state = state_with others u; deepest = 0 }

    -- where they are
    abbrev set : Conf Val State
    set = record { operands = []; locals = []; world = record { state = u; deepest = 1 } }

    depths : Depths W 0 from set.world
    depths = record { reached = omega arith; bound = omega arith }

    sims : (N : ℕ) (ts ts' : List (Task Val State)) → TasksLike (added A) ts ts' → TaskSims W Idle NoParts N (tasks (func L) ts) (tasks (func L') ts')
    sims N ts ts' likes = tasks_sims W Idle NoParts L L' (lawful (added A)) N (functions N) never ts ts' (tasks_stay (added A) L L' step nowhere Known_code ts ts' likes)

    room : 1 + 0 ≤ 1
    room = omega arith

    called : (x : ℕ) → ((k : ℕ) → exec_code L' h.start_code 1 k (record set { world = record { state = state_with others u; deepest = 1 } }) ≡ exec_code L' (Call x ∷ []) 1 k set) → (k : ℕ)
        → exec_code L' h.start_code 1 k (record set { world = record { state = state_with others u; deepest = 1 } })
        ≡ bind k (bind k (func L' x 1 k (entered (param_count (func_type o x)) set)) (λ r i. Done 0 (returned [] (drop (param_count (func_type o x)) []) r))) (go_on (run [] 1))
    called x sets k =
        sets k ∙ ap (λ i. exec_code L' (i ∷ []) 1 k set) (sym (call_rolled x))
        ∙ ap (λ (a : Sem Val State). bind k (a 1 k set) (go_on (run [] 1))) (sym (exec-rolled L' (Instr-F.Call x)))

    prepared : (start : Option ℕ) (rest rest' : List (Task Val State)) → TasksLike (added A) (start_task start ++ rest) (start_task start ++ rest') → ((k : ℕ) → exec_code L' h.start_code 1 k (record set { world = record { state = state_with others u; deepest = 1 } }) ≡ exec_code L' (call_start start) 1 k set) → (n : ℕ)
        → Runs false (Halts W) (statuses W Idle NoParts) n (tasks (func L) (start_task start ++ rest) n from) (λ j. tasks (func L') (Enter h.start [] started ∷ rest') j from')
    prepared None rest rest' likes sets n =
        let lt : n < suc n = omega arith in
        prepared_alone (added A) L L' step nowhere Known_code refl room h.start (preparing h.start_code) h.is_function started from' set set.world sets refl from depths (same_state u, safe) (suc n) (tasks (func L) rest) (tasks (func L') rest') (sims (suc n) rest rest' likes) n lt
    prepared (Some x) rest rest' likes sets n =
        let lt : n < suc n = omega arith in
        prepared_tasks (added A) L L' step nowhere Known_code refl room h.start (preparing h.start_code) h.is_function started from' x x started likes.0.0 likes.0.1 likes.0.4 (λ a b l s. refl) (host_tail m) set (param_count (func_type o x)) (called x sets) from depths
        (record { operands = no_operands (param_count (func_type o x)); state = same_state u; sound = tt; safe = safe }) (suc n) (functions (suc n)) (tasks (func L) rest) (tasks (func L') rest') (sims (suc n) rest rest' likes.1) n lt

  -- what is left to do once segments are placed, and all that the host does from there
  abbrev behind_start : Module → Script → List (Task Val State)
  behind_start q s = Change (λ t. Go (tell events.Started t)) ∷ item_tasks q 0 s.items

  module _ (s : Script) (fit : ScriptFits m s) (n : ℕ) where
    abbrev s0 : State
    s0 = start_state m s

    abbrev g : Begins m o h.start_code s
    g = h.run_begins s fit

    likes : TasksLike (added A) (run_tasks m s) (run_tasks between s)
    likes = script_like A whole.offers s (whole.keeps_tasks s fit)

    abbrev at : State → World State
    at u = record { state = u; deepest = 0 }

    -- both from where segments are placed, or are not
    abbrev input : Option Store → Out (World State) (Status (World State))
    input i = go_on (tasks (func L) (start_task m.start ++ behind_start m s)) (placed (at s0) (instantiated s0 i)) n

    abbrev output : Option Store → ℕ → Out (World State) (Status (World State))
    output i j = go_on (tasks (func L') (Enter h.start [] started ∷ behind_start o s)) (placed (at (state_with g.others s0)) (instantiated (state_with g.others s0) (option_map (store_with g.others) i))) j

    -- where the output stands after enough turns
    pub record Stands (i : Option Store) : Type 0 where
      pub turns : ℕ
      pub enough : n ≤ turns
      pub shows : (place_of stands (output i turns)).state.trace ≡ (place_of stands (input i)).state.trace
      pub deep : (place_of stands (output i turns)).deepest ≤ 1 * (place_of stands (input i)).deepest + 1

    stands_at : (i : Option Store) → place_segments m s0.store ≡ i → Stands i
    stands_at None e = record { turns = n; enough = le_refl n; shows = refl; deep = omega arith }
    stands_at (Some t) e =
        let u : State = with_store t s0 in
        let safe : StateNamed (names_of m globals) globals u =
        subst (λ i. HoldsStatus A.keeps (instantiated s0 i)) e ((whole.keeps_tasks s fit).0.keeps s0 (whole.safe s fit)) in
        let r = prepared g.others u safe m.start (behind_start m s) (behind_start o s) likes.1 (λ k. g.sets t e 1 k (record { state = state_with g.others u; deepest = 1 })) n in
        let final = unless_stuck false (tasks (func L) (start_task m.start ++ behind_start m s) n (at u)) refl
        (final_of W Idle NoParts (record { idle_end = λ a b x. x.0 }) never n (tasks (func L) (start_task m.start ++ behind_start m s) n (at u)) (λ j. tasks (func L') (Enter h.start [] started ∷ behind_start o s) j (at (state_with g.others u))) r.by) in
        record {
          turns = final.turns;
          enough = final.spends;
          shows = ap (λ (x : State). x.trace) final.halts.state.is_more;
          deep = final.halts.bound;
        }

    input-is : tasks (func L) (run_tasks m s) n (at s0) ≡ input (place_segments m s0.store)
    input-is = bind-done n (placed (at s0) (instantiated s0 (place_segments m s0.store))) (go_on (tasks (func L) (start_task m.start ++ behind_start m s)))

    -- by the start function, the state and what placing segments comes to
    abbrev begun : Option ℕ → State → Option Store → ℕ → Out (World State) (Status (World State))
    begun start u i j = go_on (tasks (func L') (start_task start ++ behind_start o s)) (placed (at u) (instantiated u i)) j

    output-is : (j : ℕ) → tasks (func L') (run_tasks o s) j (at (start_state o s)) ≡ output (place_segments m s0.store) j
    output-is j =
        let so = start_state o s in
        bind-done j (placed (at so) (instantiated so (place_segments o so.store))) (go_on (tasks (func L') (start_task o.start ++ behind_start o s)))
        ∙ ap (λ start. begun start so (place_segments o so.store) j) h.is_start
        ∙ ap (λ (u : State). begun (Some h.start) u (place_segments o u.store) j) g.begins
        ∙ ap (λ i. begun (Some h.start) (state_with g.others s0) i j) g.segments

    -- The theorem.
    pub shows_later : ShowsLater m o s n
    unfolding trace depth
    shows_later =
        let r = stands_at (place_segments m s0.store) refl in
        record {
          turns = r.turns;
          enough = r.enough;
          shows = ap (λ (x : Out (World State) (Status (World State))). (place_of stands x).state.trace) (output-is r.turns) ∙ r.shows ∙ ap (λ (x : Out (World State) (Status (World State))). (place_of stands x).state.trace) (sym input-is);
          deep =
              subst (λ a. a ≤ (place_of stands (tasks (func L) (run_tasks m s) n (at s0))).deepest + 1) (ap (λ (x : Out (World State) (Status (World State))). (place_of stands x).deepest) (sym (output-is r.turns)))
              (subst (λ b. (place_of stands (output (place_segments m s0.store) r.turns)).deepest ≤ b + 1) (ap (λ (x : Out (World State) (Status (World State))). (place_of stands x).deepest) (sym input-is))
              (let le = r.deep in omega arith));
        }
