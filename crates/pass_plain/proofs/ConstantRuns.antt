-- A module without constant expressions that compute shows what the module shows that it was made of.
use Rattle.std.proofs.Common.{◌≡◌, ℕ, ◌+◌, ◌-◌, ◌≤◌, cond, List, [], ◌∷◌, ◌++◌, length, Option, Some, option_map, refl, sym, ap, ◌∙◌, append-nil, arith}
use Rattle.std.specs.Prelude.{filter_map, count_by, slice_get, option_and_then, if◌then◌else◌}
use Rattle.std.specs.List.{cons_option}
use Rattle.std.proofs.Math.Numerals.{one-add}
use Rattle.std.proofs.lemmas.Bool.{le-ltb}
use Rattle.std.proofs.lemmas.List.{append_assoc, length-append}
use Rattle.std.proofs.lemmas.List.Recursion.{is_count_by}
use Rattle.host_kit.specs.Fits.{ScriptFits}
use Rattle.host_kit.specs.declared.script.Script.{Script}
use Rattle.wasm_ast.specs.Spaces.{is_func, func_import, func_indices, func_count}
use Rattle.wasm_ast.specs.declared.module.code.Body.{Body}
use Rattle.wasm_ast.specs.declared.module.code.Instr.{Instr}
use Rattle.wasm_ast.specs.declared.module.parts.Import.{Import}
use Rattle.wasm_ast.specs.declared.module.parts.ImportDesc.{ImportDesc}
use Rattle.wasm_ast.specs.declared.module.parts.ImportDesc.TheVariants as imports
use Rattle.wasm_ast.specs.declared.module.parts.Module.{Module}
use Rattle.outcome_kit.specs.Outcome.{Out, Done, bind, place_of}
use Rattle.outcome_kit.specs.Code.{Go, go_on, stands}
use Rattle.outcome_kit.proofs.Outcomes.{bind-done}
use Rattle.evaluation_kit.specs.Configurations.{World}
use Rattle.evaluation_kit.specs.Control.{Own, Host}
use Rattle.evaluation_kit.specs.Tasks.{Status, Task, Change, placed, tasks}
use Rattle.meaning_new.specs.declared.val.Val.{Val}
use Rattle.meaning_new.specs.Store.{Store, State, tell, with_store}
use Rattle.stage_kit.specs.Staged.{start_state}
use Rattle.meaning_new.specs.Host.{host_call}
use Rattle.meaning_new.specs.Forms.{function, imported_funcs, callee_of_type, callee}
use Rattle.stage_kit.specs.Appended.{Appended}
use Rattle.stage_kit.specs.Prepared.{state_with, call_start, preparing, Begins, Prepares, ShowsLater}
use Rattle.evaluation_kit.specs.Languages.{func, exec_code}
use Rattle.meaning_new.specs.Language.{language}
use Rattle.meaning_new.specs.Instances.{place_segments}
use Rattle.meaning_new.specs.Runs.{instantiated, start_task, item_tasks, run_tasks, trace, depth}
use Rattle.host_kit.specs.declared.event.Event.TheVariants as events
use Rattle.stage_kit.proofs.Bodies.{imports_counted}
use Rattle.stage_kit.proofs.Prepared.{shows_later}
use Rattle.pass_plain.specs.Constants.{HasConstants, NamesThere}
use Rattle.pass_plain.specs.Folding.{folded_part, setting_code, nothing_to_nothing, start_body, started}
use Rattle.pass_plain.proofs.ConstantStart.{new_values, state_begins, segments_placed, globals_set, state_stays, segments_stay}

-- the item behind a list
get_last : {A : Type 0} (l : List A) (a : A) → slice_get (l ++ a ∷ []) (length l) ≡ Some a
get_last [] a = refl
get_last (b ∷ l) a = get_last l a

pub funcs_counted : (is : List Import) → length (filter_map (λ i. func_import i.desc) is) ≡ count_by (λ i. is_func i.desc) is
funcs_counted = is_count_by (λ is. length (filter_map (λ (i : Import). func_import i.desc) is)) (λ i. is_func i.desc) refl (λ i is. one i.desc (filter_map (λ j. func_import j.desc) is))
  where
    one : (d : ImportDesc) (ys : List ℕ) → length (cons_option (func_import d) ys) ≡ cond (is_func d) (1 + length ys) (length ys)
    one (imports.Func t) ys = sym (one-add (length ys))
    one (imports.Table t l) ys = refl
    one (imports.Memory l) ys = refl
    one (imports.Global t mutable) ys = refl
    one (imports.Tag t) ys = refl

module _ (m : Module) (globals : ℕ) (h : HasConstants m) (there : NamesThere m globals) (i : Instr) (code : List Instr) (is : setting_code m ≡ i ∷ code) where
  abbrev o : Module
  o = started m (i ∷ code)

  abbrev first : List ℕ
  first = filter_map (λ j. func_import j.desc) m.imports

  abbrev body : Body
  body = record { locals = []; code = start_body m.start (i ∷ code) }

  appended : Appended m o
  appended = record {
    more_types = nothing_to_nothing ∷ [];
    types = refl;
    more_funcs = length m.types ∷ [];
    funcs = sym (append_assoc first m.funcs (length m.types ∷ []));
    tags = refl;
    funcs_typed = there.funcs_typed;
    tags_typed = there.tags_typed;
  }

  -- the index of the new function, and what it names
  abbrev new : ℕ
  new = func_count m

  new_is : new ≡ length (func_indices m)
  new_is = ap (λ n. n + length m.funcs) (sym (funcs_counted m.imports)) ∙ sym (length-append first m.funcs)

  type_named : slice_get (func_indices o) new ≡ Some (length m.types)
  type_named =
      ap (slice_get (func_indices o)) new_is
      ∙ ap (λ (l : List ℕ). slice_get l (length (func_indices m))) (sym (append_assoc first m.funcs (length m.types ∷ [])))
      ∙ get_last (func_indices m) (length m.types)

  new_behind : new ≡ imported_funcs m + length m.codes
  new_behind = ap (λ n. n + length m.funcs) (sym (funcs_counted m.imports) ∙ imports_counted m.imports) ∙ ap (λ n. imported_funcs m + n) there.bodies

  new_callee : callee_of_type o new nothing_to_nothing ≡ Some (Own (preparing (start_body m.start (i ∷ code))))
  new_callee =
      let e = new_behind in
      let le : imported_funcs m ≤ new = omega arith in
      let at : new - imported_funcs m ≡ length m.codes = omega arith in
      ap (λ b. if b then Some (Host 0 (host_call o new)) else option_map (λ b. Own (function nothing_to_nothing b)) (slice_get o.codes (new - imported_funcs m))) (le-ltb new (imported_funcs m) le)
      ∙ ap (λ k. option_map (λ b. Own (function nothing_to_nothing b)) (slice_get o.codes k)) at
      ∙ ap (option_map (λ b. Own (function nothing_to_nothing b))) (get_last m.codes body)

  is_function : callee o new ≡ Some (Own (preparing (start_body m.start (i ∷ code))))
  is_function =
      ap (λ (t : Option ℕ). option_and_then (callee_of_type o new) (option_and_then (slice_get o.types) t)) type_named
      ∙ ap (option_and_then (callee_of_type o new)) (get_last m.types nothing_to_nothing)
      ∙ new_callee

  begins : (s : Script) → ScriptFits m s → Begins m o (start_body m.start (i ∷ code)) s
  begins s fit = record {
    others = new_values m h s fit;
    begins = state_begins m h s fit;
    segments = segments_placed m h s fit;
    sets = λ t placed d k w.
        ap (λ l. exec_code (language o) (l ++ call_start m.start) d k (record { operands = []; locals = []; world = record w { state = state_with (new_values m h s fit) (with_store t (start_state m s)) } })) (sym is)
        ∙ globals_set m h s fit o t placed (call_start m.start) d k w;
  }

  prepares : Prepares m o globals
  prepares = record {
    appended = appended;
    named = there.named;
    exports_named = there.exports_named;
    imports = refl;
    exports = refl;
    memories = refl;
    tables = refl;
    more_codes = body ∷ [];
    codes = refl;
    bodies = there.bodies;
    code_named = there.code_named;
    start_code = start_body m.start (i ∷ code);
    start = new;
    is_start = refl;
    is_function = is_function;
    run_begins = begins;
  }

  -- The theorem, where code sets a global.
  pub started_shows : (s : Script) → ScriptFits m s → (n : ℕ) → ShowsLater m o s n
  started_shows s fit n = shows_later globals prepares s fit n

-- where none does
module _ (m : Module) (h : HasConstants m) (none : setting_code m ≡ []) (s : Script) (fit : ScriptFits m s) (n : ℕ) where
  abbrev rest : List (Task Val State)
  rest = start_task m.start ++ (Change (λ t. Go (tell events.Started t)) ∷ item_tasks m 0 s.items)

  abbrev at : State → World State
  at u = record { state = u; deepest = 0 }

  -- from what placing segments comes to
  abbrev onward : State → Option Store → Out (World State) (Status (World State))
  onward u i = go_on (tasks (func (language m)) rest) (placed (at u) (instantiated u i)) n

  from_placed : (q : Module) (u : State) → bind n (Done 0 (placed (at u) (instantiated u (place_segments q u.store)))) (go_on (tasks (func (language m)) rest)) ≡ onward u (place_segments q u.store)
  from_placed q u = bind-done n (placed (at u) (instantiated u (place_segments q u.store))) (go_on (tasks (func (language m)) rest))

  ends_same : tasks (func (language (folded_part m))) (run_tasks (folded_part m) s) n (at (start_state (folded_part m) s)) ≡ tasks (func (language m)) (run_tasks m s) n (at (start_state m s))
  unfolding func
  ends_same =
      from_placed (folded_part m) (start_state (folded_part m) s)
      ∙ ap (λ (u : State). onward u (place_segments (folded_part m) u.store)) (state_stays m h s fit none)
      ∙ ap (onward (start_state m s)) (segments_stay m h s fit none)
      ∙ sym (from_placed m (start_state m s))

  same_module : started m [] ≡ folded_part m
  same_module = ap (λ (l : List Body). record (folded_part m) { codes = l }) (append-nil m.codes)

  pub folded_trace : trace (started m []) s n ≡ trace m s n
  unfolding trace
  folded_trace =
      ap (λ (q : Module). trace q s n) same_module
      ∙ ap (λ (x : Out (World State) (Status (World State))). (place_of stands x).state.trace) ends_same

  pub folded_depth : depth (started m []) s n ≡ depth m s n
  unfolding depth
  folded_depth =
      ap (λ (q : Module). depth q s n) same_module
      ∙ ap (λ (x : Out (World State) (Status (World State))). (place_of stands x).deepest) ends_same
