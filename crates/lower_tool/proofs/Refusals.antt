-- A file has one verdict for each command: what reading, the profile and typing tell of it decides the step that refuses it.
use Rattle.std.proofs.Common.{◌≡◌, ℕ, ◌<◌, ◌≤◌, List, length, refl, sym, ap, ◌∙◌, inl, inr}
use Rattle.std.proofs.lemmas.Bool.{cases_lt}
use Rattle.std.specs.Prelude.{cond, Option, Some, None, Result, Ok, Err, OnOk, IfOk, IfErr, option_map, ⊤}
use Rattle.wasm_ast.specs.declared.module.parts.Module.{Module}
use Rattle.core1_ast.specs.Floats.{has_floats}
use Rattle.core1_ast.specs.declared.module.parts.Module1.{Module1}
use Rattle.wasm_frame.specs.declared.sections.Version.{Version}
use Rattle.wasm_frame.specs.declared.sections.Version.TheVariants.{One, Three}
use Rattle.host_kit.specs.Fits.{ScriptFits}
use Rattle.host_kit.specs.Fits1.{ScriptFits1}
use Rattle.host_kit.specs.Trace.{Mark, events}
use Rattle.host_kit.specs.declared.event.Event.{Event}
use Rattle.meaning_core1.specs.Runs.{trace1}
use Rattle.meaning_new.specs.Runs.{trace}
use Rattle.module_reading.specs.Reads.{Reads}
use Rattle.module_reading.specs.Limits.{file_limit}
use Rattle.module_reading.specs.declared.fault.ReadFault.{ReadFault}
use Rattle.module_reading.proofs.OneAnswer as shared
use Rattle.read_new.specs.Sizes as new
use Rattle.read_new.specs.Spells.{three}
use Rattle.read_new.proofs.Owed.{three_laws}
use Rattle.core1_bytes.specs.Made as old
use Rattle.core1_bytes.specs.Spells.{one}
use Rattle.core1_bytes.proofs.Payloads as old_payloads
use Rattle.pass_stack.specs.Profile.{outside_profile, outside_stack}
use Rattle.pass_stack.specs.declared.outside.Outside.{Outside as Entry}
use Rattle.typed_trees.specs.Modules.{IsTyped}
use Rattle.valid_core1.proofs.Unique as laws1
use Rattle.valid_core1.specs.Verdict as typing1
use Rattle.valid_core1.specs.declared.invalid.Invalid.{Invalid as Invalid1}
use Rattle.valid_core1.specs.declared.invalid.Invalid.TheVariants as invalid1
use Rattle.valid_mod.proofs.Unique as laws3
use Rattle.valid_mod.specs.Verdict as typing3
use Rattle.valid_mod.specs.declared.invalid.Invalid.{Invalid as Invalid3}
use Rattle.valid_mod.specs.declared.invalid.Invalid.TheVariants as invalid3
use Rattle.lower_tool.specs.Stops.{IfNotFine}
use Rattle.lower_tool.specs.CommandVerdict.{IsFine, Refuses, IsRefusal}
use Rattle.lower_tool.specs.Lowering.{IsWrittenFor, Lowers}
use Rattle.lower_tool.specs.Runs.{RunsUnder, Runs, CanRun, RefusesUnder, RefusesToRun}
use Rattle.lower_tool.specs.Verdict.{IsValidBy, IsUntypedAt, RefusesBy, CanLower, RefusesLowering, IsValid1, IsValid3, RefusesModule1, RefusesModule3, IsFineToLower, RefusesToLower, IsValid, RefusesAsInvalid, text_of}
use Rattle.lower_tool.specs.Words.{Command, lower, check, run}
use Rattle.lower_tool.specs.declared.verdict.NotFine.{NotFine}
use Rattle.lower_tool.specs.declared.verdict.NotFine.TheVariants as verdict
use Rattle.lower_tool.specs.declared.verdict.Refusal.{Refusal}
use Rattle.lower_tool.specs.declared.verdict.Refusal.TheVariants.{TooLarge, Unreadable, Floats, Outside, Part, Body, Script, DoesNotFit}
use Rattle.lower_tool.proofs.Judging as judging
use Rattle.lower_tool.proofs.ScriptVerdicts as scripts

-- of each file one answer of reading is told, in either version
one_answer3 : (b : List ℕ) (r s : Result Module ReadFault) → Reads three b r → Reads three b s → r ≡ s
one_answer3 = shared.one_answer three new.means three_laws

one_answer1 : (b : List ℕ) (r s : Result Module1 ReadFault) → Reads one b r → Reads one b s → r ≡ s
one_answer1 = shared.one_answer one old.means old_payloads.laws

-- ---- a module of 3.0: a list, and then typing

abbrev refusal_of3 : Result (Unit {0}) Invalid3 → Option Refusal
refusal_of3 (Ok done) = None
refusal_of3 (Err (invalid3.Part section place)) = Some (Part section place)
refusal_of3 (Err (invalid3.Body place)) = Some (Body place)
refusal_of3 (Err (invalid3.Memory e)) = None

module _ (list : Module → Option Entry) where
  abbrev first3 : Module → Option Refusal
  first3 m = option_map Outside (list m)

  judged3 : (r : Refusal) (m : Module) → RefusesBy list r m → judging.Judged first3 typing3.Settles laws3.one_answer refusal_of3 r m
  judged3 TooLarge m h = absurd h.1
  judged3 (Unreadable f) m h = absurd h.1
  judged3 Floats m h = absurd h.1
  judged3 (Outside e) m h = inl (sym (ap (option_map Outside) h))
  judged3 (Part section place) m h = inr (ap (option_map Outside) h.0, (Err (invalid3.Part section place), h.1, refl))
  judged3 (Body place) m h = inr (ap (option_map Outside) h.0, (Err (invalid3.Body place), h.1, refl))
  judged3 (Script f) m h = absurd h.1
  judged3 DoesNotFit m h = absurd h.1

  single_by : (r s : Refusal) (m : Module) → RefusesBy list r m → RefusesBy list s m → r ≡ s
  single_by r s m h k = judging.one_judged first3 typing3.Settles laws3.one_answer refusal_of3 r s m (judged3 r m h) (judged3 s m k)

  apart_by : (r : Refusal) (m : Module) → RefusesBy list r m → IsValidBy list m → ⊥
  apart_by r m h fine = judging.judged_apart first3 typing3.Settles laws3.one_answer refusal_of3 r m (Ok tt) (judged3 r m h) (ap (option_map Outside) fine.0) fine.1 refl

  -- a module of which no entry of the list holds, by what typing says of it
  refused_by : (m : Module) (r : Refusal) → list m ≡ None → IsUntypedAt r m → RefusesBy list r m
  refused_by m (Part section place) none h = (none, h)
  refused_by m (Body place) none h = (none, h)
  refused_by m TooLarge none h = absurd h
  refused_by m (Unreadable f) none h = absurd h
  refused_by m Floats none h = absurd h
  refused_by m (Outside e) none h = absurd h
  refused_by m (Script f) none h = absurd h
  refused_by m DoesNotFit none h = absurd h

  pub untyped_by : {X : Type 0} (m : Module) (r : Result X NotFine) → list m ≡ None → IfErr r (λ e. IfNotFine e (λ refusal. IsUntypedAt refusal m)) → IfErr r (λ e. IfNotFine e (λ refusal. RefusesBy list refusal m))
  untyped_by m (Ok x) none h = tt
  untyped_by m (Err (verdict.Refused refusal)) none h = refused_by m refusal none h
  untyped_by m (Err (verdict.Memory e)) none h = tt

  pub typed_by : {X : Type 0} (m : Module) (r : Result X NotFine) → list m ≡ None → OnOk r (IsTyped m) → OnOk r (IsValidBy list m)
  typed_by m (Ok x) none h = (none, h)
  typed_by m (Err e) none h = tt

single3 : (r s : Refusal) (m : Module) → RefusesModule3 r m → RefusesModule3 s m → r ≡ s
single3 = single_by outside_profile

apart3 : (r : Refusal) (m : Module) → RefusesModule3 r m → IsValid3 m → ⊥
apart3 = apart_by outside_profile

-- ---- a module of 1.0 that is checked: floats, and then typing

abbrev first1 : Module1 → Option Refusal
first1 m = cond (has_floats m) (Some Floats) None

abbrev refusal_of1 : Result Module1 Invalid1 → Option Refusal
refusal_of1 (Ok m) = None
refusal_of1 (Err (invalid1.Part section place)) = Some (Part section place)
refusal_of1 (Err (invalid1.Body place)) = Some (Body place)
refusal_of1 (Err (invalid1.Memory e)) = None

judged1 : (r : Refusal) (m : Module1) → RefusesModule1 r m → judging.Judged first1 typing1.Settles laws1.one_answer refusal_of1 r m
judged1 TooLarge m h = absurd h
judged1 (Unreadable f) m h = absurd h
judged1 Floats m h = inl (sym (ap (λ t. cond t (Some Floats) None) h))
judged1 (Outside e) m h = absurd h
judged1 (Part section place) m h = inr (ap (λ t. cond t (Some Floats) None) h.0, (Err (invalid1.Part section place), h.1, refl))
judged1 (Body place) m h = inr (ap (λ t. cond t (Some Floats) None) h.0, (Err (invalid1.Body place), h.1, refl))
judged1 (Script f) m h = absurd h
judged1 DoesNotFit m h = absurd h

single1 : (r s : Refusal) (m : Module1) → RefusesModule1 r m → RefusesModule1 s m → r ≡ s
single1 r s m h k = judging.one_judged first1 typing1.Settles laws1.one_answer refusal_of1 r s m (judged1 r m h) (judged1 s m k)

apart1 : (r : Refusal) (m : Module1) → RefusesModule1 r m → IsValid1 m → ⊥
apart1 r m h fine = judging.judged_apart first1 typing1.Settles laws1.one_answer refusal_of1 r m (Ok m) (judged1 r m h) (ap (λ t. cond t (Some Floats) None) fine.0) (refl, fine.1) refl

-- ---- from the module to the file

pub lower_refused : {X : Type 0} (b : List ℕ) (m : Module) (r : Result X NotFine) → length b ≤ file_limit → Reads three b (Ok m) → IfErr r (λ e. IfNotFine e (λ refusal. RefusesLowering refusal m)) → IfErr r (λ e. IfNotFine e (λ refusal. RefusesToLower refusal b))
lower_refused b m r within reads h = judging.refused_of_module (Reads three) one_answer3 RefusesLowering (λ m no. no.1) (λ f m no. no.1) b m r within reads h

pub lower_fine : {X : Type 0} (b : List ℕ) (m : Module) (r : Result X NotFine) → length b ≤ file_limit → Reads three b (Ok m) → OnOk r (CanLower m) → OnOk r (IsFineToLower b)
lower_fine b m r within reads h = judging.fine_of_module (Reads three) CanLower b m r within reads h

pub refused3 : (b : List ℕ) (m : Module) (r : Result (Unit {0}) NotFine) → length b ≤ file_limit → Reads three b (Ok m) → IfErr r (λ e. IfNotFine e (λ refusal. RefusesModule3 refusal m)) → IfErr r (λ e. IfNotFine e (λ refusal. RefusesAsInvalid Three refusal b))
refused3 b m r within reads h = judging.refused_of_module (Reads three) one_answer3 RefusesModule3 (λ m no. no.1) (λ f m no. no.1) b m r within reads h

pub fine3 : (b : List ℕ) (m : Module) (r : Result (Unit {0}) NotFine) → length b ≤ file_limit → Reads three b (Ok m) → OnOk r (IsValid3 m) → OnOk r (IsValid Three b)
fine3 b m r within reads h = judging.fine_of_module (Reads three) IsValid3 b m r within reads h

pub refused1 : (b : List ℕ) (m : Module1) (r : Result (Unit {0}) NotFine) → length b ≤ file_limit → Reads one b (Ok m) → IfErr r (λ e. IfNotFine e (λ refusal. RefusesModule1 refusal m)) → IfErr r (λ e. IfNotFine e (λ refusal. RefusesAsInvalid One refusal b))
refused1 b m r within reads h = judging.refused_of_module (Reads one) one_answer1 RefusesModule1 (λ m no. no) (λ f m no. no) b m r within reads h

pub fine1 : (b : List ℕ) (m : Module1) (r : Result (Unit {0}) NotFine) → length b ≤ file_limit → Reads one b (Ok m) → OnOk r (IsValid1 m) → OnOk r (IsValid One b)
fine1 b m r within reads h = judging.fine_of_module (Reads one) IsValid1 b m r within reads h

-- ---- a module and a script that run

module _ (t : List ℕ) where
  abbrev Refuses1 : Refusal → Module1 → Type 0
  Refuses1 = RefusesUnder IsValid1 RefusesModule1 ScriptFits1 t

  abbrev Refuses3 : Refusal → Module → Type 0
  Refuses3 = RefusesUnder IsValid3 RefusesModule3 ScriptFits t

  run_not_fine : (v : Version) (refusal : Refusal) (b : List ℕ) → RefusesToRun v refusal b t → CanRun v b t → ⊥
  run_not_fine One refusal b refused fine =
      judging.not_fine_by (Reads one) one_answer1 Refuses1 (RunsUnder IsValid1 ScriptFits1 trace1 t (λ marks. ⊤))
      (scripts.apart_under IsValid1 RefusesModule1 ScriptFits1 t single1 apart1 trace1 (λ marks. ⊤)) refusal b refused fine
  run_not_fine Three refusal b refused fine =
      judging.not_fine_by (Reads three) one_answer3 Refuses3 (RunsUnder IsValid3 ScriptFits trace t (λ marks. ⊤))
      (scripts.apart_under IsValid3 RefusesModule3 ScriptFits t single3 apart3 trace (λ marks. ⊤)) refusal b refused fine

  run_refusal : (v : Version) (b : List ℕ) (r s : Refusal) → RefusesToRun v r b t → RefusesToRun v s b t → r ≡ s
  run_refusal One b r s first second = judging.one_refusal_by (Reads one) one_answer1 Refuses1 (scripts.single_under IsValid1 RefusesModule1 ScriptFits1 t single1 apart1) b r s first second (cases_lt file_limit (length b))
  run_refusal Three b r s first second = judging.one_refusal_by (Reads three) one_answer3 Refuses3 (scripts.single_under IsValid3 RefusesModule3 ScriptFits t single3 apart3) b r s first second (cases_lt file_limit (length b))

  pub refused_run1 : {X : Type 0} (b : List ℕ) (m : Module1) (r : Result X NotFine) → length b ≤ file_limit → Reads one b (Ok m) → IfErr r (λ e. IfNotFine e (λ refusal. Refuses1 refusal m)) → IfErr r (λ e. IfNotFine e (λ refusal. RefusesToRun One refusal b t))
  refused_run1 b m r within reads h = judging.refused_of_module (Reads one) one_answer1 Refuses1 (λ m no. no) (λ f m no. no) b m r within reads h

  pub refused_run3 : {X : Type 0} (b : List ℕ) (m : Module) (r : Result X NotFine) → length b ≤ file_limit → Reads three b (Ok m) → IfErr r (λ e. IfNotFine e (λ refusal. Refuses3 refusal m)) → IfErr r (λ e. IfNotFine e (λ refusal. RefusesToRun Three refusal b t))
  refused_run3 b m r within reads h = judging.refused_of_module (Reads three) one_answer3 Refuses3 (λ m no. no.1) (λ f m no. no.1) b m r within reads h

-- the bytes that are written are those of a lowering of what the bytes spell
pub lowers_bytes : (b : List ℕ) (m : Module) (captures : ℕ) (r : Result (List ℕ) NotFine) → Reads three b (Ok m) → IfOk r (IsWrittenFor captures m) → IfOk r (Lowers captures b)
lowers_bytes b m captures (Ok out) reads h = (m, reads.0, h)
lowers_bytes b m captures (Err e) reads h = tt

pub shown_run1 : {X : Type 0} (b t : List ℕ) (m : Module1) (r : Result X NotFine) (Q : X → (ℕ → List Mark) → Type 0) → length b ≤ file_limit → Reads one b (Ok m) → IfOk r (λ x. RunsUnder IsValid1 ScriptFits1 trace1 t (Q x) m) → IfOk r (λ x. Runs One b t (Q x))
shown_run1 b t m (Ok x) Q within reads h = (within, (m, reads, h))
shown_run1 b t m (Err e) Q within reads h = tt

pub shown_run3 : {X : Type 0} (b t : List ℕ) (m : Module) (r : Result X NotFine) (Q : X → (ℕ → List Mark) → Type 0) → length b ≤ file_limit → Reads three b (Ok m) → IfOk r (λ x. RunsUnder IsValid3 ScriptFits trace t (Q x) m) → IfOk r (λ x. Runs Three b t (Q x))
shown_run3 b t m (Ok x) Q within reads h = (within, (m, reads, h))
shown_run3 b t m (Err e) Q within reads h = tt

-- what holds of a run, from what else holds of it; and what holds together
pub runs_map : (v : Version) (b t : List ℕ) (P Q : (ℕ → List Mark) → Type 0) → ((marks : ℕ → List Mark) → P marks → Q marks) → Runs v b t P → Runs v b t Q
runs_map One b t P Q f h = judging.reads_map (Reads one) (RunsUnder IsValid1 ScriptFits1 trace1 t P) (RunsUnder IsValid1 ScriptFits1 trace1 t Q) (scripts.map_under IsValid1 RefusesModule1 ScriptFits1 t trace1 P Q f) b h
runs_map Three b t P Q f h = judging.reads_map (Reads three) (RunsUnder IsValid3 ScriptFits trace t P) (RunsUnder IsValid3 ScriptFits trace t Q) (scripts.map_under IsValid3 RefusesModule3 ScriptFits t trace P Q f) b h

runs_both : (v : Version) (b t : List ℕ) (P Q : (ℕ → List Mark) → Type 0) → Runs v b t P → Runs v b t Q → Runs v b t (λ marks. P marks × Q marks)
runs_both One b t P Q h k =
    judging.reads_both (Reads one) one_answer1 (RunsUnder IsValid1 ScriptFits1 trace1 t P) (RunsUnder IsValid1 ScriptFits1 trace1 t Q) (RunsUnder IsValid1 ScriptFits1 trace1 t (λ marks. P marks × Q marks))
    (scripts.both_under IsValid1 RefusesModule1 ScriptFits1 t trace1 P Q) b h k
runs_both Three b t P Q h k =
    judging.reads_both (Reads three) one_answer3 (RunsUnder IsValid3 ScriptFits trace t P) (RunsUnder IsValid3 ScriptFits trace t Q) (RunsUnder IsValid3 ScriptFits trace t (λ marks. P marks × Q marks))
    (scripts.both_under IsValid3 RefusesModule3 ScriptFits t trace P Q) b h k

-- what holds whatever is left behind
runs_fact : (v : Version) (b t : List ℕ) (P : (ℕ → List Mark) → Type 0) (F : Type 0) → ((marks : ℕ → List Mark) → P marks → F) → Runs v b t P → F
runs_fact One b t P F f h = f (trace1 h.1.0 h.1.2.1.0) h.1.2.1.2.1
runs_fact Three b t P F f h = f (trace h.1.0 h.1.2.1.0) h.1.2.1.2.1

pub one_shown : (v : Version) (b t : List ℕ) (turns : ℕ) (shown other : List Event) → Runs v b t (λ marks. shown ≡ events (marks turns)) → Runs v b t (λ marks. other ≡ events (marks turns)) → shown ≡ other
one_shown v b t turns shown other h k =
    runs_fact v b t (λ marks. (shown ≡ events (marks turns)) × (other ≡ events (marks turns))) (shown ≡ other) (λ marks both. both.0 ∙ sym both.1)
    (runs_both v b t (λ marks. shown ≡ events (marks turns)) (λ marks. other ≡ events (marks turns)) h k)

-- ---- what a command reads

pub not_fine : (command : Command) (refusal : Refusal) (b t : List ℕ) → Refuses command refusal b t → IsFine command b t → ⊥
not_fine (lower input output room) refusal b t refused fine = judging.not_fine_by (Reads three) one_answer3 RefusesLowering CanLower (apart_by outside_stack) refusal b refused fine
not_fine (check One input) refusal b t refused fine = judging.not_fine_by (Reads one) one_answer1 RefusesModule1 IsValid1 apart1 refusal b refused fine
not_fine (check Three input) refusal b t refused fine = judging.not_fine_by (Reads three) one_answer3 RefusesModule3 IsValid3 apart3 refusal b refused fine
not_fine (run v input script turns) refusal b t refused fine = run_not_fine t v refusal b refused fine

one_refusal : (command : Command) (b t : List ℕ) (r s : Refusal) → Refuses command r b t → Refuses command s b t → r ≡ s
one_refusal (lower input output room) b t r s first second = judging.one_refusal_by (Reads three) one_answer3 RefusesLowering (single_by outside_stack) b r s first second (cases_lt file_limit (length b))
one_refusal (check One input) b t r s first second = judging.one_refusal_by (Reads one) one_answer1 RefusesModule1 single1 b r s first second (cases_lt file_limit (length b))
one_refusal (check Three input) b t r s first second = judging.one_refusal_by (Reads three) one_answer3 RefusesModule3 single3 b r s first second (cases_lt file_limit (length b))
one_refusal (run v input script turns) b t r s first second = run_refusal t v b r s first second

-- one text at most
pub one_text : (command : Command) (b t text other : List ℕ) → IsRefusal command b t text → IsRefusal command b t other → text ≡ other
one_text command b t text other first second =
    first.2 ∙ (ap text_of (one_refusal command b t first.0 second.0 first.1 second.1) ∙ sym second.2)

pub text_not_fine : (command : Command) (b t text : List ℕ) → IsRefusal command b t text → ¬ (IsFine command b t)
text_not_fine command b t text refusal fine = not_fine command refusal.0 b t refusal.1 fine

-- a file that is too large is so for every command, and for nothing else
pub large_file : (command : Command) (b t : List ℕ) → file_limit < length b → Refuses command TooLarge b t
large_file (lower input output room) b t large = large
large_file (check One input) b t large = large
large_file (check Three input) b t large = large
large_file (run One input script turns) b t large = large
large_file (run Three input script turns) b t large = large

pub only_large : (command : Command) (refusal : Refusal) (b t : List ℕ) → file_limit < length b → Refuses command refusal b t → refusal ≡ TooLarge
only_large command refusal b t large h = one_refusal command b t refusal TooLarge h (large_file command b t large)
