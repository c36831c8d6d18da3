-- Runs of a module under a script: what refuses them, and what is printed of them.
use Rattle.std.specs.Prelude.{ℕ, ◌-◌, List, [], ◌++◌, length, slice_get, Bool, true, false, if◌then◌else◌, codes, Option, Some, Ok, Err, ⊤}
use Rattle.host_kit.specs.Fits.{ScriptFits}
use Rattle.host_kit.specs.Fits1.{ScriptFits1}
use Rattle.host_kit.specs.ScriptTexts.{Reads as ReadsScript, TextTells}
use Rattle.host_kit.specs.Texts.{events_text}
use Rattle.host_kit.specs.Trace.{Mark}
use Rattle.host_kit.specs.declared.event.Event.{Event}
use Rattle.host_kit.specs.declared.event.Event.TheVariants.{Done, Failed, NoReply, Full}
use Rattle.host_kit.specs.declared.script.Script.{Script}
use Rattle.host_kit.specs.declared.script_text.TextFault.{TextFault}
use Rattle.host_kit.specs.declared.script_text.TextFault.TheVariants as faults
use Rattle.wasm_frame.specs.declared.sections.Version.{Version}
use Rattle.wasm_frame.specs.declared.sections.Version.TheVariants.{One, Three}
use Rattle.module_reading.specs.Reads.{Reads}
use Rattle.core1_bytes.specs.Spells.{one}
use Rattle.read_new.specs.Spells.{three}
use Rattle.meaning_core1.specs.Runs.{trace1}
use Rattle.meaning_new.specs.Runs.{trace}
use Rattle.lower_tool.specs.Statuses.{line}
use Rattle.lower_tool.specs.Verdict.{ReadsWhere, RefusedBy, IsValid1, IsValid3, RefusesModule1, RefusesModule3}
use Rattle.lower_tool.specs.declared.verdict.Refusal.{Refusal}
use Rattle.lower_tool.specs.declared.verdict.Refusal.TheVariants.{Script as ScriptFault, DoesNotFit}

-- ---- a module and a script that run

-- the text is that of a script of which P holds
abbrev pub IsScriptWhere : (Script → Type 0) → List ℕ → Type 0
IsScriptWhere P text = (s : Script) × ReadsScript text (Ok s) × P s

-- a module that is fine, and a text of a script that fits it; and P holds of what the script leaves behind within each
-- number of turns
abbrev pub RunsUnder : {M : Type 0} → (M → Type 0) → (M → Script → Type 0) → (M → Script → ℕ → List Mark) → List ℕ → ((ℕ → List Mark) → Type 0) → M → Type 0
RunsUnder Is Fits trace_of text P m = Is m × IsScriptWhere (λ s. Fits m s × P (trace_of m s)) text

-- the same of the bytes of a module of this version
abbrev pub Runs : Version → List ℕ → List ℕ → ((ℕ → List Mark) → Type 0) → Type 0
Runs One bytes text P = ReadsWhere (Reads one) (RunsUnder IsValid1 ScriptFits1 trace1 text P) bytes
Runs Three bytes text P = ReadsWhere (Reads three) (RunsUnder IsValid3 ScriptFits trace text P) bytes

-- the module can be run under the script
abbrev pub CanRun : Version → List ℕ → List ℕ → Type 0
CanRun version bytes text = Runs version bytes text (λ marks. ⊤)

-- ---- what refuses them

-- this is why the text is that of no script
abbrev pub RefusesText : List ℕ → TextFault → Type 0
RefusesText text (faults.Memory e) = ⊥
RefusesText text fault = TextTells text (Err fault)

-- this is the step that refuses the module, or, where it is fine, the script
abbrev pub RefusesUnder : {M : Type 0} → (M → Type 0) → (Refusal → M → Type 0) → (M → Script → Type 0) → List ℕ → Refusal → M → Type 0
RefusesUnder Is Refuses Fits text (ScriptFault fault) m = Is m × RefusesText text fault
RefusesUnder Is Refuses Fits text DoesNotFit m = Is m × IsScriptWhere (λ s. ¬ Fits m s) text
RefusesUnder Is Refuses Fits text refusal m = Refuses refusal m

-- the same of the bytes of a module of this version
abbrev pub RefusesToRun : Version → Refusal → List ℕ → List ℕ → Type 0
RefusesToRun One refusal bytes text = RefusedBy (Reads one) (RefusesUnder IsValid1 RefusesModule1 ScriptFits1 text) refusal bytes
RefusesToRun Three refusal bytes text = RefusedBy (Reads three) (RefusesUnder IsValid3 RefusesModule3 ScriptFits text) refusal bytes

-- ---- what is printed

-- whether a run goes on after its last event so far, or after none; and after a list of events
abbrev pub goes_on_after : Option Event → Bool
goes_on_after (Some Done) = false
goes_on_after (Some Failed) = false
goes_on_after (Some (NoReply import)) = false
goes_on_after (Some Full) = false
goes_on_after _ = true

abbrev pub goes_on : List Event → Bool
goes_on shown = goes_on_after (slice_get shown (length shown - 1))

-- the line for a run that goes on
abbrev pub running_line : Bool → List ℕ
running_line running = if running then line (codes "running") else []

-- what is printed of the events of a run: a line for each, and one more where it goes on
abbrev pub run_text : List Event → List ℕ
run_text shown = events_text shown ++ running_line (goes_on shown)
