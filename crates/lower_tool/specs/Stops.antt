-- Why a command stops before it writes, and what is printed then.
use Rattle.std.specs.Prelude.{ℕ, List, ◌++◌, codes, ⊤}
use Rattle.module_reading.specs.declared.fault.ReadFault.{ReadFault}
use Rattle.module_reading.specs.declared.fault.ReadFault.TheVariants as fault
use Rattle.valid_core1.specs.declared.invalid.Invalid.{Invalid as OldInvalid}
use Rattle.valid_core1.specs.declared.invalid.Invalid.TheVariants as old_invalid
use Rattle.valid_mod.specs.declared.invalid.Invalid.{Invalid}
use Rattle.valid_mod.specs.declared.invalid.Invalid.TheVariants as invalid
use Rattle.host_kit.specs.declared.script_text.TextFault.{TextFault}
use Rattle.host_kit.specs.declared.script_text.TextFault.TheVariants as faults
use Rattle.lower_tool.specs.declared.verdict.NotFine.{NotFine}
use Rattle.lower_tool.specs.declared.verdict.NotFine.TheVariants as verdict
use Rattle.lower_tool.specs.declared.verdict.Refusal.{Refusal}
use Rattle.lower_tool.specs.declared.verdict.Refusal.TheVariants.{Unreadable, Part, Body, Script}
use Rattle.lower_tool.specs.declared.tool.stop.Stop.{Stop}
use Rattle.lower_tool.specs.declared.tool.stop.Stop.TheVariants.{Refused, CannotRead, OutOfMemory}
use Rattle.lower_tool.specs.Statuses.{line}
use Rattle.lower_tool.specs.Verdict.{text_of}

-- P holds of the refusal, where it is one
abbrev pub IfRefused : Stop → (Refusal → Type 0) → Type 0
IfRefused (Refused refusal) P = P refusal
IfRefused CannotRead P = ⊤
IfRefused OutOfMemory P = ⊤

-- the same of bytes
abbrev pub IfNotFine : NotFine → (Refusal → Type 0) → Type 0
IfNotFine (verdict.Refused refusal) P = P refusal
IfNotFine (verdict.Memory error) P = ⊤

-- why bytes that were not read are not fine
abbrev pub of_reading : ReadFault → NotFine
of_reading (fault.Memory error) = verdict.Memory error
of_reading other = verdict.Refused (Unreadable other)

-- why a module that is not typed is not fine, in 1.0 and in 3.0
abbrev pub of_typing1 : OldInvalid → NotFine
of_typing1 (old_invalid.Part section index) = verdict.Refused (Part section index)
of_typing1 (old_invalid.Body place) = verdict.Refused (Body place)
of_typing1 (old_invalid.Memory error) = verdict.Memory error

abbrev pub of_typing : Invalid → NotFine
of_typing (invalid.Part section index) = verdict.Refused (Part section index)
of_typing (invalid.Body place) = verdict.Refused (Body place)
of_typing (invalid.Memory error) = verdict.Memory error

-- why a text that is no script is not fine
abbrev pub of_script : TextFault → NotFine
of_script (faults.Memory error) = verdict.Memory error
of_script other = verdict.Refused (Script other)

-- what a command stops for where bytes are not fine
abbrev pub stop_of : NotFine → Stop
stop_of (verdict.Refused refusal) = Refused refusal
stop_of (verdict.Memory error) = OutOfMemory

-- what is printed
abbrev pub text_of_stop : Stop → List ℕ
text_of_stop (Refused refusal) = codes "refused: " ++ text_of refusal
text_of_stop CannotRead = codes "cannot read"
text_of_stop OutOfMemory = codes "out of memory"

abbrev pub line_of : Stop → List ℕ
line_of stop = line (text_of_stop stop)

-- the status that a command ends with
abbrev pub status_of : Stop → ℕ
status_of (Refused refusal) = 1
status_of CannotRead = 3
status_of OutOfMemory = 5
