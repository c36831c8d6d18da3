-- The steps of reading a file.
use Rattle.std.specs.Prelude.{◌≡◌, ℕ, List, Result, Ok, Err}
use Rattle.wasm_frame.specs.declared.sections.Version.{Version}
use Rattle.wasm_frame.specs.Frame.{Frame, Whole}
use Rattle.module_reading.specs.declared.fault.ReadFault.{ReadFault}
use Rattle.module_reading.specs.declared.fault.ReadFault.TheVariants.{Frame as Framed, Memory}
use Rattle.module_reading.specs.Files.{Sectioned}
use Rattle.module_reading.specs.Format.{Format}
use Rattle.module_reading.specs.Reads.{IsBroken, IfNotMemory, Refuses}

-- the sections of the file are in place, or its frame is broken so
abbrev pub Opens : Version → List ℕ → Result Sectioned ReadFault → Type 0
Opens v b (Ok file) = (file.version ≡ v) × (file.bytes ≡ b) × Frame v b file.parts Whole
Opens v b (Err (Framed fault)) = IsBroken v b fault
Opens v b (Err (Memory e)) = Unit {0}
Opens v b (Err _) = ⊥

-- of a step: what it found, or what the fault says
abbrev pub Step : {Module X : Type 0} → Format Module → List ℕ → Result X ReadFault → (X → Type 0) → Type 0
Step f b (Ok x) P = P x
Step f b (Err fault) P = IfNotMemory fault (Refuses f b fault)
