-- What each answer to reading a file says of its bytes.
use Rattle.std.specs.Prelude.{ℕ, List, [], Result, Ok, Err}
use Rattle.std.specs.List.{AllByRecursion}
use Rattle.wasm_frame.specs.declared.sections.Version.{Version}
use Rattle.wasm_frame.specs.declared.sections.FrameFault.{FrameFault}
use Rattle.wasm_frame.specs.declared.sections.FrameFault.TheVariants as frame
use Rattle.wasm_frame.specs.Frame.{Part, Frame, Whole, NoSize, NoPlace, IsHeaded}
use Rattle.wasm_frame.specs.Payloads.{Content, IsSpelled, FirstWithout}
use Rattle.module_reading.specs.declared.fault.ReadFault.{ReadFault}
use Rattle.module_reading.specs.declared.fault.ReadFault.TheVariants.{Frame as Framed, Section, Body, Counts, Limit, Memory}
use Rattle.module_reading.specs.Format.{Format}
use Rattle.module_reading.specs.Limits.{IsWithinLimits, FirstPassed}
use Rattle.module_reading.specs.Spells.{code_section, IsPart, Grammar, Spells}

-- the frame is broken so. Want of memory is no fault of the frame
abbrev pub IsBroken : Version → List ℕ → FrameFault → Type 0
IsBroken v b frame.BadHead = ¬ (IsHeaded b)
IsBroken v b frame.BadSize = (parts : List Part) × Frame v b parts NoSize
IsBroken v b frame.BadOrder = (parts : List Part) × Frame v b parts NoPlace
IsBroken v b (frame.Memory e) = ⊥

-- a fact on a fault, which holds wherever memory was found
abbrev pub IfNotMemory : ReadFault → Type 0 → Type 0
IfNotMemory (Framed fault) P = P
IfNotMemory (Section i) P = P
IfNotMemory (Body f) P = P
IfNotMemory Counts P = P
IfNotMemory (Limit kind) P = P
IfNotMemory (Memory e) P = Unit {0}

-- the same of an answer
abbrev pub UnlessMemory : {X : Type 0} → Result X ReadFault → Type 0 → Type 0
UnlessMemory (Ok x) P = P
UnlessMemory (Err fault) P = IfNotMemory fault P

module _ {Module : Type 0} (f : Format Module) where
  -- the section at this place is the first that is not in its grammar
  abbrev pub IsBadSection : List ℕ → ℕ → Type 0
  IsBadSection b i = (parts : List Part) × Frame f.version b parts Whole × FirstWithout (IsPart f) parts i

  -- all sections are in their grammar, and this body is the first that is not
  abbrev pub IsBadBody : List ℕ → ℕ → Type 0
  IsBadBody b i =
      (parts : List Part) × (texts : List (List ℕ)) × Frame f.version b parts Whole × AllByRecursion (IsPart f) parts
      × Content 10 code_section [] parts texts × FirstWithout (IsSpelled f.body) texts i

  -- what a fault says
  abbrev pub Refuses : List ℕ → ReadFault → Type 0
  Refuses b (Framed fault) = IsBroken f.version b fault
  Refuses b (Section i) = IsBadSection b i
  Refuses b (Body i) = IsBadBody b i
  Refuses b Counts = (m : Module) × Grammar f b m × ¬ (f.Agrees m)
  Refuses b (Limit kind) = (m : Module) × Spells f b m × FirstPassed f m kind
  Refuses b (Memory e) = ⊥

  abbrev pub Reads : List ℕ → Result Module ReadFault → Type 0
  Reads b (Ok m) = Spells f b m × IsWithinLimits f m
  Reads b (Err fault) = Refuses b fault

  -- what the answer says, unless memory was not found
  abbrev pub Tells : List ℕ → Result Module ReadFault → Type 0
  Tells b result = UnlessMemory result (Reads b result)
