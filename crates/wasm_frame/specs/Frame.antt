-- The frame of a module: chapter 5 of the standard, "Sections" and "Modules". A module is a head and then sections. A
-- section is an id, a size and a payload, which the frame does not look into.
use Rattle.std.specs.Prelude.{◌≡◌, ℕ, ◌+◌, ◌≤◌, ◌≢◌, ◌==◌, List, [], ◌∷◌, ◌++◌, map, drop, length, position, slice_range, Option, Some, None, option_map, if◌then◌else◌, Result, Ok, Err}
use Rattle.grammar_kit.specs.Form.{Form, always, byte, raw, ◌>>=◌}
use Rattle.wasm_frame.specs.declared.sections.Version.{Version}
use Rattle.wasm_frame.specs.declared.sections.Version.TheVariants.{One, Three}
use Rattle.wasm_frame.specs.declared.sections.Section.{Section}
use Rattle.wasm_frame.specs.declared.sections.FrameFault.{FrameFault}
use Rattle.wasm_frame.specs.declared.sections.FrameFault.TheVariants.{BadHead, BadSize, BadOrder, Memory}
use Rattle.wasm_frame.specs.Leb128.{u32}

-- the magic bytes and the version
abbrev pub head : List ℕ
head = 0x00 ∷ 0x61 ∷ 0x73 ∷ 0x6D ∷ 0x01 ∷ 0x00 ∷ 0x00 ∷ 0x00 ∷ []

-- a section as its id and its payload
pub record Part : Type 0 where
  pub id : ℕ
  pub payload : List ℕ

unfoldable pub section : Form Part
section = do
  id ← byte
  size ← u32
  payload ← raw size
  always (record { id = id; payload = payload })

-- the ids of sections that are not custom, in the order in which they stand, each at most once
abbrev pub order : Version → List ℕ
order One = 1 ∷ 2 ∷ 3 ∷ 4 ∷ 5 ∷ 6 ∷ 7 ∷ 8 ∷ 9 ∷ 10 ∷ 11 ∷ []
order Three = 1 ∷ 2 ∷ 3 ∷ 4 ∷ 5 ∷ 13 ∷ 6 ∷ 7 ∷ 8 ∷ 9 ∷ 12 ∷ 10 ∷ 11 ∷ []

-- the ids that may stand behind a section of this id, where it may stand itself. A custom one, of id 0, may stand anywhere
abbrev pub left_after : ℕ → List ℕ → Option (List ℕ)
left_after id left = if id == 0 then Some left else option_map (λ i. drop (i + 1) left) (position (λ k. k == id) left)

-- how sections end
pub data Ending : Type 0 where
  -- with the bytes
  Whole : Ending
  -- where bytes follow that no section is a front of: there is no size, or it passes the end
  NoSize : Ending
  -- where a section follows whose id the version lacks, that stands a second time, or out of order
  NoPlace : Ending

-- bytes are these sections, whose ids are among those that are left, and then end so
abbrev pub Sections : List ℕ → List ℕ → List Part → Ending → Type 0
Sections left b (s ∷ more) end =
    (t : List ℕ) × (u : List ℕ) × (next : List ℕ) × (b ≡ t ++ u) × section.text t s × (left_after s.id left ≡ Some next) × Sections next u more end
Sections left b [] Whole = b ≡ []
Sections left b [] NoSize = (b ≢ []) × ((t u : List ℕ) (s : Part) → b ≡ t ++ u → section.text t s → ⊥)
Sections left b [] NoPlace = (t : List ℕ) × (u : List ℕ) × (s : Part) × (b ≡ t ++ u) × section.text t s × (left_after s.id left ≡ None)

-- a file is the head and these sections, and then ends so
abbrev pub Frame : Version → List ℕ → List Part → Ending → Type 0
Frame v b parts end = (t : List ℕ) × (b ≡ head ++ t) × Sections (order v) t parts end

abbrev pub IsHeaded : List ℕ → Type 0
IsHeaded b = (t : List ℕ) × (b ≡ head ++ t)

-- sections that name their payloads by where these stand in the file
abbrev pub parts_of : List ℕ → List Section → List Part
parts_of b = map (λ s. record { id = s.id; payload = slice_range b s.start s.end })

abbrev pub IsWithin : List ℕ → Section → Type 0
IsWithin b s = (s.start ≤ s.end) × (s.end ≤ length b)

-- a fact on the answer, which holds wherever memory was found
abbrev pub UnlessMemory : {X : Type 0} → Result X FrameFault → Type 0 → Type 0
UnlessMemory (Ok x) P = P
UnlessMemory (Err BadHead) P = P
UnlessMemory (Err BadSize) P = P
UnlessMemory (Err BadOrder) P = P
UnlessMemory (Err (Memory e)) P = Unit {0}

-- what an answer says of the file
abbrev pub Tells : Version → List ℕ → Result (List Section) FrameFault → Type 0
Tells v b (Ok found) = Frame v b (parts_of b found) Whole
Tells v b (Err BadHead) = IsHeaded b → ⊥
Tells v b (Err BadSize) = (parts : List Part) × Frame v b parts NoSize
Tells v b (Err BadOrder) = (parts : List Part) × Frame v b parts NoPlace
Tells v b (Err (Memory e)) = Unit {0}
