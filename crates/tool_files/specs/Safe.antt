-- Files that never fail, and drop what is written.
use Rattle.std.specs.Prelude.{ℕ, ◌<◌, List, length, Bool, Option, None, Some, if◌then◌else◌, IsSome}
use Rattle.std.specs.Option.{ForSome}
use Rattle.tool_files.specs.Held.{Contents, Created, nothing, unnamed}
use Rattle.tool_files.specs.Memory.{content_of, left_in}

-- the files, the place of the one that is read with how many of its bytes were taken, and whether one was created
pub record SafeMemory : Type 0 where
  pub files : List (List ℕ × List ℕ)
  pub reading : Option (ℕ × ℕ)
  pub writing : Bool

-- what is held is told until a file is created
abbrev pub told_by : SafeMemory → Option Contents
told_by m = if m.writing then None else Some (content_of m.files)

-- what is left of the file that is read
abbrev pub left_by : SafeMemory → Option (List ℕ)
left_by m = left_in m.files m.reading

-- the file last created is not named
abbrev pub created_by : SafeMemory → Created
created_by m = if m.writing then unnamed else nothing

-- the file of this name is there
abbrev pub IsHeld : SafeMemory → List ℕ → Type 0
IsHeld m name = IsSome (content_of m.files name)

-- the place that is read is there
abbrev pub IsPlaced : SafeMemory → Type 0
IsPlaced m = ForSome m.reading (λ from. from.0 < length m.files)
