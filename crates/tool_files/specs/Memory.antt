-- Files in memory, as pairs of a name and bytes.
use Rattle.std.specs.Prelude.{◌≡◌, ℕ, ◌<◌, List, [], ◌∷◌, ◌++◌, if◌then◌else◌, length, drop, slice_set, Option, Some, None, slice_get, ⊤}
use Rattle.std.specs.Str.{bytes_eq}
use Rattle.std.specs.Option.{option_map, option_and_then, ForSome}
use Rattle.tool_files.specs.Calls.{CallPlan}
use Rattle.tool_files.specs.Held.{Contents, Created, nothing, named}

-- the bytes under a name
abbrev pub content_of : List (List ℕ × List ℕ) → Contents
content_of [] name = None
content_of (file ∷ files) name = if bytes_eq file.0 name then Some file.1 else content_of files name

-- each name stands once
abbrev pub IsNamedOnce : List (List ℕ × List ℕ) → Type 0
IsNamedOnce [] = ⊤
IsNamedOnce (file ∷ files) = (content_of files file.0 ≡ None) × IsNamedOnce files

-- the file of this name stands at this place, with these bytes
abbrev pub StandsAt : List (List ℕ × List ℕ) → ℕ → List ℕ → List ℕ → Type 0
StandsAt files place name bytes = slice_get files place ≡ Some (name, bytes)

-- these bytes are appended to the file at this place, and all else is as before
abbrev pub AppendsAt : List (List ℕ × List ℕ) → List (List ℕ × List ℕ) → ℕ → List ℕ → Type 0
AppendsAt files now place piece =
    (name bytes : List ℕ) → StandsAt files place name bytes → now ≡ slice_set files place (name, bytes ++ piece)

-- files in memory: the place of the one that is read, with how many of its bytes were taken, and of the one that is written
pub record Memory : Type 0 where
  pub files : List (List ℕ × List ℕ)
  pub reading : Option (ℕ × ℕ)
  pub writing : Option ℕ
  pub most : ℕ
  pub begins : CallPlan
  pub takes : CallPlan
  pub creates : CallPlan
  pub gives : CallPlan
  pub read_faults : ℕ
  pub write_faults : ℕ

-- what is left of the file that is read
abbrev pub left_in : List (List ℕ × List ℕ) → Option (ℕ × ℕ) → Option (List ℕ)
left_in files reading = option_and_then (λ from. option_map (λ file. drop from.1 file.1) (slice_get files from.0)) reading

abbrev pub left_of : Memory → Option (List ℕ)
left_of m = left_in m.files m.reading

-- the file at a place, as the one last created
abbrev pub created_at : Option (List ℕ × List ℕ) → Created
created_at None = nothing
created_at (Some file) = named file.0

-- the file last created
abbrev pub created_of : Memory → Created
created_of m = created_at (option_and_then (λ place. slice_get m.files place) m.writing)

-- each name stands once, the places are there, and a call moves a byte or more
pub record IsSound (m : Memory) : Type 0 where
  pub once : IsNamedOnce m.files
  pub read_place : ForSome m.reading (λ from. from.0 < length m.files)
  pub write_place : ForSome m.writing (λ place. place < length m.files)
  pub moves : 0 < m.most
