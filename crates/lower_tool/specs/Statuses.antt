-- What a command leaves behind at each of its statuses.
use Rattle.std.specs.Prelude.{◌≡◌, ℕ, ◌+◌, ◌≤◌, List, [], ◌∷◌, ◌++◌, length, Option, ◌⊎◌}
use Rattle.std.specs.Io.KnownBytes.{Appends, Consumes}
use Rattle.tool_files.specs.Causes.{Rose}
use Rattle.tool_files.specs.Held.{Contents, Sets, WhereTold}
use Rattle.lower_tool.specs.Lowering.{Lowers}
use Rattle.module_reading.specs.Limits.{file_limit}
use Rattle.lower_tool.specs.Verdict.{IsFineToLower}

-- a text and the line feed that ends it
abbrev pub line : List ℕ → List ℕ
line text = text ++ 10 ∷ []

-- the first list is a front of the second
abbrev pub IsFrontOf : List ℕ → List ℕ → Type 0
IsFrontOf front whole = (rest : List ℕ) × (whole ≡ front ++ rest)

-- a front of the text was written, and all of it where the sink's count of faults did not rise
pub record Prints (written now : Option (List ℕ)) (faults faults_now : ℕ) (text : List ℕ) : Type 0 where
  pub part : List ℕ
  pub is_front : IsFrontOf part text
  pub appends : Appends written now part
  pub whole : ¬ Rose faults faults_now → Appends written now text

-- the output holds bytes that stand so to those of the input, which is fine, and each other file is as before
pub record Lowered (held now : Option Contents) (Stands : List ℕ → List ℕ → Type 0) (input output : List ℕ) : Type 0 where
  pub lowered : List ℕ
  pub lowers : WhereTold held input (λ bytes. IsFineToLower bytes × Stands bytes lowered)
  pub sets : Sets held now output lowered

-- the file is as before or holds a front of the bytes, and each other file is as before
abbrev pub LeavesFront : Option Contents → Option Contents → List ℕ → List ℕ → Type 0
LeavesFront held now name bytes =
    (front : List ℕ) × IsFrontOf front bytes × ((now ≡ held) ⊎ Sets held now name front)

-- the output is as before or holds a front of a lowering of the input, which is fine, and each other file is as before
pub record CutShort (held now : Option Contents) (input output : List ℕ) (captures : ℕ) : Type 0 where
  pub lowered : List ℕ
  pub lowers : WhereTold held input (λ bytes. IsFineToLower bytes × Lowers captures bytes lowered)
  pub leaves : LeavesFront held now output lowered

-- what was taken is the front of what was left, and no more than one byte past the limit
abbrev pub TakesWithinLimit : Option (List ℕ) → Option (List ℕ) → Type 0
TakesWithinLimit left now = (taken : List ℕ) × (length taken ≤ file_limit + 1) × Consumes left now taken

-- a front of the text was written
abbrev pub AppendsFront : Option (List ℕ) → Option (List ℕ) → List ℕ → Type 0
AppendsFront written now text = (part : List ℕ) × IsFrontOf part text × Appends written now part
