-- The verdict on what a command reads: the bytes of its module, and the text of its script, which is empty where it has none.
use Rattle.std.specs.Prelude.{◌≡◌, ℕ, List}
use Rattle.lower_tool.specs.Runs.{CanRun, RefusesToRun}
use Rattle.lower_tool.specs.Verdict.{IsFineToLower, RefusesToLower, IsValid, RefusesAsInvalid, text_of}
use Rattle.lower_tool.specs.Words.{Command, lower, check, run}
use Rattle.lower_tool.specs.declared.verdict.Refusal.{Refusal}

abbrev pub IsFine : Command → List ℕ → List ℕ → Type 0
IsFine (lower input output room) bytes text = IsFineToLower bytes
IsFine (check version input) bytes text = IsValid version bytes
IsFine (run version input script turns) bytes text = CanRun version bytes text

-- this is the step that refuses them
abbrev pub Refuses : Command → Refusal → List ℕ → List ℕ → Type 0
Refuses (lower input output room) refusal bytes text = RefusesToLower refusal bytes
Refuses (check version input) refusal bytes text = RefusesAsInvalid version refusal bytes
Refuses (run version input script turns) refusal bytes text = RefusesToRun version refusal bytes text

-- what is printed is the text of the step that refuses them
abbrev pub IsRefusal : Command → List ℕ → List ℕ → List ℕ → Type 0
IsRefusal command bytes text printed = (refusal : Refusal) × Refuses command refusal bytes text × (printed ≡ text_of refusal)
