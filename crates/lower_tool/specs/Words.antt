-- The commands, by their words.
use Rattle.std.specs.Prelude.{◌≡◌, ℕ, ◌<◌, ◌≤◌, ◌^◌, List, [], ◌∷◌, map, codes, Option, None, Some, IfSome, option_to_list, unwrap_or, ⊤}
use Rattle.std.specs.Fmt.{decimal}
use Rattle.wasm_frame.specs.declared.sections.Version.{Version}
use Rattle.wasm_frame.specs.declared.sections.Version.TheVariants.{One, Three}

-- a command with what its words give: `lower IN OUT` or `lower IN OUT N`; `check1 IN` or `check3 IN`, by the version of the format; and
-- `run1 IN SCRIPT TURNS` or `run3 IN SCRIPT TURNS`, by the version too
pub data Command : Type 0 where
  lower : List ℕ → List ℕ → Option ℕ → Command
  check : Version → List ℕ → Command
  run : Version → List ℕ → List ℕ → ℕ → Command

abbrev pub check_word : Version → List ℕ
check_word One = codes "check1"
check_word Three = codes "check3"

abbrev pub run_word : Version → List ℕ
run_word One = codes "run1"
run_word Three = codes "run3"

-- how many captured exceptions a lowered module has room for: as many as the words say, and else 4,096
abbrev pub captures_of : Option ℕ → ℕ
captures_of room = unwrap_or room 4096

abbrev pub IsRoom : ℕ → Type 0
IsRoom n = (1 ≤ n) × (n ≤ 16384)

-- The words are those of the command. A number of turns is below 2 ^ 64, and is written in decimal without a zero in front
abbrev pub Say : List (List ℕ) → Command → Type 0
Say words (lower input output room) =
    IfSome room IsRoom × (words ≡ codes "lower" ∷ input ∷ output ∷ map decimal (option_to_list room))
Say words (check version input) = words ≡ check_word version ∷ input ∷ []
Say words (run version input script turns) = (turns < 2 ^ 64) × (words ≡ run_word version ∷ input ∷ script ∷ decimal turns ∷ [])

-- the name of the file of its module, and that of its script, if it has one
abbrev pub input_of : Command → List ℕ
input_of (lower input output room) = input
input_of (check version input) = input
input_of (run version input script turns) = input

abbrev pub script_of : Command → Option (List ℕ)
script_of (lower input output room) = None
script_of (check version input) = None
script_of (run version input script turns) = Some script

-- a command that says for how many captures there is to be room says a number of them that there may be
abbrev pub HasRoom : Command → Type 0
HasRoom (lower input output room) = IfSome room IsRoom
HasRoom _ = ⊤

-- the words are a command
abbrev pub IsCommand : List (List ℕ) → Type 0
IsCommand words = (command : Command) × Say words command

-- the words are a command, of which P holds
abbrev pub ByWords : List (List ℕ) → (Command → Type 0) → Type 0
ByWords words P = (command : Command) × Say words command × P command

-- P holds of the command, where the words are one
abbrev pub IfWords : List (List ℕ) → (Command → Type 0) → Type 0
IfWords words P = (command : Command) → Say words command → P command

-- P holds of the names and of how many captures there is room for, where the words are this command
abbrev pub IfLower : List (List ℕ) → (List ℕ → List ℕ → ℕ → Type 0) → Type 0
IfLower words P = (input output : List ℕ) (room : Option ℕ) → Say words (lower input output room) → P input output (captures_of room)

-- P holds of the version and the name, where the words are `check1 IN` or `check3 IN`
abbrev pub IfCheck : List (List ℕ) → (Version → List ℕ → Type 0) → Type 0
IfCheck words P = (version : Version) (input : List ℕ) → Say words (check version input) → P version input

-- P holds of the version, the names and the number of turns, where the words are `run1 IN SCRIPT TURNS` or
-- `run3 IN SCRIPT TURNS`
abbrev pub IfRun : List (List ℕ) → (Version → List ℕ → List ℕ → ℕ → Type 0) → Type 0
IfRun words P = (version : Version) (input script : List ℕ) (turns : ℕ) → Say words (run version input script turns) → P version input script turns

-- it prints, and writes no file
abbrev pub IsPrinting : Command → Type 0
IsPrinting (lower input output room) = ⊥
IsPrinting _ = ⊤

-- P holds of the command, where the words are one that prints
abbrev pub IfPrinting : List (List ℕ) → (Command → Type 0) → Type 0
IfPrinting words P = (command : Command) → IsPrinting command → Say words command → P command
