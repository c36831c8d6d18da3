-- What a command reads: the file of its module, and that of its script, where it has one.
use Rattle.std.specs.Prelude.{ℕ, ◌+◌, List, [], take, Option, None, Some, IfSome, IsSomeAnd, ◌⊎◌}
use Rattle.module_reading.specs.Limits.{file_limit}
use Rattle.tool_files.specs.Held.{Contents, Told, WhereTold}
use Rattle.lower_tool.specs.Statuses.{TakesWithinLimit}
use Rattle.lower_tool.specs.Words.{Command, input_of, script_of}

-- its files may be begun
abbrev pub CanBegin : (List ℕ → Type 0) → Command → Type 0
CanBegin can_begin command = can_begin (input_of command) × IfSome (script_of command) can_begin

-- P holds of the text of the script that is held, which is empty where there is none to read
abbrev pub ToldScript : Option Contents → Option (List ℕ) → (List ℕ → Type 0) → Type 0
ToldScript known None P = P []
ToldScript known (Some script) P = Told known script P

abbrev pub WhereScript : Option Contents → Option (List ℕ) → (List ℕ → Type 0) → Type 0
WhereScript known None P = P []
WhereScript known (Some script) P = WhereTold known script P

-- what is held is told, there are the command's files, and P holds of the bytes of the module and of the text of the script
abbrev pub ToldInputs : Option Contents → Command → (List ℕ → List ℕ → Type 0) → Type 0
ToldInputs known command P = Told known (input_of command) (λ bytes. ToldScript known (script_of command) (P bytes))

-- the same, where what is held is told
abbrev pub WhereInputs : Option Contents → Command → (List ℕ → List ℕ → Type 0) → Type 0
WhereInputs known command P = WhereTold known (input_of command) (λ bytes. WhereScript known (script_of command) (P bytes))

-- as many bytes of a file as are read
abbrev pub front : List ℕ → List ℕ
front bytes = take (file_limit + 1) bytes

-- of the file that was begun last, which is one of the command's, no more than one byte past the limit was taken
abbrev pub TakesInput : Contents → Command → Option (List ℕ) → Type 0
TakesInput held command left =
    TakesWithinLimit (held (input_of command)) left ⊎ IsSomeAnd (script_of command) (λ script. TakesWithinLimit (held script) left)
