-- What a command makes of what it reads.
use Rattle.std.specs.Prelude.{◌≡◌, ℕ, List, ◌++◌, codes, ⊤}
use Rattle.host_kit.specs.Trace.{events}
use Rattle.lower_tool.specs.declared.running.Shown.{Shown}
use Rattle.lower_tool.specs.declared.tool.product.Product.{Product}
use Rattle.lower_tool.specs.declared.tool.product.Product.TheVariants.{File, Fine, Run}
use Rattle.lower_tool.specs.Lowering.{Lowers}
use Rattle.lower_tool.specs.Runs.{Runs, run_text, running_line}
use Rattle.lower_tool.specs.Statuses.{line}
use Rattle.lower_tool.specs.Verdict.{IsFineToLower, IsValid}
use Rattle.lower_tool.specs.Words.{Command, lower, check, run, captures_of}

-- what is made is a file under the name of the output, the line `ok`, or what is shown of a run
abbrev pub IsFor : Command → Product → Type 0
IsFor (lower input output room) (File name written) = name.now ≡ output
IsFor (check version input) Fine = ⊤
IsFor (run version input script turns) (Run shown) = ⊤
IsFor _ _ = ⊥

-- P holds of the name and the bytes, where this is a file; of the text that is printed, where it is none
abbrev pub IfFile : Product → (List ℕ → List ℕ → Type 0) → Type 0
IfFile (File name written) P = P name.now written
IfFile Fine P = ⊤
IfFile (Run shown) P = ⊤

abbrev pub text_of : Shown → List ℕ
text_of shown = shown.events ++ running_line shown.goes_on

abbrev pub IfPrinted : Product → (List ℕ → Type 0) → Type 0
IfPrinted (File name written) P = ⊤
IfPrinted Fine P = P (line (codes "ok"))
IfPrinted (Run shown) P = P (text_of shown)

-- it is made of these bytes and of this text of a script: a file has the bytes of a lowering, and the text of a run is that of
-- its events
abbrev pub Makes : Command → List ℕ → List ℕ → Product → Type 0
Makes (lower input output room) bytes text product =
    IsFineToLower bytes × IfFile product (λ name written. Lowers (captures_of room) bytes written)
Makes (check version input) bytes text product = IsValid version bytes
Makes (run version input script turns) bytes text product =
    IfPrinted product (λ printed. Runs version bytes text (λ marks. printed ≡ run_text (events (marks turns))))
