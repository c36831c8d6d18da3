-- What the program's step over a token did is what the token does.
use Rattle.std.specs.Prelude.{◌≡◌, List, Result, Ok, Err}
use Rattle.grammar_kit.specs.declared.error.FormError.{FormError}
use Rattle.grammar_kit.specs.declared.error.FormError.TheVariants.{Malformed, Memory}
use Rattle.nested_code.specs.declared.open_block.OpenBlock.{OpenBlock}
use Rattle.nested_code.specs.declared.turns.Progress.{Progress}
use Rattle.nested_code.specs.declared.turns.Progress.TheVariants.{Inside, Closed}
use Rattle.nested_code.specs.Nesting.{Turn, Whole, Goes, Wrong}

-- nothing is said where memory was not found
abbrev pub Turned : {I H : Type 0} → Result Progress FormError → List I → List (OpenBlock I H) → Turn I H → Type 0
Turned (Ok Inside) code blocks t = t ≡ Goes code blocks
Turned (Ok Closed) code blocks t = t ≡ Whole code
Turned (Err Malformed) code blocks t = t ≡ Wrong
Turned (Err (Memory e)) code blocks t = Unit {0}
