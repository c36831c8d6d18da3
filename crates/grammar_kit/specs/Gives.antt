-- What a reader returned is what its form reads.
use Rattle.std.specs.Prelude.{◌≡◌, Option, Some, None, Result, Ok, Err}
use Rattle.grammar_kit.specs.declared.error.FormError.{FormError}
use Rattle.grammar_kit.specs.declared.error.FormError.TheVariants.{Malformed, Memory}

-- of a reader that takes no memory, whose answer `view` sees as a value and the bytes after it
abbrev pub GivesOption : {X Y : Type 0} → (X → Y) → Option X → Option Y → Type 0
GivesOption view (Some x) read = read ≡ Some (view x)
GivesOption view None read = read ≡ None

abbrev pub Misses : {Y : Type 0} → FormError → Option Y → Type 0
Misses Malformed read = read ≡ None
Misses (Memory e) read = Unit {0}

-- of a reader that takes memory: nothing is said where memory was not found
abbrev pub Gives : {X Y : Type 0} → (X → Y) → Result X FormError → Option Y → Type 0
Gives view (Ok x) read = read ≡ Some (view x)
Gives view (Err e) read = Misses e read
