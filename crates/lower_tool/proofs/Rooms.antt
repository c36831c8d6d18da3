-- The number of captures for which the words ask.
use Rattle.std.proofs.Common.{◌≡◌, ℕ, ◌<◌, ◌≤◌, ◌^◌, List, None, sym, ◌∙◌, subst, arith}
use Rattle.std.proofs.lemmas.Fmt.{decimal_injective}
use Rattle.std.specs.Fmt.{decimal}
use Rattle.lower_tool.specs.Inputs.{CanBegin}
use Rattle.lower_tool.specs.Words.{Command, lower, check, run, HasRoom, IsRoom, Say}
use Rattle.lower_tool.proofs.Delivering.{one_command}

-- a command that the words are asks for a room that there may be
pub has_room : (words : List (List ℕ)) (command : Command) → Say words command → HasRoom command
has_room words (lower input output room) h = h.0
has_room words (check version input) h = tt
has_room words (run version input script turns) h = tt

-- a text that is a number too small or too large is no such room
apart : (text : List ℕ) (n : ℕ) → n < 2 ^ 64 → text ≡ decimal n → (IsRoom n → ⊥) → (room : ℕ) → IsRoom room → text ≡ decimal room → ⊥
apart text n within is none room good same =
    let equal : room ≡ n = decimal_injective room n (omega (arith, good.1)) within (sym same ∙ is) in
    none (rw equal at good)

pub small_room : (text : List ℕ) (n : ℕ) → n < 2 ^ 64 → text ≡ decimal n → n < 1 → (room : ℕ) → IsRoom room → text ≡ decimal room → ⊥
small_room text n within is small = apart text n within is (λ good. omega (arith, small, good.0))

pub large_room : (text : List ℕ) (n : ℕ) → n < 2 ^ 64 → text ≡ decimal n → 16384 < n → (room : ℕ) → IsRoom room → text ≡ decimal room → ⊥
large_room text n within is large = apart text n within is (λ good. omega (arith, large, good.1))

-- where the words are this command, each command that they are may begin its files
pub may_begin : (can_begin : List ℕ → Type 0) (words : List (List ℕ)) (input output : List ℕ) → Say words (lower input output None) → can_begin input → (command : Command) → Say words command → CanBegin can_begin command
may_begin can_begin words input output said held command says =
    subst (CanBegin can_begin) (one_command words (lower input output None) command said says) (held, tt)
