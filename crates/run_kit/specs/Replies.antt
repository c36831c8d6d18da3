-- The replies that a host has left.
use Rattle.std.specs.Prelude.{ℕ, List, ◌∷◌, set, slice_get, Option, Some, None}
use Rattle.host_kit.specs.declared.script.Reply.{Reply}

-- the first reply that is left to a function, and the replies without it; where there is none, they stay
abbrev pub first_left : Option (List Reply) → Option Reply
first_left (Some (reply ∷ more)) = Some reply
first_left _ = None

abbrev pub without_first_of : ℕ → Option (List Reply) → List (List Reply) → List (List Reply)
without_first_of x (Some (reply ∷ more)) replies = set replies x more
without_first_of x _ replies = replies

abbrev pub without_first : ℕ → List (List Reply) → List (List Reply)
without_first x replies = without_first_of x (slice_get replies x) replies
