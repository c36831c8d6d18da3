-- How a call of a function of the host's ends, as a call answers it.
use Rattle.std.specs.Prelude.{ℕ, List, [], ◌∷◌, map, reverse, set, slice_get, Option, Some, None}
use Rattle.host_kit.specs.declared.script.Reply.{Reply}
use Rattle.host_kit.specs.declared.value.Value.{Value}
use Rattle.evaluation_kit.specs.declared.jump.Jump.TheVariants.{NoReply}
use Rattle.outcome_kit.specs.Code.{Go, Leave}
use Rattle.evaluation_kit.specs.Configurations.{PlainRes}
use Rattle.meaning_core1.specs.declared.val1.Val1.{Val1}
use Rattle.meaning_core1.specs.Store.{State1, value_from}

-- with the values of a reply, first to last; or without a reply to the import with this index
abbrev pub answered : ℕ → Option (List Value) → State1 → PlainRes Val1 State1
answered x (Some values) s = Go (record { operands = reverse (map value_from values); locals = []; state = s })
answered x None s = Leave (NoReply x) (record { operands = []; locals = []; state = s })

-- the first reply that is left to a function, and the replies without it; where there is none, they stay
abbrev pub first_left : Option (List Reply) → Option Reply
first_left (Some (reply ∷ more)) = Some reply
first_left _ = None

abbrev pub without_first_of : ℕ → Option (List Reply) → List (List Reply) → List (List Reply)
without_first_of x (Some (reply ∷ more)) replies = set replies x more
without_first_of x _ replies = replies

abbrev pub without_first : ℕ → List (List Reply) → List (List Reply)
without_first x replies = without_first_of x (slice_get replies x) replies
