-- How a call of a function of the host's ends, as a call answers it.
use Rattle.std.specs.Prelude.{ℕ, List, [], map, reverse, Option, Some, None}
use Rattle.host_kit.specs.declared.value.Value.{Value}
use Rattle.evaluation_kit.specs.declared.jump.Jump.TheVariants.{NoReply}
use Rattle.outcome_kit.specs.Code.{Go, Leave}
use Rattle.evaluation_kit.specs.Configurations.{PlainRes}
use Rattle.meaning_new.specs.declared.val.Val.{Val}
use Rattle.meaning_new.specs.Store.{State, from_host}

-- with the values of a reply, first to last; or without a reply to the import with this index
abbrev pub answered : ℕ → Option (List Value) → State → PlainRes Val State
answered x (Some values) s = Go (record { operands = reverse (map from_host values); locals = []; state = s })
answered x None s = Leave (NoReply x) (record { operands = []; locals = []; state = s })
