use Rattle.std.proofs.Common.{◌≡◌, false, take}
use Rattle.std.specs.List.{list_any}
use Rattle.pass_plain.specs.Trimming.{asks}
use Rattle.pass_plain.proofs.counts.+asking.Given as goal

-- none of the nodes so far asks
abbrev pub invariant-any_asks-loop-node : goal.invariant-any_asks-loop-node
invariant-any_asks-loop-node l = list_any asks (take l.node-index l.nodes) ≡ false
