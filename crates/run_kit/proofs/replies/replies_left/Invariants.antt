use Rattle.std.proofs.Common.{◌≡◌, map, take}
use Rattle.run_kit.proofs.replies.replies_left.Given as goal

abbrev pub invariant-loop-list : goal.invariant-loop-list
invariant-loop-list l = map (λ r. r.now) l.left.items ≡ take l.list-index l.replies
