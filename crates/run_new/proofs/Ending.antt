-- The end of a call from the host, over what a run keeps of its state.
use Rattle.std.proofs.Common.{◌≡◌, Option, Some, None, ap}
use Rattle.evaluation_kit.specs.declared.jump.Jump.{Jump}
use Rattle.evaluation_kit.specs.Configurations.{Plain, PlainRes}
use Rattle.evaluation_kit.specs.Tasks.{Status}
use Rattle.machine_kit.specs.Acts.{ended_by}
use Rattle.run_kit.specs.Narrowing.{whole_plain, whole_plain_res, part_status}
use Rattle.meaning_new.specs.declared.val.Val.{Val}
use Rattle.meaning_new.specs.Store.{State}
use Rattle.run_new.specs.States.{Kept, whole, unbounded}

pub ends : (see : PlainRes Val State → Status State) (j over : Option Jump) (p : Plain Val Kept) (s : Kept) → see (ended_by j (whole_plain unbounded p)) ≡ ended_by over (whole s) → part_status unbounded (see (whole_plain_res unbounded (ended_by j p))) ≡ ended_by over s
ends see None None p s e = ap (part_status unbounded) e
ends see None (Some k) p s e = ap (part_status unbounded) e
ends see (Some j) None p s e = ap (part_status unbounded) e
ends see (Some j) (Some k) p s e = ap (part_status unbounded) e
