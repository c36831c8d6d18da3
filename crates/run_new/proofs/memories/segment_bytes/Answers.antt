use Rattle.std.proofs.Common.{map}
use Rattle.run_new.proofs.Places.{borrowed_there, borrowed_not_there}
use Rattle.run_new.proofs.memories.segment_bytes.Goals as goal

pub returns : goal.returns
returns c = borrowed_there (map (λ d. d.now) c.args.datas.now) c.args.segment c.bytes_at.result c.in-Some.data c.bytes_at.ensures c.in-Some.is

pub returns-in_default : goal.returns-in_default
returns-in_default c = borrowed_not_there (map (λ d. d.now) c.args.datas.now) c.args.segment c.bytes_at.result c.no_bytes.result.now c.bytes_at.ensures c.in_default.is c.no_bytes.ensures
