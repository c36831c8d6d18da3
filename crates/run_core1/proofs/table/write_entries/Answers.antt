use Rattle.std.proofs.Common.{arith}
use Rattle.run_core1.proofs.Entries.{entry_more}
use Rattle.run_core1.proofs.table.write_entries.Goals as goal

pub loop-place-preserved : goal.loop-place-preserved
loop-place-preserved c =
    entry_more c.args.entries.now c.loop-place.entries c.args.at c.args.funcs.now c.loop-place.place c.loop-place.invariant (omega arith) (omega arith)
