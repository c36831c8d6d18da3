use Rattle.std.proofs.Common.{◌<◌, length, add-one, arith}
use Rattle.std.proofs.lemmas.List.{take_more}
use Rattle.core1_bytes.proofs.Appending.{appends_more}
use Rattle.core1_bytes.proofs.writing.entry.write_many.Goals as goal

pub loop-entry-preserved : goal.loop-entry-preserved
loop-entry-preserved g c =
    let within : c.loop-entry.entry-index < length c.args.entries.now = omega arith in
    rw (take_more c.args.entries.now c.loop-entry.entry-index c.entry-item.result within, ← c.entry-item.is, add-one)
    (appends_more g.E.Entry.form c.loop-entry.entry-index c.args.out.now c.loop-entry.out c.write.new.out _ _ c.loop-entry.invariant c.in_ok-write.ensures)
