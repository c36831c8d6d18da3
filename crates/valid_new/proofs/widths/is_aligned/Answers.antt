use Rattle.valid_new.proofs.Alignments.{too_large}
use Rattle.valid_new.proofs.widths.is_aligned.Goals as goal

pub returns-then-align-ge32 : goal.returns-then-align-ge32
returns-then-align-ge32 c = too_large c.args.align c.args.bytes c.if-align-ge32.true c.requires
