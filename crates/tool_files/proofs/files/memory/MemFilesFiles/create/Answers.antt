use Rattle.std.proofs.Common.{[]}
use Rattle.tool_files.proofs.PairLemmas.{content_of-at}
use Rattle.tool_files.proofs.files.memory.MemFilesFiles.create.Goals as goal

pub returns-in-Ok-clause-empties : goal.returns-in-Ok-clause-empties
returns-in-Ok-clause-empties c =
    let made = c.in-Ok.ensures in
    rw (← c.self.view_is) (content_of-at c.empty_file.new.files.items c.in-Ok.place c.args.name.now [] made.once made.empty, made.others)
