use Rattle.std.proofs.Common.{take}
use Rattle.tool_files.proofs.MemoryLemmas.{AppendsAt-once, AppendsAt-length, AppendsAt-created, AppendsAt-grows}
use Rattle.tool_files.proofs.files.memory.MemFilesFiles.give.Goals as goal

pub invariant_of-self-in-Ok : goal.invariant_of-self-in-Ok
invariant_of-self-in-Ok c =
    let files = c.self.inside.files.items in
    let now = c.append.new.files.items in
    let place = c.unwrap-place.result in
    let piece = take c.min-count.result c.args.piece.now in
    let within = c.self.invariant.write_place place c.unwrap-place.ensures in
    let same = AppendsAt-length files now place piece within c.in-Ok.ensures.ok in
    record {
      once = AppendsAt-once files now place piece within c.in-Ok.ensures.ok c.self.invariant.once;
      read_place = rw same c.self.invariant.read_place;
      write_place = rw same c.self.invariant.write_place;
      moves = c.self.invariant.moves;
    }

pub returns-in-Ok-clause-appends : goal.returns-in-Ok-clause-appends
returns-in-Ok-clause-appends c =
    let place = c.unwrap-place.result in
    let piece = take c.min-count.result c.args.piece.now in
    let within = c.self.invariant.write_place place c.unwrap-place.ensures in
    rw (← c.self.view_is, c.unwrap-place.ensures)
    (AppendsAt-grows c.self.inside.files.items c.append.new.files.items place piece within c.in-Ok.ensures.ok c.self.invariant.once)

pub returns-in-Ok-clause-created : goal.returns-in-Ok-clause-created
returns-in-Ok-clause-created c =
    let place = c.unwrap-place.result in
    let piece = take c.min-count.result c.args.piece.now in
    let within = c.self.invariant.write_place place c.unwrap-place.ensures in
    rw (← c.self.view_is, c.unwrap-place.ensures)
    (AppendsAt-created c.self.inside.files.items c.append.new.files.items place piece within c.in-Ok.ensures.ok)
