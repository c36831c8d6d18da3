use Rattle.std.proofs.Common.{◌≡◌, ◌-◌, min, length, take, drop, refl, lit<}
use Rattle.std.proofs.lemmas.Option.{slice_get_read}
use Rattle.tool_files.specs.Memory.{StandsAt}
use Rattle.tool_files.proofs.MemoryLemmas.{Consumes-file}
use Rattle.tool_files.proofs.files.safe.SafeFilesFiles.take.Goals as goal

-- what was copied is the front of what was left
pub returns-clause-front : goal.returns-clause-front
returns-clause-front c =
    let files = c.self.inside.files.items in
    let from = c.unwrap-place.result in
    let file = c.index.result.now in
    let into = c.copy_from-count.new.into in
    let count = c.copy_from-count.result in
    let within = c.self.invariant from c.unwrap-place.ensures in
    let stands : StandsAt files from.0 file.0 file.1 = slice_get_read files _ from.0 file refl within c.index.ensures in
    let is : count ≡ min 4294967295 (min (length into) (length file.1 - from.1)) =
    rw (c.copy_from-count.auto.into, ← c.as_slice.ensures) c.copy_from-count.ensures.count in
    let front : take count into ≡ take count (drop from.1 file.1) = rw (← c.as_slice.ensures) c.copy_from-count.ensures.front in
    rw (← c.self.view_is, c.unwrap-place.ensures)
    (Consumes-file _ file.0 file.1 into from.1 count 4294967295 stands (lit< tt) is front)
