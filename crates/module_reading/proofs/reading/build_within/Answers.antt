use Rattle.module_reading.specs.declared.numbers.Numbers.{Numbers}
use Rattle.module_reading.specs.declared.kind.Kind.TheVariants.{Payload}
use Rattle.module_reading.specs.Files.{payloads}
use Rattle.module_reading.specs.Limits.{front_kinds, last_kinds}
use Rattle.module_reading.specs.Numbers.{AreOf}
use Rattle.module_reading.proofs.Passed.{told, within, passed_behind, all_within}
use Rattle.module_reading.proofs.reading.build_within.Goals as goal

pub returns-in-Some : goal.returns-in-Some
returns-in-Some g c =
    let t = g.F.ModuleFormat in
    let m = t.means.made (payloads c.args.file.now) in
    let n : Numbers = record c.args.numbers { payload = c.payload_words-payload.result } in
    let same : AreOf t.format last_kinds n m = (told (t.format.limit Payload) (c.payload_words-payload.ensures m c.in_ok-declared.ensures), c.requires.nesting) in
    (m, c.requires.spells, passed_behind t.format n m (within t.format c.args.numbers m front_kinds c.requires.front c.requires.within) same c.in-Some.kind c.in-Some.ensures)

pub returns : goal.returns
returns g c =
    let t = g.F.ModuleFormat in
    let m = t.means.made (payloads c.args.file.now) in
    let n : Numbers = record c.args.numbers { payload = c.payload_words-payload.result } in
    let same : AreOf t.format last_kinds n m = (told (t.format.limit Payload) (c.payload_words-payload.ensures m c.in_ok-declared.ensures), c.requires.nesting) in
    rw c.in_ok-build.ensures (c.requires.spells, all_within t.format n m (within t.format c.args.numbers m front_kinds c.requires.front c.requires.within) same (rw c.in_default.is at c.first_passed.ensures))
