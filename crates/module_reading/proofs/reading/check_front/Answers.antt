use Rattle.module_reading.specs.Files.{payloads}
use Rattle.module_reading.proofs.Modules.{grammar}
use Rattle.module_reading.proofs.Passed.{passed_in_front}
use Rattle.module_reading.proofs.reading.check_front.Goals as goal

pub returns-then-not-agree : goal.returns-then-not-agree
returns-then-not-agree g c =
    let t = g.F.ModuleFormat in
    let laws = c.requires.laws in
    let file = c.args.file.now in (
      t.means.made (payloads file),
      grammar t.format t.means laws file c.args.sizes.now c.requires.measured,
      λ h. absurd (cc (c.if-not-agree.true, (c.agree.ensures (payloads file) c.requires.measured.sizes).1 h)),
    )

pub returns-in-Some : goal.returns-in-Some
returns-in-Some g c =
    let t = g.F.ModuleFormat in
    let laws = c.requires.laws in
    let file = c.args.file.now in (
      t.means.made (payloads file),
      record {
        grammar = grammar t.format t.means laws file c.args.sizes.now c.requires.measured;
        counts = (c.agree.ensures (payloads file) c.requires.measured.sizes).0 c.if-not-agree.false;
      },
      passed_in_front t.format c.numbers-numbers.result (t.means.made (payloads file)) c.in-Some.kind (c.numbers-numbers.ensures.front (payloads file) c.requires.measured.sizes) c.in-Some.ensures,
    )

pub returns-in-None : goal.returns-in-None
returns-in-None g c =
    let t = g.F.ModuleFormat in
    let laws = c.requires.laws in
    let file = c.args.file.now in
    record {
      spells = record {
        grammar = grammar t.format t.means laws file c.args.sizes.now c.requires.measured;
        counts = (c.agree.ensures (payloads file) c.requires.measured.sizes).0 c.if-not-agree.false;
      };
      front = c.numbers-numbers.ensures.front (payloads file) c.requires.measured.sizes;
      within = c.in-None.ensures;
      nesting = c.numbers-numbers.ensures.nesting (payloads file) c.requires.measured.sizes;
    }
