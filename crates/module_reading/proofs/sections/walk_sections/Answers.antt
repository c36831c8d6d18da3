use Rattle.std.proofs.Common.{◌≡◌, ◌+◌, suc, take, arith}
use Rattle.wasm_frame.specs.Frame.{parts_of}
use Rattle.wasm_frame.proofs.Contents.{next_part, part_at}
use Rattle.module_reading.specs.Spells.{IsPart}
use Rattle.module_reading.proofs.Lists.{take_next, first_at}
use Rattle.module_reading.proofs.sections.walk_sections.Goals as goal

pub returns-then-not-branch : goal.returns-then-not-branch
returns-then-not-branch g c =
    let f = g.F.ModuleFormat.format in
    let b = c.args.file.now.bytes in
    let found = c.sections-section-items.result.now in
    let i = c.loop-place.place in
    let walked = rw (c.bytes-bytes.ensures, c.if-not-branch.true) at (c.in_ok-walk_section.ensures (take i (parts_of b found)) c.loop-place.invariant) in
    let first = first_at (IsPart f) (parts_of b found) i (part_at b found i) _ c.loop-place.invariant.parts_hold (next_part b found i c.loop-place-test.true) walked in
    (c.args.file.now.parts, rw c.requires at c.sections-section-items.ensures.frame, rw c.sections-section-items.ensures.parts at first)

pub loop-place-preserved : goal.loop-place-preserved
loop-place-preserved g c =
    let b = c.args.file.now.bytes in
    let found = c.sections-section-items.result.now in
    let i = c.loop-place.place in
    let walked = rw (c.bytes-bytes.ensures, c.if-not-branch.false) at (c.in_ok-walk_section.ensures (take i (parts_of b found)) c.loop-place.invariant) in
    let at : i + 1 ≡ suc i = omega arith in
    rw (at, take_next (parts_of b found) i (part_at b found i) _ (next_part b found i c.loop-place-test.true)) walked
