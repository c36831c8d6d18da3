use Rattle.std.proofs.Common.{◌≡◌, ◌-◌, ◌<◌, [], ◌∷◌, ◌++◌, length, sym, ap, ◌∙◌, append_assoc, rules, arith}
use Rattle.std.proofs.lemmas.List.{append-nil, nil_from_length}
use Rattle.std.specs.Prelude.{slice_range}
use Rattle.std.proofs.lemmas.List.Elements.{All-push}
use Rattle.wasm_frame.specs.declared.sections.Section.{Section}
use Rattle.wasm_frame.specs.Frame.{Part, NoSize, NoPlace, Whole, IsWithin, head}
use Rattle.wasm_frame.proofs.Frames.{stops_without_size, stops_without_place, adds_section, section_cut, section_fits, payload_at, parts_with}
use Rattle.wasm_frame.proofs.sections.walking.walk.Goals as goal

pub loop-rest-init : goal.loop-rest-init
loop-rest-init c = record {
  cut = (head, c.in-Some.ensures);
  ranges = rw c.new-sections.ensures (λ k d lt. absurd (omega arith));
  completes = λ more end h. (c.in-Some.rest.now, c.in-Some.ensures, rw (c.new-sections.ensures, ← c.order-left.ensures) h);
}

pub returns-in_default-split_section-clause-tells : goal.returns-in_default-split_section-clause-tells
returns-in_default-split_section-clause-tells c =
    let some : 0 < length c.loop-rest.rest.now = search rules in
    (_, c.loop-rest.invariant.completes [] NoSize (stops_without_size c.loop-rest.left.now c.loop-rest.rest.now some c.in_default-split_section.ensures))

pub returns-in_default-left_after-clause-tells : goal.returns-in_default-left_after-clause-tells
returns-in_default-left_after-clause-tells c =
    let found = c.in-Some-split_section in
    let s : Part = record { id = found.id; payload = found.payload.now } in
    (_, c.loop-rest.invariant.completes [] NoPlace (stops_without_place c.loop-rest.left.now c.loop-rest.rest.now found.after.now s found.ensures c.in_default-left_after.ensures))

pub overflow_sub-end : goal.overflow_sub-end
overflow_sub-end c =
    let found = c.in-Some-split_section in
    let front = c.loop-rest.invariant.cut in
    let fits = section_fits c.args.b.now front.0 c.loop-rest.rest.now found.after.now (record { id = found.id; payload = found.payload.now }) front.1 found.ensures in
    omega (arith, fits)

pub overflow_sub-start : goal.overflow_sub-start
overflow_sub-start c =
    let found = c.in-Some-split_section in
    let front = c.loop-rest.invariant.cut in
    let fits = section_fits c.args.b.now front.0 c.loop-rest.rest.now found.after.now (record { id = found.id; payload = found.payload.now }) front.1 found.ensures in
    omega (arith, fits)

pub loop-rest-smaller : goal.loop-rest-smaller
loop-rest-smaller c =
    let found = c.in-Some-split_section in
    let front = c.loop-rest.invariant.cut in
    let fits = section_fits c.args.b.now front.0 c.loop-rest.rest.now found.after.now (record { id = found.id; payload = found.payload.now }) front.1 found.ensures in
    omega (arith, fits)

pub loop-rest-preserved : goal.loop-rest-preserved
loop-rest-preserved c =
    let b = c.args.b.now in
    let found = c.in-Some-split_section in
    let after = found.after.now in
    let s : Part = record { id = found.id; payload = found.payload.now } in
    let end = length b - length after in
    let x : Section = record { id = found.id; start = end - length s.payload; end = end } in
    let front = c.loop-rest.invariant.cut in
    let cut = section_cut b front.0 c.loop-rest.rest.now after s front.1 found.ensures in
    let e : record { id = x.id; payload = slice_range b x.start x.end } ≡ s = ap (λ payload. record { id = found.id; payload = payload }) (payload_at b cut.0 s.payload after cut.2) in
    record {
      cut = (cut.0 ++ s.payload, cut.2 ∙ sym (append_assoc cut.0 s.payload after));
      ranges = rw c.in_ok-push.ensures.ok (All-push (IsWithin b) c.loop-rest.sections x c.loop-rest.invariant.ranges (omega arith, omega arith));
      completes = λ more ending h. rw (c.in_ok-push.ensures.ok, parts_with b c.loop-rest.sections x s more e)
          (c.loop-rest.invariant.completes (s ∷ more) ending (adds_section c.loop-rest.left.now c.in-Some-left_after.next.now c.loop-rest.rest.now after s more ending found.ensures c.in-Some-left_after.ensures h));
    }

pub returns-clause-tells : goal.returns-clause-tells
returns-clause-tells c =
    let none : length c.loop-rest.rest.now ≡ 0 = search rules in
    rw append-nil at (c.loop-rest.invariant.completes [] Whole (nil_from_length c.loop-rest.rest.now none))
