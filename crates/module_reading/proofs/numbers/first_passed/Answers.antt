use Rattle.std.proofs.lemmas.Option.{slice_get-get_or}
use Rattle.wasm_frame.proofs.Contents.{without_here, with_here, next_item}
use Rattle.module_reading.specs.declared.kind.Kind.TheVariants.{Types}
use Rattle.module_reading.specs.Limits.{IsWithin}
use Rattle.module_reading.specs.Numbers.{number_in}
use Rattle.module_reading.proofs.numbers.first_passed.Goals as goal

pub returns-then-not-is_within : goal.returns-then-not-is_within
returns-then-not-is_within g c =
    let f = g.F.ModuleFormat.format in (
      c.loop-kind.kind-index,
      slice_get-get_or c.args.kinds.now c.loop-kind.kind-index Types c.loop-kind-test.true,
      without_here (λ k. IsWithin f k (number_in c.args.numbers.now k)) c.args.kinds.now c.loop-kind.kind-index c.loop-kind.invariant _
          (next_item c.args.kinds.now c.loop-kind.kind-index Types c.loop-kind-test.true) (λ h. absurd (cc (c.if-not-is_within.true, c.is_within.ensures.1 (rw c.number_in.ensures h)))),
    )

pub loop-kind-preserved : goal.loop-kind-preserved
loop-kind-preserved g c =
    let f = g.F.ModuleFormat.format in
    with_here (λ k. IsWithin f k (number_in c.args.numbers.now k)) c.args.kinds.now c.loop-kind.kind-index c.loop-kind.invariant _
    (next_item c.args.kinds.now c.loop-kind.kind-index Types c.loop-kind-test.true) (rw c.number_in.ensures at (c.is_within.ensures.0 c.if-not-is_within.false))
