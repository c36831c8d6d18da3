use Rattle.std.proofs.Common.{◌+◌, ◌%◌, ◌<◌, [], ◌∷◌, append_assoc, arith}
use Rattle.std.proofs.lemmas.List.{length-append}
use Rattle.wasm_frame.proofs.Powers.{seven_more}
use Rattle.wasm_frame.proofs.Spelling.{shortest_last, shortest_more, wide_without_last}
use Rattle.wasm_frame.proofs.leb128.writing.shortest.Goals as goal

pub returns-in-Some : goal.returns-in-Some
returns-in-Some c =
    rw c.push.ensures.items
    (c.loop-byte.invariant.completes (c.in-Some.byte ∷ []) (shortest_last c.args.sign c.loop-byte.left c.in-Some.byte c.loop-byte.rest c.in-Some.ensures))

pub overflow_sub-left : goal.overflow_sub-left
overflow_sub-left c =
    let wide : 7 < c.loop-byte.left = wide_without_last c.args.sign c.loop-byte.left c.loop-byte.rest c.loop-byte.invariant.some c.loop-byte.invariant.range c.in-None.ensures in
    omega arith

pub loop-byte-preserved : goal.loop-byte-preserved
loop-byte-preserved c =
    let left = c.loop-byte.left in
    let rest = c.loop-byte.rest in
    let invariant = c.loop-byte.invariant in
    let wide : 7 < left = wide_without_last c.args.sign left rest invariant.some invariant.range c.in-None.ensures in
    rw c.push-in-None.ensures.items
    (record {
      width = omega (arith, length-append c.loop-byte.spelling.items ((128 + rest % 128) ∷ []), invariant.width);
      some = omega arith;
      range = omega (arith, seven_more left wide, invariant.range);
      completes = λ t short. rw append_assoc (invariant.completes ((128 + rest % 128) ∷ t) (shortest_more c.args.sign left t rest wide c.in-None.ensures short));
    })
