use Rattle.std.proofs.Common.{◌<◌, ◌≤◌, ◌++◌, length, take, ap, arith, length-append}
use Rattle.std.proofs.lemmas.List.{length-take}
use Rattle.lower_tool.proofs.KnownLemmas.{Consumes-append, Consumes-front, Consumes-end}
use Rattle.lower_tool.proofs.tool.input.read_rest.Goals as goal

-- the piece for which no memory was found was taken too
pub returns-in_err-extend_from_slice-clause-taken :
    goal.returns-in_err-extend_from_slice-clause-taken
returns-in_err-extend_from_slice-clause-taken g c =
    let left = g.F.Files.left in
    let piece = take c.in_ok-count.count c.take.new.into in
    let front = c.in_ok-count.ensures.front in
    let within = c.in_ok-count.ensures.within in
    let kept = c.take.auto.into in
    let bytes = ap length c.as_slice-in-loop-piece.ensures in
    let all : length (c.loop-piece.bytes ++ piece) ≤ 67108865 =
    omega (arith, within, kept, bytes, c.min-room.ensures, length-append c.loop-piece.bytes piece, length-take c.min-room.result c.loop-piece.piece) in
    (c.loop-piece.bytes ++ piece, all, Consumes-append (left c.args.files.now) (left c.loop-piece.files) (left c.take.new.self) c.loop-piece.bytes piece c.loop-piece.invariant.taken front.0)

-- the file has ended
pub returns-then-count-eq0-clause-whole : goal.returns-then-count-eq0-clause-whole
returns-then-count-eq0-clause-whole g c =
    let left = g.F.Files.left in
    let none = c.if-count-eq0.true in
    let kept = c.take.auto.into in
    let first = ap length c.as_slice.ensures in
    let again = ap length c.as_slice-in-loop-piece.ensures in
    let test = c.loop-piece-test.true in
    let some : 0 < length c.take.new.into = omega (arith, kept, first, again, test, c.min-room.ensures, length-take c.min-room.result c.loop-piece.piece) in
    let within : length c.loop-piece.bytes ≤ 67108864 = omega (arith, first, test) in
    Consumes-end (left c.args.files.now) (left c.loop-piece.files) (left c.take.new.self) c.loop-piece.bytes c.take.new.into c.in_ok-count.count
    c.loop-piece.invariant.taken c.in_ok-count.ensures.front.0 none (c.in_ok-count.ensures.front.1 none some) within

-- one byte past the limit was read
pub returns-clause-whole : goal.returns-clause-whole
returns-clause-whole g c =
    let left = g.F.Files.left in
    let first = ap length c.as_slice.ensures in
    let test = c.loop-piece-test.false in
    let within = c.loop-piece.invariant.within in
    Consumes-front (left c.args.files.now) (left c.loop-piece.files) c.loop-piece.bytes c.loop-piece.invariant.taken (omega (arith, first, test, within))
