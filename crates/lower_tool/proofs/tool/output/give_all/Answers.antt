use Rattle.std.proofs.Common.{ℕ, List, drop, take, ◌∙◌, arith, length-drop}
use Rattle.std.proofs.Math.Seq.{take-add}
use Rattle.std.proofs.lemmas.List.{take_rest}
use Rattle.tool_files.specs.Held.{Grows}
use Rattle.lower_tool.specs.Statuses.{IsFrontOf}
use Rattle.lower_tool.proofs.KnownLemmas.{IsFrontOf-take, OnErr-anyway}
use Rattle.tool_files.proofs.HeldLemmas.{Grows-append}
use Rattle.lower_tool.proofs.tool.output.give_all.Goals as goal

pub returns-in_err-done-clause-cut : goal.returns-in_err-done-clause-cut
returns-in_err-done-clause-cut g c =
    let done = take c.loop-done.done c.args.bytes.now in
    let cut : (front : List ℕ) × IsFrontOf front c.args.bytes.now × Grows (g.F.Files.holds c.args.files.now) (g.F.Files.holds c.give.new.self) (g.F.Files.created c.args.files.now) front =
    (done, IsFrontOf-take _ _, rw c.in_err-done.ensures.held c.loop-done.invariant.grows) in
    OnErr-anyway _ cut

pub loop-done-preserved : goal.loop-done-preserved
loop-done-preserved g c =
    let holds = g.F.Files.holds in
    let kept = c.loop-done.invariant in
    let given = c.in_ok-done.ensures in
    let piece = take_rest c.args.bytes.now c.loop-done.done in
    let count = rw piece at given.count in
    let appends = rw (piece, kept.created) at given.appends in
    let grows =
    Grows-append (holds c.args.files.now) (holds c.loop-done.files) (holds c.give.new.self) (g.F.Files.created c.args.files.now)
    (take c.loop-done.done c.args.bytes.now) (take c.in_ok-done.field-0 (drop c.loop-done.done c.args.bytes.now)) kept.grows appends in
    record {
      within = omega (arith, count, length-drop c.loop-done.done c.args.bytes.now);
      later = omega (arith, given.cause.later, kept.later);
      grows = rw take-add grows;
      created = given.created ∙ kept.created;
      reads = given.reads ∙ kept.reads;
      still = λ other may. given.still other (kept.still other may);
    }
