use Rattle.std.proofs.Common.{subst, ◌∙◌}
use Rattle.lower_tool.specs.Runs.{running_line}
use Rattle.lower_tool.specs.Statuses.{AppendsFront}
use Rattle.lower_tool.proofs.KnownLemmas.{AppendsFront-more, OnErr-anyway}
use Rattle.lower_tool.proofs.tool.print.print_run.Goals as goal

-- a front of the events is one of all that is shown
pub returns-in_err-print_all-clause-cut : goal.returns-in_err-print_all-clause-cut
returns-in_err-print_all-clause-cut g c =
    let written = g.S.Sink.written in
    let events = c.args.shown.now.events in
    let front : AppendsFront (written c.args.out.now) (written c.print_all.new.out) events =
    subst (AppendsFront (written c.args.out.now) (written c.print_all.new.out)) (c.as_bytes.ensures.value ∙ c.as_str.ensures.bytes) c.in_err-print_all.ensures.cut in
    OnErr-anyway _ (AppendsFront-more (written c.args.out.now) (written c.print_all.new.out) events (running_line c.args.shown.now.goes_on) front)
