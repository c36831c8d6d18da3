use Rattle.std.proofs.Common.{Err, sym, ◌∙◌, ap, subst, List, ℕ}
use Rattle.std.specs.Io.KnownBytes.{Appends}
use Rattle.std.specs.Prelude.{IfSome}
use Rattle.tool_files.specs.Held.{Sets}
use Rattle.lower_tool.specs.CommandVerdict.{IsFine}
use Rattle.lower_tool.specs.Commands.{command_of}
use Rattle.lower_tool.specs.Inputs.{ToldInputs, TakesInput}
use Rattle.lower_tool.specs.Products.{IfFile}
use Rattle.lower_tool.specs.Statuses.{Prints, AppendsFront, LeavesFront}
use Rattle.lower_tool.specs.Stops.{line_of, status_of}
use Rattle.lower_tool.specs.Verdict.{text_of}
use Rattle.lower_tool.specs.Words.{Command, lower, run, Say}
use Rattle.lower_tool.specs.declared.tool.stop.Stop.{Stop}
use Rattle.lower_tool.proofs.Delivering.{same_command, Made, made_fine, lowers, cuts, of_run}
use Rattle.lower_tool.proofs.Stopping.{refused_stop, told_text, fine_stops}
use Rattle.lower_tool.proofs.tool.tool.Goals as goal

-- ---- the words are no command

pub returns-in_default-clause-complete : goal.returns-in_default-clause-complete
returns-in_default-clause-complete g c = λ input output room words fine reads writes.
    absurd (c.in_default.ensures (lower input output room, subst (λ (w : List (List ℕ)). Say w (lower input output room)) (sym c.as_slice.ensures) words))

pub returns-in_default-clause-complete_printing : goal.returns-in_default-clause-complete_printing
returns-in_default-clause-complete_printing g c = λ command prints words fine reads writes.
    absurd (c.in_default.ensures (command, subst (λ (w : List (List ℕ)). Say w command) (sym c.as_slice.ensures) words))

-- ---- what was made is handed out

pub returns-in-Ok-clause-lowered : goal.returns-in-Ok-clause-lowered
returns-in-Ok-clause-lowered g c = λ status input output room words.
    let held = g.F.Files.holds c.args.files.now in
    let now = g.F.Files.holds c.deliver.new.files in
    let product = c.in-Ok.product in
    let same = same_command c.as_slice.result.now c.args.words.now (command_of c.in-Some.command) (lower input output room) c.as_slice.ensures c.in-Some.ensures words in
    let made = subst (λ (d : Command). Made d held product) same (record { is_for = c.in-Ok.ensures.fits; makes = c.in-Ok.ensures.makes }) in
    lowers held now input output room product made (subst (λ h. IfFile product (Sets h now)) c.in-Ok.ensures.held (c.deliver.ensures.file status))

pub returns-in-Ok-clause-cut : goal.returns-in-Ok-clause-cut
returns-in-Ok-clause-cut g c = λ status input output room words.
    let held = g.F.Files.holds c.args.files.now in
    let now = g.F.Files.holds c.deliver.new.files in
    let product = c.in-Ok.product in
    let same = same_command c.as_slice.result.now c.args.words.now (command_of c.in-Some.command) (lower input output room) c.as_slice.ensures c.in-Some.ensures words in
    let made = subst (λ (d : Command). Made d held product) same (record { is_for = c.in-Ok.ensures.fits; makes = c.in-Ok.ensures.makes }) in
    cuts held now input output room product made (subst (λ h. IfFile product (LeavesFront h now)) c.in-Ok.ensures.held (c.deliver.ensures.cut_file status))

pub returns-in-Ok-clause-runs : goal.returns-in-Ok-clause-runs
returns-in-Ok-clause-runs g c = λ status version input script turns words.
    let held = g.F.Files.holds c.args.files.now in
    let product = c.in-Ok.product in
    let same = same_command c.as_slice.result.now c.args.words.now (command_of c.in-Some.command) (run version input script turns) c.as_slice.ensures c.in-Some.ensures words in
    let made = subst (λ (d : Command). Made d held product) same (record { is_for = c.in-Ok.ensures.fits; makes = c.in-Ok.ensures.makes }) in
    of_run held version input script turns product (Appends (g.S.Sink.written c.args.out.now) (g.S.Sink.written c.deliver.new.out)) made (c.deliver.ensures.text status)

pub returns-in-Ok-clause-cut_run : goal.returns-in-Ok-clause-cut_run
returns-in-Ok-clause-cut_run g c = λ status version input script turns words.
    let held = g.F.Files.holds c.args.files.now in
    let product = c.in-Ok.product in
    let same = same_command c.as_slice.result.now c.args.words.now (command_of c.in-Some.command) (run version input script turns) c.as_slice.ensures c.in-Some.ensures words in
    let made = subst (λ (d : Command). Made d held product) same (record { is_for = c.in-Ok.ensures.fits; makes = c.in-Ok.ensures.makes }) in
    of_run held version input script turns product (AppendsFront (g.S.Sink.written c.args.out.now) (g.S.Sink.written c.deliver.new.out)) made (c.deliver.ensures.cut_text status)

pub returns-in-Ok-clause-refuses : goal.returns-in-Ok-clause-refuses
returns-in-Ok-clause-refuses g c = λ asked words told calm.
    let held = g.F.Files.holds c.args.files.now in
    let product = c.in-Ok.product in
    let same = same_command c.as_slice.result.now c.args.words.now (command_of c.in-Some.command) asked c.as_slice.ensures c.in-Some.ensures words in
    let made = subst (λ (d : Command). Made d held product) same (record { is_for = c.in-Ok.ensures.fits; makes = c.in-Ok.ensures.makes }) in
    absurd (made_fine asked held product made told)

-- ---- the command stops

pub returns-in-Err-clause-refused : goal.returns-in-Err-clause-refused
returns-in-Err-clause-refused g c = λ status.
    let command = command_of c.in-Some.command in
    let held = g.F.Files.holds c.args.files.now in
    let why = refused_stop command held c.in-Err.stop c.report.result c.in-Err.ensures.refused c.report.ensures.status status in
    let printed = λ (stop : Stop). Prints (g.S.Sink.written c.args.out.now) (g.S.Sink.written c.report.new.out) (g.S.Sink.faults c.args.out.now) (g.S.Sink.faults c.report.new.out) (line_of stop) in
    let prints = subst printed why.1 (c.report.ensures.prints (status ∙ sym (ap status_of why.1))) in
    (command, subst (λ (w : List (List ℕ)). Say w command) c.as_slice.ensures c.in-Some.ensures, (text_of why.0, told_text command held why.0 why.2, prints))

pub returns-in-Err-clause-complete : goal.returns-in-Err-clause-complete
returns-in-Err-clause-complete g c = λ input output room words fine reads writes.
    let command = command_of c.in-Some.command in
    let held = g.F.Files.holds c.args.files.now in
    let same = same_command c.as_slice.result.now c.args.words.now command (lower input output room) c.as_slice.ensures c.in-Some.ensures words in
    let told = subst (λ (d : Command). ToldInputs held d (IsFine d)) (sym same) fine in
    fine_stops command held c.in-Err.stop c.report.result c.in-Err.ensures.refused (λ e. reads (c.in-Err.ensures.read (ap (λ stop. Err stop) e))) c.report.ensures.status told

pub returns-in-Err-clause-complete_printing : goal.returns-in-Err-clause-complete_printing
returns-in-Err-clause-complete_printing g c = λ asked prints words fine reads writes.
    let command = command_of c.in-Some.command in
    let held = g.F.Files.holds c.args.files.now in
    let same = same_command c.as_slice.result.now c.args.words.now command asked c.as_slice.ensures c.in-Some.ensures words in
    let told = subst (λ (d : Command). ToldInputs held d (IsFine d)) (sym same) fine in
    fine_stops command held c.in-Err.stop c.report.result c.in-Err.ensures.refused (λ e. reads (c.in-Err.ensures.read (ap (λ stop. Err stop) e))) c.report.ensures.status told

pub returns-in-Err-clause-taken : goal.returns-in-Err-clause-taken
returns-in-Err-clause-taken g c = λ done cut reading asked words.
    let same = same_command c.as_slice.result.now c.args.words.now (command_of c.in-Some.command) asked c.as_slice.ensures c.in-Some.ensures words in
    subst (λ (d : Command). IfSome (g.F.Files.holds c.args.files.now) (λ held. TakesInput held d (g.F.Files.left c.prepare.new.files))) same (c.in-Err.ensures.taken reading)
