use Rattle.std.proofs.Common.{IsTrue, ap, subst, sym}
use Rattle.lower_tool.specs.Commands.{command_of}
use Rattle.lower_tool.proofs.KnownLemmas.{module_taken, script_taken}
use Rattle.lower_tool.proofs.tool.input.read_inputs.Goals.{in-Some+in_ok-text-in-Some, in-None}
use Rattle.lower_tool.proofs.tool.input.read_inputs.Goals as goal

-- the file that was begun last is that of the script, or that of the module where there is no script
pub returns-clause-taken : goal.returns-clause-taken
returns-clause-taken g c = λ reading.
    let holds = g.F.Files.holds in
    let left = g.F.Files.left in
    let command = command_of c.args.command in
    elim c.match-script.branch [
      | in-Some+in_ok-text-in-Some w ↦
          script_taken (holds c.args.files.now) (holds c.read_file.new.files) command w.in-Some.name.now (left w.read_file-in-Some.new.files) (left c.match-script.files)
          c.in_ok-bytes.ensures.held w.in-Some.ensures (ap left (sym w.files-is)) (w.in_ok-text-in-Some.ensures.taken (subst (λ f. IsTrue (g.F.Files.is_reading f)) w.files-is reading))
      | in-None w ↦
          module_taken (holds c.args.files.now) command c.input.result.now (left c.read_file.new.files) (left c.match-script.files)
          c.input.ensures (ap left (sym w.files-is)) (c.in_ok-bytes.ensures.taken (subst (λ f. IsTrue (g.F.Files.is_reading f)) w.files-is reading))
    ]
