use Rattle.lower_tool.proofs.KnownLemmas.{opened_taken}
use Rattle.lower_tool.proofs.tool.input.read_file.Goals as goal

pub returns-clause-taken : goal.returns-clause-taken
returns-clause-taken g c = λ reading.
    opened_taken (g.F.Files.holds c.args.files.now) c.args.name.now (g.F.Files.left c.begin.new.self) (g.F.Files.left c.read_rest.new.files) c.in_ok-begin.ensures.whole c.read_rest.ensures.taken
