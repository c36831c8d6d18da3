use Rattle.std.proofs.lemmas.Result.{err_from_is_err_and}
use Rattle.lower_tool.specs.Commands.{command_of}
use Rattle.lower_tool.proofs.Delivering.{made_of_inputs}
use Rattle.lower_tool.proofs.Stopping.{inputs_stop}
use Rattle.lower_tool.proofs.tool.prepare.prepare.Goals as goal

-- what is made of what was read is made of the files
pub returns-clause-makes : goal.returns-clause-makes
returns-clause-makes g c =
    made_of_inputs (g.F.Files.holds c.args.files.now) (command_of c.args.command) c.in_ok-inputs.inputs.bytes c.in_ok-inputs.inputs.text c.in_ok-make.field-0
    c.in_ok-inputs.ensures.whole c.in_ok-make.ensures.makes

-- and so is what refuses it
pub returns-in_err-make-clause-refused : goal.returns-in_err-make-clause-refused
returns-in_err-make-clause-refused g c =
    let fault = c.in_err-make.field-0.0 in
    let p = err_from_is_err_and c.from_residual-in_err-make.result c.from_residual-in_err-make.ensures.1 in
    rw (p.1, p.2)
    (inputs_stop (command_of c.args.command) (g.F.Files.holds c.args.files.now) c.in_ok-inputs.inputs.bytes c.in_ok-inputs.inputs.text fault
    c.in_ok-inputs.ensures.whole c.in_err-make.ensures.refused)
