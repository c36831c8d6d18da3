use Rattle.opcode_table.proofs.Tables.{load_row, load_alone}
use Rattle.opcode_table.proofs.accesses.load_opcode.Goals as goal

pub returns-clause-row : goal.returns-clause-row
returns-clause-row c = load_row c.args.load

pub returns-clause-alone : goal.returns-clause-alone
returns-clause-alone c opcode h = load_alone opcode c.args.load h
