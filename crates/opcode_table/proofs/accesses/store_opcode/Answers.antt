use Rattle.opcode_table.proofs.Tables.{store_row, store_alone}
use Rattle.opcode_table.proofs.accesses.store_opcode.Goals as goal

pub returns-clause-row : goal.returns-clause-row
returns-clause-row c = store_row c.args.store

pub returns-clause-alone : goal.returns-clause-alone
returns-clause-alone c opcode h = store_alone opcode c.args.store h
