use Rattle.std.proofs.Common.{Ok, Err}
use Rattle.valid_core1.proofs.Unique.{only_answer}
use Rattle.valid_core1.proofs.validate.validate1.Goals as goal

pub returns-in-Ok-clause-only : goal.returns-in-Ok-clause-only
returns-in-Ok-clause-only c = λ other h. only_answer c.args.m.now (Ok c.new.result) other (c.new.ensures, c.in-Ok.ensures) h

pub returns-in-Err-clause-only : goal.returns-in-Err-clause-only
returns-in-Err-clause-only c = λ other h. only_answer c.args.m.now (Err c.in-Err.fault) other c.in-Err.ensures h
