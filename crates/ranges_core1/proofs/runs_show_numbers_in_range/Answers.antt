use Rattle.ranges_core1.proofs.Whole.{shows_numbers_in_range}
use Rattle.ranges_core1.proofs.runs_show_numbers_in_range.Goals as goal

pub returns : goal.returns
returns c = λ m s numbers fits n. shows_numbers_in_range m s numbers fits n
