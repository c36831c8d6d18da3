use Rattle.std.proofs.Common.{◌≡◌, Ok, List, ℕ, subst}
use Rattle.read_new.specs.Spells.{three}
use Rattle.module_reading.specs.Reads.{Reads}
use Rattle.lower_tool.proofs.Refusals.{lower_refused, lower_fine, lowers_bytes}
use Rattle.lower_tool.proofs.lowering.lower_bytes.Goals as goal

pub returns-clause-lowered : goal.returns-clause-lowered
returns-clause-lowered c =
    let source = c.in_ok-source.source in
    lowers_bytes c.args.bytes source c.args.captures c.lower_source.result
    (subst (λ (b : List ℕ). Reads three b (Ok source)) c.as_slice.ensures c.in_ok-source.ensures.tells) c.lower_source.ensures.lowered

pub returns-clause-fine : goal.returns-clause-fine
returns-clause-fine c =
    let source = c.in_ok-source.source in
    lower_fine c.args.bytes source c.lower_source.result c.requires.limit
    (subst (λ (b : List ℕ). Reads three b (Ok source)) c.as_slice.ensures c.in_ok-source.ensures.tells) c.lower_source.ensures.fine

pub returns-clause-refused : goal.returns-clause-refused
returns-clause-refused c =
    let source = c.in_ok-source.source in
    lower_refused c.args.bytes source c.lower_source.result c.requires.limit
    (subst (λ (b : List ℕ). Reads three b (Ok source)) c.as_slice.ensures c.in_ok-source.ensures.tells) c.lower_source.ensures.refused
