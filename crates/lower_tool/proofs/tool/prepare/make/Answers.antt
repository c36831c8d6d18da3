use Rattle.std.proofs.Common.{List, ℕ, subst}
use Rattle.std.proofs.lemmas.Result.{err_from_is_err_and}
use Rattle.lower_tool.specs.Lowering.{Lowers}
use Rattle.lower_tool.proofs.tool.prepare.make.Goals as goal

pub returns-in_err-lower_bytes-in-Lower-clause-refused :
    goal.returns-in_err-lower_bytes-in-Lower-clause-refused
returns-in_err-lower_bytes-in-Lower-clause-refused c =
    let p = err_from_is_err_and c.from_residual.result c.from_residual.ensures.1 in
    rw (c.in-Lower.is, p.1, p.2) c.in_err-lower_bytes-in-Lower.ensures.refused

pub returns-in-Lower-clause-makes : goal.returns-in-Lower-clause-makes
returns-in-Lower-clause-makes c =
    let lowered = c.in_ok-lower_bytes-in-Lower in
    rw c.in-Lower.is (
      lowered.ensures.fine,
      subst (λ (n : ℕ). Lowers n c.args.inputs.bytes lowered.field-0) c.captures_of-captures.ensures.captures lowered.ensures.lowered,
    )
