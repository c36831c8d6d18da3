use Rattle.std.proofs.Common.{ap, ◌∙◌}
use Rattle.read_new.specs.Made.{made}
use Rattle.read_new.proofs.Agreement.{agrees, tested}
use Rattle.read_new.proofs.Told as told
use Rattle.read_new.proofs.three.ThreeModuleFormat.agree.Goals as goal

pub returns : goal.returns
unfolding made
returns c = λ at h.
    let s = c.args.sizes.now in
    let funcs = ap (λ x. x.count) c.of.ensures ∙ (told.funcs at s h).count in
    let segments = ap (λ x. x.count) c.of-2.ensures ∙ (told.segments at s h).count in
    let number = c.number.ensures ∙ told.data_count at s h in (
      λ t. agrees (made at) s.bodies h.bodies c.of.result.count c.of-2.result.count c.number.result funcs segments number (c.agree.ensures.0 t),
      λ a. c.agree.ensures.1 (tested (made at) s.bodies h.bodies c.of.result.count c.of-2.result.count c.number.result funcs segments number a),
    )
