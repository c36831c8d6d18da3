use Rattle.std.proofs.Common.{ap, ◌∙◌, sym, ◌&&◌, drop, reverse}
use Rattle.typing_kit.specs.Stack.{fit}
use Rattle.typing_kit.specs.Steps.{with_top}
use Rattle.typing_kit.proofs.Fitting.{fit_under}
use Rattle.typing_kit.proofs.steps.fits_under.Goals as goal

pub returns-then-fits_top : goal.returns-then-fits_top
returns-then-fits_top g c =
    let sub = g.V.ValueTypes.sub in
    let s = c.args.operands.now in
    let ts = c.args.wanted.now in
    let t = c.in-Some.condition in
    let rest = fit sub s.dead (drop 1 s.top) (reverse ts) in
    c.fits.ensures
    ∙ ap (λ b. b && rest) (sym c.if-fits_top.true ∙ c.fits_top.ensures)
    ∙ sym (fit_under sub s.dead s.top t ts)
    ∙ ap (λ o. fit sub s.dead s.top (reverse (with_top ts o))) (sym c.in-Some.is)
