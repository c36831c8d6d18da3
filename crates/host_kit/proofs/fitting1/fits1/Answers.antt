use Rattle.std.proofs.Common.{Bool, Decides, sym, subst}
use Rattle.host_kit.specs.Fits1.{ScriptFits1}
use Rattle.host_kit.proofs.Decided1.{script}
use Rattle.host_kit.proofs.fitting1.fits1.Goals as goal

pub returns : goal.returns
returns c =
    let P : Bool → Type 0 = λ b. Decides b (ScriptFits1 c.args.m.now c.args.s.now) in
    subst P (sym c.script_fits.ensures) (script c.args.m.now c.args.s.now)
