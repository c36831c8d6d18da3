use Rattle.std.proofs.Common.{◌≡◌, ℕ, ◌++◌, sym, ap, ◌∙◌, arith}
use Rattle.host_kit.specs.Trace.{seen}
use Rattle.headline.specs.Distinct.{extending, one_call}
use Rattle.headline.specs.Headline.{safe}
use Rattle.headline.specs.Unmapping.{unmap}
use Rattle.headline.proofs.ToldApart.{call_fits, extending_is_direct, extending_extends, returning_returns}
use Rattle.headline.proofs.results_are_told_apart.Goals as goal

-- one turn shows the two results
pub returns : goal.returns
returns c = λ same.
    let shown = (same.under one_call call_fits).direct extending_is_direct 1 in
    let both = ap (λ marks. seen (safe extending 4096 marks) ++ shown.0) (sym extending_extends) ∙ shown.1 ∙ ap (λ marks. unmap extending one_call (seen marks)) returning_returns in
    let numbers : ◌≡◌ {A = ℕ} 4294967168 128 = cc both in
    let no : ⊥ = omega (arith, numbers) in no
