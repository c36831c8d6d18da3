use Rattle.std.proofs.Common.{◌≡◌, List, [], ◌++◌, ap, refl, sym, ◌∙◌}
use Rattle.host_kit.specs.Trace.{seen}
use Rattle.meaning_core1.specs.Interface.{Imported1}
use Rattle.headline.specs.Distinct.{extending, one_call}
use Rattle.headline.specs.Headline.{safe}
use Rattle.headline.specs.Unmapping.{unmap}
use Rattle.headline.proofs.ToldApart.{call_fits, extending_is_direct, extending_extends, import_unanswered}
use Rattle.headline.proofs.imports_are_told_apart.Goals as goal

pub returns-clause-own : goal.returns-clause-own
returns-clause-own c = refl

pub returns-clause-imported : goal.returns-clause-imported
returns-clause-imported c = λ same. let none : ◌≡◌ {A = List Imported1} _ [] = ap (λ i. i.imports) same in absurd cc

-- one turn shows a result, and a call of the host's
pub returns-clause-called : goal.returns-clause-called
returns-clause-called c = λ same.
    let shown = (same.under one_call call_fits).direct extending_is_direct 1 in
    let both = ap (λ marks. seen (safe extending 4096 marks) ++ shown.0) (sym extending_extends) ∙ shown.1 ∙ ap (λ marks. unmap extending one_call (seen marks)) import_unanswered in
    absurd (cc both)
