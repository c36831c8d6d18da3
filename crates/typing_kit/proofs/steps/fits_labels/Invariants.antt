use Rattle.std.proofs.Common.{◌≡◌, drop, map}
use Rattle.std.specs.List.{list_all}
use Rattle.typing_kit.specs.Steps.{fit_label}
use Rattle.typing_kit.proofs.steps.fits_labels.Given as goal

abbrev pub invariant-loop-label : goal.invariant-loop-label
invariant-loop-label g l =
    let fits = fit_label g.V.ValueTypes.sub g.V.ValueTypes.of_kind g.V.ValueTypes.condition l.operands.dead (drop 1 l.operands.top) l.count in
    list_all fits (map (λ label. label.now) (drop l.label-index l.labels)) ≡ list_all fits (map (λ label. label.now) l.labels)
