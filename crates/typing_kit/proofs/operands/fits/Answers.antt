use Rattle.std.proofs.Common.{ap, ◌∙◌, sym, drop, take, reverse, arith, length, ◌≡◌, ◌-◌}
use Rattle.std.proofs.lemmas.List.{length-drop}
use Rattle.typing_kit.specs.Stack.{Stack, fit}
use Rattle.typing_kit.proofs.Lists.{reversed_rest}
use Rattle.typing_kit.proofs.operands.fits.Goals as goal

pub returns : goal.returns
returns g c =
    let s = c.operands.inside in
    let len = s.items.ok.0 in
    let ts = reverse c.args.wanted.now in
    let count : c.len-2.result - c.min.result - s.base ≡ length (drop s.base s.items.items) - c.args.skip = omega (arith, length-drop s.base s.items.items) in
    c.fit.ensures
    ∙ ap (λ xs. fit g.V.ValueTypes.sub s.dead (reverse (take (c.len-2.result - c.min.result - s.base) (drop s.base xs))) ts) c.deref.ensures.value
    ∙ ap (λ n. fit g.V.ValueTypes.sub s.dead (reverse (take n (drop s.base s.items.items))) ts) count
    ∙ ap (λ xs. fit g.V.ValueTypes.sub s.dead xs ts) (sym (reversed_rest c.args.skip (drop s.base s.items.items)))
    ∙ ap (λ (v : Stack _). fit g.V.ValueTypes.sub v.dead (drop c.args.skip v.top) ts) c.operands.view_is
