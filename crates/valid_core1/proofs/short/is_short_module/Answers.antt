use Rattle.std.proofs.Common.{sym, ◌∙◌}
use Rattle.core1_ast.specs.Lengths.{IsShort, IsShortType, IsShortImport, IsShortElement, IsShortBody, IsShortSegment}
use Rattle.valid_core1.proofs.Shortness.{none_found, none_is, short_module}
use Rattle.valid_core1.proofs.short.is_short_module.Goals as goal

pub returns : goal.returns
returns c = λ e. (
    let m = c.args.m.now in
    short_module m (sym c.lists_are_short.ensures ∙ c.if-not-lists_are_short.false)
    (none_found IsShortType m.types _ c.first_untyped.result c.is_some.result c.as_slice.ensures c.first_untyped.ensures c.is_some.ensures c.if-is_some.false)
    (none_found IsShortImport m.imports _ c.first_untyped-2.result c.is_some-2.result c.as_slice-2.ensures c.first_untyped-2.ensures c.is_some-2.ensures c.if-is_some-2.false)
    (none_found (λ g. IsShort g.init) m.globals _ c.first_untyped-3.result c.is_some-3.result c.as_slice-3.ensures c.first_untyped-3.ensures c.is_some-3.ensures c.if-is_some-3.false)
    (none_found (λ e. IsShort e.name) m.exports _ c.first_untyped-4.result c.is_some-4.result c.as_slice-4.ensures c.first_untyped-4.ensures c.is_some-4.ensures c.if-is_some-4.false)
    (none_found IsShortElement m.elems _ c.first_untyped-5.result c.is_some-5.result c.as_slice-5.ensures c.first_untyped-5.ensures c.is_some-5.ensures c.if-is_some-5.false)
    (none_found IsShortBody m.codes _ c.first_untyped-6.result c.is_some-6.result c.as_slice-6.ensures c.first_untyped-6.ensures c.is_some-6.ensures c.if-is_some-6.false)
    (none_is IsShortSegment m.datas _ c.first_untyped-7.result c.is_none.result c.as_slice-7.ensures c.first_untyped-7.ensures c.is_none.ensures e))
