use Rattle.std.proofs.Common.{◌≡◌, Some, slice_get, get_or, length, ap, ◌∙◌, refl, arith, below_more}
use Rattle.std.proofs.lemmas.Option.{slice_get_read}
use Rattle.valid_mod.proofs.Deciding.{decided_yes, decided_no}
use Rattle.valid_mod.proofs.Names.{no_names, more_names, name_is_new, export_typed, export_untyped}
use Rattle.valid_mod.proofs.parts.exports.first_export.Goals as goal
use Rattle.valid_mod.proofs.parts.exports.first_export.Goals.{After-is_in_range}

-- the export of this turn
here : (c : After-is_in_range) → slice_get c.args.m.now.exports c.loop-place.place ≡ Some c.export-item.result
here c = slice_get_read c.args.m.now.exports (length c.args.m.now.exports) c.loop-place.place c.export-item.result refl
    (omega (arith, ap length c.as_slice-export-items.ensures))
    (c.export-item.is ∙ ap (λ l. get_or l c.loop-place.place c.export-item.result) c.as_slice-export-items.ensures)

pub loop-place-init : goal.loop-place-init
loop-place-init c = record { typed = λ k h. absurd (omega arith); names = no_names _ _ c.new-names.ensures.empty }

pub returns-then-not-is_in_range : goal.returns-then-not-is_in_range
returns-then-not-is_in_range c = (
  omega (arith, ap length c.as_slice-export-items.ensures),
  c.loop-place.invariant.typed,
  export_untyped c.args.m.now c.loop-place.place c.export-item.result (here (goal.at.returns-then-not-is_in_range c).After-is_in_range) (λ d n. decided_no c.is_in_range.result _ c.is_in_range.ensures c.if-not-is_in_range.true d),
)

pub loop-place-preserved : goal.loop-place-preserved
loop-place-preserved c =
    let at = here (goal.at.loop-place-preserved c).After-is_in_range in
    record {
      typed = below_more _ _ c.loop-place.invariant.typed
          (export_typed c.args.m.now c.loop-place.place c.export-item.result at (decided_yes c.is_in_range.result _ c.is_in_range.ensures c.if-not-is_in_range.false)
          (name_is_new c.loop-place.names c.args.m.now.exports c.loop-place.place c.export-item.result c.as_str.result c.in_ok-insert.field-0 c.as_str.ensures.bytes c.loop-place.invariant.names c.in_ok-insert.ensures.added c.if-not-branch.false));
      names = more_names c.loop-place.names c.insert.new.self c.args.m.now.exports c.loop-place.place c.export-item.result c.as_str.result at c.as_str.ensures.bytes c.loop-place.invariant.names c.in_ok-insert.ensures.updates;
    }
