use Rattle.std.proofs.Common.{◌≡◌, Some, slice_get, get_or, length, ap, ◌∙◌, refl, arith, below_more}
use Rattle.std.proofs.lemmas.Option.{slice_get_read}
use Rattle.typed_trees.specs.Contexts.{Context}
use Rattle.valid_new.specs.Scopes.{spaces_context}
use Rattle.valid_mod.specs.Parts.{globals_before}
use Rattle.valid_mod.proofs.Constants.{global_at, more_globals}
use Rattle.valid_mod.proofs.Deciding.{decided_yes}
use Rattle.valid_mod.proofs.parts.globals.first_global.Goals as goal

pub loop-place-preserved : goal.loop-place-preserved
loop-place-preserved c =
    let m = c.args.m.now in
    let s = c.loop-place.spaces in
    let k = c.loop-place.place in
    let g = c.global-item.result in
    let at : slice_get m.globals k ≡ Some g =
    slice_get_read m.globals (length m.globals) k g refl (omega (arith, ap length c.as_slice-global-items.ensures)) (c.global-item.is ∙ ap (λ l. get_or l k g) c.as_slice-global-items.ensures) in
    record {
      typed = below_more _ _ c.loop-place.invariant.typed
          (global_at m k g at (decided_yes c.in_ok-global_is_typed.field-0 _ (c.in_ok-global_is_typed.ensures m (globals_before m k) c.loop-place.invariant.spaces) c.if-not-branch.false));
      spaces = more_globals m (spaces_context s) _ k g at c.loop-place.invariant.spaces
          (ap (λ l. let r : Context = record (spaces_context s) { globals = l } in r) c.in_ok-push.ensures.ok);
    }
