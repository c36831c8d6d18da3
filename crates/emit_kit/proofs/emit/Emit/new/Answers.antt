use Rattle.std.proofs.Common.{sym, ◌∙◌, subst}
use Rattle.emit_kit.specs.FirstTypes.{TellsOfTypes}
use Rattle.emit_kit.proofs.Imports.{imported_funcs, imported_globals}
use Rattle.emit_kit.proofs.emit.Emit.new.Goals as goal

pub invariant_of-result : goal.invariant_of-result
invariant_of-result c = record {
  types = subst (λ ts. TellsOfTypes ts c.in_ok-first_types.first_types) c.as_slice.ensures c.in_ok-first_types.ensures;
  funcs = c.imported_func_count-imported_funcs.ensures ∙ sym (imported_funcs c.args.part);
  globals = c.imported_globals-imported_globals.ensures ∙ sym (imported_globals c.args.part);
}
