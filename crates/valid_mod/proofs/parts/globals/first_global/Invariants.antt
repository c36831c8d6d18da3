use Rattle.std.proofs.Common.{◌≡◌, ℕ, ◌<◌}
use Rattle.typed_trees.specs.Modules.{early_context}
use Rattle.valid_new.specs.Scopes.{spaces_context}
use Rattle.valid_mod.specs.Parts.{PartTyped, Globals, globals_before}
use Rattle.valid_mod.proofs.parts.globals.first_global.Given as goal

abbrev pub invariant-loop-place : goal.invariant-loop-place
invariant-loop-place l = record {
  typed : (k : ℕ) → k < l.place → PartTyped l.m Globals k;
  spaces : spaces_context l.spaces ≡ early_context l.m (globals_before l.m l.place);
}
