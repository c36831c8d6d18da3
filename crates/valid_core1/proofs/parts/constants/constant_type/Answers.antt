use Rattle.std.proofs.Common.{◌≡◌, ℕ, zero, suc, List, [], ◌∷◌, map, slice_get, refl, ap, sym, ◌∙◌}
use Rattle.std.specs.Option.{option_map}
use Rattle.core1_ast.specs.declared.module.code.Instr1.{out-Instr1}
use Rattle.core1_ast.specs.declared.module.code.Instr1.TheViews.{outs-GlobalGet}
use Rattle.valid_core1.specs.declared.spaces.GlobalTy.{GlobalTy}
use Rattle.valid_core1.specs.Constants.{constant_type, fixed_type}
use Rattle.valid_core1.specs.Scopes.{global_type}
use Rattle.valid_core1.proofs.parts.constants.constant_type.Goals as goal

mapped_at : (xs : List GlobalTy) (k : ℕ) → option_map global_type (slice_get xs k) ≡ slice_get (map global_type xs) k
mapped_at [] k = refl
mapped_at (x ∷ xs) zero = refl
mapped_at (x ∷ xs) (suc k) = mapped_at xs k

pub returns-in-GlobalGet : goal.returns-in-GlobalGet
returns-in-GlobalGet c =
    c.fixed.ensures
    ∙ ap (λ o. fixed_type (option_map global_type o)) (c.copied.ensures ∙ c.at.ensures)
    ∙ ap fixed_type (mapped_at c.args.globals.now c.in-GlobalGet.index)
    ∙ sym (ap (constant_type (map global_type c.args.globals.now)) (ap out-Instr1 c.in-GlobalGet.is ∙ outs-GlobalGet c.in-GlobalGet.index))
