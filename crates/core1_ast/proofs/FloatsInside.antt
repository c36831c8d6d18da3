-- An instruction has a float by itself or in the code that it holds.
use Rattle.std.proofs.Common.{◌≡◌, Bool, ◌||◌, List, [], ◌∷◌, ◌++◌, map, refl, sym, ap, ap₂, ◌∙◌}
use Rattle.std.specs.List.{list_any}
use Rattle.std.proofs.lemmas.List.Folds.{list_any-append}
use Rattle.core1_ast.specs.Floats.{shows_float, inside, float_step, instr_has_float, code_has_float}
use Rattle.core1_ast.specs.declared.module.code.Instr1.{Instr1, out-Instr1}
use Rattle.core1_ast.specs.declared.module.code.Instr1.TheOpen.{Instr1-F}
use Rattle.core1_ast.specs.declared.module.code.Instr1.TheFolds.{map-Instr1, fold_out-Instr1}

map_append : (xs ys : List Instr1) → map instr_has_float (xs ++ ys) ≡ map instr_has_float xs ++ map instr_has_float ys
map_append [] ys = refl
map_append (x ∷ xs) ys = ap (λ l. instr_has_float x ∷ l) (map_append xs ys)

any_map : (code : List Instr1) → list_any (λ b. b) (map instr_has_float code) ≡ code_has_float code
any_map [] = refl
any_map (i ∷ code) = ap (λ b. instr_has_float i || b) (any_map code)

abbrev float_map : Instr1-F Instr1 → Instr1-F Bool
float_map i = map-Instr1 Instr1 Bool instr_has_float i

shows_map : (i : Instr1-F Instr1) → shows_float (float_map i) ≡ shows_float i
shows_map (Instr1-F.Block t code) = refl
shows_map (Instr1-F.Loop t code) = refl
shows_map (Instr1-F.If t first second) = refl
shows_map (Instr1-F.Float code immediates) = refl
shows_map _ = refl

inside_map : (i : Instr1-F Instr1) → inside (float_map i) ≡ map instr_has_float (inside i)
inside_map (Instr1-F.If t first second) = sym (map_append first second)
inside_map _ = refl

pub float_out : (i : Instr1) → instr_has_float i ≡ (shows_float (out-Instr1 i) || code_has_float (inside (out-Instr1 i)))
float_out i =
    fold_out-Instr1 Bool float_step i
    ∙ ap₂ ◌||◌ (shows_map (out-Instr1 i)) (ap (list_any (λ b. b)) (inside_map (out-Instr1 i)) ∙ any_map (inside (out-Instr1 i)))

-- two pieces of code in a row
pub code_append : (xs ys : List Instr1) → code_has_float (xs ++ ys) ≡ (code_has_float xs || code_has_float ys)
code_append xs ys = list_any-append instr_has_float xs ys
