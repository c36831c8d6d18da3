-- Whether an instruction of 1.0 has short lists inside is read off its code.
use Rattle.std.proofs.Common.{◌≡◌, Bool, true, ◌&&◌, nat_lt, ◌^◌, List, map, refl, ap, ◌∙◌}
use Rattle.std.specs.List.{list_all}
use Rattle.std.proofs.lemmas.List.{length-map}
use Rattle.core1_ast.specs.declared.module.code.Instr1.{Instr1, out-Instr1}
use Rattle.core1_ast.specs.declared.module.code.Instr1.TheOpen.{Instr1-F}
use Rattle.core1_ast.specs.declared.module.code.Instr1.TheFolds.{map-Instr1, fold_out-Instr1}
use Rattle.core1_ast.specs.declared.module.ty.BlockType1.{BlockType1}
use Rattle.core1_ast.specs.declared.module.code.Instr1.TheVariants as instrs1
use Rattle.core1_ast.specs.declared.module.code.Instr1.TheViews as views
use Rattle.pass_cross.specs.Short.{is_short, is_short_body, short_step, is_short_inside, own_code}
use Rattle.pass_cross.proofs.Trees.{all_mapped}

-- by the code itself
abbrev pub own_step : Instr1-F Instr1 → Bool
own_step (Instr1-F.Block t code) = own_code code
own_step (Instr1-F.Loop t code) = own_code code
own_step (Instr1-F.If t first second) = own_code first && own_code second
own_step (Instr1-F.BrTable labels last) = is_short labels
own_step _ = true

own_body : (code : List Instr1) → is_short_body (map is_short_inside code) ≡ own_code code
own_body code =
    ap (λ n. nat_lt n (2 ^ 32) && list_all (λ b. b) (map is_short_inside code)) (length-map code is_short_inside) ∙ ap (λ b. is_short code && b) (all_mapped code)

step_same : (l : Instr1-F Instr1) → short_step (map-Instr1 Instr1 Bool is_short_inside l) ≡ own_step l
step_same (Instr1-F.Block t code) = own_body code
step_same (Instr1-F.Loop t code) = own_body code
step_same (Instr1-F.If t first second) = ap (λ b. b && is_short_body (map is_short_inside second)) (own_body first) ∙ ap (λ b. own_code first && b) (own_body second)
step_same l = refl

pub inside_out : (i : Instr1) → is_short_inside i ≡ own_step (out-Instr1 i)
inside_out i = fold_out-Instr1 Bool short_step i ∙ step_same (out-Instr1 i)

at_layer : (i : Instr1) (l : Instr1-F Instr1) → out-Instr1 i ≡ l → is_short_inside i ≡ own_step l
at_layer i l e = inside_out i ∙ ap own_step e

pub short_block : (i : Instr1) (t : BlockType1) (code : List Instr1) → i ≡ instrs1.Block t code → is_short_inside i ≡ own_code code
short_block i t code e = at_layer i (Instr1-F.Block t code) (ap out-Instr1 e ∙ views.outs-Block t code)

pub short_loop : (i : Instr1) (t : BlockType1) (code : List Instr1) → i ≡ instrs1.Loop t code → is_short_inside i ≡ own_code code
short_loop i t code e = at_layer i (Instr1-F.Loop t code) (ap out-Instr1 e ∙ views.outs-Loop t code)

pub short_if : (i : Instr1) (t : BlockType1) (first second : List Instr1) → i ≡ instrs1.If t first second → is_short_inside i ≡ (own_code first && own_code second)
short_if i t first second e = at_layer i (Instr1-F.If t first second) (ap out-Instr1 e ∙ views.outs-If t first second)
