-- The constants of an instruction of 1.0 that holds code are in range where those of its code are; and the numbers of a typed
-- module are where its constants are.
use Rattle.std.proofs.Common.{◌≡◌, ◌≤◌, ◌^◌, Bool, true, ◌&&◌, List, [], ◌∷◌, ◌++◌, map, filter_map, Option, Some, None, refl, ap, ◌∙◌}
use Rattle.std.specs.List.{AllByRecursion, cons_option}
use Rattle.core1_ast.specs.Spaces.{memory_import}
use Rattle.core1_ast.specs.Typing.{Typed1, TypedImport, TypedMemory}
use Rattle.core1_ast.specs.declared.module.ty.BlockType1.{BlockType1}
use Rattle.core1_ast.specs.declared.module.ty.Limits1.{Limits1}
use Rattle.core1_ast.specs.declared.module.code.Instr1.{Instr1, out-Instr1}
use Rattle.core1_ast.specs.declared.module.code.Instr1.TheOpen.{Instr1-F}
use Rattle.core1_ast.specs.declared.module.code.Instr1.TheFolds.{map-Instr1, fold_out-Instr1}
use Rattle.core1_ast.specs.declared.module.code.Instr1.TheVariants as instrs1
use Rattle.core1_ast.specs.declared.module.code.Instr1.TheViews as views
use Rattle.core1_ast.specs.declared.module.parts.Import1.{Import1}
use Rattle.core1_ast.specs.declared.module.parts.ImportDesc1.{ImportDesc1}
use Rattle.core1_ast.specs.declared.module.parts.ImportDesc1.TheVariants as imports1
use Rattle.core1_ast.specs.declared.module.parts.Module1.{Module1}
use Rattle.ranges_core1.specs.Ranges.{range_step, is_in_range, are_in_range, all_true, CodeInRange, NumbersInRange}
use Rattle.pass_cross.specs.Short.{ConstantsInRange}

code_mapped : (code : List Instr1) → all_true (map is_in_range code) ≡ are_in_range code
code_mapped [] = refl
code_mapped (i ∷ code) = ap (λ b. is_in_range i && b) (code_mapped code)

at_layer : (i : Instr1) (l : Instr1-F Instr1) → out-Instr1 i ≡ l → is_in_range i ≡ range_step (map-Instr1 Instr1 Bool is_in_range l)
at_layer i l e = fold_out-Instr1 Bool range_step i ∙ ap (λ x. range_step (map-Instr1 Instr1 Bool is_in_range x)) e

pub range_block : (i : Instr1) (t : BlockType1) (code : List Instr1) → i ≡ instrs1.Block t code → CodeInRange code → is_in_range i ≡ true
range_block i t code e h = at_layer i (Instr1-F.Block t code) (ap out-Instr1 e ∙ views.outs-Block t code) ∙ code_mapped code ∙ h

pub range_loop : (i : Instr1) (t : BlockType1) (code : List Instr1) → i ≡ instrs1.Loop t code → CodeInRange code → is_in_range i ≡ true
range_loop i t code e h = at_layer i (Instr1-F.Loop t code) (ap out-Instr1 e ∙ views.outs-Loop t code) ∙ code_mapped code ∙ h

pub range_if : (i : Instr1) (t : BlockType1) (first second : List Instr1) → i ≡ instrs1.If t first second → CodeInRange first → CodeInRange second → is_in_range i ≡ true
range_if i t first second e h k =
    at_layer i (Instr1-F.If t first second) (ap out-Instr1 e ∙ views.outs-If t first second)
    ∙ ap (λ b. b && all_true (map is_in_range second)) (code_mapped first ∙ h) ∙ (code_mapped second ∙ k)

-- the least sizes of memories, imported and own
abbrev IsSmall : Limits1 → Type 0
IsSmall l = l.min ≤ 2 ^ 16

small_import : (m : Module1) (desc : ImportDesc1) (rest : List Limits1) → TypedImport m desc → AllByRecursion IsSmall rest → AllByRecursion IsSmall (cons_option (memory_import desc) rest)
small_import m (imports1.Memory l) rest h g = (h.least, g)
small_import m (imports1.Func t) rest h g = g
small_import m (imports1.Table l) rest h g = g
small_import m (imports1.Global t mutable) rest h g = g

small_imports : (m : Module1) (imports : List Import1) (rest : List Limits1) → AllByRecursion (λ i. TypedImport m i.desc) imports → AllByRecursion IsSmall rest → AllByRecursion IsSmall (filter_map (λ i. memory_import i.desc) imports ++ rest)
small_imports m [] rest h g = g
small_imports m (i ∷ imports) rest h g = front (memory_import i.desc) (small_import m i.desc [] h.0 tt) (small_imports m imports rest h.1 g)
  where
    front : (o : Option Limits1) → AllByRecursion IsSmall (cons_option o []) → AllByRecursion IsSmall (filter_map (λ j. memory_import j.desc) imports ++ rest) → AllByRecursion IsSmall (cons_option o (filter_map (λ j. memory_import j.desc) imports) ++ rest)
    front None a b = b
    front (Some l) a b = (a.0, b)

small_own : (ls : List Limits1) → AllByRecursion TypedMemory ls → AllByRecursion IsSmall ls
small_own [] h = tt
small_own (l ∷ ls) h = (h.0.least, small_own ls h.1)

pub numbers_in_range : (m : Module1) → Typed1 m → ConstantsInRange m → NumbersInRange m
numbers_in_range m typed h = record {
  codes = h.codes;
  globals = h.globals;
  elems = h.elems;
  datas = h.datas;
  memories = small_imports m m.imports m.memories typed.imports (small_own m.memories typed.memories);
}
