-- That the lists inside instructions of 1.0 are short ("Vectors" of chapter 2 of 1.0), as a test; and that the constants of a
-- module are in range.
use Rattle.std.specs.Prelude.{◌≡◌, Bool, true, ◌&&◌, ◌^◌, nat_lt, List, length}
use Rattle.std.specs.List.{AllByRecursion, list_all}
use Rattle.core1_ast.specs.declared.module.code.Instr1.{Instr1}
use Rattle.core1_ast.specs.declared.module.code.Instr1.TheOpen.{Instr1-F}
use Rattle.core1_ast.specs.declared.module.code.Instr1.TheFolds.{fold-Instr1}
use Rattle.core1_ast.specs.declared.module.parts.Module1.{Module1}
use Rattle.core1_ast.specs.Lengths.{IsShort, IsShortModule}
use Rattle.ranges_core1.specs.Ranges.{CodeInRange, SegmentInRange}

abbrev pub is_short : {A : Type 0} → List A → Bool
is_short xs = nat_lt (length xs) (2 ^ 32)

-- code inside an instruction
abbrev pub is_short_body : List Bool → Bool
is_short_body code = is_short code && list_all (λ b. b) code

abbrev pub short_step : Instr1-F Bool → Bool
short_step (Instr1-F.Block t code) = is_short_body code
short_step (Instr1-F.Loop t code) = is_short_body code
short_step (Instr1-F.If t first second) = is_short_body first && is_short_body second
short_step (Instr1-F.BrTable labels last) = is_short labels
short_step _ = true

abbrev pub is_short_inside : Instr1 → Bool
is_short_inside = fold-Instr1 Bool short_step

-- the lists inside the instructions of code
abbrev pub are_short_inside : List Instr1 → Bool
are_short_inside code = list_all is_short_inside code

-- code inside an instruction is short, at every depth
abbrev pub own_code : List Instr1 → Bool
own_code code = is_short code && are_short_inside code

-- and those of a module
pub record IsShortThroughout (m : Module1) : Type 0 where
  pub module_lists : IsShortModule m
  pub code : AllByRecursion (λ b. are_short_inside b.code ≡ true) m.codes

-- the lists of the module itself, those inside its items aside
pub record ListsAreShort (m : Module1) : Type 0 where
  pub types : IsShort m.types
  pub imports : IsShort m.imports
  pub funcs : IsShort m.funcs
  pub tables : IsShort m.tables
  pub memories : IsShort m.memories
  pub globals : IsShort m.globals
  pub exports : IsShort m.exports
  pub elems : IsShort m.elems
  pub codes : IsShort m.codes
  pub datas : IsShort m.datas

-- the constants of the module and its bytes lie in the ranges of their types
pub record ConstantsInRange (m : Module1) : Type 0 where
  pub codes : AllByRecursion (λ b. CodeInRange b.code) m.codes
  pub globals : AllByRecursion (λ g. CodeInRange g.init) m.globals
  pub elems : AllByRecursion (λ e. CodeInRange e.offset) m.elems
  pub datas : AllByRecursion SegmentInRange m.datas
