-- Where floats occur in a module of 1.0: a float type, or an instruction on floats, code that cannot be reached included.
use Rattle.std.specs.Prelude.{Bool, true, false, ◌||◌, List, [], ◌++◌}
use Rattle.std.specs.List.{list_any}
use Rattle.core1_ast.specs.declared.module.ty.Ty1.{Ty1}
use Rattle.core1_ast.specs.declared.module.ty.Ty1.TheVariants.{F32, F64}
use Rattle.core1_ast.specs.declared.module.ty.FuncType1.{FuncType1}
use Rattle.core1_ast.specs.declared.module.ty.BlockType1.{BlockType1}
use Rattle.core1_ast.specs.declared.module.ty.BlockType1.TheVariants.{Empty, One}
use Rattle.core1_ast.specs.declared.module.code.Body1.{Body1}
use Rattle.core1_ast.specs.declared.module.code.Instr1.{Instr1}
use Rattle.core1_ast.specs.declared.module.code.Instr1.TheOpen.{Instr1-F}
use Rattle.core1_ast.specs.declared.module.code.Instr1.TheFolds.{fold-Instr1}
use Rattle.core1_ast.specs.declared.module.parts.ImportDesc1.{ImportDesc1}
use Rattle.core1_ast.specs.declared.module.parts.ImportDesc1.TheVariants.{Global}
use Rattle.core1_ast.specs.declared.module.parts.Module1.{Module1}

abbrev pub is_float : Ty1 → Bool
is_float F32 = true
is_float F64 = true
is_float _ = false

abbrev pub some_float : List Ty1 → Bool
some_float types = list_any is_float types

abbrev pub type_has_float : FuncType1 → Bool
type_has_float t = some_float t.params || some_float t.results

abbrev pub import_has_float : ImportDesc1 → Bool
import_has_float (Global t mutable) = is_float t
import_has_float _ = false

abbrev pub block_has_float : BlockType1 → Bool
block_has_float Empty = false
block_has_float (One t) = is_float t

-- an instruction on floats, or one that holds code with a float as its result
abbrev pub shows_float : {A : Type 0} → Instr1-F A → Bool
shows_float (Instr1-F.Float code immediates) = true
shows_float (Instr1-F.Block t code) = block_has_float t
shows_float (Instr1-F.Loop t code) = block_has_float t
shows_float (Instr1-F.If t first second) = block_has_float t
shows_float _ = false

-- what stands in the code that an instruction holds, one level down
abbrev pub inside : {A : Type 0} → Instr1-F A → List A
inside (Instr1-F.Block t code) = code
inside (Instr1-F.Loop t code) = code
inside (Instr1-F.If t first second) = first ++ second
inside _ = []

-- the instruction, or one in the code that it holds
abbrev pub float_step : Instr1-F Bool → Bool
float_step i = shows_float i || list_any (λ b. b) (inside i)

abbrev pub instr_has_float : Instr1 → Bool
instr_has_float = fold-Instr1 Bool float_step

abbrev pub code_has_float : List Instr1 → Bool
code_has_float code = list_any instr_has_float code

abbrev pub body_has_float : Body1 → Bool
body_has_float body = some_float body.locals || code_has_float body.code

-- function types, imported globals, globals with their initial values, offsets of segments, locals and code
abbrev pub has_floats : Module1 → Bool
has_floats m =
    list_any type_has_float m.types
    || list_any (λ i. import_has_float i.desc) m.imports
    || list_any (λ g. is_float g.ty || code_has_float g.init) m.globals
    || list_any (λ e. code_has_float e.offset) m.elems
    || list_any body_has_float m.codes
    || list_any (λ s. code_has_float s.offset) m.datas
