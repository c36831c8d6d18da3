-- Element and data segments: chapter 5 of the standard, "Element Section" and "Data Section". The flag in front is read
-- as bits. The lowest tells an active segment, 0, from the others. The next tells of an active segment that a table or
-- a memory is named, and of the others a declarative segment. The third tells that an element segment has a type and
-- expressions for entries, and no function indices.
use Rattle.std.specs.Prelude.{ℕ, List, [], ◌∷◌, ◌==◌, ◌||◌, nat_lt}
use Rattle.wasm_ast.specs.declared.module.ty.Ty.{Ty}
use Rattle.wasm_ast.specs.declared.module.ty.Ty.TheVariants.{Func}
use Rattle.wasm_ast.specs.declared.module.code.Instr.{Instr}
use Rattle.wasm_ast.specs.declared.module.code.Instr.TheVariants.{Pure}
use Rattle.wasm_ast.specs.declared.module.op.Op.TheVariants.{RefFunc}
use Rattle.wasm_ast.specs.declared.module.parts.Mode.{Mode}
use Rattle.wasm_ast.specs.declared.module.parts.Mode.TheVariants.{Active, Passive, Declarative}
use Rattle.wasm_ast.specs.declared.module.parts.Element.{Element}
use Rattle.wasm_ast.specs.declared.module.parts.Segment.{Segment}
use Rattle.grammar_kit.specs.Form.{Form, never, always, byte, when, ◌>>=◌, vector}
use Rattle.wasm_frame.specs.Leb128.{u32}
use Rattle.wasm_frame.specs.Name.{byte_vector}
use Rattle.code_new.specs.Types.{ref_type}
use Rattle.code_new.specs.Code.{expr}

-- how a segment is used, by its flag; the table or memory is the first one where none is named
unfoldable pub mode : ℕ → Form Mode
mode flag =
    when (flag == 0 || flag == 4) (expr >>= λ o. always (Active 0 o))
    (when (flag == 2 || flag == 6) (u32 >>= λ x. expr >>= λ o. always (Active x o))
    (when (flag == 1 || flag == 5) (always Passive)
    (when (flag == 3 || flag == 7) (always Declarative) never)))

-- a function index stands for the expression that refers to the function
unfoldable pub index : Form (List Instr)
index = u32 >>= λ f. always (Pure (RefFunc f) ∷ [])

-- the type of the entries of an element segment, by its flag: that of functions where none is named, or the byte 00
unfoldable pub items_type : ℕ → Form Ty
items_type flag =
    when (flag == 0 || flag == 4) (always Func)
    (when (nat_lt flag 4) (byte >>= λ kind. when (kind == 0x00) (always Func) never) ref_type)

-- the entries of an element segment, by its flag
unfoldable pub entries : ℕ → Form (List (List Instr))
entries flag = when (nat_lt flag 4) (vector u32 index) (vector u32 expr)

-- "Element Section"
unfoldable pub element : Form Element
element = u32 >>= λ flag. mode flag >>= λ how. items_type flag >>= λ t. entries flag >>= λ codes. always (record { mode = how; ty = t; items = codes })

-- "Data Section"
unfoldable pub segment : Form Segment
segment = u32 >>= λ flag. when (nat_lt flag 3) (mode flag >>= λ how. byte_vector >>= λ bytes. always (record { mode = how; bytes = bytes })) never
