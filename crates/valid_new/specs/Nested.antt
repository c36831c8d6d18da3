-- Instructions that hold code, as they are typed.
use Rattle.std.specs.Prelude.{◌≡◌, Bool, true, false, List, [], ◌∷◌, ◌++◌, Option, Some, None}
use Rattle.std.specs.Borrow.{Bor}
use Rattle.wasm_ast.specs.declared.module.ty.Ty.{Ty}
use Rattle.wasm_ast.specs.declared.module.ty.Ty.TheVariants.{Exn}
use Rattle.wasm_ast.specs.declared.module.ty.FuncType.{FuncType}
use Rattle.wasm_ast.specs.declared.module.code.Instr.{Instr}
use Rattle.wasm_ast.specs.declared.module.code.Instr.TheOpen.{Instr-F}
use Rattle.typing_kit.specs.Form.{Untyped, Block, Choice}
use Rattle.typed_trees.specs.Contexts.{Context}
use Rattle.typed_trees.specs.Forms.{InstrForm, form}
use Rattle.valid_new.specs.declared.nested.BlockShape.{BlockShape}
use Rattle.valid_new.specs.declared.nested.Nested.{Nested}

abbrev pub shape_of : BlockShape → FuncType
shape_of s = record { params = s.takes.now; results = s.gives.now }

-- block, loop, if and try_table
abbrev pub holds_code : {A : Type 0} → Instr-F A → Bool
holds_code (Instr-F.Block type code) = true
holds_code (Instr-F.Loop type code) = true
holds_code (Instr-F.If type first second) = true
holds_code (Instr-F.TryTable type clauses code) = true
holds_code _ = false

-- what a clause hands on: types, and an exception above them or not
abbrev pub handed : List Ty → Bool → List Ty
handed ts true = ts ++ Exn ∷ []
handed ts false = ts

-- the form of an instruction that holds code, with one arm or two
abbrev pub nested_form : Nested → Option (Bor (List Instr)) → InstrForm
nested_form n None = Block n.label.now n.takes.now n.gives.now n.first.now
nested_form n (Some second) = Choice n.label.now n.takes.now n.gives.now n.first.now second.now

-- the form of the instruction, or that it is untyped
abbrev pub NestedIs : Context → List (List Ty) → Instr → Option Nested → Type 0
NestedIs c ls i None = form c ls i ≡ Untyped
NestedIs c ls i (Some n) = form c ls i ≡ nested_form n n.second
