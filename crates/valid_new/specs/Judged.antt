-- Whether an instruction, code and a body are typed, whatever is kept of them.
use Rattle.std.specs.Prelude.{◌≡◌, ℕ, Bool, true, false, List, ◌∷◌, Option, Some, None, slice_get}
use Rattle.std.specs.Borrow.{Bor}
use Rattle.wasm_ast.specs.declared.module.ty.Ty.{Ty}
use Rattle.wasm_ast.specs.declared.module.ty.Ty.TheVariants.{I32}
use Rattle.wasm_ast.specs.declared.module.code.Body.{Body}
use Rattle.wasm_ast.specs.declared.module.code.Instr.{Instr}
use Rattle.wasm_ast.specs.declared.module.parts.Module.{Module}
use Rattle.typing_kit.specs.Matching.{known}
use Rattle.typing_kit.specs.Progress.{Leads, Stuck}
use Rattle.typing_kit.specs.Stack.{Stack}
use Rattle.typing_kit.specs.Typing.{TypedCode}
use Rattle.typed_trees.specs.Contexts.{Context}
use Rattle.typed_trees.specs.Forms.{language}
use Rattle.typed_trees.specs.Modules.{TypedFunc}
use Rattle.valid_new.specs.declared.nested.Nested.{Nested}
use Rattle.valid_new.specs.Annotated.{IsUntyped}

-- an answer that is true exactly where the fact holds
abbrev pub Decided : Bool → Type 0 → Type 0
Decided true P = P
Decided false P = P → ⊥

-- The instruction over operands, which it changes: the same code is typed before and after it, or none is that begins
-- with it.
abbrev pub Judged : Context → List (List Ty) → Instr → Stack Ty → Stack Ty → Bool → Type 0
Judged c ls i old new true = Leads (language c) ls i old.dead old.top new.dead new.top × (new.outer ≡ old.outer)
Judged c ls i old new false = Stuck (language c) ls i old.dead old.top

-- the code takes values of the first types and leaves those of the second
abbrev pub CodeTyped : Context → List (List Ty) → List Instr → List Ty → List Ty → Type 0
CodeTyped c ls code s t = TypedCode (language c) ls code (known s) (known t)

-- the code of an instruction that holds code, of one arm or of two, under its label; over two a condition lies on top
abbrev pub ArmTyped : Context → List (List Ty) → Nested → List Instr → Type 0
ArmTyped c ls n code = CodeTyped c (n.label.now ∷ ls) code n.takes.now n.gives.now

abbrev pub ArmsTyped : Context → List (List Ty) → Nested → Option (Bor (List Instr)) → Option Ty → Type 0
ArmsTyped c ls n None top = ArmTyped c ls n n.first.now × (top ≡ None)
ArmsTyped c ls n (Some code) top = ArmTyped c ls n n.first.now × ArmTyped c ls n code.now × (top ≡ Some I32)

-- the function at a place is typed
abbrev pub FuncTyped : Module → ℕ → Type 0
FuncTyped m place = (index : ℕ) (body : Body) → slice_get m.funcs place ≡ Some index → slice_get m.codes place ≡ Some body → TypedFunc m index body

-- so it is, or no rule types its body
abbrev pub FuncOr : Module → ℕ → Bool → Type 0
FuncOr m place true = FuncTyped m place
FuncOr m place false = IsUntyped m place
