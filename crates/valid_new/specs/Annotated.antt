-- What annotating a body answers.
use Rattle.std.specs.Prelude.{◌≡◌, ℕ, Result, Ok, Err, Option, Some, None, slice_get}
use Rattle.wasm_ast.specs.declared.module.ty.FuncType.{FuncType}
use Rattle.wasm_ast.specs.declared.module.code.Body.{Body}
use Rattle.wasm_ast.specs.declared.module.parts.Module.{Module}
use Rattle.typed_trees.specs.declared.module.TypedFn.{TypedFn}
use Rattle.typed_trees.specs.Modules.{TypedBody, TypedFunc}
use Rattle.typed_trees.specs.Trees.{erased, reachable_code}
use Rattle.typed_trees.specs.Typed.{TypedTree}
use Rattle.valid_new.specs.declared.annotating.Fault.{Fault}
use Rattle.valid_new.specs.declared.annotating.Fault.TheVariants.{Untyped, Memory}

-- the typed body is the body of this type: typed, with the same locals, and with the code that can be reached
pub record Annotated (m : Module) (t : FuncType) (body : Body) (f : TypedFn) : Type 0 where
  pub typed : TypedBody m t body
  pub tree : TypedTree m t f
  pub locals : f.locals ≡ body.locals
  pub code : erased f.body ≡ reachable_code body.code

-- so it is, or no rule types the body
abbrev pub AnnotatedOr : Module → FuncType → Body → Option TypedFn → Type 0
AnnotatedOr m t body (Some f) = Annotated m t body f
AnnotatedOr m t body None = TypedBody m t body → ⊥

-- the same of the function at a place
pub record Found (m : Module) (place : ℕ) (f : TypedFn) : Type 0 where
  pub index : ℕ
  pub func : slice_get m.funcs place ≡ Some index
  pub type : FuncType
  pub declared : slice_get m.types index ≡ Some type
  pub body : Body
  pub code : slice_get m.codes place ≡ Some body
  pub annotated : Annotated m type body f

abbrev pub IsUntyped : Module → ℕ → Type 0
IsUntyped m place = (index : ℕ) (body : Body) → slice_get m.funcs place ≡ Some index → slice_get m.codes place ≡ Some body → TypedFunc m index body → ⊥

abbrev pub FoundOr : Module → ℕ → Option TypedFn → Type 0
FoundOr m place (Some f) = Found m place f
FoundOr m place None = IsUntyped m place

abbrev pub Tells : Module → ℕ → Result TypedFn Fault → Type 0
Tells m place (Ok f) = Found m place f
Tells m place (Err Untyped) = IsUntyped m place
Tells m place (Err (Memory e)) = Unit {0}
