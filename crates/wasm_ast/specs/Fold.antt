-- Constant expressions that fold: to one integer, or to an imported global.
use Rattle.std.specs.Prelude.{ℕ, Bool, true, false, List, [], ◌∷◌, ◌++◌, map, Option, Some, None, option_map, option_and_then, unwrap_or, slice_get, filter_map, if◌then◌else◌}
use Rattle.std.specs.List.{enumerate_from}
use Rattle.num_core.specs.declared.operators.Width.{Width}
use Rattle.num_core.specs.declared.operators.Width.TheVariants.{W32, W64}
use Rattle.num_core.specs.declared.operators.Bin.{Bin}
use Rattle.num_core.specs.declared.operators.Bin.TheVariants.{Add, Sub, Mul}
use Rattle.num_core.specs.Integers.{add_of, sub_of, mul_of}
use Rattle.wasm_ast.specs.declared.module.ty.Ty.{Ty}
use Rattle.wasm_ast.specs.declared.module.ty.Ty.TheVariants as types
use Rattle.wasm_ast.specs.declared.module.op.Op.TheVariants as ops
use Rattle.wasm_ast.specs.declared.module.code.Instr.{Instr}
use Rattle.wasm_ast.specs.declared.module.code.Instr.TheOpen.{Instr-F}
use Rattle.wasm_ast.specs.declared.module.parts.Global.{Global}
use Rattle.wasm_ast.specs.declared.module.parts.Module.{Module}
use Rattle.wasm_ast.specs.declared.folding.folded.Folded.{Folded}
use Rattle.wasm_ast.specs.declared.folding.folded.Folded.TheVariants.{I32, I64, Imported}
use Rattle.wasm_ast.specs.Occurrence.{Head, head_of}
use Rattle.wasm_ast.specs.Spaces.{global_import}
use Rattle.wasm_ast.specs.Types.{same_type}

-- the type of the value
abbrev pub folded_type : Folded → Ty
folded_type (I32 n) = types.I32
folded_type (I64 n) = types.I64
folded_type (Imported j t) = t

-- add, sub and mul alone fold
abbrev pub folded_value : ℕ → Bin → ℕ → ℕ → Option ℕ
folded_value n Add x y = Some (add_of n x y)
folded_value n Sub x y = Some (sub_of n x y)
folded_value n Mul x y = Some (mul_of n x y)
folded_value n _ x y = None

-- both operands are integers of the width
abbrev pub combined : Width → Bin → Folded → Folded → Option Folded
combined W32 op (I32 x) (I32 y) = option_map I32 (folded_value 32 op x y)
combined W64 op (I64 x) (I64 y) = option_map I64 (folded_value 64 op x y)
combined _ op x y = None

-- what is on the stack, the top first, after a binary operator
abbrev pub after_binary : Width → Bin → List Folded → Option (List Folded)
after_binary w op (y ∷ (x ∷ stack)) = option_map (λ v. v ∷ stack) (combined w op x y)
after_binary w op _ = None

-- what a global is known to fold to; one that is out of range does not fold
abbrev pub known_at : List (Option Folded) → ℕ → Option Folded
known_at known x = unwrap_or (slice_get known x) None

-- what is on the stack after an instruction; none where the expression does not fold
abbrev pub after_instr : List (Option Folded) → Head → List Folded → Option (List Folded)
after_instr known (Instr-F.Pure (ops.I32Const n)) stack = Some (I32 n ∷ stack)
after_instr known (Instr-F.Pure (ops.I64Const n)) stack = Some (I64 n ∷ stack)
after_instr known (Instr-F.Pure (ops.Binary w op)) stack = after_binary w op stack
after_instr known (Instr-F.GlobalGet x) stack = option_map (λ v. v ∷ stack) (known_at known x)
after_instr known _ stack = None

abbrev pub after_code : List (Option Folded) → List Instr → List Folded → Option (List Folded)
after_code known [] stack = Some stack
after_code known (i ∷ code) stack = option_and_then (after_code known code) (after_instr known (head_of i) stack)

-- exactly one value is left
abbrev pub only : List Folded → Option Folded
only (v ∷ []) = Some v
only _ = None

-- what the expression folds to, if it does, where it is known of each global whether it folds
abbrev pub fold_of : List (Option Folded) → List Instr → Option Folded
fold_of known code = option_and_then only (after_code known code [])

-- a global of another type than its initial value does not fold
abbrev pub of_type : Ty → Option Folded → Option Folded
of_type t (Some v) = if same_type t (folded_type v) then Some v else None
of_type t None = None

-- an imported global folds to itself
abbrev pub known_imports : List Ty → List (Option Folded)
known_imports ts = map (λ p. Some (Imported p.0 p.1)) (enumerate_from 0 ts)

-- each global of the module folds over those before it alone
abbrev pub with_own : List (Option Folded) → List Global → List (Option Folded)
with_own known [] = known
with_own known (g ∷ globals) = with_own (known ++ of_type g.ty (fold_of known g.init) ∷ []) globals

-- what each global of the module folds to, if it does
abbrev pub known_globals : Module → List (Option Folded)
known_globals m = with_own (known_imports (filter_map (λ i. global_import i.desc) m.imports)) m.globals

-- a stack, or none where folding stopped
abbrev pub outcome : Bool → List Folded → Option (List Folded)
outcome true stack = Some stack
outcome false stack = None
