-- The form of each instruction of a module of 1.0 ("Instructions" of chapter 4 of 1.0), what its functions are, and the
-- language that they make.
use Rattle.std.specs.Prelude.{◌≡◌, ℕ, ◌-◌, Bool, true, false, nat_lt, bytes_eq, ◌&&◌, if◌then◌else◌, List, [], ◌∷◌, length, map, filter_map, slice_get, Option, Some, None, option_map, option_and_then, refl}
use Rattle.std.proofs.Common.{ap, ◌∙◌, subst}
use Rattle.host_kit.specs.Offered1.{func_type1}
use Rattle.core1_ast.specs.Spaces.{func_import}
use Rattle.core1_ast.specs.declared.module.ty.Ty1.{Ty1}
use Rattle.core1_ast.specs.declared.module.ty.Ty1.TheVariants as types
use Rattle.core1_ast.specs.declared.module.ty.BlockType1.{BlockType1}
use Rattle.core1_ast.specs.declared.module.ty.BlockType1.TheVariants as blocks
use Rattle.core1_ast.specs.declared.module.ty.FuncType1.{FuncType1}
use Rattle.core1_ast.specs.declared.module.parts.Module1.{Module1}
use Rattle.core1_ast.specs.declared.module.code.Body1.{Body1}
use Rattle.core1_ast.specs.declared.module.code.Instr1.{Instr1, roll-Instr1}
use Rattle.core1_ast.specs.declared.module.code.Instr1.TheOpen.{Instr1-F}
use Rattle.core1_ast.specs.declared.module.code.Instr1.TheFolds.{map-Instr1, fold-Instr1, fold-roll-Instr1, ind-Instr1}
use Rattle.evaluation_kit.specs.declared.jump.Jump.TheVariants as jumps
use Rattle.evaluation_kit.specs.Configurations.{Plain}
use Rattle.evaluation_kit.specs.Control.{Function, Callee, Own, Host}
use Rattle.evaluation_kit.specs.Forms.{Form, Flat, Enclose, Repeat, Choose, Invoke, InvokeBy, map_form}
use Rattle.evaluation_kit.specs.Languages.{Tree, Language}
use Rattle.evaluation_kit.specs.Leaves as leaves
use Rattle.evaluation_kit.specs.Leaves.{on_operands}
use Rattle.meaning_core1.specs.declared.val1.Val1.{Val1}
use Rattle.meaning_core1.specs.Store.{State1, absent, zero_of_type, by_store, by_growth}
use Rattle.meaning_core1.specs.Operators.{top1, pure_op, is_true, dropped, selected}
use Rattle.meaning_core1.specs.Accesses.{get_global1, set_global1, load1, store1, size1, grow1}
use Rattle.meaning_core1.specs.Hosting.{call_host}

abbrev pub parameter_count : Option FuncType1 → ℕ
parameter_count None = 0
parameter_count (Some t) = length t.params

-- "Block Types": a block takes nothing and gives at most one value
abbrev pub block_results : BlockType1 → ℕ
block_results blocks.Empty = 0
block_results (blocks.One t) = 1

-- types are equal where their lists are
abbrev pub type_number : Ty1 → ℕ
type_number types.I32 = 0x7F
type_number types.I64 = 0x7E
type_number types.F32 = 0x7D
type_number types.F64 = 0x7C

abbrev pub equal_types : List Ty1 → List Ty1 → Bool
equal_types ss ts = bytes_eq (map type_number ss) (map type_number ts)

abbrev pub equal_func_types : Option FuncType1 → Option FuncType1 → Bool
equal_func_types (Some s) (Some t) = equal_types s.params t.params && equal_types s.results t.results
equal_func_types _ _ = false

-- call_indirect: the function in the table at the place on the top, where it has the type
abbrev pub typed_as : Module1 → ℕ → Option ℕ → Option ℕ
typed_as m t None = None
typed_as m t (Some f) = if equal_func_types (func_type1 m f) (slice_get m.types t) then Some f else None

abbrev pub pick1 : Module1 → ℕ → Plain Val1 State1 → Option ℕ
pick1 m t p =
    option_and_then (typed_as m t) (option_and_then (λ entries. slice_get entries (top1 p.operands)) (slice_get p.state.store.tables 0))

-- an instruction, whose bodies hold anything
abbrev pub layer1 : Module1 → (X : Type 0) → Instr1-F X → Form Val1 State1 X
-- "Numeric Instructions"
layer1 m X (Instr1-F.Pure op) = Flat (on_operands (pure_op op))
-- "Parametric Instructions"
layer1 m X Instr1-F.Drop = Flat (on_operands dropped)
layer1 m X Instr1-F.Select = Flat (on_operands selected)
-- "Variable Instructions"
layer1 m X (Instr1-F.LocalGet x) = Flat (leaves.get_local absent x)
layer1 m X (Instr1-F.LocalSet x) = Flat (leaves.set_local absent x)
layer1 m X (Instr1-F.LocalTee x) = Flat (leaves.tee_local absent x)
layer1 m X (Instr1-F.GlobalGet x) = Flat (by_store (get_global1 x))
layer1 m X (Instr1-F.GlobalSet x) = Flat (by_store (set_global1 x))
-- "Memory Instructions"
layer1 m X (Instr1-F.Load op arg) = Flat (by_store (load1 op arg))
layer1 m X (Instr1-F.Store op arg) = Flat (by_store (store1 op arg))
layer1 m X Instr1-F.MemorySize = Flat (by_store size1)
layer1 m X Instr1-F.MemoryGrow = Flat (by_growth grow1)
-- "Control Instructions"
layer1 m X Instr1-F.Nop = Flat leaves.nothing
layer1 m X Instr1-F.Unreachable = Flat (leaves.jump jumps.Trap)
layer1 m X (Instr1-F.Block t code) = Enclose 0 (block_results t) code
layer1 m X (Instr1-F.Loop t code) = Repeat 0 (block_results t) code
layer1 m X (Instr1-F.If t first second) = Choose is_true 0 (block_results t) first second
layer1 m X (Instr1-F.Br l) = Flat (leaves.jump (jumps.Branch l))
layer1 m X (Instr1-F.BrIf l) = Flat (leaves.branch_if is_true l)
layer1 m X (Instr1-F.BrTable labels last) = Flat (leaves.branch_table top1 labels last)
layer1 m X Instr1-F.Return = Flat (leaves.jump jumps.Return)
layer1 m X (Instr1-F.Call x) = Invoke (parameter_count (func_type1 m x)) x
layer1 m X (Instr1-F.CallIndirect t) = InvokeBy (parameter_count (slice_get m.types t)) (pick1 m t)
-- an instruction on floats is in no module that is typed
layer1 m X (Instr1-F.Float code immediates) = Flat (leaves.jump jumps.Trap)

-- a function of the module, and what an index names: the imported functions come first
abbrev pub function1 : FuncType1 → Body1 → Function Instr1 Val1
function1 t body = record { params = length t.params; results = length t.results; zeros = map zero_of_type body.locals; body = body.code }

abbrev pub imported_count : Module1 → ℕ
imported_count m = length (filter_map (λ i. func_import i.desc) m.imports)

abbrev pub callee_as : Module1 → ℕ → FuncType1 → Option (Callee Instr1 Val1 State1)
callee_as m x t =
    if nat_lt x (imported_count m)
    then Some (Host (length t.params) (call_host m x))
    else option_map (λ body. Own (function1 t body)) (slice_get m.codes (x - imported_count m))

abbrev pub callee1 : Module1 → ℕ → Option (Callee Instr1 Val1 State1)
callee1 m x = option_and_then (callee_as m x) (func_type1 m x)

pub map_map : {X Y Z : Type 0} (f : X → Y) (g : Y → Z) (xs : List X) → map g (map f xs) ≡ map (λ x. g (f x)) xs
map_map f g [] = refl
map_map f g (x ∷ xs) = ap (λ ys. g (f x) ∷ ys) (map_map f g xs)

pub over_over : (X Y Z : Type 0) (f : X → Y) (g : Y → Z) (l : Instr1-F X) → map-Instr1 Y Z g (map-Instr1 X Y f l) ≡ map-Instr1 X Z (λ x. g (f x)) l
over_over X Y Z f g (Instr1-F.Block t code) = ap (λ c. Instr1-F.Block t c) (map_map f g code)
over_over X Y Z f g (Instr1-F.Loop t code) = ap (λ c. Instr1-F.Loop t c) (map_map f g code)
over_over X Y Z f g (Instr1-F.If t first second) =
    ap (λ c. Instr1-F.If t c (map g (map f second))) (map_map f g first) ∙ ap (λ c. Instr1-F.If t (map (λ x. g (f x)) first) c) (map_map f g second)
over_over X Y Z f g l = refl

pub induct1 : (P : Instr1 → Type 0) → ((l : Instr1-F ((i : Instr1) × P i)) → P (roll-Instr1 (map-Instr1 ((i : Instr1) × P i) Instr1 (λ x. x.0) l))) → (i : Instr1) → P i
induct1 P step =
    ind-Instr1 P (λ l inner e. subst (λ x. P (roll-Instr1 x)) e (subst (λ x. P (roll-Instr1 x)) (over_over _ _ _ (λ x. (x.0, x.1)) (λ x. x.0) inner) (step (map-Instr1 _ ((i : Instr1) × P i) (λ x. (x.0, x.1)) inner))))

-- instructions as a tree
abbrev pub tree1 : Tree Instr1 Instr1-F
tree1 = record {
  roll = roll-Instr1;
  over = map-Instr1;
  fold = fold-Instr1;
  fold_roll = fold-roll-Instr1;
  over_twice = over_over;
  induct = induct1;
}

-- the form of an instruction does not ask what its bodies hold
pub layer_over1 : (m : Module1) (X Y : Type 0) (f : X → Y) (l : Instr1-F X) → layer1 m Y (map-Instr1 X Y f l) ≡ map_form f (layer1 m X l)
layer_over1 m X Y f Instr1-F.Nop = refl
layer_over1 m X Y f l = refl

-- the language in which a module is written
abbrev pub language1 : Module1 → Language Instr1 Instr1-F Val1 State1
language1 m = record {
  tree = tree1;
  layer = layer1 m;
  ready = λ X l p. true;
  layer_over = layer_over1 m;
  ready_over = λ X Y f l. refl;
  callee = callee1 m;
}
