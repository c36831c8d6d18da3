-- An instruction that is typed and shows no feature but a typed select is one that crosses, and makes no vector or reference.
use Rattle.std.proofs.Common.{◌≡◌, ◌≤◌, ℕ, zero, suc, Bool, true, false, not, cond, ◌||◌, List, [], ◌∷◌, length, Option, Some, None, refl, subst, arith}
use Rattle.std.specs.Prelude.{slice_get, nat_eq, option_map, option_and_then}
use Rattle.std.specs.List.{AllByRecursion}
use Rattle.num_core.specs.declared.operators.Conv.{Conv}
use Rattle.num_core.specs.declared.operators.Conv.TheVariants as conversions
use Rattle.num_core.specs.Accesses.{load_bytes, store_bytes}
use Rattle.wasm_ast.specs.declared.features.kind.Feature.{Feature}
use Rattle.wasm_ast.specs.declared.features.kind.Feature.TheVariants as features
use Rattle.wasm_ast.specs.declared.module.ty.Ty.{Ty}
use Rattle.wasm_ast.specs.declared.module.ty.Ty.TheVariants as types
use Rattle.wasm_ast.specs.declared.module.ty.BlockType.{BlockType}
use Rattle.wasm_ast.specs.declared.module.ty.BlockType.TheVariants as blocks
use Rattle.wasm_ast.specs.declared.module.ty.FuncType.{FuncType}
use Rattle.wasm_ast.specs.declared.module.ty.Limits.{Limits}
use Rattle.wasm_ast.specs.declared.module.immediates.MemArg.{MemArg}
use Rattle.wasm_ast.specs.declared.module.op.Op.{Op}
use Rattle.wasm_ast.specs.declared.module.op.Op.TheVariants as ops
use Rattle.wasm_ast.specs.declared.module.code.Instr.{Instr}
use Rattle.wasm_ast.specs.declared.module.code.Instr.TheOpen.{Instr-F}
use Rattle.wasm_ast.specs.Features.{is_index, type_shows, shows}
use Rattle.wasm_ast.specs.LateLanes.{is_late1, is_late2, is_late_load}
use Rattle.wasm_ast.specs.Occurrence.{Head, head}
use Rattle.typing_kit.specs.Leaf.{FitsLeaf}
use Rattle.typed_trees.specs.Contexts.{Context, is_value_type, is_reference_type}
use Rattle.typed_trees.specs.Forms.{InstrForm, where_some, access_at, indirect_type, holds_functions, op_form, layer_form, language}
use Rattle.crossing.specs.Code.{is_integer, is_block, is_conversion, is_op, crosses}
use Rattle.crossing.specs.Crossing.{AreIntegers, TypeCrosses}

-- the features that code shows and that do not cross
abbrev pub is_shown : Feature → Bool
is_shown features.Floats = true
is_shown features.Sign = true
is_shown features.Multi = true
is_shown features.Simd = true
is_shown features.LateLanes = true
is_shown features.Tail = true
is_shown features.Refs = true
is_shown features.Tables = true
is_shown features.Exceptions = true
is_shown features.Bulk = true
is_shown _ = false

abbrev pub Lacks : Head → Type 0
Lacks h = (f : Feature) → is_shown f ≡ true → shows f h ≡ false

-- a context in which no vector, reference or 64-bit address has a name, and in which at most one table and one memory have
pub record IsPlain (c : Context) : Type 0 where
  pub types : AllByRecursion TypeCrosses c.types
  pub globals : AllByRecursion (λ g. is_integer g.ty ≡ true) c.globals
  pub locals : AreIntegers c.locals
  pub tables : length c.tables ≤ 1
  pub memories : length c.memories ≤ 1
  pub narrow : AllByRecursion (λ l. l.wide ≡ false) c.memories

-- an index of a list of at most one item
pub first_alone : {A : Type 0} (xs : List A) (x : ℕ) (a : A) → length xs ≤ 1 → slice_get xs x ≡ Some a → nat_eq x 0 ≡ true
first_alone [] x a le e = absurd cc
first_alone (b ∷ xs) zero a le e = refl
first_alone (b ∷ []) (suc x) a le e = absurd cc
first_alone (b ∷ (d ∷ xs)) (suc x) a le e = let no : ⊥ = omega arith in absurd no

-- a type that is a value type and shows nothing is an integer
pub integer_of : (t : Ty) → is_value_type t ≡ true → ((f : Feature) → is_shown f ≡ true → type_shows f t ≡ false) → is_integer t ≡ true
unfolding type_shows
integer_of types.I32 v h = refl
integer_of types.I64 v h = refl
integer_of types.F32 v h = absurd cc
integer_of types.F64 v h = absurd cc
integer_of types.V128 v h = let no = h features.Simd refl in absurd cc
integer_of types.Func v h = let no = h features.Refs refl in absurd cc
integer_of types.Extern v h = let no = h features.Refs refl in absurd cc
integer_of types.Exn v h = let no = h features.Exceptions refl in absurd cc

module _ (c : Context) (plain : IsPlain c) where
  abbrev Leaf : InstrForm → List Ty → List Ty → Type 0
  Leaf f takes gives = FitsLeaf (language c) f takes gives

  conversion_crosses : (op : Conv) → Lacks (Instr-F.Pure (ops.Convert op)) → is_conversion op ≡ true
  unfolding type_shows
  conversion_crosses conversions.Wrap h = refl
  conversion_crosses conversions.Ext32S h = refl
  conversion_crosses conversions.Ext32U h = refl
  conversion_crosses op h = let no = h features.Sign refl in absurd cc

  null_crosses : (t : Ty) (takes gives : List Ty) → Lacks (Instr-F.Pure (ops.RefNull t)) → Leaf (op_form c (ops.RefNull t)) takes gives → is_op (ops.RefNull t) ≡ true
  unfolding type_shows
  null_crosses types.Func takes gives h k = let no = h features.Refs refl in absurd cc
  null_crosses types.Extern takes gives h k = let no = h features.Refs refl in absurd cc
  null_crosses types.Exn takes gives h k = let no = h features.Exceptions refl in absurd cc
  null_crosses t takes gives h k = absurd k

  reference_no : (t : Ty) → is_reference_type t ≡ true → is_integer t ≡ true → ⊥
  reference_no types.I32 r h = cc
  reference_no types.I64 r h = cc
  reference_no t r h = cc

  lanes_no : (b : Bool) → (not b || false) ≡ false → (b || false) ≡ false → ⊥
  lanes_no true e h = cc
  lanes_no false e h = cc

  op_crosses : (op : Op) (takes gives : List Ty) → Lacks (Instr-F.Pure op) → Leaf (op_form c op) takes gives → AreIntegers takes → is_op op ≡ true
  unfolding type_shows
  op_crosses (ops.I32Const i) takes gives h k s = refl
  op_crosses (ops.I64Const i) takes gives h k s = refl
  op_crosses (ops.Eqz w) takes gives h k s = refl
  op_crosses (ops.Compare w op) takes gives h k s = refl
  op_crosses (ops.Unary w op) takes gives h k s = refl
  op_crosses (ops.Binary w op) takes gives h k s = refl
  op_crosses (ops.Convert op) takes gives h k s = conversion_crosses op h
  op_crosses (ops.RefNull t) takes gives h k s = null_crosses t takes gives h k
  op_crosses ops.RefIsNull takes gives h k s = absurd (reference_no k.0.0 k.0.2 (subst AreIntegers k.0.1 s).0)
  op_crosses (ops.RefFunc x) takes gives h k s = let no = h features.Refs refl in absurd cc
  op_crosses (ops.Lanes1 op) takes gives h k s = absurd (lanes_no (is_late1 op) (h features.Simd refl) (h features.LateLanes refl))
  op_crosses (ops.Lanes2 op) takes gives h k s = absurd (lanes_no (is_late2 op) (h features.Simd refl) (h features.LateLanes refl))
  op_crosses op takes gives h k s = let no = h features.Simd refl in absurd cc

  -- what a load or a store, and an indirect call, find
  found_memory : (arg : MemArg) (bytes : ℕ) (o : Option Limits) → slice_get c.memories arg.memory ≡ o → (f : Ty → InstrForm) (takes gives : List Ty) → Leaf (where_some (option_and_then (access_at arg bytes) o) f) takes gives → nat_eq arg.memory 0 ≡ true
  found_memory arg bytes None e f takes gives k = absurd k
  found_memory arg bytes (Some l) e f takes gives k = first_alone c.memories arg.memory l plain.memories e

  named_memory : (x : ℕ) (o : Option Limits) → slice_get c.memories x ≡ o → (g : Limits → Ty) (f : Ty → InstrForm) (takes gives : List Ty) → Leaf (where_some (option_map g o) f) takes gives → nat_eq x 0 ≡ true
  named_memory x None e g f takes gives k = absurd k
  named_memory x (Some l) e g f takes gives k = first_alone c.memories x l plain.memories e

  found_table : (x table : ℕ) (o : Option Ty) → slice_get c.tables table ≡ o → (f : FuncType → InstrForm) (takes gives : List Ty) → Leaf (where_some (indirect_type c x table) f) takes gives → nat_eq table 0 ≡ true
  found_table x table None e f takes gives k =
      absurd (subst (λ o. Leaf (where_some (cond (holds_functions o) (slice_get c.types x) None) f) takes gives) e k)
  found_table x table (Some t) e f takes gives k = first_alone c.tables table t plain.tables e

  block_crosses : (t : BlockType) → is_index t ≡ false → is_block t ≡ true
  block_crosses blocks.Empty h = refl
  block_crosses (blocks.One t) h = refl
  block_crosses (blocks.Index x) h = absurd cc

  or_left : (a b : Bool) → (a || b) ≡ false → a ≡ false
  or_left false b h = refl
  or_left true b h = absurd cc

  -- an instruction that holds no code
  pub leaf_crosses : (ls : List (List Ty)) (l : Instr-F Instr) (takes gives : List Ty) → Lacks (head l) → Leaf (layer_form c ls l) takes gives → AreIntegers takes → crosses Instr l ≡ true
  unfolding type_shows
  leaf_crosses ls (Instr-F.Block t code) takes gives h k s = block_crosses t (or_left (is_index t) _ (h features.Multi refl))
  leaf_crosses ls (Instr-F.Loop t code) takes gives h k s = block_crosses t (or_left (is_index t) _ (h features.Multi refl))
  leaf_crosses ls (Instr-F.If t first second) takes gives h k s = block_crosses t (or_left (is_index t) _ (h features.Multi refl))
  leaf_crosses ls (Instr-F.CallIndirect x table) takes gives h k s = found_table x table (slice_get c.tables table) refl _ takes gives k
  leaf_crosses ls (Instr-F.Load op arg) takes gives h k s = found_memory arg (load_bytes op) (slice_get c.memories arg.memory) refl _ takes gives k
  leaf_crosses ls (Instr-F.Store op arg) takes gives h k s = found_memory arg (store_bytes op) (slice_get c.memories arg.memory) refl _ takes gives k
  leaf_crosses ls (Instr-F.MemorySize x) takes gives h k s = named_memory x (slice_get c.memories x) refl _ _ takes gives k
  leaf_crosses ls (Instr-F.MemoryGrow x) takes gives h k s = named_memory x (slice_get c.memories x) refl _ _ takes gives k
  leaf_crosses ls (Instr-F.Pure op) takes gives h k s = op_crosses op takes gives h k s
  leaf_crosses ls (Instr-F.Throw x) takes gives h k s = let no = h features.Exceptions refl in absurd cc
  leaf_crosses ls Instr-F.ThrowRef takes gives h k s = let no = h features.Exceptions refl in absurd cc
  leaf_crosses ls (Instr-F.TryTable t clauses code) takes gives h k s = let no = h features.Exceptions refl in absurd cc
  leaf_crosses ls (Instr-F.ReturnCall x) takes gives h k s = let no = h features.Tail refl in absurd cc
  leaf_crosses ls (Instr-F.ReturnCallIndirect x table) takes gives h k s = let no = h features.Tail refl in absurd cc
  leaf_crosses ls (Instr-F.TableGet x) takes gives h k s = let no = h features.Tables refl in absurd cc
  leaf_crosses ls (Instr-F.TableSet x) takes gives h k s = let no = h features.Tables refl in absurd cc
  leaf_crosses ls (Instr-F.TableInit e x) takes gives h k s = let no = h features.Tables refl in absurd cc
  leaf_crosses ls (Instr-F.ElemDrop e) takes gives h k s = let no = h features.Tables refl in absurd cc
  leaf_crosses ls (Instr-F.TableCopy x y) takes gives h k s = let no = h features.Tables refl in absurd cc
  leaf_crosses ls (Instr-F.TableGrow x) takes gives h k s = let no = h features.Tables refl in absurd cc
  leaf_crosses ls (Instr-F.TableSize x) takes gives h k s = let no = h features.Tables refl in absurd cc
  leaf_crosses ls (Instr-F.TableFill x) takes gives h k s = let no = h features.Tables refl in absurd cc
  leaf_crosses ls (Instr-F.LoadVector op arg) takes gives h k s = absurd (lanes_no (is_late_load op) (h features.Simd refl) (h features.LateLanes refl))
  leaf_crosses ls (Instr-F.StoreVector arg) takes gives h k s = let no = h features.Simd refl in absurd cc
  leaf_crosses ls (Instr-F.LoadLane shape arg lane) takes gives h k s = let no = h features.LateLanes refl in absurd cc
  leaf_crosses ls (Instr-F.StoreLane shape arg lane) takes gives h k s = let no = h features.LateLanes refl in absurd cc
  leaf_crosses ls (Instr-F.MemoryInit e x) takes gives h k s = let no = h features.Bulk refl in absurd cc
  leaf_crosses ls (Instr-F.DataDrop e) takes gives h k s = let no = h features.Bulk refl in absurd cc
  leaf_crosses ls (Instr-F.MemoryCopy x y) takes gives h k s = let no = h features.Bulk refl in absurd cc
  leaf_crosses ls (Instr-F.MemoryFill x) takes gives h k s = let no = h features.Bulk refl in absurd cc
  leaf_crosses ls (Instr-F.Float code immediates) takes gives h k s = absurd k
  leaf_crosses ls l takes gives h k s = refl
