-- What an instruction gives that crosses: integers, where it takes integers.
use Rattle.std.proofs.Common.{◌≡◌, ℕ, Bool, true, false, cond, List, [], ◌∷◌, ◌++◌, Option, Some, None, refl, sym, subst}
use Rattle.std.specs.Prelude.{slice_get, option_map, option_and_then}
use Rattle.num_core.specs.declared.operators.Width.{Width}
use Rattle.num_core.specs.declared.operators.Width.TheVariants.{W32, W64}
use Rattle.num_core.specs.Accesses.{load_width, load_bytes, store_bytes}
use Rattle.num_core.specs.Integers.{width_to}
use Rattle.wasm_ast.specs.declared.module.ty.Ty.{Ty}
use Rattle.wasm_ast.specs.declared.module.ty.Ty.TheVariants as types
use Rattle.wasm_ast.specs.declared.module.ty.FuncType.{FuncType}
use Rattle.wasm_ast.specs.declared.module.ty.Limits.{Limits}
use Rattle.wasm_ast.specs.declared.module.op.Op.{Op}
use Rattle.wasm_ast.specs.declared.module.op.Op.TheVariants as ops
use Rattle.wasm_ast.specs.declared.module.code.Instr.{Instr}
use Rattle.wasm_ast.specs.declared.module.code.Instr.TheOpen.{Instr-F}
use Rattle.typing_kit.specs.Form.{Untyped, Flat, Any, Select, Leaves, Table, Block, Choice}
use Rattle.typing_kit.specs.Leaf.{FitsLeaf}
use Rattle.typed_trees.specs.declared.global_type.GlobalType.{GlobalType}
use Rattle.typed_trees.specs.Contexts.{Context, func_type, block_type, is_value_type, address_of}
use Rattle.typed_trees.specs.Forms.{InstrForm, where_some, where_true, select_form, accessed, addressed, indirect_type, holds_functions, labels_at, op_form, layer_form, set_form, language}
use Rattle.typed_trees.specs.Operands.{int_type}
use Rattle.crossing.specs.Code.{is_integer, is_op, crosses}
use Rattle.crossing.specs.Crossing.{AreIntegers, TypeCrosses}
use Rattle.crossing.proofs.Keeping.{IfThere, all_get}
use Rattle.pass_cross.proofs.Heads.{IsPlain}

-- a form by which integers come of integers
abbrev pub KeepsIntegers : InstrForm → Type 0
KeepsIntegers (Flat a b) = AreIntegers a → AreIntegers b
KeepsIntegers (Any kind b) = AreIntegers b
KeepsIntegers _ = Unit {0}

int_integer : (w : Width) → is_integer (int_type w) ≡ true
int_integer W32 = refl
int_integer W64 = refl

address_integer : (b : Bool) → is_integer (address_of b) ≡ true
address_integer true = refl
address_integer false = refl

front : (ts : List Ty) (t : Ty) → AreIntegers (ts ++ t ∷ []) → AreIntegers ts
front [] t h = tt
front (s ∷ ts) t h = (h.0, front ts t h.1)

module _ (c : Context) (plain : IsPlain c) where
  some_keeps : {X : Type 0} (o : Option X) (f : X → InstrForm) → ((x : X) → o ≡ Some x → KeepsIntegers (f x)) → KeepsIntegers (where_some o f)
  some_keeps None f h = tt
  some_keeps (Some x) f h = h x refl

  there : {X : Type 0} (P : X → Type 0) (o : Option X) (x : X) → o ≡ Some x → IfThere P o → P x
  there P o x e h = subst (IfThere P) e h

  op_keeps : (op : Op) → is_op op ≡ true → KeepsIntegers (op_form c op)
  op_keeps (ops.I32Const i) h = λ s. (refl, tt)
  op_keeps (ops.I64Const i) h = λ s. (refl, tt)
  op_keeps (ops.Eqz w) h = λ s. (refl, tt)
  op_keeps (ops.Compare w op) h = λ s. (refl, tt)
  op_keeps (ops.Unary w op) h = λ s. (int_integer w, tt)
  op_keeps (ops.Binary w op) h = λ s. (int_integer w, tt)
  op_keeps (ops.Convert op) h = λ s. (int_integer (width_to op), tt)
  op_keeps op h = let no : ⊥ = cc in absurd no

  func_keeps : (x : ℕ) (t : FuncType) → func_type c x ≡ Some t → AreIntegers t.results
  func_keeps x t e = at (slice_get c.funcs x) e
    where
      at : (o : Option ℕ) → option_and_then (slice_get c.types) o ≡ Some t → AreIntegers t.results
      at None e = absurd cc
      at (Some y) e = (there TypeCrosses (slice_get c.types y) t e (all_get TypeCrosses c.types y plain.types)).results

  indirect_keeps : (x table : ℕ) (t : FuncType) → indirect_type c x table ≡ Some t → AreIntegers t.results
  indirect_keeps x table t e = at (holds_functions (slice_get c.tables table)) e
    where
      at : (b : Bool) → cond b (slice_get c.types x) None ≡ Some t → AreIntegers t.results
      at false e = absurd cc
      at true e = (there TypeCrosses (slice_get c.types x) t e (all_get TypeCrosses c.types x plain.types)).results

  select_keeps : (ts : List Ty) → KeepsIntegers (select_form ts)
  select_keeps [] = tt
  select_keeps (t ∷ []) = at (is_value_type t)
    where
      at : (b : Bool) → KeepsIntegers (where_true b (Flat (t ∷ (t ∷ (types.I32 ∷ []))) (t ∷ [])))
      at true = λ s. (s.0, tt)
      at false = tt
  select_keeps (t ∷ (u ∷ ts)) = tt

  set_keeps : (g : GlobalType) → KeepsIntegers (set_form g)
  set_keeps g = at g.mutable
    where
      at : (b : Bool) → KeepsIntegers (where_true b (Flat (g.ty ∷ []) []))
      at true = λ s. tt
      at false = tt

  local_there : (x : ℕ) (t : Ty) → slice_get c.locals x ≡ Some t → is_integer t ≡ true
  local_there x t e = there (λ t. is_integer t ≡ true) (slice_get c.locals x) t e (all_get (λ t. is_integer t ≡ true) c.locals x plain.locals)

  address_there : (x : ℕ) (t : Ty) → addressed c x ≡ Some t → is_integer t ≡ true
  address_there x t e = at (slice_get c.memories x) e
    where
      at : (o : Option Limits) → option_map (λ l. address_of l.wide) o ≡ Some t → is_integer t ≡ true
      at None e = absurd cc
      at (Some l) e = subst (λ o. IfThere (λ t. is_integer t ≡ true) o) e (address_integer l.wide)

  layer_keeps : (ls : List (List Ty)) (l : Instr-F Instr) → crosses Instr l ≡ true → KeepsIntegers (layer_form c ls l)
  layer_keeps ls (Instr-F.Block t code) h = some_keeps (block_type c t) _ (λ u e. tt)
  layer_keeps ls (Instr-F.Loop t code) h = some_keeps (block_type c t) _ (λ u e. tt)
  layer_keeps ls (Instr-F.If t first second) h = some_keeps (block_type c t) _ (λ u e. tt)
  layer_keeps ls (Instr-F.SelectTyped ts) h = select_keeps ts
  layer_keeps ls (Instr-F.Br l) h = some_keeps (slice_get ls l) _ (λ ts e. tt)
  layer_keeps ls (Instr-F.BrIf l) h = some_keeps (slice_get ls l) _ (λ ts e s. front ts types.I32 s)
  layer_keeps ls (Instr-F.BrTable xs last) h = some_keeps (slice_get ls last) _ (λ ts e. some_keeps (labels_at ls xs) _ (λ us e'. tt))
  layer_keeps ls (Instr-F.Call x) h = some_keeps (func_type c x) _ (λ t e s. func_keeps x t e)
  layer_keeps ls (Instr-F.CallIndirect x table) h = some_keeps (indirect_type c x table) _ (λ t e s. indirect_keeps x table t e)
  layer_keeps ls Instr-F.Return h = some_keeps c.returns _ (λ ts e. tt)
  layer_keeps ls (Instr-F.LocalGet x) h = some_keeps (slice_get c.locals x) _ (λ t e s. (local_there x t e, tt))
  layer_keeps ls (Instr-F.LocalSet x) h = some_keeps (slice_get c.locals x) _ (λ t e s. tt)
  layer_keeps ls (Instr-F.LocalTee x) h = some_keeps (slice_get c.locals x) _ (λ t e s. s)
  layer_keeps ls (Instr-F.GlobalGet x) h = some_keeps (slice_get c.globals x) _ (λ g e s. (there (λ g. is_integer g.ty ≡ true) (slice_get c.globals x) g e (all_get (λ g. is_integer g.ty ≡ true) c.globals x plain.globals), tt))
  layer_keeps ls (Instr-F.GlobalSet x) h = some_keeps (slice_get c.globals x) _ (λ g e. set_keeps g)
  layer_keeps ls (Instr-F.Load op arg) h = some_keeps (accessed c arg (load_bytes op)) _ (λ t e s. (int_integer (load_width op), tt))
  layer_keeps ls (Instr-F.Store op arg) h = some_keeps (accessed c arg (store_bytes op)) _ (λ t e s. tt)
  layer_keeps ls (Instr-F.MemorySize x) h = some_keeps (addressed c x) _ (λ t e s. (address_there x t e, tt))
  layer_keeps ls (Instr-F.MemoryGrow x) h = some_keeps (addressed c x) _ (λ t e s. s)
  layer_keeps ls (Instr-F.Pure op) h = op_keeps op h
  layer_keeps ls Instr-F.Nop h = λ s. tt
  layer_keeps ls Instr-F.Unreachable h = tt
  layer_keeps ls Instr-F.Drop h = tt
  layer_keeps ls Instr-F.Select h = tt
  layer_keeps ls l h = let no : ⊥ = cc in absurd no

  form_gives : (f : InstrForm) (takes gives : List Ty) → KeepsIntegers f → FitsLeaf (language c) f takes gives → AreIntegers takes → AreIntegers gives
  form_gives Untyped takes gives k h s = absurd h
  form_gives (Flat a b) takes gives k h s = subst AreIntegers (sym h.1) (k (subst AreIntegers h.0 s))
  form_gives (Any kind b) takes gives k h s = subst AreIntegers (sym h.1) k
  form_gives Select takes gives k h s = subst AreIntegers (sym h.2) ((subst AreIntegers h.1 s).0, tt)
  form_gives (Leaves a) takes gives k h s = subst AreIntegers (sym h.1) tt
  form_gives (Table last others) takes gives k h s = subst AreIntegers (sym h.2) tt
  form_gives (Block label a b code) takes gives k h s = absurd h
  form_gives (Choice label a b first second) takes gives k h s = absurd h

  pub leaf_gives : (ls : List (List Ty)) (l : Instr-F Instr) (takes gives : List Ty) → crosses Instr l ≡ true → FitsLeaf (language c) (layer_form c ls l) takes gives → AreIntegers takes → AreIntegers gives
  leaf_gives ls l takes gives h k s = form_gives (layer_form c ls l) takes gives (layer_keeps ls l h) k s
