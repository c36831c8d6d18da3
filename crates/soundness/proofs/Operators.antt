-- Instructions on operands alone: what they leave has its types.
use Rattle.std.proofs.Common.{◌≡◌, ℕ, Bool, true, false, if◌then◌else◌, List, [], ◌∷◌, ◌++◌, length, reverse, Option, Some, None, option_map, refl, sym, ap, ◌∙◌, le_refl}
use Rattle.std.specs.Prelude.{slice_get}
use Rattle.std.proofs.lemmas.Option.{slice_get_within}
use Rattle.std.proofs.lemmas.Bool.{lt-ltb}
use Rattle.num_core.specs.declared.operators.Width.{Width}
use Rattle.num_core.specs.Integers.{bits, wrap, binary, width_from, width_to}
use Rattle.lane_core.specs.Shapes.{extract_shape}
use Rattle.wasm_ast.specs.Spaces.{func_indices}
use Rattle.wasm_ast.specs.declared.module.op.Op.{Op}
use Rattle.wasm_ast.specs.declared.module.op.Op.TheVariants as ops
use Rattle.wasm_ast.specs.declared.module.ty.Ty.{Ty}
use Rattle.wasm_ast.specs.declared.module.ty.Ty.TheVariants as types
use Rattle.wasm_ast.specs.declared.module.parts.Module.{Module}
use Rattle.typing_kit.specs.Form as form
use Rattle.typed_trees.specs.Contexts.{Context}
use Rattle.typed_trees.specs.Operands.{int_type, lane_type}
use Rattle.typed_trees.specs.Forms.{InstrForm, where_some, where_true, op_form}
use Rattle.evaluation_kit.specs.Configurations.{Plain}
use Rattle.evaluation_kit.specs.Control.{leaf}
use Rattle.evaluation_kit.specs.Leaves.{top, below, on_operands, operands_or_trap}
use Rattle.meaning_new.specs.declared.val.Val.{Val}
use Rattle.meaning_new.specs.Store.{State, missing, int}
use Rattle.meaning_new.specs.Numeric.{first, second, pure}
use Rattle.meaning_new.specs.Forms.{drop_operand, select, holds}
use Rattle.soundness.specs.States.{made, Has, HaveTypes, PlainTyped, ResultTyped}
use Rattle.soundness.proofs.Lists.{IfAny, pair_top, pair_below}
use Rattle.soundness.proofs.Values.{int_typed, lane_typed, null_typed}
use Rattle.soundness.proofs.Judging.{NodeSafe, ActSafe, leaf_safe}
use Rattle.soundness.proofs.Forms.{Bodies, Safely, Owed}

module _ (m : Module) (k : ℕ) where
  pub under : (vs : List Val) (t : Ty) (ts : List Ty) → HaveTypes m k vs (t ∷ ts) → HaveTypes m k (below vs) ts
  under = pair_below (Has m k)

  pub under2 : (vs : List Val) (s t : Ty) (ts : List Ty) → HaveTypes m k vs (s ∷ (t ∷ ts)) → HaveTypes m k (below (below vs)) ts
  under2 vs s t ts h = under (below vs) t ts (under vs s (t ∷ ts) h)

  pub under3 : (vs : List Val) (r s t : Ty) (ts : List Ty) → HaveTypes m k vs (r ∷ (s ∷ (t ∷ ts))) → HaveTypes m k (below (below (below vs))) ts
  under3 vs r s t ts h = under (below (below vs)) t ts (under2 vs r s (t ∷ ts) h)

  pub topmost : (vs : List Val) (t : Ty) (ts : List Ty) → HaveTypes m k vs (t ∷ ts) → Has m k (top missing vs) t
  topmost vs t ts h = pair_top (Has m k) missing vs t ts h

-- what an operator makes of operands, by the form that types it: other forms type none
module _ (m : Module) (c : Context) where
  abbrev pub Leaves : List Ty → List Ty → (List Val → Option (List Val)) → Type 0
  Leaves takes gives f = (rest : List Ty) (k : ℕ) (vs : List Val) → HaveTypes m k vs (reverse takes ++ rest) → IfAny (λ l. HaveTypes m k l (reverse gives ++ rest)) (f vs)

  abbrev pub Pures : InstrForm → (List Val → Option (List Val)) → Type 0
  Pures form.Untyped f = Unit {0}
  Pures (form.Flat takes gives) f = Leaves takes gives f
  Pures (form.Any kind gives) f = (t : Ty) → Leaves (t ∷ []) gives f
  Pures _ f = ⊥

  pub record PureTyped (form : InstrForm) (f : List Val → Option (List Val)) : Type 0 where
    pub by : Pures form f

  some_typed : {f : List Val → Option (List Val)} {X : Type 0} {o : Option X} {g : X → InstrForm} → ((x : X) → o ≡ Some x → PureTyped (g x) f) → PureTyped (where_some o g) f
  some_typed {o = None} h = record { by = tt }
  some_typed {o = Some x} h = h x refl

  true_typed : {f : List Val → Option (List Val)} {o : Bool} {g : InstrForm} → (o ≡ true → PureTyped g f) → PureTyped (where_true o g) f
  true_typed {o = false} h = record { by = tt }
  true_typed {o = true} h = h refl

  row : (op : Op) (takes gives : List Ty) → Leaves takes gives (pure op) → PureTyped (form.Flat takes gives) (pure op)
  row op takes gives h = record { by = h }

  calculated : (k : ℕ) (w : Width) (r : Option ℕ) (vs : List Val) (rest : List Ty) → HaveTypes m k vs rest → IfAny (λ l. HaveTypes m k l (int_type w ∷ rest)) (option_map (λ v. v ∷ vs) (option_map (int w) r))
  calculated k w None vs rest h = tt
  calculated k w (Some i) vs rest h = (int_typed m k w i, h)

  pub op_typed : (op : Op) → c.funcs ≡ func_indices m → PureTyped (op_form c op) (pure op)
  op_typed (ops.RefNull t) e = true_typed (λ h. row (ops.RefNull t) [] (t ∷ []) (λ rest k vs g. (null_typed m k t h, g)))
  op_typed ops.RefIsNull e = record { by = λ t rest k vs g. (refl, under m k vs t rest g) }
  op_typed (ops.RefFunc x) e =
      some_typed (λ t is. true_typed (λ h. row (ops.RefFunc x) [] (types.Func ∷ []) (λ rest k vs g.
      (lt-ltb x (length (func_indices m)) (slice_get_within (func_indices m) x t (ap (λ l. slice_get l x) (sym e) ∙ is)), g))))
  op_typed (ops.I32Const i) e = row (ops.I32Const i) [] (types.I32 ∷ []) (λ rest k vs g. (refl, g))
  op_typed (ops.I64Const i) e = row (ops.I64Const i) [] (types.I64 ∷ []) (λ rest k vs g. (refl, g))
  op_typed (ops.Eqz w) e = row (ops.Eqz w) (int_type w ∷ []) (types.I32 ∷ []) (λ rest k vs g. (refl, under m k vs (int_type w) rest g))
  op_typed (ops.Compare w op) e = row (ops.Compare w op) (int_type w ∷ (int_type w ∷ [])) (types.I32 ∷ []) (λ rest k vs g. (refl, under2 m k vs (int_type w) (int_type w) rest g))
  op_typed (ops.Unary w op) e = row (ops.Unary w op) (int_type w ∷ []) (int_type w ∷ []) (λ rest k vs g. (int_typed m k w _, under m k vs (int_type w) rest g))
  op_typed (ops.Binary w op) e =
      row (ops.Binary w op) (int_type w ∷ (int_type w ∷ [])) (int_type w ∷ []) (λ rest k vs g.
      calculated k w (binary w op (wrap (bits w) (second vs)) (wrap (bits w) (first vs))) (below (below vs)) rest (under2 m k vs (int_type w) (int_type w) rest g))
  op_typed (ops.Convert op) e = row (ops.Convert op) (int_type (width_from op) ∷ []) (int_type (width_to op) ∷ []) (λ rest k vs g. (int_typed m k (width_to op) _, under m k vs (int_type (width_from op)) rest g))
  op_typed (ops.V128Const v) e = row (ops.V128Const v) [] (types.V128 ∷ []) (λ rest k vs g. (refl, g))
  op_typed (ops.Shuffle places) e = true_typed (λ h. row (ops.Shuffle places) (types.V128 ∷ (types.V128 ∷ [])) (types.V128 ∷ []) (λ rest k vs g. (refl, under2 m k vs types.V128 types.V128 rest g)))
  op_typed (ops.Splat shape) e = row (ops.Splat shape) (lane_type shape ∷ []) (types.V128 ∷ []) (λ rest k vs g. (refl, under m k vs (lane_type shape) rest g))
  op_typed (ops.Extract op lane) e = true_typed (λ h. row (ops.Extract op lane) (types.V128 ∷ []) (lane_type (extract_shape op) ∷ []) (λ rest k vs g. (lane_typed m k (extract_shape op) _, under m k vs types.V128 rest g)))
  op_typed (ops.Replace shape lane) e = true_typed (λ h. row (ops.Replace shape lane) (types.V128 ∷ (lane_type shape ∷ [])) (types.V128 ∷ []) (λ rest k vs g. (refl, under2 m k vs (lane_type shape) types.V128 rest g)))
  op_typed ops.Bitselect e = row ops.Bitselect (types.V128 ∷ (types.V128 ∷ (types.V128 ∷ []))) (types.V128 ∷ []) (λ rest k vs g. (refl, under3 m k vs types.V128 types.V128 types.V128 rest g))
  op_typed (ops.Lanes1 op) e = row (ops.Lanes1 op) (types.V128 ∷ []) (types.V128 ∷ []) (λ rest k vs g. (refl, under m k vs types.V128 rest g))
  op_typed (ops.Lanes2 op) e = row (ops.Lanes2 op) (types.V128 ∷ (types.V128 ∷ [])) (types.V128 ∷ []) (λ rest k vs g. (refl, under2 m k vs types.V128 types.V128 rest g))
  op_typed (ops.ShiftLanes op) e = row (ops.ShiftLanes op) (types.V128 ∷ (types.I32 ∷ [])) (types.V128 ∷ []) (λ rest k vs g. (refl, under2 m k vs types.I32 types.V128 rest g))
  op_typed (ops.TestLanes op) e = row (ops.TestLanes op) (types.V128 ∷ []) (types.I32 ∷ []) (λ rest k vs g. (refl, under m k vs types.V128 rest g))

module _ (m : Module) (N : ℕ) (c : Context) (ls : List (List Ty)) where
  -- an instruction on operands that takes and gives these types, the top first
  pub operands_safe : (f : List Val → Option (List Val)) (stack gives : List Ty) → ((k : ℕ) (vs : List Val) → HaveTypes m k vs stack → IfAny (λ l. HaveTypes m k l gives) (f vs)) → ActSafe m c ls stack (Some gives) (on_operands f)
  operands_safe f stack gives h = record { by = λ p t. both p t (f p.operands) (h (made p.state) p.operands t.operands_typed) }
    where
      both : (p : Plain Val State) → PlainTyped m c stack p → (o : Option (List Val)) → IfAny (λ l. HaveTypes m (made p.state) l gives) o → ResultTyped m c ls (Some gives) (made p.state) (operands_or_trap p o)
      both p t None i = record { jump = tt; locals = t.locals; state = t.state; extends = le_refl (made p.state) }
      both p t (Some l) i = (record { operands_typed = i; locals = t.locals; state = t.state }, le_refl (made p.state))

  flat : (f : List Val → Option (List Val)) (takes gives : List Ty) → ((rest : List Ty) (k : ℕ) (vs : List Val) → HaveTypes m k vs (reverse takes ++ rest) → IfAny (λ l. HaveTypes m k l (reverse gives ++ rest)) (f vs)) → NodeSafe m N c ls takes gives (leaf (on_operands f)) (leaf (on_operands f))
  flat f takes gives h rest = leaf_safe m N c ls (reverse takes ++ rest) (Some (reverse gives ++ rest)) (on_operands f) (operands_safe f (reverse takes ++ rest) (reverse gives ++ rest) (h rest))

  pub drop_safe : (t : Ty) → NodeSafe m N c ls (t ∷ []) [] (leaf (on_operands drop_operand)) (leaf (on_operands drop_operand))
  drop_safe t = flat drop_operand (t ∷ []) [] (λ rest k vs h. under m k vs t rest h)

  pub select_safe : (t : Ty) → NodeSafe m N c ls (t ∷ (t ∷ (types.I32 ∷ []))) (t ∷ []) (leaf (on_operands select)) (leaf (on_operands select))
  select_safe t =
      flat select (t ∷ (t ∷ (types.I32 ∷ []))) (t ∷ []) (λ rest k vs h.
      let lower = under m k vs types.I32 (t ∷ (t ∷ rest)) h in
      (either k (holds vs) (top missing (below (below vs))) (top missing (below vs)) (topmost m k (below (below vs)) t rest (under m k (below vs) t (t ∷ rest) lower)) (topmost m k (below vs) t (t ∷ rest) lower), under3 m k vs types.I32 t t rest h))
    where
      either : (k : ℕ) (b : Bool) (v w : Val) → Has m k v t → Has m k w t → Has m k (if b then v else w) t
      either k true v w h g = h
      either k false v w h g = g

  -- a plain instruction of it
  pub op_safe : (inner : Bodies m N c ls) (op : Op) → c.funcs ≡ func_indices m → Owed m N c ls inner (op_form c op) (leaf (on_operands (pure op))) (leaf (on_operands (pure op)))
  op_safe inner op e = record { safe = at (op_form c op) (op_typed m c op e).by }
    where
      at : (f : InstrForm) → Pures m c f (pure op) → Safely m N c ls inner f (leaf (on_operands (pure op))) (leaf (on_operands (pure op)))
      at form.Untyped h = tt
      at (form.Flat takes gives) h = flat (pure op) takes gives h
      at (form.Any kind gives) h = λ t is. flat (pure op) (t ∷ []) gives (h t)
      at form.Select h = absurd h
      at (form.Leaves takes) h = absurd h
      at (form.Table label others) h = absurd h
      at (form.Block label takes gives code) h = absurd h
      at (form.Choice label takes gives first second) h = absurd h
