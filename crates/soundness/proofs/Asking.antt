-- What a stage learns where a node of its input has what it asks for: the types of operands, of what a plain instruction
-- leaves, and so what values are.
use Rattle.std.proofs.Common.{◌≡◌, ℕ, Bool, true, false, ◌&&◌, List, [], ◌∷◌, take, length, reverse, refl, subst}
use Rattle.wasm_ast.specs.declared.module.ty.Ty.{Ty}
use Rattle.wasm_ast.specs.declared.module.ty.Ty.TheVariants as types
use Rattle.wasm_ast.specs.declared.module.code.Instr.{Instr, out-Instr}
use Rattle.wasm_ast.specs.declared.module.parts.Module.{Module}
use Rattle.typed_trees.specs.Contexts.{is_reference_type}
use Rattle.outcome_kit.specs.Code.{Go}
use Rattle.evaluation_kit.specs.Configurations.{Plain, PlainRes}
use Rattle.evaluation_kit.specs.Forms.{Form, Flat}
use Rattle.meaning_new.specs.declared.val.Val.{Val}
use Rattle.meaning_new.specs.declared.val.Val.TheVariants.{I32, I64, V128, Null}
use Rattle.meaning_new.specs.Store.{State}
use Rattle.meaning_new.specs.Forms.{layer}
use Rattle.soundness.specs.States.{made, has_type, have_types, func_count, Has, HaveTypes}
use Rattle.soundness.specs.Strict.{top_typed, left_typed, gives_typed, node_typed}

both_hold : (a b : Bool) → (a && b) ≡ true → (a ≡ true) × (b ≡ true)
both_hold true b h = (refl, h)
both_hold false b h = let no : ⊥ = cc in absurd no

module _ (m : Module) where
  pub have_from : (k : ℕ) (vs : List Val) (ts : List Ty) → have_types (func_count m) k vs ts ≡ true → HaveTypes m k vs ts
  have_from k [] [] h = tt
  have_from k [] (t ∷ ts) h = let no : ⊥ = cc in absurd no
  have_from k (v ∷ vs) [] h = let no : ⊥ = cc in absurd no
  have_from k (v ∷ vs) (t ∷ ts) h = let both = both_hold (has_type (func_count m) k v t) (have_types (func_count m) k vs ts) h in (both.0, have_from k vs ts both.1)

  module _ (head : Instr) (takes gives : List Ty) (p : Plain Val State) (has : node_typed m head (takes, gives) p ≡ true) where
    -- the operands that it takes
    pub takes_asked : HaveTypes m (made p.state) (take (length takes) p.operands) (reverse takes)
    takes_asked =
        have_from (made p.state) (take (length takes) p.operands) (reverse takes) (both_hold (top_typed m takes p) (gives_typed m gives (layer m Instr (out-Instr head)) p) has).0

    -- those that it leaves, where it is plain and goes on
    pub gives_asked : (act : Plain Val State → PlainRes Val State) (q : Plain Val State) → layer m Instr (out-Instr head) ≡ Flat act → act p ≡ Go q → HaveTypes m (made q.state) (take (length gives) q.operands) (reverse gives)
    gives_asked act q is goes =
        let left = (both_hold (top_typed m takes p) (gives_typed m gives (layer m Instr (out-Instr head)) p) has).1 in
        have_from (made q.state) (take (length gives) q.operands) (reverse gives)
        (subst (λ r. left_typed m gives r ≡ true) goes (subst (λ (form : Form Val State Instr). gives_typed m gives form p ≡ true) is left))

  -- a null has a reference type alone
  null_reference : (k : ℕ) (s t : Ty) → is_reference_type t ≡ false → Has m k (Null s) t → ⊥
  null_reference k types.Func types.Func e h = cc
  null_reference k types.Extern types.Extern e h = cc
  null_reference k types.Exn types.Exn e h = cc
  null_reference k _ _ e h = cc

  -- values of number types and of the vector type
  pub is_i32 : (k : ℕ) (v : Val) → Has m k v types.I32 → (i : ℕ) × (v ≡ I32 i)
  is_i32 k (I32 i) h = (i, refl)
  is_i32 k (Null s) h = absurd (null_reference k s types.I32 refl h)
  is_i32 k _ h = let no : ⊥ = cc in absurd no

  pub is_i64 : (k : ℕ) (v : Val) → Has m k v types.I64 → (i : ℕ) × (v ≡ I64 i)
  is_i64 k (I64 i) h = (i, refl)
  is_i64 k (Null s) h = absurd (null_reference k s types.I64 refl h)
  is_i64 k _ h = let no : ⊥ = cc in absurd no

  pub is_vector : (k : ℕ) (v : Val) → Has m k v types.V128 → (i : ℕ) × (v ≡ V128 i)
  is_vector k (V128 i) h = (i, refl)
  is_vector k (Null s) h = absurd (null_reference k s types.V128 refl h)
  is_vector k _ h = let no : ⊥ = cc in absurd no
