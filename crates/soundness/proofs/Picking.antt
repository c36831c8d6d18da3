-- A call through a table calls a function of the type that is asked for.
use Rattle.std.proofs.Common.{◌≡◌, ℕ, Bool, true, false, if◌then◌else◌, Option, Some, None, refl, sym, ap, ◌∙◌}
use Rattle.std.specs.Prelude.{slice_get, option_and_then}
use Rattle.std.proofs.lemmas.Slice.Eq.{bytes_eq-Decides}
use Rattle.host_kit.specs.Offered.{func_type}
use Rattle.wasm_ast.specs.Types.{type_key}
use Rattle.wasm_ast.specs.declared.module.ty.FuncType.{FuncType}
use Rattle.wasm_ast.specs.declared.module.parts.Module.{Module}
use Rattle.emit_kit.proofs.KeyOfType as keys
use Rattle.evaluation_kit.specs.Configurations.{Plain}
use Rattle.meaning_new.specs.declared.val.Val.{Val}
use Rattle.meaning_new.specs.Store.{State}
use Rattle.meaning_new.specs.Numeric.{first}
use Rattle.meaning_new.specs.Forms.{function_of, same_type, of_type, pick}
use Rattle.soundness.proofs.Lists.{IfAny}

-- types with one key are the same
same_types : (s : Option FuncType) (t : FuncType) → same_type s (Some t) ≡ true → s ≡ Some t
same_types None t h = let no : ⊥ = cc in absurd no
same_types (Some s) t h = ap (λ z. Some z) (keys.same_type s t ((bytes_eq-Decides (type_key s) (type_key t)).0 h))

module _ (m : Module) (type : ℕ) (t : FuncType) (e : slice_get m.types type ≡ Some t) where
  of_typed : (f : ℕ) → IfAny (λ g. func_type m g ≡ Some t) (of_type m type f)
  of_typed f = at (same_type (func_type m f) (slice_get m.types type)) refl
    where
      at : (b : Bool) → same_type (func_type m f) (slice_get m.types type) ≡ b → IfAny (λ g. func_type m g ≡ Some t) (if b then Some f else None)
      at true h = same_types (func_type m f) t (sym (ap (same_type (func_type m f)) e) ∙ h)
      at false h = tt

  picked : (o : Option ℕ) → IfAny (λ g. func_type m g ≡ Some t) (option_and_then (of_type m type) o)
  picked None = tt
  picked (Some f) = of_typed f

  pub pick_typed : (table : ℕ) (p : Plain Val State) → IfAny (λ g. func_type m g ≡ Some t) (pick m type table p)
  pick_typed table p = picked (option_and_then function_of (option_and_then (λ i. slice_get i.entries (first p.operands)) (slice_get p.state.store.tables table)))
