-- What an index of a function names in both: a function of the host, or one whose body is crossed.
use Rattle.std.proofs.lemmas.List.{length-map}
use Rattle.std.proofs.Common.{◌≡◌, ℕ, ◌-◌, Bool, true, false, nat_lt, List, [], ◌∷◌, map, length, Option, Some, None, option_map, refl, sym, ap, ◌∙◌, subst, if◌then◌else◌}
use Rattle.std.specs.Prelude.{slice_get, option_and_then}
use Rattle.std.proofs.lemmas.Option.{slice_get-map}
use Rattle.evaluation_kit.specs.Control.{Callee, Own, Host}
use Rattle.simulation_kit.specs.Likenesses.{FunctionLike, CalleeLike}
use Rattle.simulation_kit.specs.Mirrors.{mirrored}
use Rattle.simulation_kit.proofs.LikeCode.{OwesCallees}
use Rattle.wasm_ast.specs.declared.module.ty.Ty.{Ty}
use Rattle.wasm_ast.specs.declared.module.ty.Ty.TheVariants as types
use Rattle.wasm_ast.specs.declared.module.ty.FuncType.{FuncType}
use Rattle.wasm_ast.specs.declared.module.code.Body.{Body}
use Rattle.wasm_ast.specs.declared.module.code.Instr.{Instr}
use Rattle.wasm_ast.specs.declared.module.parts.Module.{Module}
use Rattle.core1_ast.specs.declared.module.code.Instr1.{Instr1}
use Rattle.host_kit.specs.Offered.{func_type}
use Rattle.meaning_new.specs.declared.val.Val.{Val}
use Rattle.meaning_new.specs.Store.{State, default}
use Rattle.meaning_new.specs.Forms.{function, imported_funcs, callee_of_type, callee}
use Rattle.meaning_new.specs.Host.{host_call}
use Rattle.meaning_core1.specs.declared.val1.Val1.{Val1}
use Rattle.meaning_core1.specs.Store.{State1, zero_of_type}
use Rattle.meaning_core1.specs.Hosting.{call_host}
use Rattle.meaning_core1.specs.Language.{function1, callee_as}
use Rattle.crossing.specs.Code.{cross_type, cross_step, is_integer}
use Rattle.crossing.specs.Modules.{cross, cross_func_type, cross_body}
use Rattle.crossing.specs.States.{cross_value, IsInteger}
use Rattle.crossing.specs.Crossing.{InstrCrosses, FunctionsCross, BodyCrosses, AreIntegers}
use Rattle.crossing.proofs.Keeping.{Integers, IfThere, all_get}
use Rattle.crossing.proofs.Images.{M}
use Rattle.crossing.proofs.Hosts.{host_like}
use Rattle.crossing.proofs.Layers.{L, L', seen}
use Rattle.crossing.proofs.Types.{func_type-cross, imported-cross}

-- with what declared locals begin
zero-cross : (t : Ty) → zero_of_type (cross_type t) ≡ cross_value (default t)
zero-cross types.I32 = refl
zero-cross types.I64 = refl
zero-cross types.F32 = refl
zero-cross types.F64 = refl
zero-cross types.V128 = refl
zero-cross types.Func = refl
zero-cross types.Extern = refl
zero-cross types.Exn = refl

zeros-cross : (ts : List Ty) → map zero_of_type (map cross_type ts) ≡ map cross_value (map default ts)
zeros-cross [] = refl
zeros-cross (t ∷ ts) = ap (λ (v : Val1). v ∷ map zero_of_type (map cross_type ts)) (zero-cross t) ∙ ap (λ (l : List Val1). cross_value (default t) ∷ l) (zeros-cross ts)

zero_plain : (t : Ty) → is_integer t ≡ true → IsInteger (default t)
zero_plain types.I32 h = tt
zero_plain types.I64 h = tt
zero_plain t h = absurd cc

zeros_plain : (ts : List Ty) → AreIntegers ts → Integers (map default ts)
zeros_plain [] h = tt
zeros_plain (t ∷ ts) h = (zero_plain t h.0, zeros_plain ts h.1)

module _ (m : Module) (crossing : FunctionsCross m) where
  abbrev Named : Option (Callee Instr Val State) → Option (Callee Instr1 Val1 State1) → Type 0
  Named o o' = CalleeLike (mirrored M) (L m crossing) cross_step (seen m crossing) (InstrCrosses m) o o'

  function_like : (t : FuncType) (b : Body) → BodyCrosses m b → FunctionLike (mirrored M) (L m crossing) cross_step (seen m crossing) (InstrCrosses m) (function t b) (function1 (cross_func_type t) (cross_body b))
  function_like t b h = record {
    place = tt;
    params = length-map t.params cross_type;
    results = length-map t.results cross_type;
    zeros = zeros-cross b.locals;
    sound = zeros_plain b.locals h.locals;
    fits = h.code;
    body = refl;
  }

  owned : (t : FuncType) (o : Option Body) → IfThere (BodyCrosses m) o → Named (option_map (λ body. Own (function t body)) o) (option_map (λ body. Own (function1 (cross_func_type t) body)) (option_map cross_body o))
  owned t None h = tt
  owned t (Some b) h = function_like t b h

  named : (x : ℕ) (t : FuncType) (b : Bool) →
      Named (if b then Some (Host (length t.params) (host_call m x)) else option_map (λ body. Own (function t body)) (slice_get m.codes (x - imported_funcs m)))
      (if b then Some (Host (length (cross_func_type t).params) (call_host (cross m) x)) else option_map (λ body. Own (function1 (cross_func_type t) body)) (option_map cross_body (slice_get m.codes (x - imported_funcs m))))
  named x t true = (length-map t.params cross_type, host_like m x)
  named x t false = owned t (slice_get m.codes (x - imported_funcs m)) (all_get (BodyCrosses m) m.codes (x - imported_funcs m) crossing.codes)

  callee-cross : (x : ℕ) (t : FuncType) → callee_as (cross m) x (cross_func_type t) ≡ (if nat_lt x (imported_funcs m) then Some (Host (length (cross_func_type t).params) (call_host (cross m) x)) else option_map (λ body. Own (function1 (cross_func_type t) body)) (option_map cross_body (slice_get m.codes (x - imported_funcs m))))
  callee-cross x t =
      ap (λ (n : ℕ). if nat_lt x n then Some (Host (length (cross_func_type t).params) (call_host (cross m) x)) else option_map (λ body. Own (function1 (cross_func_type t) body)) (slice_get (map cross_body m.codes) (x - n))) (imported-cross m)
      ∙ ap (λ o. if nat_lt x (imported_funcs m) then Some (Host (length (cross_func_type t).params) (call_host (cross m) x)) else option_map (λ body. Own (function1 (cross_func_type t) body)) o) (slice_get-map cross_body m.codes (x - imported_funcs m))

  typed : (x : ℕ) (o : Option FuncType) → Named (option_and_then (callee_of_type m x) o) (option_and_then (callee_as (cross m) x) (option_map cross_func_type o))
  typed x None = tt
  typed x (Some t) = subst (λ o. Named (callee_of_type m x t) o) (sym (callee-cross x t)) (named x t (nat_lt x (imported_funcs m)))

  pub callees : OwesCallees (mirrored M) (L m crossing) (L' m crossing) cross_step (seen m crossing) (InstrCrosses m)
  callees x h = subst (λ o. Named (callee m x) (option_and_then (callee_as (cross m) x) o)) (sym (func_type-cross m x)) (typed x (func_type m x))
