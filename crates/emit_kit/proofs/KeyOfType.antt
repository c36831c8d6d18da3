-- Function types with one key are equal.
use Rattle.std.proofs.Common.{◌≡◌, ℕ, nat_eq, if◌then◌else◌, List, [], ◌∷◌, ◌++◌, map, refl, ap, sym, ◌∙◌}
use Rattle.wasm_ast.specs.declared.module.ty.Ty.{Ty}
use Rattle.wasm_ast.specs.declared.module.ty.Ty.TheVariants.{I32, I64, F32, F64, V128, Func, Extern, Exn}
use Rattle.wasm_ast.specs.declared.module.ty.FuncType.{FuncType}
use Rattle.wasm_ast.specs.Types.{type_code, type_key}

-- the value type of a byte
type_of : ℕ → Ty
type_of n = if nat_eq n 0x7F then I32 else if nat_eq n 0x7E then I64 else if nat_eq n 0x7D then F32 else if nat_eq n 0x7C then F64 else if nat_eq n 0x7B then V128 else if nat_eq n 0x70 then Func else if nat_eq n 0x6F then Extern else Exn

type_of-code : (t : Ty) → type_of (type_code t) ≡ t
unfolding type_of
type_of-code I32 = refl
type_of-code I64 = refl
type_of-code F32 = refl
type_of-code F64 = refl
type_of-code V128 = refl
type_of-code Func = refl
type_of-code Extern = refl
type_of-code Exn = refl

same_code : (s t : Ty) → type_code s ≡ type_code t → s ≡ t
same_code s t e = sym (type_of-code s) ∙ ap type_of e ∙ type_of-code t

-- no byte of a type is 0
code_not_zero : (t : Ty) → type_code t ≡ 0 → ⊥
code_not_zero I32 e = cc
code_not_zero I64 e = cc
code_not_zero F32 e = cc
code_not_zero F64 e = cc
code_not_zero V128 e = cc
code_not_zero Func e = cc
code_not_zero Extern e = cc
code_not_zero Exn e = cc

abbrev first_of : List ℕ → ℕ
first_of [] = 0
first_of (x ∷ xs) = x

abbrev rest_of : List ℕ → List ℕ
rest_of [] = []
rest_of (x ∷ xs) = xs

same_codes : (ss ts : List Ty) → map type_code ss ≡ map type_code ts → ss ≡ ts
same_codes [] [] e = refl
same_codes [] (t ∷ ts) e = cc
same_codes (s ∷ ss) [] e = cc
same_codes (s ∷ ss) (t ∷ ts) e =
    let heads = same_code s t (ap first_of e) in
    let tails = same_codes ss ts (ap rest_of e) in
    λ i. heads i ∷ tails i

same_parts : (ps qs rs ss : List Ty) → map type_code ps ++ 0 ∷ map type_code rs ≡ map type_code qs ++ 0 ∷ map type_code ss → (ps ≡ qs) × (rs ≡ ss)
same_parts [] [] rs ss e = (refl, same_codes rs ss (ap rest_of e))
same_parts [] (q ∷ qs) rs ss e = absurd (code_not_zero q (sym (ap first_of e)))
same_parts (p ∷ ps) [] rs ss e = absurd (code_not_zero p (ap first_of e))
same_parts (p ∷ ps) (q ∷ qs) rs ss e =
    let heads = same_code p q (ap first_of e) in
    let more = same_parts ps qs rs ss (ap rest_of e) in
    (λ i. heads i ∷ more.0 i, more.1)

pub same_type : (s t : FuncType) → type_key s ≡ type_key t → s ≡ t
same_type s t e =
    let parts = same_parts s.params t.params s.results t.results e in
    λ i. record { params = parts.0 i; results = parts.1 i }
