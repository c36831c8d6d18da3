-- Function types compared by their keys, and by their lists of types.
use Rattle.std.proofs.Common.{◌≡◌, nat_eq, Bool, false, ◌&&◌, List, [], ◌∷◌, ◌++◌, map, refl, ap, sym, ◌∙◌}
use Rattle.std.specs.Prelude.{bytes_eq}
use lib.Pointwise.{pointwise}
use Rattle.wasm_ast.specs.contracts.module.ty.TyPartialEq.TheImpl.{eq-value}
use Rattle.wasm_ast.specs.declared.module.ty.Ty.{Ty}
use Rattle.wasm_ast.specs.declared.module.ty.Ty.TheVariants.{I32, I64, F32, F64, V128, Func, Extern, Exn}
use Rattle.wasm_ast.specs.Types.{type_code}
use Rattle.run_new.specs.Callees.{equal_types}

-- the test that is derived compares the codes
each : (a b : Ty) → eq-value.it a b ≡ nat_eq (type_code a) (type_code b)
each I32 I32 = refl
each I32 I64 = refl
each I32 F32 = refl
each I32 F64 = refl
each I32 V128 = refl
each I32 Func = refl
each I32 Extern = refl
each I32 Exn = refl
each I64 I32 = refl
each I64 I64 = refl
each I64 F32 = refl
each I64 F64 = refl
each I64 V128 = refl
each I64 Func = refl
each I64 Extern = refl
each I64 Exn = refl
each F32 I32 = refl
each F32 I64 = refl
each F32 F32 = refl
each F32 F64 = refl
each F32 V128 = refl
each F32 Func = refl
each F32 Extern = refl
each F32 Exn = refl
each F64 I32 = refl
each F64 I64 = refl
each F64 F32 = refl
each F64 F64 = refl
each F64 V128 = refl
each F64 Func = refl
each F64 Extern = refl
each F64 Exn = refl
each V128 I32 = refl
each V128 I64 = refl
each V128 F32 = refl
each V128 F64 = refl
each V128 V128 = refl
each V128 Func = refl
each V128 Extern = refl
each V128 Exn = refl
each Func I32 = refl
each Func I64 = refl
each Func F32 = refl
each Func F64 = refl
each Func V128 = refl
each Func Func = refl
each Func Extern = refl
each Func Exn = refl
each Extern I32 = refl
each Extern I64 = refl
each Extern F32 = refl
each Extern F64 = refl
each Extern V128 = refl
each Extern Func = refl
each Extern Extern = refl
each Extern Exn = refl
each Exn I32 = refl
each Exn I64 = refl
each Exn F32 = refl
each Exn F64 = refl
each Exn V128 = refl
each Exn Func = refl
each Exn Extern = refl
each Exn Exn = refl

pub all : (ss ts : List Ty) → pointwise eq-value.it ss ts ≡ equal_types ss ts
all [] [] = refl
all [] (b ∷ ts) = refl
all (a ∷ ss) [] = refl
all (a ∷ ss) (b ∷ ts) = ap (λ t. t && pointwise eq-value.it ss ts) (each a b) ∙ ap (λ t. nat_eq (type_code a) (type_code b) && t) (all ss ts)

no_zero : (t : Ty) → nat_eq 0 (type_code t) ≡ false
no_zero I32 = refl
no_zero I64 = refl
no_zero F32 = refl
no_zero F64 = refl
no_zero V128 = refl
no_zero Func = refl
no_zero Extern = refl
no_zero Exn = refl

zero_no : (t : Ty) → nat_eq (type_code t) 0 ≡ false
zero_no I32 = refl
zero_no I64 = refl
zero_no F32 = refl
zero_no F64 = refl
zero_no V128 = refl
zero_no Func = refl
zero_no Extern = refl
zero_no Exn = refl

and_assoc : (a b c : Bool) → (a && (b && c)) ≡ ((a && b) && c)
and_assoc Bool.true b c = refl
and_assoc Bool.false b c = refl

pub keys : (ps qs rs ss : List Ty) → bytes_eq (map type_code ps ++ 0 ∷ map type_code rs) (map type_code qs ++ 0 ∷ map type_code ss) ≡ (equal_types ps qs && equal_types rs ss)
keys [] [] rs ss = refl
keys [] (q ∷ qs) rs ss = ap (λ b. b && bytes_eq (map type_code rs) (map type_code qs ++ 0 ∷ map type_code ss)) (no_zero q)
keys (p ∷ ps) [] rs ss = ap (λ b. b && bytes_eq (map type_code ps ++ 0 ∷ map type_code rs) (map type_code ss)) (zero_no p)
keys (p ∷ ps) (q ∷ qs) rs ss =
    ap (λ b. nat_eq (type_code p) (type_code q) && b) (keys ps qs rs ss) ∙ and_assoc (nat_eq (type_code p) (type_code q)) (equal_types ps qs) (equal_types rs ss)

pub both : (ps qs rs ss : List Ty) (a b : Bool) → a ≡ equal_types ps qs → b ≡ equal_types rs ss → a ≡ Bool.true → b ≡ bytes_eq (map type_code ps ++ 0 ∷ map type_code rs) (map type_code qs ++ 0 ∷ map type_code ss)
both ps qs rs ss a b ea eb holds = eb ∙ sym (keys ps qs rs ss ∙ ap (λ c. c && equal_types rs ss) (sym ea ∙ holds))

pub neither : (ps qs rs ss : List Ty) (a : Bool) → a ≡ equal_types ps qs → a ≡ false → false ≡ bytes_eq (map type_code ps ++ 0 ∷ map type_code rs) (map type_code qs ++ 0 ∷ map type_code ss)
neither ps qs rs ss a ea fails = sym (keys ps qs rs ss ∙ ap (λ c. c && equal_types rs ss) (sym ea ∙ fails))
