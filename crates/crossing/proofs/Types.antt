-- Function types, and what an index of a function names.
use Rattle.std.proofs.lemmas.List.{length-map}
use Rattle.std.proofs.Common.{◌≡◌, ℕ, suc, ◌+◌, Bool, true, false, ◌&&◌, List, [], ◌∷◌, ◌++◌, map, length, Option, Some, None, option_map, refl, sym, ap, ◌∙◌, arith}
use Rattle.std.specs.Prelude.{slice_get, option_and_then, filter_map, count_by, bytes_eq, nat_eq, cond}
use Rattle.std.specs.List.{cons_option}
use Rattle.std.specs.List.{AllByRecursion}
use Rattle.std.proofs.lemmas.List.Sums.{sum_by-cons}
use Rattle.std.proofs.lemmas.Option.{slice_get-map}
use Rattle.wasm_ast.specs.declared.module.ty.Ty.{Ty}
use Rattle.wasm_ast.specs.declared.module.ty.Ty.TheVariants as types
use Rattle.wasm_ast.specs.declared.module.ty.FuncType.{FuncType}
use Rattle.wasm_ast.specs.declared.module.parts.Import.{Import}
use Rattle.wasm_ast.specs.declared.module.parts.ImportDesc.{ImportDesc}
use Rattle.wasm_ast.specs.declared.module.parts.ImportDesc.TheVariants as imports
use Rattle.wasm_ast.specs.declared.module.parts.Module.{Module}
use Rattle.wasm_ast.specs.Spaces.{func_import, func_indices}
use Rattle.wasm_ast.specs.Types.{type_code}
use Rattle.core1_ast.specs.Spaces as spaces1
use Rattle.host_kit.specs.Offered.{func_type}
use Rattle.host_kit.specs.Offered1.{func_type1}
use Rattle.meaning_new.specs.Forms.{is_func, imported_funcs, param_count, same_type}
use Rattle.meaning_core1.specs.Language.{type_number, equal_types, equal_func_types, parameter_count, imported_count}
use Rattle.crossing.specs.Code.{cross_type, is_integer}
use Rattle.crossing.specs.Modules.{cross_func_type, cross_import_desc, cross_import, cross}
use Rattle.crossing.specs.Crossing.{AreIntegers, TypeCrosses}
use Rattle.crossing.proofs.Keeping.{IfThere, all_get}

-- the imports of a kind
import_cross : (d : ImportDesc) → spaces1.func_import (cross_import_desc d) ≡ func_import d
import_cross (imports.Func t) = refl
import_cross d = refl

pub filter_map-cross : {X X' Y : Type 0} (f : X → X') (h : X → Option Y) (h' : X' → Option Y) → ((x : X) → h' (f x) ≡ h x) → (xs : List X) → filter_map h' (map f xs) ≡ filter_map h xs
filter_map-cross f h h' e [] = refl
filter_map-cross f h h' e (x ∷ xs) =
    ap (λ o. cons_option o (filter_map h' (map f xs))) (e x)
    ∙ ap (cons_option (h x)) (filter_map-cross f h h' e xs)

pub indices-cross : (m : Module) → spaces1.func_indices (cross m) ≡ func_indices m
indices-cross m =
    ap (λ (l : List ℕ). l ++ m.funcs) (filter_map-cross cross_import (λ i. func_import i.desc) (λ i. spaces1.func_import i.desc) (λ i. import_cross i.desc) m.imports)

-- how many functions are imported
counts : (d : ImportDesc) (l : List ℕ) (n : ℕ) → length l ≡ n → length (cons_option (func_import d) l) ≡ cond (is_func d) 1 0 + n
counts (imports.Func t) l n e = let r : suc (length l) ≡ 1 + n = omega arith in r
counts d l n e = let r : length l ≡ 0 + n = omega arith in r

count_imports : (is : List Import) → length (filter_map (λ i. func_import i.desc) is) ≡ count_by (λ i. is_func i.desc) is
count_imports [] = refl
count_imports (i ∷ is) = counts i.desc (filter_map (λ j. func_import j.desc) is) (count_by (λ j. is_func j.desc) is) (count_imports is) ∙ sym (sum_by-cons (λ j. cond (is_func j.desc) 1 0) i is)

pub imported-cross : (m : Module) → imported_count (cross m) ≡ imported_funcs m
imported-cross m =
    ap length (filter_map-cross cross_import (λ i. func_import i.desc) (λ i. spaces1.func_import i.desc) (λ i. import_cross i.desc) m.imports)
    ∙ count_imports m.imports

-- the type of a function
typed_at : (m : Module) (o : Option ℕ) → option_and_then (slice_get (cross m).types) o ≡ option_map cross_func_type (option_and_then (slice_get m.types) o)
typed_at m None = refl
typed_at m (Some t) = slice_get-map cross_func_type m.types t

pub func_type-cross : (m : Module) (x : ℕ) → func_type1 (cross m) x ≡ option_map cross_func_type (func_type m x)
func_type-cross m x =
    ap (λ (l : List ℕ). option_and_then (slice_get (cross m).types) (slice_get l x)) (indices-cross m)
    ∙ typed_at m (slice_get (func_indices m) x)

pub params-cross : (o : Option FuncType) → parameter_count (option_map cross_func_type o) ≡ param_count o
params-cross None = refl
params-cross (Some t) = length-map t.params cross_type

-- equal types: an integer type is told by one byte in both, and no such byte is zero
code-cross : (t : Ty) → is_integer t ≡ true → type_number (cross_type t) ≡ type_code t
code-cross types.I32 h = refl
code-cross types.I64 h = refl
code-cross t h = absurd cc

codes-cross : (ts : List Ty) → AreIntegers ts → map type_number (map cross_type ts) ≡ map type_code ts
codes-cross [] h = refl
codes-cross (t ∷ ts) h =
    ap (λ (n : ℕ). n ∷ map type_number (map cross_type ts)) (code-cross t h.0)
    ∙ ap (λ (l : List ℕ). type_code t ∷ l) (codes-cross ts h.1)

from_zero : (t : Ty) → nat_eq 0 (type_code t) ≡ false
from_zero types.I32 = refl
from_zero types.I64 = refl
from_zero types.F32 = refl
from_zero types.F64 = refl
from_zero types.V128 = refl
from_zero types.Func = refl
from_zero types.Extern = refl
from_zero types.Exn = refl

to_zero : (t : Ty) → nat_eq (type_code t) 0 ≡ false
to_zero types.I32 = refl
to_zero types.I64 = refl
to_zero types.F32 = refl
to_zero types.F64 = refl
to_zero types.V128 = refl
to_zero types.Func = refl
to_zero types.Extern = refl
to_zero types.Exn = refl

and_assoc : (a b c : Bool) → (a && (b && c)) ≡ ((a && b) && c)
and_assoc true b c = refl
and_assoc false b c = refl

-- two keys are equal where both parts are
keys : (ps qs : List Ty) (a b : List ℕ) → bytes_eq (map type_code ps ++ 0 ∷ a) (map type_code qs ++ 0 ∷ b) ≡ (bytes_eq (map type_code ps) (map type_code qs) && bytes_eq a b)
keys [] [] a b = refl
keys [] (q ∷ qs) a b = ap (λ c. c && bytes_eq a (map type_code qs ++ 0 ∷ b)) (from_zero q)
keys (p ∷ ps) [] a b = ap (λ c. c && bytes_eq (map type_code ps ++ 0 ∷ a) b) (to_zero p)
keys (p ∷ ps) (q ∷ qs) a b =
    ap (λ c. nat_eq (type_code p) (type_code q) && c) (keys ps qs a b)
    ∙ and_assoc (nat_eq (type_code p) (type_code q)) (bytes_eq (map type_code ps) (map type_code qs)) (bytes_eq a b)

types_equal : (ss ts : List Ty) → AreIntegers ss → AreIntegers ts → equal_types (map cross_type ss) (map cross_type ts) ≡ bytes_eq (map type_code ss) (map type_code ts)
types_equal ss ts h g =
    ap (λ (l : List ℕ). bytes_eq l (map type_number (map cross_type ts))) (codes-cross ss h)
    ∙ ap (λ (l : List ℕ). bytes_eq (map type_code ss) l) (codes-cross ts g)

pub same_type-cross : (s t : Option FuncType) → IfThere TypeCrosses s → IfThere TypeCrosses t → equal_func_types (option_map cross_func_type s) (option_map cross_func_type t) ≡ same_type s t
same_type-cross None t h g = refl
same_type-cross (Some s) None h g = refl
same_type-cross (Some s) (Some t) h g =
    ap (λ b. b && equal_types (map cross_type s.results) (map cross_type t.results)) (types_equal s.params t.params h.params g.params)
    ∙ ap (λ b. bytes_eq (map type_code s.params) (map type_code t.params) && b) (types_equal s.results t.results h.results g.results)
    ∙ sym (keys s.params t.params (map type_code s.results) (map type_code t.results))

typed_there : (m : Module) → AllByRecursion TypeCrosses m.types → (o : Option ℕ) → IfThere TypeCrosses (option_and_then (slice_get m.types) o)
typed_there m h None = tt
typed_there m h (Some t) = all_get TypeCrosses m.types t h

pub func_type_there : (m : Module) → AllByRecursion TypeCrosses m.types → (x : ℕ) → IfThere TypeCrosses (func_type m x)
func_type_there m h x = typed_there m h (slice_get (func_indices m) x)
