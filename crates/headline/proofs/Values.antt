-- Integers that a host sees: they are mapped to themselves, and have their types in 1.0 too.
use Rattle.std.proofs.Common.{◌≡◌, ℕ, zero, suc, ◌≤◌, true, List, [], ◌∷◌, map, length, take, drop, refl, ap, ◌∙◌, arith}
use Rattle.std.specs.List.{AllByRecursion, flat_map}
use Rattle.host_kit.specs.Fits.{ValueHasType, ValuesHaveTypes}
use Rattle.host_kit.specs.Fits1.{ValueHasType1, ValuesHaveTypes1}
use Rattle.host_kit.specs.Pairwise.{Pairwise}
use Rattle.host_kit.specs.declared.value.Value.{Value}
use Rattle.host_kit.specs.declared.value.Value.TheVariants as values
use Rattle.wasm_ast.specs.declared.module.parts.Module.{Module}
use Rattle.wasm_ast.specs.declared.module.ty.Ty.{Ty}
use Rattle.wasm_ast.specs.declared.module.ty.Ty.TheVariants as types
use Rattle.crossing.specs.Code.{cross_type, is_integer}
use Rattle.crossing.specs.Crossing.{AreIntegers}
use Rattle.headline.specs.Flattening.{flat, flatten, word}
use Rattle.ranges_core1.specs.Ranges.{IsInRange}
use Rattle.soundness.specs.Events.{is_shown_as, AreShownAs}
use Rattle.headline.specs.Unmapping.{grouped}

-- integer types
flat_next : (t : Ty) (ts : List Ty) → is_integer t ≡ true → flat (t ∷ ts) ≡ cross_type t ∷ flat ts
flat_next types.I32 ts k = refl
flat_next types.I64 ts k = refl
flat_next t ts k = absurd cc

pub flat-integers : (ts : List Ty) → AreIntegers ts → flat ts ≡ map cross_type ts
flat-integers [] k = refl
flat-integers (t ∷ ts) k = flat_next t ts k.0 ∙ ap (λ l. cross_type t ∷ l) (flat-integers ts k.1)

-- of one type at most, the first is all
pub first_of : (ts : List Ty) → length ts ≤ 1 → take 1 (map cross_type ts) ≡ map cross_type ts
first_of [] h = refl
first_of (t ∷ []) h = refl
first_of (t ∷ u ∷ ts) h = let no : ⊥ = omega (arith, h) in absurd no

pub none_behind : (ts : List Ty) → length ts ≤ 1 → drop 1 (map cross_type ts) ≡ []
none_behind [] h = refl
none_behind (t ∷ []) h = refl
none_behind (t ∷ u ∷ ts) h = let no : ⊥ = omega (arith, h) in absurd no

-- values of a script are flattened to themselves
flatten_next : (m : Module) (v : Value) (t : Ty) (vs : List Value) → ValueHasType m v t → is_integer t ≡ true → flat_map flatten (v ∷ vs) ≡ v ∷ flat_map flatten vs
flatten_next m (values.I32 n) t vs h k = refl
flatten_next m (values.I64 n) t vs h k = refl
flatten_next m (values.V128 low high) types.V128 vs h k = absurd cc
flatten_next m (values.Func x) types.Func vs h k = absurd cc
flatten_next m (values.Extern a) types.Extern vs h k = absurd cc
flatten_next m values.NullFunc types.Func vs h k = absurd cc
flatten_next m values.NullExtern types.Extern vs h k = absurd cc
flatten_next m v t vs h k = absurd h

pub flatten-integers : (m : Module) (vs : List Value) (ts : List Ty) → ValuesHaveTypes m vs ts → AreIntegers ts → flat_map flatten vs ≡ vs
flatten-integers m [] [] h k = refl
flatten-integers m [] (t ∷ ts) h k = absurd h
flatten-integers m (v ∷ vs) [] h k = absurd h
flatten-integers m (v ∷ vs) (t ∷ ts) h k = flatten_next m v t vs h.0 k.0 ∙ ap (λ l. v ∷ l) (flatten-integers m vs ts h.1 k.1)

-- and have the types of 1.0
pub value_fits : (m : Module) (v : Value) (t : Ty) → ValueHasType m v t → is_integer t ≡ true → ValueHasType1 v (cross_type t)
value_fits m (values.I32 n) types.I32 h k = h
value_fits m (values.I64 n) types.I64 h k = h
value_fits m (values.V128 low high) types.V128 h k = absurd cc
value_fits m (values.Func x) types.Func h k = absurd cc
value_fits m (values.Extern a) types.Extern h k = absurd cc
value_fits m values.NullFunc types.Func h k = absurd cc
value_fits m values.NullExtern types.Extern h k = absurd cc
value_fits m v t h k = absurd h

pub values_fit : (m : Module) (vs : List Value) (ts : List Ty) → ValuesHaveTypes m vs ts → AreIntegers ts → ValuesHaveTypes1 vs (map cross_type ts)
values_fit m [] [] h k = tt
values_fit m [] (t ∷ ts) h k = absurd h
values_fit m (v ∷ vs) [] h k = absurd h
values_fit m (v ∷ vs) (t ∷ ts) h k = (value_fits m v t h.0 k.0, values_fit m vs ts h.1 k.1)

-- what is shown as integers, in their ranges
shown_fits : (v : Value) (t : Ty) → is_shown_as v t ≡ true → is_integer t ≡ true → IsInRange v → ValueHasType1 v (cross_type t)
shown_fits (values.I32 n) types.I32 h k r = r
shown_fits (values.I64 n) types.I64 h k r = r
shown_fits (values.V128 low high) types.V128 h k r = absurd cc
shown_fits (values.Func x) types.Func h k r = absurd cc
shown_fits values.NullFunc types.Func h k r = absurd cc
shown_fits (values.Extern a) types.Extern h k r = absurd cc
shown_fits values.NullExtern types.Extern h k r = absurd cc
shown_fits values.NullExtern types.Exn h k r = absurd cc
shown_fits v t h k r = absurd cc

pub all_shown_fit : (vs : List Value) (ts : List Ty) → AreShownAs vs ts → AreIntegers ts → AllByRecursion IsInRange vs → ValuesHaveTypes1 vs (map cross_type ts)
all_shown_fit [] [] h k r = tt
all_shown_fit [] (t ∷ ts) h k r = absurd h
all_shown_fit (v ∷ vs) [] h k r = absurd h
all_shown_fit (v ∷ vs) (t ∷ ts) h k r = (shown_fits v t h.0 k.0 r.0, all_shown_fit vs ts h.1 k.1 r.1)

-- their words are grouped to themselves
grouped_next : (v : Value) (t : Ty) (ts : List Ty) (words : List ℕ) → is_shown_as v t ≡ true → is_integer t ≡ true → grouped (t ∷ ts) (word v ∷ words) ≡ v ∷ grouped ts words
grouped_next (values.I32 n) types.I32 ts words h k = refl
grouped_next (values.I64 n) types.I64 ts words h k = refl
grouped_next (values.V128 low high) types.V128 ts words h k = absurd cc
grouped_next (values.Func x) types.Func ts words h k = absurd cc
grouped_next values.NullFunc types.Func ts words h k = absurd cc
grouped_next (values.Extern a) types.Extern ts words h k = absurd cc
grouped_next values.NullExtern types.Extern ts words h k = absurd cc
grouped_next values.NullExtern types.Exn ts words h k = absurd cc
grouped_next v t ts words h k = absurd cc

pub grouped-shown : (vs : List Value) (ts : List Ty) → AreShownAs vs ts → AreIntegers ts → grouped ts (map word vs) ≡ vs
grouped-shown [] [] h k = refl
grouped-shown [] (t ∷ ts) h k = absurd h
grouped-shown (v ∷ vs) [] h k = absurd h
grouped-shown (v ∷ vs) (t ∷ ts) h k = grouped_next v t ts (map word vs) h.0 k.0 ∙ ap (λ l. v ∷ l) (grouped-shown vs ts h.1 k.1)

-- as many values as types
pub all_taken : {A B : Type 0} (R : A → B → Type 0) (xs : List A) (ys : List B) → Pairwise R xs ys → take (length ys) xs ≡ xs
all_taken R [] [] h = refl
all_taken R [] (y ∷ ys) h = absurd h
all_taken R (x ∷ xs) [] h = absurd h
all_taken R (x ∷ xs) (y ∷ ys) h = ap (λ l. x ∷ l) (all_taken R xs ys h.1)

pub none_left : {A B : Type 0} (R : A → B → Type 0) (xs : List A) (ys : List B) → Pairwise R xs ys → drop (length ys) xs ≡ []
none_left R [] [] h = refl
none_left R [] (y ∷ ys) h = absurd h
none_left R (x ∷ xs) [] h = absurd h
none_left R (x ∷ xs) (y ∷ ys) h = none_left R xs ys h.1

pub no_more : {A B : Type 0} (R : A → B → Type 0) (n : ℕ) (xs : List A) (ys : List B) → Pairwise R xs ys → length ys ≤ n → length xs ≤ n
no_more R n [] [] h le = le
no_more R n [] (y ∷ ys) h le = absurd h
no_more R n (x ∷ xs) [] h le = absurd h
no_more R zero (x ∷ xs) (y ∷ ys) h le = let no : ⊥ = omega (arith, le) in absurd no
no_more R (suc n) (x ∷ xs) (y ∷ ys) h le = let less : length ys ≤ n = omega (arith, le) in let fewer = no_more R n xs ys h.1 less in omega (arith, fewer)
