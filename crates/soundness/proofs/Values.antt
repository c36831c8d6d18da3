-- Values and their types: what has a type keeps it when more exceptions are made.
use Rattle.std.proofs.Common.{◌≡◌, ℕ, ◌<◌, ◌≤◌, Bool, true, false, nat_lt, ◌&&◌, List, [], ◌∷◌, map, length, refl, arith}
use Rattle.std.proofs.lemmas.Bool.{ltb-true, lt-ltb}
use Rattle.std.specs.List.{AllByRecursion}
use Rattle.host_kit.specs.Fits.{ValueHasType, ValuesHaveTypes}
use Rattle.host_kit.specs.declared.value.Value.{Value}
use Rattle.host_kit.specs.declared.value.Value.TheVariants as values
use Rattle.num_core.specs.declared.operators.Width.{Width}
use Rattle.num_core.specs.declared.operators.Width.TheVariants.{W32, W64}
use Rattle.lane_core.specs.declared.vector.Shape.{Shape}
use Rattle.lane_core.specs.declared.vector.Shape.TheVariants.{I8x16, I16x8, I32x4, I64x2}
use Rattle.wasm_ast.specs.Spaces.{func_indices}
use Rattle.wasm_ast.specs.declared.module.ty.Ty.{Ty}
use Rattle.wasm_ast.specs.declared.module.ty.Ty.TheVariants as types
use Rattle.wasm_ast.specs.declared.module.parts.Module.{Module}
use Rattle.typed_trees.specs.Contexts.{address_of, is_value_type, is_reference_type}
use Rattle.typed_trees.specs.Operands.{int_type, lane_type}
use Rattle.meaning_new.specs.declared.val.Val.{Val}
use Rattle.meaning_new.specs.declared.val.Val.TheVariants.{I32, I64, V128, Func, Extern, Exn, Null}
use Rattle.meaning_new.specs.Store.{Exception, default, int, address_width, from_host}
use Rattle.meaning_new.specs.Numeric.{lane_width}
use Rattle.soundness.specs.States.{has_type, have_types, func_count, Has, HaveTypes, ExceptionTyped}
use Rattle.soundness.proofs.Lists.{pair_weaker, all_weaker, pair_map}

-- a test of numbers that holds of more
pub lt_more : (a b c : ℕ) → b ≤ c → nat_lt a b ≡ true → nat_lt a c ≡ true
lt_more a b c le h = let less : a < b = ltb-true a b h in let more : a < c = omega arith in lt-ltb a c more

module _ (m : Module) where
  pub has_more : (k j : ℕ) → k ≤ j → (v : Val) (t : Ty) → Has m k v t → Has m j v t
  has_more k j le (Exn e) types.Exn h = lt_more e k j le h
  has_more k j le (I32 i) types.I32 h = h
  has_more k j le (I64 i) types.I64 h = h
  has_more k j le (V128 v) types.V128 h = h
  has_more k j le (Func x) types.Func h = h
  has_more k j le (Extern a) types.Extern h = h
  has_more k j le (Null types.Func) types.Func h = h
  has_more k j le (Null types.Extern) types.Extern h = h
  has_more k j le (Null types.Exn) types.Exn h = h
  has_more k j le _ _ h = let no : ⊥ = cc in absurd no

  pub have_more : (k j : ℕ) → k ≤ j → (vs : List Val) (ts : List Ty) → HaveTypes m k vs ts → HaveTypes m j vs ts
  have_more k j le = pair_weaker (Has m k) (Has m j) (has_more k j le)

  pub exceptions_more : (k j : ℕ) → k ≤ j → (xs : List Exception) → AllByRecursion (ExceptionTyped m k) xs → AllByRecursion (ExceptionTyped m j) xs
  exceptions_more k j le = all_weaker (ExceptionTyped m k) (ExceptionTyped m j) (λ x h. record { type = h.type; declared = h.declared; payload = have_more k j le x.payload (_) h.payload })

  -- that values have types is decided
  and_true : (a b : Bool) → a ≡ true → b ≡ true → (a && b) ≡ true
  and_true true b h g = g
  and_true false b h g = h

  pub have_decided : (k : ℕ) (vs : List Val) (ts : List Ty) → HaveTypes m k vs ts → have_types (func_count m) k vs ts ≡ true
  have_decided k [] [] h = refl
  have_decided k [] (t ∷ ts) h = absurd h
  have_decided k (v ∷ vs) [] h = absurd h
  have_decided k (v ∷ vs) (t ∷ ts) h = and_true (has_type (func_count m) k v t) (have_types (func_count m) k vs ts) h.0 (have_decided k vs ts h.1)

  -- integers, addresses, lanes, tests
  pub int_typed : (k : ℕ) (w : Width) (i : ℕ) → Has m k (int w i) (int_type w)
  int_typed k W32 i = refl
  int_typed k W64 i = refl

  pub address_typed : (k : ℕ) (wide : Bool) (i : ℕ) → Has m k (int (address_width wide) i) (address_of wide)
  address_typed k true i = refl
  address_typed k false i = refl

  pub lane_typed : (k : ℕ) (shape : Shape) (i : ℕ) → Has m k (int (lane_width shape) i) (lane_type shape)
  lane_typed k I8x16 i = refl
  lane_typed k I16x8 i = refl
  lane_typed k I32x4 i = refl
  lane_typed k I64x2 i = refl

  -- "Default Values" have their types
  pub default_typed : (k : ℕ) (t : Ty) → is_value_type t ≡ true → Has m k (default t) t
  default_typed k types.I32 h = refl
  default_typed k types.I64 h = refl
  default_typed k types.F32 h = let no : ⊥ = cc in absurd no
  default_typed k types.F64 h = let no : ⊥ = cc in absurd no
  default_typed k types.V128 h = refl
  default_typed k types.Func h = refl
  default_typed k types.Extern h = refl
  default_typed k types.Exn h = refl

  pub defaults_typed : (k : ℕ) (ts : List Ty) → AllByRecursion (λ t. is_value_type t ≡ true) ts → HaveTypes m k (map default ts) ts
  defaults_typed k [] h = tt
  defaults_typed k (t ∷ ts) h = (default_typed k t h.0, defaults_typed k ts h.1)

  pub null_typed : (k : ℕ) (t : Ty) → is_reference_type t ≡ true → Has m k (Null t) t
  null_typed k types.Func h = refl
  null_typed k types.Extern h = refl
  null_typed k types.Exn h = refl
  null_typed k _ h = let no : ⊥ = cc in absurd no

  -- values of the host
  pub host_typed : (k : ℕ) (v : Value) (t : Ty) → ValueHasType m v t → Has m k (from_host v) t
  host_typed k (values.I32 i) types.I32 h = refl
  host_typed k (values.I64 i) types.I64 h = refl
  host_typed k (values.V128 low high) types.V128 h = refl
  host_typed k (values.Func x) types.Func h = lt-ltb x (length (func_indices m)) h
  host_typed k (values.Extern a) types.Extern h = refl
  host_typed k values.NullFunc types.Func h = refl
  host_typed k values.NullExtern types.Extern h = refl
  host_typed k _ _ h = absurd h

  pub all_host_typed : (k : ℕ) (vs : List Value) (ts : List Ty) → ValuesHaveTypes m vs ts → HaveTypes m k (map from_host vs) ts
  all_host_typed k vs ts h = pair_map (Has m k) from_host vs ts (pair_weaker (ValueHasType m) (λ v t. Has m k (from_host v) t) (host_typed k) vs ts h)
