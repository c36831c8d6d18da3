-- A value as its kind and its bits in two halves. What a reference refers to lies in the upper half.
use Rattle.std.specs.Prelude.{◌≡◌, ℕ, ◌+◌, ◌*◌, ◌/◌, ◌%◌, ◌^◌, ◌<◌, refl}
use Rattle.std.proofs.Common.{sym, ap, ◌∙◌, pow_pos}
use Rattle.std.proofs.Math.Nat.{add-mul-mod_self_left, add-mul-div_left, mod-eq_of_lt, div-eq_of_lt, zero-add}
use Rattle.meaning_new.specs.declared.val.Val.{Val}
use Rattle.meaning_new.specs.declared.val.Val.TheVariants.{I32, I64, V128, Func, Extern, Exn, Null}
use Rattle.wasm_ast.specs.declared.module.ty.Ty.{Ty}
use Rattle.wasm_ast.specs.declared.module.ty.Ty.TheVariants as types
use Rattle.run_new.specs.declared.slot.Kind.{Kind}
use Rattle.run_new.specs.declared.slot.Kind.TheVariants as kinds

abbrev pub value_in : Kind → ℕ → ℕ → Val
value_in kinds.I32 low high = I32 low
value_in kinds.I64 low high = I64 low
value_in kinds.V128 low high = V128 (low + 2 ^ 64 * high)
value_in kinds.Func low high = Func high
value_in kinds.Extern low high = Extern high
value_in kinds.Exn low high = Exn high
value_in kinds.NullI32 low high = Null types.I32
value_in kinds.NullI64 low high = Null types.I64
value_in kinds.NullF32 low high = Null types.F32
value_in kinds.NullF64 low high = Null types.F64
value_in kinds.NullV128 low high = Null types.V128
value_in kinds.NullFunc low high = Null types.Func
value_in kinds.NullExtern low high = Null types.Extern
value_in kinds.NullExn low high = Null types.Exn

-- what each kind has in its halves
abbrev pub IsSlot : Kind → ℕ → ℕ → Type 0
IsSlot kinds.I32 low high = (low < 2 ^ 32) × (high ≡ 0)
IsSlot kinds.I64 low high = high ≡ 0
IsSlot kinds.V128 low high = low < 2 ^ 64
IsSlot kinds.Func low high = (low ≡ 0) × (high < 2 ^ 32)
IsSlot kinds.Extern low high = (low ≡ 0) × (high < 2 ^ 32)
IsSlot kinds.Exn low high = (low ≡ 0) × (high < 2 ^ 32)
IsSlot _ low high = (low ≡ 0) × (high ≡ 0)

abbrev pub null_kind : Ty → Kind
null_kind types.I32 = kinds.NullI32
null_kind types.I64 = kinds.NullI64
null_kind types.F32 = kinds.NullF32
null_kind types.F64 = kinds.NullF64
null_kind types.V128 = kinds.NullV128
null_kind types.Func = kinds.NullFunc
null_kind types.Extern = kinds.NullExtern
null_kind types.Exn = kinds.NullExn

abbrev pub kind_of : Val → Kind
kind_of (I32 i) = kinds.I32
kind_of (I64 i) = kinds.I64
kind_of (V128 v) = kinds.V128
kind_of (Func x) = kinds.Func
kind_of (Extern a) = kinds.Extern
kind_of (Exn e) = kinds.Exn
kind_of (Null t) = null_kind t

abbrev pub low_of : Val → ℕ
low_of (I32 i) = i
low_of (I64 i) = i
low_of (V128 v) = v % 2 ^ 64
low_of _ = 0

abbrev pub high_of : Val → ℕ
high_of (V128 v) = v / 2 ^ 64
high_of (Func x) = x
high_of (Extern a) = a
high_of (Exn e) = e
high_of _ = 0

-- all three are got back from the value
pub kind_again : (k : Kind) (low high : ℕ) → kind_of (value_in k low high) ≡ k
kind_again kinds.I32 low high = refl
kind_again kinds.I64 low high = refl
kind_again kinds.V128 low high = refl
kind_again kinds.Func low high = refl
kind_again kinds.Extern low high = refl
kind_again kinds.Exn low high = refl
kind_again kinds.NullI32 low high = refl
kind_again kinds.NullI64 low high = refl
kind_again kinds.NullF32 low high = refl
kind_again kinds.NullF64 low high = refl
kind_again kinds.NullV128 low high = refl
kind_again kinds.NullFunc low high = refl
kind_again kinds.NullExtern low high = refl
kind_again kinds.NullExn low high = refl

pub low_again : (k : Kind) (low high : ℕ) → IsSlot k low high → low_of (value_in k low high) ≡ low
low_again kinds.I32 low high h = refl
low_again kinds.I64 low high h = refl
low_again kinds.V128 low high h = add-mul-mod_self_left low (2 ^ 64) high ∙ mod-eq_of_lt h
low_again kinds.Func low high h = sym h.0
low_again kinds.Extern low high h = sym h.0
low_again kinds.Exn low high h = sym h.0
low_again kinds.NullI32 low high h = sym h.0
low_again kinds.NullI64 low high h = sym h.0
low_again kinds.NullF32 low high h = sym h.0
low_again kinds.NullF64 low high h = sym h.0
low_again kinds.NullV128 low high h = sym h.0
low_again kinds.NullFunc low high h = sym h.0
low_again kinds.NullExtern low high h = sym h.0
low_again kinds.NullExn low high h = sym h.0

pub high_again : (k : Kind) (low high : ℕ) → IsSlot k low high → high_of (value_in k low high) ≡ high
high_again kinds.I32 low high h = sym h.1
high_again kinds.I64 low high h = sym h
high_again kinds.V128 low high h = add-mul-div_left low high (pow_pos 64) ∙ (ap (λ n. n + high) (div-eq_of_lt h) ∙ zero-add high)
high_again kinds.Func low high h = refl
high_again kinds.Extern low high h = refl
high_again kinds.Exn low high h = refl
high_again kinds.NullI32 low high h = sym h.1
high_again kinds.NullI64 low high h = sym h.1
high_again kinds.NullF32 low high h = sym h.1
high_again kinds.NullF64 low high h = sym h.1
high_again kinds.NullV128 low high h = sym h.1
high_again kinds.NullFunc low high h = sym h.1
high_again kinds.NullExtern low high h = sym h.1
high_again kinds.NullExn low high h = sym h.1
