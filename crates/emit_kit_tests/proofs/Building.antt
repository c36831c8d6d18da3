-- What is built from nothing is typed.
use Rattle.std.specs.Prelude.{AllPairs, ◌≢◌}
use Rattle.std.specs.List.{AllByRecursion, list_all}
use Rattle.std.proofs.Common.{◌≡◌, ℕ, ◌<◌, true, List, [], ◌∷◌, length, Some, None, refl, ap, sym, subst, ◌∙◌, arith}
use Rattle.std.proofs.lemmas.Option.{slice_get_within}
use Rattle.wasm_ast.specs.declared.module.ty.Ty.TheVariants.{I64}
use Rattle.wasm_ast.specs.declared.module.ty.FuncType.{FuncType}
use Rattle.wasm_ast.specs.declared.module.code.Instr.{out-Instr, out-roll-Instr}
use Rattle.wasm_ast.specs.declared.module.parts.Export.{Export}
use Rattle.typing_kit.specs.Matching.{known}
use Rattle.typing_kit.specs.Typing.{flat, none, more}
use Rattle.typed_trees.specs.declared.module.TypedFn.{TypedFn}
use Rattle.typed_trees.specs.Contexts.{Context}
use Rattle.typed_trees.specs.Constants.{TypedConstant, is_constant_layer}
use Rattle.typed_trees.specs.Forms.{layer_form}
use Rattle.typed_trees.specs.Trees as trees
use Rattle.typed_trees.specs.Typed.{IsTypedTree}
use Rattle.emit_kit.specs.Built.{Built, AddsType, with_type, with_function, with_global, default_layer, default_value}
use Rattle.emit_kit_tests.specs.Small.{nothing, thunk, idle, small}

pub has_type : (old new : Built) (t : FuncType) (index : ℕ) → AddsType old t index new → index < length new.0.types
has_type old new t index h = slice_get_within new.0.types index t h.stands.there

-- the first type
added : (t : FuncType) (index : ℕ) (new : Built) → AddsType (nothing, []) t index new → new ≡ with_type (nothing, []) t
added t index new h = h.unknown (omega arith)

pub is_small : (old first last : Built) (t : FuncType) (f : TypedFn) (index : ℕ) → old ≡ (nothing, []) → t ≡ record { params = []; results = [] } → f ≡ record { locals = []; body = [] } → AddsType old t index first → last ≡ with_function first index f → last ≡ small
is_small old first last t f index o type func h l =
    let h' : AddsType (nothing, []) thunk index first = subst (λ x. AddsType (nothing, []) x index first) type (subst (λ x. AddsType x t index first) o h)
    in let one : first ≡ with_type (nothing, []) thunk = added thunk index first h'
    in let within : index < length first.0.types = has_type (nothing, []) first thunk index h'
    in let zero : index ≡ 0 = omega (arith, subst (λ x. index < length x.0.types) one within)
    in l ∙ ap (λ x. with_function first index x) func ∙ ap (λ x. with_function x index idle) one ∙ ap (λ x. with_function (with_type (nothing, []) thunk) x idle) zero

pub has_no_export : (b : Built) (name : List ℕ) → b ≡ small → AllByRecursion (λ e. e.name ≢ name) b.0.exports
has_no_export b name s = subst (λ x. AllByRecursion (λ e. e.name ≢ name) x.0.exports) (sym s) tt

zero_layer : out-Instr (default_value I64) ≡ default_layer I64
zero_layer = out-roll-Instr (default_layer I64)

zero_typed : (c : Context) → TypedConstant c (default_value I64 ∷ []) I64
zero_typed c = record {
  constant = subst (λ l. list_all (λ i. is_constant_layer c l) (default_value I64 ∷ []) ≡ true) (sym zero_layer) refl;
  typed =
      more [] (default_value I64) [] [] [] [] (known (I64 ∷ [])) (known (I64 ∷ [])) (flat [] (default_value I64) [] (I64 ∷ []) (ap (layer_form c []) zero_layer)) tt
      (none [] (known (I64 ∷ [])) (known (I64 ∷ [])) (refl, tt));
}

no_pairs : {X : Type 0} (R : X → X → Type 0) (x : X) → AllPairs R (x ∷ [])
no_pairs R x = λ i j d low within. let no : ⊥ = omega (arith, low, within) in absurd no

small_typed : (name : List ℕ) → IsTypedTree (with_global small I64 (Some name))
small_typed name = record {
  no_bodies = refl;
  counts = record { bodies = refl; segments = refl };
  parts = record {
    types = (record { params = tt; results = tt }, tt);
    imports = tt;
    funcs = (omega arith, tt);
    tables = tt;
    memories = tt;
    tags = tt;
    globals = (record { type = refl; init = zero_typed _ }, tt);
    exports = (omega arith, tt);
    names = no_pairs {X = Export} (λ a b. a.name ≢ b.name) _;
    start = tt;
    elems = tt;
    datas = tt;
  };
  trees = (
    record {
      type = thunk;
      declared = refl;
      typed = record { locals = tt; end = Some []; nodes = trees.none _ ([] ∷ []) []; ends = refl };
    },
    tt,
  );
}

pub is_typed : (old new : Built) (name : List ℕ) → old ≡ small → new ≡ with_global old I64 (Some name) → IsTypedTree new
is_typed old new name o n = subst IsTypedTree (sym (n ∙ ap (λ x. with_global x I64 (Some name)) o)) (small_typed name)
