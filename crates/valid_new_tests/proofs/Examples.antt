-- The example is typed in each part, and so is the module of its parts and its typed body.
use Rattle.std.specs.Prelude.{AllPairs, ◌≢◌}
use Rattle.std.proofs.Common.{◌≡◌, ℕ, ◌<◌, List, [], ◌∷◌, length, Option, Some, None, slice_get, refl, ap, sym, subst, ◌∙◌, arith}
use Rattle.wasm_ast.specs.declared.module.code.Body.{Body}
use Rattle.wasm_ast.specs.declared.module.ty.FuncType.{FuncType}
use Rattle.wasm_ast.specs.declared.module.parts.Export.{Export}
use Rattle.wasm_ast.specs.declared.module.parts.Module.{Module}
use Rattle.wasm_ast.specs.Counts.{Agrees}
use Rattle.typed_trees.specs.declared.module.TypedFn.{TypedFn}
use Rattle.typed_trees.specs.Modules.{TypedParts}
use Rattle.typed_trees.specs.Typed.{IsTypedTree, TypedTree, module_of}
use Rattle.valid_new.specs.Annotated.{Found}
use Rattle.valid_new_tests.specs.Example.{with_codes, IsExample}

pub is_example : (m : Module) (body : Body) → m ≡ with_codes (body ∷ []) → IsExample m
is_example m body e = record { parts = e ∙ ap with_codes (sym (ap (λ x. x.codes) e)); body = ap (λ x. length x.codes) e }

no_pairs : {X : Type 0} (R : X → X → Type 0) → AllPairs R []
no_pairs R = λ i j d low within. let no : ⊥ = omega (arith, within) in absurd no

parts_of : (codes : List Body) → TypedParts (with_codes codes)
parts_of codes = record {
  types = (record { params = tt; results = (refl, tt) }, tt);
  imports = tt;
  funcs = (omega arith, tt);
  tables = tt;
  memories = tt;
  tags = tt;
  globals = tt;
  exports = tt;
  names = no_pairs {X = Export} (λ a b. a.name ≢ b.name);
  start = tt;
  elems = tt;
  datas = tt;
}

agrees : (codes : List Body) → length codes ≡ 1 → Agrees (with_codes codes)
agrees codes one = record { bodies = sym one; segments = refl }

pub parts_typed : (m : Module) → IsExample m → TypedParts m
parts_typed m h = subst TypedParts (sym h.parts) (parts_of m.codes)

pub counts_agree : (m : Module) → IsExample m → Agrees m
counts_agree m h = subst Agrees (sym h.parts) (agrees m.codes h.body)

pub has_body : (m : Module) → IsExample m → 0 < length m.codes
has_body m h = omega (arith, h.body)

some_is : {X : Type 0} (x y : X) → ◌≡◌ {A = Option X} (Some x) (Some y) → x ≡ y
some_is x y e = ap (λ o. elim o as (λ z. _) [ Some z ↦ z | None ↦ x ]) e

same_type : (type : FuncType) (index : ℕ) (codes : List Body) → ◌≡◌ {A = Option ℕ} (slice_get (0 ∷ []) 0) (Some index) → slice_get (with_codes codes).types index ≡ Some type → slice_get (with_codes []).types 0 ≡ Some type
same_type type index codes i d = subst (λ x. slice_get (with_codes []).types x ≡ Some type) (sym (some_is 0 index i)) d

tree_of : (codes : List Body) (f : TypedFn) → Found (with_codes codes) 0 f → IsTypedTree (with_codes [], f ∷ [])
tree_of codes f h = record {
  no_bodies = refl;
  counts = record { bodies = refl; segments = refl };
  parts = parts_of _;
  trees = (
    record {
      type = h.type;
      declared = same_type h.type h.index codes h.func h.declared;
      typed = record {
        locals = h.annotated.tree.locals;
        end = h.annotated.tree.end;
        nodes = h.annotated.tree.nodes;
        ends = h.annotated.tree.ends;
      };
    },
    tt,
  );
}

pub tree_typed : (m : Module) (f : TypedFn) → IsExample m → Found m 0 f → IsTypedTree (with_codes [], f ∷ [])
tree_typed m f h found = tree_of m.codes f (subst (λ x. Found x 0 f) h.parts found)
