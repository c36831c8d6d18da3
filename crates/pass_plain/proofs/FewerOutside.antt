-- A module without constant expressions that compute has no feature outside the profile that it did not have before, where no
-- exceptions are left.
use Rattle.std.proofs.Common.{◌≡◌, ℕ, zero, suc, Bool, false, true, not, ◌||◌, ◌⊎◌, inl, inr, List, [], ◌∷◌, length, Option, Some, None, refl, ap, ◌∙◌}
use Rattle.std.specs.Prelude.{slice_get, nat_eq}
use Rattle.std.specs.List.{list_any, AllByRecursion}
use Rattle.wasm_ast.specs.Features.{type_shows, shows}
use Rattle.wasm_ast.specs.Has.{has_of, imports_some, names_exnref, is_exnref_type, imports_type, passes_at, exports_type, meets_type}
use Rattle.wasm_ast.specs.Outside.{outside_features}
use Rattle.wasm_ast.specs.Places.{func_type_shows, global_import_shows, declares, holds, anywhere}
use Rattle.wasm_ast.specs.Spaces.{func_indices, is_tag}
use Rattle.wasm_ast.specs.declared.features.kind.Feature.{Feature}
use Rattle.wasm_ast.specs.declared.features.kind.Feature.TheVariants as features
use Rattle.wasm_ast.specs.declared.module.parts.Export.{Export}
use Rattle.wasm_ast.specs.declared.module.parts.ExportDesc.{ExportDesc}
use Rattle.wasm_ast.specs.declared.module.parts.ExportDesc.TheVariants as exports
use Rattle.wasm_ast.specs.declared.module.parts.Import.{Import}
use Rattle.wasm_ast.specs.declared.module.parts.ImportDesc.{ImportDesc}
use Rattle.wasm_ast.specs.declared.module.parts.ImportDesc.TheVariants as imports
use Rattle.wasm_ast.specs.declared.module.parts.Module.{Module}
use Rattle.wasm_ast.specs.declared.module.ty.FuncType.{FuncType}
use Rattle.pass_plain.specs.Folding.{without_constants}
use Rattle.pass_plain.proofs.FewerFeatures.{is_told_apart, fewer_features}
use Rattle.pass_plain.proofs.NothingNew.{none_of, both_none}

-- a test that no type passes
module _ (p : ℕ → Bool) (none : (t : ℕ) → p t ≡ false) where
  import_none : (d : ImportDesc) → imports_type p d ≡ false
  import_none (imports.Func t) = none t
  import_none (imports.Tag t) = none t
  import_none (imports.Table t l) = refl
  import_none (imports.Memory l) = refl
  import_none (imports.Global t mutable) = refl

  imports_none : (is : List Import) → list_any (λ i. imports_type p i.desc) is ≡ false
  imports_none [] = refl
  imports_none (i ∷ is) = both_none (imports_type p i.desc) (list_any (λ j. imports_type p j.desc) is) (import_none i.desc) (imports_none is)

  tags_none : (ts : List ℕ) → list_any p ts ≡ false
  tags_none [] = refl
  tags_none (t ∷ ts) = both_none (p t) (list_any p ts) (none t) (tags_none ts)

  at_none : (i : Option ℕ) → passes_at p i ≡ false
  at_none None = refl
  at_none (Some t) = none t

  export_none : (indices : List ℕ) (d : ExportDesc) → exports_type p indices d ≡ false
  export_none indices (exports.Func x) = at_none (slice_get indices x)
  export_none indices (exports.Table x) = refl
  export_none indices (exports.Memory x) = refl
  export_none indices (exports.Global x) = refl
  export_none indices (exports.Tag x) = refl

  exports_none : (indices : List ℕ) (es : List Export) → list_any (λ e. exports_type p indices e.desc) es ≡ false
  exports_none indices [] = refl
  exports_none indices (e ∷ es) = both_none (exports_type p indices e.desc) (list_any (λ i. exports_type p indices i.desc) es) (export_none indices e.desc) (exports_none indices es)

  meets_none : (q : Module) → meets_type p q ≡ false
  meets_none q =
      both_none (imports_some (imports_type p) q || list_any p q.tags) (list_any (λ e. exports_type p (func_indices q) e.desc) q.exports)
      (both_none (imports_some (imports_type p) q) (list_any p q.tags) (imports_none q.imports) (tags_none q.tags)) (exports_none (func_indices q) q.exports)

-- where no type is exnref, none meets the host
named_none : (ts : List FuncType) → list_any (func_type_shows features.Exceptions) ts ≡ false → (t : ℕ) → names_exnref (slice_get ts t) ≡ false
named_none [] e t = refl
named_none (u ∷ ts) e zero = (none_of (func_type_shows features.Exceptions u) (list_any (func_type_shows features.Exceptions) ts) e).0
named_none (u ∷ ts) e (suc t) = named_none ts (none_of (func_type_shows features.Exceptions u) (list_any (func_type_shows features.Exceptions) ts) e).1 t

pub host_none : (q : Module) → has_of q features.Exceptions ≡ false → has_of q features.HostExnref ≡ false
host_none q e =
    let tags = not (nat_eq (length q.tags) 0) || imports_some is_tag q in
    let places = none_of (tags || declares features.Exceptions q || holds features.Exceptions q) (anywhere (shows features.Exceptions) q) e in
    let types = none_of (tags || declares features.Exceptions q) (holds features.Exceptions q) places.0 in
    let declared = none_of tags (declares features.Exceptions q) types.0 in
    let first = list_any (func_type_shows features.Exceptions) q.types in
    let second = list_any (λ i. global_import_shows features.Exceptions i.desc) q.imports in
    let third = list_any (λ g. type_shows features.Exceptions g.ty) q.globals in
    let parts = none_of (first || second || third) (list_any (λ b. list_any (type_shows features.Exceptions) b.locals) q.codes) declared.1 in
    let both = none_of (first || second) third parts.0 in
    let funcs = none_of first second both.0 in
    meets_none (is_exnref_type q) (named_none q.types funcs.0) q

module _ (m : Module) (gone : has_of m features.Exceptions ≡ false) where
  abbrev o : Module
  o = without_constants m

  -- the features of the profile's list
  fewer_here : (f : Feature) → (is_told_apart f ≡ true) ⊎ (f ≡ features.HostExnref) → has_of m f ≡ false → has_of o f ≡ false
  fewer_here f (inl h) e = fewer_features m f h e
  fewer_here f (inr h) e = ap (has_of o) h ∙ host_none o (fewer_features m features.Exceptions refl gone)

  fewer_all : (fs : List Feature) → AllByRecursion (λ f. (is_told_apart f ≡ true) ⊎ (f ≡ features.HostExnref)) fs → list_any (has_of m) fs ≡ false → list_any (has_of o) fs ≡ false
  fewer_all [] h e = refl
  fewer_all (f ∷ fs) h e =
      let both = none_of (has_of m f) (list_any (has_of m) fs) e in
      both_none (has_of o f) (list_any (has_of o) fs) (fewer_here f h.0 both.0) (fewer_all fs h.1 both.1)

  -- The lemma.
  pub still_inside : list_any (has_of m) outside_features ≡ false → list_any (has_of o) outside_features ≡ false
  still_inside =
      fewer_all outside_features (inl refl, (inl refl, (inl refl, (inl refl, (inl refl, (inl refl, (inl refl, (inl refl, (inl refl, (inl refl, (inr refl, tt)))))))))))
