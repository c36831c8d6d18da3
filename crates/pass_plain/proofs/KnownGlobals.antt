-- What the globals of a typed module are known to fold to is of their types, and an imported global is one that cannot be
-- changed.
use Rattle.std.proofs.Common.{◌≡◌, ℕ, zero, suc, ◌+◌, Bool, true, false, List, [], ◌∷◌, ◌++◌, map, length, filter_map, Option, Some, None, refl, sym, ap, ◌∙◌, subst}
use Rattle.std.specs.Prelude.{slice_get, if◌then◌else◌}
use Rattle.std.specs.List.{AllByRecursion, list_any, enumerate_from, cons_option}
use Rattle.std.proofs.lemmas.List.{append-nil, append_assoc}
use Rattle.host_kit.specs.Pairwise.{Pairwise}
use Rattle.wasm_ast.specs.Fold.{folded_type, known_at, fold_of, of_type, known_imports, with_own, known_globals}
use Rattle.wasm_ast.specs.Has.{is_mutable_global}
use Rattle.wasm_ast.specs.Spaces as spaces
use Rattle.wasm_ast.specs.declared.folding.folded.Folded.{Folded}
use Rattle.wasm_ast.specs.declared.folding.folded.Folded.TheVariants.{I32, I64, Imported}
use Rattle.wasm_ast.specs.declared.module.ty.Ty.{Ty}
use Rattle.wasm_ast.specs.declared.module.parts.Global.{Global}
use Rattle.wasm_ast.specs.declared.module.parts.Import.{Import}
use Rattle.wasm_ast.specs.declared.module.parts.ImportDesc.{ImportDesc}
use Rattle.wasm_ast.specs.declared.module.parts.ImportDesc.TheVariants as imports
use Rattle.wasm_ast.specs.declared.module.parts.Module.{Module}
use Rattle.typed_trees.specs.declared.global_type.GlobalType.{GlobalType}
use Rattle.typed_trees.specs.Modules.{early_context, imported_of, global_import, global_type, all_globals, TypedGlobals}
use Rattle.pass_plain.proofs.ConstantFlow.{constant_flows}
use Rattle.pass_plain.proofs.FoldedGlobals.{pairs_append, of_type_is, one_longer}
use Rattle.pass_plain.proofs.FoldedTypes.{fold_typed}

-- an imported global of a type, which cannot be changed
abbrev pub fixed : Ty → GlobalType
fixed t = record { ty = t; mutable = false }

-- by the types of the imported globals
abbrev pub Lies : List GlobalType → Folded → Type 0
Lies imported (I32 n) = Unit {0}
Lies imported (I64 n) = Unit {0}
Lies imported (Imported j t) = slice_get imported j ≡ Some (fixed t)

abbrev pub Told : List GlobalType → Option Folded → GlobalType → Type 0
Told imported (Some v) g = Lies imported v × (folded_type v ≡ g.ty)
Told imported None g = Unit {0}

-- what is told at an index
pub told_at : (imported : List GlobalType) (known : List (Option Folded)) (before : List GlobalType) → Pairwise (Told imported) known before → (x : ℕ) (v : Folded) → known_at known x ≡ Some v → Lies imported v
told_at imported [] before h x v e = let no : ⊥ = cc in absurd no
told_at imported (k ∷ known) [] h x v e = absurd h
told_at imported (k ∷ known) (g ∷ before) h zero v e = (subst (λ i. Told imported i g) e h.0).0
told_at imported (k ∷ known) (g ∷ before) h (suc x) v e = told_at imported known before h.1 x v e

pub type_at : (imported : List GlobalType) (known : List (Option Folded)) (before : List GlobalType) → Pairwise (Told imported) known before → (x : ℕ) (v : Folded) (g : GlobalType) → known_at known x ≡ Some v → slice_get before x ≡ Some g → folded_type v ≡ g.ty
type_at imported [] before h x v g e f = let no : ⊥ = cc in absurd no
type_at imported (k ∷ known) [] h x v g e f = absurd h
type_at imported (k ∷ known) (u ∷ before) h zero v g e f =
    let is : u ≡ g = cc in
    (subst (λ i. Told imported i u) e h.0).1 ∙ ap (λ w. w.ty) is
type_at imported (k ∷ known) (u ∷ before) h (suc x) v g e f = type_at imported known before h.1 x v g e f

-- an expression over globals of which that is known
pub told_of : (imported : List GlobalType) (m : Module) (known : List (Option Folded)) (before : List GlobalType) → Pairwise (Told imported) known before → (g : Global) → TypedGlobals m before (g ∷ []) → Told imported (of_type g.ty (fold_of known g.init)) (global_type g)
told_of imported m known before p g h = by (of_type g.ty (fold_of known g.init)) refl
  where
    by : (o : Option Folded) → of_type g.ty (fold_of known g.init) ≡ o → Told imported o (global_type g)
    by None e = tt
    by (Some v) e =
        fold_typed (Lies imported) (λ n. tt) (λ n. tt) (early_context m before) known (told_at imported known before p) (type_at imported known before p)
        g.init g.ty v (constant_flows (early_context m before) g.init g.ty h.0.init) (of_type_is g.ty (fold_of known g.init) v e)

-- the module's own globals
own_told : (imported : List GlobalType) (m : Module) (known : List (Option Folded)) (before : List GlobalType) (gs : List Global) → TypedGlobals m before gs → Pairwise (Told imported) known before → Pairwise (Told imported) (with_own known gs) (before ++ map global_type gs)
own_told imported m known before [] h p = subst (Pairwise (Told imported) known) (sym (append-nil before)) p
own_told imported m known before (g ∷ gs) h p =
    let k = of_type g.ty (fold_of known g.init) in
    subst (Pairwise (Told imported) (with_own (known ++ k ∷ []) gs)) (append_assoc before (global_type g ∷ []) (map global_type gs))
    (own_told imported m (known ++ k ∷ []) (before ++ global_type g ∷ []) gs h.1 (pairs_append (Told imported) known before k (global_type g) p (told_of imported m known before p g (h.0, tt))))

-- imported globals
middle : (front rest : List GlobalType) (g : GlobalType) → slice_get (front ++ g ∷ rest) (length front) ≡ Some g
middle [] rest g = refl
middle (f ∷ front) rest g = middle front rest g

imports_told : (front rest : List GlobalType) → AllByRecursion (λ g. g.mutable ≡ false) rest → Pairwise (Told (front ++ rest)) (map (λ p. Some (Imported p.0 p.1)) (enumerate_from (length front) (map (λ g. g.ty) rest))) rest
imports_told front [] h = tt
imports_told front (g ∷ rest) h = (
  (middle front rest g ∙ ap (λ b. Some (record { ty = g.ty; mutable = b })) h.0, refl),
  subst (λ l. Pairwise (Told l) (map (λ p. Some (Imported p.0 p.1)) (enumerate_from (length front + 1) (map (λ w. w.ty) rest))) rest) (append_assoc front (g ∷ []) rest)
      (subst (λ n. Pairwise (Told ((front ++ g ∷ []) ++ rest)) (map (λ p. Some (Imported p.0 p.1)) (enumerate_from n (map (λ w. w.ty) rest))) rest) (one_longer front g)
      (imports_told (front ++ g ∷ []) rest h.1)),
)

pub imported_types : (is : List Import) → filter_map (λ i. spaces.global_import i.desc) is ≡ map (λ g. g.ty) (filter_map (λ i. global_import i.desc) is)
imported_types [] = refl
imported_types (i ∷ is) = one _ _ i.desc (imported_types is)
  where
    one : (ts : List Ty) (gs : List GlobalType) (d : ImportDesc) → ts ≡ map (λ g. g.ty) gs → cons_option (spaces.global_import d) ts ≡ map (λ g. g.ty) (cons_option (global_import d) gs)
    one ts gs (imports.Global t mutable) e = ap (λ l. t ∷ l) e
    one ts gs (imports.Func t) e = e
    one ts gs (imports.Table t l) e = e
    one ts gs (imports.Memory l) e = e
    one ts gs (imports.Tag t) e = e

imports_fixed : (is : List Import) → AllByRecursion (λ i. is_mutable_global i.desc ≡ false) is → AllByRecursion (λ g. g.mutable ≡ false) (filter_map (λ i. global_import i.desc) is)
imports_fixed [] h = tt
imports_fixed (i ∷ is) h = one _ i.desc h.0 (imports_fixed is h.1)
  where
    one : (gs : List GlobalType) (d : ImportDesc) → is_mutable_global d ≡ false → AllByRecursion (λ g. g.mutable ≡ false) gs → AllByRecursion (λ g. g.mutable ≡ false) (cons_option (global_import d) gs)
    one gs (imports.Global t mutable) e h = (e, h)
    one gs (imports.Func t) e h = h
    one gs (imports.Table t l) e h = h
    one gs (imports.Memory l) e h = h
    one gs (imports.Tag t) e h = h

-- The lemma.
pub globals_told : (m : Module) → AllByRecursion (λ i. is_mutable_global i.desc ≡ false) m.imports → TypedGlobals m (imported_of global_import m) m.globals → Pairwise (Told (imported_of global_import m)) (known_globals m) (all_globals m)
globals_told m fix typed =
    let imported = imported_of global_import m in
    own_told imported m (known_imports (filter_map (λ i. spaces.global_import i.desc) m.imports)) imported m.globals typed
    (subst (λ ts. Pairwise (Told imported) (known_imports ts) imported) (sym (imported_types m.imports)) (imports_told [] imported (imports_fixed m.imports fix)))
