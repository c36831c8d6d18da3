-- What is known of the globals of a module is known of those of the module without constant expressions that compute: an
-- expression that folds folds again, once it is the instruction to which it folds.
use Rattle.std.proofs.Common.{◌≡◌, ℕ, zero, suc, ◌+◌, Bool, true, false, ◌⊎◌, inl, inr, List, [], ◌∷◌, ◌++◌, map, length, Option, Some, None, option_map, refl, sym, ap, ◌∙◌, subst, arith}
use Rattle.std.specs.Prelude.{filter_map, option_and_then}
use Rattle.std.specs.List.{AllByRecursion, enumerate_from}
use Rattle.num_core.specs.declared.operators.Bin.{Bin}
use Rattle.num_core.specs.declared.operators.Width.{Width}
use Rattle.num_core.specs.declared.operators.Width.TheVariants.{W32, W64}
use Rattle.wasm_ast.specs.Fold.{folded_value, combined, after_binary, known_at, after_instr, after_code, only, fold_of, of_type, with_own, known_imports, known_globals}
use Rattle.wasm_ast.specs.Occurrence.{head, head_of}
use Rattle.wasm_ast.specs.Spaces.{is_global, imported, global_import}
use Rattle.wasm_ast.specs.declared.folding.folded.Folded.{Folded}
use Rattle.wasm_ast.specs.declared.folding.folded.Folded.TheVariants.{I32, I64, Imported}
use Rattle.wasm_ast.specs.declared.module.code.Instr.{Instr, out-Instr}
use Rattle.wasm_ast.specs.declared.module.code.Instr.TheOpen.{Instr-F}
use Rattle.wasm_ast.specs.declared.module.op.Op.TheVariants as ops
use Rattle.wasm_ast.specs.declared.module.parts.Global.{Global}
use Rattle.wasm_ast.specs.declared.module.parts.Module.{Module}
use Rattle.wasm_ast.specs.declared.module.ty.Ty.{Ty}
use Rattle.pass_plain.specs.Folding.{folded_instr, folded_global, folded_globals, folded_part, setting_code, started, without_constants}
use Rattle.pass_plain.proofs.FoldedGlobals.{out_pure, out_get, known_here, known_middle, one_longer, of_type_is}

-- what is known stays known with more behind
pub known_grows : (l more : List (Option Folded)) (x : ℕ) (v : Folded) → known_at l x ≡ Some v → known_at (l ++ more) x ≡ Some v
known_grows [] more x v e = let no : ⊥ = cc in absurd no
known_grows (k ∷ l) more zero v e = e
known_grows (k ∷ l) more (suc x) v e = known_grows l more x v e

known_split : (l : List (Option Folded)) (k : Option Folded) (x : ℕ) (v : Folded) → known_at (l ++ k ∷ []) x ≡ Some v → (known_at l x ≡ Some v) ⊎ ((x ≡ length l) × (k ≡ Some v))
known_split [] k zero v e = inr (refl, e)
known_split [] k (suc x) v e = let no : ⊥ = cc in absurd no
known_split (a ∷ l) k zero v e = inl e
known_split (a ∷ l) k (suc x) v e = one (known_split l k x v e)
  where
    one : (known_at l x ≡ Some v) ⊎ ((x ≡ length l) × (k ≡ Some v)) → (known_at l x ≡ Some v) ⊎ ((suc x ≡ suc (length l)) × (k ≡ Some v))
    one (inl f) = inl f
    one (inr f) = inr (ap suc f.0, f.1)

-- the imported global to which something folds is known
abbrev pub IsAnchored : List (Option Folded) → Folded → Type 0
IsAnchored known (Imported j t) = known_at known j ≡ Some (Imported j t)
IsAnchored known _ = Unit {0}

abbrev pub AreAnchored : List (Option Folded) → Type 0
AreAnchored known = (x : ℕ) (v : Folded) → known_at known x ≡ Some v → IsAnchored known v

-- what is known in one list is known in another
abbrev pub AreKnown : List (Option Folded) → List (Option Folded) → Type 0
AreKnown known others = (x : ℕ) (v : Folded) → known_at known x ≡ Some v → known_at others x ≡ Some v

anchored_grows : (known more : List (Option Folded)) (v : Folded) → IsAnchored known v → IsAnchored (known ++ more) v
anchored_grows known more (I32 n) h = tt
anchored_grows known more (I64 n) h = tt
anchored_grows known more (Imported j t) h = known_grows known more j (Imported j t) h

module _ (known : List (Option Folded)) (anchored : AreAnchored known) where
  abbrev A : Folded → Type 0
  A = IsAnchored known

  abbrev All : List Folded → Type 0
  All stack = AllByRecursion A stack

  narrow_anchored : (o : Option ℕ) (v : Folded) → option_map I32 o ≡ Some v → A v
  narrow_anchored None v e = let no : ⊥ = cc in absurd no
  narrow_anchored (Some n) v e = let is : I32 n ≡ v = cc in subst A is tt

  wide_anchored : (o : Option ℕ) (v : Folded) → option_map I64 o ≡ Some v → A v
  wide_anchored None v e = let no : ⊥ = cc in absurd no
  wide_anchored (Some n) v e = let is : I64 n ≡ v = cc in subst A is tt

  combined_anchored : (w : Width) (op : Bin) (x y v : Folded) → combined w op x y ≡ Some v → A v
  combined_anchored W32 op (I32 x) (I32 y) v e = narrow_anchored (folded_value 32 op x y) v e
  combined_anchored W64 op (I64 x) (I64 y) v e = wide_anchored (folded_value 64 op x y) v e
  combined_anchored W32 op (I32 x) (I64 y) v e = let no : ⊥ = cc in absurd no
  combined_anchored W32 op (I32 x) (Imported j t) v e = let no : ⊥ = cc in absurd no
  combined_anchored W32 op (I64 x) y v e = let no : ⊥ = cc in absurd no
  combined_anchored W32 op (Imported j t) y v e = let no : ⊥ = cc in absurd no
  combined_anchored W64 op (I64 x) (I32 y) v e = let no : ⊥ = cc in absurd no
  combined_anchored W64 op (I64 x) (Imported j t) v e = let no : ⊥ = cc in absurd no
  combined_anchored W64 op (I32 x) y v e = let no : ⊥ = cc in absurd no
  combined_anchored W64 op (Imported j t) y v e = let no : ⊥ = cc in absurd no

  -- one more on the stack
  pushed : (o : Option Folded) (stack after : List Folded) → ((v : Folded) → o ≡ Some v → A v) → All stack → option_map (λ v. v ∷ stack) o ≡ Some after → All after
  pushed None stack after f h e = let no : ⊥ = cc in absurd no
  pushed (Some v) stack after f h e = let is : v ∷ stack ≡ after = cc in subst All is (f v refl, h)

  binary_anchored : (w : Width) (op : Bin) (stack after : List Folded) → All stack → after_binary w op stack ≡ Some after → All after
  binary_anchored w op [] after h e = let no : ⊥ = cc in absurd no
  binary_anchored w op (y ∷ []) after h e = let no : ⊥ = cc in absurd no
  binary_anchored w op (y ∷ (x ∷ rest)) after h e = pushed (combined w op x y) rest after (combined_anchored w op x y) h.1.1 e

  instr_anchored : (l : Instr-F Instr) (stack after : List Folded) → All stack → after_instr known (head l) stack ≡ Some after → All after
  instr_anchored (Instr-F.Pure (ops.I32Const n)) stack after h e = let is : I32 n ∷ stack ≡ after = cc in subst All is (tt, h)
  instr_anchored (Instr-F.Pure (ops.I64Const n)) stack after h e = let is : I64 n ∷ stack ≡ after = cc in subst All is (tt, h)
  instr_anchored (Instr-F.Pure (ops.Binary w op)) stack after h e = binary_anchored w op stack after h e
  instr_anchored (Instr-F.Pure op) stack after h e = let no : ⊥ = cc in absurd no
  instr_anchored (Instr-F.GlobalGet x) stack after h e = pushed (known_at known x) stack after (anchored x) h e
  instr_anchored l stack after h e = let no : ⊥ = cc in absurd no

  code_anchored : (code : List Instr) (stack after : List Folded) → All stack → after_code known code stack ≡ Some after → All after
  code_anchored [] stack after h e = let is : stack ≡ after = cc in subst All is h
  code_anchored (i ∷ code) stack after h e = next (after_instr known (head_of i) stack) refl e (λ between w f. code_anchored code between after w f)
    where
      next : (o : Option (List Folded)) → after_instr known (head_of i) stack ≡ o → option_and_then (after_code known code) o ≡ Some after → ((between : List Folded) → All between → after_code known code between ≡ Some after → All after) → All after
      next None f g rest = let no : ⊥ = cc in absurd no
      next (Some between) f g rest = rest between (instr_anchored (out-Instr i) stack between h f) g

  -- an expression folds to a constant, or to an imported global that is known
  pub fold_anchored : (code : List Instr) (v : Folded) → fold_of known code ≡ Some v → A v
  fold_anchored code v e = by (after_code known code []) refl e
    where
      left : (after : List Folded) → only after ≡ Some v → All after → A v
      left [] f s = let no : ⊥ = cc in absurd no
      left (u ∷ []) f s = let is : u ≡ v = cc in subst A is s.0
      left (u ∷ (t ∷ more)) f s = let no : ⊥ = cc in absurd no

      by : (o : Option (List Folded)) → after_code known code [] ≡ o → option_and_then only o ≡ Some v → A v
      by None f g = let no : ⊥ = cc in absurd no
      by (Some after) f g = left after g (code_anchored code [] after tt f)

  module _ (others : List (Option Folded)) (still : AreKnown known others) where
    -- it folds again
    pub folds_again : (v : Folded) → A v → fold_of others (folded_instr v ∷ []) ≡ Some v
    folds_again (I32 n) h = ap (λ l. option_and_then only (option_and_then (after_code others []) (after_instr others (head l) []))) (out_pure (ops.I32Const n))
    folds_again (I64 n) h = ap (λ l. option_and_then only (option_and_then (after_code others []) (after_instr others (head l) []))) (out_pure (ops.I64Const n))
    folds_again (Imported j t) h =
        ap (λ l. option_and_then only (option_and_then (after_code others []) (after_instr others (head l) []))) (out_get j)
        ∙ ap (λ o. option_and_then only (option_and_then (after_code others []) (option_map (λ v. v ∷ []) o))) (still j (Imported j t) h)

    -- the initial value of a global does
    global_again : (g : Global) (k : Option Folded) (v : Folded) → of_type g.ty (fold_of known g.init) ≡ k → k ≡ Some v → of_type (folded_global g k).ty (fold_of others (folded_global g k).init) ≡ Some v
    global_again g None v e f = let no : ⊥ = cc in absurd no
    global_again g (Some u) v e f =
        let is : fold_of known g.init ≡ Some u = of_type_is g.ty (fold_of known g.init) u e in
        ap (of_type g.ty) (folds_again u (fold_anchored g.init u is) ∙ sym is) ∙ e ∙ f

-- with one global more
anchored_next : (known : List (Option Folded)) (k : Option Folded) → AreAnchored known → ((v : Folded) → k ≡ Some v → IsAnchored known v) → AreAnchored (known ++ k ∷ [])
anchored_next known k h here x v e = anchored_grows known (k ∷ []) v (by (known_split known k x v e))
  where
    by : (known_at known x ≡ Some v) ⊎ ((x ≡ length known) × (k ≡ Some v)) → IsAnchored known v
    by (inl f) = h x v f
    by (inr f) = here v f.1

known_next : (known others : List (Option Folded)) (k k' : Option Folded) → length others ≡ length known → AreKnown known others → ((v : Folded) → k ≡ Some v → k' ≡ Some v) → AreKnown (known ++ k ∷ []) (others ++ k' ∷ [])
known_next known others k k' c h here x v e = by (known_split known k x v e)
  where
    by : (known_at known x ≡ Some v) ⊎ ((x ≡ length known) × (k ≡ Some v)) → known_at (others ++ k' ∷ []) x ≡ Some v
    by (inl f) = known_grows others (k' ∷ []) x v (h x v f)
    by (inr f) = ap (known_at (others ++ k' ∷ [])) (f.0 ∙ sym c) ∙ known_middle others [] k' ∙ here v f.1

own_anchored : (known : List (Option Folded)) (g : Global) → AreAnchored known → (v : Folded) → of_type g.ty (fold_of known g.init) ≡ Some v → IsAnchored known v
own_anchored known g h v e = fold_anchored known h g.init v (of_type_is g.ty (fold_of known g.init) v e)

all_anchored : (known : List (Option Folded)) (gs : List Global) → AreAnchored known → AreAnchored (with_own known gs)
all_anchored known [] h = h
all_anchored known (g ∷ gs) h = all_anchored (known ++ of_type g.ty (fold_of known g.init) ∷ []) gs (anchored_next known (of_type g.ty (fold_of known g.init)) h (own_anchored known g h))

all_known : (all known others : List (Option Folded)) (gs : List Global) (x : ℕ) → with_own known gs ≡ all → x ≡ length known → length others ≡ length known → AreAnchored known → AreKnown known others → AreKnown all (with_own others (folded_globals all x gs))
all_known all known others [] x e c d a h = subst (λ l. AreKnown l others) e h
all_known all known others (g ∷ gs) x e c d a h =
    let k = of_type g.ty (fold_of known g.init) in
    let here : known_at all x ≡ k = ap (known_at all) c ∙ known_here known all g gs e in
    let new = folded_global g (known_at all x) in
    let k' = of_type new.ty (fold_of others new.init) in
    all_known all (known ++ k ∷ []) (others ++ k' ∷ []) gs (x + 1) e (ap (λ n. n + 1) c ∙ sym (one_longer known k)) (one_longer others k' ∙ ap (λ n. n + 1) d ∙ sym (one_longer known k))
    (anchored_next known k a (own_anchored known g a))
    (known_next known others k k' d h (λ v f. global_again known a others h g (known_at all x) v (sym here) (here ∙ f)))

-- imported globals fold to themselves
import_at : (ts : List Ty) (n x : ℕ) (v : Folded) → known_at (map (λ p. Some (Imported p.0 p.1)) (enumerate_from n ts)) x ≡ Some v → (t : Ty) × (v ≡ Imported (n + x) t)
import_at [] n x v e = let no : ⊥ = cc in absurd no
import_at (t ∷ ts) n zero v e = let is : Imported n t ≡ v = cc in let sum : n + 0 ≡ n = omega arith in (t, sym is ∙ ap (λ j. Imported j t) (sym sum))
import_at (t ∷ ts) n (suc x) v e =
    let rest = import_at ts (n + 1) x v e in
    let sum : n + 1 + x ≡ n + suc x = omega arith in
    (rest.0, rest.1 ∙ ap (λ j. Imported j rest.0) sum)

imports_anchored : (ts : List Ty) → AreAnchored (known_imports ts)
imports_anchored ts x v e =
    let is = import_at ts 0 x v e in
    let sum : 0 + x ≡ x = omega arith in
    let same : v ≡ Imported x is.0 = is.1 ∙ ap (λ j. Imported j is.0) sum in
    subst (IsAnchored (known_imports ts)) (sym same) (e ∙ ap Some same)

module _ (m : Module) where
  abbrev types_of : List Ty
  types_of = filter_map (λ i. global_import i.desc) m.imports

  pub globals_anchored : AreAnchored (known_globals m)
  globals_anchored = all_anchored (known_imports types_of) m.globals (imports_anchored types_of)

  module _ (counted : imported is_global m ≡ length (known_imports types_of)) where
    part_known : AreKnown (known_globals m) (known_globals (folded_part m))
    part_known = all_known (known_globals m) (known_imports types_of) (known_imports types_of) m.globals (imported is_global m) refl counted refl (imports_anchored types_of) (λ x v e. e)

    pub known_by : (code : List Instr) → AreKnown (known_globals m) (known_globals (started m code))
    known_by [] = part_known
    known_by (i ∷ code) = part_known

    -- The lemma.
    pub still_known : AreKnown (known_globals m) (known_globals (without_constants m))
    still_known = known_by (setting_code m)
