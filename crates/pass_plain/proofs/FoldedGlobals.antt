-- The globals of a module and of one without constant expressions that compute: those that fold have the same values in
-- both, and code gives the others theirs.
use Rattle.std.proofs.Common.{◌≡◌, ℕ, suc, ◌+◌, ◌<◌, Bool, true, false, List, [], ◌∷◌, ◌++◌, map, length, Option, Some, None, refl, sym, ap, ◌∙◌, subst, arith, append-nil, if◌then◌else◌}
use Rattle.std.specs.Prelude.{set, slice_index_or}
use Rattle.std.specs.List.{AllByRecursion, enumerate_from}
use Rattle.std.proofs.lemmas.List.{append_assoc, length-append}
use Rattle.host_kit.specs.Pairwise.{Pairwise}
use Rattle.wasm_ast.specs.Fold.{folded_type, known_at, fold_of, of_type, with_own}
use Rattle.wasm_ast.specs.Types.{same_type}
use Rattle.wasm_ast.specs.declared.folding.folded.Folded.{Folded}
use Rattle.wasm_ast.specs.declared.folding.folded.Folded.TheVariants.{I32, I64, Imported}
use Rattle.wasm_ast.specs.declared.module.code.Instr.{out-Instr, roll-Instr, out-roll-Instr}
use Rattle.wasm_ast.specs.declared.module.code.Instr.TheOpen.{Instr-F}
use Rattle.wasm_ast.specs.declared.module.code.Instr.TheVariants.{Pure, GlobalGet, GlobalSet}
use Rattle.wasm_ast.specs.declared.module.op.Op.{Op}
use Rattle.wasm_ast.specs.declared.module.op.Op.TheVariants as ops
use Rattle.wasm_ast.specs.declared.module.parts.Global.{Global}
use Rattle.wasm_ast.specs.declared.module.ty.Ty.{Ty}
use Rattle.meaning_new.specs.declared.val.Val.{Val}
use Rattle.meaning_new.specs.Store.{missing}
use Rattle.meaning_new.specs.Instances.{constant_step, constant, with_globals}
use Rattle.evaluation_kit.specs.Leaves.{top}
use Rattle.stage_kit.proofs.Appending.{index_append}
use Rattle.pass_plain.specs.Constants.{folded_value, IsWithin, Tells, CodeInRange}
use Rattle.pass_plain.specs.Folding.{folded_instr}
use Rattle.pass_plain.proofs.FoldedValues.{fold_gives}

-- an instruction as one layer
pub rolled_pure : (op : Op) → roll-Instr (Instr-F.Pure op) ≡ Pure op
unfolding roll-Instr denote.Hole.Carrier.roll
rolled_pure op = refl

pub rolled_get : (x : ℕ) → roll-Instr (Instr-F.GlobalGet x) ≡ GlobalGet x
unfolding roll-Instr denote.Hole.Carrier.roll
rolled_get x = refl

pub rolled_set : (x : ℕ) → roll-Instr (Instr-F.GlobalSet x) ≡ GlobalSet x
unfolding roll-Instr denote.Hole.Carrier.roll
rolled_set x = refl

pub out_pure : (op : Op) → out-Instr (Pure op) ≡ Instr-F.Pure op
out_pure op = ap out-Instr (sym (rolled_pure op)) ∙ out-roll-Instr (Instr-F.Pure op)

pub out_get : (x : ℕ) → out-Instr (GlobalGet x) ≡ Instr-F.GlobalGet x
out_get x = ap out-Instr (sym (rolled_get x)) ∙ out-roll-Instr (Instr-F.GlobalGet x)

pub out_set : (x : ℕ) → out-Instr (GlobalSet x) ≡ Instr-F.GlobalSet x
out_set x = ap out-Instr (sym (rolled_set x)) ∙ out-roll-Instr (Instr-F.GlobalSet x)

-- places in lists
pub pairs_append : {A B : Type 0} (R : A → B → Type 0) (xs : List A) (ys : List B) (x : A) (y : B) → Pairwise R xs ys → R x y → Pairwise R (xs ++ x ∷ []) (ys ++ y ∷ [])
pairs_append R [] [] x y h r = (r, tt)
pairs_append R [] (b ∷ ys) x y h r = absurd h
pairs_append R (a ∷ xs) [] x y h r = absurd h
pairs_append R (a ∷ xs) (b ∷ ys) x y h r = (h.0, pairs_append R xs ys x y h.1 r)

pub pairs_count : {A B : Type 0} (R : A → B → Type 0) (xs : List A) (ys : List B) → Pairwise R xs ys → length xs ≡ length ys
pairs_count R [] [] h = refl
pairs_count R [] (b ∷ ys) h = absurd h
pairs_count R (a ∷ xs) [] h = absurd h
pairs_count R (a ∷ xs) (b ∷ ys) h = ap suc (pairs_count R xs ys h.1)

index_middle : (l more : List Val) (v : Val) → slice_index_or (l ++ v ∷ more) (length l) missing ≡ v
index_middle [] more v = refl
index_middle (a ∷ l) more v = index_middle l more v

pub known_middle : (l more : List (Option Folded)) (k : Option Folded) → known_at (l ++ k ∷ more) (length l) ≡ k
known_middle [] more k = refl
known_middle (a ∷ l) more k = known_middle l more k

pub set_middle : (l more : List Val) (u v : Val) → set (l ++ v ∷ more) (length l) u ≡ (l ++ u ∷ []) ++ more
set_middle [] more u v = refl
set_middle (a ∷ l) more u v = ap (λ r. a ∷ r) (set_middle l more u v)

pub one_longer : {A : Type 0} (l : List A) (a : A) → length (l ++ a ∷ []) ≡ length l + 1
one_longer l a = length-append l (a ∷ [])

-- an initial value that folds is of the type of its global
pub of_type_is : (t : Ty) (o : Option Folded) (v : Folded) → of_type t o ≡ Some v → o ≡ Some v
of_type_is t None v e = let no : ⊥ = cc in absurd no
of_type_is t (Some u) v e = one (same_type t (folded_type u)) e
  where
    one : (b : Bool) → (if b then Some u else None) ≡ Some v → Some u ≡ Some v
    one true f = f
    one false f = let no : ⊥ = cc in absurd no

-- what is known of globals stands before what is known of those behind
own_more : (known : List (Option Folded)) (gs : List Global) → (more : List (Option Folded)) × (with_own known gs ≡ known ++ more)
own_more known [] = ([], sym (append-nil known))
own_more known (g ∷ gs) =
    let k = of_type g.ty (fold_of known g.init) in
    let rest = own_more (known ++ k ∷ []) gs in
    (k ∷ rest.0, rest.1 ∙ append_assoc known (k ∷ []) rest.0)

pub known_here : (known all : List (Option Folded)) (g : Global) (gs : List Global) → with_own known (g ∷ gs) ≡ all → known_at all (length known) ≡ of_type g.ty (fold_of known g.init)
known_here known all g gs e =
    let k = of_type g.ty (fold_of known g.init) in
    let rest = own_more (known ++ k ∷ []) gs in
    ap (λ l. known_at l (length known)) (sym e ∙ rest.1 ∙ append_assoc known (k ∷ []) rest.0) ∙ known_middle known rest.0 k

-- imported globals are what is known of them
pub imports_tell : (front rest : List Val) (ts : List Ty) → length ts ≡ length rest → Pairwise (Tells (front ++ rest)) (map (λ p. Some (Imported p.0 p.1)) (enumerate_from (length front) ts)) rest
imports_tell front [] [] e = tt
imports_tell front [] (t ∷ ts) e = let no : ⊥ = cc in absurd no
imports_tell front (v ∷ rest) [] e = let no : ⊥ = cc in absurd no
imports_tell front (v ∷ rest) (t ∷ ts) e =
    let f : length ts ≡ length rest = omega (arith, e) in
    let there : length front < length (front ++ v ∷ rest) = let c = length-append front (v ∷ rest) in omega (arith, c) in (
      (there, sym (index_middle front rest v)),
      subst (λ l. Pairwise (Tells l) (map (λ p. Some (Imported p.0 p.1)) (enumerate_from (length front + 1) ts)) rest) (append_assoc front (v ∷ []) rest)
          (subst (λ n. Pairwise (Tells ((front ++ v ∷ []) ++ rest)) (map (λ p. Some (Imported p.0 p.1)) (enumerate_from n ts)) rest) (one_longer front v)
          (imports_tell (front ++ v ∷ []) rest ts f)),
    )

module _ (imports : List Val) where
  abbrev T : Option Folded → Val → Type 0
  T = Tells imports

  -- the initial value of a global of the input, where what is known holds of the globals before it
  pub own_tells : (known : List (Option Folded)) (before : List Val) (g : Global) → CodeInRange g.init → Pairwise T known before → T (of_type g.ty (fold_of known g.init)) (constant before g.init)
  own_tells known before g r h = by (of_type g.ty (fold_of known g.init)) refl
    where
      by : (o : Option Folded) → of_type g.ty (fold_of known g.init) ≡ o → T o (constant before g.init)
      by None e = tt
      by (Some v) e = fold_gives imports known before h g.init v r (of_type_is g.ty (fold_of known g.init) v e)

  pub inputs_tell : (known : List (Option Folded)) (before : List Val) (gs : List Global) → AllByRecursion (λ g. CodeInRange g.init) gs → Pairwise T known before → Pairwise T (with_own known gs) (with_globals gs before)
  inputs_tell known before [] r h = h
  inputs_tell known before (g ∷ gs) r h =
      inputs_tell (known ++ of_type g.ty (fold_of known g.init) ∷ []) (before ++ constant before g.init ∷ []) gs r.1
      (pairs_append T known before (of_type g.ty (fold_of known g.init)) (constant before g.init) h (own_tells known before g r.0 h))

  -- the value of the instruction to which an expression folds
  pub folded_constant : (rest : List Val) (v : Folded) → IsWithin imports v → constant (imports ++ rest) (folded_instr v ∷ []) ≡ folded_value imports v
  folded_constant rest (I32 n) h = ap (λ l. top missing (constant_step (imports ++ rest) l [])) (out_pure (ops.I32Const n))
  folded_constant rest (I64 n) h = ap (λ l. top missing (constant_step (imports ++ rest) l [])) (out_pure (ops.I64Const n))
  folded_constant rest (Imported j t) h = ap (λ l. top missing (constant_step (imports ++ rest) l [])) (out_get j) ∙ index_append missing imports rest j h
