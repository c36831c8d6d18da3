-- An expression that folds gives the value to which it folds, wherever the globals have the values that are known of them.
use Rattle.std.proofs.Common.{◌≡◌, ℕ, zero, suc, ◌+◌, ◌*◌, ◌-◌, ◌^◌, ◌<◌, List, [], ◌∷◌, map, Option, Some, None, option_map, refl, sym, ap, ◌∙◌, subst}
use Rattle.std.specs.Prelude.{slice_index_or, option_and_then}
use Rattle.std.specs.List.{AllByRecursion}
use Rattle.std.proofs.Math.Nat.{mod-eq_of_lt}
use Rattle.host_kit.specs.Pairwise.{Pairwise}
use Rattle.num_core.specs.declared.operators.Bin.{Bin}
use Rattle.num_core.specs.declared.operators.Bin.TheVariants.{Add, Sub, Mul}
use Rattle.num_core.specs.declared.operators.Width.{Width}
use Rattle.num_core.specs.declared.operators.Width.TheVariants.{W32, W64}
use Rattle.num_core.specs.Integers.{bits, wrap, add_of, sub_of, mul_of, binary}
use Rattle.num_core.proofs.Ranges.{wrap_below}
use Rattle.wasm_ast.specs.Fold.{folded_value as folded_number, combined, after_binary, known_at, after_instr, after_code, only, fold_of}
use Rattle.wasm_ast.specs.Occurrence.{head, head_of}
use Rattle.wasm_ast.specs.declared.folding.folded.Folded.{Folded}
use Rattle.wasm_ast.specs.declared.folding.folded.Folded.TheVariants.{I32, I64, Imported}
use Rattle.wasm_ast.specs.declared.module.code.Instr.{Instr, out-Instr}
use Rattle.wasm_ast.specs.declared.module.code.Instr.TheOpen.{Instr-F}
use Rattle.wasm_ast.specs.declared.module.op.Op.TheVariants as ops
use Rattle.evaluation_kit.specs.Leaves.{top}
use Rattle.meaning_new.specs.declared.val.Val.{Val}
use Rattle.meaning_new.specs.Store.{missing, int}
use Rattle.meaning_new.specs.Instances.{or_same, constant_step, constant_steps, constant}
use Rattle.pass_plain.specs.Constants.{folded_value, IsWithin, Tells, InstrInRange, CodeInRange}

-- numbers of a width are their lowest bits
kept_bits : (n i : ℕ) → i < 2 ^ n → wrap n i ≡ i
kept_bits n i lt = mod-eq_of_lt lt

module _ (imports : List Val) where
  abbrev V : Folded → Val
  V = folded_value imports

  abbrev Within : List Folded → Type 0
  Within stack = AllByRecursion (IsWithin imports) stack

  -- what is known at an index
  pub tells_at : (known : List (Option Folded)) (globals : List Val) → Pairwise (Tells imports) known globals → (x : ℕ) (v : Folded) → known_at known x ≡ Some v → IsWithin imports v × (slice_index_or globals x missing ≡ V v)
  tells_at [] [] h x v e = let no : ⊥ = cc in absurd no
  tells_at [] (g ∷ globals) h x v e = absurd h
  tells_at (k ∷ known) [] h x v e = absurd h
  tells_at (k ∷ known) (g ∷ globals) h zero v e = subst (λ i. Tells imports i g) e h.0
  tells_at (k ∷ known) (g ∷ globals) h (suc x) v e = tells_at known globals h.1 x v e

  -- what an instruction does to folded operands and to their values
  record Steps (operands after : List Val) (stack : List Folded) : Type 0 where
    within : Within stack
    values : after ≡ map V stack

  -- an operator that folds, at a width
  module _ (w : Width) (make : ℕ → Folded) (from : (n : ℕ) → V (make n) ≡ int w n) (ranged : (n : ℕ) → n < 2 ^ bits w → IsWithin imports (make n)) where
    folds_binary : (op : Bin) (x y : ℕ) → x < 2 ^ bits w → y < 2 ^ bits w → (v : Folded) → option_map make (folded_number (bits w) op x y) ≡ Some v
        → IsWithin imports v × (option_map (int w) (binary w op (wrap (bits w) x) (wrap (bits w) y)) ≡ Some (V v))
    folds_binary Add x y lx ly v e =
        let is : make (add_of (bits w) x y) ≡ v = cc in (
          subst (IsWithin imports) is (ranged (add_of (bits w) x y) (wrap_below (bits w) (x + y))),
          ap (λ i. Some (int w (add_of (bits w) i (wrap (bits w) y)))) (kept_bits (bits w) x lx) ∙ ap (λ i. Some (int w (add_of (bits w) x i))) (kept_bits (bits w) y ly) ∙ ap Some (sym (from (add_of (bits w) x y)) ∙ ap V is),
        )
    folds_binary Sub x y lx ly v e =
        let is : make (sub_of (bits w) x y) ≡ v = cc in (
          subst (IsWithin imports) is (ranged (sub_of (bits w) x y) (wrap_below (bits w) (x + (2 ^ bits w - y)))),
          ap (λ i. Some (int w (sub_of (bits w) i (wrap (bits w) y)))) (kept_bits (bits w) x lx) ∙ ap (λ i. Some (int w (sub_of (bits w) x i))) (kept_bits (bits w) y ly) ∙ ap Some (sym (from (sub_of (bits w) x y)) ∙ ap V is),
        )
    folds_binary Mul x y lx ly v e =
        let is : make (mul_of (bits w) x y) ≡ v = cc in (
          subst (IsWithin imports) is (ranged (mul_of (bits w) x y) (wrap_below (bits w) (x * y))),
          ap (λ i. Some (int w (mul_of (bits w) i (wrap (bits w) y)))) (kept_bits (bits w) x lx) ∙ ap (λ i. Some (int w (mul_of (bits w) x i))) (kept_bits (bits w) y ly) ∙ ap Some (sym (from (mul_of (bits w) x y)) ∙ ap V is),
        )
    folds_binary op x y lx ly v e = let no : ⊥ = cc in absurd no

  module _ (known : List (Option Folded)) (globals : List Val) (tells : Pairwise (Tells imports) known globals) where
    -- a binary operator over two folded operands, and over any
    two_folded : (w : Width) (op : Bin) (x y : Folded) (rest after : List Folded) → IsWithin imports x → IsWithin imports y → Within rest → option_map (λ v. v ∷ rest) (combined w op x y) ≡ Some after → Steps (map V (y ∷ (x ∷ rest))) (constant_step globals (Instr-F.Pure (ops.Binary w op)) (map V (y ∷ (x ∷ rest)))) after
    two_folded W32 op (I32 x) (I32 y) rest after lx ly h e = one (option_map I32 (folded_number 32 op x y)) refl e
      where
        one : (o : Option Folded) → option_map I32 (folded_number 32 op x y) ≡ o → option_map (λ v. v ∷ rest) o ≡ Some after → Steps (map V (I32 y ∷ (I32 x ∷ rest))) (constant_step globals (Instr-F.Pure (ops.Binary W32 op)) (map V (I32 y ∷ (I32 x ∷ rest)))) after
        one None i f = let no : ⊥ = cc in absurd no
        one (Some v) i f =
            let g = folds_binary W32 I32 (λ n. refl) (λ n lt. lt) op x y lx ly v i in
            let is : v ∷ rest ≡ after = cc in
            record { within = subst Within is (g.0, h); values = ap (λ r. or_same (map V (I32 y ∷ (I32 x ∷ rest))) (option_map (λ u. u ∷ map V rest) r)) g.1 ∙ ap (map V) is }
    two_folded W64 op (I64 x) (I64 y) rest after lx ly h e = one (option_map I64 (folded_number 64 op x y)) refl e
      where
        one : (o : Option Folded) → option_map I64 (folded_number 64 op x y) ≡ o → option_map (λ v. v ∷ rest) o ≡ Some after → Steps (map V (I64 y ∷ (I64 x ∷ rest))) (constant_step globals (Instr-F.Pure (ops.Binary W64 op)) (map V (I64 y ∷ (I64 x ∷ rest)))) after
        one None i f = let no : ⊥ = cc in absurd no
        one (Some v) i f =
            let g = folds_binary W64 I64 (λ n. refl) (λ n lt. lt) op x y lx ly v i in
            let is : v ∷ rest ≡ after = cc in
            record { within = subst Within is (g.0, h); values = ap (λ r. or_same (map V (I64 y ∷ (I64 x ∷ rest))) (option_map (λ u. u ∷ map V rest) r)) g.1 ∙ ap (map V) is }
    two_folded W32 op (I32 x) (I64 y) rest after lx ly h e = let no : ⊥ = cc in absurd no
    two_folded W32 op (I32 x) (Imported j t) rest after lx ly h e = let no : ⊥ = cc in absurd no
    two_folded W32 op (I64 x) y rest after lx ly h e = let no : ⊥ = cc in absurd no
    two_folded W32 op (Imported j t) y rest after lx ly h e = let no : ⊥ = cc in absurd no
    two_folded W64 op (I64 x) (I32 y) rest after lx ly h e = let no : ⊥ = cc in absurd no
    two_folded W64 op (I64 x) (Imported j t) rest after lx ly h e = let no : ⊥ = cc in absurd no
    two_folded W64 op (I32 x) y rest after lx ly h e = let no : ⊥ = cc in absurd no
    two_folded W64 op (Imported j t) y rest after lx ly h e = let no : ⊥ = cc in absurd no

    binary_folded : (w : Width) (op : Bin) (stack after : List Folded) → Within stack → after_binary w op stack ≡ Some after → Steps (map V stack) (constant_step globals (Instr-F.Pure (ops.Binary w op)) (map V stack)) after
    binary_folded w op [] after h e = let no : ⊥ = cc in absurd no
    binary_folded w op (y ∷ []) after h e = let no : ⊥ = cc in absurd no
    binary_folded w op (y ∷ (x ∷ rest)) after h e = two_folded w op x y rest after h.1.0 h.0 h.1.1 e

    -- what is known of a global, on the operands
    global_folded : (x : ℕ) (stack after : List Folded) → Within stack → (o : Option Folded) → known_at known x ≡ o → option_map (λ v. v ∷ stack) o ≡ Some after → Steps (map V stack) (slice_index_or globals x missing ∷ map V stack) after
    global_folded x stack after h None i e = let no : ⊥ = cc in absurd no
    global_folded x stack after h (Some v) i e =
        let g = tells_at known globals tells x v i in
        let is : v ∷ stack ≡ after = cc in
        record { within = subst Within is (g.0, h); values = ap (λ u. u ∷ map V stack) g.1 ∙ ap (map V) is }

    -- an instruction, and code
    instr_folded : (l : Instr-F Instr) (stack after : List Folded) → InstrInRange l → Within stack → after_instr known (head l) stack ≡ Some after → Steps (map V stack) (constant_step globals l (map V stack)) after
    instr_folded (Instr-F.Pure (ops.I32Const n)) stack after r h e = let is : I32 n ∷ stack ≡ after = cc in record { within = subst Within is (r, h); values = ap (map V) is }
    instr_folded (Instr-F.Pure (ops.I64Const n)) stack after r h e = let is : I64 n ∷ stack ≡ after = cc in record { within = subst Within is (r, h); values = ap (map V) is }
    instr_folded (Instr-F.Pure (ops.Binary w op)) stack after r h e = binary_folded w op stack after h e
    instr_folded (Instr-F.Pure op) stack after r h e = let no : ⊥ = cc in absurd no
    instr_folded (Instr-F.GlobalGet x) stack after r h e = global_folded x stack after h (known_at known x) refl e
    instr_folded l stack after r h e = let no : ⊥ = cc in absurd no

    code_folded : (code : List Instr) (stack after : List Folded) → CodeInRange code → Within stack → after_code known code stack ≡ Some after → Steps (map V stack) (constant_steps globals code (map V stack)) after
    code_folded [] stack after r h e = let is : stack ≡ after = cc in record { within = subst Within is h; values = ap (map V) is }
    code_folded (i ∷ code) stack after r h e = next (after_instr known (head_of i) stack) refl e (λ between w f. code_folded code between after r.1 w f)
      where
        next : (o : Option (List Folded)) → after_instr known (head_of i) stack ≡ o → option_and_then (after_code known code) o ≡ Some after
            → ((between : List Folded) → Within between → after_code known code between ≡ Some after → Steps (map V between) (constant_steps globals code (map V between)) after) → Steps (map V stack) (constant_steps globals (i ∷ code) (map V stack)) after
        next None f g rest = let no : ⊥ = cc in absurd no
        next (Some between) f g rest =
            let first = instr_folded (out-Instr i) stack between r.0 h f in
            let last = rest between first.within g in
            record { within = last.within; values = ap (constant_steps globals code) first.values ∙ last.values }

    -- The lemma.
    pub fold_gives : (code : List Instr) (v : Folded) → CodeInRange code → fold_of known code ≡ Some v → IsWithin imports v × (constant globals code ≡ V v)
    fold_gives code v r e = by (after_code known code []) refl e
      where
        left : (after : List Folded) → only after ≡ Some v → Steps [] (constant_steps globals code []) after → IsWithin imports v × (constant globals code ≡ V v)
        left [] f s = let no : ⊥ = cc in absurd no
        left (u ∷ []) f s = let is : u ≡ v = cc in (subst (IsWithin imports) is s.within.0, ap (top missing) s.values ∙ ap V is)
        left (u ∷ (t ∷ more)) f s = let no : ⊥ = cc in absurd no

        by : (o : Option (List Folded)) → after_code known code [] ≡ o → option_and_then only o ≡ Some v → IsWithin imports v × (constant globals code ≡ V v)
        by None f g = let no : ⊥ = cc in absurd no
        by (Some after) f g = left after g (code_folded code [] after r tt f)
