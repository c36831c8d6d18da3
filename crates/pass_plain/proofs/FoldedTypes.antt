-- A typed constant expression that folds has the type of what it folds to; and what holds of integers and of what globals
-- are known to fold to holds of that.
use Rattle.std.proofs.Common.{◌≡◌, ℕ, List, [], ◌∷◌, ◌++◌, map, reverse, Option, Some, None, option_map, refl, sym, ap, ◌∙◌, subst}
use Rattle.std.specs.Prelude.{option_and_then, slice_get}
use Rattle.std.specs.List.{AllByRecursion}
use Rattle.std.proofs.lemmas.List.{reverse-append}
use Rattle.num_core.specs.declared.operators.Bin.{Bin}
use Rattle.num_core.specs.declared.operators.Width.{Width}
use Rattle.num_core.specs.declared.operators.Width.TheVariants.{W32, W64}
use Rattle.wasm_ast.specs.Fold.{folded_type, folded_value, combined, after_binary, known_at, after_instr, after_code, only, fold_of}
use Rattle.wasm_ast.specs.Occurrence.{head, head_of}
use Rattle.wasm_ast.specs.declared.folding.folded.Folded.{Folded}
use Rattle.wasm_ast.specs.declared.folding.folded.Folded.TheVariants.{I32, I64, Imported}
use Rattle.wasm_ast.specs.declared.module.ty.Ty.{Ty}
use Rattle.wasm_ast.specs.declared.module.ty.Ty.TheVariants as types
use Rattle.wasm_ast.specs.declared.module.code.Instr.{Instr, out-Instr}
use Rattle.wasm_ast.specs.declared.module.code.Instr.TheOpen.{Instr-F}
use Rattle.wasm_ast.specs.declared.module.op.Op.TheVariants as ops
use Rattle.typing_kit.specs.Form.{Flat}
use Rattle.typed_trees.specs.declared.global_type.GlobalType.{GlobalType}
use Rattle.typed_trees.specs.Contexts.{Context}
use Rattle.typed_trees.specs.Forms.{InstrForm, layer_form, where_some}
use Rattle.typed_trees.specs.Operands.{int_type}
use Rattle.pass_plain.proofs.ConstantFlow.{flat_form, Flows}

-- the number behind a value that is made of one
behind : (make : ℕ → Folded) (P : Folded → Type 0) → ((n : ℕ) → P (make n)) → (o : Option ℕ) (v : Folded) → option_map make o ≡ Some v → P v
behind make P h None v e = let no : ⊥ = cc in absurd no
behind make P h (Some n) v e = let is : make n ≡ v = cc in subst P is (h n)

module _ (P : Folded → Type 0) (narrow : (n : ℕ) → P (I32 n)) (wide : (n : ℕ) → P (I64 n)) where
  -- what two folded operands come to
  record Result (t : Ty) (v : Folded) : Type 0 where
    holds : P v
    type : folded_type v ≡ t

  combined_result : (w : Width) (op : Bin) (x y v : Folded) → combined w op x y ≡ Some v → Result (int_type w) v
  combined_result W32 op (I32 x) (I32 y) v e = behind I32 (Result types.I32) (λ n. record { holds = narrow n; type = refl }) (folded_value 32 op x y) v e
  combined_result W64 op (I64 x) (I64 y) v e = behind I64 (Result types.I64) (λ n. record { holds = wide n; type = refl }) (folded_value 64 op x y) v e
  combined_result W32 op (I32 x) (I64 y) v e = let no : ⊥ = cc in absurd no
  combined_result W32 op (I32 x) (Imported j t) v e = let no : ⊥ = cc in absurd no
  combined_result W32 op (I64 x) y v e = let no : ⊥ = cc in absurd no
  combined_result W32 op (Imported j t) y v e = let no : ⊥ = cc in absurd no
  combined_result W64 op (I64 x) (I32 y) v e = let no : ⊥ = cc in absurd no
  combined_result W64 op (I64 x) (Imported j t) v e = let no : ⊥ = cc in absurd no
  combined_result W64 op (I32 x) y v e = let no : ⊥ = cc in absurd no
  combined_result W64 op (Imported j t) y v e = let no : ⊥ = cc in absurd no

  module _ (c : Context) (known : List (Option Folded)) (told : (x : ℕ) (v : Folded) → known_at known x ≡ Some v → P v)
      (types_told : (x : ℕ) (v : Folded) (g : GlobalType) → known_at known x ≡ Some v → slice_get c.globals x ≡ Some g → folded_type v ≡ g.ty) where
    -- folded operands of these types, the top first
    record Stack (stack : List Folded) (top_first : List Ty) : Type 0 where
      all : AllByRecursion P stack
      types_are : map folded_type stack ≡ top_first

    pushed : (t : Ty) (a b rest : List Ty) (v : Folded) (stack after : List Folded) → flat_form [] (t ∷ []) ≡ Flat a b → Result t v → Stack stack (reverse a ++ rest) → v ∷ stack ≡ after → Stack after (reverse b ++ rest)
    pushed t a b rest v stack after f r s e =
        let nothing : [] ≡ a = cc in
        let one : t ∷ [] ≡ b = cc in
        let below : map folded_type stack ≡ rest = s.types_are ∙ ap (λ l. reverse l ++ rest) (sym nothing) in
        subst (λ l. Stack l (reverse b ++ rest)) e
        (subst (λ l. Stack (v ∷ stack) (reverse l ++ rest)) one (record { all = (r.holds, s.all); types_are = ap (λ u. u ∷ map folded_type stack) r.type ∙ ap (λ l. t ∷ l) below }))

    binary : (w : Width) (op : Bin) (a b rest : List Ty) (stack after : List Folded) → flat_form (int_type w ∷ int_type w ∷ []) (int_type w ∷ []) ≡ Flat a b → Stack stack (reverse a ++ rest) → after_binary w op stack ≡ Some after → Stack after (reverse b ++ rest)
    binary w op a b rest [] after f s e = let no : ⊥ = cc in absurd no
    binary w op a b rest (y ∷ []) after f s e = let no : ⊥ = cc in absurd no
    binary w op a b rest (y ∷ (x ∷ stack)) after f s e = one (combined w op x y) refl e
      where
        one : (o : Option Folded) → combined w op x y ≡ o → option_map (λ v. v ∷ stack) o ≡ Some after → Stack after (reverse b ++ rest)
        one None i g = let no : ⊥ = cc in absurd no
        one (Some v) i g =
            let two : int_type w ∷ int_type w ∷ [] ≡ a = cc in
            let gives : int_type w ∷ [] ≡ b = cc in
            let is : v ∷ stack ≡ after = cc in
            let all : map folded_type (y ∷ (x ∷ stack)) ≡ int_type w ∷ (int_type w ∷ rest) = s.types_are ∙ ap (λ l. reverse l ++ rest) (sym two) in
            let below : map folded_type stack ≡ rest = cc in
            let r = combined_result w op x y v i in
            subst (λ l. Stack l (reverse b ++ rest)) is
            (subst (λ l. Stack (v ∷ stack) (reverse l ++ rest)) gives (record { all = (r.holds, s.all.1.1); types_are = ap (λ u. u ∷ map folded_type stack) r.type ∙ ap (λ l. int_type w ∷ l) below }))

    global : (x : ℕ) (g : Option GlobalType) (o : Option Folded) (a b rest : List Ty) (stack after : List Folded) → slice_get c.globals x ≡ g → known_at known x ≡ o → where_some g (λ u. Flat [] (u.ty ∷ [])) ≡ Flat a b → Stack stack (reverse a ++ rest) → option_map (λ v. v ∷ stack) o ≡ Some after → Stack after (reverse b ++ rest)
    global x None o a b rest stack after i k f s e = let no : ⊥ = cc in absurd no
    global x (Some g) None a b rest stack after i k f s e = let no : ⊥ = cc in absurd no
    global x (Some g) (Some v) a b rest stack after i k f s e =
        let is : v ∷ stack ≡ after = cc in
        pushed g.ty a b rest v stack after f (record { holds = told x v k; type = types_told x v g k i }) s is

    step : (l : Instr-F Instr) (a b rest : List Ty) (stack after : List Folded) → layer_form c [] l ≡ Flat a b → Stack stack (reverse a ++ rest) → after_instr known (head l) stack ≡ Some after → Stack after (reverse b ++ rest)
    step (Instr-F.Pure (ops.I32Const n)) a b rest stack after f s e = let is : I32 n ∷ stack ≡ after = cc in pushed types.I32 a b rest (I32 n) stack after f (record { holds = narrow n; type = refl }) s is
    step (Instr-F.Pure (ops.I64Const n)) a b rest stack after f s e = let is : I64 n ∷ stack ≡ after = cc in pushed types.I64 a b rest (I64 n) stack after f (record { holds = wide n; type = refl }) s is
    step (Instr-F.Pure (ops.Binary w op)) a b rest stack after f s e = binary w op a b rest stack after f s e
    step (Instr-F.Pure op) a b rest stack after f s e = let no : ⊥ = cc in absurd no
    step (Instr-F.GlobalGet x) a b rest stack after f s e = global x (slice_get c.globals x) (known_at known x) a b rest stack after refl refl f s e
    step l a b rest stack after f s e = let no : ⊥ = cc in absurd no

    steps : (code : List Instr) (s t : List Ty) (stack after : List Folded) → Flows c code s t → Stack stack (reverse s) → after_code known code stack ≡ Some after → Stack after (reverse t)
    steps [] s t stack after f h e =
        let is : stack ≡ after = cc in
        subst (λ l. Stack l (reverse t)) is (subst (λ l. Stack stack (reverse l)) f h)
    steps (i ∷ code) s t stack after f h e = next (after_instr known (head_of i) stack) refl e (λ between g r. steps code (f.0 ++ f.2) t between after f.6 g r)
      where
        next : (o : Option (List Folded)) → after_instr known (head_of i) stack ≡ o → option_and_then (after_code known code) o ≡ Some after
            → ((between : List Folded) → Stack between (reverse (f.0 ++ f.2)) → after_code known code between ≡ Some after → Stack after (reverse t)) → Stack after (reverse t)
        next None g r rest = let no : ⊥ = cc in absurd no
        next (Some between) g r rest =
            let here : Stack stack (reverse f.1 ++ reverse f.0) = subst (λ l. Stack stack l) (ap reverse f.3 ∙ reverse-append f.0 f.1) h in
            rest between (subst (λ l. Stack between l) (sym (reverse-append f.0 f.2)) (step (out-Instr i) f.1 f.2 (reverse f.0) stack between f.4 here g)) r

    -- The lemma.
    pub fold_typed : (code : List Instr) (t : Ty) (v : Folded) → Flows c code [] (t ∷ []) → fold_of known code ≡ Some v → P v × (folded_type v ≡ t)
    fold_typed code t v f e = by (after_code known code []) refl e
      where
        left : (after : List Folded) → only after ≡ Some v → Stack after (t ∷ []) → P v × (folded_type v ≡ t)
        left [] g s = let no : ⊥ = cc in absurd no
        left (u ∷ []) g s =
            let is : u ≡ v = cc in
            let all : folded_type u ∷ [] ≡ t ∷ [] = s.types_are in
            let one : folded_type u ≡ t = cc in
            (subst P is s.all.0, subst (λ w. folded_type w ≡ t) is one)
        left (u ∷ (w ∷ more)) g s = let no : ⊥ = cc in absurd no

        by : (o : Option (List Folded)) → after_code known code [] ≡ o → option_and_then only o ≡ Some v → P v × (folded_type v ≡ t)
        by None i g = let no : ⊥ = cc in absurd no
        by (Some after) i g = left after g (steps code [] (t ∷ []) [] after f (record { all = tt; types_are = refl }) i)
