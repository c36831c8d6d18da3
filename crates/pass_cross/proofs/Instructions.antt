-- A typed instruction that crosses is typed in 1.0 as it is in 3.0, each type written as 1.0 writes it.
use Rattle.std.proofs.Common.{◌≡◌, ◌<◌, ◌≤◌, ◌^◌, ℕ, Bool, true, false, cond, ◌&&◌, ◌||◌, nat_lt, nat_le, List, [], ◌∷◌, ◌++◌, map, length, Option, Some, None, option_map, refl, sym, ap, ◌∙◌, subst, arith}
use Rattle.std.specs.Prelude.{slice_get, option_and_then}
use Rattle.std.specs.List.{AllByRecursion}
use Rattle.std.proofs.lemmas.List.{map-append}
use Rattle.std.proofs.lemmas.Option.{slice_get-map}
use Rattle.std.proofs.lemmas.Bool.{ltb-true, leb-true}
use Rattle.num_core.specs.declared.operators.Width.{Width}
use Rattle.num_core.specs.declared.operators.Width.TheVariants.{W32, W64}
use Rattle.num_core.specs.declared.operators.Conv.TheVariants as conversions
use Rattle.num_core.specs.declared.operators.Load.{Load}
use Rattle.num_core.specs.declared.operators.Store.{Store}
use Rattle.num_core.specs.Accesses.{load_width, load_bytes, store_width, store_bytes}
use Rattle.wasm_ast.specs.declared.module.ty.Ty.{Ty}
use Rattle.wasm_ast.specs.declared.module.ty.Ty.TheVariants as types
use Rattle.wasm_ast.specs.declared.module.ty.FuncType.{FuncType}
use Rattle.wasm_ast.specs.declared.module.ty.Limits.{Limits}
use Rattle.wasm_ast.specs.declared.module.immediates.MemArg.{MemArg}
use Rattle.wasm_ast.specs.declared.module.op.Op.{Op}
use Rattle.wasm_ast.specs.declared.module.op.Op.TheVariants as ops
use Rattle.wasm_ast.specs.declared.module.code.Instr.{Instr}
use Rattle.wasm_ast.specs.declared.module.code.Instr.TheOpen.{Instr-F}
use Rattle.wasm_ast.specs.declared.module.code.Instr.TheFolds.{map-Instr}
use Rattle.core1_ast.specs.declared.module.ty.Ty1.{Ty1}
use Rattle.core1_ast.specs.declared.module.ty.Ty1.TheVariants as types1
use Rattle.core1_ast.specs.declared.module.ty.Limits1.{Limits1}
use Rattle.core1_ast.specs.declared.module.op.Conv1.TheVariants as conversions1
use Rattle.core1_ast.specs.declared.module.op.Op1.{Op1}
use Rattle.core1_ast.specs.declared.module.op.Op1.TheVariants as ops1
use Rattle.core1_ast.specs.declared.module.code.Instr1.{Instr1, roll-Instr1}
use Rattle.core1_ast.specs.declared.module.code.Instr1.TheOpen.{Instr1-F}
use Rattle.core1_ast.specs.declared.module.code.Instr1.TheFolds.{fold-roll-Instr1}
use Rattle.core1_ast.specs.Code as old
use Rattle.core1_ast.specs.Lengths.{IsShort}
use Rattle.core1_ast.specs.Operands.{int_type1, op_takes, op_gives}
use Rattle.typing_kit.specs.Form.{Flat, Any, Select, Leaves, Table}
use Rattle.typing_kit.specs.Leaf.{AllSub}
use Rattle.typed_trees.specs.declared.global_type.GlobalType.{GlobalType}
use Rattle.typed_trees.specs.Contexts.{Context, func_type, block_type, is_value_type, address_of, address_type}
use Rattle.typed_trees.specs.Forms.{InstrForm, where_some, where_true, select_form, is_access, access_at, accessed, addressed, indirect_type, holds_functions, both_labels, labels_at, op_form, layer_form, set_form}
use Rattle.typed_trees.specs.Matching.{matches}
use Rattle.typed_trees.specs.Operands.{int_type}
use Rattle.typed_trees.proofs.Lawfulness.{matches_equal}
use Rattle.crossing.specs.Code.{cross_type, cross_op, cross_argument, cross_layer, cross_instr, is_op, crosses}
use Rattle.crossing.specs.Modules.{cross_func_type}
use Rattle.crossing.proofs.Keeping.{IfThere, all_get}
use Rattle.pass_cross.specs.Short.{short_step, is_short_inside}
use Rattle.pass_cross.specs.Contexts.{cross_types, cross_global_type, crossed_context}
use Rattle.pass_cross.proofs.Heads.{IsPlain}

int_crosses : (w : Width) → cross_type (int_type w) ≡ int_type1 w
int_crosses W32 = refl
int_crosses W64 = refl

-- what a layer becomes in 1.0
abbrev pub crossed : Instr-F Instr → Instr1
crossed l = roll-Instr1 (cross_layer (map-Instr Instr (Unit {0} → List Instr1) cross_instr l))

module _ (c : Context) (plain : IsPlain c) (tables memories : List Limits1) (same_tables : length tables ≡ length c.tables) (same_memories : length memories ≡ length c.memories) where
  abbrev within : List (List Ty) → old.Context
  within ls = crossed_context c ls tables memories

  -- an instruction of 1.0 with such types
  abbrev pub TypedAs : List (List Ty) → Instr1 → InstrForm → Type 0
  TypedAs ls i (Flat a b) = old.Typed (within ls) i (cross_types a) (cross_types b)
  TypedAs ls i (Any kind b) = (t : Ty) → old.Typed (within ls) i (cross_type t ∷ []) (cross_types b)
  TypedAs ls i Select = (t : Ty) → old.Typed (within ls) i (cross_type t ∷ (cross_type t ∷ (types1.I32 ∷ []))) (cross_type t ∷ [])
  TypedAs ls i (Leaves a) = (below after : List Ty1) → old.Typed (within ls) i (below ++ cross_types a) after
  TypedAs ls i (Table last others) = (ts : List Ty) → AllSub matches ts last → AllByRecursion (λ l. AllSub matches ts l) others → (below after : List Ty1) → old.Typed (within ls) i (below ++ cross_types ts ++ types1.I32 ∷ []) after
  TypedAs ls i _ = Unit {0}

  some_typed : {X : Type 0} (ls : List (List Ty)) (i : Instr1) (o : Option X) (f : X → InstrForm) → ((x : X) → o ≡ Some x → TypedAs ls i (f x)) → TypedAs ls i (where_some o f)
  some_typed ls i None f h = tt
  some_typed ls i (Some x) f h = h x refl

  -- what is found in a list is found in its image
  found : {A B : Type 0} (f : A → B) (xs : List A) (k : ℕ) (a : A) → slice_get xs k ≡ Some a → slice_get (map f xs) k ≡ Some (f a)
  found f xs k a e = slice_get-map f xs k ∙ ap (option_map f) e

  pure_typed : (ls : List (List Ty)) (op : Op1) → old.Typed (within ls) (roll-Instr1 (Instr1-F.Pure op)) (op_takes op) (op_gives op)
  unfolding roll-Instr1 denote.Hole.Carrier.roll
  pure_typed ls op = old.pure (within ls) (roll-Instr1 (Instr1-F.Pure op)) op refl

  op_typed : (ls : List (List Ty)) (op : Op) → is_op op ≡ true → TypedAs ls (roll-Instr1 (Instr1-F.Pure (cross_op op))) (op_form c op)
  op_typed ls (ops.I32Const i) h = pure_typed ls (ops1.I32Const i)
  op_typed ls (ops.I64Const i) h = pure_typed ls (ops1.I64Const i)
  op_typed ls (ops.Eqz W32) h = pure_typed ls (ops1.Eqz W32)
  op_typed ls (ops.Eqz W64) h = pure_typed ls (ops1.Eqz W64)
  op_typed ls (ops.Compare W32 op) h = pure_typed ls (ops1.Compare W32 op)
  op_typed ls (ops.Compare W64 op) h = pure_typed ls (ops1.Compare W64 op)
  op_typed ls (ops.Unary W32 op) h = pure_typed ls (ops1.Unary W32 op)
  op_typed ls (ops.Unary W64 op) h = pure_typed ls (ops1.Unary W64 op)
  op_typed ls (ops.Binary W32 op) h = pure_typed ls (ops1.Binary W32 op)
  op_typed ls (ops.Binary W64 op) h = pure_typed ls (ops1.Binary W64 op)
  op_typed ls (ops.Convert conversions.Wrap) h = pure_typed ls (ops1.Convert conversions1.Wrap)
  op_typed ls (ops.Convert conversions.Ext32S) h = pure_typed ls (ops1.Convert conversions1.Ext32S)
  op_typed ls (ops.Convert conversions.Ext32U) h = pure_typed ls (ops1.Convert conversions1.Ext32U)
  op_typed ls op h = let no : ⊥ = cc in absurd no

  func_typed : (x : ℕ) (t : FuncType) → func_type c x ≡ Some t → option_and_then (slice_get (map cross_func_type c.types)) (slice_get c.funcs x) ≡ Some (cross_func_type t)
  func_typed x t e = at (slice_get c.funcs x) e
    where
      at : (o : Option ℕ) → option_and_then (slice_get c.types) o ≡ Some t → option_and_then (slice_get (map cross_func_type c.types)) o ≡ Some (cross_func_type t)
      at None e = absurd cc
      at (Some y) e = found cross_func_type c.types y t e

  -- a list that has an item is not empty
  inhabited : {A : Type 0} (xs : List A) (x : ℕ) (a : A) → slice_get xs x ≡ Some a → 0 < length xs
  inhabited [] x a e = absurd cc
  inhabited (b ∷ xs) x a e = omega arith

  has_memory : (x : ℕ) (l : Limits) → slice_get c.memories x ≡ Some l → 0 < length memories
  has_memory x l e = let lt = inhabited c.memories x l e in omega arith

  has_table : (x : ℕ) (t : Ty) → slice_get c.tables x ≡ Some t → 0 < length tables
  has_table x t e = let lt = inhabited c.tables x t e in omega arith

  -- the form of a look-up, by what is found
  narrow_type : (x : ℕ) (l : Limits) → slice_get c.memories x ≡ Some l → address_of l.wide ≡ types.I32
  narrow_type x l e = ap address_of (subst (IfThere (λ l. l.wide ≡ false)) e (all_get (λ l. l.wide ≡ false) c.memories x plain.narrow))

  record Access (arg : MemArg) (bytes : ℕ) (t : Ty) : Type 0 where
    narrow : t ≡ types.I32
    memory : 0 < length memories
    aligned : 2 ^ arg.align ≤ bytes

  access_found : (arg : MemArg) (bytes : ℕ) (t : Ty) → accessed c arg bytes ≡ Some t → Access arg bytes t
  access_found arg bytes t e = at (slice_get c.memories arg.memory) refl e
    where
      left : (a b : Bool) → (a && b) ≡ true → a ≡ true
      left true b h = refl
      left false b h = absurd cc

      tested : (l : Limits) → slice_get c.memories arg.memory ≡ Some l → (b : Bool) → is_access l arg bytes ≡ b → cond b (Some (address_type l)) None ≡ Some t → Access arg bytes t
      tested l q false k e = absurd cc
      tested l q true k e =
          let same : address_type l ≡ t = cc in
          record {
            narrow = sym same ∙ narrow_type arg.memory l q;
            memory = has_memory arg.memory l q;
            aligned = leb-true (2 ^ arg.align) bytes (left (nat_le (2 ^ arg.align) bytes) (l.wide || nat_lt arg.offset (2 ^ 32)) k);
          }

      at : (o : Option Limits) → slice_get c.memories arg.memory ≡ o → option_and_then (access_at arg bytes) o ≡ Some t → Access arg bytes t
      at None q e = absurd cc
      at (Some l) q e = tested l q (is_access l arg bytes) refl e

  record Address (t : Ty) : Type 0 where
    narrow : t ≡ types.I32
    memory : 0 < length memories

  address_found : (x : ℕ) (t : Ty) → addressed c x ≡ Some t → Address t
  address_found x t e = at (slice_get c.memories x) refl e
    where
      at : (o : Option Limits) → slice_get c.memories x ≡ o → option_map address_type o ≡ Some t → Address t
      at None q e = absurd cc
      at (Some l) q e =
          let same : address_type l ≡ t = cc in
          record { narrow = sym same ∙ narrow_type x l q; memory = has_memory x l q }

  record Indirect (x : ℕ) (t : FuncType) : Type 0 where
    table : 0 < length tables
    type : slice_get c.types x ≡ Some t

  indirect_found : (x table : ℕ) (t : FuncType) → indirect_type c x table ≡ Some t → Indirect x t
  indirect_found x table t e = at (slice_get c.tables table) refl e
    where
      named : (u : Ty) → slice_get c.tables table ≡ Some u → (b : Bool) → cond b (slice_get c.types x) None ≡ Some t → Indirect x t
      named u q false e = absurd cc
      named u q true e = record { table = has_table table u q; type = e }

      at : (o : Option Ty) → slice_get c.tables table ≡ o → cond (holds_functions o) (slice_get c.types x) None ≡ Some t → Indirect x t
      at None q e = absurd cc
      at (Some u) q e = named u q (matches u types.Func) e

  -- br_table: each label takes the operands
  all_same : (ss ts : List Ty) → AllSub matches ss ts → ss ≡ ts
  all_same [] [] h = refl
  all_same [] (t ∷ ts) h = absurd h
  all_same (s ∷ ss) [] h = absurd h
  all_same (s ∷ ss) (t ∷ ts) h = ap (λ u. u ∷ ss) (matches_equal s t h.0) ∙ ap (λ l. t ∷ l) (all_same ss ts h.1)

  abbrev AtLabels : List (List Ty) → List Ty → List ℕ → Type 0
  AtLabels ls ts xs = AllByRecursion (λ x. slice_get (map cross_types ls) x ≡ Some (cross_types ts)) xs

  abbrev AllTake : List Ty → List (List Ty) → Type 0
  AllTake ts others = AllByRecursion (λ l. AllSub matches ts l) others

  label_typed : (ls : List (List Ty)) (x : ℕ) (xs : List ℕ) (others : List (List Ty)) (ts : List Ty) (o : Option (List Ty)) (o' : Option (List (List Ty))) → ((more : List (List Ty)) → o' ≡ Some more → AllTake ts more → AtLabels ls ts xs)
      → slice_get ls x ≡ o → both_labels o o' ≡ Some others → AllTake ts others → AtLabels ls ts (x ∷ xs)
  label_typed ls x xs others ts None o' more q e h = absurd cc
  label_typed ls x xs others ts (Some l) None more q e h = absurd cc
  label_typed ls x xs others ts (Some l) (Some rest) more q e h =
      let same : l ∷ rest ≡ others = cc in
      let here = subst (AllTake ts) (sym same) h in
      (found cross_types ls x l q ∙ ap (λ l. Some (cross_types l)) (sym (all_same ts l here.0)), more rest refl here.1)

  labels_typed : (ls : List (List Ty)) (xs : List ℕ) (others : List (List Ty)) (ts : List Ty) → labels_at ls xs ≡ Some others → AllTake ts others → AtLabels ls ts xs
  labels_typed ls [] others ts e h = tt
  labels_typed ls (x ∷ xs) others ts e h = label_typed ls x xs others ts (slice_get ls x) (labels_at ls xs) (λ more q k. labels_typed ls xs more ts q k) refl e h

  select_typed : (ls : List (List Ty)) (ts : List Ty) → TypedAs ls (roll-Instr1 Instr1-F.Select) (select_form ts)
  unfolding roll-Instr1 denote.Hole.Carrier.roll
  select_typed ls [] = tt
  select_typed ls (t ∷ []) = at (is_value_type t)
    where
      at : (b : Bool) → TypedAs ls (roll-Instr1 Instr1-F.Select) (where_true b (Flat (t ∷ (t ∷ (types.I32 ∷ []))) (t ∷ [])))
      at true = old.select (within ls) (roll-Instr1 Instr1-F.Select) (cross_type t) refl
      at false = tt
  select_typed ls (t ∷ (u ∷ ts)) = tt

  set_typed : (ls : List (List Ty)) (x : ℕ) (g : GlobalType) → slice_get c.globals x ≡ Some g → TypedAs ls (roll-Instr1 (Instr1-F.GlobalSet x)) (set_form g)
  unfolding roll-Instr1 denote.Hole.Carrier.roll
  set_typed ls x g e = at g.mutable refl
    where
      at : (b : Bool) → g.mutable ≡ b → TypedAs ls (roll-Instr1 (Instr1-F.GlobalSet x)) (where_true b (Flat (g.ty ∷ []) []))
      at true k = old.global_set (within ls) (roll-Instr1 (Instr1-F.GlobalSet x)) x (cross_global_type g) refl (found cross_global_type c.globals x g e) k
      at false k = tt

  topped : (ts : List Ty) → cross_types (ts ++ types.I32 ∷ []) ≡ cross_types ts ++ types1.I32 ∷ []
  topped ts = map-append cross_type ts (types.I32 ∷ [])

  load_typed : (ls : List (List Ty)) (op : Load) (arg : MemArg) → TypedAs ls (roll-Instr1 (Instr1-F.Load op (cross_argument arg))) (layer_form c ls (Instr-F.Load op arg))
  unfolding roll-Instr1 denote.Hole.Carrier.roll
  load_typed ls op arg =
      some_typed ls (roll-Instr1 (Instr1-F.Load op (cross_argument arg))) (accessed c arg (load_bytes op)) (λ address. Flat (address ∷ []) (int_type (load_width op) ∷ []))
      (λ t e. let a = access_found arg (load_bytes op) t e in
      subst (λ u. old.Typed (within ls) (roll-Instr1 (Instr1-F.Load op (cross_argument arg))) (cross_type u ∷ []) (cross_type (int_type (load_width op)) ∷ [])) (sym a.narrow)
      (subst (λ u. old.Typed (within ls) (roll-Instr1 (Instr1-F.Load op (cross_argument arg))) (types1.I32 ∷ []) (u ∷ [])) (sym (int_crosses (load_width op)))
      (old.load (within ls) (roll-Instr1 (Instr1-F.Load op (cross_argument arg))) op (cross_argument arg) refl a.memory a.aligned)))

  store_typed : (ls : List (List Ty)) (op : Store) (arg : MemArg) → TypedAs ls (roll-Instr1 (Instr1-F.Store op (cross_argument arg))) (layer_form c ls (Instr-F.Store op arg))
  unfolding roll-Instr1 denote.Hole.Carrier.roll
  store_typed ls op arg =
      some_typed ls (roll-Instr1 (Instr1-F.Store op (cross_argument arg))) (accessed c arg (store_bytes op)) (λ address. Flat (address ∷ (int_type (store_width op) ∷ [])) [])
      (λ t e. let a = access_found arg (store_bytes op) t e in
      subst (λ u. old.Typed (within ls) (roll-Instr1 (Instr1-F.Store op (cross_argument arg))) (cross_type u ∷ (cross_type (int_type (store_width op)) ∷ [])) []) (sym a.narrow)
      (subst (λ u. old.Typed (within ls) (roll-Instr1 (Instr1-F.Store op (cross_argument arg))) (types1.I32 ∷ (u ∷ [])) []) (sym (int_crosses (store_width op)))
      (old.store (within ls) (roll-Instr1 (Instr1-F.Store op (cross_argument arg))) op (cross_argument arg) refl a.memory a.aligned)))

  size_typed : (ls : List (List Ty)) (x : ℕ) → TypedAs ls (roll-Instr1 Instr1-F.MemorySize) (layer_form c ls (Instr-F.MemorySize x))
  unfolding roll-Instr1 denote.Hole.Carrier.roll
  size_typed ls x =
      some_typed ls (roll-Instr1 Instr1-F.MemorySize) (addressed c x) (λ address. Flat [] (address ∷ []))
      (λ t e. let a = address_found x t e in subst (λ u. old.Typed (within ls) (roll-Instr1 Instr1-F.MemorySize) [] (cross_type u ∷ [])) (sym a.narrow) (old.memory_size (within ls) (roll-Instr1 Instr1-F.MemorySize) refl a.memory))

  grow_typed : (ls : List (List Ty)) (x : ℕ) → TypedAs ls (roll-Instr1 Instr1-F.MemoryGrow) (layer_form c ls (Instr-F.MemoryGrow x))
  unfolding roll-Instr1 denote.Hole.Carrier.roll
  grow_typed ls x =
      some_typed ls (roll-Instr1 Instr1-F.MemoryGrow) (addressed c x) (λ address. Flat (address ∷ []) (address ∷ []))
      (λ t e. let a = address_found x t e in subst (λ u. old.Typed (within ls) (roll-Instr1 Instr1-F.MemoryGrow) (cross_type u ∷ []) (cross_type u ∷ [])) (sym a.narrow) (old.memory_grow (within ls) (roll-Instr1 Instr1-F.MemoryGrow) refl a.memory))

  br_if_typed : (ls : List (List Ty)) (l : ℕ) → TypedAs ls (roll-Instr1 (Instr1-F.BrIf l)) (layer_form c ls (Instr-F.BrIf l))
  unfolding roll-Instr1 denote.Hole.Carrier.roll
  br_if_typed ls l =
      some_typed ls (roll-Instr1 (Instr1-F.BrIf l)) (slice_get ls l) (λ ts. Flat (ts ++ types.I32 ∷ []) ts)
      (λ ts e. subst (λ us. old.Typed (within ls) (roll-Instr1 (Instr1-F.BrIf l)) us (cross_types ts)) (sym (topped ts)) (old.br_if (within ls) (roll-Instr1 (Instr1-F.BrIf l)) l (cross_types ts) refl (found cross_types ls l ts e)))

  table_typed : (ls : List (List Ty)) (xs : List ℕ) (last : ℕ) → IsShort xs → TypedAs ls (roll-Instr1 (Instr1-F.BrTable xs last)) (layer_form c ls (Instr-F.BrTable xs last))
  unfolding roll-Instr1 denote.Hole.Carrier.roll
  table_typed ls xs last short =
      some_typed ls (roll-Instr1 (Instr1-F.BrTable xs last)) (slice_get ls last) (λ l. where_some (labels_at ls xs) (λ others. Table l others))
      (λ l e. some_typed ls (roll-Instr1 (Instr1-F.BrTable xs last)) (labels_at ls xs) (λ others. Table l others)
      (λ others q ts h k below after.
      old.br_table (within ls) (roll-Instr1 (Instr1-F.BrTable xs last)) xs last (cross_types ts) below after refl short (labels_typed ls xs others ts q k) (found cross_types ls last l e ∙ ap (λ l. Some (cross_types l)) (sym (all_same ts l h)))))

  call_typed : (ls : List (List Ty)) (x : ℕ) → TypedAs ls (roll-Instr1 (Instr1-F.Call x)) (layer_form c ls (Instr-F.Call x))
  unfolding roll-Instr1 denote.Hole.Carrier.roll
  call_typed ls x =
      some_typed ls (roll-Instr1 (Instr1-F.Call x)) (func_type c x) (λ t. Flat t.params t.results)
      (λ t e. old.call (within ls) (roll-Instr1 (Instr1-F.Call x)) x (cross_func_type t) refl (func_typed x t e))

  indirect_typed : (ls : List (List Ty)) (x table : ℕ) → TypedAs ls (roll-Instr1 (Instr1-F.CallIndirect x)) (layer_form c ls (Instr-F.CallIndirect x table))
  unfolding roll-Instr1 denote.Hole.Carrier.roll
  indirect_typed ls x table =
      some_typed ls (roll-Instr1 (Instr1-F.CallIndirect x)) (indirect_type c x table) (λ t. Flat (t.params ++ types.I32 ∷ []) t.results)
      (λ t e. let a = indirect_found x table t e in
      subst (λ us. old.Typed (within ls) (roll-Instr1 (Instr1-F.CallIndirect x)) us (cross_types t.results)) (sym (topped t.params)) (old.call_indirect (within ls) (roll-Instr1 (Instr1-F.CallIndirect x)) x (cross_func_type t) refl a.table (found cross_func_type c.types x t a.type)))

  -- what becomes of an instruction; of blocks another lemma says it
  pub layer_typed : (ls : List (List Ty)) (l : Instr-F Instr) → crosses Instr l ≡ true → is_short_inside (crossed l) ≡ true → TypedAs ls (crossed l) (layer_form c ls l)
  unfolding roll-Instr1 denote.Hole.Carrier.roll
  layer_typed ls Instr-F.Nop h s = old.nop (within ls) (roll-Instr1 Instr1-F.Nop) refl
  layer_typed ls Instr-F.Unreachable h s = λ below after. old.unreachable (within ls) (roll-Instr1 Instr1-F.Unreachable) (below ++ []) after refl
  layer_typed ls Instr-F.Drop h s = λ t. old.drop (within ls) (roll-Instr1 Instr1-F.Drop) (cross_type t) refl
  layer_typed ls Instr-F.Select h s = λ t. old.select (within ls) (roll-Instr1 Instr1-F.Select) (cross_type t) refl
  layer_typed ls (Instr-F.SelectTyped ts) h s = select_typed ls ts
  layer_typed ls (Instr-F.Block t code) h s = some_typed ls (crossed (Instr-F.Block t code)) (block_type c t) _ (λ u e. tt)
  layer_typed ls (Instr-F.Loop t code) h s = some_typed ls (crossed (Instr-F.Loop t code)) (block_type c t) _ (λ u e. tt)
  layer_typed ls (Instr-F.If t first second) h s = some_typed ls (crossed (Instr-F.If t first second)) (block_type c t) _ (λ u e. tt)
  layer_typed ls (Instr-F.Br l) h s =
      some_typed ls (roll-Instr1 (Instr1-F.Br l)) (slice_get ls l) (λ ts. Leaves ts) (λ ts e below after. old.br (within ls) (roll-Instr1 (Instr1-F.Br l)) l (cross_types ts) below after refl (found cross_types ls l ts e))
  layer_typed ls (Instr-F.BrIf l) h s = br_if_typed ls l
  layer_typed ls (Instr-F.BrTable xs last) h s = table_typed ls xs last (ltb-true (length xs) (2 ^ 32) (sym (fold-roll-Instr1 Bool short_step (Instr1-F.BrTable xs last)) ∙ s))
  layer_typed ls Instr-F.Return h s =
      some_typed ls (roll-Instr1 Instr1-F.Return) c.returns (λ ts. Leaves ts) (λ ts e below after. old.leave (within ls) (roll-Instr1 Instr1-F.Return) (cross_types ts) below after refl (ap (option_map cross_types) e))
  layer_typed ls (Instr-F.Call x) h s = call_typed ls x
  layer_typed ls (Instr-F.CallIndirect x table) h s = indirect_typed ls x table
  layer_typed ls (Instr-F.LocalGet x) h s =
      some_typed ls (roll-Instr1 (Instr1-F.LocalGet x)) (slice_get c.locals x) (λ t. Flat [] (t ∷ [])) (λ t e. old.local_get (within ls) (roll-Instr1 (Instr1-F.LocalGet x)) x (cross_type t) refl (found cross_type c.locals x t e))
  layer_typed ls (Instr-F.LocalSet x) h s =
      some_typed ls (roll-Instr1 (Instr1-F.LocalSet x)) (slice_get c.locals x) (λ t. Flat (t ∷ []) []) (λ t e. old.local_set (within ls) (roll-Instr1 (Instr1-F.LocalSet x)) x (cross_type t) refl (found cross_type c.locals x t e))
  layer_typed ls (Instr-F.LocalTee x) h s =
      some_typed ls (roll-Instr1 (Instr1-F.LocalTee x)) (slice_get c.locals x) (λ t. Flat (t ∷ []) (t ∷ [])) (λ t e. old.local_tee (within ls) (roll-Instr1 (Instr1-F.LocalTee x)) x (cross_type t) refl (found cross_type c.locals x t e))
  layer_typed ls (Instr-F.GlobalGet x) h s =
      some_typed ls (roll-Instr1 (Instr1-F.GlobalGet x)) (slice_get c.globals x) (λ g. Flat [] (g.ty ∷ [])) (λ g e. old.global_get (within ls) (roll-Instr1 (Instr1-F.GlobalGet x)) x (cross_global_type g) refl (found cross_global_type c.globals x g e))
  layer_typed ls (Instr-F.GlobalSet x) h s = some_typed ls (roll-Instr1 (Instr1-F.GlobalSet x)) (slice_get c.globals x) set_form (λ g e. set_typed ls x g e)
  layer_typed ls (Instr-F.Load op arg) h s = load_typed ls op arg
  layer_typed ls (Instr-F.Store op arg) h s = store_typed ls op arg
  layer_typed ls (Instr-F.MemorySize x) h s = size_typed ls x
  layer_typed ls (Instr-F.MemoryGrow x) h s = grow_typed ls x
  layer_typed ls (Instr-F.Pure op) h s = op_typed ls op h
  layer_typed ls l h s = let no : ⊥ = cc in absurd no
