-- What a node names is there in the output, with its types, indices and labels moved.
use Rattle.std.proofs.Common.{◌≡◌, ℕ, Bool, true, false, ◌&&◌, if◌then◌else◌, List, [], ◌∷◌, ◌++◌, map, Option, Some, None, option_map, option_and_then, slice_get, refl, sym, ap, ◌∙◌, subst}
use Rattle.std.specs.Prelude.{nat_lt}
use Rattle.std.specs.List.{list_all, AllByRecursion}
use Rattle.wasm_ast.specs.declared.module.ty.Ty.{Ty}
use Rattle.wasm_ast.specs.declared.module.ty.Ty.TheVariants.{Func, Exn}
use Rattle.wasm_ast.specs.declared.module.ty.FuncType.{FuncType}
use Rattle.wasm_ast.specs.declared.module.ty.BlockType.{BlockType}
use Rattle.wasm_ast.specs.declared.module.ty.BlockType.TheVariants as blocks
use Rattle.wasm_ast.specs.declared.module.immediates.MemArg.{MemArg}
use Rattle.wasm_ast.specs.declared.module.immediates.Catch.{Catch}
use Rattle.wasm_ast.specs.declared.module.immediates.Catch.TheVariants as catches
use Rattle.typed_trees.specs.Contexts.{Context, func_type, tag_type, block_type, one_result, address_type, is_value_type}
use Rattle.typed_trees.specs.Forms.{both_labels, labels_at, takes_all, payload_fits, clause_fits, holds_functions, indirect_type, access_at, accessed, addressed}
use Rattle.typed_trees.specs.Matching.{matches, all_match}
use Rattle.rewriting_kit.specs.Moving.{TypeMap, Indices, moved_block, moved_argument, moved_clause, MovedLabels, mapped_type, MovedContext, ClauseStays}
use Rattle.rewriting_kit.proofs.Joining.{some_same}
use Rattle.rewriting_kit.proofs.MovingForms.{match_mapped}

-- what is there in the output where it is there in the input
then_there : {X Y Z : Type 0} (o : Option X) (o' : Option Y) (g : X → Option Z) (g' : Y → Option Z) (z z' : Z) → ((x : X) → o ≡ Some x → g x ≡ Some z → (y : Y) × (o' ≡ Some y) × (g' y ≡ Some z')) → option_and_then g o ≡ Some z → option_and_then g' o' ≡ Some z'
then_there None o' g g' z z' k e = absurd cc
then_there (Some x) o' g g' z z' k e = let r = k x refl e in subst (λ p. option_and_then g' p ≡ Some z') (sym r.1) r.2

map_there : {X Z : Type 0} (o o' : Option X) (g : X → Z) (z : Z) → ((x : X) → o ≡ Some x → o' ≡ Some x) → option_map g o ≡ Some z → option_map g o' ≡ Some z
map_there None o' g z k e = absurd cc
map_there (Some x) o' g z k e = subst (λ p. option_map g p ≡ Some z) (sym (k x refl)) e

where_there : {X Y : Type 0} (b : Bool) (o : Option X) (o' : Option Y) (x : X) (y : Y) → (o ≡ Some x → o' ≡ Some y) → (if b then o else None) ≡ Some x → (if b then o' else None) ≡ Some y
where_there true o o' x y k e = k e
where_there false o o' x y k e = absurd cc

module _ (T : TypeMap) (n : Indices) (from into : Context) (moved : MovedContext T n from into) where
  -- types, and the signatures of functions and tags
  pub func_there : (x : ℕ) (t : FuncType) → func_type from x ≡ Some t → func_type into (n.func x) ≡ Some (mapped_type T t)
  func_there x t e = then_there (slice_get from.funcs x) (slice_get into.funcs (n.func x)) (slice_get from.types) (slice_get into.types) t (mapped_type T t) (λ i s h. (n.type i, moved.funcs x i s, moved.types i t h)) e

  pub tag_there : (x : ℕ) (t : FuncType) → tag_type from x ≡ Some t → tag_type into (n.tag x) ≡ Some (mapped_type T t)
  tag_there x t e = then_there (slice_get from.tags x) (slice_get into.tags (n.tag x)) (slice_get from.types) (slice_get into.types) t (mapped_type T t) (λ i s h. (n.type i, moved.tags x i s, moved.types i t h)) e

  one_there : (b : Bool) (s : Ty) (t : FuncType) → (b ≡ true → block_type into (n.block s) ≡ Some (mapped_type T (record { params = []; results = s ∷ [] }))) → one_result b s ≡ Some t → block_type into (n.block s) ≡ Some (mapped_type T t)
  one_there false s t there e = absurd cc
  one_there true s t there e = there refl ∙ ap (λ u. Some (mapped_type T u)) (some_same (record { params = []; results = s ∷ [] }) t e)

  pub block_there : (b : BlockType) (t : FuncType) → block_type from b ≡ Some t → block_type into (moved_block n b) ≡ Some (mapped_type T t)
  block_there (blocks.Index x) t e = moved.types x t e
  block_there blocks.Empty t e =
      ap (λ l. Some (record { params = l; results = l })) (sym T.over_none) ∙ ap (λ u. Some (mapped_type T u)) (some_same (record { params = []; results = [] }) t e)
  block_there (blocks.One s) t e = one_there (is_value_type s) s t (λ v. moved.blocks s v ∙ ap (λ l. Some (record { params = l; results = T.over (s ∷ []) })) (sym T.over_none)) e

  -- a type by which a table of functions is called
  pub indirect_there : (x table : ℕ) (t : FuncType) → indirect_type from x table ≡ Some t → indirect_type into (n.type x) (n.table table) ≡ Some (mapped_type T t)
  indirect_there x table t e = by (slice_get from.tables table) (slice_get into.tables (n.table table)) (moved.tables table) e
    where
      by : (o o' : Option Ty) → ((r : Ty) → o ≡ Some r → o' ≡ Some r) → (if holds_functions o then slice_get from.types x else None) ≡ Some t → (if holds_functions o' then slice_get into.types (n.type x) else None) ≡ Some (mapped_type T t)
      by None o' k e = absurd cc
      by (Some r) o' k e =
          subst (λ p. (if holds_functions p then slice_get into.types (n.type x) else None) ≡ Some (mapped_type T t)) (sym (k r refl))
          (where_there (matches r Func) (slice_get from.types x) (slice_get into.types (n.type x)) t (mapped_type T t) (moved.types x t) e)

  -- the type of an address
  pub access_there : (arg : MemArg) (bytes : ℕ) (a : Ty) → accessed from arg bytes ≡ Some a → accessed into (moved_argument n arg) bytes ≡ Some a
  access_there arg bytes a e =
      then_there (slice_get from.memories arg.memory) (slice_get into.memories (n.memory arg.memory)) (access_at arg bytes) (access_at (moved_argument n arg) bytes) a a (λ l s h. (l, moved.memories arg.memory l s, h)) e

  pub lane_there : (lane lanes : ℕ) (arg : MemArg) (bytes : ℕ) (a : Ty) → (if nat_lt lane lanes then accessed from arg bytes else None) ≡ Some a → (if nat_lt lane lanes then accessed into (moved_argument n arg) bytes else None) ≡ Some a
  lane_there lane lanes arg bytes a e = where_there (nat_lt lane lanes) (accessed from arg bytes) (accessed into (moved_argument n arg) bytes) a a (access_there arg bytes a) e

  pub address_there : (x : ℕ) (a : Ty) → addressed from x ≡ Some a → addressed into (n.memory x) ≡ Some a
  address_there x a e = map_there (slice_get from.memories x) (slice_get into.memories (n.memory x)) address_type a (moved.memories x) e

  module _ (ls ls' : List (List Ty)) (label : ℕ → ℕ) (labels : MovedLabels T label ls ls') where
    -- the labels of a table
    pub labels_there : (xs : List ℕ) (others : List (List Ty)) → labels_at ls xs ≡ Some others → labels_at ls' (map label xs) ≡ Some (map T.over others)
    labels_there [] others e = ap (λ l. Some (map T.over l)) (some_same [] others e)
    labels_there (x ∷ xs) others e = by (slice_get ls x) (labels_at ls xs) (labels x) (labels_there xs) e
      where
        by : (o : Option (List Ty)) (p : Option (List (List Ty))) → ((t : List Ty) → o ≡ Some t → slice_get ls' (label x) ≡ Some (T.over t)) → ((more : List (List Ty)) → p ≡ Some more → labels_at ls' (map label xs) ≡ Some (map T.over more))
            → both_labels o p ≡ Some others → both_labels (slice_get ls' (label x)) (labels_at ls' (map label xs)) ≡ Some (map T.over others)
        by None p k r e = absurd cc
        by (Some t) None k r e = absurd cc
        by (Some t) (Some more) k r e =
            ap (λ o. both_labels o (labels_at ls' (map label xs))) (k t refl) ∙ ap (λ p. both_labels (Some (T.over t)) p) (r more refl) ∙ ap (λ l. Some (map T.over l)) (some_same (t ∷ more) others e)

    -- what the label of a clause takes
    takes_there : (o o' : Option (List Ty)) (ts us : List Ty) → ((l : List Ty) → o ≡ Some l → o' ≡ Some (T.over l)) → T.over ts ≡ us → takes_all ts o ≡ true → takes_all us o' ≡ true
    takes_there None o' ts us k same e = absurd cc
    takes_there (Some l) o' ts us k same e = subst (λ p. takes_all us p ≡ true) (sym (k l refl)) (subst (λ u. all_match u (T.over l) ≡ true) same (match_mapped T ts l e))

    payload_there : (o o' : Option FuncType) (p p' : List Ty → Bool) → ((t : FuncType) → o ≡ Some t → o' ≡ Some (mapped_type T t)) → ((ts : List Ty) → p ts ≡ true → p' (T.over ts) ≡ true) → payload_fits o p ≡ true → payload_fits o' p' ≡ true
    payload_there None o' p p' k f e = absurd cc
    payload_there (Some t) o' p p' k f e = subst (λ q. payload_fits q p' ≡ true) (sym (k t refl)) (f t.params e)

    clause_there : (clause : Catch) → ClauseStays T clause → clause_fits from ls clause ≡ true → clause_fits into ls' (moved_clause n label clause) ≡ true
    clause_there (catches.Tag x l) stays e =
        payload_there (tag_type from x) (tag_type into (n.tag x)) (λ ts. takes_all ts (slice_get ls l)) (λ ts. takes_all ts (slice_get ls' (label l))) (tag_there x) (λ ts. takes_there (slice_get ls l) (slice_get ls' (label l)) ts (T.over ts) (labels l) refl) e
    clause_there (catches.TagRef x l) stays e =
        payload_there (tag_type from x) (tag_type into (n.tag x)) (λ ts. takes_all (ts ++ Exn ∷ []) (slice_get ls l)) (λ ts. takes_all (ts ++ Exn ∷ []) (slice_get ls' (label l))) (tag_there x)
        (λ ts. takes_there (slice_get ls l) (slice_get ls' (label l)) (ts ++ Exn ∷ []) (T.over ts ++ Exn ∷ []) (labels l) (T.over_append ts (Exn ∷ []) ∙ ap (λ r. T.over ts ++ r) stays)) e
    clause_there (catches.All l) stays e = takes_there (slice_get ls l) (slice_get ls' (label l)) [] [] (labels l) T.over_none e
    clause_there (catches.AllRef l) stays e = takes_there (slice_get ls l) (slice_get ls' (label l)) (Exn ∷ []) (Exn ∷ []) (labels l) stays e

    pub clauses_there : (clauses : List Catch) → AllByRecursion (ClauseStays T) clauses → list_all (clause_fits from ls) clauses ≡ true → list_all (clause_fits into ls') (map (moved_clause n label) clauses) ≡ true
    clauses_there [] stays e = refl
    clauses_there (clause ∷ clauses) stays e =
        ap (λ b. b && list_all (clause_fits into ls') (map (moved_clause n label) clauses)) (clause_there clause stays.0 (first (clause_fits from ls clause) (list_all (clause_fits from ls) clauses) e))
        ∙ clauses_there clauses stays.1 (second (clause_fits from ls clause) (list_all (clause_fits from ls) clauses) e)
      where
        first : (a b : Bool) → (a && b) ≡ true → a ≡ true
        first true b e = refl
        first false b e = absurd cc

        second : (a b : Bool) → (a && b) ≡ true → b ≡ true
        second true b e = e
        second false b e = absurd cc
