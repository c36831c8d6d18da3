-- A node that can stay is typed with its types, indices and labels moved: a line for each instruction.
use Rattle.std.proofs.Common.{◌≡◌, ℕ, Bool, true, false, List, [], ◌∷◌, ◌++◌, map, Option, Some, None, slice_get, refl, sym, ap, ◌∙◌, subst}
use Rattle.std.specs.Prelude.{nat_lt}
use Rattle.std.specs.List.{list_all, AllByRecursion}
use Rattle.num_core.specs.Accesses.{load_bytes, store_bytes}
use Rattle.lane_core.specs.Shapes.{lane_count, lane_bytes, extract_shape, lane_load_bytes}
use Rattle.wasm_ast.specs.declared.module.ty.Ty.{Ty}
use Rattle.wasm_ast.specs.declared.module.ty.Ty.TheVariants.{I32, Func}
use Rattle.wasm_ast.specs.declared.module.ty.FuncType.{FuncType}
use Rattle.wasm_ast.specs.declared.module.op.Op.{Op}
use Rattle.wasm_ast.specs.declared.module.op.Op.TheVariants as ops
use Rattle.wasm_ast.specs.declared.module.code.Instr.{Instr, out-Instr, out-roll-Instr}
use Rattle.wasm_ast.specs.declared.module.code.Instr.TheOpen.{Instr-F}
use Rattle.wasm_ast.specs.Marking.{is_marked}
use Rattle.typing_kit.specs.declared.kind.Kind.TheVariants.{Every, Reference}
use Rattle.typing_kit.specs.Form.{Flat, Leaves, Table, Block, Choice}
use Rattle.typed_trees.specs.declared.node.Node.{Node}
use Rattle.typed_trees.specs.Contexts.{Context, func_type, tag_type, block_type, address_type, is_value_type, is_reference_type}
use Rattle.typed_trees.specs.Forms.{InstrForm, form, layer_form, op_form, where_some, where_true, select_form, labels_at, clause_fits, indirect_type, tail_form, set_form, copy_form, memory_copy_form, accessed, lane_accessed, addressed}
use Rattle.typed_trees.specs.Matching.{matches, all_match}
use Rattle.typed_trees.specs.Trees.{leaves, leaves_layer, TypedNodes}
use Rattle.rewriting_kit.specs.Fitting.{OfBody, Here, Fits, after}
use Rattle.rewriting_kit.specs.Moving.{TypeMap, Indices, moved_block, moved_argument, moved_op, moved_clause, moved_layer, moved_head, MovedLabels, mapped_type, Alone, MovedContext, Stays, moved_node}
use Rattle.rewriting_kit.proofs.MovingForms
use Rattle.rewriting_kit.proofs.MovingForms.{match_mapped}
use Rattle.rewriting_kit.proofs.MovedParts
use Rattle.rewriting_kit.proofs.Staying.{put_together}

module _ (T : TypeMap) (n : Indices) (from into : Context) (moved : MovedContext T n from into) (ls ls' : List (List Ty)) (label : ℕ → ℕ) (labels : MovedLabels T label ls ls')
    (B : OfBody) (bodies : (label : List Ty) (nodes : List Node) (a b : List Ty) → B label nodes a b → Here into ls' (T.over label) nodes (T.over a) (T.over b))
    (takes gives : List Ty) (first second : List Node) where
  abbrev FitsFrom : InstrForm → Type 0
  FitsFrom f = Fits from B f takes gives first second

  abbrev FitsInto : InstrForm → Type 0
  FitsInto f = Fits into (Here into ls') f (T.over takes) (T.over gives) first second

  abbrev AllAlone : List Ty → Type 0
  AllAlone ts = AllByRecursion (Alone T) ts

  -- a form that asks for what is there
  found : {X Y : Type 0} (o : Option X) (o' : Option Y) (g : X → InstrForm) (g' : Y → InstrForm) → FitsFrom (where_some o g) → ((x : X) → o ≡ Some x → FitsFrom (g x) → (y : Y) × (o' ≡ Some y) × FitsInto (g' y)) → FitsInto (where_some o' g')
  found o o' g g' h k = MovingForms.found T from into ls' B takes gives first second o o' g g' h k

  -- the same, where it is the same in the output
  same_found : {X : Type 0} (o o' : Option X) (g : X → InstrForm) → FitsFrom (where_some o g) → ((x : X) → o ≡ Some x → o' ≡ Some x) → ((x : X) → FitsFrom (g x) → FitsInto (g x)) → FitsInto (where_some o' g)
  same_found o o' g h there k = found o o' g g h (λ x e f. (x, there x e, k x f))

  block_stays : (o o' : Option FuncType) (g g' : FuncType → InstrForm) → FitsFrom (where_some o g) → ((t : FuncType) → o ≡ Some t → o' ≡ Some (mapped_type T t)) → ((t : FuncType) → FitsFrom (g t) → FitsInto (g' (mapped_type T t))) → FitsInto (where_some o' g')
  block_stays o o' g g' h there k = found o o' g g' h (λ t e f. (mapped_type T t, there t e, k t f))

  -- tail calls
  tail_stays : (r r' : Option (List Ty)) (t : FuncType) (operands operands' : List Ty) → ((ts : List Ty) → r ≡ Some ts → r' ≡ Some (T.over ts)) → FitsFrom (tail_form r t operands) → (FitsFrom (Leaves operands) → FitsInto (Leaves operands')) → FitsInto (tail_form r' (mapped_type T t) operands')
  tail_stays None r' t operands operands' there h k = absurd h.0
  tail_stays (Some ts) r' t operands operands' there h k =
      subst (λ p. FitsInto (tail_form p (mapped_type T t) operands')) (sym (there ts refl))
      (MovingForms.holds T from into ls' B takes gives first second (all_match t.results ts) (all_match (T.over t.results) (T.over ts)) (Leaves operands) (Leaves operands') h (match_mapped T t.results ts) k)

  module _ (alone : AllAlone takes × AllAlone gives) where
    flat : (a b : List Ty) → FitsFrom (Flat a b) → FitsInto (Flat a b)
    flat a b h = MovingForms.flat_stays T from into ls' B takes gives first second alone a b h

    if_true : (b b' : Bool) (a g : List Ty) → FitsFrom (where_true b (Flat a g)) → (b ≡ true → b' ≡ true) → FitsInto (where_true b' (Flat a g))
    if_true b b' a g h k = MovingForms.holds T from into ls' B takes gives first second b b' (Flat a g) (Flat a g) h k (flat a g)

    select_typed : (ts : List Ty) → FitsFrom (select_form ts) → FitsInto (select_form ts)
    select_typed [] h = absurd h.0
    select_typed (t ∷ []) h = if_true (is_value_type t) (is_value_type t) (t ∷ (t ∷ (I32 ∷ []))) (t ∷ []) h (λ e. e)
    select_typed (t ∷ (s ∷ ts)) h = absurd h.0

    copies : (to from' : Ty) → FitsFrom (copy_form to from') → FitsInto (copy_form to from')
    copies to from' h = if_true (matches from' to) (matches from' to) (I32 ∷ (I32 ∷ (I32 ∷ []))) [] h (λ e. e)

    op_stays : (op : Op) → FitsFrom (op_form from op) → FitsInto (op_form into (moved_op n op))
    op_stays (ops.RefFunc x) h =
        found (slice_get from.funcs x) (slice_get into.funcs (n.func x)) _ (λ t. where_true (is_marked into.refs (n.func x)) (Flat [] (Func ∷ []))) h
        (λ t e f. (n.type t, moved.funcs x t e, if_true (is_marked from.refs x) (is_marked into.refs (n.func x)) [] (Func ∷ []) f (moved.refs x)))
    op_stays (ops.RefNull t) h = if_true (is_reference_type t) (is_reference_type t) [] (t ∷ []) h (λ e. e)
    op_stays ops.RefIsNull h = MovingForms.any_stays T from into ls' B takes gives first second alone Reference (I32 ∷ []) h
    op_stays (ops.Shuffle places) h = if_true (list_all (λ place. nat_lt place 32) places) (list_all (λ place. nat_lt place 32) places) _ _ h (λ e. e)
    op_stays (ops.Extract op lane) h = if_true (nat_lt lane (lane_count (extract_shape op))) (nat_lt lane (lane_count (extract_shape op))) _ _ h (λ e. e)
    op_stays (ops.Replace shape lane) h = if_true (nat_lt lane (lane_count shape)) (nat_lt lane (lane_count shape)) _ _ h (λ e. e)
    op_stays op h = flat _ _ h

  layer_stays : (l : Instr-F Instr) → Stays T l takes gives → FitsFrom (layer_form from ls l) → FitsInto (layer_form into ls' (moved_layer n label l))
  layer_stays (Instr-F.Block t code) s h = block_stays (block_type from t) (block_type into (moved_block n t)) _ (λ u. Block u.results u.params u.results code) h (λ u e. MovedParts.block_there T n from into moved t u e) (λ u f. MovingForms.block_moved T from into ls' B takes gives first second bodies u.results u.params u.results code f)
  layer_stays (Instr-F.Loop t code) s h = block_stays (block_type from t) (block_type into (moved_block n t)) _ (λ u. Block u.params u.params u.results code) h (λ u e. MovedParts.block_there T n from into moved t u e) (λ u f. MovingForms.block_moved T from into ls' B takes gives first second bodies u.params u.params u.results code f)
  layer_stays (Instr-F.If t code other) s h = block_stays (block_type from t) (block_type into (moved_block n t)) _ (λ u. Choice u.results u.params u.results code other) h (λ u e. MovedParts.block_there T n from into moved t u e) (λ u f. MovingForms.choice_moved T from into ls' B takes gives first second bodies u.results u.params u.results code other f)
  layer_stays (Instr-F.TryTable t clauses code) s h =
      block_stays (block_type from t) (block_type into (moved_block n t)) _ (λ u. where_true (list_all (clause_fits into ls') (map (moved_clause n label) clauses)) (Block u.results u.params u.results code)) h (λ u e. MovedParts.block_there T n from into moved t u e)
      (λ u f. MovingForms.holds T from into ls' B takes gives first second (list_all (clause_fits from ls) clauses) (list_all (clause_fits into ls') (map (moved_clause n label) clauses)) (Block u.results u.params u.results code) (Block (T.over u.results) (T.over u.params) (T.over u.results) code) f
      (MovedParts.clauses_there T n from into moved ls ls' label labels clauses s) (MovingForms.block_moved T from into ls' B takes gives first second bodies u.results u.params u.results code))
  layer_stays (Instr-F.Br l) s h = found (slice_get ls l) (slice_get ls' (label l)) _ (λ ts. Leaves ts) h (λ ts e f. (T.over ts, labels l ts e, MovingForms.leaves_moved T from into ls' B takes gives first second ts f))
  layer_stays (Instr-F.BrIf l) s h = found (slice_get ls l) (slice_get ls' (label l)) _ (λ ts. Flat (ts ++ I32 ∷ []) ts) h (λ ts e f. (T.over ts, labels l ts e, MovingForms.flat_above T from into ls' B takes gives first second ts ts f))
  layer_stays (Instr-F.BrTable xs last) s h =
      found (slice_get ls last) (slice_get ls' (label last)) _ (λ l. where_some (labels_at ls' (map label xs)) (λ others. Table l others)) h (λ l e f. (
        T.over l,
        labels last l e,
        found (labels_at ls xs) (labels_at ls' (map label xs)) _ (λ others. Table (T.over l) others) f (λ others e' f'. (map T.over others, MovedParts.labels_there T n from into moved ls ls' label labels xs others e', MovingForms.table_moved T from into ls' B takes gives first second l others f')),
      ))
  layer_stays (Instr-F.Call x) s h = found (func_type from x) (func_type into (n.func x)) _ (λ t. Flat t.params t.results) h (λ t e f. (mapped_type T t, MovedParts.func_there T n from into moved x t e, MovingForms.flat_moved T from into ls' B takes gives first second t.params t.results f))
  layer_stays (Instr-F.CallIndirect x table) s h =
      found (indirect_type from x table) (indirect_type into (n.type x) (n.table table)) _ (λ t. Flat (t.params ++ I32 ∷ []) t.results) h (λ t e f. (mapped_type T t, MovedParts.indirect_there T n from into moved x table t e, MovingForms.flat_above T from into ls' B takes gives first second t.params t.results f))
  layer_stays Instr-F.Return s h = found from.returns into.returns _ (λ ts. Leaves ts) h (λ ts e f. (T.over ts, moved.returns ts e, MovingForms.leaves_moved T from into ls' B takes gives first second ts f))
  layer_stays (Instr-F.ReturnCall x) s h =
      found (func_type from x) (func_type into (n.func x)) _ (λ t. tail_form into.returns t t.params) h (λ t e f. (
        mapped_type T t,
        MovedParts.func_there T n from into moved x t e,
        tail_stays from.returns into.returns t t.params (T.over t.params) moved.returns f (MovingForms.leaves_moved T from into ls' B takes gives first second t.params),
      ))
  layer_stays (Instr-F.ReturnCallIndirect x table) s h =
      found (indirect_type from x table) (indirect_type into (n.type x) (n.table table)) _ (λ t. tail_form into.returns t (t.params ++ I32 ∷ [])) h (λ t e f. (
        mapped_type T t,
        MovedParts.indirect_there T n from into moved x table t e,
        tail_stays from.returns into.returns t (t.params ++ I32 ∷ []) (T.over t.params ++ I32 ∷ []) moved.returns f (MovingForms.leaves_above T from into ls' B takes gives first second t.params),
      ))
  layer_stays (Instr-F.Throw x) s h = found (tag_type from x) (tag_type into (n.tag x)) _ (λ t. Leaves t.params) h (λ t e f. (mapped_type T t, MovedParts.tag_there T n from into moved x t e, MovingForms.leaves_moved T from into ls' B takes gives first second t.params f))
  layer_stays Instr-F.Unreachable s h = MovingForms.leaves_stays T from into ls' B takes gives first second s [] h
  layer_stays Instr-F.ThrowRef s h = MovingForms.leaves_stays T from into ls' B takes gives first second s _ h
  layer_stays Instr-F.Nop s h = flat s [] [] h
  layer_stays Instr-F.Drop s h = MovingForms.any_stays T from into ls' B takes gives first second s Every [] h
  layer_stays Instr-F.Select s h = MovingForms.select_stays T from into ls' B takes gives first second s h
  layer_stays (Instr-F.SelectTyped ts) s h = select_typed s ts h
  layer_stays (Instr-F.LocalGet x) s h = found (slice_get from.locals x) (slice_get into.locals (n.local x)) _ (λ t. Flat [] (t ∷ [])) h (λ t e f. (t, moved.locals x t e (subst AllAlone f.0.1 s.1).0, flat s [] (t ∷ []) f))
  layer_stays (Instr-F.LocalSet x) s h = found (slice_get from.locals x) (slice_get into.locals (n.local x)) _ (λ t. Flat (t ∷ []) []) h (λ t e f. (t, moved.locals x t e (subst AllAlone f.0.0 s.0).0, flat s (t ∷ []) [] f))
  layer_stays (Instr-F.LocalTee x) s h = found (slice_get from.locals x) (slice_get into.locals (n.local x)) _ (λ t. Flat (t ∷ []) (t ∷ [])) h (λ t e f. (t, moved.locals x t e (subst AllAlone f.0.0 s.0).0, flat s (t ∷ []) (t ∷ []) f))
  layer_stays (Instr-F.GlobalGet x) s h = found (slice_get from.globals x) (slice_get into.globals (n.global x)) _ (λ g. Flat [] (g.ty ∷ [])) h (λ g e f. (g, moved.globals x g e (subst AllAlone f.0.1 s.1).0, flat s [] (g.ty ∷ []) f))
  layer_stays (Instr-F.GlobalSet x) s h =
      found (slice_get from.globals x) (slice_get into.globals (n.global x)) _ set_form h (λ g e f. (g, moved.globals x g e (taken (g.mutable) g.ty f), if_true s g.mutable g.mutable (g.ty ∷ []) [] f (λ r. r)))
    where
      taken : (b : Bool) (t : Ty) → FitsFrom (where_true b (Flat (t ∷ []) [])) → Alone T t
      taken true t f = (subst AllAlone f.0.0 s.0).0
      taken false t f = absurd f.0
  layer_stays (Instr-F.TableGet x) s h = same_found (slice_get from.tables x) (slice_get into.tables (n.table x)) _ h (moved.tables x) (λ t. flat s _ _)
  layer_stays (Instr-F.TableSet x) s h = same_found (slice_get from.tables x) (slice_get into.tables (n.table x)) _ h (moved.tables x) (λ t. flat s _ _)
  layer_stays (Instr-F.TableSize x) s h = same_found (slice_get from.tables x) (slice_get into.tables (n.table x)) _ h (moved.tables x) (λ t. flat s _ _)
  layer_stays (Instr-F.TableGrow x) s h = same_found (slice_get from.tables x) (slice_get into.tables (n.table x)) _ h (moved.tables x) (λ t. flat s _ _)
  layer_stays (Instr-F.TableFill x) s h = same_found (slice_get from.tables x) (slice_get into.tables (n.table x)) _ h (moved.tables x) (λ t. flat s _ _)
  layer_stays (Instr-F.TableCopy to from') s h =
      found (slice_get from.tables to) (slice_get into.tables (n.table to)) _ (λ t. where_some (slice_get into.tables (n.table from')) (λ r. copy_form t r)) h (λ t e f. (
        t,
        moved.tables to t e,
        same_found (slice_get from.tables from') (slice_get into.tables (n.table from')) (λ r. copy_form t r) f (moved.tables from') (copies s t),
      ))
  layer_stays (Instr-F.TableInit segment x) s h =
      found (slice_get from.tables x) (slice_get into.tables (n.table x)) _ (λ t. where_some (slice_get into.elems (n.elem segment)) (λ r. copy_form t r)) h (λ t e f. (
        t,
        moved.tables x t e,
        same_found (slice_get from.elems segment) (slice_get into.elems (n.elem segment)) (λ r. copy_form t r) f (moved.elems segment) (copies s t),
      ))
  layer_stays (Instr-F.ElemDrop segment) s h = same_found (slice_get from.elems segment) (slice_get into.elems (n.elem segment)) _ h (moved.elems segment) (λ t. flat s [] [])
  layer_stays (Instr-F.Load op arg) s h = same_found (accessed from arg (load_bytes op)) (accessed into (moved_argument n arg) (load_bytes op)) _ h (MovedParts.access_there T n from into moved arg (load_bytes op)) (λ a. flat s _ _)
  layer_stays (Instr-F.Store op arg) s h = same_found (accessed from arg (store_bytes op)) (accessed into (moved_argument n arg) (store_bytes op)) _ h (MovedParts.access_there T n from into moved arg (store_bytes op)) (λ a. flat s _ _)
  layer_stays (Instr-F.LoadVector op arg) s h = same_found (accessed from arg (lane_load_bytes op)) (accessed into (moved_argument n arg) (lane_load_bytes op)) _ h (MovedParts.access_there T n from into moved arg (lane_load_bytes op)) (λ a. flat s _ _)
  layer_stays (Instr-F.StoreVector arg) s h = same_found (accessed from arg 16) (accessed into (moved_argument n arg) 16) _ h (MovedParts.access_there T n from into moved arg 16) (λ a. flat s _ _)
  layer_stays (Instr-F.LoadLane shape arg lane) s h = same_found (lane_accessed from shape arg lane) (lane_accessed into shape (moved_argument n arg) lane) _ h (MovedParts.lane_there T n from into moved lane (lane_count shape) arg (lane_bytes shape)) (λ a. flat s _ _)
  layer_stays (Instr-F.StoreLane shape arg lane) s h = same_found (lane_accessed from shape arg lane) (lane_accessed into shape (moved_argument n arg) lane) _ h (MovedParts.lane_there T n from into moved lane (lane_count shape) arg (lane_bytes shape)) (λ a. flat s _ _)
  layer_stays (Instr-F.MemorySize x) s h = same_found (addressed from x) (addressed into (n.memory x)) _ h (MovedParts.address_there T n from into moved x) (λ a. flat s _ _)
  layer_stays (Instr-F.MemoryGrow x) s h = same_found (addressed from x) (addressed into (n.memory x)) _ h (MovedParts.address_there T n from into moved x) (λ a. flat s _ _)
  layer_stays (Instr-F.MemoryFill x) s h = same_found (slice_get from.memories x) (slice_get into.memories (n.memory x)) _ h (moved.memories x) (λ l. flat s _ _)
  layer_stays (Instr-F.MemoryCopy to from') s h =
      found (slice_get from.memories to) (slice_get into.memories (n.memory to)) _ (λ t. where_some (slice_get into.memories (n.memory from')) (λ r. memory_copy_form t r)) h (λ t e f. (
        t,
        moved.memories to t e,
        same_found (slice_get from.memories from') (slice_get into.memories (n.memory from')) (λ r. memory_copy_form t r) f (moved.memories from') (λ r. flat s _ _),
      ))
  layer_stays (Instr-F.MemoryInit segment x) s h =
      found (slice_get from.memories x) (slice_get into.memories (n.memory x)) _ (λ l. where_true (nat_lt (n.segment segment) into.datas) (Flat (address_type l ∷ (I32 ∷ (I32 ∷ []))) [])) h
      (λ l e f. (l, moved.memories x l e, if_true s (nat_lt segment from.datas) (nat_lt (n.segment segment) into.datas) _ _ f (moved.datas segment)))
  layer_stays (Instr-F.DataDrop segment) s h = if_true s (nat_lt segment from.datas) (nat_lt (n.segment segment) into.datas) [] [] h (moved.datas segment)
  layer_stays (Instr-F.Pure op) s h = op_stays s op h
  layer_stays (Instr-F.Float code immediates) s h = absurd h.0

  -- what leaves leaves
  same_leaves : (l : Instr-F Instr) → leaves_layer (moved_layer n label l) ≡ leaves_layer l
  same_leaves Instr-F.Nop = refl
  same_leaves l = refl

  -- A node that can stay is typed.
  pub moved_typed : (head : Instr) → Stays T (out-Instr head) takes gives → FitsFrom (form from ls head) → TypedNodes into ls' (moved_node T n label head takes gives first second ∷ []) (T.over takes) (after (leaves head) (T.over gives))
  moved_typed head stays fits =
      subst (λ b. TypedNodes into ls' (moved_node T n label head takes gives first second ∷ []) (T.over takes) (after b (T.over gives))) (ap leaves_layer (out-roll-Instr (moved_layer n label (out-Instr head))) ∙ same_leaves (out-Instr head))
      (put_together into ls' (moved_head n label head) (T.over takes) (T.over gives) first second
      (subst (λ l. FitsInto (layer_form into ls' l)) (sym (out-roll-Instr (moved_layer n label (out-Instr head)))) (layer_stays (out-Instr head) stays fits)))
