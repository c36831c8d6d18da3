-- What plain instructions keep by themselves.
use Rattle.std.proofs.Common.{◌≡◌, ℕ, Bool, true, false, List, [], ◌∷◌, length, Option, Some, None, option_map, ◌∙◌, if◌then◌else◌}
use Rattle.std.specs.Prelude.{slice_get, set, replicate, option_and_then}
use Rattle.std.specs.List.{AllByRecursion}
use Rattle.std.proofs.lemmas.List.{length-set}
use Rattle.num_core.specs.declared.operators.Width.{Width}
use Rattle.num_core.specs.declared.operators.Width.TheVariants.{W32, W64}
use Rattle.num_core.specs.Integers.{bits, wrap, binary, width_to}
use Rattle.lane_core.specs.Shapes.{extract_shape}
use Rattle.wasm_ast.specs.declared.module.op.Op.{Op}
use Rattle.wasm_ast.specs.declared.module.op.Op.TheVariants as ops
use Rattle.evaluation_kit.specs.Configurations.{Plain}
use Rattle.evaluation_kit.specs.Leaves.{on_operands, operands_or_trap, below, top, read_range, write_range}
use Rattle.simulation_kit.specs.Keeping.{Keeping, Holds, HoldsAfter, ActKeeps}
use Rattle.meaning_new.specs.declared.val.Val.{Val}
use Rattle.meaning_new.specs.Store.{Store, State, Memory, Table, After, missing, int, on_store, store_or_trap}
use Rattle.meaning_new.specs.Numeric.{first, second, third, lane_width, pure}
use Rattle.meaning_new.specs.Tables
use Rattle.meaning_new.specs.Forms.{drop_operand, select, holds as is_true}
use Rattle.stage_kit.specs.Adding.{Names, op_named}
use Rattle.stage_kit.specs.Naming.{ValNamed, AllNamed, StoreNamed, StateNamed}
use Rattle.stage_kit.proofs.Lists.{IfAny, all_take, all_drop, all_append, all_reverse, all_set, all_replicate, all_get, all_index, all_top, all_below, all_read, all_write}

module _ (names : Names) (globals : ℕ) where
  abbrev pub V : Val → Type 0
  V = ValNamed names globals

  abbrev pub All : List Val → Type 0
  All = AllNamed names globals

  -- what runs keep
  abbrev pub naming : Keeping Val State
  naming = record {
    Named = λ f. names.func f ≡ true;
    Sound = All;
    none = tt;
    takes = all_take V;
    drops = all_drop V;
    appends = all_append V;
    reverses = all_reverse V;
    Safe = StateNamed names globals;
  }

  pub under : (l : List Val) → All l → All (below l)
  under = all_below V

  pub under2 : (l : List Val) → All l → All (below (below l))
  under2 l h = under (below l) (under l h)

  pub under3 : (l : List Val) → All l → All (below (below (below l)))
  under3 l h = under (below (below l)) (under2 l h)

  pub top_named : (l : List Val) → All l → V (top missing l)
  top_named l h = all_top V missing l tt h

  -- instructions on operands
  pub int_named : (w : Width) (i : ℕ) → V (int w i)
  int_named W32 i = tt
  int_named W64 i = tt

  pub operands_keep : (f : List Val → Option (List Val)) → ((l : List Val) → All l → IfAny All (f l)) → ActKeeps naming (on_operands f)
  operands_keep f h = record { keeps = λ q g. both q g (f q.operands) (h q.operands g.operands) }
    where
      both : (q : Plain Val State) → Holds naming q → (r : Option (List Val)) → IfAny All r → HoldsAfter naming (operands_or_trap q r)
      both q g None h = (tt, g)
      both q g (Some l) h = record { operands = h; locals = g.locals; state = g.state }

  calculated : (w : Width) (r : Option ℕ) (l : List Val) → All l → IfAny All (option_map (λ v. v ∷ l) (option_map (int w) r))
  calculated w None l h = tt
  calculated w (Some i) l h = (int_named w i, h)

  pub pure_named : (op : Op) → op_named names op ≡ true → (l : List Val) → All l → IfAny All (pure op l)
  pure_named (ops.I32Const i) n l h = (tt, h)
  pure_named (ops.I64Const i) n l h = (tt, h)
  pure_named (ops.Eqz w) n l h = (tt, under l h)
  pure_named (ops.Compare w op) n l h = (tt, under2 l h)
  pure_named (ops.Unary w op) n l h = (int_named w _, under l h)
  pure_named (ops.Binary w op) n l h = calculated w (binary w op (wrap (bits w) (second l)) (wrap (bits w) (first l))) (below (below l)) (under2 l h)
  pure_named (ops.Convert op) n l h = (int_named (width_to op) _, under l h)
  pure_named (ops.V128Const v) n l h = (tt, h)
  pure_named ops.Bitselect n l h = (tt, under3 l h)
  pure_named (ops.Shuffle places) n l h = (tt, under2 l h)
  pure_named (ops.Splat shape) n l h = (tt, under l h)
  pure_named (ops.Extract op lane) n l h = (int_named (lane_width (extract_shape op)) _, under l h)
  pure_named (ops.Replace shape lane) n l h = (tt, under2 l h)
  pure_named (ops.Lanes1 op) n l h = (tt, under l h)
  pure_named (ops.Lanes2 op) n l h = (tt, under2 l h)
  pure_named (ops.ShiftLanes op) n l h = (tt, under2 l h)
  pure_named (ops.TestLanes op) n l h = (tt, under l h)
  pure_named (ops.RefNull t) n l h = (tt, h)
  pure_named ops.RefIsNull n l h = (tt, under l h)
  pure_named (ops.RefFunc x) n l h = (n, h)

  pub pure_keeps : (op : Op) → op_named names op ≡ true → ActKeeps naming (on_operands (pure op))
  pure_keeps op n = operands_keep (pure op) (pure_named op n)

  pub drop_keeps : ActKeeps naming (on_operands drop_operand)
  drop_keeps = operands_keep drop_operand under

  pub select_keeps : ActKeeps naming (on_operands select)
  select_keeps = operands_keep select (λ l h. (either (is_true l) (top missing (below (below l))) (top missing (below l)) (top_named (below (below l)) (under2 l h)) (top_named (below l) (under l h)), under3 l h))
    where
      either : (b : Bool) (v w : Val) → V v → V w → V (if b then v else w)
      either true v w h g = h
      either false v w h g = g

  -- instructions on the store
  abbrev pub S : Store → Type 0
  S = StoreNamed names globals

  abbrev pub R : List Val × Store → Type 0
  R r = All r.0 × S r.1

  pub in_store : (q : Plain Val State) → Holds naming q → (s : Store) → S s → StateNamed names globals (record q.state { store = s })
  in_store q g s h = record { store = h; replies = g.state.replies }

  pub store_keeps : (f : List Val → Store → After) → ((l : List Val) (s : Store) → All l → S s → IfAny R (f l s)) → ActKeeps naming (on_store f)
  store_keeps f h = record { keeps = λ q g. both q g (f q.operands q.state.store) (h q.operands q.state.store g.operands g.state.store) }
    where
      both : (q : Plain Val State) → Holds naming q → (r : After) → IfAny R r → HoldsAfter naming (store_or_trap q r)
      both q g None h = (tt, g)
      both q g (Some r) h = record { operands = h.0; locals = g.locals; state = in_store q g r.1 h.1 }

  -- the parts of a store that are changed
  pub with_globals : (s : Store) (l : List Val) → S s → length l ≡ globals → All l → S (record s { globals = l })
  with_globals s l h n g = record { count = n; globals_named = g; tables = h.tables; elems = h.elems; exceptions = h.exceptions }

  pub with_memories : (s : Store) (l : List Memory) → S s → S (record s { memories = l })
  with_memories s l h = record { count = h.count; globals_named = h.globals_named; tables = h.tables; elems = h.elems; exceptions = h.exceptions }

  pub with_datas : (s : Store) (l : List (List ℕ)) → S s → S (record s { datas = l })
  with_datas s l h = record { count = h.count; globals_named = h.globals_named; tables = h.tables; elems = h.elems; exceptions = h.exceptions }

  pub with_elems : (s : Store) (l : List (List Val)) → S s → AllByRecursion All l → S (record s { elems = l })
  with_elems s l h g = record { count = h.count; globals_named = h.globals_named; tables = h.tables; elems = g; exceptions = h.exceptions }

  pub entered : (x : ℕ) (t : Table) (entries : List Val) (s : Store) → S s → All entries → S (Tables.with_entries x t entries s)
  entered x t entries s h g = record {
    count = h.count;
    globals_named = h.globals_named;
    tables = all_set (λ i. All i.entries) s.tables x (record t { entries = entries }) g h.tables;
    elems = h.elems;
    exceptions = h.exceptions;
  }

  -- one step after another
  pub then_kept : {B : Type 0} (P : B → Type 0) (o : Option B) (f : B → After) → IfAny P o → ((b : B) → P b → IfAny R (f b)) → IfAny R (option_and_then f o)
  then_kept P None f h g = tt
  then_kept P (Some b) f h g = g b h

  pub map_kept : {B : Type 0} (P : B → Type 0) (o : Option B) (f : B → List Val × Store) → IfAny P o → ((b : B) → P b → R (f b)) → IfAny R (option_map f o)
  map_kept P None f h g = tt
  map_kept P (Some b) f h g = g b h

  pub wrote_kept : {B : Type 0} (P : B → Type 0) (o : Option B) (l : List Val) (f : B → Store) → IfAny P o → All l → ((b : B) → P b → S (f b)) → IfAny R (option_map (λ after. (l, after)) (option_map f o))
  wrote_kept P None l f h k g = tt
  wrote_kept P (Some b) l f h k g = (k, g b h)

  pub any : {B : Type 0} (o : Option B) → IfAny (λ (b : B). Unit {0}) o
  any None = tt
  any (Some b) = tt

  table_at : (x : ℕ) (s : Store) → S s → IfAny (λ t. All t.entries) (slice_get s.tables x)
  table_at x s h = all_get (λ t. All t.entries) s.tables x h.tables

  pub get_keeps : (x : ℕ) → ActKeeps naming (on_store (Tables.global_get x))
  get_keeps x = store_keeps (Tables.global_get x) (λ l s h g. ((all_index V s.globals x missing tt g.globals_named, h), g))

  pub set_keeps : (x : ℕ) → ActKeeps naming (on_store (Tables.global_set x))
  set_keeps x =
      store_keeps (Tables.global_set x) (λ l s h g.
      (under l h, with_globals s (set s.globals x (top missing l)) g (length-set s.globals x (top missing l) ∙ g.count) (all_set V s.globals x (top missing l) (top_named l h) g.globals_named)))

  pub table_get_keeps : (x : ℕ) → ActKeeps naming (on_store (Tables.table_get x))
  table_get_keeps x =
      store_keeps (Tables.table_get x) (λ l s h g. then_kept (λ t. All t.entries) (slice_get s.tables x) _ (table_at x s g) (λ t k.
      map_kept V (slice_get t.entries (first l)) _ (all_get V t.entries (first l) k) (λ v n. ((n, under l h), g))))

  pub table_set_keeps : (x : ℕ) → ActKeeps naming (on_store (Tables.table_set x))
  table_set_keeps x =
      store_keeps (Tables.table_set x) (λ l s h g. then_kept (λ t. All t.entries) (slice_get s.tables x) _ (table_at x s g) (λ t k.
      wrote_kept All (write_range (second l) (top missing l ∷ []) t.entries) (below (below l)) _ (all_write V (second l) (top missing l ∷ []) t.entries (top_named l h, tt) k) (under2 l h) (λ entries n. entered x t entries s g n)))

  pub table_size_keeps : (x : ℕ) → ActKeeps naming (on_store (Tables.table_size x))
  table_size_keeps x = store_keeps (Tables.table_size x) (λ l s h g. then_kept (λ t. Unit {0}) (slice_get s.tables x) _ (any (slice_get s.tables x)) (λ t k. ((tt, h), g)))

  pub table_fill_keeps : (x : ℕ) → ActKeeps naming (on_store (Tables.table_fill x))
  table_fill_keeps x =
      store_keeps (Tables.table_fill x) (λ l s h g. then_kept (λ t. All t.entries) (slice_get s.tables x) _ (table_at x s g) (λ t k.
      let new = replicate (first l) (top missing (below l)) in
      wrote_kept All (write_range (third l) new t.entries) (below (below (below l))) _ (all_write V (third l) new t.entries (all_replicate V (first l) (top missing (below l)) (top_named (below l) (under l h))) k) (under3 l h) (λ entries n. entered x t entries s g n)))

  pub table_copy_keeps : (to from : ℕ) → ActKeeps naming (on_store (Tables.table_copy to from))
  table_copy_keeps to from =
      store_keeps (Tables.table_copy to from) (λ l s h g. then_kept (λ t. All t.entries) (slice_get s.tables to) _ (table_at to s g) (λ t k.
      then_kept (λ i. All i.entries) (slice_get s.tables from) _ (table_at from s g) (λ source j.
      then_kept All (read_range (second l) (first l) source.entries) _ (all_read V (second l) (first l) source.entries j) (λ new i.
      wrote_kept All (write_range (third l) new t.entries) (below (below (below l))) _ (all_write V (third l) new t.entries i k) (under3 l h) (λ entries n. entered to t entries s g n)))))

  pub table_init_named : (segment x : ℕ) (l : List Val) (s : Store) → All l → S s → IfAny R (Tables.table_init segment x l s)
  table_init_named segment x l s h g =
      then_kept (λ t. All t.entries) (slice_get s.tables x) _ (table_at x s g) (λ t k.
      then_kept All (read_range (second l) (first l) (Tables.segment_entries segment s)) _ (all_read V (second l) (first l) (Tables.segment_entries segment s) (all_index All s.elems segment [] tt g.elems)) (λ new i.
      wrote_kept All (write_range (third l) new t.entries) (below (below (below l))) _ (all_write V (third l) new t.entries i k) (under3 l h) (λ entries n. entered x t entries s g n)))

  pub table_init_keeps : (segment x : ℕ) → ActKeeps naming (on_store (Tables.table_init segment x))
  table_init_keeps segment x = store_keeps (Tables.table_init segment x) (table_init_named segment x)

  pub elem_drop_keeps : (segment : ℕ) → ActKeeps naming (on_store (Tables.elem_drop segment))
  elem_drop_keeps segment = store_keeps (Tables.elem_drop segment) (λ l s h g. (h, with_elems s (set s.elems segment []) g (all_set All s.elems segment [] tt g.elems)))
