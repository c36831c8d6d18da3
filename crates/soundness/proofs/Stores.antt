-- Instructions on the store: they leave a typed store, and operands of their types.
use Rattle.std.proofs.Common.{◌≡◌, ℕ, zero, suc, ◌≤◌, Bool, true, false, List, [], ◌∷◌, map, length, Option, Some, None, option_map, refl, sym, ◌∙◌, subst, le_refl}
use Rattle.std.specs.Prelude.{slice_get, set, option_and_then}
use Rattle.std.specs.List.{AllByRecursion}
use Rattle.std.proofs.lemmas.List.{length-set}
use Rattle.host_kit.specs.Pairwise.{Pairwise}
use Rattle.host_kit.specs.Trace.{Grown}
use Rattle.wasm_ast.specs.declared.module.ty.Ty.{Ty}
use Rattle.wasm_ast.specs.declared.module.ty.Limits.{Limits}
use Rattle.wasm_ast.specs.declared.module.parts.Module.{Module}
use Rattle.typed_trees.specs.Contexts.{Context}
use Rattle.typed_trees.specs.Modules.{all_globals, all_tables, all_memories}
use Rattle.typed_trees.specs.declared.global_type.GlobalType.{GlobalType}
use Rattle.evaluation_kit.specs.Configurations.{Plain}
use Rattle.meaning_new.specs.declared.val.Val.{Val}
use Rattle.meaning_new.specs.Store.{Store, State, Memory, Table, Growth, After, on_store, store_or_trap, on_growth, growth_or_trap, settled_growth, is_granted, sizes}
use Rattle.meaning_new.specs.Memories.{at_memory, with_bytes}
use Rattle.meaning_new.specs.Tables.{at_table, with_entries, with_global}
use Rattle.soundness.specs.States.{made, Has, HaveTypes, StoreTyped, MarkTyped, PlainTyped, ResultTyped}
use Rattle.soundness.proofs.Lists.{IfAny, pair_set, pair_get, pair_replace, all_append}
use Rattle.soundness.proofs.Judging.{ActSafe}

module _ (m : Module) where
  -- a typed store with as many exceptions, and operands of these types
  pub record Wrote (k : ℕ) (gives : List Ty) (vs : List Val) (s : Store) : Type 0 where
    pub same : length s.exceptions ≡ k
    pub operands : HaveTypes m k vs gives
    pub store : StoreTyped m s

  abbrev pub WroteAfter : ℕ → List Ty → List Val × Store → Type 0
  WroteAfter k gives r = Wrote k gives r.0 r.1

  pub record GrowthTyped (k : ℕ) (gives : List Ty) (g : Growth) : Type 0 where
    pub same : length g.larger.exceptions ≡ k
    pub larger : StoreTyped m g.larger
    pub operands : (ok : Bool) → HaveTypes m k (g.operands ok) gives

  module _ (c : Context) (ls : List (List Ty)) (stack gives : List Ty) where
    pub store_safe : (f : List Val → Store → After) → ((vs : List Val) (s : Store) → StoreTyped m s → HaveTypes m (length s.exceptions) vs stack → IfAny (WroteAfter (length s.exceptions) gives) (f vs s)) → ActSafe m c ls stack (Some gives) (on_store f)
    store_safe f h = record { by = λ p t. both p t (f p.operands p.state.store) (h p.operands p.state.store t.state.store t.operands_typed) }
      where
        both : (p : Plain Val State) → PlainTyped m c stack p → (r : After) → IfAny (WroteAfter (made p.state) gives) r → ResultTyped m c ls (Some gives) (made p.state) (store_or_trap p r)
        both p t None w = record { jump = tt; locals = t.locals; state = t.state; extends = le_refl (made p.state) }
        both p t (Some r) w =
            let back = sym w.same in (
              record {
                operands_typed = subst (λ k. HaveTypes m k r.0 gives) back w.operands;
                locals = subst (λ k. HaveTypes m k p.locals c.locals) back t.locals;
                state = record { store = w.store; replies = t.state.replies; trace = t.state.trace };
              },
              subst (λ k. made p.state ≤ k) back (le_refl (made p.state)),
            )

    pub growth_safe : (f : List Val → Store → Option Growth) → ((vs : List Val) (s : Store) → StoreTyped m s → HaveTypes m (length s.exceptions) vs stack → IfAny (GrowthTyped (length s.exceptions) gives) (f vs s)) → ActSafe m c ls stack (Some gives) (on_growth f)
    growth_safe f h = record { by = λ p t. both p t (f p.operands p.state.store) (h p.operands p.state.store t.state.store t.operands_typed) }
      where
        settled : (p : Plain Val State) → PlainTyped m c stack p → (g : Growth) → GrowthTyped (made p.state) gives g → (ok : Bool) → ResultTyped m c ls (Some gives) (made p.state) (settled_growth ok g p)
        settled p t g w true =
            let back = sym w.same in (
              record {
                operands_typed = subst (λ k. HaveTypes m k (g.operands true) gives) back (w.operands true);
                locals = subst (λ k. HaveTypes m k p.locals c.locals) back t.locals;
                state = record {
                  store = w.larger;
                  replies = t.state.replies;
                  trace = all_append (MarkTyped m) p.state.trace (Grown true (sizes g.larger) ∷ []) t.state.trace (tt, tt);
                };
              },
              subst (λ k. made p.state ≤ k) back (le_refl (made p.state)),
            )
        settled p t g w false = (
          record {
            operands_typed = w.operands false;
            locals = t.locals;
            state = record {
              store = t.state.store;
              replies = t.state.replies;
              trace = all_append (MarkTyped m) p.state.trace (Grown false (sizes p.state.store) ∷ []) t.state.trace (tt, tt);
            };
          },
          le_refl (made p.state),
        )

        both : (p : Plain Val State) → PlainTyped m c stack p → (o : Option Growth) → IfAny (GrowthTyped (made p.state) gives) o → ResultTyped m c ls (Some gives) (made p.state) (growth_or_trap p o)
        both p t None w = record { jump = tt; locals = t.locals; state = t.state; extends = le_refl (made p.state) }
        both p t (Some g) w = settled p t g w (is_granted g p.state)

  -- a typed store whose parts are changed
  pub with_globals : (s : Store) (x : ℕ) (g : GlobalType) (v : Val) → slice_get (all_globals m) x ≡ Some g → Has m (length s.exceptions) v g.ty → StoreTyped m s → StoreTyped m (with_global x v s)
  with_globals s x g v e h t = record {
    globals = pair_set (λ v g. Has m (length s.exceptions) v g.ty) s.globals (all_globals m) x v g e h t.globals;
    memories = t.memories;
    tables = t.tables;
    elems = t.elems;
    datas = t.datas;
    exceptions = t.exceptions;
  }

  pub with_entry : (s : Store) (x : ℕ) (table : Table) (ty : Ty) (entries : List Val) → slice_get (all_tables m) x ≡ Some ty → AllByRecursion (λ v. Has m (length s.exceptions) v ty) entries → StoreTyped m s → StoreTyped m (with_entries x table entries s)
  with_entry s x table ty entries e h t = record {
    globals = t.globals;
    memories = t.memories;
    tables = pair_set (λ i u. AllByRecursion (λ v. Has m (length s.exceptions) v u) i.entries) s.tables (all_tables m) x (record table { entries = entries }) ty e h t.tables;
    elems = t.elems;
    datas = t.datas;
    exceptions = t.exceptions;
  }

  pub with_memory : (s : Store) (x : ℕ) (mem : Memory) (bytes : List ℕ) → slice_get s.memories x ≡ Some mem → StoreTyped m s → StoreTyped m (with_bytes x mem bytes s)
  with_memory s x mem bytes e t = record {
    globals = t.globals;
    memories = pair_replace (λ i l. i.wide ≡ l.wide) s.memories (all_memories m) x mem (record mem { bytes = bytes }) e (λ l h. h) t.memories;
    tables = t.tables;
    elems = t.elems;
    datas = t.datas;
    exceptions = t.exceptions;
  }

  pub without_elem : (s : Store) (x : ℕ) → StoreTyped m s → StoreTyped m (record s { elems = set s.elems x [] })
  without_elem s x t = record {
    globals = t.globals;
    memories = t.memories;
    tables = t.tables;
    elems = emptied s.elems (map (λ e. e.ty) m.elems) x t.elems;
    datas = t.datas;
    exceptions = t.exceptions;
  }
    where
      emptied : (xs : List (List Val)) (ys : List Ty) (i : ℕ) → Pairwise (λ vs ty. AllByRecursion (λ v. Has m (length s.exceptions) v ty) vs) xs ys → Pairwise (λ vs ty. AllByRecursion (λ v. Has m (length s.exceptions) v ty) vs) (set xs i []) ys
      emptied [] ys i h = h
      emptied (x ∷ xs) [] i h = absurd h
      emptied (x ∷ xs) (y ∷ ys) zero h = (tt, h.1)
      emptied (x ∷ xs) (y ∷ ys) (suc i) h = (h.0, emptied xs ys i h.1)

  pub without_data : (s : Store) (x : ℕ) → StoreTyped m s → StoreTyped m (record s { datas = set s.datas x [] })
  without_data s x t = record { globals = t.globals; memories = t.memories; tables = t.tables; elems = t.elems; datas = length-set s.datas x [] ∙ t.datas; exceptions = t.exceptions }

  -- what there is in a typed store
  pub table_there : (s : Store) (x : ℕ) (ty : Ty) → slice_get (all_tables m) x ≡ Some ty → StoreTyped m s → (t : Table) × (slice_get s.tables x ≡ Some t) × AllByRecursion (λ v. Has m (length s.exceptions) v ty) t.entries
  table_there s x ty e t = pair_get (λ i u. AllByRecursion (λ v. Has m (length s.exceptions) v u) i.entries) s.tables (all_tables m) x ty e t.tables

  module _ (P : List Val × Store → Type 0) where
    pub at_typed_table : (s : Store) (x : ℕ) (ty : Ty) → slice_get (all_tables m) x ≡ Some ty → StoreTyped m s → (f : Table → After) → ((t : Table) → AllByRecursion (λ v. Has m (length s.exceptions) v ty) t.entries → IfAny P (f t)) → IfAny P (at_table x s f)
    at_typed_table s x ty e t f h =
        let there = table_there s x ty e t in
        subst (λ o. IfAny P (option_and_then f o)) (sym there.1) (h there.0 there.2)

    pub at_any_memory : (s : Store) (x : ℕ) (f : Memory → After) → ((mem : Memory) → slice_get s.memories x ≡ Some mem → IfAny P (f mem)) → IfAny P (at_memory x s f)
    at_any_memory s x f h = both (slice_get s.memories x) h
      where
        both : (o : Option Memory) → ((mem : Memory) → o ≡ Some mem → IfAny P (f mem)) → IfAny P (option_and_then f o)
        both None g = tt
        both (Some mem) g = g mem refl

    pub at_typed_memory : (s : Store) (x : ℕ) (l : Limits) → slice_get (all_memories m) x ≡ Some l → StoreTyped m s → (f : Memory → After) → ((mem : Memory) → slice_get s.memories x ≡ Some mem → mem.wide ≡ l.wide → IfAny P (f mem)) → IfAny P (at_memory x s f)
    at_typed_memory s x l e t f h =
        let there = pair_get (λ i u. i.wide ≡ u.wide) s.memories (all_memories m) x l e t.memories in
        subst (λ o. IfAny P (option_and_then f o)) (sym there.1) (h there.0 there.1 there.2)

    -- one step after another
    pub then_any : {B : Type 0} (Q : B → Type 0) (o : Option B) (f : B → After) → IfAny Q o → ((b : B) → Q b → IfAny P (f b)) → IfAny P (option_and_then f o)
    then_any Q None f h g = tt
    then_any Q (Some b) f h g = g b h

    pub map_any : {B : Type 0} (Q : B → Type 0) (o : Option B) (f : B → List Val × Store) → IfAny Q o → ((b : B) → Q b → P (f b)) → IfAny P (option_map f o)
    map_any Q None f h g = tt
    map_any Q (Some b) f h g = g b h

    pub wrote_any : {B : Type 0} (Q : B → Type 0) (o : Option B) (vs : List Val) (f : B → Store) → IfAny Q o → ((b : B) → Q b → P (vs, f b)) → IfAny P (option_map (λ after. (vs, after)) (option_map f o))
    wrote_any Q None vs f h g = tt
    wrote_any Q (Some b) vs f h g = g b h

  pub anything : {B : Type 0} (o : Option B) → IfAny (λ (b : B). Unit {0}) o
  anything None = tt
  anything (Some b) = tt
