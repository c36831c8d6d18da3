-- "Table Instructions", and "Variable Instructions" on globals: what they leave is typed.
use Rattle.std.proofs.Common.{◌≡◌, ℕ, List, [], ◌∷◌, ◌++◌, map, length, Some, option_map, refl, sym, subst}
use Rattle.std.specs.Prelude.{slice_get, replicate}
use Rattle.std.specs.List.{AllByRecursion}
use Rattle.wasm_ast.specs.declared.module.ty.Ty.{Ty}
use Rattle.wasm_ast.specs.declared.module.ty.Ty.TheVariants as types
use Rattle.wasm_ast.specs.declared.module.parts.Module.{Module}
use Rattle.typed_trees.specs.Contexts.{Context}
use Rattle.typed_trees.specs.Modules.{all_globals, all_tables}
use Rattle.typed_trees.specs.declared.global_type.GlobalType.{GlobalType}
use Rattle.evaluation_kit.specs.Leaves.{top, below, read_range, write_range}
use Rattle.meaning_new.specs.declared.val.Val.{Val}
use Rattle.meaning_new.specs.Store.{Store, Table, missing, on_store, on_growth}
use Rattle.meaning_new.specs.Numeric.{first, second, third}
use Rattle.meaning_new.specs.Tables
use Rattle.soundness.specs.States.{Has, HaveTypes, StoreTyped}
use Rattle.soundness.proofs.Lists.{IfAny, pair_index, all_get, all_append, all_replicate, all_read, all_write}
use Rattle.soundness.proofs.Operators.{under, under2, under3, topmost}
use Rattle.soundness.proofs.Judging.{ActSafe}
use Rattle.soundness.proofs.Stores.{WroteAfter, GrowthTyped, store_safe, growth_safe, with_globals, with_entry, without_elem, table_there, at_typed_table, then_any, map_any, wrote_any}

module _ (m : Module) where
  -- all entries have a type, where there are k exceptions
  abbrev pub Entries : ℕ → Ty → List Val → Type 0
  Entries k ty vs = AllByRecursion (λ v. Has m k v ty) vs

  module _ (c : Context) (ls : List (List Ty)) (rest : List Ty) where
    pub global_get_safe : (x : ℕ) (g : GlobalType) → slice_get (all_globals m) x ≡ Some g → ActSafe m c ls rest (Some (g.ty ∷ rest)) (on_store (Tables.global_get x))
    global_get_safe x g e = store_safe m c ls rest (g.ty ∷ rest) (Tables.global_get x) (λ vs s t h.
        let value = pair_index (λ v i. Has m (length s.exceptions) v i.ty) missing s.globals (all_globals m) x g e t.globals in
        record { same = refl; operands = (value, h); store = t })

    pub global_set_safe : (x : ℕ) (g : GlobalType) → slice_get (all_globals m) x ≡ Some g → ActSafe m c ls (g.ty ∷ rest) (Some rest) (on_store (Tables.global_set x))
    global_set_safe x g e = store_safe m c ls (g.ty ∷ rest) rest (Tables.global_set x) (λ vs s t h.
        let k = length s.exceptions in
        record { same = refl; operands = under m k vs g.ty rest h; store = with_globals m s x g (top missing vs) e (topmost m k vs g.ty rest h) t })

    module _ (x : ℕ) (ty : Ty) (e : slice_get (all_tables m) x ≡ Some ty) where
      pub table_get_safe : ActSafe m c ls (types.I32 ∷ rest) (Some (ty ∷ rest)) (on_store (Tables.table_get x))
      table_get_safe = store_safe m c ls (types.I32 ∷ rest) (ty ∷ rest) (Tables.table_get x) (λ vs s t h.
          let k = length s.exceptions in
          let P = WroteAfter m k (ty ∷ rest) in
          at_typed_table m P s x ty e t _ (λ table entries.
          map_any m P (λ v. Has m k v ty) (slice_get table.entries (first vs)) _ (all_get (λ v. Has m k v ty) table.entries (first vs) entries) (λ v i.
          record { same = refl; operands = (i, under m k vs types.I32 rest h); store = t })))

      -- entries that are written
      written : (k : ℕ) (vs : List Val) (s : Store) (table : Table) (at : ℕ) (new : List Val) (left : List Val) → length s.exceptions ≡ k → StoreTyped m s → Entries k ty table.entries → Entries k ty new → HaveTypes m k left rest → IfAny (WroteAfter m k rest) (option_map (λ after. (left, after)) (Tables.put_entries x table at new s))
      written k vs s table at new left same t entries fresh h =
          wrote_any m (WroteAfter m k rest) (Entries k ty) (write_range at new table.entries) left (λ all. Tables.with_entries x table all s)
          (all_write (λ v. Has m k v ty) at new table.entries fresh entries)
          (λ all i. record { same = same; operands = h; store = with_entry m s x table ty all e (subst (λ j. Entries j ty all) (sym same) i) t })

      pub table_set_safe : ActSafe m c ls (ty ∷ (types.I32 ∷ rest)) (Some rest) (on_store (Tables.table_set x))
      table_set_safe = store_safe m c ls (ty ∷ (types.I32 ∷ rest)) rest (Tables.table_set x) (λ vs s t h.
          let k = length s.exceptions in
          at_typed_table m (WroteAfter m k rest) s x ty e t _ (λ table entries.
          written k vs s table (second vs) (top missing vs ∷ []) (below (below vs)) refl t entries (topmost m k vs ty (types.I32 ∷ rest) h, tt) (under2 m k vs ty types.I32 rest h)))

      pub table_size_safe : ActSafe m c ls rest (Some (types.I32 ∷ rest)) (on_store (Tables.table_size x))
      table_size_safe = store_safe m c ls rest (types.I32 ∷ rest) (Tables.table_size x) (λ vs s t h.
          at_typed_table m (WroteAfter m (length s.exceptions) (types.I32 ∷ rest)) s x ty e t _ (λ table entries.
          record { same = refl; operands = (refl, h); store = t }))

      pub table_fill_safe : ActSafe m c ls (types.I32 ∷ (ty ∷ (types.I32 ∷ rest))) (Some rest) (on_store (Tables.table_fill x))
      table_fill_safe = store_safe m c ls (types.I32 ∷ (ty ∷ (types.I32 ∷ rest))) rest (Tables.table_fill x) (λ vs s t h.
          let k = length s.exceptions in
          let value = topmost m k (below vs) ty (types.I32 ∷ rest) (under m k vs types.I32 (ty ∷ (types.I32 ∷ rest)) h) in
          at_typed_table m (WroteAfter m k rest) s x ty e t _ (λ table entries.
          written k vs s table (third vs) (replicate (first vs) (top missing (below vs))) (below (below (below vs))) refl t entries (all_replicate (λ v. Has m k v ty) (first vs) (top missing (below vs)) value) (under3 m k vs types.I32 ty types.I32 rest h)))

      pub table_copy_safe : (from : ℕ) → slice_get (all_tables m) from ≡ Some ty → ActSafe m c ls (types.I32 ∷ (types.I32 ∷ (types.I32 ∷ rest))) (Some rest) (on_store (Tables.table_copy x from))
      table_copy_safe from source_is = store_safe m c ls (types.I32 ∷ (types.I32 ∷ (types.I32 ∷ rest))) rest (Tables.table_copy x from) (λ vs s t h.
          let k = length s.exceptions in
          let P = WroteAfter m k rest in
          at_typed_table m P s x ty e t _ (λ table entries.
          at_typed_table m P s from ty source_is t _ (λ source others.
          then_any m P (Entries k ty) (read_range (second vs) (first vs) source.entries) _ (all_read (λ v. Has m k v ty) (second vs) (first vs) source.entries others) (λ new fresh.
          written k vs s table (third vs) new (below (below (below vs))) refl t entries fresh (under3 m k vs types.I32 types.I32 types.I32 rest h)))))

      -- a segment of the type
      pub table_init_after : (segment : ℕ) → slice_get (map (λ i. i.ty) m.elems) segment ≡ Some ty → (vs : List Val) (s : Store) → StoreTyped m s → HaveTypes m (length s.exceptions) vs (types.I32 ∷ (types.I32 ∷ (types.I32 ∷ rest))) → IfAny (WroteAfter m (length s.exceptions) rest) (Tables.table_init segment x vs s)
      table_init_after segment there vs s t h =
          let k = length s.exceptions in
          let P = WroteAfter m k rest in
          at_typed_table m P s x ty e t _ (λ table entries.
          then_any m P (Entries k ty) (read_range (second vs) (first vs) (Tables.segment_entries segment s)) _
          (all_read (λ v. Has m k v ty) (second vs) (first vs) (Tables.segment_entries segment s) (pair_index (λ i u. AllByRecursion (λ v. Has m k v u) i) [] s.elems (map (λ i. i.ty) m.elems) segment ty there t.elems)) (λ new fresh.
          written k vs s table (third vs) new (below (below (below vs))) refl t entries fresh (under3 m k vs types.I32 types.I32 types.I32 rest h)))

      pub table_init_safe : (segment : ℕ) → slice_get (map (λ i. i.ty) m.elems) segment ≡ Some ty → ActSafe m c ls (types.I32 ∷ (types.I32 ∷ (types.I32 ∷ rest))) (Some rest) (on_store (Tables.table_init segment x))
      table_init_safe segment there = store_safe m c ls (types.I32 ∷ (types.I32 ∷ (types.I32 ∷ rest))) rest (Tables.table_init segment x) (table_init_after segment there)

      pub table_grow_safe : ActSafe m c ls (types.I32 ∷ (ty ∷ rest)) (Some (types.I32 ∷ rest)) (on_growth (Tables.table_grow x))
      table_grow_safe = growth_safe m c ls (types.I32 ∷ (ty ∷ rest)) (types.I32 ∷ rest) (Tables.table_grow x) (λ vs s t h.
          let k = length s.exceptions in
          let there = table_there m s x ty e t in
          let value = topmost m k (below vs) ty rest (under m k vs types.I32 (ty ∷ rest) h) in
          let new = replicate (first vs) (top missing (below vs)) in
          let entries = all_append (λ v. Has m k v ty) there.0.entries new there.2 (all_replicate (λ v. Has m k v ty) (first vs) (top missing (below vs)) value) in
          subst (λ o. IfAny (GrowthTyped m k (types.I32 ∷ rest)) (option_map (Tables.table_growth x vs s) o)) (sym there.1)
          (record { same = refl; larger = with_entry m s x there.0 ty (there.0.entries ++ new) e entries t; operands = λ ok. (refl, under2 m k vs types.I32 ty rest h) }))

    pub elem_drop_safe : (segment : ℕ) → ActSafe m c ls rest (Some rest) (on_store (Tables.elem_drop segment))
    elem_drop_safe segment = store_safe m c ls rest rest (Tables.elem_drop segment) (λ vs s t h. record { same = refl; operands = h; store = without_elem m s segment t })
