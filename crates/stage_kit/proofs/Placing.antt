-- Segments whose offsets have the same values are placed alike, whatever values globals have.
use Rattle.std.proofs.Common.{◌≡◌, ℕ, ◌+◌, List, [], ◌∷◌, length, Option, Some, None, option_map, refl, sym, ap, ◌∙◌, subst}
use Rattle.std.specs.Prelude.{slice_get, option_and_then}
use Rattle.host_kit.specs.Pairwise.{Pairwise}
use Rattle.wasm_ast.specs.declared.module.parts.Element.{Element}
use Rattle.wasm_ast.specs.declared.module.parts.Mode.{Mode}
use Rattle.wasm_ast.specs.declared.module.parts.Mode.TheVariants.{Active, Passive, Declarative}
use Rattle.wasm_ast.specs.declared.module.parts.Segment.{Segment}
use Rattle.evaluation_kit.specs.Leaves.{below, read_range, write_range}
use Rattle.meaning_new.specs.declared.val.Val.{Val}
use Rattle.meaning_new.specs.Store.{Store, After}
use Rattle.meaning_new.specs.Numeric.{first, second, third}
use Rattle.meaning_new.specs.Memories.{segment_bytes, memory_init, data_drop}
use Rattle.meaning_new.specs.Tables.{segment_entries, table_init, elem_drop}
use Rattle.meaning_new.specs.Instances.{then, store_of, constant, whole, place_elem, place_elems, place_data, place_datas}
use Rattle.stage_kit.specs.Prepared.{store_with, ModeAlike, ElemAlike, DataAlike}

module _ (globals others : List Val) where
  -- what becomes of both stores
  abbrev AfterAlike : After → After → Type 0
  AfterAlike None None = Unit {0}
  AfterAlike (Some r) (Some r') = (r' ≡ (r.0, store_with others r.1)) × (r.1.globals ≡ globals)
  AfterAlike _ _ = ⊥

  abbrev StoreAlike : Option Store → Option Store → Type 0
  StoreAlike None None = Unit {0}
  StoreAlike (Some s) (Some s') = (s' ≡ store_with others s) × (s.globals ≡ globals)
  StoreAlike _ _ = ⊥

  then_alike : {X : Type 0} (i : Option X) (f f' : X → After) → ((a : X) → AfterAlike (f a) (f' a)) → AfterAlike (option_and_then f i) (option_and_then f' i)
  then_alike None f f' h = tt
  then_alike (Some a) f f' h = h a

  wrote_alike : {X : Type 0} (all : Option X) (operands : List Val) (f f' : X → Store) → ((a : X) → f' a ≡ store_with others (f a)) → ((a : X) → (f a).globals ≡ globals) → AfterAlike (option_map (λ t. (operands, t)) (option_map f all)) (option_map (λ t. (operands, t)) (option_map f' all))
  wrote_alike None operands f f' h g = tt
  wrote_alike (Some a) operands f f' h g = (ap (λ t. (operands, t)) (h a), g a)

  dropped : (r r' : After) (drop drop' : Store → Option Store) → ((s : Store) → s.globals ≡ globals → StoreAlike (drop s) (drop' (store_with others s))) → AfterAlike r r' → StoreAlike (then r drop) (then r' drop')
  dropped None None drop drop' h a = tt
  dropped None (Some r') drop drop' h a = absurd a
  dropped (Some r) None drop drop' h a = absurd a
  dropped (Some r) (Some r') drop drop' h a = subst (λ (p : List Val × Store). StoreAlike (drop r.1) (drop' p.1)) (sym a.0) (h r.1 a.1)

  goes_on : (r r' : Option Store) (f f' : Store → Option Store) → ((s : Store) → s.globals ≡ globals → StoreAlike (f s) (f' (store_with others s))) → StoreAlike r r' → StoreAlike (option_and_then f r) (option_and_then f' r')
  goes_on None None f f' h a = tt
  goes_on None (Some s') f f' h a = absurd a
  goes_on (Some s) None f f' h a = absurd a
  goes_on (Some s) (Some s') f f' h a = subst (λ (t : Store). StoreAlike (f s) (f' t)) (sym a.0) (h s a.1)

  inits_table : (i x : ℕ) (operands : List Val) (s : Store) → s.globals ≡ globals → AfterAlike (table_init i x operands s) (table_init i x operands (store_with others s))
  inits_table i x operands s e =
      then_alike (slice_get s.tables x) _ _ (λ t.
      then_alike (read_range (second operands) (first operands) (segment_entries i s)) _ _ (λ entries.
      wrote_alike (write_range (third operands) entries t.entries) (below (below (below operands))) _ _ (λ all. refl) (λ all. e)))

  inits_memory : (i x : ℕ) (operands : List Val) (s : Store) → s.globals ≡ globals → AfterAlike (memory_init i x operands s) (memory_init i x operands (store_with others s))
  inits_memory i x operands s e =
      then_alike (slice_get s.memories x) _ _ (λ mem.
      then_alike (read_range (second operands) (first operands) (segment_bytes i s)) _ _ (λ bytes.
      wrote_alike (write_range (third operands) bytes mem.bytes) (below (below (below operands))) _ _ (λ all. refl) (λ all. e)))

  -- one element segment, and all
  elem_placed : (i : ℕ) (e e' : Element) (mode mode' : Mode) (s : Store) → e'.items ≡ e.items → ModeAlike globals others mode mode' → s.globals ≡ globals → StoreAlike (place_elem i e mode s) (place_elem i e' mode' (store_with others s))
  elem_placed i e e' (Active x offset) (Active x' offset') s items a g =
      subst (λ y. StoreAlike (place_elem i e (Active x offset) s) (place_elem i e' (Active y offset') (store_with others s))) (sym a.0)
      (subst (λ (l : List (List _)). StoreAlike (place_elem i e (Active x offset) s) (then (table_init i x (whole (length l) (constant others offset')) (store_with others s)) (λ t. store_of (elem_drop i [] t)))) (sym items)
      (subst (λ v. StoreAlike (place_elem i e (Active x offset) s) (then (table_init i x (whole (length e.items) v) (store_with others s)) (λ t. store_of (elem_drop i [] t)))) (ap (λ l. constant l offset) g ∙ sym a.1)
      (dropped (table_init i x (whole (length e.items) (constant s.globals offset)) s) (table_init i x (whole (length e.items) (constant s.globals offset)) (store_with others s)) (λ t. store_of (elem_drop i [] t)) (λ t. store_of (elem_drop i [] t))
      (λ t f. (refl, f))
      (inits_table i x (whole (length e.items) (constant s.globals offset)) s g))))
  elem_placed i e e' (Active x offset) Passive s items a g = absurd a
  elem_placed i e e' (Active x offset) Declarative s items a g = absurd a
  elem_placed i e e' Passive (Active x offset) s items a g = absurd a
  elem_placed i e e' Passive Passive s items a g = (refl, g)
  elem_placed i e e' Passive Declarative s items a g = absurd a
  elem_placed i e e' Declarative (Active x offset) s items a g = absurd a
  elem_placed i e e' Declarative Passive s items a g = absurd a
  elem_placed i e e' Declarative Declarative s items a g = (refl, g)

  elems_placed : (i : ℕ) (es es' : List Element) (s : Store) → Pairwise (ElemAlike globals others) es es' → s.globals ≡ globals → StoreAlike (place_elems i es s) (place_elems i es' (store_with others s))
  elems_placed i [] [] s a g = (refl, g)
  elems_placed i [] (e' ∷ es') s a g = absurd a
  elems_placed i (e ∷ es) [] s a g = absurd a
  elems_placed i (e ∷ es) (e' ∷ es') s a g =
      goes_on (place_elem i e e.mode s) (place_elem i e' e'.mode (store_with others s)) (place_elems (i + 1) es) (place_elems (i + 1) es') (λ t f. elems_placed (i + 1) es es' t a.1 f)
      (elem_placed i e e' e.mode e'.mode s a.0.0 a.0.1 g)

  -- data segments
  data_placed : (i : ℕ) (d d' : Segment) (mode mode' : Mode) (s : Store) → d'.bytes ≡ d.bytes → ModeAlike globals others mode mode' → s.globals ≡ globals → StoreAlike (place_data i d mode s) (place_data i d' mode' (store_with others s))
  data_placed i d d' (Active x offset) (Active x' offset') s bytes a g =
      subst (λ y. StoreAlike (place_data i d (Active x offset) s) (place_data i d' (Active y offset') (store_with others s))) (sym a.0)
      (subst (λ (l : List ℕ). StoreAlike (place_data i d (Active x offset) s) (then (memory_init i x (whole (length l) (constant others offset')) (store_with others s)) (λ t. store_of (data_drop i [] t)))) (sym bytes)
      (subst (λ v. StoreAlike (place_data i d (Active x offset) s) (then (memory_init i x (whole (length d.bytes) v) (store_with others s)) (λ t. store_of (data_drop i [] t)))) (ap (λ l. constant l offset) g ∙ sym a.1)
      (dropped (memory_init i x (whole (length d.bytes) (constant s.globals offset)) s) (memory_init i x (whole (length d.bytes) (constant s.globals offset)) (store_with others s)) (λ t. store_of (data_drop i [] t)) (λ t. store_of (data_drop i [] t))
      (λ t f. (refl, f))
      (inits_memory i x (whole (length d.bytes) (constant s.globals offset)) s g))))
  data_placed i d d' (Active x offset) Passive s bytes a g = absurd a
  data_placed i d d' (Active x offset) Declarative s bytes a g = absurd a
  data_placed i d d' Passive (Active x offset) s bytes a g = absurd a
  data_placed i d d' Passive Passive s bytes a g = (refl, g)
  data_placed i d d' Passive Declarative s bytes a g = absurd a
  data_placed i d d' Declarative (Active x offset) s bytes a g = absurd a
  data_placed i d d' Declarative Passive s bytes a g = absurd a
  data_placed i d d' Declarative Declarative s bytes a g = (refl, g)

  datas_placed : (i : ℕ) (ds ds' : List Segment) (s : Store) → Pairwise (DataAlike globals others) ds ds' → s.globals ≡ globals → StoreAlike (place_datas i ds s) (place_datas i ds' (store_with others s))
  datas_placed i [] [] s a g = (refl, g)
  datas_placed i [] (d' ∷ ds') s a g = absurd a
  datas_placed i (d ∷ ds) [] s a g = absurd a
  datas_placed i (d ∷ ds) (d' ∷ ds') s a g =
      goes_on (place_data i d d.mode s) (place_data i d' d'.mode (store_with others s)) (place_datas (i + 1) ds) (place_datas (i + 1) ds') (λ t f. datas_placed (i + 1) ds ds' t a.1 f)
      (data_placed i d d' d.mode d'.mode s a.0.0 a.0.1 g)

  as_map : (r r' : Option Store) → StoreAlike r r' → r' ≡ option_map (store_with others) r
  as_map None None a = refl
  as_map None (Some s') a = absurd a
  as_map (Some s) None a = absurd a
  as_map (Some s) (Some s') a = ap Some a.0

  -- elements first, and then data
  pub segments_alike : (es es' : List Element) (ds ds' : List Segment) (s : Store) → Pairwise (ElemAlike globals others) es es' → Pairwise (DataAlike globals others) ds ds' → s.globals ≡ globals
      → option_and_then (place_datas 0 ds') (place_elems 0 es' (store_with others s)) ≡ option_map (store_with others) (option_and_then (place_datas 0 ds) (place_elems 0 es s))
  segments_alike es es' ds ds' s a b g =
      as_map (option_and_then (place_datas 0 ds) (place_elems 0 es s)) (option_and_then (place_datas 0 ds') (place_elems 0 es' (store_with others s)))
      (goes_on (place_elems 0 es s) (place_elems 0 es' (store_with others s)) (place_datas 0 ds) (place_datas 0 ds') (λ t f. datas_placed 0 ds ds' t b f) (elems_placed 0 es es' s a g))

  same_globals : (r r' : Option Store) (t : Store) → StoreAlike r r' → r ≡ Some t → t.globals ≡ globals
  same_globals None r' t a e = let no : ⊥ = cc in absurd no
  same_globals (Some s) None t a e = absurd a
  same_globals (Some s) (Some s') t a e = let is : s ≡ t = cc in subst (λ (i : Store). i.globals ≡ globals) is a.1

  -- and no segment writes a global
  pub segments_keep : (es es' : List Element) (ds ds' : List Segment) (s : Store) → Pairwise (ElemAlike globals others) es es' → Pairwise (DataAlike globals others) ds ds' → s.globals ≡ globals
      → (t : Store) → option_and_then (place_datas 0 ds) (place_elems 0 es s) ≡ Some t → t.globals ≡ globals
  segments_keep es es' ds ds' s a b g t e =
      same_globals (option_and_then (place_datas 0 ds) (place_elems 0 es s)) (option_and_then (place_datas 0 ds') (place_elems 0 es' (store_with others s))) t
      (goes_on (place_elems 0 es s) (place_elems 0 es' (store_with others s)) (place_datas 0 ds) (place_datas 0 ds') (λ u f. datas_placed 0 ds ds' u b f) (elems_placed 0 es es' s a g)) e
