-- Data segments: 3.0 writes one after another, and 1.0 all of them if all fit; both come to the same.
use Rattle.std.proofs.Common.{◌≡◌, ◌<◌, ℕ, ◌+◌, Bool, true, false, ◌&&◌, List, [], ◌∷◌, ◌++◌, map, set, length, Option, Some, None, option_map, refl, sym, ap, ◌∙◌, subst, if◌then◌else◌, arith, append_assoc}
use Rattle.std.specs.Prelude.{slice_get, slice_index_or, nat_le, option_and_then}
use Rattle.std.specs.List.{AllByRecursion, list_all}
use Rattle.std.proofs.lemmas.List.{get_or-set_other, length-append, map-set}
use Rattle.std.proofs.lemmas.Option.{slice_get-map}
use Rattle.std.proofs.Math.Seq.{get_or-append_seam}
use Rattle.evaluation_kit.specs.Leaves.{read_range, write_range}
use Rattle.wasm_ast.specs.declared.module.code.Instr.{Instr}
use Rattle.wasm_ast.specs.declared.module.parts.Mode.{Mode}
use Rattle.wasm_ast.specs.declared.module.parts.Mode.TheVariants.{Active, Passive, Declarative}
use Rattle.wasm_ast.specs.declared.module.parts.Segment.{Segment}
use Rattle.core1_ast.specs.declared.module.parts.Segment1.{Segment1}
use Rattle.meaning_new.specs.Store.{Memory, Store, number}
use Rattle.meaning_new.specs.Memories.{segment_bytes, with_bytes, write_at, data_drop}
use Rattle.meaning_new.specs.Instances as new
use Rattle.meaning_core1.specs.Store.{Memory1, Store1, number1}
use Rattle.meaning_core1.specs.Instances as old
use Rattle.crossing.specs.Code.{cross_code}
use Rattle.crossing.specs.Modules.{cross_segment, place_of, offset_of}
use Rattle.crossing.specs.States.{cross_memory, cross_store, StoreIsPlain}
use Rattle.crossing.specs.Crossing.{ConstantCrosses, ModeCrosses}
use Rattle.crossing.proofs.Constants.{constant-cross}
use Rattle.crossing.proofs.Images.{crossed, number-cross}
use Rattle.crossing.proofs.Keeping.{IfThere, all_get, all_set}
use Rattle.crossing.proofs.Ranges.{whole_range, length-overwritten, at_place, sizes_set}
use Rattle.crossing.proofs.Stores.{IsNarrow}

-- the store after a segment
abbrev written : ℕ → ℕ → Memory → List ℕ → Store → Store
written i x m all s = record s { memories = set s.memories x (record m { bytes = all }); datas = set s.datas i [] }

abbrev placed_at : ℕ → ℕ → ℕ → List ℕ → Store → ℕ → Option Memory → Option Store
placed_at i x at bytes s n o =
    new.then (option_and_then (λ m. option_and_then (λ bs. option_map (λ after. ([], after)) (write_at x m at bs s)) (read_range 0 n bytes)) o) (λ after. new.store_of (data_drop i [] after))

drops : (i x : ℕ) (m : Memory) (s : Store) (r : Option (List ℕ)) → new.then (option_map (λ after. ([], after)) (option_map (λ all. with_bytes x m all s) r)) (λ after. new.store_of (data_drop i [] after)) ≡ option_map (λ all. written i x m all s) r
drops i x m s None = refl
drops i x m s (Some all) = refl

placed : (i x at : ℕ) (bytes : List ℕ) (s : Store) (o : Option Memory) → placed_at i x at bytes s (length bytes) o ≡ option_and_then (λ m. option_map (λ all. written i x m all s) (write_range at bytes m.bytes)) o
placed i x at bytes s None = refl
placed i x at bytes s (Some m) =
    ap (λ r. new.then (option_and_then (λ bs. option_map (λ after. ([], after)) (write_at x m at bs s)) r) (λ after. new.store_of (data_drop i [] after))) (whole_range bytes (length bytes) refl)
    ∙ drops i x m s (write_range at bytes m.bytes)

-- a segment in 1.0, and the size of a memory
abbrev segment_as : Mode → List ℕ → Segment1
segment_as mode bytes = record { memory = place_of mode; offset = cross_code (offset_of mode); bytes = bytes }

abbrev size : Memory1 → ℕ
size m = length m.bytes

-- what one segment comes to in both
record Step (i : ℕ) (s : Store) (d : Segment1) (s' : Store) : Type 0 where
  fits : old.segment_fits (cross_store s) d ≡ true
  same : old.write_segment d (cross_store s) ≡ cross_store s'
  globals : s'.globals ≡ s.globals
  plain : StoreIsPlain s'
  datas : s'.datas ≡ set s.datas i []
  sizes : (y : ℕ) → option_map size (slice_get (map cross_memory s'.memories) y) ≡ option_map size (slice_get (map cross_memory s.memories) y)

abbrev StepAgrees : ℕ → Store → Segment1 → Option Store → Type 0
StepAgrees i s d None = old.segment_fits (cross_store s) d ≡ false
StepAgrees i s d (Some s') = Step i s d s'

module _ (k i x : ℕ) (offset : List Instr) (constant : ConstantCrosses k offset) (bytes : List ℕ) (s : Store) (plain : StoreIsPlain s) where
  abbrev at : ℕ
  at = number (new.constant s.globals offset)

  abbrev d1 : Segment1
  d1 = segment_as (Active x offset) bytes

  at-cross : old.offset_of (cross_store s) (cross_code offset) ≡ at
  at-cross = ap number1 (constant-cross k offset constant s.globals) ∙ number-cross (new.constant s.globals offset)

  memory_at : (o : Option Memory) → slice_get s.memories x ≡ o → old.segment_fits (cross_store s) d1 ≡ old.is_inside at (length bytes) (option_map size (option_map cross_memory o))
  memory_at o e =
      ap (λ (n : ℕ). old.is_inside n (length bytes) (option_map size (slice_get (map cross_memory s.memories) x))) at-cross
      ∙ ap (λ r. old.is_inside at (length bytes) (option_map size r)) (slice_get-map cross_memory s.memories x ∙ ap (option_map cross_memory) e)

  written-cross : (m : Memory) → slice_get s.memories x ≡ Some m → old.write_segment d1 (cross_store s) ≡ cross_store (written i x m (old.overwritten at bytes m.bytes) s)
  written-cross m e =
      ap (λ (m' : Memory1). old.with_segment d1 m' (cross_store s)) (at_place (map cross_memory s.memories) x (cross_memory m) old.no_memory (slice_get-map cross_memory s.memories x ∙ ap (option_map cross_memory) e))
      ∙ ap (λ (n : ℕ). record (cross_store s) { memories = set (map cross_memory s.memories) x (record (cross_memory m) { bytes = old.overwritten n bytes m.bytes }) }) at-cross
      ∙ ap (λ (ms : List Memory1). record (cross_store s) { memories = ms }) (sym (map-set cross_memory s.memories x (record m { bytes = old.overwritten at bytes m.bytes })))

  sizes_same : (m : Memory) → slice_get s.memories x ≡ Some m → nat_le (at + length bytes) (length m.bytes) ≡ true → (y : ℕ) → option_map size (slice_get (map cross_memory (set s.memories x (record m { bytes = old.overwritten at bytes m.bytes }))) y) ≡ option_map size (slice_get (map cross_memory s.memories) y)
  sizes_same m e h y =
      ap (λ (ms : List Memory1). option_map size (slice_get ms y)) (map-set cross_memory s.memories x (record m { bytes = old.overwritten at bytes m.bytes }))
      ∙ sizes_set size (map cross_memory s.memories) x y (record (cross_memory m) { bytes = old.overwritten at bytes m.bytes }) (cross_memory m) (slice_get-map cross_memory s.memories x ∙ ap (option_map cross_memory) e) (length-overwritten at bytes m.bytes h)

  narrow : (m : Memory) → slice_get s.memories x ≡ Some m → IsNarrow m
  narrow m e = subst (λ o. IfThere IsNarrow o) e (all_get IsNarrow s.memories x plain.memories)

  writes : (m : Memory) → slice_get s.memories x ≡ Some m → (b : Bool) → nat_le (at + length bytes) (length m.bytes) ≡ b → StepAgrees i s d1 (option_map (λ all. written i x m all s) (if b then Some (old.overwritten at bytes m.bytes) else None))
  writes m e false h = memory_at (Some m) e ∙ h
  writes m e true h = record {
    fits = memory_at (Some m) e ∙ h;
    same = written-cross m e;
    globals = refl;
    plain = record { globals = plain.globals; memories = all_set IsNarrow s.memories x (record m { bytes = old.overwritten at bytes m.bytes }) plain.memories (narrow m e); exceptions = plain.exceptions };
    datas = refl;
    sizes = sizes_same m e h;
  }

  at_memory : (o : Option Memory) → slice_get s.memories x ≡ o → StepAgrees i s d1 (option_and_then (λ m. option_map (λ all. written i x m all s) (write_range at bytes m.bytes)) o)
  at_memory None e = memory_at None e
  at_memory (Some m) e = writes m e (nat_le (at + length bytes) (length m.bytes)) refl

step : (k i : ℕ) (d : Segment) (mode : Mode) → ModeCrosses k mode → (s : Store) → StoreIsPlain s → segment_bytes i s ≡ d.bytes → StepAgrees i s (segment_as mode d.bytes) (new.place_data i d mode s)
step k i d (Active x offset) c s plain h =
    subst (StepAgrees i s (segment_as (Active x offset) d.bytes))
    (sym (ap (λ (bs : List ℕ). placed_at i x (number (new.constant s.globals offset)) bs s (length d.bytes) (slice_get s.memories x)) h
    ∙ placed i x (number (new.constant s.globals offset)) d.bytes s (slice_get s.memories x)))
    (at_memory k i x offset c d.bytes s plain (slice_get s.memories x) refl)
step k i d Passive c s plain h = absurd c
step k i d Declarative c s plain h = absurd c

-- whether segments fit does not change
pub fits_same : (s s' : Store1) → s'.globals ≡ s.globals → ((y : ℕ) → option_map size (slice_get s'.memories y) ≡ option_map size (slice_get s.memories y)) → (ds : List Segment1) → list_all (old.segment_fits s') ds ≡ list_all (old.segment_fits s) ds
fits_same s s' g h [] = refl
fits_same s s' g h (d ∷ ds) =
    ap (λ gs. old.is_inside (number1 (old.const_value gs d.offset)) (length d.bytes) (option_map size (slice_get s'.memories d.memory)) && list_all (old.segment_fits s') ds) g
    ∙ ap (λ o. old.is_inside (number1 (old.const_value s.globals d.offset)) (length d.bytes) o && list_all (old.segment_fits s') ds) (h d.memory)
    ∙ ap (λ b. old.segment_fits s d && b) (fits_same s s' g h ds)

-- the segments from one on still have all their bytes
abbrev pub Ready : ℕ → List Segment → Store → Type 0
Ready i [] s = Unit {0}
Ready i (d ∷ ds) s = (segment_bytes i s ≡ d.bytes) × Ready (i + 1) ds s

ready_set : (i j : ℕ) (ds : List Segment) (s s' : Store) → i < j → s'.datas ≡ set s.datas i [] → Ready j ds s → Ready j ds s'
ready_set i j [] s s' lt e h = tt
ready_set i j (x ∷ ds) s s' lt e h =
    let other : j ≡ i → ⊥ = λ q. let no : ⊥ = omega arith in no in
    let more : i < j + 1 = omega arith in
    (ap (λ (l : List (List ℕ)). slice_index_or l j []) e ∙ get_or-set_other s.datas i j [] [] other ∙ h.0, ready_set i (j + 1) ds s s' more e h.1)

pub ready_from : (front : List (List ℕ)) (ds : List Segment) (s : Store) → s.datas ≡ front ++ map (λ d. d.bytes) ds → Ready (length front) ds s
ready_from front [] s h = tt
ready_from front (d ∷ ds) s h =
    let rest : List (List ℕ) = map (λ x. x.bytes) ds in (
      ap (λ (l : List (List ℕ)). slice_index_or l (length front) []) h ∙ get_or-append_seam front d.bytes rest [],
      subst (λ (n : ℕ). Ready n ds s) (length-append front (d.bytes ∷ [])) (ready_from (front ++ d.bytes ∷ []) ds s (h ∙ sym (append_assoc front (d.bytes ∷ []) rest))),
    )

-- what all segments come to in both
abbrev pub Agrees : Bool → Store1 → Option Store → Type 0
Agrees b w None = b ≡ false
Agrees b w (Some s') = (b ≡ true) × (w ≡ cross_store s') × StoreIsPlain s'

abbrev pub DatasAgree : List Segment → ℕ → Store → Type 0
DatasAgree ds i s = Agrees (list_all (old.segment_fits (cross_store s)) (map cross_segment ds)) (old.write_segments (map cross_segment ds) (cross_store s)) (new.place_datas i ds s)

datas_then : (d : Segment) (ds : List Segment) (i : ℕ) (s : Store) → ((t : Store) → StoreIsPlain t → Ready (i + 1) ds t → DatasAgree ds (i + 1) t) → Ready (i + 1) ds s → (o : Option Store) → StepAgrees i s (cross_segment d) o →
    Agrees (old.segment_fits (cross_store s) (cross_segment d) && list_all (old.segment_fits (cross_store s)) (map cross_segment ds)) (old.write_segments (map cross_segment ds) (old.write_segment (cross_segment d) (cross_store s))) (option_and_then (new.place_datas (i + 1) ds) o)
datas_then d ds i s more r None h = ap (λ b. b && list_all (old.segment_fits (cross_store s)) (map cross_segment ds)) h
datas_then d ds i s more r (Some t) h =
    let lt : i < i + 1 = omega arith in
    subst (λ b. Agrees b (old.write_segments (map cross_segment ds) (old.write_segment (cross_segment d) (cross_store s))) (new.place_datas (i + 1) ds t))
    (sym (ap (λ b. b && list_all (old.segment_fits (cross_store s)) (map cross_segment ds)) h.fits ∙ sym (fits_same (cross_store s) (cross_store t) (ap crossed h.globals) h.sizes (map cross_segment ds))))
    (subst (λ (w : Store1). Agrees (list_all (old.segment_fits (cross_store t)) (map cross_segment ds)) (old.write_segments (map cross_segment ds) w) (new.place_datas (i + 1) ds t)) (sym h.same) (more t h.plain (ready_set i (i + 1) ds s t lt h.datas r)))

pub datas_agree : (k : ℕ) (ds : List Segment) (i : ℕ) (s : Store) → AllByRecursion (λ (d : Segment). ModeCrosses k d.mode) ds → StoreIsPlain s → Ready i ds s → DatasAgree ds i s
datas_agree k [] i s c plain r = (refl, refl, plain)
datas_agree k (d ∷ ds) i s c plain r =
    datas_then d ds i s (λ t p q. datas_agree k ds (i + 1) t c.1 p q) r.1 (new.place_data i d d.mode s) (step k i d d.mode c.0 s plain r.0)
