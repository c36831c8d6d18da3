-- What is written of a segment that is inside leaves each other segment as far inside as it was.
use Rattle.std.proofs.Common.{◌≡◌, ℕ, ◌+◌, ◌≤◌, Bool, true, false, ◌&&◌, List, [], ◌∷◌, length, length-append, map, set, slice_get, get_or, Option, Some, None, option_map, refl, ap, sym, subst, ◌∙◌, arith}
use Rattle.std.specs.List.{list_all}
use Rattle.std.proofs.Math.Seq.{map-set_same}
use Rattle.std.proofs.lemmas.Option.{slice_get-map, get_or_from_slice_get}
use Rattle.std.proofs.lemmas.List.{length-map, length-take, length-drop}
use Rattle.std.proofs.lemmas.Bool.Decides.{nat_tests}
use Rattle.core1_ast.specs.declared.module.parts.Element1.{Element1}
use Rattle.core1_ast.specs.declared.module.parts.Segment1.{Segment1}
use Rattle.meaning_core1.specs.Store.{Store1, State1, Memory1, in_store}
use Rattle.meaning_core1.specs.Instances.{offset_of, is_inside, element_fits, segment_fits, overwritten, no_memory, write_element, write_segment, write_elements, write_segments}

-- a list in which one item is replaced by one of the same size
same_sizes : {A B : Type 0} (f : A → B) (xs : List A) (x k : ℕ) (new d : A) → f new ≡ f (get_or xs x d) → option_map f (slice_get (set xs x new) k) ≡ option_map f (slice_get xs k)
same_sizes f xs x k new d e =
    sym (slice_get-map f (set xs x new) k) ∙ (ap (λ l. slice_get l k) (map-set_same f xs x new d e) ∙ slice_get-map f xs k)

-- what is inside a list that is there is inside the item at that place
inside_item : {A : Type 0} (size : A → ℕ) (xs : List A) (x at count : ℕ) (d : A) (o : Option A) → slice_get xs x ≡ o → is_inside at count (option_map size o) ≡ true → at + count ≤ size (get_or xs x d)
inside_item size xs x at count d None e h = cc
inside_item size xs x at count d (Some t) e h = rw (get_or_from_slice_get xs x t d e) (grind (arith, nat_tests))

length-overwritten : {A : Type 0} (at : ℕ) (new items : List A) → at + length new ≤ length items → length (overwritten at new items) ≡ length items
length-overwritten at new items h = simp (length-append, length-take, length-drop) (omega arith)

all_same : {A : Type 0} (p q : A → Bool) → ((a : A) → p a ≡ q a) → (xs : List A) → list_all p xs ≡ list_all q xs
all_same p q h [] = refl
all_same p q h (x ∷ xs) = ap (λ b. b && list_all p xs) (h x) ∙ ap (λ b. q x && b) (all_same p q h xs)

element_stays : (s : Store1) (e d : Element1) → element_fits s e ≡ true → element_fits (write_element e s) d ≡ element_fits s d
element_stays s e d h =
    let inside : offset_of s e.offset + length e.items ≤ length (get_or s.tables e.table []) = inside_item length s.tables e.table (offset_of s e.offset) (length e.items) [] (slice_get s.tables e.table) refl h in
    let small : offset_of s e.offset + length (map (λ f. Some f) e.items) ≤ length (get_or s.tables e.table []) = grind (arith, length-map) in
    ap (is_inside (offset_of s d.offset) (length d.items)) (same_sizes length s.tables e.table d.table _ [] (length-overwritten (offset_of s e.offset) (map (λ f. Some f) e.items) (get_or s.tables e.table []) small))

segment_stays : (s : Store1) (e d : Segment1) → segment_fits s e ≡ true → segment_fits (write_segment e s) d ≡ segment_fits s d
segment_stays s e d h =
    let size : Memory1 → ℕ = λ m. length m.bytes in
    let inside : offset_of s e.offset + length e.bytes ≤ size (get_or s.memories e.memory no_memory) = inside_item size s.memories e.memory (offset_of s e.offset) (length e.bytes) no_memory (slice_get s.memories e.memory) refl h in
    ap (is_inside (offset_of s d.offset) (length d.bytes)) (same_sizes size s.memories e.memory d.memory _ no_memory (length-overwritten (offset_of s e.offset) e.bytes (get_or s.memories e.memory no_memory).bytes inside))

-- element segments leave data segments as far inside as they were
pub segments_stay : (es : List Element1) (s : Store1) (ds : List Segment1) → list_all (segment_fits (write_elements es s)) ds ≡ list_all (segment_fits s) ds
segments_stay [] s ds = refl
segments_stay (e ∷ more) s ds = segments_stay more (write_element e s) ds

head_holds : (b c : Bool) → (b && c) ≡ true → b ≡ true
head_holds true c h = refl
head_holds false c h = cc

pub rest_holds : (b c : Bool) → (b && c) ≡ true → c ≡ true
rest_holds true c h = h
rest_holds false c h = cc

-- what holds of the segments that are left before one is written, and after it
pub record Left (fits : Bool) (end wanted : Store1) (first now : State1) : Type 0 where
  pub inside : fits ≡ true
  pub store : end ≡ wanted
  pub rest : in_store first.store now ≡ first

pub elements_left : (here more : List Element1) (e : Element1) (wanted : Store1) (first now new : State1) → here ≡ e ∷ more → new ≡ in_store (write_element e now.store) now
    → Left (list_all (element_fits now.store) here) (write_elements here now.store) wanted first now
    → Left (list_all (element_fits new.store) more) (write_elements more new.store) wanted first new
elements_left here more e wanted first now new cut done h =
    let all : list_all (element_fits now.store) (e ∷ more) ≡ true = subst (λ l. list_all (element_fits now.store) l ≡ true) cut h.inside in
    let fits : element_fits now.store e ≡ true = head_holds _ _ all in
    subst (λ (s : State1). Left (list_all (element_fits s.store) more) (write_elements more s.store) wanted first s) (sym done)
    (record {
      inside = all_same _ _ (λ d. element_stays now.store e d fits) more ∙ rest_holds _ _ all;
      store = subst (λ l. write_elements l now.store ≡ wanted) cut h.store;
      rest = h.rest;
    })

pub segments_left : (here more : List Segment1) (e : Segment1) (wanted : Store1) (first now new : State1) → here ≡ e ∷ more → new ≡ in_store (write_segment e now.store) now
    → Left (list_all (segment_fits now.store) here) (write_segments here now.store) wanted first now
    → Left (list_all (segment_fits new.store) more) (write_segments more new.store) wanted first new
segments_left here more e wanted first now new cut done h =
    let all : list_all (segment_fits now.store) (e ∷ more) ≡ true = subst (λ l. list_all (segment_fits now.store) l ≡ true) cut h.inside in
    let fits : segment_fits now.store e ≡ true = head_holds _ _ all in
    subst (λ (s : State1). Left (list_all (segment_fits s.store) more) (write_segments more s.store) wanted first s) (sym done)
    (record {
      inside = all_same _ _ (λ d. segment_stays now.store e d fits) more ∙ rest_holds _ _ all;
      store = subst (λ l. write_segments l now.store ≡ wanted) cut h.store;
      rest = h.rest;
    })
