-- Element segments: 3.0 writes one after another, and 1.0 all of them if all fit; both come to the same.
use Rattle.std.proofs.lemmas.List.{length-map}
use Rattle.std.proofs.Common.{◌≡◌, ◌<◌, ℕ, ◌+◌, Bool, true, false, ◌&&◌, List, [], ◌∷◌, ◌++◌, map, set, length, Option, Some, None, option_map, refl, sym, ap, ◌∙◌, subst, if◌then◌else◌, arith, append_assoc}
use Rattle.std.specs.Prelude.{flat_map, slice_get, slice_index_or, nat_le, option_and_then}
use Rattle.std.specs.List.{AllByRecursion, list_all}
use Rattle.std.proofs.lemmas.List.{get_or-set_other, length-append}
use Rattle.std.proofs.lemmas.List.{map-set}
use Rattle.std.proofs.lemmas.Option.{slice_get-map}
use Rattle.std.proofs.Math.Seq.{get_or-append_seam}
use Rattle.evaluation_kit.specs.Leaves.{top, read_range, write_range}
use Rattle.wasm_ast.specs.declared.module.op.Op.TheVariants as ops
use Rattle.wasm_ast.specs.declared.module.code.Instr.{Instr, out-Instr}
use Rattle.wasm_ast.specs.declared.module.code.Instr.TheOpen.{Instr-F}
use Rattle.wasm_ast.specs.declared.module.parts.Mode.{Mode}
use Rattle.wasm_ast.specs.declared.module.parts.Mode.TheVariants.{Active, Passive, Declarative}
use Rattle.wasm_ast.specs.declared.module.parts.Element.{Element}
use Rattle.core1_ast.specs.declared.module.parts.Element1.{Element1}
use Rattle.meaning_new.specs.declared.val.Val.{Val}
use Rattle.meaning_new.specs.Store.{Table, Store, missing, number}
use Rattle.meaning_new.specs.Forms.{function_of}
use Rattle.meaning_new.specs.Tables.{segment_entries, with_entries, put_entries, elem_drop}
use Rattle.meaning_new.specs.Instances as new
use Rattle.meaning_core1.specs.Store.{Store1, number1}
use Rattle.meaning_core1.specs.Instances as old
use Rattle.crossing.specs.Code.{cross_code}
use Rattle.crossing.specs.Modules.{referred, cross_item, cross_active, cross_element}
use Rattle.crossing.specs.States.{cross_table, cross_store}
use Rattle.crossing.specs.Crossing.{ConstantCrosses, is_reference, is_item, ItemsCross, ElementCrosses}
use Rattle.crossing.proofs.Constants.{constant-cross}
use Rattle.crossing.proofs.Images.{crossed, number-cross}
use Rattle.crossing.proofs.Ranges.{whole_range, length-overwritten, map-overwritten, at_place, sizes_set}

-- an item is a reference to its function
reference : (globals : List Val) (l : Instr-F Instr) → is_reference l ≡ true → function_of (top missing (new.constant_step globals l [])) ≡ Some (referred l)
reference globals (Instr-F.Pure (ops.RefFunc f)) h = refl
reference globals l h = absurd cc

item : (globals : List Val) (code : List Instr) → is_item code ≡ true → function_of (new.constant globals code) ≡ Some (cross_item code)
item globals [] h = absurd cc
item globals (i ∷ []) h = reference globals (out-Instr i) h
item globals (i ∷ (j ∷ code)) h = absurd cc

items : (globals : List Val) (codes : List (List Instr)) → AllByRecursion (λ code. is_item code ≡ true) codes → map function_of (map (new.constant globals) codes) ≡ map (λ f. Some f) (map cross_item codes)
items globals [] h = refl
items globals (code ∷ codes) h =
    ap (λ (o : Option ℕ). o ∷ map function_of (map (new.constant globals) codes)) (item globals code h.0)
    ∙ ap (λ (l : List (Option ℕ)). Some (cross_item code) ∷ l) (items globals codes h.1)

-- a store from which others differ in their tables and segments alone
pub record OtherTables (s s' : Store) : Type 0 where
  pub globals : s'.globals ≡ s.globals
  pub memories : s'.memories ≡ s.memories
  pub datas : s'.datas ≡ s.datas
  pub exceptions : s'.exceptions ≡ s.exceptions

-- the store after a segment
abbrev written : ℕ → ℕ → Table → List Val → Store → Store
written i x t all s = record s { tables = set s.tables x (record t { entries = all }); elems = set s.elems i [] }

abbrev placed_at : ℕ → ℕ → ℕ → List Val → Store → ℕ → Option Table → Option Store
placed_at i x at entries s n o =
    new.then (option_and_then (λ t. option_and_then (λ es. option_map (λ after. ([], after)) (put_entries x t at es s)) (read_range 0 n entries)) o) (λ after. new.store_of (elem_drop i [] after))

drops : (i x : ℕ) (t : Table) (s : Store) (r : Option (List Val)) → new.then (option_map (λ after. ([], after)) (option_map (λ all. with_entries x t all s) r)) (λ after. new.store_of (elem_drop i [] after)) ≡ option_map (λ all. written i x t all s) r
drops i x t s None = refl
drops i x t s (Some all) = refl

placed : (i x at : ℕ) (entries : List Val) (s : Store) (n : ℕ) → n ≡ length entries → (o : Option Table) → placed_at i x at entries s n o ≡ option_and_then (λ t. option_map (λ all. written i x t all s) (write_range at entries t.entries)) o
placed i x at entries s n e None = refl
placed i x at entries s n e (Some t) =
    ap (λ r. new.then (option_and_then (λ es. option_map (λ after. ([], after)) (put_entries x t at es s)) r) (λ after. new.store_of (elem_drop i [] after))) (whole_range entries n e)
    ∙ drops i x t s (write_range at entries t.entries)

-- an active segment in 1.0
abbrev element_as : ℕ → List Instr → List (List Instr) → Element1
element_as x offset codes = record { table = x; offset = cross_code offset; items = map cross_item codes }

-- what one segment comes to in both
record Step (i : ℕ) (s : Store) (e : Element1) (s' : Store) : Type 0 where
  fits : old.element_fits (cross_store s) e ≡ true
  same : old.write_element e (cross_store s) ≡ cross_store s'
  others : OtherTables s s'
  elems : s'.elems ≡ set s.elems i []
  sizes : (y : ℕ) → option_map length (slice_get (map cross_table s'.tables) y) ≡ option_map length (slice_get (map cross_table s.tables) y)

abbrev StepAgrees : ℕ → Store → Element1 → Option Store → Type 0
StepAgrees i s e None = old.element_fits (cross_store s) e ≡ false
StepAgrees i s e (Some s') = Step i s e s'

module _ (k i x : ℕ) (offset : List Instr) (constant : ConstantCrosses k offset) (codes : List (List Instr)) (refers : AllByRecursion (λ code. is_item code ≡ true) codes) (globals : List Val) (s : Store) where
  abbrev at : ℕ
  at = number (new.constant s.globals offset)

  abbrev entries : List Val
  entries = map (new.constant globals) codes

  abbrev e1 : Element1
  e1 = element_as x offset codes

  at-cross : old.offset_of (cross_store s) (cross_code offset) ≡ at
  at-cross = ap number1 (constant-cross k offset constant s.globals) ∙ number-cross (new.constant s.globals offset)

  table_at : (o : Option Table) → slice_get s.tables x ≡ o → old.element_fits (cross_store s) e1 ≡ old.is_inside at (length entries) (option_map length (option_map cross_table o))
  table_at o e =
      ap (λ (n : ℕ). old.is_inside n (length (map cross_item codes)) (option_map length (slice_get (map cross_table s.tables) x))) at-cross
      ∙ ap (λ (n : ℕ). old.is_inside at n (option_map length (slice_get (map cross_table s.tables) x))) (length-map codes cross_item ∙ sym (length-map codes (new.constant globals)))
      ∙ ap (λ r. old.is_inside at (length entries) (option_map length r)) (slice_get-map cross_table s.tables x ∙ ap (option_map cross_table) e)

  written-cross : (t : Table) → slice_get s.tables x ≡ Some t → old.write_element e1 (cross_store s) ≡ cross_store (written i x t (old.overwritten at entries t.entries) s)
  written-cross t e =
      ap (λ (n : ℕ). record (cross_store s) { tables = set (map cross_table s.tables) x (old.overwritten n (map (λ f. Some f) (map cross_item codes)) (slice_index_or (map cross_table s.tables) x [])) }) at-cross
      ∙ ap (λ (l : List (Option ℕ)). record (cross_store s) { tables = set (map cross_table s.tables) x (old.overwritten at l (slice_index_or (map cross_table s.tables) x [])) }) (sym (items globals codes refers))
      ∙ ap (λ (l : List (Option ℕ)). record (cross_store s) { tables = set (map cross_table s.tables) x (old.overwritten at (map function_of entries) l) }) (at_place (map cross_table s.tables) x (cross_table t) [] (slice_get-map cross_table s.tables x ∙ ap (option_map cross_table) e))
      ∙ ap (λ (l : List (Option ℕ)). record (cross_store s) { tables = set (map cross_table s.tables) x l }) (map-overwritten function_of at entries t.entries)
      ∙ ap (λ (ts : List (List (Option ℕ))). record (cross_store s) { tables = ts }) (sym (map-set cross_table s.tables x (record t { entries = old.overwritten at entries t.entries })))

  sizes_same : (t : Table) → slice_get s.tables x ≡ Some t → nat_le (at + length entries) (length t.entries) ≡ true → (y : ℕ) → option_map length (slice_get (map cross_table (set s.tables x (record t { entries = old.overwritten at entries t.entries }))) y) ≡ option_map length (slice_get (map cross_table s.tables) y)
  sizes_same t e h y =
      ap (λ (ts : List (List (Option ℕ))). option_map length (slice_get ts y)) (map-set cross_table s.tables x (record t { entries = old.overwritten at entries t.entries }))
      ∙ sizes_set length (map cross_table s.tables) x y (map function_of (old.overwritten at entries t.entries)) (map function_of t.entries) (slice_get-map cross_table s.tables x ∙ ap (option_map cross_table) e)
      (length-map (old.overwritten at entries t.entries) function_of ∙ length-overwritten at entries t.entries h ∙ sym (length-map t.entries function_of))

  fits_as : (t : Table) → slice_get s.tables x ≡ Some t → old.element_fits (cross_store s) e1 ≡ nat_le (at + length entries) (length t.entries)
  fits_as t e = table_at (Some t) e ∙ ap (λ (n : ℕ). nat_le (at + length entries) n) (length-map t.entries function_of)

  writes : (t : Table) → slice_get s.tables x ≡ Some t → (b : Bool) → nat_le (at + length entries) (length t.entries) ≡ b → StepAgrees i s e1 (option_map (λ all. written i x t all s) (if b then Some (old.overwritten at entries t.entries) else None))
  writes t e false h = fits_as t e ∙ h
  writes t e true h = record {
    fits = fits_as t e ∙ h;
    same = written-cross t e;
    others = record { globals = refl; memories = refl; datas = refl; exceptions = refl };
    elems = refl;
    sizes = sizes_same t e h;
  }

  at_table : (o : Option Table) → slice_get s.tables x ≡ o → StepAgrees i s e1 (option_and_then (λ t. option_map (λ all. written i x t all s) (write_range at entries t.entries)) o)
  at_table None e = table_at None e
  at_table (Some t) e = writes t e (nat_le (at + length entries) (length t.entries)) refl

step : (k i : ℕ) (e : Element) (x : ℕ) (offset : List Instr) → ConstantCrosses k offset → AllByRecursion (λ code. is_item code ≡ true) e.items → (globals : List Val) (s : Store) → segment_entries i s ≡ map (new.constant globals) e.items → StepAgrees i s (element_as x offset e.items) (new.place_elem i e (Active x offset) s)
step k i e x offset c r globals s h =
    subst (StepAgrees i s (element_as x offset e.items))
    (sym (ap (λ (es : List Val). placed_at i x (number (new.constant s.globals offset)) es s (length e.items) (slice_get s.tables x)) h
    ∙ placed i x (number (new.constant s.globals offset)) (map (new.constant globals) e.items) s (length e.items) (sym (length-map e.items (new.constant globals))) (slice_get s.tables x)))
    (at_table k i x offset c e.items r globals s (slice_get s.tables x) refl)

-- whether segments fit does not change
fits_same : (s s' : Store1) → s'.globals ≡ s.globals → ((y : ℕ) → option_map length (slice_get s'.tables y) ≡ option_map length (slice_get s.tables y)) → (es : List Element1) → list_all (old.element_fits s') es ≡ list_all (old.element_fits s) es
fits_same s s' g h [] = refl
fits_same s s' g h (e ∷ es) =
    ap (λ gs. old.is_inside (number1 (old.const_value gs e.offset)) (length e.items) (option_map length (slice_get s'.tables e.table)) && list_all (old.element_fits s') es) g
    ∙ ap (λ o. old.is_inside (number1 (old.const_value s.globals e.offset)) (length e.items) o && list_all (old.element_fits s') es) (h e.table)
    ∙ ap (λ b. old.element_fits s e && b) (fits_same s s' g h es)

-- the segments from one on still have all their items
abbrev pub Ready : List Val → ℕ → List Element → Store → Type 0
Ready globals i [] s = Unit {0}
Ready globals i (e ∷ es) s = (segment_entries i s ≡ map (new.constant globals) e.items) × Ready globals (i + 1) es s

ready_set : (globals : List Val) (i j : ℕ) (es : List Element) (s s' : Store) → i < j → s'.elems ≡ set s.elems i [] → Ready globals j es s → Ready globals j es s'
ready_set globals i j [] s s' lt e h = tt
ready_set globals i j (x ∷ es) s s' lt e h =
    let other : j ≡ i → ⊥ = λ q. let no : ⊥ = omega arith in no in
    let more : i < j + 1 = omega arith in
    (ap (λ (l : List (List Val)). slice_index_or l j []) e ∙ get_or-set_other s.elems i j [] [] other ∙ h.0, ready_set globals i (j + 1) es s s' more e h.1)

pub ready_from : (globals : List Val) (front : List (List Val)) (es : List Element) (s : Store) → s.elems ≡ front ++ map (λ e. map (new.constant globals) e.items) es → Ready globals (length front) es s
ready_from globals front [] s h = tt
ready_from globals front (e ∷ es) s h =
    let own : List Val = map (new.constant globals) e.items in
    let rest : List (List Val) = map (λ x. map (new.constant globals) x.items) es in (
      ap (λ (l : List (List Val)). slice_index_or l (length front) []) h ∙ get_or-append_seam front own rest [],
      subst (λ (n : ℕ). Ready globals n es s) (length-append front (own ∷ [])) (ready_from globals (front ++ own ∷ []) es s (h ∙ sym (append_assoc front (own ∷ []) rest))),
    )

-- what all segments come to in both
pub record Placed (s s' : Store) (w : Store1) : Type 0 where
  pub same : w ≡ cross_store s'
  pub others : OtherTables s s'

abbrev pub Agrees : Store → Bool → Store1 → Option Store → Type 0
Agrees s b w None = b ≡ false
Agrees s b w (Some s') = (b ≡ true) × Placed s s' w

others_then : (s t u : Store) → OtherTables s t → OtherTables t u → OtherTables s u
others_then s t u a b = record { globals = b.globals ∙ a.globals; memories = b.memories ∙ a.memories; datas = b.datas ∙ a.datas; exceptions = b.exceptions ∙ a.exceptions }

agrees_then : (s t : Store) (b : Bool) (w : Store1) (o : Option Store) → OtherTables s t → Agrees t b w o → Agrees s b w o
agrees_then s t b w None a h = h
agrees_then s t b w (Some u) a h = (h.0, record { same = h.1.same; others = others_then s t u a h.1.others })

module _ (k : ℕ) (globals : List Val) where
  abbrev Behind : List Element1 → List Element → ℕ → Store → Option Store → Type 0
  Behind first es i s o = Agrees s (list_all (old.element_fits (cross_store s)) (first ++ flat_map cross_element es)) (old.write_elements (first ++ flat_map cross_element es) (cross_store s)) (option_and_then (new.place_elems (i + 1) es) o)

  abbrev pub ElementsAgree : List Element → ℕ → Store → Type 0
  ElementsAgree es i s = Agrees s (list_all (old.element_fits (cross_store s)) (flat_map cross_element es)) (old.write_elements (flat_map cross_element es) (cross_store s)) (new.place_elems i es s)

  -- an active segment, and those behind it
  elements_then : (e : Element1) (es : List Element) (i : ℕ) (s : Store) → ((t : Store) → Ready globals (i + 1) es t → ElementsAgree es (i + 1) t) → Ready globals (i + 1) es s → (o : Option Store) → StepAgrees i s e o → Behind (e ∷ []) es i s o
  elements_then e es i s more r None h = ap (λ b. b && list_all (old.element_fits (cross_store s)) (flat_map cross_element es)) h
  elements_then e es i s more r (Some t) h =
      let lt : i < i + 1 = omega arith in
      subst (λ b. Agrees s b (old.write_elements (flat_map cross_element es) (old.write_element e (cross_store s))) (new.place_elems (i + 1) es t))
      (sym (ap (λ b. b && list_all (old.element_fits (cross_store s)) (flat_map cross_element es)) h.fits ∙ sym (fits_same (cross_store s) (cross_store t) (ap crossed h.others.globals) h.sizes (flat_map cross_element es))))
      (subst (λ (w : Store1). Agrees s (list_all (old.element_fits (cross_store t)) (flat_map cross_element es)) (old.write_elements (flat_map cross_element es) w) (new.place_elems (i + 1) es t)) (sym h.same)
      (agrees_then s t (list_all (old.element_fits (cross_store t)) (flat_map cross_element es)) (old.write_elements (flat_map cross_element es) (cross_store t)) (new.place_elems (i + 1) es t) h.others (more t (ready_set globals i (i + 1) es s t lt h.elems r))))

  -- a segment, which is written where it is active
  by_mode : (e : Element) (es : List Element) (i : ℕ) (s : Store) → ((t : Store) → Ready globals (i + 1) es t → ElementsAgree es (i + 1) t) → segment_entries i s ≡ map (new.constant globals) e.items → Ready globals (i + 1) es s → (mode : Mode) → ItemsCross k e.items mode → Behind (cross_active e.items mode) es i s (new.place_elem i e mode s)
  by_mode e es i s more q r (Active x offset) c =
      elements_then (element_as x offset e.items) es i s more r (new.place_elem i e (Active x offset) s) (step k i e x offset c.0 c.1 globals s q)
  by_mode e es i s more q r Passive c = more s r
  by_mode e es i s more q r Declarative c =
      let lt : i < i + 1 = omega arith in
      let t : Store = record s { elems = set s.elems i [] } in
      agrees_then s t (list_all (old.element_fits (cross_store s)) (flat_map cross_element es)) (old.write_elements (flat_map cross_element es) (cross_store s)) (new.place_elems (i + 1) es t) (record { globals = refl; memories = refl; datas = refl; exceptions = refl }) (more t (ready_set globals i (i + 1) es s t lt refl r))

  pub elements_agree : (es : List Element) (i : ℕ) (s : Store) → AllByRecursion (ElementCrosses k) es → Ready globals i es s → ElementsAgree es i s
  elements_agree [] i s c r = (refl, record { same = refl; others = record { globals = refl; memories = refl; datas = refl; exceptions = refl } })
  elements_agree (e ∷ es) i s c r = by_mode e es i s (λ t q. elements_agree es (i + 1) t c.1 q) r.0 r.1 e.mode c.0
