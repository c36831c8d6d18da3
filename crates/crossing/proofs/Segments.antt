-- All segments of a module, and the theorem for a module whose parts all cross.
use Rattle.std.proofs.Common.{◌≡◌, ℕ, Bool, true, false, ◌&&◌, List, [], map, length, slice_get, Option, Some, None, option_map, refl, sym, ap, ◌∙◌, subst, if◌then◌else◌}
use Rattle.std.specs.Prelude.{flat_map, option_and_then}
use Rattle.std.specs.List.{AllByRecursion, list_all}
use Rattle.host_kit.specs.declared.script.Script.{Script}
use Rattle.wasm_ast.specs.declared.module.parts.Module.{Module}
use Rattle.meaning_new.specs.declared.val.Val.{Val}
use Rattle.meaning_new.specs.Store.{Memory, Store}
use Rattle.meaning_new.specs.Instances as new
use Rattle.meaning_core1.specs.Store.{Memory1, Store1}
use Rattle.meaning_core1.specs.Instances as old
use Rattle.crossing.specs.Modules.{cross, cross_element, cross_segment}
use Rattle.crossing.specs.States.{cross_memory, cross_store, StoreIsPlain, ScriptIsPlain}
use Rattle.crossing.specs.Crossing.{ModeCrosses, imported_globals, FunctionsCross, PartsCross, SegmentsCross, StoresAgree, first_state, InstantiationCrosses, CrossedRuns}
use Rattle.crossing.proofs.Begins.{begins-cross, begins_plain}
use Rattle.crossing.proofs.Datas as datas
use Rattle.crossing.proofs.Elements as elements
use Rattle.crossing.proofs.Images.{crossed}
use Rattle.crossing.proofs.Keeping.{Integers}
use Rattle.crossing.proofs.Whole.{crossed_runs}

module _ (m : Module) (s : Store) (plain : StoreIsPlain s) where
  abbrev elems_fit : Bool
  elems_fit = list_all (old.element_fits (cross_store s)) (flat_map cross_element m.elems)

  abbrev datas_fit : Bool
  datas_fit = list_all (old.segment_fits (cross_store s)) (map cross_segment m.datas)

  abbrev after_elems : Store1
  after_elems = old.write_elements (flat_map cross_element m.elems) (cross_store s)

  abbrev outcome : Bool → Bool → Store1 → Option Store1
  outcome a b w = if a && b then Some (old.write_segments (map cross_segment m.datas) w) else None

  and_no : (a : Bool) → (a && false) ≡ false
  and_no true = refl
  and_no false = refl

  stays_plain : (t : Store) → elements.OtherTables s t → StoreIsPlain t
  stays_plain t h = record {
    globals = subst Integers (sym h.globals) plain.globals;
    memories = subst (λ ms. AllByRecursion (λ (n : Memory). n.wide ≡ false) ms) (sym h.memories) plain.memories;
    exceptions = h.exceptions ∙ plain.exceptions;
  }

  with_datas : (b : Bool) (w : Store1) (o : Option Store) → datas.Agrees b (old.write_segments (map cross_segment m.datas) w) o → StoresAgree o (outcome true b w)
  with_datas b w None h = subst (λ c. StoresAgree None (outcome true c w)) (sym h) tt
  with_datas b w (Some u) h = subst (λ c. StoresAgree (Some u) (outcome true c w)) (sym h.0) (h.1, h.2)

  after : (k : ℕ) → AllByRecursion (λ d. ModeCrosses k d.mode) m.datas → s.datas ≡ map (λ d. d.bytes) m.datas → (o : Option Store) → elements.Agrees s elems_fit after_elems o → StoresAgree (option_and_then (new.place_datas 0 m.datas) o) (outcome elems_fit datas_fit after_elems)
  after k c d None h = subst (λ a. StoresAgree None (outcome a datas_fit after_elems)) (sym h) tt
  after k c d (Some t) h =
      let kept = stays_plain t h.1.others in
      let agree = datas.datas_agree k m.datas 0 t c kept (datas.ready_from [] m.datas t (h.1.others.datas ∙ d)) in
      let fits : list_all (old.segment_fits (cross_store t)) (map cross_segment m.datas) ≡ datas_fit =
      datas.fits_same (cross_store s) (cross_store t) (ap crossed h.1.others.globals) (λ y. ap (λ (ms : List Memory). option_map (λ (n : Memory1). length n.bytes) (slice_get (map cross_memory ms) y)) h.1.others.memories) (map cross_segment m.datas) in
      subst (λ a. StoresAgree (new.place_datas 0 m.datas t) (outcome a datas_fit after_elems)) (sym h.0)
      (subst (λ b. StoresAgree (new.place_datas 0 m.datas t) (outcome true b after_elems)) fits
      (subst (λ (w : Store1). StoresAgree (new.place_datas 0 m.datas t) (outcome true (list_all (old.segment_fits (cross_store t)) (map cross_segment m.datas)) w)) (sym h.1.same)
      (with_datas (list_all (old.segment_fits (cross_store t)) (map cross_segment m.datas)) (cross_store t) (new.place_datas 0 m.datas t) agree)))

  pub segments_agree : SegmentsCross m → (globals : List Val) → s.elems ≡ map (λ e. map (new.constant globals) e.items) m.elems → s.datas ≡ map (λ d. d.bytes) m.datas → StoresAgree (new.place_segments m s) (old.with_segments (cross m) (cross_store s))
  segments_agree h globals e d =
      after (imported_globals m) h.datas d (new.place_elems 0 m.elems s)
      (elements.elements_agree (imported_globals m) globals m.elems 0 s h.elems (elements.ready_from globals [] m.elems s e))

module _ (m : Module) (script : Script) (plain : ScriptIsPlain script) (parts : PartsCross m) (segments : SegmentsCross m) (count : length script.globals ≡ imported_globals m) where
  instantiation : InstantiationCrosses m script
  instantiation =
      let s0 : Store = (first_state m script).store in
      record {
        begins = begins-cross m script plain parts count;
        segments =
            subst (λ (w : Store1). StoresAgree (new.place_segments m s0) (old.with_segments (cross m) w)) (sym (ap (λ t. t.store) (begins-cross m script plain parts count)))
            (segments_agree m s0 (begins_plain m script plain parts count) segments s0.globals refl refl);
      }

  -- the theorem
  pub module_crossed : FunctionsCross m → (n : ℕ) → CrossedRuns m script n
  module_crossed functions n = crossed_runs m functions script plain instantiation n
