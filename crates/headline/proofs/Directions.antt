-- The headline, from the law of a pipeline and the crossing behind it.
use Rattle.std.proofs.Common.{◌≡◌, ℕ, ◌+◌, ◌*◌, ◌≤◌, inl, inr, true, false, Bool, cond, List, refl, sym, ap, ◌∙◌, subst, arith}
use Rattle.std.specs.Prelude.{nat_le, nat_lt}
use Rattle.std.specs.List.{AllByRecursion, filter}
use Rattle.std.proofs.lemmas.Bool.{le-leb, leb-true}
use Rattle.host_kit.specs.Fits.{ScriptFits}
use Rattle.host_kit.specs.Fits1.{ScriptFits1}
use Rattle.host_kit.specs.Scripts.{regrow}
use Rattle.host_kit.specs.Trace.{Mark, Begins, answers, cut, events, seen}
use Rattle.host_kit.specs.declared.script.Script.{Script}
use Rattle.host_kit.proofs.Marks.{begins_trans}
use Rattle.wasm_ast.specs.Region.{fixed_pages}
use Rattle.wasm_ast.specs.declared.module.parts.Module.{Module}
use Rattle.core1_ast.specs.declared.module.parts.Module1.{Module1}
use Rattle.typed_trees.specs.declared.module.TypedFn.{TypedFn}
use Rattle.typed_trees.specs.Typed.{module_of}
use Rattle.meaning_new.specs.Interface.{interface}
use Rattle.meaning_new.specs.Runs.{trace, depth}
use Rattle.meaning_new.proofs.RunLaws.{trace_not_full}
use Rattle.meaning_core1.specs.Runs.{trace1, depth1}
use Rattle.pass_law.specs.Hosts.{HostTypes, host_types}
use Rattle.pass_law.specs.Law.{Explained, InStep, Reaches}
use Rattle.pass_law.specs.Needs.{IsDirect, needs_of}
use Rattle.pass_law.specs.Plans.{Plan}
use Rattle.pass_law.specs.Stages as stages
use Rattle.pass_law.specs.Stages.{has_load, load, needs_stage_region}
use Rattle.pass_law.specs.Views.{Sight, answers_of, apply, kept, view}
use Rattle.pass_law.proofs.Sights.{NoFull, apply_begins, never_full}
use Rattle.pass_cross.proofs.Whole.{crossable_crosses}
use Rattle.stage_entry.specs.Cut.{pages}
use Rattle.headline.specs.Headline.{OutToIn, Same, SameUnder, StaysDirect, has_pages, safe, unmapped}
use Rattle.headline.specs.Lowered.{Lowered, LoweredIsSame}
use Rattle.headline.specs.Mapping.{map_script}
use Rattle.headline.specs.MappedEvents.{FitEvents}
use Rattle.headline.specs.MappedInterface.{SameInterface}
use Rattle.ranges_core1.specs.Ranges.{EventInRange}
use Rattle.soundness.specs.Events.{EventTyped}
use Rattle.headline.specs.Unmapping.{unmap}
use Rattle.headline.proofs.Called.{stays}
use Rattle.headline.proofs.Events.{events_fit, unmap-same}
use Rattle.headline.proofs.Linked.{events_typed, interface-mapped, shows_integers}
use Rattle.headline.proofs.Links.{types_plain}
use Rattle.headline.proofs.Scripts.{map_script-same, script_fits}
use Rattle.headline.proofs.Sights.{answers-view, apply-same, begins_seen, cut_begins, cut_front, seen_begins, taken-view, view_begins}

-- ---- pages

more : (n k l : ℕ) → n ≤ k → n ≤ l + k
more n k l f = omega (arith, f)

less_pages : (memories tables kept : ℕ) (staged : Bool) → staged ≡ false → memories + cond staged kept 0 ≤ memories + tables
less_pages memories tables kept true e = absurd cc
less_pages memories tables kept false e = omega arith

module _ (P : Plan) (captures : ℕ) (m : Module) (tree : Module × List TypedFn) (m1 : Module1) (h : Lowered P captures m tree m1) where
  abbrev o : Module
  o = module_of tree

  abbrev t : HostTypes
  t = host_types m

  load_below : (sizes : List ℕ) → load m sizes ≤ pages m sizes
  load_below sizes =
      less_pages (stages.memory_pages m sizes) (stages.table_pages m sizes) (stages.table_pages m sizes + stages.kept_pages m) (needs_stage_region m) h.region

  below : (n k : ℕ) → n ≤ k → nat_le k 65536 ≡ true → nat_le n 65536 ≡ true
  below n k le e = let few = leb-true k 65536 e in le-leb n 65536 (omega (arith, le, few))

  wider : (sizes : List ℕ) → has_pages m sizes ≡ true → has_load m sizes ≡ true
  wider sizes e = below (load m sizes) (fixed_pages m + pages m sizes) (more (load m sizes) (pages m sizes) (fixed_pages m) (load_below sizes)) e

  -- ---- the interface

  offers : interface o ≡ record (interface m) { exports = filter stays (interface m).exports }
  offers = ap (λ (x : HostTypes). x.interface) (h.law.host ∙ h.plan.types t)

  pub same_interface : SameInterface m m1
  same_interface = h.crossed.linked ∙ interface-mapped m tree h.typed h.crossable offers

  -- ---- one script

  module _ (s : Script) (fits : ScriptFits m s) where
    fits_below : ScriptFits o s
    fits_below = subst (ScriptFits o) (h.plan.script t s) (h.law.fits s fits)

    same_script : map_script m s ≡ s
    same_script = map_script-same o (types_plain tree h.typed h.crossable) (crossable_crosses tree h.typed h.crossable) h.crossable m s fits_below

    fits_written : ScriptFits1 m1 s
    fits_written =
        subst (λ x. ScriptFits1 x s) (sym h.written)
        (script_fits o (types_plain tree h.typed h.crossable) (crossable_crosses tree h.typed h.crossable) h.crossable s fits_below)

    same_trace : (n : ℕ) → trace1 m1 (map_script m s) n ≡ trace o s n
    same_trace n = ap (λ x. trace1 m1 x n) same_script ∙ h.crossed.trace s n fits_below

    typed : (n : ℕ) → AllByRecursion (EventTyped m s) (events (trace o s n))
    typed n = events_typed m tree h.typed h.crossable offers s fits (events (trace o s n)) (h.types s fits_below n)

    in_range : (n : ℕ) → AllByRecursion EventInRange (events (trace o s n))
    in_range n = subst (λ l. AllByRecursion EventInRange (events l)) (h.crossed.trace s n fits_below) (h.numbers s fits_written n)

    unmapped_is : (n : ℕ) → unmapped m m1 s n ≡ seen (trace o s n)
    unmapped_is n =
        ap (λ l. unmap m s (seen l)) (same_trace n)
        ∙ unmap-same m s (shows_integers m tree h.typed h.crossable offers s fits) (trace o s n) (typed n) (in_range n)

    mapped : (n : ℕ) → FitEvents m s (events (trace1 m1 (map_script m s) n))
    mapped n =
        subst (λ l. FitEvents m s (events l)) (sym (same_trace n))
        (events_fit m s (shows_integers m tree h.typed h.crossable offers s fits) (events (trace o s n)) (typed n) (in_range n))

    -- the maps of the plan
    not_full : (n : ℕ) → NoFull (view (trace o s n))
    not_full n = never_full (trace o s n) (trace_not_full o s n)

    same_view : (n : ℕ) → apply (P.event t s) (view (trace o (P.script t s) n)) ≡ view (trace o s n)
    same_view n =
        ap (λ x. apply (P.event t s) (view (trace o x n))) (h.plan.script t s)
        ∙ apply-same (P.event t s) (h.plan.event t s) (view (trace o s n)) (not_full n)

    kept-all : (b : Bool) (sights : List Sight) → b ≡ false → kept b sights ≡ sights
    kept-all true sights e = absurd cc
    kept-all false sights e = refl

    -- out to in
    module _ (n : ℕ) where
      abbrev explained : Explained P t m o captures s n
      explained = h.law.explained s fits n

      abbrev input : List Mark
      input = trace m (regrow explained.grows s) explained.turns

      in_step : InStep P.removes_captures captures (apply (P.event t s) (view (trace o (P.script t s) n))) (view input) → Begins (view (trace o s n)) (view input)
      in_step (inl b) =
          subst (λ l. Begins l (view input)) (same_view n)
          (subst (Begins (apply (P.event t s) (view (trace o (P.script t s) n)))) (kept-all P.removes_captures (view input) h.plan.captures) b)
      in_step (inr x) = let no : true ≡ false = sym x.0 ∙ h.plan.captures in absurd cc

      out_to_in : OutToIn P.frames P.more_frames m m1 captures s n
      out_to_in = record {
        turns = explained.turns;
        fewer = explained.fewer;
        grows = explained.grows;
        begins =
            subst (λ l. Begins l explained.grows)
            (ap answers_of (same_view n) ∙ answers-view (trace o s n) ∙ ap answers (sym (unmapped_is n)))
            explained.begins;
        same = inl (subst (λ l. Begins l (seen input)) (sym (unmapped_is n)) (seen_begins (trace o s n) input (in_step explained.same)));
        frames = λ few.
            let mine : depth1 m1 (map_script m s) n ≡ depth o s n = subst (λ x. depth1 m1 x n ≡ depth o s n) (sym same_script) (h.crossed.depth s n fits_below) in
            let theirs : depth o s n ≤ P.frames * depth m (regrow explained.grows s) explained.turns + P.more_frames =
            subst (λ x. depth o x n ≤ P.frames * depth m (regrow explained.grows s) explained.turns + P.more_frames) (h.plan.script t s)
            (explained.frames (subst (λ k. k ≤ captures) (sym (taken-view input)) few)) in
            subst (λ (k : ℕ). k ≤ P.frames * depth m (regrow explained.grows s) explained.turns + P.more_frames) (sym mine) theirs;
      }

    -- in to out
    abbrev room : ℕ → Bool
    room k = nat_lt k captures

    module _ (n turns : ℕ) (b : Reaches P t m o captures s n turns) where
      abbrev input_part : List Mark
      input_part = cut (has_load m) room 0 (trace m s n)

      abbrev output : List Mark
      output = trace o (P.script t s) turns

      abbrev output_part : List Mark
      output_part = cut (has_load o) room 0 output

      begins_output : Begins (view input_part) (view (trace o s turns))
      begins_output =
          subst (Begins (view input_part)) (same_view turns)
          (begins_trans (view input_part) (apply (P.event t s) (view output_part)) (apply (P.event t s) (view output))
          (subst (λ l. Begins l (apply (P.event t s) (view output_part))) (kept-all P.removes_captures (view input_part) h.plan.captures) b)
          (apply_begins (P.event t s) (view output_part) (view output) (view_begins output_part output (cut_front (has_load o) room 0 output))))

      shows : Begins (seen (safe m captures (trace m s n))) (unmapped m m1 s turns)
      shows =
          subst (Begins (seen (safe m captures (trace m s n)))) (sym (unmapped_is turns))
          (begins_trans (seen (safe m captures (trace m s n))) (seen input_part) (seen (trace o s turns))
          (begins_seen (safe m captures (trace m s n)) input_part (cut_begins (has_pages m) (has_load m) wider room 0 (trace m s n)))
          (seen_begins input_part (trace o s turns) begins_output))

    is_direct : StaysDirect m → IsDirect (needs_of m)
    is_direct d = record {
      constants = d.constants;
      multi = d.multi;
      simd = d.simd;
      late_lanes = d.late_lanes;
      tail = d.tail;
      refs = d.refs;
      tables = d.tables;
      exceptions = d.exceptions;
      bulk = d.bulk;
      wide_memory = d.wide_memory;
      memories = d.memories;
      region = h.region;
    }

    same_under : SameUnder P.frames P.more_frames m m1 captures s
    same_under = record {
      fits = subst (ScriptFits1 m1) (sym same_script) fits_written;
      mapped_events = mapped;
      out_to_in = out_to_in;
      in_to_out = λ n. (let r = h.law.reached s fits n in record { turns = r.turns; shows = shows n r.turns r.reaches });
      direct = λ d n. shows n n (h.law.reached_directly (is_direct d) s fits n);
    }

  pub same : Same P.frames P.more_frames m m1 captures
  same = record { under = same_under }

pub lowered_is_same : LoweredIsSame
lowered_is_same P captures m tree m1 h = (same_interface P captures m tree m1 h, same P captures m tree m1 h)
