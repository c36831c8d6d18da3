-- Two stages in a row keep the law, by the laws of both.
use mathlib.Core.Path.{fun_ext}
use Rattle.std.proofs.Common.{◌≡◌, ℕ, ◌+◌, ◌*◌, ◌≤◌, Bool, true, List, Result, Ok, Err, IfOk, sym, subst, arith}
use Rattle.host_kit.specs.Fits.{ScriptFits}
use Rattle.host_kit.specs.Scripts.{regrow}
use Rattle.host_kit.specs.Trace.{Begins}
use Rattle.host_kit.proofs.Marks.{begins_trans}
use Rattle.host_kit.specs.declared.event.Event.{Event}
use Rattle.host_kit.specs.declared.script.Script.{Script}
use Rattle.wasm_ast.specs.declared.module.parts.Module.{Module}
use Rattle.meaning_new.specs.Runs.{trace, depth}
use Rattle.meaning_new.proofs.RunLaws.{trace_not_full}
use Rattle.pass_law.specs.Hosts.{HostTypes, host_types}
use Rattle.pass_law.specs.Needs.{NoMore, needs_of}
use Rattle.pass_law.specs.Plans.{Plan, Lawful, then}
use Rattle.pass_law.specs.Stages.{has_load}
use Rattle.pass_law.specs.Views.{view, kept, apply, Passes, safe, answers_of, taken}
use Rattle.pass_law.specs.Law.{InStep, Explained, Reaches, Reached, LawAt, Law}
use Rattle.pass_law.specs.ThenLawful.{and_left, and_right}
use Rattle.pass_law.proofs.Sights.{NoFull, never_full, apply_begins, apply-kept, apply-apply, kept_begins, kept-kept}
use Rattle.pass_law.proofs.Composing.{in_step_both, answers_both, few_between, few_frames, shown_passes}
use Rattle.pass_law.proofs.Passing.{passes_both}

-- fitting does not read the answers to growths
fits_under_any_answers : (m : Module) (s : Script) (grows : List Bool) → ScriptFits m s → ScriptFits m (regrow grows s)
fits_under_any_answers m s grows fit = record { globals = fit.globals; replies = fit.replies; items = fit.items }

-- what the second stage takes is left of what the first takes
pub taken_next : (P Q : Plan) → Lawful Q → (h : HostTypes) (m between : Module) (captures : ℕ) → LawAt P h m between captures → (then P Q).takes (needs_of m) ≡ true → Q.takes (needs_of between) ≡ true
taken_next P Q q h m between captures law t =
    q.takes_less (needs_of between) (P.leaves (needs_of m)) law.left (and_right (P.takes (needs_of m)) (Q.takes (P.leaves (needs_of m))) t)

pub taken_first : (P Q : Plan) (m : Module) → (then P Q).takes (needs_of m) ≡ true → P.takes (needs_of m) ≡ true
taken_first P Q m t = and_left (P.takes (needs_of m)) (Q.takes (P.leaves (needs_of m))) t

no_more : (P Q : Plan) → Lawful Q → (m between o : Module) → NoMore (needs_of between) (P.leaves (needs_of m)) → NoMore (needs_of o) (Q.leaves (needs_of between)) → NoMore (needs_of o) ((then P Q).leaves (needs_of m))
no_more P Q q m between o first second =
    let less : NoMore (Q.leaves (needs_of between)) (Q.leaves (P.leaves (needs_of m))) = q.leaves_less (needs_of between) (P.leaves (needs_of m)) first in
    record { has = λ f e. less.has f (second.has f e); region = λ e. less.region (second.region e); computed_exports = λ e. less.computed_exports (second.computed_exports e) }

module _ (P Q : Plan) (p : Lawful P) (q : Lawful Q) (h : HostTypes) (m between o : Module) (captures : ℕ) (first : LawAt P h m between captures) (second : LawAt Q (P.types h) between o captures) where
  -- the two scripts for the stages, and the maps of events at a script
  abbrev middle : Script → Script
  middle s = P.script h s

  abbrev inner : Script → Event → Event
  inner s = P.event h s

  abbrev outer : Script → Event → Event
  outer s = Q.event (P.types h) (middle s)

  same_inner : (s : Script) (grows : List Bool) → inner (regrow grows s) ≡ inner s
  same_inner s grows = fun_ext (λ e. p.event_regrows h s grows e)

  same_test : (s : Script) (grows : List Bool) → P.test h (regrow grows s) ≡ P.test h s
  same_test s grows = fun_ext (λ e. p.test_regrows h s grows e)

  no_full : (m' : Module) (s : Script) (n : ℕ) → NoFull (view (trace m' s n))
  no_full m' s n = never_full (trace m' s n) (trace_not_full m' s n)

  -- a run of the module between under the script t is explained by the input under the script s
  record Under (s t : Script) (u : Event → Event) (n : ℕ) : Type 0 where
    pub turns : ℕ
    pub fewer : turns ≤ n
    pub grows : List Bool
    pub begins : Begins (answers_of (apply u (view (trace between t n)))) grows
    pub same : InStep P.removes_captures captures (apply u (view (trace between t n))) (view (trace m (regrow grows s) turns))
    pub frames : taken (view (trace m (regrow grows s) turns)) ≤ captures → depth between t n ≤ P.frames * depth m (regrow grows s) turns + P.more_frames

  under_its_own : (s : Script) (answers : List Bool) → ScriptFits m s → (n : ℕ) → Under s (middle (regrow answers s)) (inner (regrow answers s)) n
  under_its_own s answers fit n =
      let e = first.explained (regrow answers s) (fits_under_any_answers m s answers fit) n in
      record { turns = e.turns; fewer = e.fewer; grows = e.grows; begins = e.begins; same = e.same; frames = e.frames }

  under : (s : Script) (answers : List Bool) → ScriptFits m s → (n : ℕ) → Under s (regrow answers (middle s)) (inner s) n
  under s answers fit n =
      subst (λ t. Under s t (inner s) n) (p.script_regrows h s answers)
      (subst (λ u. Under s (middle (regrow answers s)) u n) (same_inner s answers) (under_its_own s answers fit n))

  -- events of the module between under these answers pass the first test
  between_passes : (s : Script) (answers : List Bool) → ScriptFits m s → (n : ℕ) → Passes (P.test h s) (inner s) (view (trace between (regrow answers (middle s)) n))
  between_passes s answers fit n =
      subst (λ t. Passes (P.test h s) (inner s) (view (trace between t n))) (p.script_regrows h s answers)
      (subst (λ test. Passes test (inner s) (view (trace between (middle (regrow answers s)) n))) (same_test s answers)
      (subst (λ u. Passes (P.test h (regrow answers s)) u (view (trace between (middle (regrow answers s)) n))) (same_inner s answers)
      (first.passes (regrow answers s) (fits_under_any_answers m s answers fit) n)))

  module _ (s : Script) (fit : ScriptFits m s) where
    fit_between : ScriptFits between (middle s)
    fit_between = first.fits s fit

    explained : (n : ℕ) → Explained (then P Q) h m o captures s n
    explained n =
        let last = second.explained (middle s) fit_between n in
        let inside = under s last.grows fit last.turns in
        let shown = apply (outer s) (view (trace o (Q.script (P.types h) (middle s)) n)) in
        let seen_between = view (trace between (regrow last.grows (middle s)) last.turns) in
        let seen_input = view (trace m (regrow inside.grows s) inside.turns) in
        let none = no_full m (regrow inside.grows s) inside.turns in
        let twice = apply-apply (inner s) (outer s) (p.full h s) (view (trace o (Q.script (P.types h) (middle s)) n)) in
        record {
          turns = inside.turns;
          fewer = omega (arith, inside.fewer, last.fewer);
          grows = inside.grows;
          begins = subst (λ l. Begins (answers_of l) inside.grows) twice
              (answers_both (inner s) (p.full h s) (p.failed h s) captures P.removes_captures Q.removes_captures shown seen_between seen_input none last.same inside.grows inside.begins);
          same = subst (λ l. InStep (then P Q).removes_captures captures l seen_input) twice
              (in_step_both (inner s) (p.full h s) (p.failed h s) captures P.removes_captures Q.removes_captures shown seen_between seen_input none last.same inside.same);
          frames = λ few. few_frames P.frames P.more_frames Q.frames Q.more_frames
              (depth m (regrow inside.grows s) inside.turns) (depth between (regrow last.grows (middle s)) last.turns) (depth o (Q.script (P.types h) (middle s)) n)
              (inside.frames few)
              (last.frames (few_between (inner s) (p.full h s) (p.failed h s) captures P.removes_captures Q.removes_captures shown seen_between seen_input none inside.same few));
        }

    passes : (n : ℕ) → Passes ((then P Q).test h s) ((then P Q).event h s) (view (trace o ((then P Q).script h s) n))
    passes n =
        let last = second.explained (middle s) fit_between n in
        let seen_output = view (trace o (Q.script (P.types h) (middle s)) n) in
        passes_both (P.test h s) (Q.test (P.types h) (middle s)) (inner s) (outer s) (p.full h s) seen_output (second.passes (middle s) fit_between n)
        (shown_passes (P.test h s) (inner s) Q.removes_captures captures (apply (outer s) seen_output) (view (trace between (regrow last.grows (middle s)) last.turns))
        (p.full_passes h s) (p.failed_passes h s) last.same (between_passes s last.grows fit last.turns))

    -- in to out
    reaches : (n k i : ℕ) → Reaches P h m between captures s n k → Reaches Q (P.types h) between o captures (middle s) k i → Reaches (then P Q) h m o captures s n i
    reaches n k i first_reaches second_reaches =
        let safe_input = safe (has_load m) captures (trace m s n) in
        let safe_between = safe (has_load between) captures (trace between (middle s) k) in
        let safe_output = safe (has_load o) captures (trace o (Q.script (P.types h) (middle s)) i) in
        let inside : Begins (kept Q.removes_captures (kept P.removes_captures safe_input)) (kept Q.removes_captures (apply (inner s) safe_between)) =
        kept_begins Q.removes_captures (kept P.removes_captures safe_input) (apply (inner s) safe_between) first_reaches in
        let outside : Begins (apply (inner s) (kept Q.removes_captures safe_between)) (apply (inner s) (apply (outer s) safe_output)) =
        apply_begins (inner s) (kept Q.removes_captures safe_between) (apply (outer s) safe_output) second_reaches in
        subst (Begins (kept (then P Q).removes_captures safe_input)) (apply-apply (inner s) (outer s) (p.full h s) safe_output)
        (begins_trans (kept (then P Q).removes_captures safe_input) (apply (inner s) (kept Q.removes_captures safe_between)) (apply (inner s) (apply (outer s) safe_output))
        (subst (λ l. Begins l (apply (inner s) (kept Q.removes_captures safe_between))) (kept-kept P.removes_captures Q.removes_captures safe_input)
        (subst (Begins (kept Q.removes_captures (kept P.removes_captures safe_input))) (sym (apply-kept (inner s) Q.removes_captures safe_between)) inside)) outside)

    reached : (n : ℕ) → Reached (then P Q) h m o captures s n
    reached n =
        let r = first.reached s fit n in
        let r' = second.reached (middle s) fit_between r.turns in
        record { turns = r'.turns; reaches = reaches n r.turns r'.turns r.reaches r'.reaches }

  pub then_law_at : LawAt (then P Q) h m o captures
  then_law_at = record {
    left = no_more P Q q m between o first.left second.left;
    host = second.host;
    stage = second.stage;
    fits = λ s fit. second.fits (middle s) (first.fits s fit);
    passes = λ s fit n. passes s fit n;
    explained = λ s fit n. explained s fit n;
    reached = λ s fit n. reached s fit n;
    direct = λ d. second.direct (first.direct d);
    reached_directly = λ d s fit n. reaches s fit n n n (first.reached_directly d s fit n) (second.reached_directly (first.direct d) (middle s) (first.fits s fit) n);
  }

-- the law of the second stage speaks of the host types of the module between
pub then_law : (P Q : Plan) → Lawful P → Lawful Q → (m between o : Module) (captures : ℕ) → Law P m between captures → Law Q between o captures → Law (then P Q) m o captures
then_law P Q p q m between o captures first second =
    then_law_at P Q p q (host_types m) m between o captures first (subst (λ h. LawAt Q h between o captures) first.host second)

-- what holds of a result that is there
pub if_ok : {A E : Type 0} (P Q : A → Type 0) (r : Result A E) → ((x : A) → P x → Q x) → IfOk r P → IfOk r Q
if_ok P Q (Ok x) f h = f x h
if_ok P Q (Err e) f h = tt
