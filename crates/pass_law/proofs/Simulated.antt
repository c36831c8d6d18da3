-- From a simulation to the law: for a stage whose output, within enough turns, leaves behind what the input does within
-- bounds on growths that the stage chooses, each event under its own name.
use Rattle.std.proofs.Common.{◌≡◌, ℕ, ◌+◌, ◌*◌, ◌≤◌, ◌⊎◌, inl, inr, Bool, true, false, List, [], ◌∷◌, ◌++◌, map, refl, sym, ap, ◌∙◌, subst, append-nil, le_refl, le_trans}
use Rattle.std.specs.Prelude.{nat_lt}
use Rattle.std.specs.List.{AllByRecursion}
use Rattle.host_kit.specs.Fits.{ScriptFits}
use Rattle.host_kit.specs.Scripts.{regrow}
use Rattle.host_kit.specs.Trace.{Mark, Shows, cut, seen, answers, Begins}
use Rattle.host_kit.proofs.Marks.{begins_trans}
use Rattle.host_kit.specs.declared.event.Event.{Event}
use Rattle.host_kit.specs.declared.event.Event.TheVariants.{Full}
use Rattle.host_kit.specs.declared.script.Script.{Script}
use Rattle.wasm_ast.specs.declared.module.parts.Module.{Module}
use Rattle.meaning_new.specs.Runs.{trace, depth, bounded_trace, bounded_depth}
use Rattle.meaning_new.specs.RunLaws.{Stopped}
use Rattle.meaning_new.proofs.RunLaws.{trace_goes_on, depth_grows, roomy_not_full, bounded_run, trace_cut}
use Rattle.pass_law.specs.Hosts.{HostTypes, host_types}
use Rattle.pass_law.specs.Needs.{NoMore, IsDirect, needs_of}
use Rattle.pass_law.specs.Plans.{Plan}
use Rattle.pass_law.specs.Stages.{Stage, has_load}
use Rattle.pass_law.specs.Views.{Sight, Told, view, answers_of, apply, kept, Passes, safe}
use Rattle.pass_law.specs.Law.{Explained, Reached, Reaches, Law}
use Rattle.pass_law.proofs.Sights.{NoFull, never_full, apply_begins, answers_begins}
use Rattle.pass_law.proofs.Passing.{passes_begins}
use Rattle.pass_law.proofs.Twins.{Twin, outer, inner, IsFit, apply-outer, outer_passes, cut_outer, cut_begins, cut-twice, view_begins, full_at_end, answers-seen}

-- what the run of the input leaves behind in which growths come to permitted sizes alone
abbrev pub input_trace : (List ℕ → Bool) → Module → Script → ℕ → List Mark
input_trace permits m s n = bounded_trace permits (λ k. true) m s n

-- The run of the output within enough turns against that of the input within n.
pub record Simulates (P : Plan) (h : HostTypes) (m o : Module) (permits : List ℕ → Bool) (s : Script) (n : ℕ) : Type 0 where
  pub turns : ℕ
  pub enough : n ≤ turns
  pub twins : List Twin
  pub input : input_trace permits m s n ≡ map (inner (P.event h s)) twins
  pub output : trace o (P.script h s) turns ≡ map outer twins
  pub fit : AllByRecursion (IsFit (P.test h s) (has_load m) (has_load o)) twins
  pub frames : depth o (P.script h s) turns ≤ P.frames * bounded_depth permits (λ k. true) m s n + P.more_frames
  -- no more turns for a module of 1.0 with sign extension and typed selects at most
  pub direct : IsDirect (needs_of m) → turns ≡ n

-- What such a stage owes.
pub record Simulated (P : Plan) (m o : Module) : Type 0 where
  pub left : NoMore (needs_of o) (P.leaves (needs_of m))
  pub host : host_types o ≡ P.types (host_types m)
  pub stage : Stage o
  pub direct : IsDirect (needs_of m) → IsDirect (needs_of o)
  pub fits : (s : Script) → ScriptFits m s → ScriptFits o (P.script (host_types m) s)
  pub keeps : P.removes_captures ≡ false
  -- growths as far as the simulation goes, which is as far as there is room at least
  pub permits : List ℕ → Bool
  pub wide : (sizes : List ℕ) → has_load m sizes ≡ true → permits sizes ≡ true
  pub by : (s : Script) → ScriptFits m s → (n : ℕ) → Simulates P (host_types m) m o permits s n

kept-all : (b : Bool) (xs : List Sight) → b ≡ false → kept b xs ≡ xs
kept-all b xs e = ap (λ c. kept c xs) e

-- no bounded run with room for each capture shows a full store
module _ (permits : List ℕ → Bool) (m : Module) (s : Script) (n : ℕ) where
  no_full : NoFull (view (input_trace permits m s n))
  no_full = never_full (input_trace permits m s n) (roomy_not_full permits m s n)

  not_stopped : (free : List Mark) → Stopped (input_trace permits m s n) free → ⊥
  not_stopped free h = full_at_end h.before (subst (λ l. NoFull (view l)) h.stopped no_full)

  -- under its own answers the bounded run is the run
  own_grows : List Bool
  own_grows = answers (seen (input_trace permits m s n))

  own_run : (trace m (regrow own_grows s) n ≡ input_trace permits m s n) × (depth m (regrow own_grows s) n ≡ bounded_depth permits (λ k. true) m s n)
  unfolding own_grows
  own_run =
      subst (λ l. (trace m (regrow l s) n ≡ input_trace permits m s n) × (depth m (regrow l s) n ≡ bounded_depth permits (λ k. true) m s n)) (append-nil (answers (seen (input_trace permits m s n))))
      (one (bounded_run permits (λ k. true) m s n []))
    where
      one : {A : Type 0} → A ⊎ Stopped (input_trace permits m s n) (trace m (regrow (answers (seen (input_trace permits m s n)) ++ []) s) n) → A
      one (inl a) = a
      one (inr h) = absurd (not_stopped (trace m (regrow (answers (seen (input_trace permits m s n)) ++ []) s) n) h)

module _ (P : Plan) (h : HostTypes) (m o : Module) (captures : ℕ) (keeps : P.removes_captures ≡ false) (permits : List ℕ → Bool) (s : Script) (n : ℕ) (g : Simulates P h m o permits s n) where
  images_clean : NoFull (view (map (inner (P.event h s)) g.twins))
  images_clean = subst (λ l. NoFull (view l)) g.input (no_full permits m s n)

  -- all that the output shows within its turns
  shown_whole : apply (P.event h s) (view (trace o (P.script h s) g.turns)) ≡ view (input_trace permits m s n)
  shown_whole =
      ap (λ l. apply (P.event h s) (view l)) g.output ∙ apply-outer (P.event h s) g.twins images_clean ∙ ap view (sym g.input)

  shown : Begins (apply (P.event h s) (view (trace o (P.script h s) n))) (view (input_trace permits m s n))
  shown =
      subst (Begins (apply (P.event h s) (view (trace o (P.script h s) n)))) shown_whole
      (apply_begins (P.event h s) (view (trace o (P.script h s) n)) (view (trace o (P.script h s) g.turns))
      (view_begins (trace o (P.script h s) n) (trace o (P.script h s) g.turns) (trace_goes_on o (P.script h s) n g.turns g.enough)))

  passes : Passes (P.test h s) (P.event h s) (view (trace o (P.script h s) n))
  passes =
      passes_begins (P.test h s) (P.event h s) (view (trace o (P.script h s) n)) (view (map outer g.twins))
      (subst (λ l. Begins (view (trace o (P.script h s) n)) (view l)) g.output
      (view_begins (trace o (P.script h s) n) (trace o (P.script h s) g.turns) (trace_goes_on o (P.script h s) n g.turns g.enough)))
      (outer_passes (P.event h s) (P.test h s) (has_load m) (has_load o) g.twins g.fit)

  shown_answers : Begins (answers_of (apply (P.event h s) (view (trace o (P.script h s) n)))) (own_grows permits m s n)
  unfolding own_grows
  shown_answers =
      subst (Begins (answers_of (apply (P.event h s) (view (trace o (P.script h s) n))))) (answers-seen (input_trace permits m s n))
      (answers_begins (apply (P.event h s) (view (trace o (P.script h s) n))) (view (input_trace permits m s n)) shown)

  explained : Explained P h m o captures s n
  explained =
      let own = own_run permits m s n in
      record {
        turns = n;
        fewer = le_refl n;
        grows = own_grows permits m s n;
        begins = shown_answers;
        same = inl (subst (Begins (apply (P.event h s) (view (trace o (P.script h s) n)))) (sym (ap view own.0) ∙ sym (kept-all P.removes_captures (view (trace m (regrow (own_grows permits m s n) s) n)) keeps)) shown);
        frames = λ few. subst (λ d. depth o (P.script h s) n ≤ P.frames * d + P.more_frames) (sym own.1) (le_trans (depth_grows o (P.script h s) n g.turns g.enough) g.frames);
      }

  module _ (wide : (sizes : List ℕ) → has_load m sizes ≡ true → permits sizes ≡ true) where
    -- what the input shows as far as there is room, the bounded run shows
    safe_front : Begins (cut (has_load m) (λ k. nat_lt k captures) 0 (trace m s n)) (cut (has_load m) (λ k. nat_lt k captures) 0 (input_trace permits m s n))
    safe_front =
        subst (λ l. Begins l (cut (has_load m) (λ k. nat_lt k captures) 0 (input_trace permits m s n))) (cut-twice (has_load m) permits wide (λ k. nat_lt k captures) 0 (trace m s n))
        (cut_begins (has_load m) (λ k. nat_lt k captures) (cut permits (λ k. true) 0 (trace m s n)) (input_trace permits m s n) (trace_cut permits (λ k. true) m s n))

    reaches : Reaches P h m o captures s n g.turns
    reaches =
        subst (λ l. Begins l (apply (P.event h s) (safe (has_load o) captures (trace o (P.script h s) g.turns)))) (sym (kept-all P.removes_captures (safe (has_load m) captures (trace m s n)) keeps))
        (begins_trans (safe (has_load m) captures (trace m s n)) (safe (has_load m) captures (input_trace permits m s n)) (apply (P.event h s) (safe (has_load o) captures (trace o (P.script h s) g.turns)))
        (view_begins (cut (has_load m) (λ k. nat_lt k captures) 0 (trace m s n)) (cut (has_load m) (λ k. nat_lt k captures) 0 (input_trace permits m s n)) safe_front)
        (subst (λ l. Begins (safe (has_load m) captures l) (apply (P.event h s) (safe (has_load o) captures (trace o (P.script h s) g.turns)))) (sym g.input)
        (subst (λ l. Begins (safe (has_load m) captures (map (inner (P.event h s)) g.twins)) (apply (P.event h s) (safe (has_load o) captures l))) (sym g.output)
        (cut_outer (P.event h s) (P.test h s) (has_load m) (has_load o) (λ k. nat_lt k captures) 0 g.twins images_clean g.fit))))

pub simulated_law : (P : Plan) (m o : Module) (captures : ℕ) → Simulated P m o → Law P m o captures
simulated_law P m o captures h = record {
  left = h.left;
  host = h.host;
  stage = h.stage;
  fits = h.fits;
  passes = λ s fit n. passes P (host_types m) m o captures h.keeps h.permits s n (h.by s fit n);
  explained = λ s fit n. explained P (host_types m) m o captures h.keeps h.permits s n (h.by s fit n);
  reached = λ s fit n. record { turns = (h.by s fit n).turns; reaches = reaches P (host_types m) m o captures h.keeps h.permits s n (h.by s fit n) h.wide };
  direct = h.direct;
  reached_directly = λ d s fit n. subst (Reaches P (host_types m) m o captures s n) ((h.by s fit n).direct d) (reaches P (host_types m) m o captures h.keeps h.permits s n (h.by s fit n) h.wide);
}
