-- The text of a script has one answer, and a module with its script has one verdict and one run.
use Rattle.std.proofs.Common.{◌≡◌, ℕ, ◌<◌, List, length, refl, sym, ap, ◌∙◌, subst, inl, inr, arith}
use Rattle.std.specs.Prelude.{◌⊎◌, Option, Some, None, Result, Ok, Err}
use Rattle.serde_json.specs.Data.{Data}
use Rattle.host_kit.specs.ScriptForms.{script_form}
use Rattle.host_kit.specs.ScriptTexts.{Reads, TextTells, most_bytes}
use Rattle.host_kit.specs.Trace.{Mark}
use Rattle.host_kit.specs.declared.script.Script.{Script}
use Rattle.host_kit.specs.declared.script_text.TextFault.{TextFault}
use Rattle.host_kit.specs.declared.script_text.TextFault.TheVariants as faults
use Rattle.lower_tool.specs.Runs.{RunsUnder, RefusesText, RefusesUnder}
use Rattle.lower_tool.specs.Stops.{IfNotFine, of_script}
use Rattle.lower_tool.specs.declared.verdict.NotFine.{NotFine}
use Rattle.lower_tool.specs.declared.verdict.NotFine.TheVariants as verdict
use Rattle.lower_tool.specs.declared.verdict.Refusal.{Refusal}
use Rattle.lower_tool.specs.declared.verdict.Refusal.TheVariants.{TooLarge, Unreadable, Floats, Outside, Part, Body, Script as ScriptFault, DoesNotFit}

module _ (text : List ℕ) where
  one_reading : (a b : Result Script (List ℕ)) → Reads text a → Reads text b → a ≡ b
  one_reading a b h k =
      let both : ◌≡◌ {A = Option Data} (Some h.tree) (Some k.tree) = sym h.json ∙ k.json in
      let same : h.tree ≡ k.tree = cc both in
      sym h.form ∙ (ap script_form same ∙ k.form)

  -- what an answer says of the text; want of memory says nothing
  abbrev pub Answers : Result Script TextFault → Type 0
  Answers (Ok s) = Reads text (Ok s)
  Answers (Err fault) = RefusesText text fault

  reads_and_not : (a : Result Script (List ℕ)) → Reads text a → RefusesText text faults.NotJson → ⊥
  reads_and_not a h k = let both : ◌≡◌ {A = Option Data} (Some h.tree) None = sym h.json ∙ k.1 h.utf8 in absurd cc

  reads_and_large : (a : Result Script (List ℕ)) → Reads text a → most_bytes < length text → ⊥
  reads_and_large a h large = omega (arith, h.small, large)

  one_script : (s : Script) (b : Result Script TextFault) → Reads text (Ok s) → Answers b → Ok s ≡ b
  one_script s (Ok t) h k = let both : ◌≡◌ {A = Result Script (List ℕ)} (Ok s) (Ok t) = one_reading (Ok s) (Ok t) h k in let same : s ≡ t = cc both in subst (λ (u : Script). ◌≡◌ {A = Result Script TextFault} (Ok s) (Ok u)) same refl
  one_script s (Err faults.TooLarge) h k = absurd (reads_and_large (Ok s) h k)
  one_script s (Err faults.NotJson) h k = absurd (reads_and_not (Ok s) h k)
  one_script s (Err (faults.Shape path)) h k = let both : ◌≡◌ {A = Result Script (List ℕ)} (Ok s) (Err path) = one_reading (Ok s) (Err path) h k in absurd cc
  one_script s (Err (faults.Memory e)) h k = absurd k

  one_path : (path : List ℕ) (b : Result Script TextFault) → Reads text (Err path) → Answers b → Err (faults.Shape path) ≡ b
  one_path path (Ok t) h k = let both : ◌≡◌ {A = Result Script (List ℕ)} (Err path) (Ok t) = one_reading (Err path) (Ok t) h k in absurd cc
  one_path path (Err faults.TooLarge) h k = absurd (reads_and_large (Err path) h k)
  one_path path (Err faults.NotJson) h k = absurd (reads_and_not (Err path) h k)
  one_path path (Err (faults.Shape other)) h k = let both : ◌≡◌ {A = Result Script (List ℕ)} (Err path) (Err other) = one_reading (Err path) (Err other) h k in let same : path ≡ other = cc both in subst (λ (p : List ℕ). ◌≡◌ {A = Result Script TextFault} (Err (faults.Shape path)) (Err (faults.Shape p))) same refl
  one_path path (Err (faults.Memory e)) h k = absurd k

  one_size : (b : Result Script TextFault) → most_bytes < length text → Answers b → Err faults.TooLarge ≡ b
  one_size (Ok t) h k = absurd (reads_and_large (Ok t) k h)
  one_size (Err faults.TooLarge) h k = refl
  one_size (Err faults.NotJson) h k = absurd (omega (arith, h, k.0))
  one_size (Err (faults.Shape path)) h k = absurd (reads_and_large (Err path) k h)
  one_size (Err (faults.Memory e)) h k = absurd k

  one_json : (b : Result Script TextFault) → RefusesText text faults.NotJson → Answers b → Err faults.NotJson ≡ b
  one_json (Ok t) h k = absurd (reads_and_not (Ok t) k h)
  one_json (Err faults.TooLarge) h k = absurd (omega (arith, h.0, k))
  one_json (Err faults.NotJson) h k = refl
  one_json (Err (faults.Shape path)) h k = absurd (reads_and_not (Err path) k h)
  one_json (Err (faults.Memory e)) h k = absurd k

  -- why a text is none of a script, as a fault of a command
  pub text_refusal : (fault : TextFault) → TextTells text (Err fault) → IfNotFine (of_script fault) (λ r. (why : TextFault) × (r ≡ ScriptFault why) × RefusesText text why)
  text_refusal faults.TooLarge h = (faults.TooLarge, refl, h)
  text_refusal faults.NotJson h = (faults.NotJson, refl, h)
  text_refusal (faults.Shape path) h = (faults.Shape path, refl, h)
  text_refusal (faults.Memory e) h = tt

  pub one_answer : (a b : Result Script TextFault) → Answers a → Answers b → a ≡ b
  one_answer (Ok s) b h k = one_script s b h k
  one_answer (Err faults.TooLarge) b h k = one_size b h k
  one_answer (Err faults.NotJson) b h k = one_json b h k
  one_answer (Err (faults.Shape path)) b h k = one_path path b h k
  one_answer (Err (faults.Memory e)) b h k = absurd h

module _ {M : Type 0} (Is : M → Type 0) (Refuses : Refusal → M → Type 0) (Fits : M → Script → Type 0) (text : List ℕ) where
  -- the step that refuses the module, or the answer by which its script is refused
  abbrev RefusedFor : M → Refusal → Result Script TextFault → Type 0
  RefusedFor m r (Ok s) = (r ≡ DoesNotFit) × (¬ Fits m s)
  RefusedFor m r (Err fault) = r ≡ ScriptFault fault

  abbrev Step : Refusal → M → Type 0
  Step r m = Refuses r m ⊎ (Is m × ((a : Result Script TextFault) × Answers text a × RefusedFor m r a))

  step_of : (r : Refusal) (m : M) → RefusesUnder Is Refuses Fits text r m → Step r m
  step_of TooLarge m h = inl h
  step_of (Unreadable f) m h = inl h
  step_of Floats m h = inl h
  step_of (Outside e) m h = inl h
  step_of (Part section place) m h = inl h
  step_of (Body place) m h = inl h
  step_of (ScriptFault f) m h = inr (h.0, (Err f, h.1, refl))
  step_of DoesNotFit m h = inr (h.0, (Ok h.1.0, h.1.1, (refl, h.1.2)))

  same_for : (m : M) (r s : Refusal) (a : Result Script TextFault) → RefusedFor m r a → RefusedFor m s a → r ≡ s
  same_for m r s (Ok t) h k = h.0 ∙ sym k.0
  same_for m r s (Err f) h k = h ∙ sym k

  module _ (single : (r s : Refusal) (m : M) → Refuses r m → Refuses s m → r ≡ s) (apart : (r : Refusal) (m : M) → Refuses r m → Is m → ⊥) where
    single_step : (r s : Refusal) (m : M) → Step r m → Step s m → r ≡ s
    single_step r s m (inl h) (inl k) = single r s m h k
    single_step r s m (inl h) (inr k) = absurd (apart r m h k.0)
    single_step r s m (inr h) (inl k) = absurd (apart s m k h.0)
    single_step r s m (inr h) (inr k) = same_for m r s h.1.0 h.1.2 (subst (RefusedFor m s) (one_answer text k.1.0 h.1.0 k.1.1 h.1.1) k.1.2)

    pub single_under : (r s : Refusal) (m : M) → RefusesUnder Is Refuses Fits text r m → RefusesUnder Is Refuses Fits text s m → r ≡ s
    single_under r s m h k = single_step r s m (step_of r m h) (step_of s m k)

    module _ (trace_of : M → Script → ℕ → List Mark) (P : (ℕ → List Mark) → Type 0) where
      apart_step : (r : Refusal) (m : M) → Step r m → RunsUnder Is Fits trace_of text P m → ⊥
      apart_step r m (inl h) runs = apart r m h runs.0
      apart_step r m (inr h) runs =
          let fits = subst (RefusedFor m r) (one_answer text h.1.0 (Ok runs.1.0) h.1.1 runs.1.1) h.1.2 in
          fits.1 runs.1.2.0

      pub apart_under : (r : Refusal) (m : M) → RefusesUnder Is Refuses Fits text r m → RunsUnder Is Fits trace_of text P m → ⊥
      apart_under r m h runs = apart_step r m (step_of r m h) runs

  -- what refuses the module, and what refuses its script
  pub module_refusal : ((f : TextFault) (m : M) → Refuses (ScriptFault f) m → ⊥) → ((m : M) → Refuses DoesNotFit m → ⊥) → (e : NotFine) (m : M) → IfNotFine e (λ r. Refuses r m) → IfNotFine e (λ r. RefusesUnder Is Refuses Fits text r m)
  module_refusal none_text none_fit (verdict.Refused TooLarge) m h = h
  module_refusal none_text none_fit (verdict.Refused (Unreadable f)) m h = h
  module_refusal none_text none_fit (verdict.Refused Floats) m h = h
  module_refusal none_text none_fit (verdict.Refused (Outside e)) m h = h
  module_refusal none_text none_fit (verdict.Refused (Part section place)) m h = h
  module_refusal none_text none_fit (verdict.Refused (Body place)) m h = h
  module_refusal none_text none_fit (verdict.Refused (ScriptFault f)) m h = absurd (none_text f m h)
  module_refusal none_text none_fit (verdict.Refused DoesNotFit) m h = absurd (none_fit m h)
  module_refusal none_text none_fit (verdict.Memory e) m h = tt

  pub script_refusal : (e : NotFine) (m : M) → Is m → IfNotFine e (λ r. (why : TextFault) × (r ≡ ScriptFault why) × RefusesText text why) → IfNotFine e (λ r. RefusesUnder Is Refuses Fits text r m)
  script_refusal (verdict.Refused r) m is h = subst (λ (r : Refusal). RefusesUnder Is Refuses Fits text r m) (sym h.1) (is, h.2)
  script_refusal (verdict.Memory e) m is h = tt

  -- ---- one run

  pub both_under : (trace_of : M → Script → ℕ → List Mark) (P Q : (ℕ → List Mark) → Type 0) (m : M) → RunsUnder Is Fits trace_of text P m → RunsUnder Is Fits trace_of text Q m → RunsUnder Is Fits trace_of text (λ marks. P marks × Q marks) m
  both_under trace_of P Q m h k =
      let both : ◌≡◌ {A = Result Script (List ℕ)} (Ok k.1.0) (Ok h.1.0) = one_reading text (Ok k.1.0) (Ok h.1.0) k.1.1 h.1.1 in
      let same : k.1.0 ≡ h.1.0 = cc both in
      (h.0, (h.1.0, h.1.1, (h.1.2.0, (h.1.2.1, subst (λ (s : Script). Q (trace_of m s)) same k.1.2.1))))

  pub map_under : (trace_of : M → Script → ℕ → List Mark) (P Q : (ℕ → List Mark) → Type 0) → ((marks : ℕ → List Mark) → P marks → Q marks) → (m : M) → RunsUnder Is Fits trace_of text P m → RunsUnder Is Fits trace_of text Q m
  map_under trace_of P Q f m h = (h.0, (h.1.0, h.1.1, (h.1.2.0, f (trace_of m h.1.0) h.1.2.1)))
