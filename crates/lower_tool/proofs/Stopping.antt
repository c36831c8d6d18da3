-- Why a command stops, by what it read.
use Rattle.std.proofs.Common.{◌≡◌, ℕ, List, refl, inl, inr, arith}
use Rattle.std.specs.Prelude.{◌⊎◌, Option}
use Rattle.tool_files.specs.Held.{Contents}
use Rattle.lower_tool.specs.CommandVerdict.{IsFine, Refuses, IsRefusal}
use Rattle.lower_tool.specs.Inputs.{ToldInputs, WhereInputs, front}
use Rattle.lower_tool.specs.Stops.{IfRefused, IfNotFine, stop_of, status_of}
use Rattle.lower_tool.specs.Verdict.{text_of}
use Rattle.lower_tool.specs.Words.{Command}
use Rattle.lower_tool.specs.declared.tool.stop.Stop.{Stop}
use Rattle.lower_tool.specs.declared.tool.stop.Stop.TheVariants.{Refused, CannotRead, OutOfMemory}
use Rattle.lower_tool.specs.declared.verdict.NotFine.{NotFine}
use Rattle.lower_tool.specs.declared.verdict.NotFine.TheVariants as verdict
use Rattle.lower_tool.specs.declared.verdict.Refusal.{Refusal}
use Rattle.lower_tool.proofs.Inputs.{refuses_front, where_inputs, apart_inputs}
use Rattle.lower_tool.proofs.Refusals.{not_fine}

module _ (command : Command) (known : Option Contents) where
  abbrev pub WhereRefused : Refusal → Type 0
  WhereRefused refusal = WhereInputs known command (Refuses command refusal)

  -- reading refuses nothing
  pub reading_stop : (stop : Stop) → IfRefused stop (λ refusal. ⊥) → IfRefused stop WhereRefused
  reading_stop (Refused refusal) h = absurd h
  reading_stop CannotRead h = tt
  reading_stop OutOfMemory h = tt

  -- what was read is what is refused
  pub inputs_stop : (module_bytes text : List ℕ) (e : NotFine) → WhereInputs known command (λ b t. (module_bytes ≡ front b) × (text ≡ front t)) → IfNotFine e (λ refusal. Refuses command refusal module_bytes text) → IfRefused (stop_of e) WhereRefused
  inputs_stop module_bytes text (verdict.Refused refusal) whole h =
      where_inputs known command (λ b t. (module_bytes ≡ front b) × (text ≡ front t)) (Refuses command refusal)
      (λ b t same. refuses_front command refusal b t (rw (same.0, same.1) at h)) whole
  inputs_stop module_bytes text (verdict.Memory e) whole h = tt

  -- a command that stops with status 1 stops for a refusal
  pub refused_stop : (stop : Stop) (status : ℕ) → IfRefused stop WhereRefused → (status ≡ status_of stop) ⊎ (status ≡ 5) → status ≡ 1 → (refusal : Refusal) × (stop ≡ Refused refusal) × WhereRefused refusal
  refused_stop stop status h (inr memory) is = absurd (omega (arith, memory, is))
  refused_stop (Refused refusal) status h (inl same) is = (refusal, refl, h)
  refused_stop CannotRead status h (inl same) is = absurd (omega (arith, same, is))
  refused_stop OutOfMemory status h (inl same) is = absurd (omega (arith, same, is))

  -- where the inputs are refused, the text is that of the refusal
  pub told_text : (refusal : Refusal) → WhereRefused refusal → WhereInputs known command (λ b t. IsRefusal command b t (text_of refusal))
  told_text refusal h =
      where_inputs known command (Refuses command refusal) (λ b t. IsRefusal command b t (text_of refusal)) (λ b t refused. (refusal, refused, refl)) h

  told_not_fine : (refusal : Refusal) → WhereRefused refusal → ToldInputs known command (IsFine command) → ⊥
  told_not_fine refusal h fine = apart_inputs known command (Refuses command refusal) (IsFine command) (λ b t refused is. not_fine command refusal b t refused is) h fine

  -- a command on fine inputs stops for a fault of reading or for want of memory
  pub fine_stops : (stop : Stop) (status : ℕ) → IfRefused stop WhereRefused → (stop ≡ CannotRead → ⊥) → (status ≡ status_of stop) ⊎ (status ≡ 5) → ToldInputs known command (IsFine command) → (status ≡ 0) ⊎ (status ≡ 5)
  fine_stops stop status h calm (inr memory) fine = inr memory
  fine_stops (Refused refusal) status h calm (inl same) fine = absurd (told_not_fine refusal h fine)
  fine_stops CannotRead status h calm (inl same) fine = absurd (calm refl)
  fine_stops OutOfMemory status h calm (inl same) fine = inr same
