-- What is read of a file, at most one byte past the limit, stands for the whole file.
use Rattle.std.proofs.Common.{◌≡◌, ℕ, ◌<◌, ◌≤◌, ◌+◌, List, [], length, sym, subst, inl, inr, arith}
use Rattle.std.proofs.lemmas.Bool.{cases_lt}
use Rattle.std.proofs.lemmas.List.{length-take, take_all}
use Rattle.std.specs.Prelude.{◌⊎◌, Option, Some, None, IsSomeAnd}
use Rattle.host_kit.specs.Fits.{ScriptFits}
use Rattle.host_kit.specs.Fits1.{ScriptFits1}
use Rattle.host_kit.specs.Trace.{Mark, events}
use Rattle.host_kit.specs.declared.script.Script.{Script}
use Rattle.host_kit.specs.declared.script_text.TextFault.{TextFault}
use Rattle.host_kit.specs.declared.script_text.TextFault.TheVariants as faults
use Rattle.meaning_core1.specs.Runs.{trace1}
use Rattle.meaning_new.specs.Runs.{trace}
use Rattle.module_reading.specs.Limits.{file_limit}
use Rattle.module_reading.specs.Reads.{Reads}
use Rattle.core1_bytes.specs.Spells.{one}
use Rattle.read_new.specs.Spells.{three}
use Rattle.tool_files.specs.Held.{Contents, Told, WhereTold}
use Rattle.tool_files.proofs.HeldLemmas.{where_told}
use Rattle.wasm_frame.specs.declared.sections.Version.{Version}
use Rattle.wasm_frame.specs.declared.sections.Version.TheVariants.{One, Three}
use Rattle.lower_tool.specs.CommandVerdict.{Refuses}
use Rattle.lower_tool.specs.Inputs.{ToldScript, WhereScript, ToldInputs, WhereInputs, front}
use Rattle.lower_tool.specs.Lowering.{Lowers}
use Rattle.lower_tool.specs.Products.{IfFile, IfPrinted, Makes}
use Rattle.lower_tool.specs.Runs.{IsScriptWhere, RunsUnder, Runs, RefusesText, RefusesUnder, run_text}
use Rattle.lower_tool.specs.Verdict.{IsFineToLower, IsValid, IsValid1, IsValid3, RefusesModule1, RefusesModule3}
use Rattle.lower_tool.specs.Words.{Command, lower, check, run, input_of, script_of, captures_of}
use Rattle.lower_tool.specs.declared.tool.product.Product.{Product}
use Rattle.lower_tool.specs.declared.tool.product.Product.TheVariants as products
use Rattle.lower_tool.specs.declared.verdict.Refusal.{Refusal}
use Rattle.lower_tool.specs.declared.verdict.Refusal.TheVariants.{TooLarge, Unreadable, Floats, Outside, Part, Body, Script as ScriptFault, DoesNotFit}
use Rattle.lower_tool.proofs.Judging.{refused_map, reads_map}
use Rattle.lower_tool.proofs.Refusals.{large_file, only_large}

-- ---- the front of a file

pub front_whole : (b : List ℕ) → length b ≤ file_limit → front b ≡ b
front_whole b within = take_all (file_limit + 1) b (omega (arith, within))

front_large : (b : List ℕ) → file_limit < length b → file_limit < length (front b)
front_large b large = omega (arith, large, length-take (file_limit + 1) b)

front_within : (b : List ℕ) → length (front b) ≤ file_limit → (file_limit < length b) ⊎ (length b ≤ file_limit) → front b ≡ b
front_within b within (inl large) = let no : ⊥ = omega (arith, within, front_large b large) in absurd no
front_within b within (inr small) = front_whole b small

pub whole_of : (b : List ℕ) → length (front b) ≤ file_limit → front b ≡ b
whole_of b within = front_within b within (cases_lt file_limit (length b))

-- ---- the text of a script

module _ (t : List ℕ) where
  large_text : (fault : TextFault) → file_limit < length t → RefusesText (front t) fault → RefusesText t fault
  large_text faults.TooLarge large h = large
  large_text faults.NotJson large h = let no : ⊥ = omega (arith, h.0, front_large t large) in absurd no
  large_text (faults.Shape path) large h = let no : ⊥ = omega (arith, h.small, front_large t large) in absurd no
  large_text (faults.Memory e) large h = h

  text_cases : (fault : TextFault) → (file_limit < length t) ⊎ (length t ≤ file_limit) → RefusesText (front t) fault → RefusesText t fault
  text_cases fault (inl large) h = large_text fault large h
  text_cases fault (inr small) h = subst (λ (x : List ℕ). RefusesText x fault) (front_whole t small) h

  script_where : (P : Script → Type 0) → IsScriptWhere P (front t) → IsScriptWhere P t
  script_where P h = subst (IsScriptWhere P) (whole_of t h.1.small) h

  module _ {M : Type 0} (Is : M → Type 0) (Refuses : Refusal → M → Type 0) (Fits : M → Script → Type 0) where
    refuses_text : (r : Refusal) (m : M) → RefusesUnder Is Refuses Fits (front t) r m → RefusesUnder Is Refuses Fits t r m
    refuses_text TooLarge m h = h
    refuses_text (Unreadable f) m h = h
    refuses_text Floats m h = h
    refuses_text (Outside e) m h = h
    refuses_text (Part section place) m h = h
    refuses_text (Body place) m h = h
    refuses_text (ScriptFault f) m h = (h.0, text_cases f (cases_lt file_limit (length t)) h.1)
    refuses_text DoesNotFit m h = (h.0, script_where (λ s. ¬ Fits m s) h.1)

    runs_text : (trace_of : M → Script → ℕ → List Mark) (P : (ℕ → List Mark) → Type 0) (m : M) → RunsUnder Is Fits trace_of (front t) P m → RunsUnder Is Fits trace_of t P m
    runs_text trace_of P m h = (h.0, script_where (λ s. Fits m s × P (trace_of m s)) h.1)

  refuses_script : (command : Command) (r : Refusal) (b : List ℕ) → Refuses command r b (front t) → Refuses command r b t
  refuses_script (lower input output room) r b h = h
  refuses_script (check v input) r b h = h
  refuses_script (run One input script turns) r b h =
      refused_map (Reads one) (RefusesUnder IsValid1 RefusesModule1 ScriptFits1 (front t)) (RefusesUnder IsValid1 RefusesModule1 ScriptFits1 t) (refuses_text IsValid1 RefusesModule1 ScriptFits1) r b h
  refuses_script (run Three input script turns) r b h =
      refused_map (Reads three) (RefusesUnder IsValid3 RefusesModule3 ScriptFits (front t)) (RefusesUnder IsValid3 RefusesModule3 ScriptFits t) (refuses_text IsValid3 RefusesModule3 ScriptFits) r b h

  runs_script : (v : Version) (b : List ℕ) (P : (ℕ → List Mark) → Type 0) → Runs v b (front t) P → Runs v b t P
  runs_script One b P h = reads_map (Reads one) (RunsUnder IsValid1 ScriptFits1 trace1 (front t) P) (RunsUnder IsValid1 ScriptFits1 trace1 t P) (runs_text IsValid1 RefusesModule1 ScriptFits1 trace1 P) b h
  runs_script Three b P h = reads_map (Reads three) (RunsUnder IsValid3 ScriptFits trace (front t) P) (RunsUnder IsValid3 ScriptFits trace t P) (runs_text IsValid3 RefusesModule3 ScriptFits trace P) b h

-- ---- what a command reads

refuses_cases : (command : Command) (r : Refusal) (b t : List ℕ) → (file_limit < length b) ⊎ (length b ≤ file_limit) → Refuses command r (front b) t → Refuses command r b t
refuses_cases command r b t (inl large) h =
    subst (λ (s : Refusal). Refuses command s b t) (sym (only_large command r (front b) t (front_large b large) h)) (large_file command b t large)
refuses_cases command r b t (inr small) h = subst (λ (x : List ℕ). Refuses command r x t) (front_whole b small) h

pub refuses_front : (command : Command) (r : Refusal) (b t : List ℕ) → Refuses command r (front b) (front t) → Refuses command r b t
refuses_front command r b t h = refuses_cases command r b t (cases_lt file_limit (length b)) (refuses_script t command r (front b) h)

runs_within : (v : Version) (b t : List ℕ) (P : (ℕ → List Mark) → Type 0) → Runs v b t P → length b ≤ file_limit
runs_within One b t P h = h.0
runs_within Three b t P h = h.0

runs_front : (v : Version) (b t : List ℕ) (P : (ℕ → List Mark) → Type 0) → Runs v (front b) (front t) P → Runs v b t P
runs_front v b t P h = subst (λ (x : List ℕ). Runs v x t P) (whole_of b (runs_within v (front b) (front t) P h)) (runs_script t v (front b) P h)

valid_within : (v : Version) (b : List ℕ) → IsValid v b → length b ≤ file_limit
valid_within One b h = h.0
valid_within Three b h = h.0

pub printed_map : (product : Product) (P Q : List ℕ → Type 0) → ((text : List ℕ) → P text → Q text) → IfPrinted product P → IfPrinted product Q
printed_map (products.File name written) P Q f h = tt
printed_map products.Fine P Q f h = f _ h
printed_map (products.Run shown) P Q f h = f _ h

pub makes_front : (command : Command) (b t : List ℕ) (product : Product) → Makes command (front b) (front t) product → Makes command b t product
makes_front (lower input output room) b t product h =
    subst (λ (x : List ℕ). IsFineToLower x × IfFile product (λ name written. Lowers (captures_of room) x written)) (whole_of b h.0.0) h
makes_front (check v input) b t product h = subst (IsValid v) (whole_of b (valid_within v (front b) h)) h
makes_front (run v input script turns) b t product h =
    printed_map product (λ printed. Runs v (front b) (front t) (λ marks. printed ≡ run_text (events (marks turns)))) (λ printed. Runs v b t (λ marks. printed ≡ run_text (events (marks turns))))
    (λ printed runs. runs_front v b t (λ marks. printed ≡ run_text (events (marks turns))) runs) h

-- ---- what holds of the files that a command reads

where_script : (known : Option Contents) (script : Option (List ℕ)) (P Q : List ℕ → Type 0) → ((text : List ℕ) → P text → Q text) → WhereScript known script P → WhereScript known script Q
where_script known None P Q f h = f [] h
where_script known (Some name) P Q f h = where_told known name P Q f h

-- from what else holds of them
pub where_inputs : (known : Option Contents) (command : Command) (P Q : List ℕ → List ℕ → Type 0) → ((b t : List ℕ) → P b t → Q b t) → WhereInputs known command P → WhereInputs known command Q
where_inputs known command P Q f h =
    where_told known (input_of command) (λ b. WhereScript known (script_of command) (P b)) (λ b. WhereScript known (script_of command) (Q b))
    (λ b. where_script known (script_of command) (P b) (Q b) (f b)) h

apart_some : (file : Option (List ℕ)) (P Q : List ℕ → Type 0) → ((b : List ℕ) → P b → Q b → ⊥) → IsSomeAnd file P → IsSomeAnd file Q → ⊥
apart_some None P Q f h k = h
apart_some (Some b) P Q f h k = f b h k

apart_told : (known : Option Contents) (name : List ℕ) (P Q : List ℕ → Type 0) → ((b : List ℕ) → P b → Q b → ⊥) → WhereTold known name P → Told known name Q → ⊥
apart_told None name P Q f h k = k
apart_told (Some held) name P Q f h k = apart_some (held name) P Q f h k

apart_script : (known : Option Contents) (script : Option (List ℕ)) (P Q : List ℕ → Type 0) → ((t : List ℕ) → P t → Q t → ⊥) → WhereScript known script P → ToldScript known script Q → ⊥
apart_script known None P Q f h k = f [] h k
apart_script known (Some name) P Q f h k = apart_told known name P Q f h k

-- what does not hold together
pub apart_inputs : (known : Option Contents) (command : Command) (P Q : List ℕ → List ℕ → Type 0) → ((b t : List ℕ) → P b t → Q b t → ⊥) → WhereInputs known command P → ToldInputs known command Q → ⊥
apart_inputs known command P Q f h k =
    apart_told known (input_of command) (λ b. WhereScript known (script_of command) (P b)) (λ b. ToldScript known (script_of command) (Q b))
    (λ b. apart_script known (script_of command) (P b) (Q b) (f b)) h k
