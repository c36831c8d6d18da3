use Rattle.std.proofs.Common.{◌≡◌, ℕ, List, Option, Some, None, refl, sym, ap}
use Rattle.std.specs.Prelude.{option_map}
use Rattle.std.proofs.lemmas.Option.{same_Some}
use Rattle.grammar_kit.specs.Form.{Form, vector}
use Rattle.grammar_kit.specs.Sequences.{whole}
use Rattle.wasm_frame.specs.Leb128.{u32}
use Rattle.wasm_frame.specs.Payloads.{counted}
use Rattle.module_reading.specs.Sizes.{AreSizesOf}
use Rattle.module_reading.proofs.sizes.vector_sizes.Goals as goal

sizes_of : {X : Type 0} (f : Form (List X)) (size : X → ℕ) (payload : List ℕ) (o : Option (List X)) (count most sum : ℕ) → whole (f.read payload) ≡ o → option_map (counted size) o ≡ Some (count, most, sum)
    → AreSizesOf f size payload (record { count = count; greatest = most; total = sum; second = 0 })
sizes_of f size payload None count most sum read e = absurd cc
sizes_of f size payload (Some xs) count most sum read e =
    let same = same_Some (counted size xs) (count, most, sum) e in
    record {
      entries = xs;
      read = read;
      count_is = sym (ap (λ (p : ℕ × ℕ × ℕ). p.0) same);
      greatest_is = sym (ap (λ (p : ℕ × ℕ × ℕ). p.1) same);
      total_is = sym (ap (λ (p : ℕ × ℕ × ℕ). p.2) same);
    }

pub returns-in-Ok : goal.returns-in-Ok
returns-in-Ok g c = sizes_of (vector u32 g.M.Measure.form) g.M.Measure.size c.args.payload.now (whole ((vector u32 g.M.Measure.form).read c.args.payload.now)) _ _ _ refl c.in-Ok.ensures
