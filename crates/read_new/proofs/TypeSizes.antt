-- Measuring function types, one after the other.
use Rattle.std.proofs.Common.{◌≡◌, ℕ, List, [], length, Option, Some, None, Result, Ok, Err, refl, sym, ap}
use Rattle.std.specs.Prelude.{IfOk, MatchOption}
use Rattle.std.proofs.lemmas.Option.{some_pair_parts}
use Rattle.wasm_ast.specs.declared.module.ty.FuncType.{FuncType}
use Rattle.grammar_kit.specs.Form.{many}
use Rattle.grammar_kit.specs.Measures.{through}
use Rattle.wasm_frame.specs.Leb128.{u32}
use Rattle.wasm_frame.specs.Payloads.{IsRead, IsSpelled}
use Rattle.wasm_frame.proofs.Contents.{many_length, read_of_spelled, spelled_of_read}
use Rattle.module_reading.specs.declared.sizes.Sizes.{Sizes}
use Rattle.read_new.specs.Parts.{type_section}
use Rattle.read_new.specs.Sizes.{AreTypeSizes}
use Rattle.read_new.specs.Types.{func_type, counts, most_counts}
use Rattle.read_new.proofs.Forms.{exact_type_section}

-- the function type whose parameters and results were counted
pub one_type : (o : Option (FuncType × List ℕ)) (p r : ℕ) (after : List ℕ) → through counts o ≡ Some ((p, r), after) → (t : FuncType) × (o ≡ Some (t, after)) × (length t.params ≡ p) × (length t.results ≡ r)
one_type None p r after e = absurd cc
one_type (Some q) p r after e =
    let parts = some_pair_parts (counts q.0) (p, r) q.1 after e in
    (q.0, ap (λ (rest : List ℕ). Some (q.0, rest)) parts.1, ap (λ (n : ℕ × ℕ). n.0) parts.0, ap (λ (n : ℕ × ℕ). n.1) parts.0)

-- types that fill the bytes behind their count
pub sizes_of_types : (payload : List ℕ) (count : ℕ) (rest : List ℕ) (p r : ℕ) (after : List ℕ) → u32.read payload ≡ Some (count, rest) → through most_counts ((many func_type count).read rest) ≡ Some ((p, r), after)
    → after ≡ [] → AreTypeSizes payload (record { count = count; greatest = p; total = 0; second = r })
sizes_of_types payload count rest p r after first most none = step ((many func_type count).read rest) refl most
  where
    step : (o : Option (List FuncType × List ℕ)) → (many func_type count).read rest ≡ o → through most_counts o ≡ Some ((p, r), after) → AreTypeSizes payload (record { count = count; greatest = p; total = 0; second = r })
    step None same e = absurd cc
    step (Some (types, behind)) same e =
        let parts = some_pair_parts (most_counts types) (p, r) behind after e in
        record {
          types = types;
          read = rw (first, same, parts.1, none) refl;
          count = sym (many_length func_type count rest types behind same);
          parameters = sym (ap (λ (n : ℕ × ℕ). n.0) parts.0);
          results = sym (ap (λ (n : ℕ × ℕ). n.1) parts.0);
        }

-- a payload that is read and measured is one that is spelled
pub types_sized : {E : Type 0} (payload : List ℕ) (r : Result (Option Sizes) E) → IfOk r (λ o. MatchOption o (¬ (IsRead type_section payload)) (AreTypeSizes payload))
    → IfOk r (λ o. MatchOption o (¬ (IsSpelled type_section payload)) (λ s. IsSpelled type_section payload × AreTypeSizes payload s))
types_sized payload (Ok None) h = λ s. h (read_of_spelled type_section exact_type_section payload s)
types_sized payload (Ok (Some s)) h = (spelled_of_read type_section exact_type_section payload (h.types, h.read), h)
types_sized payload (Err e) h = tt
