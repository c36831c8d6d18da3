-- What the sizes of a section say of the entries that its payload is read as, for a version's proofs.
use Rattle.std.proofs.Common.{◌≡◌, ℕ, List, [], length, Option, Some, None, Result, Ok, Err, refl}
use Rattle.std.specs.Prelude.{option_map, sum_by, unwrap_or, IfOk, MatchOption}
use Rattle.grammar_kit.specs.Exact.{Exact}
use Rattle.grammar_kit.specs.Form.{Form}
use Rattle.grammar_kit.specs.Measures.{greatest}
use Rattle.wasm_frame.specs.Payloads.{value, optional, IsRead, IsSpelled}
use Rattle.wasm_frame.proofs.Contents.{read_of_spelled, spelled_of_read}
use Rattle.module_reading.specs.declared.sizes.Sizes.{Sizes}
use Rattle.module_reading.specs.Sizes.{AreSizesOf, IsNumber, Both, no_sizes}

module _ {X : Type 0} (f : Form (List X)) (size : X → ℕ) (payload : Option (List ℕ)) (found : Option Sizes) where
  -- the entries of a section, or none where there is no section
  pub record Told : Type 0 where
    pub count : (unwrap_or found no_sizes).count ≡ length (value f [] payload)
    pub most : (unwrap_or found no_sizes).greatest ≡ greatest size (value f [] payload)
    pub sum : (unwrap_or found no_sizes).total ≡ sum_by size (value f [] payload)

  pub told : Both (AreSizesOf f size) payload found → Told
  told both = record {
    count = by_cases (λ s xs. s.count ≡ length xs) refl (λ p s h. h.count_is) payload found both;
    most = by_cases (λ s xs. s.greatest ≡ greatest size xs) refl (λ p s h. h.greatest_is) payload found both;
    sum = by_cases (λ s xs. s.total ≡ sum_by size xs) refl (λ p s h. h.total_is) payload found both;
  }
    where
      by_cases : (P : Sizes → List X → Type 0) → P no_sizes [] → ((p : List ℕ) (s : Sizes) (h : AreSizesOf f size p s) → P s h.entries)
          → (o : Option (List ℕ)) (r : Option Sizes) → Both (AreSizesOf f size) o r → P (unwrap_or r no_sizes) (value f [] o)
      by_cases P none some None None k = none
      by_cases P none some (Some p) (Some s) k = rw k.read (some p s k)
      by_cases P none some (Some p) None k = absurd k
      by_cases P none some None (Some s) k = absurd k

-- a payload that is read and measured is one that is spelled
module _ {X : Type 0} (f : Form (List X)) (exact : Exact f) (size : X → ℕ) (payload : List ℕ) where
  pub sized : {E : Type 0} (r : Result (Option Sizes) E) → IfOk r (λ o. MatchOption o (¬ (IsRead f payload)) (AreSizesOf f size payload))
      → IfOk r (λ o. MatchOption o (¬ (IsSpelled f payload)) (λ s. IsSpelled f payload × AreSizesOf f size payload s))
  sized (Ok None) h = λ s. h (read_of_spelled f exact payload s)
  sized (Ok (Some s)) h = (spelled_of_read f exact payload (h.entries, h.read), h)
  sized (Err e) h = tt

pub number_sized : (exact : Exact optional) (payload : List ℕ) (o : Option Sizes) → MatchOption o (¬ (IsRead optional payload)) (IsNumber payload)
    → MatchOption o (¬ (IsSpelled optional payload)) (λ s. IsSpelled optional payload × IsNumber payload s)
number_sized exact payload None h = λ s. h (read_of_spelled optional exact payload s)
number_sized exact payload (Some s) h = (spelled_of_read optional exact payload (Some s.count, h), h)

-- the number of a section, if there is one
pub number_of : (payload : Option (List ℕ)) (found : Option Sizes) → Both IsNumber payload found → option_map (λ s. s.count) found ≡ value optional None payload
number_of None None k = refl
number_of (Some p) (Some s) k = rw k refl
number_of (Some p) None k = absurd k
number_of None (Some s) k = absurd k
