-- Of any table of rows, each a code and a value: when a code has none, and when a value has one code.
use Rattle.std.proofs.Common.{◌≡◌, ℕ, ◌-◌, ◌<◌, ◌≤◌, ◌⊎◌, List, [], ◌∷◌, map, get_or, Bool, ◌&&◌, true, Option, Some, None, refl, sym, ap, ◌∙◌, nat_eq, nat_le, inl, inr, arith}
use Rattle.std.specs.Map.{lookup}
use Rattle.std.specs.List.{list_all, range_with_len}
use Rattle.std.proofs.lemmas.Bool.{leb-true, eqb-true, and_parts}
use Rattle.std.proofs.lemmas.Bool.Decides.{eqb_tells}
use Rattle.std.proofs.lemmas.Option.{same_Some}
use Rattle.std.proofs.lemmas.List.FromFn.{get_or-map-range_with_len}

module _ {X : Type 0} where
  -- each row has a code from low to high
  abbrev pub within : ℕ → ℕ → List (ℕ × X) → Bool
  within low high rows = list_all (λ r. nat_le low r.0 && nat_le r.0 high) rows

  -- so a code with a row is from low to high
  pub row_within : (low high : ℕ) (rows : List (ℕ × X)) (k : ℕ) (x : X) → within low high rows ≡ true → lookup (λ n. nat_eq n k) rows ≡ Some x → (low ≤ k) × (k ≤ high)
  row_within low high [] k x all e = absurd cc
  row_within low high (r ∷ rows) k x all e =
      let parts = and_parts (nat_le low r.0 && nat_le r.0 high) (within low high rows) all in
      let ends = and_parts (nat_le low r.0) (nat_le r.0 high) parts.0 in
      let above : low ≤ r.0 = leb-true _ _ ends.0 in
      let below : r.0 ≤ high = leb-true _ _ ends.1 in
      elim (eqb_tells r.0 k) [
        | inl same ↦ (omega (arith, same.1), omega (arith, same.1))
        | inr other ↦ row_within low high rows k x parts.1 (rw other.0 at e)
      ]

  -- and no other code has one
  pub none_outside : (low high : ℕ) (rows : List (ℕ × X)) (k : ℕ) → within low high rows ≡ true → (k < low) ⊎ ((low ≤ k) × (high < k)) → lookup (λ n. nat_eq n k) rows ≡ None
  none_outside low high [] k all out = refl
  none_outside low high (r ∷ rows) k all out =
      let parts = and_parts (nat_le low r.0 && nat_le r.0 high) (within low high rows) all in
      let ends = and_parts (nat_le low r.0) (nat_le r.0 high) parts.0 in
      let above : low ≤ r.0 = leb-true _ _ ends.0 in
      let below : r.0 ≤ high = leb-true _ _ ends.1 in
      elim (eqb_tells r.0 k) [
        | inl same ↦ absurd (omega (arith, same.1))
        | inr other ↦ rw other.0 (none_outside low high rows k parts.1 out)
      ]

  -- each row has the code that a function gives of its value
  abbrev pub coded : (X → ℕ) → List (ℕ × X) → Bool
  coded code rows = list_all (λ r. nat_eq (code r.1) r.0) rows

  -- so no other code has a row with this value
  pub code_alone : (code : X → ℕ) (rows : List (ℕ × X)) (k : ℕ) (x : X) → coded code rows ≡ true → lookup (λ n. nat_eq n k) rows ≡ Some x → k ≡ code x
  code_alone code [] k x all e = absurd cc
  code_alone code (r ∷ rows) k x all e =
      let parts = and_parts (nat_eq (code r.1) r.0) (coded code rows) all in
      elim (eqb_tells r.0 k) [
        | inl same ↦ let here : r.1 ≡ x = same_Some _ _ (rw same.0 at e) in sym (ap code (sym here) ∙ eqb-true _ _ parts.0 ∙ same.1)
        | inr other ↦ code_alone code rows k x parts.1 (rw other.0 at e)
      ]

  -- a table of what f gives from a code on has it at each code
  pub table_at : (f : ℕ → Option X) (low n : ℕ) (table : List (Option X)) → map f (range_with_len low n) ≡ table → (k : ℕ) (d : Option X) → low ≤ k → k - low < n → get_or table (k - low) d ≡ f k
  table_at f low n table e k d above below =
      ap (λ (xs : List (Option X)). get_or xs (k - low) d) (sym e) ∙ get_or-map-range_with_len f low n (k - low) k d below (omega arith)
