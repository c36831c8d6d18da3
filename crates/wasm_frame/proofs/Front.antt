-- A number at the front of some bytes, by the length of its spelling.
use Rattle.std.proofs.Common.{◌≡◌, ℕ, ◌-◌, ◌<◌, ◌≤◌, List, length, take, drop, Some, None, sym, ap, subst, ◌∙◌, arith}
use Rattle.std.proofs.lemmas.List.{take_at, take-append-drop, length-append}
use Rattle.grammar_kit.proofs.Consequences.{none_spells}
use Rattle.wasm_frame.specs.declared.leb128.Sign.{Sign}
use Rattle.wasm_frame.specs.Leb128.{Leb, read_leb, integer, IsAtFront}
use Rattle.wasm_frame.proofs.Spelling.{exact_integer}

pub rest_within : (sign : Sign) (w : ℕ) (bytes : List ℕ) (n : ℕ) (rest : List ℕ) → 0 < w → read_leb sign w bytes ≡ Some (n, rest) → length rest ≤ length bytes
rest_within sign w bytes n rest lt e =
    let s = (exact_integer sign w lt).sound bytes n rest e in
    omega (arith, length-append s.0 rest, ap length s.1)

pub read_at_front : (sign : Sign) (w : ℕ) (bytes : List ℕ) (n : ℕ) (rest : List ℕ) → 0 < w → read_leb sign w bytes ≡ Some (n, rest)
    → IsAtFront sign w bytes n (length bytes - length rest)
read_at_front sign w bytes n rest lt e =
    let s = (exact_integer sign w lt).sound bytes n rest e in
    let len : length s.0 ≡ length bytes - length rest = omega (arith, length-append s.0 rest, ap length s.1) in
    let front : take (length bytes - length rest) bytes ≡ s.0 = ap (take (length bytes - length rest)) s.1 ∙ take_at s.0 rest (length bytes - length rest) len in
    (omega arith, subst (λ (t : List ℕ). Leb sign w t n) (sym front) s.2)

pub none_at_front : (sign : Sign) (w : ℕ) (bytes : List ℕ) → 0 < w → read_leb sign w bytes ≡ None → (n len : ℕ) → IsAtFront sign w bytes n len → ⊥
none_at_front sign w bytes lt e n len h =
    none_spells (integer sign w) (exact_integer sign w lt) bytes (take len bytes) (drop len bytes) n e (sym (take-append-drop len bytes)) h.1
