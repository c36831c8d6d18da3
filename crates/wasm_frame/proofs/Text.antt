-- The two faces of a name agree.
use Rattle.std.proofs.Common.{◌≡◌, ℕ, List, ◌++◌, length, Bool, true, false, cond, Option, Some, None, refl, sym, ap, subst, ◌∙◌}
use Rattle.std.specs.Prelude.{IsUtf8, IsSome, ◌↔◌}
use Rattle.std.specs.Str.{is_utf8}
use Rattle.std.proofs.lemmas.Option.{option_and_then_some, cond_some}
use Rattle.std.proofs.lemmas.Str.{IsUtf8-from_is_utf8, is_utf8-from_IsUtf8}
use Rattle.grammar_kit.specs.Form.{raw}
use Rattle.grammar_kit.specs.Exact.{Exact}
use Rattle.grammar_kit.specs.Gives.{GivesOption}
use Rattle.grammar_kit.proofs.Combinators.{exact_raw, exact_rules}
use Rattle.grammar_kit.proofs.Consequences.{none_spells}
use Rattle.wasm_frame.specs.Name.{utf8, byte_vector, name, IsCustom}
use Rattle.wasm_frame.proofs.Spelling.{exact_u32}

-- a part of the bytes and the rest, where the part passes the test
part_sound : (n : ℕ) (b text rest : List ℕ) (p : List ℕ × List ℕ) → (raw n).read b ≡ Some p → cond (is_utf8 p.0) (Some p) None ≡ Some (text, rest)
    → (t : List ℕ) × (b ≡ t ++ rest) × (utf8 n).text t text
part_sound n b text rest p h k =
    let g = cond_some (is_utf8 p.0) p (text, rest) k in
    let s = (exact_raw n).sound b p.0 p.1 h in
    let value : p.0 ≡ text = ap (λ (q : List ℕ × List ℕ). q.0) g.1 in
    let after : p.1 ≡ rest = ap (λ (q : List ℕ × List ℕ). q.1) g.1 in
    (s.0, s.1 ∙ ap (λ (r : List ℕ). s.0 ++ r) after, (s.2.0 ∙ value, ap length (sym value) ∙ s.2.1, subst IsUtf8 value (IsUtf8-from_is_utf8 p.0 g.0)))

pub exact_utf8 : (n : ℕ) → Exact (utf8 n)
exact_utf8 n = record {
  sound = λ b text rest e. option_and_then_some _ ((raw n).read b) (text, rest) e (part_sound n b text rest);
  complete = λ t text rest h. rw ((exact_raw n).complete t text rest (h.0, h.1), is_utf8-from_IsUtf8 text h.2) refl;
}

pub exact_byte_vector : Exact byte_vector
exact_byte_vector = search (exact_rules, exact_u32)

pub exact_name : Exact name
exact_name = search (exact_rules, exact_u32, exact_utf8)

pub ruleset exact_texts = (exact_utf8, exact_byte_vector, exact_name)

-- what is not valid does not pass the test
refused_utf8 : (bytes : List ℕ) (test : Bool) → is_utf8 bytes ≡ test → (IsUtf8 bytes → ⊥) → is_utf8 bytes ≡ false
refused_utf8 bytes true e h = absurd (h (IsUtf8-from_is_utf8 bytes e))
refused_utf8 bytes false e h = e

pub not_utf8 : (bytes : List ℕ) → (IsUtf8 bytes → ⊥) → is_utf8 bytes ≡ false
not_utf8 bytes h = refused_utf8 bytes (is_utf8 bytes) refl h

pub ruleset utf8_tests = (is_utf8-from_IsUtf8, not_utf8)

-- ---- custom sections

pub custom_read : {X : Type 0} (view : X → List ℕ × List ℕ) (payload : List ℕ) (read : Option X) → GivesOption view read (name.read payload) → IsSome read ↔ IsCustom payload
custom_read view payload (Some p) e = (λ some. let k = exact_name.sound payload (view p).0 (view p).1 e in (k.0, (view p).1, (view p).0, k.1, k.2), λ h. refl)
custom_read view payload None e = (λ some. absurd cc, λ h. absurd (none_spells name exact_name payload h.0 h.1 h.2 e h.3 h.4))
