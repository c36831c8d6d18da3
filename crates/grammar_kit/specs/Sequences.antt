-- One more way to make a form: one that fills a counted run of bytes.
use Rattle.std.specs.Prelude.{ℕ, List, [], ◌∷◌, Option, Some, None, option_and_then}
use Rattle.grammar_kit.specs.Form.{Form, raw, ◌>>=◌}

-- a value, if its bytes are all that there are
abbrev pub whole : {X : Type 0} → Option (X × List ℕ) → Option X
whole None = None
whole (Some (x, [])) = Some x
whole (Some (x, b ∷ rest)) = None

-- a count of bytes, and a form that fills them
abbrev pub sized : {X : Type 0} → Form ℕ → Form X → Form X
sized count f = record {
  text = λ b x. (inside : List ℕ) × (count >>= raw).text b inside × f.text inside x;
  read = λ b. option_and_then (λ p. option_and_then (λ x. Some (x, p.1)) (whole (f.read p.0))) ((count >>= raw).read b);
}
