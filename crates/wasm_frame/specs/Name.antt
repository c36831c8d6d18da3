-- Vectors of bytes and names: chapter 5 of the standard, "Vectors" and "Names".
use Rattle.std.specs.Prelude.{◌≡◌, ℕ, List, ◌++◌, length, Some, None, option_and_then, if◌then◌else◌, IsUtf8}
use Rattle.std.specs.Str.{is_utf8}
use Rattle.grammar_kit.specs.Form.{Form, raw, ◌>>=◌}
use Rattle.wasm_frame.specs.Leb128.{u32}

-- a number of bytes that are valid UTF-8
abbrev pub utf8 : ℕ → Form (List ℕ)
utf8 n = record {
  text = λ b text. (b ≡ text) × (length text ≡ n) × IsUtf8 text;
  read = λ b. option_and_then (λ p. if is_utf8 p.0 then Some p else None) ((raw n).read b);
}

-- a count, and so many bytes
abbrev pub byte_vector : Form (List ℕ)
byte_vector = u32 >>= raw

-- a count, and so many bytes that are valid UTF-8
abbrev pub name : Form (List ℕ)
name = u32 >>= utf8

-- the content of a custom section: a name, and any bytes
abbrev pub IsCustom : List ℕ → Type 0
IsCustom payload = (t : List ℕ) × (u : List ℕ) × (text : List ℕ) × (payload ≡ t ++ u) × name.text t text
