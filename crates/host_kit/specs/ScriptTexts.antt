-- What a text is read as: the script whose JSON it is, or why it is none.
use Rattle.std.specs.Prelude.{◌≡◌, ℕ, ◌≤◌, ◌<◌, List, ◌++◌, Result, Ok, Err, Some, None, IsUtf8, codes, length}
use Rattle.serde_json.specs.Data.{Data}
use Rattle.serde_json.specs.Read.{read}
use Rattle.host_kit.specs.ScriptForms.{script_form}
use Rattle.host_kit.specs.declared.script.Script.{Script}
use Rattle.host_kit.specs.declared.script_text.TextFault.{TextFault}
use Rattle.host_kit.specs.declared.script_text.TextFault.TheVariants.{TooLarge, NotJson, Shape, Memory}

-- the most bytes that the text of a script may have
abbrev pub most_bytes : ℕ
most_bytes = 67108864

-- a text of that size at most is the JSON of a tree, which the form reads so
pub record Reads (text : List ℕ) (said : Result Script (List ℕ)) : Type 0 where
  pub small : length text ≤ most_bytes
  pub utf8 : IsUtf8 text
  pub tree : Data
  pub json : read text ≡ Some tree
  pub form : script_form tree ≡ said

-- the answer of a call that reads a text: the size is looked at first, then the JSON, then the form
abbrev pub TextTells : List ℕ → Result Script TextFault → Type 0
TextTells text (Ok script) = Reads text (Ok script)
TextTells text (Err TooLarge) = most_bytes < length text
TextTells text (Err NotJson) = (length text ≤ most_bytes) × (IsUtf8 text → read text ≡ None)
TextTells text (Err (Shape path)) = Reads text (Err path)
TextTells text (Err (Memory e)) = Unit {0}

-- what is printed of why a text is no script
abbrev pub text_fault : TextFault → List ℕ
text_fault TooLarge = codes "script: too large"
text_fault NotJson = codes "script: not json"
text_fault (Shape path) = codes "script: " ++ path
text_fault (Memory e) = codes "out of memory"
