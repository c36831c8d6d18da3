-- Ways to make a form by a value that a table may have or lack.
use Rattle.std.specs.Prelude.{Option, Some, None}
use Rattle.grammar_kit.specs.Form.{Form, never, always}

-- no bytes at all spell the value, if there is one
abbrev pub given : {X : Type 0} → Option X → Form X
given (Some x) = always x
given None = never

-- no bytes at all spell the value, if there is one; where there is none another form holds
abbrev pub given_or : {X : Type 0} → Option X → Form X → Form X
given_or (Some x) f = always x
given_or None f = f
