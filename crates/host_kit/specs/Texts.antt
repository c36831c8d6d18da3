-- What is printed of events, a line for each. The words are this project's own.
use Rattle.std.specs.Prelude.{ℕ, ◌/◌, ◌%◌, List, [], ◌∷◌, ◌++◌, codes, false}
use Rattle.std.specs.List.{flat_map, join_by}
use Rattle.std.specs.Fmt.{decimal, digit_glyph}
use Rattle.host_kit.specs.declared.value.Value.{Value}
use Rattle.host_kit.specs.declared.value.Value.TheVariants.{I32, I64, V128, Func, Extern, NullFunc, NullExtern}
use Rattle.host_kit.specs.declared.event.Event.{Event}
use Rattle.host_kit.specs.declared.event.Event.TheVariants.{Started, Failed, HostCall, Returned, Trapped, Uncaught, Peeked, OutOfRange, NoReply, Done, Full}

-- a value: its type and its number; every number is a decimal without a sign
abbrev pub value_text : Value → List ℕ
value_text (I32 n) = codes "i32 " ++ decimal n
value_text (I64 n) = codes "i64 " ++ decimal n
value_text (V128 low high) = codes "v128 " ++ decimal low ++ codes " " ++ decimal high
value_text (Func x) = codes "func " ++ decimal x
value_text (Extern a) = codes "extern " ++ decimal a
value_text NullFunc = codes "null func"
value_text NullExtern = codes "null extern"

-- values, with a comma and a space between each two
abbrev pub values_text : List Value → List ℕ
values_text vs = join_by value_text (codes ", ") vs

-- bytes, as two hexadecimal digits each
abbrev pub byte_text : ℕ → List ℕ
byte_text b = digit_glyph false (b / 16) ∷ digit_glyph false (b % 16) ∷ []

abbrev pub bytes_text : List ℕ → List ℕ
bytes_text bytes = flat_map byte_text bytes

-- the line of an event, without its end
abbrev pub event_text : Event → List ℕ
event_text Started = codes "started"
event_text Failed = codes "failed"
event_text (HostCall import arguments globals) =
    codes "host " ++ decimal import ++ codes " (" ++ values_text arguments ++ codes ") [" ++ values_text globals ++ codes "]"
event_text (Returned item results globals) =
    codes "returned " ++ decimal item ++ codes " (" ++ values_text results ++ codes ") [" ++ values_text globals ++ codes "]"
event_text (Trapped item globals) = codes "trapped " ++ decimal item ++ codes " [" ++ values_text globals ++ codes "]"
event_text (Uncaught item tag payload globals) =
    codes "uncaught " ++ decimal item ++ codes " " ++ decimal tag ++ codes " (" ++ values_text payload ++ codes ") [" ++ values_text globals ++ codes "]"
event_text (Peeked bytes) = codes "peeked (" ++ bytes_text bytes ++ codes ")"
event_text OutOfRange = codes "out of range"
event_text (NoReply import) = codes "no reply " ++ decimal import
event_text Done = codes "done"
event_text Full = codes "full"

-- the lines of a list of events, each with the line feed that ends it
abbrev pub event_line : Event → List ℕ
event_line e = event_text e ++ 10 ∷ []

abbrev pub events_text : List Event → List ℕ
events_text es = flat_map event_line es
