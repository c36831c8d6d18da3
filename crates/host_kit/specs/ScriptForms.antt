-- The form of a script in JSON. A script is an object with the keys version, which is 1, globals, replies, grows and items,
-- in any order. A value is a list that begins with the word of its type, an act and an item are objects of one key.
use Rattle.std.specs.Prelude.{ℕ, ◌+◌, ◌-◌, ◌*◌, ◌^◌, List, [], ◌∷◌, length, Bool, Option, Some, None, Result, Ok, Err, codes, bytes_eq, nat_eq, nat_le, ◌&&◌, if◌then◌else◌, option_map, option_and_then}
use Rattle.serde_json.specs.Data.{Data}
use Rattle.serde_json.specs.Find.{as_bool, as_str, as_number, as_u64}
use Rattle.host_kit.specs.declared.script.Act.{Act}
use Rattle.host_kit.specs.declared.script.Act.TheVariants.{Set, Peek, Poke}
use Rattle.host_kit.specs.declared.script.Item.{Item}
use Rattle.host_kit.specs.declared.script.Item.TheVariants.{Call, Host}
use Rattle.host_kit.specs.declared.script.Reply.{Reply}
use Rattle.host_kit.specs.declared.script.Script.{Script}
use Rattle.host_kit.specs.declared.value.Value.{Value}
use Rattle.host_kit.specs.declared.value.Value.TheVariants as values
use Rattle.host_kit.specs.declared.words.Word.{Word}
use Rattle.host_kit.specs.declared.words.Word.TheVariants as words
use Rattle.host_kit.specs.declared.words.Null.{Null}
use Rattle.host_kit.specs.declared.words.Null.TheVariants as nulls
use Rattle.host_kit.specs.declared.words.Version.{Version}
use Rattle.host_kit.specs.declared.words.Version.TheVariants as versions
use Rattle.host_kit.specs.declared.words.Count.{Count}
use Rattle.host_kit.specs.Forms.{followed, or_here, number_form, field_form, place_form, list_form, pair_form, triple_form, sole_form, has_places, has_members, has_key, is_object}

abbrev pub bool_form : Data → Result Bool (List ℕ)
bool_form d = or_here (as_bool d)

abbrev pub text_form : Data → Result (List ℕ) (List ℕ)
text_form d = or_here (as_str d)

-- a digit of a number in base 16, a letter in lower case
abbrev pub hex_digit : ℕ → Option ℕ
hex_digit b =
    if nat_le 48 b && nat_le b 57 then Some (b - 48) else (if nat_le 97 b && nat_le b 102 then Some (b - 87) else None)

-- two digits for each byte
abbrev pub hex_byte : ℕ → ℕ → Option ℕ
hex_byte high low = option_and_then (λ h. option_map (λ l. 16 * h + l) (hex_digit low)) (hex_digit high)

abbrev pub hex_bytes : List ℕ → Option (List ℕ)
hex_bytes [] = Some []
hex_bytes (high ∷ []) = None
hex_bytes (high ∷ low ∷ more) = option_and_then (λ b. option_map (λ bs. b ∷ bs) (hex_bytes more)) (hex_byte high low)

-- what a host reads or writes at once has at most 65,536 bytes
abbrev pub few : List ℕ → Option (List ℕ)
few bytes = if nat_le (length bytes) 65536 then Some bytes else None

abbrev pub bytes_form : Data → Result (List ℕ) (List ℕ)
bytes_form d = or_here (option_and_then few (option_and_then hex_bytes (as_str d)))

abbrev pub count_form : Data → Result Count (List ℕ)
count_form d = followed (number_form 65537 d) (λ n. Ok (record { 0 = n }))

-- the word with which a value begins, and what it says of the places behind it
abbrev pub word_of : List ℕ → Option Word
word_of text =
    if bytes_eq text (codes "i32")
    then Some words.I32
    else (if bytes_eq text (codes "i64")
    then Some words.I64
    else (if bytes_eq text (codes "v128")
    then Some words.V128
    else (if bytes_eq text (codes "func")
    then Some words.Func
    else (if bytes_eq text (codes "extern") then Some words.Extern else (if bytes_eq text (codes "null") then Some words.Null else None)))))

abbrev pub word_form : Data → Result Word (List ℕ)
word_form d = or_here (option_and_then word_of (as_str d))

-- the null references, by the word of their type
abbrev pub null_of : List ℕ → Option Null
null_of text = if bytes_eq text (codes "func") then Some nulls.Func else (if bytes_eq text (codes "extern") then Some nulls.Extern else None)

abbrev pub null_form : Data → Result Null (List ℕ)
null_form d = or_here (option_and_then null_of (as_str d))

abbrev pub null_value : Null → Value
null_value nulls.Func = values.NullFunc
null_value nulls.Extern = values.NullExtern

-- a value of one place behind its word
abbrev pub second : {A : Type 0} → (Data → Result A (List ℕ)) → Data → Result A (List ℕ)
second f d = if has_places 2 d then place_form f 1 d else Err []

abbrev pub value_by : Word → Data → Result Value (List ℕ)
value_by words.I32 d = followed (second (number_form (2 ^ 32)) d) (λ n. Ok (values.I32 n))
value_by words.I64 d = followed (second (number_form (2 ^ 64)) d) (λ n. Ok (values.I64 n))
value_by words.V128 d =
    if has_places 3 d
    then followed (place_form (number_form (2 ^ 64)) 1 d) (λ low. followed (place_form (number_form (2 ^ 64)) 2 d) (λ high. Ok (values.V128 low high)))
    else Err []
value_by words.Func d = followed (second (number_form (2 ^ 32)) d) (λ n. Ok (values.Func n))
value_by words.Extern d = followed (second (number_form (2 ^ 32)) d) (λ n. Ok (values.Extern n))
value_by words.Null d = followed (second null_form d) (λ n. Ok (null_value n))

abbrev pub value_form : Data → Result Value (List ℕ)
value_form d = followed (place_form word_form 0 d) (λ w. value_by w d)

-- an act: its form is that of the first of its keys
abbrev pub set_form : Data → Result Act (List ℕ)
set_form d = followed (sole_form (pair_form text_form value_form) (codes "set") d) (λ p. Ok (Set p.0 p.1))

abbrev pub peek_form : Data → Result Act (List ℕ)
peek_form d = followed (sole_form (triple_form text_form (number_form (2 ^ 64)) count_form) (codes "peek") d) (λ p. Ok (Peek p.0 p.1 p.2.0))

abbrev pub poke_form : Data → Result Act (List ℕ)
poke_form d = followed (sole_form (triple_form text_form (number_form (2 ^ 64)) bytes_form) (codes "poke") d) (λ p. Ok (Poke p.0 p.1 p.2))

abbrev pub act_form : Data → Result Act (List ℕ)
act_form d =
    if has_key (codes "set") d
    then set_form d
    else (if has_key (codes "peek") d then peek_form d else (if has_key (codes "poke") d then poke_form d else Err []))

abbrev pub call_form : Data → Result Item (List ℕ)
call_form d = followed (sole_form (pair_form text_form (list_form value_form)) (codes "call") d) (λ p. Ok (Call p.0 p.1))

abbrev pub item_form : Data → Result Item (List ℕ)
item_form d = if has_key (codes "call") d then call_form d else followed (act_form d) (λ a. Ok (Host a))

abbrev pub reply_keys : Data → Result Reply (List ℕ)
reply_keys d =
    followed (field_form (list_form act_form) (codes "acts") d) (λ acts.
    followed (field_form (list_form value_form) (codes "values") d) (λ values.
    if has_members 2 d then Ok (record { acts = acts; values = values }) else Err []))

abbrev pub reply_form : Data → Result Reply (List ℕ)
reply_form d = if is_object d then reply_keys d else Err []

-- the version of the form, which is 1
abbrev pub version_of : ℕ → Option Version
version_of n = if nat_eq n 1 then Some versions.First else None

abbrev pub version_form : Data → Result Version (List ℕ)
version_form d = or_here (option_and_then version_of (option_and_then as_u64 (as_number d)))

abbrev pub script_keys : Data → Result Script (List ℕ)
script_keys d =
    followed (field_form version_form (codes "version") d) (λ version.
    followed (field_form (list_form value_form) (codes "globals") d) (λ globals.
    followed (field_form (list_form (list_form reply_form)) (codes "replies") d) (λ replies.
    followed (field_form (list_form bool_form) (codes "grows") d) (λ grows.
    followed (field_form (list_form item_form) (codes "items") d) (λ items.
    if has_members 5 d then Ok (record { globals = globals; replies = replies; grows = grows; items = items }) else Err [])))))

abbrev pub script_form : Data → Result Script (List ℕ)
script_form d = if is_object d then script_keys d else Err []
