-- The marks of a lowered module: mutable globals by which it shows what 1.0 cannot return. A host reads them behind the
-- exported globals of the input. This project's own mapping.
use Rattle.std.specs.Prelude.{ℕ, ◌+◌, ◌-◌, max, nat_lt, if◌then◌else◌, List, [], ◌∷◌, ◌++◌, codes, map, length, take, drop, Option, Some, None}
use Rattle.std.specs.Fmt.{decimal}
use Rattle.host_kit.specs.declared.value.Value.{Value}
use Rattle.wasm_ast.specs.declared.module.ty.FuncType.{FuncType}
use Rattle.wasm_ast.specs.declared.module.parts.Module.{Module}
use Rattle.evaluation_kit.specs.Leaves.{below}
use Rattle.meaning_new.specs.Interface.{ExternType, Interface, interface, func}
use Rattle.soundness.specs.Events.{exported_globals}
use Rattle.headline.specs.Flattening.{flat, word}

-- the marks of a payload's words and those of further results, each by its number
abbrev pub payload_mark : ℕ → List ℕ
payload_mark k = codes "lower.p." ++ decimal k

abbrev pub result_mark : ℕ → List ℕ
result_mark k = codes "lower.r." ++ decimal k

abbrev pub greatest : List ℕ → ℕ
greatest [] = 0
greatest (n ∷ ns) = max n (greatest ns)

-- the words of a tag's payload
abbrev pub payload_words : Option FuncType → ℕ
payload_words None = 0
payload_words (Some t) = length (flat t.params)

-- the flattened results of a linked function beyond the first
abbrev pub further_results : Option ExternType → ℕ
further_results (Some (func t)) = length (flat t.results) - 1
further_results _ = 0

-- How many marks there are: one that tells which exception is not caught, where there is a tag; the words of the greatest
-- payload; and the further results of the linked function that has most
abbrev pub exception_count : List (Option FuncType) → ℕ
exception_count [] = 0
exception_count (t ∷ tags) = 1

abbrev pub payload_count : Interface → ℕ
payload_count i = greatest (map payload_words i.tags)

abbrev pub result_count : Interface → ℕ
result_count i =
    max (greatest (map (λ e. further_results e.type) i.imports)) (greatest (map (λ e. further_results e.type) i.exports))

abbrev pub mark_count : Interface → ℕ
mark_count i = exception_count i.tags + (payload_count i + result_count i)

-- the input's own globals among those of an event
abbrev pub own_globals : Module → List Value → List Value
own_globals m globals = take (length (exported_globals m)) globals

-- What the marks of an event say.
pub record Marks : Type 0 where
  -- 1 once the store of captured exceptions was full
  pub full : ℕ
  -- 0, or one more than the tag of the exception that is not caught, and the words of its payload
  pub exception : ℕ
  pub payload : List ℕ
  -- the words of the results beyond the first
  pub further : List ℕ

abbrev pub first_word : List Value → ℕ
first_word [] = 0
first_word (v ∷ more) = word v

-- The marks in their order. That of a full store stands before them where there is one more than the others
abbrev pub other_marks : Interface → ℕ → List Value → Marks
other_marks i full globals =
    let words = drop (exception_count i.tags) (map word globals) in
    record {
      full = full;
      exception = first_word (take (exception_count i.tags) globals);
      payload = take (payload_count i) words;
      further = drop (payload_count i) words;
    }

abbrev pub read_marks : Interface → List Value → Marks
read_marks i globals =
    if nat_lt (mark_count i) (length globals) then other_marks i (first_word globals) (below globals) else other_marks i 0 globals

abbrev pub marks_of : Module → List Value → Marks
marks_of m globals = read_marks (interface m) (drop (length (exported_globals m)) globals)
