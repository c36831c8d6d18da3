-- What calls on files in memory leave.
use Rattle.std.proofs.Common.{◌≡◌, ℕ, ◌+◌, ◌-◌, ◌<◌, min, List, [], ◌++◌, length, get_or, take, drop, set, refl, sym, ◌∙◌, ap, ap₂, arith, length-set}
use Rattle.std.proofs.lemmas.List.{take-append-drop, drop_all, drop-drop}
use Rattle.std.proofs.lemmas.Option.{slice_get-get_or}
use Rattle.std.specs.Prelude.{Option, Some, slice_get}
use Rattle.std.specs.Option.{option_map}
use Rattle.std.specs.Io.KnownBytes.{Consumes, IsAtEnd}
use Rattle.tool_files.specs.Held.{Sets, Grows}
use Rattle.tool_files.specs.Memory.{content_of, IsNamedOnce, StandsAt, AppendsAt, created_at}
use Rattle.tool_files.proofs.PairLemmas.{content_of-at, content_of-set, IsNamedOnce-set, StandsAt-set}

-- at each place stands a pair
pub StandsAt-within : (files : List (List ℕ × List ℕ)) (place : ℕ) → place < length files → StandsAt files place (get_or files place ([], [])).0 (get_or files place ([], [])).1
StandsAt-within files place within = slice_get-get_or files place ([], []) within

-- appended bytes leave each name once
pub AppendsAt-once : (files now : List (List ℕ × List ℕ)) (place : ℕ) (piece : List ℕ) → place < length files → AppendsAt files now place piece → IsNamedOnce files → IsNamedOnce now
AppendsAt-once files now place piece within appends once =
    let file = get_or files place ([], []) in
    let stands = StandsAt-within files place within in
    rw (appends file.0 file.1 stands) (IsNamedOnce-set files place file.0 file.1 (file.1 ++ piece) stands once)

-- there are as many files as before
pub AppendsAt-length : (files now : List (List ℕ × List ℕ)) (place : ℕ) (piece : List ℕ) → place < length files → AppendsAt files now place piece → length now ≡ length files
AppendsAt-length files now place piece within appends =
    let file = get_or files place ([], []) in
    ap length (appends file.0 file.1 (StandsAt-within files place within)) ∙ length-set files place (file.0, file.1 ++ piece)

-- the file at the place has the name that it had
pub AppendsAt-created : (files now : List (List ℕ × List ℕ)) (place : ℕ) (piece : List ℕ) → place < length files → AppendsAt files now place piece → created_at (slice_get now place) ≡ created_at (slice_get files place)
AppendsAt-created files now place piece within appends =
    let file = get_or files place ([], []) in
    let stands = StandsAt-within files place within in
    rw (appends file.0 file.1 stands, StandsAt-set files place file.0 file.1 (file.1 ++ piece) stands, stands) refl

-- the file at the place grows by the bytes
pub AppendsAt-grows : (files now : List (List ℕ × List ℕ)) (place : ℕ) (piece : List ℕ) → place < length files → AppendsAt files now place piece → IsNamedOnce files → Grows (Some (content_of files)) (Some (content_of now)) (created_at (slice_get files place)) piece
AppendsAt-grows files now place piece within appends once =
    let file = get_or files place ([], []) in
    let stands = StandsAt-within files place within in
    let grown = file.1 ++ piece in
    let set = set files place (file.0, grown) in
    let found = content_of-at set place file.0 grown (IsNamedOnce-set files place file.0 file.1 grown stands once) (StandsAt-set files place file.0 file.1 grown stands) in
    let sets : Sets (Some (content_of files)) (Some (content_of set)) file.0 grown =
    (found, λ other apart. content_of-set files place file.0 file.1 grown other stands apart) in
    rw (appends file.0 file.1 stands, stands, content_of-at files place file.0 file.1 once stands) sets

-- bytes that were copied from a place on are the front of what was left there, and none only at the end
pub Consumes-copied : (bytes into : List ℕ) (at count most : ℕ) → 0 < most → count ≡ min most (min (length into) (length bytes - at)) → take count into ≡ take count (drop at bytes) → Consumes (Some (drop at bytes)) (Some (drop (at + count) bytes)) (take count into) × (count ≡ 0 → 0 < length into → IsAtEnd (Some (drop (at + count) bytes)))
Consumes-copied bytes into at count most moves is copied =
    (sym (take-append-drop count (drop at bytes)) ∙ ap₂ ◌++◌ (sym copied) (drop-drop count at bytes), λ none room. drop_all (at + count) bytes (omega arith))

-- the same, of a file at a place
pub Consumes-file : (file : Option (List ℕ × List ℕ)) (name bytes into : List ℕ) (at count most : ℕ) → file ≡ Some (name, bytes) → 0 < most → count ≡ min most (min (length into) (length bytes - at)) → take count into ≡ take count (drop at bytes) → Consumes (option_map (λ f. drop at f.1) file) (option_map (λ f. drop (at + count) f.1) file) (take count into) × (count ≡ 0 → 0 < length into → IsAtEnd (option_map (λ f. drop (at + count) f.1) file))
Consumes-file file name bytes into at count most stands moves is copied =
    rw stands (Consumes-copied bytes into at count most moves is copied)
