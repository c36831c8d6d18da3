-- Files as pairs of a name and bytes: what a change of one leaves of the others.
use Rattle.std.proofs.Common.{◌≡◌, ◌≢◌, ℕ, zero, suc, ◌<◌, List, [], ◌∷◌, ◌++◌, Bool, true, false, length, drop, get_or, set, refl, sym, ◌∙◌, ap}
use Rattle.std.proofs.Math.Seq.{drop-cons}
use Rattle.std.proofs.lemmas.Option.{get_or_from_slice_get}
use Rattle.std.proofs.lemmas.Slice.Eq.{bytes_eq-Decides}
use Rattle.std.specs.Prelude.{Option, Some, None, if◌then◌else◌}
use Rattle.std.specs.Str.{bytes_eq}
use Rattle.tool_files.specs.Memory.{content_of, IsNamedOnce, StandsAt}

-- a name is itself
same_name : (a b : List ℕ) → a ≡ b → bytes_eq a b ≡ true
same_name a b same = (bytes_eq-Decides a b).1 same

not_true : (t : Bool) → (t ≡ true → ⊥) → t ≡ false
not_true true never = absurd (never refl)
not_true false never = refl

other_name : (a b : List ℕ) → a ≢ b → bytes_eq a b ≡ false
other_name a b apart = not_true (bytes_eq a b) (λ yes. apart ((bytes_eq-Decides a b).0 yes))

-- a name that is not found stands neither in the first pair nor in the rest
missed : {A : Type 0} → (t : Bool) (x : A) (rest : Option A) → (if t then Some x else rest) ≡ None → (t ≡ false) × (rest ≡ None)
missed true x rest miss = absurd (cc)
missed false x rest miss = (refl, miss)

-- the pair of this name is the first of what is left
pub content_of-drop : (files : List (List ℕ × List ℕ)) (i : ℕ) (file : List ℕ × List ℕ) (name : List ℕ) → i < length files → file ≡ get_or files i file → file.0 ≡ name → content_of (drop i files) name ≡ Some file.1
content_of-drop files i file name within is same =
    let front : drop i files ≡ file ∷ drop (suc i) files = drop-cons files i file within ∙ ap (λ x. x ∷ drop (suc i) files) (sym is) in
    rw (front, same_name file.0 name same) refl

-- a name that is found is not one that is missed
apart : (files : List (List ℕ × List ℕ)) (a b bytes : List ℕ) → content_of files a ≡ None → content_of files b ≡ Some bytes → a ≢ b
apart files a b bytes none found same =
    let gone : content_of files b ≡ None = rw same at none in
    cc

-- what stands somewhere is found
pub content_of-at : (files : List (List ℕ × List ℕ)) (place : ℕ) (name bytes : List ℕ) → IsNamedOnce files → StandsAt files place name bytes → content_of files name ≡ Some bytes
content_of-at [] place name bytes once stands = absurd (cc)
content_of-at (file ∷ files) zero name bytes once stands =
    let same : file.0 ≡ name = cc in
    let here : file.1 ≡ bytes = cc in
    rw (same_name file.0 name same, here) refl
content_of-at (file ∷ files) (suc place) name bytes once stands =
    let found = content_of-at files place name bytes once.1 stands in
    rw (other_name file.0 name (apart files file.0 name bytes once.0 found)) found

-- a pair at a place is what was put there
pub StandsAt-set : (files : List (List ℕ × List ℕ)) (place : ℕ) (name had bytes : List ℕ) → StandsAt files place name had → StandsAt (set files place (name, bytes)) place name bytes
StandsAt-set [] place name had bytes stands = absurd (cc)
StandsAt-set (file ∷ files) zero name had bytes stands = refl
StandsAt-set (file ∷ files) (suc place) name had bytes stands = StandsAt-set files place name had bytes stands

-- new bytes of a file are no other file's
pub content_of-set : (files : List (List ℕ × List ℕ)) (place : ℕ) (name had bytes other : List ℕ) → StandsAt files place name had → other ≢ name → content_of (set files place (name, bytes)) other ≡ content_of files other
content_of-set [] place name had bytes other stands apart = refl
content_of-set (file ∷ files) zero name had bytes other stands apart =
    let same : file.0 ≡ name = cc in
    let no = other_name name other (λ e. apart (sym e)) in
    let old = other_name file.0 other (λ e. apart (sym e ∙ same)) in
    rw (no, old) refl
content_of-set (file ∷ files) (suc place) name had bytes other stands apart =
    ap (λ c. if bytes_eq file.0 other then Some file.1 else c) (content_of-set files place name had bytes other stands apart)

-- new bytes leave the names as they were
pub IsNamedOnce-set : (files : List (List ℕ × List ℕ)) (place : ℕ) (name had bytes : List ℕ) → StandsAt files place name had → IsNamedOnce files → IsNamedOnce (set files place (name, bytes))
IsNamedOnce-set [] place name had bytes stands once = once
IsNamedOnce-set (file ∷ files) zero name had bytes stands once =
    let same : file.0 ≡ name = cc in
    (rw same at once.0, once.1)
IsNamedOnce-set (file ∷ files) (suc place) name had bytes stands once =
    let other = apart files file.0 name had once.0 (content_of-at files place name had once.1 stands) in
    (content_of-set files place name had bytes file.0 stands other ∙ once.0, IsNamedOnce-set files place name had bytes stands once.1)

-- a pair at the end
pub StandsAt-push : (files : List (List ℕ × List ℕ)) (name bytes : List ℕ) → StandsAt (files ++ (name, bytes) ∷ []) (length files) name bytes
StandsAt-push [] name bytes = refl
StandsAt-push (file ∷ files) name bytes = StandsAt-push files name bytes

-- a new file is no other file
pub content_of-push : (files : List (List ℕ × List ℕ)) (name bytes other : List ℕ) → other ≢ name → content_of (files ++ (name, bytes) ∷ []) other ≡ content_of files other
content_of-push [] name bytes other apart = rw (other_name name other (λ e. apart (sym e))) refl
content_of-push (file ∷ files) name bytes other apart =
    ap (λ c. if bytes_eq file.0 other then Some file.1 else c) (content_of-push files name bytes other apart)

-- a new name stands once
pub IsNamedOnce-push : (files : List (List ℕ × List ℕ)) (name bytes : List ℕ) → content_of files name ≡ None → IsNamedOnce files → IsNamedOnce (files ++ (name, bytes) ∷ [])
IsNamedOnce-push [] name bytes none once = (refl, tt)
IsNamedOnce-push (file ∷ files) name bytes none once =
    let miss = missed (bytes_eq file.0 name) file.1 (content_of files name) none in
    let other : file.0 ≢ name = λ same. absurd (let yes = same_name file.0 name same in let no = miss.0 in cc) in
    (content_of-push files name bytes file.0 other ∙ once.0, IsNamedOnce-push files name bytes miss.1 once.1)

-- the pair at the place of a name has the name
pub name_at : (files : List (List ℕ × List ℕ)) (place : ℕ) (file : List ℕ × List ℕ) (name had : List ℕ) → StandsAt files place name had → file ≡ get_or files place file → file.0 ≡ name
name_at files place file name had stands is = ap (λ pair. pair.0) (is ∙ get_or_from_slice_get files place (name, had) file stands)
