-- A list that is taken apart from its front.
use Rattle.std.proofs.Common.{◌≡◌, ℕ, ◌+◌, ◌<◌, List, ◌∷◌, length, Some, slice_get, get_or, drop, refl, sym, ◌∙◌}
use Rattle.std.proofs.lemmas.List.{drop_more}
use Rattle.std.proofs.lemmas.Option.{slice_get_read}

-- the first item of what is left behind so many, and what is left behind it
pub next_item : {X : Type 0} (xs rest more : List X) (n : ℕ) (x : X) → n < length xs → rest ≡ drop n xs → rest ≡ x ∷ more → (slice_get xs n ≡ Some x) × (more ≡ drop (n + 1) xs)
next_item xs rest more n x l at is =
    let both : x ∷ more ≡ get_or xs n x ∷ drop (n + 1) xs = sym is ∙ at ∙ drop_more xs n x l in
    let first : x ≡ get_or xs n x = cc in
    let behind : more ≡ drop (n + 1) xs = cc in
    (slice_get_read xs (length xs) n x refl l first, behind)
