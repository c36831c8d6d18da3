-- One more entry of a table is written.
use Rattle.std.proofs.Common.{◌≡◌, ℕ, ◌+◌, ◌<◌, List, map, length, set, get_or, Option, Some, ap, sym, ◌∙◌, arith}
use Rattle.std.proofs.Math.Seq.{paste}
use Rattle.std.proofs.lemmas.List.{get_or-map, length-map}
use Rattle.std.proofs.lemmas.List.Edits.{paste_more}

pub entry_more : (old new : List (Option ℕ)) (at : ℕ) (funcs : List ℕ) (i : ℕ) → new ≡ paste old at (map (λ f. Some f) funcs) i → at + i < length old → i < length funcs → set new (at + i) (Some (get_or funcs i 0)) ≡ paste old at (map (λ f. Some f) funcs) (i + 1)
entry_more old new at funcs i e within few =
    let value : get_or (map (λ f. Some f) funcs) i (Some 0) ≡ Some (get_or funcs i 0) = grind (arith, get_or-map) in
    let many : i < length (map (λ f. Some f) funcs) = grind (arith, length-map) in
    ap (λ es. set es (at + i) (Some (get_or funcs i 0))) e
    ∙ (ap (λ v. set (paste old at (map (λ f. Some f) funcs) i) (at + i) v) (sym value) ∙ paste_more old at (map (λ f. Some f) funcs) i (Some 0) within many)
