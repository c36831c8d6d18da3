-- A look-up in a map, as one in the list that contracts see.
use Rattle.std.proofs.Common.{◌≡◌, ℕ, cond, List, [], ◌∷◌, map, Some, refl, ap, Vec, Global}
use Rattle.std.specs.Prelude.{bytes_eq}
use Rattle.std.specs.Map.{lookup}
use Rattle.emit_kit.specs.FirstTypes.{index_at}

abbrev pub plain : Vec ℕ Global × ℕ → List ℕ × ℕ
plain e = (e.0.items, e.1)

pub found_in : (key : List ℕ) (es : List (Vec ℕ Global × ℕ)) → lookup (λ k. bytes_eq key k.items) es ≡ index_at key (map plain es)
found_in key [] = refl
found_in key (e ∷ es) = ap (cond (bytes_eq key e.0.items) (Some e.1)) (found_in key es)
