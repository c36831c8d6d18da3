-- Numbers that are set one after another.
use Rattle.std.proofs.Common.{◌≡◌, ℕ, Bool, List, [], ◌∷◌, ◌++◌, refl}
use Rattle.wasm_ast.specs.Marking.{marked}

pub marked_append : (xs ys : List ℕ) (flags : List Bool) → marked (xs ++ ys) flags ≡ marked ys (marked xs flags)
marked_append [] ys flags = refl
marked_append (x ∷ xs) ys flags = marked_append xs ys _
