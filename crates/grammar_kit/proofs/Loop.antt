-- Reading entries one after the other, as a loop does.
use Rattle.std.proofs.Common.{◌≡◌, ℕ, suc, ◌-◌, ◌+◌, ◌<◌, List, [], ◌∷◌, ◌++◌, Option, Some, None, refl, sym, ap, ◌∙◌, append_assoc, arith}
use Rattle.std.specs.Prelude.{option_and_then}
use Rattle.grammar_kit.specs.Form.{Form, many}

-- what was read before, and what is still read
abbrev pub with_front : {X : Type 0} → List X → Option (List X × List ℕ) → Option (List X × List ℕ)
with_front front read = option_and_then (λ p. Some (front ++ p.0, p.1)) read

pub regroup : {X : Type 0} (front : List X) (x : X) (read : Option (List X × List ℕ))
    → with_front front (option_and_then (λ p. Some (x ∷ p.0, p.1)) read) ≡ with_front (front ++ x ∷ []) read
regroup front x (Some p) = ap (λ xs. Some (xs, p.1)) (simp append_assoc)
regroup front x None = refl

pub goes_on : {X : Type 0} (f : Form X) (front : List X) (count i : ℕ) (b : List ℕ) (x : X) (after : List ℕ) (total : Option (List X × List ℕ))
    → i < count → f.read b ≡ Some (x, after)
    → with_front front ((many f (count - i)).read b) ≡ total → with_front (front ++ x ∷ []) ((many f (count - (i + 1))).read after) ≡ total
goes_on f front count i b x after total lt h so_far =
    let k : count - i ≡ suc (count - (i + 1)) = omega arith in
    let one : with_front front ((many f (count - i)).read b) ≡ with_front (front ++ x ∷ []) ((many f (count - (i + 1))).read after) =
    rw (k, h) (regroup front x ((many f (count - (i + 1))).read after)) in
    sym one ∙ so_far
