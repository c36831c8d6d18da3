-- The two faces of a form agree: what is read stands in the grammar, and what the grammar has is read, whatever follows.
use Rattle.std.specs.Prelude.{◌≡◌, ℕ, List, ◌++◌, Some}
use Rattle.grammar_kit.specs.Form.{Form}

pub record Exact {X : Type 0} (f : Form X) : Type 0 where
  pub sound : (b : List ℕ) (x : X) (rest : List ℕ) → f.read b ≡ Some (x, rest) → (t : List ℕ) × (b ≡ t ++ rest) × f.text t x
  pub complete : (t : List ℕ) (x : X) (rest : List ℕ) → f.text t x → f.read (t ++ rest) ≡ Some (x, rest)
