-- Deciding a fact by a test.
use Rattle.std.proofs.Common.{◌≡◌, Bool, true, false, sym, ◌∙◌}
use Rattle.valid_core1.specs.Checks.{Decided}

-- a test that is true exactly where the fact holds decides it
pub decided_by : (r b : Bool) (P : Type 0) → r ≡ b → (b ≡ true → P) → (P → b ≡ true) → Decided r P
decided_by true b P e f g = f (sym e)
decided_by false b P e f g = λ p. (let no : false ≡ true = e ∙ g p in cc)
