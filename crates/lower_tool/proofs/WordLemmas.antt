-- A list of four items, of three, or of two, is those items.
use Rattle.std.proofs.Common.{◌≡◌, ◌<◌, ◌≤◌, List, [], ◌∷◌, length, get_or, arith}

pub three_items : {A : Type 0} → (xs : List A) (a b c : A) → 3 ≤ length xs → length xs < 4 → a ≡ get_or xs 0 a → b ≡ get_or xs 1 b → c ≡ get_or xs 2 c → xs ≡ a ∷ b ∷ c ∷ []
three_items [] a b c least most p q r = absurd (omega arith)
three_items (x ∷ []) a b c least most p q r = absurd (omega arith)
three_items (x ∷ y ∷ []) a b c least most p q r = absurd (omega arith)
three_items (x ∷ y ∷ z ∷ []) a b c least most p q r = cc
three_items (x ∷ y ∷ z ∷ w ∷ more) a b c least most p q r = absurd (omega arith)

pub two_items : {A : Type 0} → (xs : List A) (a b : A) → 2 ≤ length xs → length xs < 3 → a ≡ get_or xs 0 a → b ≡ get_or xs 1 b → xs ≡ a ∷ b ∷ []
two_items [] a b least most p q = absurd (omega arith)
two_items (x ∷ []) a b least most p q = absurd (omega arith)
two_items (x ∷ y ∷ []) a b least most p q = cc
two_items (x ∷ y ∷ z ∷ more) a b least most p q = absurd (omega arith)

pub four_items : {A : Type 0} → (xs : List A) (a b c d : A) → 4 ≤ length xs → length xs < 5 → a ≡ get_or xs 0 a → b ≡ get_or xs 1 b → c ≡ get_or xs 2 c → d ≡ get_or xs 3 d → xs ≡ a ∷ b ∷ c ∷ d ∷ []
four_items [] a b c d least most p q r s = absurd (omega arith)
four_items (x ∷ []) a b c d least most p q r s = absurd (omega arith)
four_items (x ∷ y ∷ []) a b c d least most p q r s = absurd (omega arith)
four_items (x ∷ y ∷ z ∷ []) a b c d least most p q r s = absurd (omega arith)
four_items (x ∷ y ∷ z ∷ w ∷ []) a b c d least most p q r s = cc
four_items (x ∷ y ∷ z ∷ w ∷ v ∷ more) a b c d least most p q r s = absurd (omega arith)
