-- Operands and what they match ("Matching" of chapter 3): a value of a type matches the types above its own, and the
-- type bot matches every type.
use Rattle.std.specs.Prelude.{◌≡◌, Bool, true, List, [], ◌∷◌, map}
use Rattle.typing_kit.specs.declared.operand.Operand.{Operand}
use Rattle.typing_kit.specs.declared.operand.Operand.TheVariants.{Known, Bottom}

-- values of these types
abbrev pub known : {T : Type 0} → List T → List (Operand T)
known ts = map Known ts

-- an operand is of a kind of types; bot is of each
abbrev pub IsOf : {T : Type 0} → (T → Bool) → Operand T → Type 0
IsOf kind (Known t) = kind t ≡ true
IsOf kind Bottom = Unit {0}

module _ {T : Type 0} (sub : T → T → Bool) where
  -- an operand may stand where the second is asked for
  abbrev pub Matches : Operand T → Operand T → Type 0
  Matches Bottom b = Unit {0}
  Matches (Known s) (Known t) = sub s t ≡ true
  Matches (Known s) Bottom = ⊥

  -- as many operands, each matching the one at its place
  abbrev pub AllMatch : List (Operand T) → List (Operand T) → Type 0
  AllMatch [] [] = Unit {0}
  AllMatch [] (b ∷ wanted) = ⊥
  AllMatch (a ∷ more) [] = ⊥
  AllMatch (a ∷ more) (b ∷ wanted) = Matches a b × AllMatch more wanted
