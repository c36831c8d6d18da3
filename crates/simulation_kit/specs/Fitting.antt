-- Code that calls no function but those that pass a test, as a fold.
use Rattle.std.specs.Prelude.{◌≡◌, ℕ, Bool, true, ◌&&◌, List, [], ◌∷◌, map}
use Rattle.std.specs.List.{AllByRecursion}
use Rattle.evaluation_kit.specs.Forms.{Form, Enclose, Repeat, Choose, Guard, Invoke}
use Rattle.evaluation_kit.specs.Languages.{Language}

-- whether all hold
abbrev pub all_true : List Bool → Bool
all_true [] = true
all_true (b ∷ more) = b && all_true more

-- calls of functions, and the bodies inside
abbrev pub form_fits : {V S : Type 0} → (ℕ → Bool) → Form V S Bool → Bool
form_fits named (Enclose p r code) = all_true code
form_fits named (Repeat p r code) = all_true code
form_fits named (Choose test p r first second) = all_true first && all_true second
form_fits named (Guard p r t code) = all_true code
form_fits named (Invoke p f) = named f
form_fits named _ = true

-- What is asked of one instruction beside that, for one of a plain one that is a tail call.
pub record Test (F : Type 0 → Type 0) (over : (X Y : Type 0) → (X → Y) → F X → F Y) : Type 1 where
  pub own : (X : Type 0) → F X → Bool
  pub own_over : (X Y : Type 0) (f : X → Y) (l : F X) → own Y (over X Y f l) ≡ own X l

module _ {I : Type 0} {F : Type 0 → Type 0} {V S : Type 0} (L : Language I F V S) (named : ℕ → Bool) (test : Test F L.tree.over) where
  -- one instruction, and code
  abbrev pub fits_step : F Bool → Bool
  fits_step l = test.own Bool l && form_fits named (L.layer Bool l)

  abbrev pub fits : I → Bool
  fits i = L.tree.fold Bool fits_step i

  abbrev pub Fits : I → Type 0
  Fits i = fits i ≡ true

-- what a form asks of its bodies, and of the function that it calls
abbrev pub FormFits : {I V S : Type 0} {P : I → Type 0} → (ℕ → Type 0) → (I → Type 0) → Form V S ((i : I) × P i) → Type 0
FormFits Named Fits (Enclose p r code) = AllByRecursion Fits (map (λ y. y.0) code)
FormFits Named Fits (Repeat p r code) = AllByRecursion Fits (map (λ y. y.0) code)
FormFits Named Fits (Choose test p r first second) = AllByRecursion Fits (map (λ y. y.0) first) × AllByRecursion Fits (map (λ y. y.0) second)
FormFits Named Fits (Guard p r t code) = AllByRecursion Fits (map (λ y. y.0) code)
FormFits Named Fits (Invoke p f) = Named f
FormFits Named Fits _ = Unit {0}
