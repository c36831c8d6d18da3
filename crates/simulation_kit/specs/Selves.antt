-- Passes from a language to the same language of another module, on the same states: what stays owes nothing.
use Rattle.std.specs.Prelude.{◌≡◌, ℕ, Bool, true, List, [], ◌∷◌, map, refl}
use Rattle.evaluation_kit.specs.Configurations.{Plain}
use Rattle.evaluation_kit.specs.Forms.{Form, Flat, Enclose, Repeat, Choose, Guard, Invoke, InvokeBy}
use Rattle.evaluation_kit.specs.Languages.{Language}
use Rattle.simulation_kit.specs.Rewriting.{body_at}
use Rattle.simulation_kit.specs.Keeping.{Keeping}
use Rattle.simulation_kit.specs.Mirrors.{Mirror}

-- a form with other bodies
abbrev pub with_bodies : {V S X Y : Type 0} → (List X → List Y) → Form V S X → Form V S Y
with_bodies g (Flat act) = Flat act
with_bodies g (Enclose p r code) = Enclose p r (g code)
with_bodies g (Repeat p r code) = Repeat p r (g code)
with_bodies g (Choose test p r first second) = Choose test p r (g first) (g second)
with_bodies g (Guard p r t code) = Guard p r t (g code)
with_bodies g (Invoke p f) = Invoke p f
with_bodies g (InvokeBy p pick) = InvokeBy p pick

-- How an instruction is given other bodies, and that nothing else of it changes from one module to the other.
pub record Bodies {I : Type 0} {F : Type 0 → Type 0} {V S : Type 0} (L L' : Language I F V S) : Type 1 where
  pub change : (X : Type 0) → (List X → List I) → F X → F I
  pub change_over : (X Y : Type 0) (f : X → Y) (g : List Y → List I) (l : F X) → change Y g (L.tree.over X Y f l) ≡ change X (λ code. g (map f code)) l
  pub layer_change : (X : Type 0) (g : List X → List I) (l : F X) → L'.layer I (change X g l) ≡ with_bodies g (L.layer X l)
  pub ready_change : (X : Type 0) (g : List X → List I) (l : F X) (q : Plain V S) → L.ready X l q ≡ true → L'.ready I (change X g l) q ≡ true

-- an instruction that stays, whose bodies are rewritten at a place
abbrev pub keep : {I X : Type 0} {F : Type 0 → Type 0} {V S : Type 0} (L L' : Language I F V S) → Bodies L L' → X → F (X → List I) → List I
keep {I = I} {X = X} L L' bodies inner l = L'.tree.roll (bodies.change (X → List I) (body_at inner) l) ∷ []

-- the mirror that shows what is there
abbrev pub same : {V S : Type 0} → Bool → Bool → ℕ → (Place : Type 0) → (Place → Place → Type 0) → Keeping V S → Mirror V S V S
same exact strict spare Place Around keeps = record {
  exact = exact;
  strict = strict;
  spare = spare;
  Place = Place;
  Around = Around;
  values = λ l. l;
  take_values = λ n l. refl;
  drop_values = λ n l. refl;
  append_values = λ a b. refl;
  reverse_values = λ l. refl;
  keeps = keeps;
  index = λ f. f;
  state = λ s. s;
}
