-- How large bodies are, by their texts.
use Rattle.std.specs.Prelude.{◌≡◌, ℕ, max, Bool, false, ◌||◌, List, length, Option, Some, None, option_map, unwrap_or}
use Rattle.std.specs.List.{AllByRecursion, list_any}
use Rattle.grammar_kit.specs.Measures.{greatest}
use Rattle.grammar_kit.specs.Sequences.{whole}
use Rattle.wasm_frame.specs.Payloads.{IsRead, FirstWithout}
use Rattle.module_reading.specs.declared.bodies.BodyExtent.{BodyExtent}
use Rattle.module_reading.specs.declared.bodies.Walk.{Walk}
use Rattle.module_reading.specs.declared.bodies.Walk.TheVariants.{Measured, Misfit}
use Rattle.module_reading.specs.Format.{Format}
use Rattle.module_reading.specs.Means.{Means}
use Rattle.module_reading.specs.Spells.{code_section}

-- what a walk comes to behind one more body: of these sizes, or the one at this place is the first that is not in its grammar
abbrev pub GoesOn : Walk → ℕ → Option (ℕ × ℕ × Bool) → Walk → Type 0
GoesOn (Misfit i) place body after = after ≡ Misfit i
GoesOn (Measured e) place None after = after ≡ Misfit place
GoesOn (Measured e) place (Some s) after =
    (more : BodyExtent) × (after ≡ Measured more) × (more.count ≡ e.count) × (more.locals ≡ max e.locals s.0) × (more.nesting ≡ max e.nesting s.1)
    × (more.names_data ≡ (e.names_data || s.2))

module _ {Module : Type 0} (f : Format Module) (means : Means f) where
  -- the sizes of the body that a text spells, all 0 where it spells none
  abbrev pub text_sizes : List ℕ → ℕ × ℕ × Bool
  text_sizes t = unwrap_or (option_map means.body_sizes (whole (f.body.read t))) (0, 0, false)

  abbrev pub text_locals : List ℕ → ℕ
  text_locals t = (text_sizes t).0

  abbrev pub text_nesting : List ℕ → ℕ
  text_nesting t = (text_sizes t).1

  abbrev pub text_names_data : List ℕ → Bool
  text_names_data t = (text_sizes t).2

  -- how many texts there are, the greatest sizes of their bodies, and whether one names a data segment
  pub record IsExtent (e : BodyExtent) (texts : List (List ℕ)) : Type 0 where
    pub count : e.count ≡ length texts
    pub locals : e.locals ≡ greatest text_locals texts
    pub nesting : e.nesting ≡ greatest text_nesting texts
    pub names_data : e.names_data ≡ list_any text_names_data texts

  -- what a walk over the texts of bodies tells
  abbrev pub Walks : List (List ℕ) → Walk → Type 0
  Walks texts (Measured e) = AllByRecursion (IsRead f.body) texts × IsExtent e texts
  Walks texts (Misfit i) = FirstWithout (IsRead f.body) texts i

  -- what it tells of a code section that is cut into so many texts
  pub record IsWalked (payload : List ℕ) (walk : Walk) : Type 0 where
    pub texts : List (List ℕ)
    pub cut : whole (code_section.read payload) ≡ Some texts
    pub walks : Walks texts walk

  -- the same of the bodies themselves, and how many there are
  pub record IsExtentOf (e : BodyExtent) (codes : List f.Body) : Type 0 where
    pub count : e.count ≡ length codes
    pub locals : e.locals ≡ greatest (λ b. (means.body_sizes b).0) codes
    pub nesting : e.nesting ≡ greatest (λ b. (means.body_sizes b).1) codes
    pub names_data : e.names_data ≡ list_any (λ b. (means.body_sizes b).2) codes
