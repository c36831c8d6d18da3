-- How large the sections of a file are.
use Rattle.std.specs.Prelude.{◌≡◌, ℕ, List, [], ◌∷◌, length, sum_by, Option, Some, None, ◌==◌, if◌then◌else◌}
use Rattle.std.specs.List.{AllByRecursion}
use Rattle.grammar_kit.specs.Form.{Form}
use Rattle.grammar_kit.specs.Measures.{greatest}
use Rattle.grammar_kit.specs.Sequences.{whole}
use Rattle.wasm_frame.specs.Frame.{Frame, Whole}
use Rattle.wasm_frame.specs.Payloads.{IsRead, value, optional}
use Rattle.module_reading.specs.declared.sizes.Sizes.{Sizes}
use Rattle.module_reading.specs.declared.sizes.SectionSizes.{SectionSizes}
use Rattle.module_reading.specs.declared.sizes.FileSizes.{FileSizes}
use Rattle.module_reading.specs.Bodies.{IsExtentOf}
use Rattle.module_reading.specs.Files.{Sectioned, payloads}
use Rattle.module_reading.specs.Format.{Format}
use Rattle.module_reading.specs.Means.{Means}
use Rattle.module_reading.specs.Spells.{code_section, IsPart}

-- a payload is a vector of entries with these sizes
pub record AreSizesOf {X : Type 0} (f : Form (List X)) (size : X → ℕ) (payload : List ℕ) (s : Sizes) : Type 0 where
  pub entries : List X
  pub read : whole (f.read payload) ≡ Some entries
  pub count_is : s.count ≡ length entries
  pub greatest_is : s.greatest ≡ greatest size entries
  pub total_is : s.total ≡ sum_by size entries

-- a payload is one number
abbrev pub IsNumber : List ℕ → Sizes → Type 0
IsNumber payload s = whole (optional.read payload) ≡ Some (Some s.count)

-- the sizes where there is no section
abbrev pub no_sizes : Sizes
no_sizes = record { count = 0; greatest = 0; total = 0; second = 0 }

-- the sizes of the first section of an id
abbrev pub sizes_at : ℕ → List SectionSizes → Option Sizes
sizes_at id [] = None
sizes_at id (s ∷ more) = if s.id == id then Some s.sizes else sizes_at id more

-- both are there, and related, or none is
abbrev pub Both : {X Y : Type 0} → (X → Y → Type 0) → Option X → Option Y → Type 0
Both R (Some x) (Some y) = R x y
Both R None None = Unit {0}
Both R (Some x) None = ⊥
Both R None (Some y) = ⊥

module _ {Module : Type 0} (f : Format Module) (means : Means f) where
  -- the sizes of the payloads, by the ids of their sections, custom sections and the code section left out
  abbrev pub AreSections : (ℕ → Option (List ℕ)) → List SectionSizes → Type 0
  AreSections at sections = (id : ℕ) → ¬ (id ≡ 0) → ¬ (id ≡ 10) → Both (means.HasSizes id) (at id) (sizes_at id sections)

  -- and of the bodies
  pub record AreSizes (at : ℕ → Option (List ℕ)) (s : FileSizes) : Type 0 where
    pub sections : AreSections at s.sections
    pub bodies : IsExtentOf f means s.bodies (f.codes (means.made at))

  -- the texts of the bodies of a file
  abbrev pub texts_of : Sectioned → List (List ℕ)
  texts_of file = value code_section [] (payloads file 10)

  -- a file whose sections and bodies are in their grammar, and how large they are
  pub record IsMeasured (file : Sectioned) (s : FileSizes) : Type 0 where
    pub frame : Frame f.version file.bytes file.parts Whole
    pub parts : AllByRecursion (IsPart f) file.parts
    pub bodies : AllByRecursion (IsRead f.body) (texts_of file)
    pub sizes : AreSizes (payloads file) s
