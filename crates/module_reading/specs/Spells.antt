-- Which bytes spell a module: chapter 5 of the standard, "Modules", in three levels: the frame of sections, the payload of
-- each section, and the bodies of functions.
use Rattle.std.specs.Prelude.{ℕ, List, [], ◌==◌}
use Rattle.std.specs.List.{AllByRecursion}
use Rattle.grammar_kit.specs.Form.{Form, Chosen, vector}
use Rattle.wasm_frame.specs.Frame.{Part, Frame, Whole}
use Rattle.wasm_frame.specs.Leb128.{u32}
use Rattle.wasm_frame.specs.Name.{IsCustom, byte_vector}
use Rattle.wasm_frame.specs.Payloads.{Content, IsSpelled, Each}
use Rattle.module_reading.specs.Format.{Format}

-- "Code Section": the bytes of each body, whose count of bytes stands before it
abbrev pub code_section : Form (List (List ℕ))
code_section = vector u32 byte_vector

module _ {Module : Type 0} (f : Format Module) where
  -- the payload of a section is in the grammar of its id. A custom section begins with a name, and of the code section
  -- this is the count and the cutting into bodies
  abbrev pub IsPart : Part → Type 0
  IsPart s = Chosen (s.id == 0) (IsCustom s.payload) (Chosen (s.id == 10) (IsSpelled code_section s.payload) (f.InGrammar s.id s.payload))

  -- the sections, the bodies that the code section is cut into, and what all of them spell. Custom sections add nothing
  pub record Grammar (b : List ℕ) (m : Module) : Type 0 where
    pub parts : List Part
    pub frame : Frame f.version b parts Whole
    pub within : AllByRecursion IsPart parts
    pub contents : f.Contents parts m
    pub texts : List (List ℕ)
    pub cut : Content 10 code_section [] parts texts
    pub codes : Each f.body.text texts (f.codes m)

  -- the bytes spell the module
  pub record Spells (b : List ℕ) (m : Module) : Type 0 where
    pub grammar : Grammar b m
    pub counts : f.Agrees m
