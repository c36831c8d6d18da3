-- What tells one version of the binary format from another: chapter 5 of the standard, "Modules". What the versions share
-- stands in `specs/Spells.antt`.
use Rattle.std.specs.Prelude.{ℕ, List, Option}
use Rattle.grammar_kit.specs.Form.{Form}
use Rattle.wasm_frame.specs.declared.sections.Version.{Version}
use Rattle.wasm_frame.specs.Frame.{Part}
use Rattle.module_reading.specs.declared.kind.Kind.{Kind}

pub record Format (Module : Type 0) : Type 1 where
  -- which sections there are, and in which order
  pub version : Version
  -- the payload of a section of this id is in its grammar; custom sections and the code section are alike in all versions
  pub InGrammar : ℕ → List ℕ → Type 0
  -- what the sections spell, the bodies left out
  pub Contents : List Part → Module → Type 0
  pub Body : Type 0
  -- which bytes spell a body
  pub body : Form Body
  -- the bodies of a module
  pub codes : Module → List Body
  -- the counts of a module agree
  pub Agrees : Module → Type 0
  -- how much of each kind a module has
  pub number : Kind → Module → ℕ
  -- how much of each kind it may have; nothing where the version has no limit
  pub limit : Kind → Option ℕ
