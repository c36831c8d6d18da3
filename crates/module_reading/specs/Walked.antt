-- What a walk over the sections of a file has found.
use Rattle.std.specs.Prelude.{List}
use Rattle.std.specs.List.{AllByRecursion}
use Rattle.wasm_frame.specs.Frame.{Part, Frame, Whole}
use Rattle.wasm_frame.specs.Payloads.{payload_of}
use Rattle.module_reading.specs.declared.sections.Walked.{Walked}
use Rattle.module_reading.specs.Bodies.{IsWalked}
use Rattle.module_reading.specs.Files.{Sectioned}
use Rattle.module_reading.specs.Format.{Format}
use Rattle.module_reading.specs.Means.{Means}
use Rattle.module_reading.specs.Sizes.{AreSections, Both}
use Rattle.module_reading.specs.Spells.{IsPart}

module _ {Module : Type 0} (f : Format Module) (means : Means f) where
  -- these sections are in their grammar, and that is how large they are
  pub record AreWalked (parts : List Part) (walked : Walked) : Type 0 where
    pub parts_hold : AllByRecursion (IsPart f) parts
    pub sections : AreSections f means (λ id. payload_of id parts) walked.sections
    pub bodies : Both (IsWalked f means) (payload_of 10 parts) walked.bodies

  -- and they are those of the file
  pub record IsWalkedOver (file : Sectioned) (walked : Walked) : Type 0 where
    pub frame : Frame f.version file.bytes file.parts Whole
    pub all : AreWalked file.parts walked
