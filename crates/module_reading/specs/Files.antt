-- The bytes of a file with its sections in place.
use Rattle.std.specs.Prelude.{ℕ, List, Option}
use Rattle.wasm_frame.specs.declared.sections.Version.{Version}
use Rattle.wasm_frame.specs.Frame.{Part}
use Rattle.wasm_frame.specs.Payloads.{payload_of}

-- a version of the format, the bytes of a file, and its sections
pub record Sectioned : Type 0 where
  pub version : Version
  pub bytes : List ℕ
  pub parts : List Part

-- the payload of the section of an id, if there is one
abbrev pub payloads : Sectioned → ℕ → Option (List ℕ)
payloads file id = payload_of id file.parts
