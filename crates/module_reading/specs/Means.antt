-- By what a version of the format is read. Nothing here has to be believed: the contracts of reading are told by
-- `specs/Reads.antt`.
use Rattle.std.specs.Prelude.{◌≡◌, ℕ, List, [], Bool, Option, Some}
use Rattle.grammar_kit.specs.Form.{vector}
use Rattle.grammar_kit.specs.Exact.{Exact}
use Rattle.grammar_kit.specs.Sequences.{sized}
use Rattle.wasm_frame.specs.Frame.{Part}
use Rattle.wasm_frame.specs.Leb128.{u32}
use Rattle.wasm_frame.specs.Payloads.{payload_of, value}
use Rattle.module_reading.specs.declared.sizes.Sizes.{Sizes}
use Rattle.module_reading.specs.Format.{Format}
use Rattle.module_reading.specs.Spells.{IsPart}

pub record Means {Module : Type 0} (f : Format Module) : Type 1 where
  -- the module of payloads, by the ids of their sections
  pub made : (ℕ → Option (List ℕ)) → Module
  -- how many locals a body declares, how deeply its instructions nest, and whether one of them names a data segment
  pub body_sizes : f.Body → ℕ × ℕ × Bool
  -- how large the payload of a section of this id is
  pub HasSizes : ℕ → List ℕ → Sizes → Type 0

-- what a version owes of them
pub record Laws {Module : Type 0} (f : Format Module) (means : Means f) : Type 0 where
  pub exact_body : Exact f.body
  -- the module of payloads has the contents of the sections, where each is in its grammar
  pub contents : (parts : List Part) → ((id : ℕ) (p : List ℕ) → payload_of id parts ≡ Some p → IsPart f (record { id = id; payload = p })) → f.Contents parts (means.made (λ id. payload_of id parts))
  -- and the bodies of the code section, each behind its size
  pub codes : (at : ℕ → Option (List ℕ)) → f.codes (means.made at) ≡ value (vector u32 (sized u32 f.body)) [] (at 10)
  -- sections and bodies have one module
  pub one_module : (parts : List Part) (m o : Module) → f.Contents parts m → f.Contents parts o → f.codes m ≡ f.codes o → m ≡ o
