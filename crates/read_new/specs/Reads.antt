-- What an answer to reading a file of 3.0 says of its bytes.
use Rattle.std.specs.Prelude.{ℕ, List, Result}
use Rattle.wasm_ast.specs.declared.module.parts.Module.{Module}
use Rattle.module_reading.specs.declared.fault.ReadFault.{ReadFault}
use Rattle.module_reading.specs.Reads as shared
use Rattle.read_new.specs.Spells.{three}

abbrev pub Reads : List ℕ → Result Module ReadFault → Type 0
Reads b result = shared.Reads three b result

-- unless memory was not found
abbrev pub Tells : List ℕ → Result Module ReadFault → Type 0
Tells b result = shared.Tells three b result
