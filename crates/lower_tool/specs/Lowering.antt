-- What the lowering takes and makes, as bytes.
use Rattle.std.specs.Prelude.{ℕ, List}
use Rattle.wasm_ast.specs.declared.module.parts.Module.{Module}
use Rattle.core1_ast.specs.Typing.{Typed1}
use Rattle.core1_ast.specs.declared.module.parts.Module1.{Module1}
use Rattle.core1_bytes.specs.Spells.{Spells1}
use Rattle.headline.specs.Headline.{Same}
use Rattle.headline.specs.MappedInterface.{SameInterface}
use Rattle.read_new.specs.Spells.{Spells}

-- The bytes are those of a lowering of the module, for a store of so many captured exceptions: they spell a module that
-- the rules of 1.0 type, that is linked as the first is, and that shows what the first shows, with at most 4 d + 16 live
-- frames.
abbrev pub IsWrittenFor : ℕ → Module → List ℕ → Type 0
IsWrittenFor captures m written =
    (m1 : Module1) × Spells1 written m1 × Typed1 m1 × SameInterface m m1 × Same 4 16 m m1 captures

-- the second are the bytes of a lowering of the module that the first spell
abbrev pub Lowers : ℕ → List ℕ → List ℕ → Type 0
Lowers captures bytes written = (m : Module) × Spells bytes m × IsWrittenFor captures m written
