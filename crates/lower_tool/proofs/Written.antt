-- What is written for a module without the code that cannot be reached is written for the module.
use Rattle.std.proofs.Common.{ℕ, List}
use Rattle.std.specs.Prelude.{Result, Ok, Err, IfOk}
use Rattle.core1_ast.specs.Typing.{Typed1}
use Rattle.core1_ast.specs.declared.module.parts.Module1.{Module1}
use Rattle.core1_bytes.specs.Spells.{Spells1}
use Rattle.headline.specs.Cuts.{IsCut}
use Rattle.headline.specs.Headline.{Same}
use Rattle.headline.specs.MappedInterface.{SameInterface}
use Rattle.headline.proofs.Cuts.{cuts_are_same, cuts_are_linked_alike}
use Rattle.headline.proofs.Frames.{few_frames}
use Rattle.wasm_ast.specs.declared.module.parts.Module.{Module}
use Rattle.lower_tool.specs.Lowering.{IsWrittenFor}

pub written_by : {E : Type 0} (captures : ℕ) (m : Module) (m1 : Module1) (r : Result (List ℕ) E) → Typed1 m1 → SameInterface m m1 → Same 1 1 m m1 captures → IfOk r (λ written. Spells1 written m1) → IfOk r (IsWrittenFor captures m)
written_by captures m m1 (Ok written) typed linked same spells = (m1, spells, typed, linked, few_frames m m1 captures same)
written_by captures m m1 (Err e) typed linked same spells = tt

pub written_whole : (captures : ℕ) (m cut : Module) (written : List ℕ) → IsCut m cut → IsWrittenFor captures cut written → IsWrittenFor captures m written
written_whole captures m cut written is h =
    (h.0, h.1, h.2, cuts_are_linked_alike m cut h.0 is h.3, cuts_are_same m cut h.0 4 16 captures is h.4)
