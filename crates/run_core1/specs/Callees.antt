-- What the index of a function names, as a call answers it.
use Rattle.std.specs.Prelude.{◌≡◌, ℕ, length, Option, Some, None}
use Rattle.core1_ast.specs.declared.module.parts.Module1.{Module1}
use Rattle.core1_ast.specs.declared.module.code.Instr1.{Instr1}
use Rattle.evaluation_kit.specs.Control as control
use Rattle.evaluation_kit.specs.Control.{Callee}
use Rattle.meaning_core1.specs.declared.val1.Val1.{Val1}
use Rattle.meaning_core1.specs.Store.{State1}
use Rattle.meaning_core1.specs.Hosting.{call_host}
use Rattle.meaning_core1.specs.Language.{function1}
use Rattle.run_core1.specs.declared.program.Callee1.{Callee1}
use Rattle.run_core1.specs.declared.program.Callee1.TheVariants.{Missing, Own, Host}

-- no function; a function of the module, with its type and its body; a function of the host's, with its type
abbrev pub CalleeIs : Module1 → ℕ → Option (Callee Instr1 Val1 State1) → Callee1 → Type 0
CalleeIs m x callee Missing = callee ≡ None
CalleeIs m x callee (Own t body) = callee ≡ Some (control.Own (function1 t.now body.now))
CalleeIs m x callee (Host t) = callee ≡ Some (control.Host (length t.now.params) (call_host m x))
