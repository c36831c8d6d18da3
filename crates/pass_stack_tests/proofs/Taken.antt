-- A module that the stack takes is taken when it is typed.
use Rattle.std.proofs.Common.{◌≡◌, List, None}
use Rattle.std.specs.Prelude.{Result, Ok, Err, IfOk, IfSome}
use Rattle.std.specs.Result.{result_ok}
use Rattle.pass_stack.specs.Profile.{outside_stack}
use Rattle.pass_stack.proofs.Cut.{taken_too}
use Rattle.typed_trees.specs.declared.module.TypedFn.{TypedFn}
use Rattle.typed_trees.specs.Typed.{module_of}
use Rattle.valid_mod.specs.Standing.{StandsFor}
use Rattle.wasm_ast.specs.declared.module.parts.Module.{Module}

pub typed_taken : {E : Type 0} (m : Module) (r : Result (Module × List TypedFn) E) → outside_stack m ≡ None → IfOk r (StandsFor m) → IfSome (result_ok r) (λ typed. outside_stack (module_of typed) ≡ None)
typed_taken m (Ok tree) taken stands = taken_too m tree stands taken
typed_taken m (Err e) taken stands = tt
