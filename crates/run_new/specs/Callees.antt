-- What the index of a function names, as a call answers it.
use Rattle.std.specs.Prelude.{◌≡◌, ℕ, Bool, List, length, map, bytes_eq, Option, Some, None}
use Rattle.wasm_ast.specs.Types.{type_code}
use Rattle.wasm_ast.specs.declared.module.ty.Ty.{Ty}
use Rattle.wasm_ast.specs.declared.module.parts.Module.{Module}
use Rattle.typed_trees.specs.declared.node.Node.{Node}
use Rattle.typed_trees.specs.declared.module.TypedFn.{TypedFn}
use Rattle.typed_trees.specs.Typed.{module_of}
use Rattle.evaluation_kit.specs.Control as control
use Rattle.evaluation_kit.specs.Control.{Callee}
use Rattle.meaning_new.specs.declared.val.Val.{Val}
use Rattle.run_kit.specs.Narrowing.{part_act}
use Rattle.run_new.specs.States.{Kept, unbounded}
use Rattle.meaning_new.specs.Host.{host_call}
use Rattle.run_new.specs.Nodes.{node_function}
use Rattle.run_new.specs.declared.program.Callee.TheVariants.{Missing, Own, Host}
use Rattle.run_new.specs.declared.program.Callee as callees

-- no function; a function of the module, with its type and its body; a function of the host's, with its type
abbrev pub CalleeIs : Module × List TypedFn → ℕ → Option (Callee Node Val Kept) → callees.Callee → Type 0
CalleeIs p x callee Missing = callee ≡ None
CalleeIs p x callee (Own t f) = callee ≡ Some (control.Own (node_function t.now f.now))
CalleeIs p x callee (Host t) = callee ≡ Some (control.Host (length t.now.params) (part_act unbounded (host_call (module_of p) x)))

-- lists of types compared by their codes
abbrev pub equal_types : List Ty → List Ty → Bool
equal_types ss ts = bytes_eq (map type_code ss) (map type_code ts)
