-- Typed nodes as a language whose instructions ask for types: one whose operands lack the types that its node takes is
-- stuck, and so is a plain one that would leave others than those that its node gives. So whatever is read, of locals,
-- globals or tables, has its type where it is read.
use Rattle.std.specs.Prelude.{Bool, true, ◌&&◌, List, length, reverse, take, refl}
use Rattle.wasm_ast.specs.declared.module.ty.Ty.{Ty}
use Rattle.wasm_ast.specs.declared.module.code.Instr.{Instr, out-Instr}
use Rattle.wasm_ast.specs.declared.module.parts.Module.{Module}
use Rattle.typed_trees.specs.declared.node.Node.{Node}
use Rattle.typed_trees.specs.declared.node.Node.TheOpen.{Node-F}
use Rattle.typed_trees.specs.declared.module.TypedFn.{TypedFn}
use Rattle.outcome_kit.specs.Code.{Go, Leave}
use Rattle.evaluation_kit.specs.Configurations.{Plain, PlainRes}
use Rattle.evaluation_kit.specs.Forms.{Form, Flat}
use Rattle.evaluation_kit.specs.Languages.{Language}
use Rattle.meaning_new.specs.declared.val.Val.{Val}
use Rattle.meaning_new.specs.Store.{State}
use Rattle.meaning_new.specs.Forms.{layer}
use Rattle.node_meaning.specs.Nodes.{node_language}
use Rattle.soundness.specs.States.{have_types, func_count, made}

-- the topmost operands have these types, the top last
abbrev pub top_typed : Module → List Ty → Plain Val State → Bool
top_typed m ts p = have_types (func_count m) (made p.state) (take (length ts) p.operands) (reverse ts)

-- where a plain instruction goes on, it leaves operands of these types
abbrev pub left_typed : Module → List Ty → PlainRes Val State → Bool
left_typed m ts (Go p) = top_typed m ts p
left_typed m ts (Leave jump p) = true

abbrev pub gives_typed : Module → List Ty → Form Val State Instr → Plain Val State → Bool
gives_typed m ts (Flat act) p = left_typed m ts (act p)
gives_typed m ts form p = true

-- an instruction that takes the first types and gives the second
abbrev pub node_typed : Module → Instr → List Ty × List Ty → Plain Val State → Bool
node_typed m head types p = top_typed m types.0 p && gives_typed m types.1 (layer m Instr (out-Instr head)) p

-- the language in which a module is written whose functions are these, where every node asks
abbrev pub strict_language : Module → List TypedFn → Language Node Node-F Val State
strict_language m fns = record (node_language m fns) { ready = λ X l p. node_typed m l.head l.types p; ready_over = λ X Y f l. refl }
