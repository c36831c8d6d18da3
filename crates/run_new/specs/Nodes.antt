-- Code of nodes as a language that a machine runs: a node does what the instruction does for which it stands, and its
-- bodies are its own. The module is that for which typed code stands.
use Rattle.std.specs.Prelude.{ℕ, ◌-◌, nat_lt, if◌then◌else◌, List, length, map, slice_get, Option, Some, option_map, option_and_then}
use Rattle.host_kit.specs.Offered.{func_type}
use Rattle.wasm_ast.specs.declared.module.ty.FuncType.{FuncType}
use Rattle.wasm_ast.specs.declared.module.code.Instr.{Instr, out-Instr}
use Rattle.wasm_ast.specs.declared.module.code.Instr.TheOpen.{Instr-F}
use Rattle.wasm_ast.specs.declared.module.parts.Module.{Module}
use Rattle.typed_trees.specs.declared.node.Node.{Node}
use Rattle.typed_trees.specs.declared.module.TypedFn.{TypedFn}
use Rattle.typed_trees.specs.Trees.{head_of, first_of, second_of, erase}
use Rattle.typed_trees.specs.Typed.{module_of}
use Rattle.evaluation_kit.specs.Control.{Function, Callee, Own, Host}
use Rattle.evaluation_kit.specs.Forms.{Form, Flat, Enclose, Repeat, Choose, Guard, Invoke, InvokeBy}
use Rattle.evaluation_kit.specs.Languages.{Language, func, exec}
use Rattle.machine_kit.specs.Acts.{Acts}
use Rattle.machine_kit.specs.Whole.{instr_size}
use Rattle.meaning_new.specs.declared.val.Val.{Val}
use Rattle.meaning_new.specs.Store.{default}
use Rattle.run_kit.specs.Narrowing.{part_act, part_form, part_language}
use Rattle.run_new.specs.States.{Kept, unbounded}
use Rattle.meaning_new.specs.Host.{host_call}
use Rattle.meaning_new.specs.Forms.{layer, imported_funcs}
use Rattle.meaning_new.specs.Language.{language}

-- a form with other bodies
abbrev pub with_code : {V S X Y : Type 0} → Form V S X → List Y → List Y → Form V S Y
with_code (Flat act) first second = Flat act
with_code (Enclose p r body) first second = Enclose p r first
with_code (Repeat p r body) first second = Repeat p r first
with_code (Choose test p r a b) first second = Choose test p r first second
with_code (Guard p r h body) first second = Guard p r h first
with_code (Invoke p x) first second = Invoke p x
with_code (InvokeBy p pick) first second = InvokeBy p pick

-- the language of a run without bounds
abbrev pub unbounded_language : Module → Language Instr Instr-F Val Kept
unbounded_language m = part_language unbounded (language m)

-- the form of a node: that of its head, with the bodies of the node
abbrev pub node_form : Module → Node → Form Val Kept Node
node_form m n = with_code (part_form unbounded (layer m Instr (out-Instr (head_of n)))) (first_of n) (second_of n)

-- a function of the module, and what an index names
abbrev pub node_function : FuncType → TypedFn → Function Node Val
node_function t f = record { params = length t.params; results = length t.results; zeros = map default f.locals; body = f.body }

abbrev pub node_callee_of_type : Module × List TypedFn → ℕ → FuncType → Option (Callee Node Val Kept)
node_callee_of_type p x t =
    if nat_lt x (imported_funcs p.0)
    then Some (Host (length t.params) (part_act unbounded (host_call (module_of p) x)))
    else option_map (λ f. Own (node_function t f)) (slice_get p.1 (x - imported_funcs p.0))

abbrev pub node_callee : Module × List TypedFn → ℕ → Option (Callee Node Val Kept)
node_callee p x = option_and_then (node_callee_of_type p x) (func_type (module_of p) x)

abbrev pub node_acts : Module × List TypedFn → Acts Node Val Kept
node_acts p = record {
  form = node_form (module_of p);
  exec = λ n. exec (unbounded_language (module_of p)) (erase n);
  func = func (unbounded_language (module_of p));
  callee = node_callee p;
  size = λ n. instr_size (unbounded_language (module_of p)) (erase n);
}
