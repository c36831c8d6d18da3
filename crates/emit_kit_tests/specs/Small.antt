-- The small module that is built from nothing.
use Rattle.std.specs.Prelude.{[], None, Some}
use Rattle.wasm_ast.specs.declared.module.ty.FuncType.{FuncType}
use Rattle.wasm_ast.specs.declared.module.parts.Module.{Module}
use Rattle.typed_trees.specs.declared.module.TypedFn.{TypedFn}
use Rattle.emit_kit.specs.Built.{Built, with_type, with_function}

-- a module with nothing in it
abbrev pub nothing : Module
nothing = record {
  types = [];
  imports = [];
  funcs = [];
  tables = [];
  memories = [];
  tags = [];
  globals = [];
  exports = [];
  start = None;
  elems = [];
  data_count = Some 0;
  codes = [];
  datas = [];
}

-- a type without parameters and results
abbrev pub thunk : FuncType
thunk = record { params = []; results = [] }

-- a function that does nothing
abbrev pub idle : TypedFn
idle = record { locals = []; body = [] }

-- a module of that function alone
abbrev pub small : Built
small = with_function (with_type (nothing, []) thunk) 0 idle
