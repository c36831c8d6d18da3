-- The context of code that crosses, as 1.0 writes it.
use Rattle.std.specs.Prelude.{List, map, option_map}
use Rattle.wasm_ast.specs.declared.module.ty.Ty.{Ty}
use Rattle.core1_ast.specs.declared.module.ty.Ty1.{Ty1}
use Rattle.core1_ast.specs.declared.module.ty.Limits1.{Limits1}
use Rattle.core1_ast.specs.Spaces as spaces1
use Rattle.core1_ast.specs.Code as old
use Rattle.typed_trees.specs.declared.global_type.GlobalType.{GlobalType}
use Rattle.typed_trees.specs.Contexts.{Context}
use Rattle.crossing.specs.Code.{cross_type}
use Rattle.crossing.specs.Modules.{cross_func_type}

abbrev pub cross_types : List Ty → List Ty1
cross_types ts = map cross_type ts

abbrev pub cross_global_type : GlobalType → spaces1.GlobalType
cross_global_type g = record { type = cross_type g.ty; mutable = g.mutable }

-- under these labels, with the limits of the tables and memories
abbrev pub crossed_context : Context → List (List Ty) → List Limits1 → List Limits1 → old.Context
crossed_context c ls tables memories = record {
  types = map cross_func_type c.types;
  funcs = c.funcs;
  tables = tables;
  memories = memories;
  globals = map cross_global_type c.globals;
  locals = cross_types c.locals;
  labels = map cross_types ls;
  returns = option_map cross_types c.returns;
}
