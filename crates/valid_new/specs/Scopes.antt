-- The context that index spaces and a scope stand for.
use Rattle.std.specs.Prelude.{List, [], ◌++◌, map, reverse, Some, None, option_map}
use Rattle.std.specs.Borrow.{Bor}
use Rattle.wasm_ast.specs.declared.module.ty.Ty.{Ty}
use Rattle.wasm_ast.specs.declared.module.ty.FuncType.{FuncType}
use Rattle.typed_trees.specs.Contexts.{Context}
use Rattle.valid_new.specs.declared.scope.Spaces.{Spaces}
use Rattle.valid_new.specs.declared.scope.Scope.{Scope}

-- outside functions
abbrev pub spaces_context : Spaces → Context
spaces_context s = record {
  types = s.types.now;
  funcs = s.funcs;
  tags = s.tags;
  tables = s.tables;
  elems = s.elems;
  memories = s.memories;
  datas = s.datas;
  globals = s.globals;
  refs = s.refs;
  locals = [];
  returns = None;
}

-- inside a function
abbrev pub context_of : Scope → Context
context_of s =
    record (spaces_context s.spaces.now) { locals = s.params.now ++ s.locals.now; returns = option_map (λ ts. ts.now) s.returns }

-- the context inside a function of the type, with these declared locals
abbrev pub inside : Context → FuncType → List Ty → Context
inside c t locals = record c { locals = t.params ++ locals; returns = Some t.results }

-- what branches to labels take, of which the innermost is the last
abbrev pub labels_of : List (Bor (List Ty)) → List (List Ty)
labels_of labels = map (λ label. label.now) (reverse labels)
