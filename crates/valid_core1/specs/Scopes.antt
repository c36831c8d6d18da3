-- The context that the algorithm keeps of a module and of a function.
use Rattle.std.specs.Prelude.{◌≡◌, List, [], ◌++◌, length, map, take, reverse, Some}
use Rattle.core1_ast.specs.declared.module.ty.BlockType1.{BlockType1}
use Rattle.core1_ast.specs.declared.module.ty.Ty1.{Ty1}
use Rattle.core1_ast.specs.declared.module.parts.Module1.{Module1}
use Rattle.core1_ast.specs.Operands.{block_results}
use Rattle.core1_ast.specs.Spaces.{GlobalType, func_indices, all_tables, all_memories, imported_globals, all_globals}
use Rattle.core1_ast.specs.Code.{Context}
use Rattle.valid_core1.specs.declared.spaces.GlobalTy.{GlobalTy}
use Rattle.valid_core1.specs.declared.spaces.Spaces.{Spaces}
use Rattle.valid_core1.specs.declared.scope.Scope.{Scope}

abbrev pub global_type : GlobalTy → GlobalType
global_type g = record { type = g.ty; mutable = g.mutable }

-- these are the index spaces of the module
pub record AreSpaces (m : Module1) (s : Spaces) : Type 0 where
  pub funcs : s.funcs ≡ func_indices m
  pub globals : map global_type s.globals ≡ all_globals m
  pub imported : map global_type (take s.imported_globals s.globals) ≡ imported_globals m
  pub tables : s.tables ≡ length (all_tables m)
  pub memories : s.memories ≡ length (all_memories m)

-- the context inside a function, without its labels
abbrev pub context_of : Scope → Context
context_of s = record {
  types = s.module.now.types;
  funcs = func_indices s.module.now;
  tables = all_tables s.module.now;
  memories = all_memories s.module.now;
  globals = all_globals s.module.now;
  locals = s.params.now ++ s.locals.now;
  labels = [];
  returns = Some (block_results s.results);
}

-- the types that branches to labels take, by the types of the blocks, the innermost block last
abbrev pub label_types : List BlockType1 → List (List Ty1)
label_types labels = map block_results (reverse labels)
