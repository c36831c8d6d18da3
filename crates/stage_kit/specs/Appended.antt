-- A module with more functions and more types behind those of another, and the same tags.
use Rattle.std.specs.Prelude.{◌≡◌, ℕ, ◌<◌, nat_lt, List, [], ◌∷◌, ◌++◌, length}
use Rattle.std.specs.List.{AllByRecursion}
use Rattle.wasm_ast.specs.Spaces.{func_indices}
use Rattle.wasm_ast.specs.declared.module.parts.Global.{Global}
use Rattle.wasm_ast.specs.declared.module.parts.Module.{Module}
use Rattle.wasm_ast.specs.declared.module.ty.FuncType.{FuncType}
use Rattle.meaning_new.specs.declared.val.Val.{Val}
use Rattle.meaning_new.specs.Instances.{constant}
use Rattle.meaning_new.specs.Interface.{tag_indices}
use Rattle.stage_kit.specs.Adding.{Names}

pub record Appended (m o : Module) : Type 0 where
  pub more_types : List FuncType
  pub types : o.types ≡ m.types ++ more_types
  pub more_funcs : List ℕ
  pub funcs : func_indices o ≡ func_indices m ++ more_funcs
  pub tags : tag_indices o ≡ tag_indices m
  -- functions and tags of the input have types
  pub funcs_typed : AllByRecursion (λ t. t < length m.types) (func_indices m)
  pub tags_typed : AllByRecursion (λ t. t < length m.types) (tag_indices m)

-- all that a module with so many globals has
abbrev pub names_of : Module → ℕ → Names
names_of m globals = record {
  func = λ x. nat_lt x (length (func_indices m));
  global = λ x. nat_lt x globals;
  type = λ x. nat_lt x (length m.types);
}

-- The same imports, exports, memories, tables and segments, the same start function, and more globals behind.
pub record Alike (m o : Module) : Type 0 where
  pub imports : o.imports ≡ m.imports
  pub exports : o.exports ≡ m.exports
  pub memories : o.memories ≡ m.memories
  pub tables : o.tables ≡ m.tables
  pub elems : o.elems ≡ m.elems
  pub datas : o.datas ≡ m.datas
  pub start : o.start ≡ m.start
  pub more_globals : List Global
  pub globals : o.globals ≡ m.globals ++ more_globals

-- the values with which globals behind others begin
abbrev pub added_values : List Global → List Val → List Val
added_values [] before = []
added_values (g ∷ more) before = constant before g.init ∷ added_values more (before ++ constant before g.init ∷ [])
