-- A module of one function, which is tried whole.
use Rattle.std.specs.Prelude.{◌≡◌, List, [], ◌∷◌, length, Some, None}
use Rattle.wasm_ast.specs.declared.module.ty.Ty.TheVariants.{I32}
use Rattle.wasm_ast.specs.declared.module.code.Body.{Body}
use Rattle.wasm_ast.specs.declared.module.parts.Module.{Module}

-- one function of type [] -> [i32], with these bodies
abbrev pub with_codes : List Body → Module
with_codes codes = record {
  types = record { params = []; results = I32 ∷ [] } ∷ [];
  imports = [];
  funcs = 0 ∷ [];
  tables = [];
  memories = [];
  tags = [];
  globals = [];
  exports = [];
  start = None;
  elems = [];
  data_count = Some 0;
  codes = codes;
  datas = [];
}

pub record IsExample (m : Module) : Type 0 where
  pub parts : m ≡ with_codes m.codes
  pub body : length m.codes ≡ 1
