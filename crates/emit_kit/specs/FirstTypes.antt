-- A list of keys of types, each beside the first index of its type.
use Rattle.std.specs.Prelude.{◌≡◌, ℕ, ◌≤◌, cond, bytes_eq, List, [], ◌∷◌, slice_get, Option, Some, None, MatchOption}
use Rattle.wasm_ast.specs.declared.module.ty.FuncType.{FuncType}
use Rattle.wasm_ast.specs.Types.{type_key}

-- the index beside the key, if it is there
abbrev pub index_at : List ℕ → List (List ℕ × ℕ) → Option ℕ
index_at key [] = None
index_at key (entry ∷ entries) = cond (bytes_eq key entry.0) (Some entry.1) (index_at key entries)

-- the least index of a type with this key
pub record IsFirstOfKey (key : List ℕ) (types : List FuncType) (index : ℕ) : Type 0 where
  pub type : FuncType
  pub there : slice_get types index ≡ Some type
  pub keyed : type_key type ≡ key
  pub first : (i : ℕ) (t : FuncType) → slice_get types i ≡ Some t → type_key t ≡ key → index ≤ i

-- no type has this key
pub record IsNoKey (key : List ℕ) (types : List FuncType) : Type 0 where
  pub none : (i : ℕ) (t : FuncType) → slice_get types i ≡ Some t → type_key t ≡ key → ⊥

abbrev pub Tells : List ℕ → List FuncType → Option ℕ → Type 0
Tells key types found = MatchOption found (IsNoKey key types) (IsFirstOfKey key types)

-- the entries tell of each key whether a type has it, and which is the first
pub record TellsOfTypes (types : List FuncType) (entries : List (List ℕ × ℕ)) : Type 0 where
  pub tells : (key : List ℕ) → Tells key types (index_at key entries)
