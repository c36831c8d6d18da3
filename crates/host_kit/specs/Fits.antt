-- That a script fits a module: it asks for nothing that the module does not offer, with values of the right types and
-- within the ranges that scripts have.
use Rattle.std.specs.Prelude.{◌≡◌, ℕ, ◌-◌, ◌<◌, ◌≤◌, ◌^◌, true, List, [], length, filter_map, slice_get, Option, Some, None}
use Rattle.std.specs.List.{AllByRecursion}
use Rattle.wasm_ast.specs.Spaces.{func_indices, memory_count, func_import, global_import}
use Rattle.wasm_ast.specs.declared.module.ty.Ty.{Ty}
use Rattle.wasm_ast.specs.declared.module.ty.Ty.TheVariants as types
use Rattle.wasm_ast.specs.declared.module.ty.FuncType.{FuncType}
use Rattle.wasm_ast.specs.declared.module.parts.ExportDesc.TheVariants as exports
use Rattle.wasm_ast.specs.declared.module.parts.Module.{Module}
use Rattle.host_kit.specs.Pairwise.{Pairwise}
use Rattle.host_kit.specs.Offered.{exported, func_type, all_globals}
use Rattle.host_kit.specs.declared.script.Act.{Act}
use Rattle.host_kit.specs.declared.script.Act.TheVariants.{Set, Peek, Poke}
use Rattle.host_kit.specs.declared.script.Item.{Item}
use Rattle.host_kit.specs.declared.script.Item.TheVariants.{Call, Host}
use Rattle.host_kit.specs.declared.script.Reply.{Reply}
use Rattle.host_kit.specs.declared.script.Script.{Script}
use Rattle.host_kit.specs.declared.value.Value.{Value}
use Rattle.host_kit.specs.declared.value.Value.TheVariants as values

-- the value has the type, and its number is one of the type's
abbrev pub ValueHasType : Module → Value → Ty → Type 0
ValueHasType m (values.I32 i) types.I32 = i < 2 ^ 32
ValueHasType m (values.I64 i) types.I64 = i < 2 ^ 64
ValueHasType m (values.V128 low high) types.V128 = (low < 2 ^ 64) × (high < 2 ^ 64)
ValueHasType m (values.Func x) types.Func = x < length (func_indices m)
ValueHasType m (values.Extern a) types.Extern = a < 2 ^ 32 - 1
ValueHasType m values.NullFunc types.Func = Unit {0}
ValueHasType m values.NullExtern types.Extern = Unit {0}
ValueHasType m v t = ⊥

-- as many values as types, each of its type
abbrev pub ValuesHaveTypes : Module → List Value → List Ty → Type 0
ValuesHaveTypes m vs ts = Pairwise (ValueHasType m) vs ts

-- an exported function that takes the arguments, an exported global that can be set to the value, and an exported memory
pub record CallFits (m : Module) (name : List ℕ) (arguments : List Value) : Type 0 where
  pub func : ℕ
  pub type : FuncType
  pub offered : exported m name ≡ Some (exports.Func func)
  pub typed : func_type m func ≡ Some type
  pub params : ValuesHaveTypes m arguments type.params

pub record SetFits (m : Module) (name : List ℕ) (v : Value) : Type 0 where
  pub index : ℕ
  pub type : Ty
  pub offered : exported m name ≡ Some (exports.Global index)
  pub mutable : slice_get (all_globals m) index ≡ Some (record { ty = type; mutable = true })
  pub value : ValueHasType m v type

pub record MemoryFits (m : Module) (name : List ℕ) (at count : ℕ) : Type 0 where
  pub index : ℕ
  pub offered : exported m name ≡ Some (exports.Memory index)
  pub there : index < memory_count m
  pub address : at < 2 ^ 64
  pub few : count ≤ 65536

abbrev pub ActFits : Module → Act → Type 0
ActFits m (Set name v) = SetFits m name v
ActFits m (Peek name at count) = MemoryFits m name at count
ActFits m (Poke name at bytes) = MemoryFits m name at (length bytes) × AllByRecursion (λ b. b < 2 ^ 8) bytes

abbrev pub ItemFits : Module → Item → Type 0
ItemFits m (Call name arguments) = CallFits m name arguments
ItemFits m (Host a) = ActFits m a

-- the replies to an imported function give its results
pub record ReplyFits (m : Module) (results : List Ty) (reply : Reply) : Type 0 where
  pub acts : AllByRecursion (ActFits m) reply.acts
  pub values : ValuesHaveTypes m reply.values results

abbrev pub results_of : Option FuncType → List Ty
results_of None = []
results_of (Some t) = t.results

-- one list of replies for each imported function, by the indices of their types
abbrev pub RepliesFit : Module → List (List Reply) → List ℕ → Type 0
RepliesFit m replies indices = Pairwise (λ rs t. AllByRecursion (ReplyFits m (results_of (slice_get m.types t))) rs) replies indices

pub record ScriptFits (m : Module) (script : Script) : Type 0 where
  -- one value for each imported global, and one list of replies for each imported function
  pub globals : ValuesHaveTypes m script.globals (filter_map (λ i. global_import i.desc) m.imports)
  pub replies : RepliesFit m script.replies (filter_map (λ i. func_import i.desc) m.imports)
  pub items : AllByRecursion (ItemFits m) script.items
