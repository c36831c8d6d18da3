-- That a script fits a module of 1.0: it asks for nothing that the module does not offer, with values of the right types
-- and within the ranges that scripts have.
use Rattle.std.specs.Prelude.{◌≡◌, ℕ, ◌<◌, ◌≤◌, ◌^◌, true, List, [], length, filter_map, slice_get, Option, Some, None}
use Rattle.std.specs.List.{AllByRecursion}
use Rattle.core1_ast.specs.Spaces.{func_import, all_memories}
use Rattle.core1_ast.specs.declared.module.ty.Ty1.{Ty1}
use Rattle.core1_ast.specs.declared.module.ty.Ty1.TheVariants as types
use Rattle.core1_ast.specs.declared.module.ty.FuncType1.{FuncType1}
use Rattle.core1_ast.specs.declared.module.parts.ExportDesc1.TheVariants as exports
use Rattle.core1_ast.specs.declared.module.parts.Module1.{Module1}
use Rattle.host_kit.specs.Pairwise.{Pairwise}
use Rattle.host_kit.specs.Offered1.{exported1, func_type1, global_import1, all_globals1}
use Rattle.host_kit.specs.declared.script.Act.{Act}
use Rattle.host_kit.specs.declared.script.Act.TheVariants.{Set, Peek, Poke}
use Rattle.host_kit.specs.declared.script.Item.{Item}
use Rattle.host_kit.specs.declared.script.Item.TheVariants.{Call, Host}
use Rattle.host_kit.specs.declared.script.Reply.{Reply}
use Rattle.host_kit.specs.declared.script.Script.{Script}
use Rattle.host_kit.specs.declared.value.Value.{Value}
use Rattle.host_kit.specs.declared.value.Value.TheVariants as values

-- the value has the type, and its number is one of the type's
abbrev pub ValueHasType1 : Value → Ty1 → Type 0
ValueHasType1 (values.I32 i) types.I32 = i < 2 ^ 32
ValueHasType1 (values.I64 i) types.I64 = i < 2 ^ 64
ValueHasType1 v t = ⊥

-- as many values as types, each of its type
abbrev pub ValuesHaveTypes1 : List Value → List Ty1 → Type 0
ValuesHaveTypes1 vs ts = Pairwise ValueHasType1 vs ts

-- an exported function that takes the arguments, an exported global that can be set to the value, and an exported memory
pub record CallFits1 (m : Module1) (name : List ℕ) (arguments : List Value) : Type 0 where
  pub func : ℕ
  pub type : FuncType1
  pub offered : exported1 m name ≡ Some (exports.Func func)
  pub typed : func_type1 m func ≡ Some type
  pub params : ValuesHaveTypes1 arguments type.params

pub record SetFits1 (m : Module1) (name : List ℕ) (v : Value) : Type 0 where
  pub index : ℕ
  pub type : Ty1
  pub offered : exported1 m name ≡ Some (exports.Global index)
  pub mutable : slice_get (all_globals1 m) index ≡ Some (record { ty = type; mutable = true })
  pub value : ValueHasType1 v type

pub record MemoryFits1 (m : Module1) (name : List ℕ) (at count : ℕ) : Type 0 where
  pub index : ℕ
  pub offered : exported1 m name ≡ Some (exports.Memory index)
  pub there : index < length (all_memories m)
  pub address : at < 2 ^ 64
  pub few : count ≤ 65536

abbrev pub ActFits1 : Module1 → Act → Type 0
ActFits1 m (Set name v) = SetFits1 m name v
ActFits1 m (Peek name at count) = MemoryFits1 m name at count
ActFits1 m (Poke name at bytes) = MemoryFits1 m name at (length bytes) × AllByRecursion (λ b. b < 2 ^ 8) bytes

abbrev pub ItemFits1 : Module1 → Item → Type 0
ItemFits1 m (Call name arguments) = CallFits1 m name arguments
ItemFits1 m (Host a) = ActFits1 m a

-- the replies to an imported function give its results
pub record ReplyFits1 (m : Module1) (results : List Ty1) (reply : Reply) : Type 0 where
  pub acts : AllByRecursion (ActFits1 m) reply.acts
  pub values : ValuesHaveTypes1 reply.values results

abbrev pub results_of1 : Option FuncType1 → List Ty1
results_of1 None = []
results_of1 (Some t) = t.results

-- one list of replies for each imported function, by the indices of their types
abbrev pub RepliesFit1 : Module1 → List (List Reply) → List ℕ → Type 0
RepliesFit1 m replies indices = Pairwise (λ rs t. AllByRecursion (ReplyFits1 m (results_of1 (slice_get m.types t))) rs) replies indices

pub record ScriptFits1 (m : Module1) (script : Script) : Type 0 where
  -- one value for each imported global, and one list of replies for each imported function
  pub globals : ValuesHaveTypes1 script.globals (filter_map (λ i. global_import1 i.desc) m.imports)
  pub replies : RepliesFit1 m script.replies (filter_map (λ i. func_import i.desc) m.imports)
  pub items : AllByRecursion (ItemFits1 m) script.items
