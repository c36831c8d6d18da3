-- The rules of fitting a module of 1.0 as tests, which the code decides; that they hold exactly where a script fits is
-- proved.
use Rattle.std.specs.Prelude.{ℕ, ◌^◌, List, length, Bool, false, Option, Some, None, nat_lt, nat_le, ◌&&◌, filter_map, slice_get}
use Rattle.std.specs.List.{list_all}
use Rattle.core1_ast.specs.Spaces.{func_import, all_memories}
use Rattle.core1_ast.specs.declared.module.ty.Ty1.{Ty1}
use Rattle.core1_ast.specs.declared.module.ty.Ty1.TheVariants as types
use Rattle.core1_ast.specs.declared.module.ty.FuncType1.{FuncType1}
use Rattle.core1_ast.specs.declared.module.parts.ExportDesc1.{ExportDesc1}
use Rattle.core1_ast.specs.declared.module.parts.ExportDesc1.TheVariants as exports
use Rattle.core1_ast.specs.declared.module.parts.Module1.{Module1}
use Rattle.host_kit.specs.Offered1.{exported1, func_type1, global_import1, all_globals1}
use Rattle.host_kit.specs.declared.offered1.GlobalType1.{GlobalType1}
use Rattle.host_kit.specs.Fits1.{results_of1}
use Rattle.host_kit.specs.FitTests.{pairs, few_bytes}
use Rattle.host_kit.specs.declared.script.Act.{Act}
use Rattle.host_kit.specs.declared.script.Act.TheVariants.{Set, Peek, Poke}
use Rattle.host_kit.specs.declared.script.Item.{Item}
use Rattle.host_kit.specs.declared.script.Item.TheVariants.{Call, Host}
use Rattle.host_kit.specs.declared.script.Reply.{Reply}
use Rattle.host_kit.specs.declared.script.Script.{Script}
use Rattle.host_kit.specs.declared.value.Value.{Value}
use Rattle.host_kit.specs.declared.value.Value.TheVariants as values

-- a value
abbrev pub has_type1 : Value → Ty1 → Bool
has_type1 (values.I32 i) types.I32 = nat_lt i (2 ^ 32)
has_type1 (values.I64 i) types.I64 = nat_lt i (2 ^ 64)
has_type1 v t = false

abbrev pub have_types1 : List Value → List Ty1 → Bool
have_types1 vs ts = pairs has_type1 vs ts

-- what is exported is a function that takes the arguments, a global that can be set to the value, or a memory
abbrev pub takes1 : List Value → Option FuncType1 → Bool
takes1 arguments None = false
takes1 arguments (Some type) = have_types1 arguments type.params

abbrev pub call_fits1 : Module1 → List Value → Option ExportDesc1 → Bool
call_fits1 m arguments (Some (exports.Func x)) = takes1 arguments (func_type1 m x)
call_fits1 m arguments _ = false

abbrev pub can_be1 : Value → Option GlobalType1 → Bool
can_be1 v None = false
can_be1 v (Some type) = type.mutable && has_type1 v type.ty

abbrev pub set_fits1 : Module1 → Value → Option ExportDesc1 → Bool
set_fits1 m v (Some (exports.Global x)) = can_be1 v (slice_get (all_globals1 m) x)
set_fits1 m v _ = false

abbrev pub names_memory1 : Module1 → Option ExportDesc1 → Bool
names_memory1 m (Some (exports.Memory x)) = nat_lt x (length (all_memories m))
names_memory1 m _ = false

-- bytes that a host reads or writes at once
abbrev pub peek_fits1 : Module1 → ℕ → ℕ → Option ExportDesc1 → Bool
peek_fits1 m at count export = nat_lt at (2 ^ 64) && nat_le count 65536 && names_memory1 m export

abbrev pub poke_fits1 : Module1 → ℕ → List ℕ → Option ExportDesc1 → Bool
poke_fits1 m at bytes export = nat_lt at (2 ^ 64) && few_bytes bytes && names_memory1 m export

abbrev pub act_fits1 : Module1 → Act → Bool
act_fits1 m (Set name v) = set_fits1 m v (exported1 m name)
act_fits1 m (Peek name at count) = peek_fits1 m at count (exported1 m name)
act_fits1 m (Poke name at bytes) = poke_fits1 m at bytes (exported1 m name)

abbrev pub item_fits1 : Module1 → Item → Bool
item_fits1 m (Call name arguments) = call_fits1 m arguments (exported1 m name)
item_fits1 m (Host a) = act_fits1 m a

abbrev pub reply_fits1 : Module1 → List Ty1 → Reply → Bool
reply_fits1 m results reply = list_all (act_fits1 m) reply.acts && have_types1 reply.values results

-- the replies to an imported function of this type index
abbrev pub replies_fit1 : Module1 → List Reply → ℕ → Bool
replies_fit1 m replies t = list_all (reply_fits1 m (results_of1 (slice_get m.types t))) replies

abbrev pub script_fits1 : Module1 → Script → Bool
script_fits1 m script =
    have_types1 script.globals (filter_map (λ i. global_import1 i.desc) m.imports)
    && pairs (replies_fit1 m) script.replies (filter_map (λ i. func_import i.desc) m.imports)
    && list_all (item_fits1 m) script.items
