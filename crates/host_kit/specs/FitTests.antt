-- The rules of fitting as tests, which the code decides; that they hold exactly where a script fits is proved.
use Rattle.std.specs.Prelude.{ℕ, zero, suc, ◌-◌, ◌^◌, List, length, Bool, true, false, Option, Some, None, nat_eq, nat_lt, nat_le, ◌&&◌, filter_map, slice_get}
use Rattle.std.specs.List.{list_all, zip}
use Rattle.wasm_ast.specs.Spaces.{func_indices, memory_count, func_import, global_import}
use Rattle.wasm_ast.specs.declared.module.ty.Ty.{Ty}
use Rattle.wasm_ast.specs.declared.module.ty.Ty.TheVariants as types
use Rattle.wasm_ast.specs.declared.module.ty.FuncType.{FuncType}
use Rattle.wasm_ast.specs.declared.module.parts.ExportDesc.{ExportDesc}
use Rattle.wasm_ast.specs.declared.module.parts.ExportDesc.TheVariants as exports
use Rattle.wasm_ast.specs.declared.module.parts.Module.{Module}
use Rattle.host_kit.specs.declared.offered.GlobalType.{GlobalType}
use Rattle.host_kit.specs.Offered.{exported, func_type, all_globals}
use Rattle.host_kit.specs.Fits.{results_of}
use Rattle.host_kit.specs.declared.script.Act.{Act}
use Rattle.host_kit.specs.declared.script.Act.TheVariants.{Set, Peek, Poke}
use Rattle.host_kit.specs.declared.script.Item.{Item}
use Rattle.host_kit.specs.declared.script.Item.TheVariants.{Call, Host}
use Rattle.host_kit.specs.declared.script.Reply.{Reply}
use Rattle.host_kit.specs.declared.script.Script.{Script}
use Rattle.host_kit.specs.declared.value.Value.{Value}
use Rattle.host_kit.specs.declared.value.Value.TheVariants as values

-- how many items of a kind are to be passed after one more item, which is or is not of the kind; none where it is the one
abbrev pub passed : Bool → ℕ → Option ℕ
passed false left = Some left
passed true zero = None
passed true (suc left) = Some left

-- two lists of one length, each two in one place of which pass the test
abbrev pub pairs : {A B : Type 0} → (A → B → Bool) → List A → List B → Bool
pairs test xs ys = nat_eq (length xs) (length ys) && list_all (λ p. test p.0 p.1) (zip xs ys)

-- a value, where there are so many functions
abbrev pub has_type : ℕ → Value → Ty → Bool
has_type funcs (values.I32 i) types.I32 = nat_lt i (2 ^ 32)
has_type funcs (values.I64 i) types.I64 = nat_lt i (2 ^ 64)
has_type funcs (values.V128 low high) types.V128 = nat_lt low (2 ^ 64) && nat_lt high (2 ^ 64)
has_type funcs (values.Func x) types.Func = nat_lt x funcs
has_type funcs (values.Extern a) types.Extern = nat_lt a (2 ^ 32 - 1)
has_type funcs values.NullFunc types.Func = true
has_type funcs values.NullExtern types.Extern = true
has_type funcs v t = false

abbrev pub have_types : Module → List Value → List Ty → Bool
have_types m vs ts = pairs (has_type (length (func_indices m))) vs ts

-- what is exported is a function that takes the arguments, a global that can be set to the value, or a memory
abbrev pub takes : Module → List Value → Option FuncType → Bool
takes m arguments None = false
takes m arguments (Some type) = have_types m arguments type.params

abbrev pub call_fits : Module → List Value → Option ExportDesc → Bool
call_fits m arguments (Some (exports.Func x)) = takes m arguments (func_type m x)
call_fits m arguments _ = false

abbrev pub can_be : Module → Value → Option GlobalType → Bool
can_be m v None = false
can_be m v (Some type) = type.mutable && has_type (length (func_indices m)) v type.ty

abbrev pub set_fits : Module → Value → Option ExportDesc → Bool
set_fits m v (Some (exports.Global x)) = can_be m v (slice_get (all_globals m) x)
set_fits m v _ = false

abbrev pub names_memory : Module → Option ExportDesc → Bool
names_memory m (Some (exports.Memory x)) = nat_lt x (memory_count m)
names_memory m _ = false

-- bytes that a host writes at once
abbrev pub few_bytes : List ℕ → Bool
few_bytes bytes = nat_le (length bytes) 65536 && list_all (λ b. nat_lt b (2 ^ 8)) bytes

abbrev pub peek_fits : Module → ℕ → ℕ → Option ExportDesc → Bool
peek_fits m at count export = nat_lt at (2 ^ 64) && nat_le count 65536 && names_memory m export

abbrev pub poke_fits : Module → ℕ → List ℕ → Option ExportDesc → Bool
poke_fits m at bytes export = nat_lt at (2 ^ 64) && few_bytes bytes && names_memory m export

abbrev pub act_fits : Module → Act → Bool
act_fits m (Set name v) = set_fits m v (exported m name)
act_fits m (Peek name at count) = peek_fits m at count (exported m name)
act_fits m (Poke name at bytes) = poke_fits m at bytes (exported m name)

abbrev pub item_fits : Module → Item → Bool
item_fits m (Call name arguments) = call_fits m arguments (exported m name)
item_fits m (Host a) = act_fits m a

abbrev pub reply_fits : Module → List Ty → Reply → Bool
reply_fits m results reply = list_all (act_fits m) reply.acts && have_types m reply.values results

-- the replies to an imported function of this type index
abbrev pub replies_fit : Module → List Reply → ℕ → Bool
replies_fit m replies t = list_all (reply_fits m (results_of (slice_get m.types t))) replies

abbrev pub script_fits : Module → Script → Bool
script_fits m script =
    have_types m script.globals (filter_map (λ i. global_import i.desc) m.imports)
    && pairs (replies_fit m) script.replies (filter_map (λ i. func_import i.desc) m.imports)
    && list_all (item_fits m) script.items
