-- The tests of fitting hold exactly where the rules of fitting do.
use Rattle.std.proofs.Common.{◌≡◌, ℕ, ◌<◌, ◌≤◌, ◌^◌, ◌-◌, List, length, true, ◌&&◌, nat_lt, nat_le, Option, Some, None, slice_get, filter_map, Decides, refl, ap, ◌∙◌, subst, arith}
use Rattle.std.specs.List.{AllByRecursion, list_all}
use Rattle.std.proofs.lemmas.Bool.{and_parts, ltb-true, lt-ltb}
use Rattle.wasm_ast.specs.Spaces.{func_indices, func_import, global_import, memory_count}
use Rattle.wasm_ast.specs.declared.module.ty.Ty.{Ty}
use Rattle.wasm_ast.specs.declared.module.ty.Ty.TheVariants as types
use Rattle.wasm_ast.specs.declared.module.ty.FuncType.{FuncType}
use Rattle.wasm_ast.specs.declared.module.parts.ExportDesc.{ExportDesc}
use Rattle.wasm_ast.specs.declared.module.parts.ExportDesc.TheVariants as exports
use Rattle.wasm_ast.specs.declared.module.parts.Module.{Module}
use Rattle.host_kit.specs.declared.offered.GlobalType.{GlobalType}
use Rattle.host_kit.proofs.Deciding.{never, always, less, most, both, all, pairwise}
use Rattle.host_kit.specs.Offered.{exported, func_type, all_globals}
use Rattle.host_kit.specs.Fits.{ValueHasType, ValuesHaveTypes, CallFits, SetFits, MemoryFits, ActFits, ItemFits, ReplyFits, ScriptFits, results_of}
use Rattle.host_kit.specs.FitTests.{pairs, has_type, have_types, takes, call_fits, can_be, set_fits, names_memory, few_bytes, peek_fits, poke_fits, act_fits, item_fits, reply_fits, replies_fit, script_fits}
use Rattle.host_kit.specs.declared.script.Act.{Act}
use Rattle.host_kit.specs.declared.script.Act.TheVariants.{Set, Peek, Poke}
use Rattle.host_kit.specs.declared.script.Item.{Item}
use Rattle.host_kit.specs.declared.script.Item.TheVariants.{Call, Host}
use Rattle.host_kit.specs.declared.script.Reply.{Reply}
use Rattle.host_kit.specs.declared.script.Script.{Script}
use Rattle.host_kit.specs.declared.value.Value.{Value}
use Rattle.host_kit.specs.declared.value.Value.TheVariants as values

module _ (m : Module) where
  value : (v : Value) (t : Ty) → Decides (has_type (length (func_indices m)) v t) (ValueHasType m v t)
  value (values.I32 i) types.I32 = less i (2 ^ 32)
  value (values.I64 i) types.I64 = less i (2 ^ 64)
  value (values.V128 low high) types.V128 = both (nat_lt low (2 ^ 64)) (nat_lt high (2 ^ 64)) (less low (2 ^ 64)) (less high (2 ^ 64))
  value (values.Func x) types.Func = less x (length (func_indices m))
  value (values.Extern a) types.Extern = less a (2 ^ 32 - 1)
  value values.NullFunc types.Func = always
  value values.NullExtern types.Extern = always
  value v t = never

  values_of : (vs : List Value) (ts : List Ty) → Decides (have_types m vs ts) (ValuesHaveTypes m vs ts)
  values_of = pairwise (has_type (length (func_indices m))) (ValueHasType m) value

  taken : (name : List ℕ) (arguments : List Value) (x : ℕ) → exported m name ≡ Some (exports.Func x) → (t : Option FuncType) → func_type m x ≡ t → Decides (takes m arguments t) (CallFits m name arguments)
  taken name arguments x e None typed = (λ h. absurd cc, λ f. let same : x ≡ f.func = cc in absurd cc)
  taken name arguments x e (Some type) typed = (
    λ h. record { func = x; type = type; offered = e; typed = typed; params = (values_of arguments type.params).0 h },
    λ f.
        let same : x ≡ f.func = cc in
        let type_same : f.type ≡ type = cc in
        let P : FuncType → Type 0 = λ t. ValuesHaveTypes m arguments t.params in
        (values_of arguments type.params).1 (subst P type_same f.params),
  )

  called : (name : List ℕ) (arguments : List Value) (o : Option ExportDesc) → exported m name ≡ o → Decides (call_fits m arguments o) (CallFits m name arguments)
  called name arguments None e = (λ h. absurd cc, λ f. absurd cc)
  called name arguments (Some (exports.Func x)) e = taken name arguments x e (func_type m x) refl
  called name arguments (Some d) e = (λ h. absurd cc, λ f. absurd cc)

  changed : (name : List ℕ) (v : Value) (x : ℕ) → exported m name ≡ Some (exports.Global x) → (g : Option GlobalType) → slice_get (all_globals m) x ≡ g → Decides (can_be m v g) (SetFits m name v)
  changed name v x e None there = (λ h. absurd cc, λ f. let same : x ≡ f.index = cc in absurd cc)
  changed name v x e (Some g) there = (
    λ h.
        let parts = and_parts g.mutable (has_type (length (func_indices m)) v g.ty) h in
        record { index = x; type = g.ty; offered = e; mutable = there ∙ ap (λ b. Some (record { ty = g.ty; mutable = b })) parts.0; value = (value v g.ty).0 parts.1 },
    λ f.
        let same : x ≡ f.index = cc in
        let found : record { ty = f.type; mutable = true } ≡ g = cc in
        let P : GlobalType → Type 0 = λ t. (t.mutable && has_type (length (func_indices m)) v t.ty) ≡ true in
        subst P found ((value v f.type).1 f.value),
  )

  set : (name : List ℕ) (v : Value) (o : Option ExportDesc) → exported m name ≡ o → Decides (set_fits m v o) (SetFits m name v)
  set name v None e = (λ h. absurd cc, λ f. absurd cc)
  set name v (Some (exports.Global x)) e = changed name v x e (slice_get (all_globals m) x) refl
  set name v (Some d) e = (λ h. absurd cc, λ f. absurd cc)

  -- an exported memory
  abbrev HasMemory : List ℕ → Type 0
  HasMemory name = (x : ℕ) × (exported m name ≡ Some (exports.Memory x)) × (x < memory_count m)

  memory : (name : List ℕ) (o : Option ExportDesc) → exported m name ≡ o → Decides (names_memory m o) (HasMemory name)
  memory name None e = (λ h. absurd cc, λ f. let g = f.1 in absurd cc)
  memory name (Some (exports.Memory x)) e = (λ h. (x, e, ltb-true x (memory_count m) h), λ f. let g = f.1 in let same : f.0 ≡ x = cc in lt-ltb x (memory_count m) (omega arith))
  memory name (Some d) e = (λ h. absurd cc, λ f. let g = f.1 in absurd cc)

  peek : (name : List ℕ) (at count : ℕ) → Decides (peek_fits m at count (exported m name)) (MemoryFits m name at count)
  peek name at count =
      let parts =
      both (nat_lt at (2 ^ 64) && nat_le count 65536) (names_memory m (exported m name)) (both (nat_lt at (2 ^ 64)) (nat_le count 65536) (less at (2 ^ 64)) (most count 65536))
      (memory name (exported m name) refl) in (
        λ h. let f = parts.0 h in record { index = f.1.0; offered = f.1.1; there = f.1.2; address = f.0.0; few = f.0.1 },
        λ f. parts.1 ((f.address, f.few), (f.index, f.offered, f.there)),
      )

  few : (bytes : List ℕ) → Decides (few_bytes bytes) ((length bytes ≤ 65536) × AllByRecursion (λ b. b < 2 ^ 8) bytes)
  few bytes =
      both (nat_le (length bytes) 65536) (list_all (λ b. nat_lt b (2 ^ 8)) bytes) (most (length bytes) 65536) (all (λ b. nat_lt b (2 ^ 8)) (λ b. b < 2 ^ 8) (λ b. less b (2 ^ 8)) bytes)

  poke : (name : List ℕ) (at : ℕ) (bytes : List ℕ) → Decides (poke_fits m at bytes (exported m name)) (ActFits m (Poke name at bytes))
  poke name at bytes =
      let parts =
      both (nat_lt at (2 ^ 64) && few_bytes bytes) (names_memory m (exported m name)) (both (nat_lt at (2 ^ 64)) (few_bytes bytes) (less at (2 ^ 64)) (few bytes))
      (memory name (exported m name) refl) in (
        λ h. let f = parts.0 h in (record { index = f.1.0; offered = f.1.1; there = f.1.2; address = f.0.0; few = f.0.1.0 }, f.0.1.1),
        λ f. parts.1 ((f.0.address, (f.0.few, f.1)), (f.0.index, f.0.offered, f.0.there)),
      )

  act : (a : Act) → Decides (act_fits m a) (ActFits m a)
  act (Set name v) = set name v (exported m name) refl
  act (Peek name at count) = peek name at count
  act (Poke name at bytes) = poke name at bytes

  item : (i : Item) → Decides (item_fits m i) (ItemFits m i)
  item (Call name arguments) = called name arguments (exported m name) refl
  item (Host a) = act a

  reply : (results : List Ty) (r : Reply) → Decides (reply_fits m results r) (ReplyFits m results r)
  reply results r =
      let parts = both (list_all (act_fits m) r.acts) (have_types m r.values results) (all (act_fits m) (ActFits m) act r.acts) (values_of r.values results) in
      (λ h. let f = parts.0 h in record { acts = f.0; values = f.1 }, λ f. parts.1 (f.acts, f.values))

  replies : (rs : List Reply) (t : ℕ) → Decides (replies_fit m rs t) (AllByRecursion (ReplyFits m (results_of (slice_get m.types t))) rs)
  replies rs t = all (reply_fits m (results_of (slice_get m.types t))) (ReplyFits m (results_of (slice_get m.types t))) (reply (results_of (slice_get m.types t))) rs

  pub script : (s : Script) → Decides (script_fits m s) (ScriptFits m s)
  script s =
      let global_types = filter_map (λ i. global_import i.desc) m.imports in
      let indices = filter_map (λ i. func_import i.desc) m.imports in
      let parts =
      both (have_types m s.globals global_types && pairs (replies_fit m) s.replies indices) (list_all (item_fits m) s.items)
      (both (have_types m s.globals global_types) (pairs (replies_fit m) s.replies indices) (values_of s.globals global_types)
      (pairwise (replies_fit m) (λ rs t. AllByRecursion (ReplyFits m (results_of (slice_get m.types t))) rs) replies s.replies indices))
      (all (item_fits m) (ItemFits m) item s.items) in
      (λ h. let f = parts.0 h in record { globals = f.0.0; replies = f.0.1; items = f.1 }, λ f. parts.1 ((f.globals, f.replies), f.items))
