-- The tests of fitting a module of 1.0 hold exactly where the rules of fitting do.
use Rattle.std.proofs.Common.{◌≡◌, ℕ, ◌<◌, ◌≤◌, ◌^◌, List, length, true, ◌&&◌, nat_lt, nat_le, Option, Some, None, slice_get, filter_map, Decides, refl, ap, ◌∙◌, subst, arith}
use Rattle.std.specs.List.{AllByRecursion, list_all}
use Rattle.std.proofs.lemmas.Bool.{and_parts, ltb-true, lt-ltb}
use Rattle.core1_ast.specs.Spaces.{func_import, all_memories}
use Rattle.core1_ast.specs.declared.module.ty.Ty1.{Ty1}
use Rattle.core1_ast.specs.declared.module.ty.Ty1.TheVariants as types
use Rattle.core1_ast.specs.declared.module.ty.FuncType1.{FuncType1}
use Rattle.core1_ast.specs.declared.module.parts.ExportDesc1.{ExportDesc1}
use Rattle.core1_ast.specs.declared.module.parts.ExportDesc1.TheVariants as exports
use Rattle.core1_ast.specs.declared.module.parts.Module1.{Module1}
use Rattle.host_kit.specs.declared.offered1.GlobalType1.{GlobalType1}
use Rattle.host_kit.proofs.Deciding.{never, less, most, both, all, pairwise}
use Rattle.host_kit.specs.Offered1.{exported1, func_type1, global_import1, all_globals1}
use Rattle.host_kit.specs.Fits1.{ValueHasType1, ValuesHaveTypes1, CallFits1, SetFits1, MemoryFits1, ActFits1, ItemFits1, ReplyFits1, ScriptFits1, results_of1}
use Rattle.host_kit.specs.FitTests.{pairs, few_bytes}
use Rattle.host_kit.specs.FitTests1.{has_type1, have_types1, takes1, call_fits1, can_be1, set_fits1, names_memory1, peek_fits1, poke_fits1, act_fits1, item_fits1, reply_fits1, replies_fit1, script_fits1}
use Rattle.host_kit.specs.declared.script.Act.{Act}
use Rattle.host_kit.specs.declared.script.Act.TheVariants.{Set, Peek, Poke}
use Rattle.host_kit.specs.declared.script.Item.{Item}
use Rattle.host_kit.specs.declared.script.Item.TheVariants.{Call, Host}
use Rattle.host_kit.specs.declared.script.Reply.{Reply}
use Rattle.host_kit.specs.declared.script.Script.{Script}
use Rattle.host_kit.specs.declared.value.Value.{Value}
use Rattle.host_kit.specs.declared.value.Value.TheVariants as values

value : (v : Value) (t : Ty1) → Decides (has_type1 v t) (ValueHasType1 v t)
value (values.I32 i) types.I32 = less i (2 ^ 32)
value (values.I64 i) types.I64 = less i (2 ^ 64)
value v t = never

values_of : (vs : List Value) (ts : List Ty1) → Decides (have_types1 vs ts) (ValuesHaveTypes1 vs ts)
values_of = pairwise has_type1 ValueHasType1 value

module _ (m : Module1) where
  taken : (name : List ℕ) (arguments : List Value) (x : ℕ) → exported1 m name ≡ Some (exports.Func x) → (t : Option FuncType1) → func_type1 m x ≡ t → Decides (takes1 arguments t) (CallFits1 m name arguments)
  taken name arguments x e None typed = (λ h. absurd cc, λ f. let same : x ≡ f.func = cc in absurd cc)
  taken name arguments x e (Some type) typed = (
    λ h. record { func = x; type = type; offered = e; typed = typed; params = (values_of arguments type.params).0 h },
    λ f.
        let same : x ≡ f.func = cc in
        let type_same : f.type ≡ type = cc in
        let P : FuncType1 → Type 0 = λ t. ValuesHaveTypes1 arguments t.params in
        (values_of arguments type.params).1 (subst P type_same f.params),
  )

  called : (name : List ℕ) (arguments : List Value) (o : Option ExportDesc1) → exported1 m name ≡ o → Decides (call_fits1 m arguments o) (CallFits1 m name arguments)
  called name arguments None e = (λ h. absurd cc, λ f. absurd cc)
  called name arguments (Some (exports.Func x)) e = taken name arguments x e (func_type1 m x) refl
  called name arguments (Some d) e = (λ h. absurd cc, λ f. absurd cc)

  changed : (name : List ℕ) (v : Value) (x : ℕ) → exported1 m name ≡ Some (exports.Global x) → (g : Option GlobalType1) → slice_get (all_globals1 m) x ≡ g → Decides (can_be1 v g) (SetFits1 m name v)
  changed name v x e None there = (λ h. absurd cc, λ f. let same : x ≡ f.index = cc in absurd cc)
  changed name v x e (Some g) there = (
    λ h.
        let parts = and_parts g.mutable (has_type1 v g.ty) h in
        record { index = x; type = g.ty; offered = e; mutable = there ∙ ap (λ b. Some (record { ty = g.ty; mutable = b })) parts.0; value = (value v g.ty).0 parts.1 },
    λ f.
        let same : x ≡ f.index = cc in
        let found : record { ty = f.type; mutable = true } ≡ g = cc in
        let P : GlobalType1 → Type 0 = λ t. (t.mutable && has_type1 v t.ty) ≡ true in
        subst P found ((value v f.type).1 f.value),
  )

  set : (name : List ℕ) (v : Value) (o : Option ExportDesc1) → exported1 m name ≡ o → Decides (set_fits1 m v o) (SetFits1 m name v)
  set name v None e = (λ h. absurd cc, λ f. absurd cc)
  set name v (Some (exports.Global x)) e = changed name v x e (slice_get (all_globals1 m) x) refl
  set name v (Some d) e = (λ h. absurd cc, λ f. absurd cc)

  -- an exported memory
  abbrev HasMemory : List ℕ → Type 0
  HasMemory name = (x : ℕ) × (exported1 m name ≡ Some (exports.Memory x)) × (x < length (all_memories m))

  memory : (name : List ℕ) (o : Option ExportDesc1) → exported1 m name ≡ o → Decides (names_memory1 m o) (HasMemory name)
  memory name None e = (λ h. absurd cc, λ f. let g = f.1 in absurd cc)
  memory name (Some (exports.Memory x)) e = (λ h. (x, e, ltb-true x (length (all_memories m)) h), λ f. let g = f.1 in let same : f.0 ≡ x = cc in lt-ltb x (length (all_memories m)) (omega arith))
  memory name (Some d) e = (λ h. absurd cc, λ f. let g = f.1 in absurd cc)

  peek : (name : List ℕ) (at count : ℕ) → Decides (peek_fits1 m at count (exported1 m name)) (MemoryFits1 m name at count)
  peek name at count =
      let parts =
      both (nat_lt at (2 ^ 64) && nat_le count 65536) (names_memory1 m (exported1 m name)) (both (nat_lt at (2 ^ 64)) (nat_le count 65536) (less at (2 ^ 64)) (most count 65536))
      (memory name (exported1 m name) refl) in (
        λ h. let f = parts.0 h in record { index = f.1.0; offered = f.1.1; there = f.1.2; address = f.0.0; few = f.0.1 },
        λ f. parts.1 ((f.address, f.few), (f.index, f.offered, f.there)),
      )

  few : (bytes : List ℕ) → Decides (few_bytes bytes) ((length bytes ≤ 65536) × AllByRecursion (λ b. b < 2 ^ 8) bytes)
  few bytes =
      both (nat_le (length bytes) 65536) (list_all (λ b. nat_lt b (2 ^ 8)) bytes) (most (length bytes) 65536) (all (λ b. nat_lt b (2 ^ 8)) (λ b. b < 2 ^ 8) (λ b. less b (2 ^ 8)) bytes)

  poke : (name : List ℕ) (at : ℕ) (bytes : List ℕ) → Decides (poke_fits1 m at bytes (exported1 m name)) (ActFits1 m (Poke name at bytes))
  poke name at bytes =
      let parts =
      both (nat_lt at (2 ^ 64) && few_bytes bytes) (names_memory1 m (exported1 m name)) (both (nat_lt at (2 ^ 64)) (few_bytes bytes) (less at (2 ^ 64)) (few bytes))
      (memory name (exported1 m name) refl) in (
        λ h. let f = parts.0 h in (record { index = f.1.0; offered = f.1.1; there = f.1.2; address = f.0.0; few = f.0.1.0 }, f.0.1.1),
        λ f. parts.1 ((f.0.address, (f.0.few, f.1)), (f.0.index, f.0.offered, f.0.there)),
      )

  act : (a : Act) → Decides (act_fits1 m a) (ActFits1 m a)
  act (Set name v) = set name v (exported1 m name) refl
  act (Peek name at count) = peek name at count
  act (Poke name at bytes) = poke name at bytes

  item : (i : Item) → Decides (item_fits1 m i) (ItemFits1 m i)
  item (Call name arguments) = called name arguments (exported1 m name) refl
  item (Host a) = act a

  reply : (results : List Ty1) (r : Reply) → Decides (reply_fits1 m results r) (ReplyFits1 m results r)
  reply results r =
      let parts = both (list_all (act_fits1 m) r.acts) (have_types1 r.values results) (all (act_fits1 m) (ActFits1 m) act r.acts) (values_of r.values results) in
      (λ h. let f = parts.0 h in record { acts = f.0; values = f.1 }, λ f. parts.1 (f.acts, f.values))

  replies : (rs : List Reply) (t : ℕ) → Decides (replies_fit1 m rs t) (AllByRecursion (ReplyFits1 m (results_of1 (slice_get m.types t))) rs)
  replies rs t = all (reply_fits1 m (results_of1 (slice_get m.types t))) (ReplyFits1 m (results_of1 (slice_get m.types t))) (reply (results_of1 (slice_get m.types t))) rs

  pub script : (s : Script) → Decides (script_fits1 m s) (ScriptFits1 m s)
  script s =
      let global_types = filter_map (λ i. global_import1 i.desc) m.imports in
      let indices = filter_map (λ i. func_import i.desc) m.imports in
      let parts =
      both (have_types1 s.globals global_types && pairs (replies_fit1 m) s.replies indices) (list_all (item_fits1 m) s.items)
      (both (have_types1 s.globals global_types) (pairs (replies_fit1 m) s.replies indices) (values_of s.globals global_types)
      (pairwise (replies_fit1 m) (λ rs t. AllByRecursion (ReplyFits1 m (results_of1 (slice_get m.types t))) rs) replies s.replies indices))
      (all (item_fits1 m) (ItemFits1 m) item s.items) in
      (λ h. let f = parts.0 h in record { globals = f.0.0; replies = f.0.1; items = f.1 }, λ f. parts.1 ((f.globals, f.replies), f.items))
