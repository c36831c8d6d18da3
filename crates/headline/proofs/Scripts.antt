-- A script that fits a module of integers with one result at most is mapped to itself, and fits the module of 1.0.
use Rattle.std.proofs.Common.{◌≡◌, ℕ, ◌<◌, ◌≤◌, true, false, List, [], ◌∷◌, map, length, filter_map, append-nil, Option, Some, None, option_map, option_and_then, slice_get, refl, sym, ap, ◌∙◌, subst, arith}
use Rattle.std.specs.List.{AllByRecursion}
use Rattle.std.proofs.lemmas.Option.{slice_get-map}
use Rattle.host_kit.specs.Fits.{ActFits, CallFits, ItemFits, MemoryFits, RepliesFit, ReplyFits, ScriptFits, SetFits, ValueHasType, results_of}
use Rattle.host_kit.specs.Fits1.{ActFits1, CallFits1, ItemFits1, MemoryFits1, RepliesFit1, ReplyFits1, ScriptFits1, SetFits1, ValuesHaveTypes1, results_of1}
use Rattle.host_kit.specs.Offered.{all_globals, func_type, imported_global}
use Rattle.host_kit.specs.Offered1.{all_globals1, global_import1, imported_global1}
use Rattle.host_kit.specs.declared.script.Act.{Act}
use Rattle.host_kit.specs.declared.script.Act.TheVariants.{Set, Peek, Poke}
use Rattle.host_kit.specs.declared.script.Item.{Item}
use Rattle.host_kit.specs.declared.script.Item.TheVariants.{Call, Host}
use Rattle.host_kit.specs.declared.script.Reply.{Reply}
use Rattle.host_kit.specs.declared.script.Script.{Script}
use Rattle.host_kit.specs.declared.value.Value.{Value}
use Rattle.wasm_ast.specs.Spaces.{func_import, func_indices, global_import, is_tag}
use Rattle.wasm_ast.specs.declared.module.parts.Import.{Import}
use Rattle.wasm_ast.specs.declared.module.parts.ImportDesc.{ImportDesc}
use Rattle.wasm_ast.specs.declared.module.parts.ImportDesc.TheVariants as imports
use Rattle.wasm_ast.specs.declared.module.parts.Module.{Module}
use Rattle.wasm_ast.specs.declared.module.ty.FuncType.{FuncType}
use Rattle.wasm_ast.specs.declared.module.ty.Ty.{Ty}
use Rattle.core1_ast.specs.Spaces as spaces1
use Rattle.crossing.specs.Code.{cross_type, is_integer}
use Rattle.crossing.specs.Crossing.{AreIntegers, Crosses}
use Rattle.crossing.specs.Modules.{cross, cross_export_desc, cross_func_type, cross_global, cross_import, cross_import_desc}
use Rattle.crossing.proofs.Hosts.{exported-cross}
use Rattle.crossing.proofs.Keeping.{IfThere, all_get}
use Rattle.crossing.proofs.Types.{filter_map-cross, func_type-cross}
use Rattle.pass_cross.specs.Crossable.{Crossable}
use Rattle.pass_cross.proofs.Facts.{memories_counted, no_tag_imports}
use Rattle.pass_cross.proofs.Spaces.{memories_cross}
use Rattle.headline.specs.Mapping.{map_item, map_reply, map_script, reply_with}
use Rattle.headline.proofs.Links.{PlainType}
use Rattle.headline.proofs.Listed.{all_through, at_image, image_filtered, image_space}
use Rattle.headline.proofs.Values.{flatten-integers, no_more, value_fits, values_fit}

-- a reply with one value at most
abbrev replied : List Act → List Value → Reply
replied acts vs = record { acts = acts; values = vs }

reply_alone : (acts : List Act) (vs : List Value) → length vs ≤ 1 → reply_with acts vs ≡ replied acts vs
reply_alone acts [] h = refl
reply_alone acts (v ∷ []) h = ap (λ l. replied l (v ∷ [])) (append-nil acts)
reply_alone acts (v ∷ w ∷ vs) h = let no : ⊥ = omega (arith, h) in absurd no

func_kind : (d : ImportDesc) → spaces1.func_import (cross_import_desc d) ≡ func_import d
func_kind (imports.Func t) = refl
func_kind d = refl

-- a tag is written as a global
global_kind : (d : ImportDesc) → is_tag d ≡ false → global_import1 (cross_import_desc d) ≡ option_map cross_type (global_import d)
global_kind (imports.Global t b) h = refl
global_kind (imports.Func x) h = refl
global_kind (imports.Table t l) h = refl
global_kind (imports.Memory l) h = refl
global_kind (imports.Tag x) h = absurd cc

offered_kind : (d : ImportDesc) → is_tag d ≡ false → imported_global1 (cross_import_desc d) ≡ option_map (λ g. record { ty = cross_type g.ty; mutable = g.mutable }) (imported_global d)
offered_kind (imports.Global t b) h = refl
offered_kind (imports.Func x) h = refl
offered_kind (imports.Table t l) h = refl
offered_kind (imports.Memory l) h = refl
offered_kind (imports.Tag x) h = absurd cc

results_image : (o : Option FuncType) → results_of1 (option_map cross_func_type o) ≡ map cross_type (results_of o)
results_image None = refl
results_image (Some t) = refl

module _ (m : Module) (types : AllByRecursion PlainType m.types) (crosses : Crosses m) (h : Crossable m) where
  -- the types of functions
  indexed : (o : Option ℕ) → IfThere PlainType (option_and_then (slice_get m.types) o)
  indexed None = tt
  indexed (Some t) = all_get PlainType m.types t types

  plain_at : (o : Option FuncType) (t : FuncType) → o ≡ Some t → IfThere PlainType o → PlainType t
  plain_at o t e k = subst (IfThere PlainType) e k

  plain_func : (x : ℕ) (t : FuncType) → func_type m x ≡ Some t → PlainType t
  plain_func x t e = plain_at (func_type m x) t e (indexed (slice_get (func_indices m) x))

  integer_results : (o : Option FuncType) → IfThere PlainType o → AreIntegers (results_of o)
  integer_results None k = tt
  integer_results (Some t) k = k.integers.results

  few_results : (o : Option FuncType) → IfThere PlainType o → length (results_of o) ≤ 1
  few_results None k = omega arith
  few_results (Some t) k = k.one

  -- ---- the script is mapped to itself

  item_alone : (item : Item) → ItemFits m item → map_item item ≡ item
  item_alone (Call name arguments) k = ap (Call name) (flatten-integers m arguments k.type.params k.params (plain_func k.func k.type k.typed).integers.params)
  item_alone (Host act) k = refl

  items_alone : (items : List Item) → AllByRecursion (ItemFits m) items → map map_item items ≡ items
  items_alone [] k = refl
  items_alone (item ∷ items) k = ap (λ i. i ∷ map map_item items) (item_alone item k.0) ∙ ap (λ l. item ∷ l) (items_alone items k.1)

  module _ (results : List Ty) (integers : AreIntegers results) (few : length results ≤ 1) where
    reply_same : (r : Reply) → ReplyFits m results r → map_reply r ≡ r
    reply_same r k = ap (reply_with r.acts) (flatten-integers m r.values results k.values integers) ∙ reply_alone r.acts r.values (no_more (ValueHasType m) 1 r.values results k.values few)

    replies_same : (rs : List Reply) → AllByRecursion (ReplyFits m results) rs → map map_reply rs ≡ rs
    replies_same [] k = refl
    replies_same (r ∷ rs) k = ap (λ x. x ∷ map map_reply rs) (reply_same r k.0) ∙ ap (λ l. r ∷ l) (replies_same rs k.1)

  all_replies_same : (replies : List (List Reply)) (indices : List ℕ) → RepliesFit m replies indices → map (λ rs. map map_reply rs) replies ≡ replies
  all_replies_same [] [] k = refl
  all_replies_same [] (t ∷ ts) k = absurd k
  all_replies_same (rs ∷ more) [] k = absurd k
  all_replies_same (rs ∷ more) (t ∷ ts) k =
      let type = all_get PlainType m.types t types in
      ap (λ l. l ∷ map (λ x. map map_reply x) more) (replies_same (results_of (slice_get m.types t)) (integer_results (slice_get m.types t) type) (few_results (slice_get m.types t) type) rs k.0)
      ∙ ap (λ l. rs ∷ l) (all_replies_same more ts k.1)

  pub map_script-same : (other : Module) (s : Script) → ScriptFits m s → map_script other s ≡ s
  map_script-same other s k =
      ap (λ (l : List (List Reply)). record s { replies = l; items = map map_item s.items }) (all_replies_same s.replies (filter_map (λ i. func_import i.desc) m.imports) k.replies)
      ∙ ap (λ (l : List Item). record s { items = l }) (items_alone s.items k.items)

  -- ---- the script fits the module of 1.0

  untagged_imports : (Q : ImportDesc → Type 0) → ((d : ImportDesc) → is_tag d ≡ false → Q d) → AllByRecursion (λ (i : Import). Q i.desc) m.imports
  untagged_imports Q f = all_through (λ i. is_tag i.desc ≡ false) (λ (i : Import). Q i.desc) m.imports (λ i k. f i.desc k) (no_tag_imports m h)

  globals_image : all_globals1 (cross m) ≡ map (λ g. record { ty = cross_type g.ty; mutable = g.mutable }) (all_globals m)
  globals_image =
      image_space cross_import (λ i. imported_global i.desc) (λ i. imported_global1 i.desc) m.imports cross_global (λ g. record { ty = g.ty; mutable = g.mutable }) (λ g. record { ty = g.ty; mutable = g.mutable }) m.globals (λ g. record { ty = cross_type g.ty; mutable = g.mutable })
      (untagged_imports (λ d. imported_global1 (cross_import_desc d) ≡ option_map (λ g. record { ty = cross_type g.ty; mutable = g.mutable }) (imported_global d)) offered_kind) (λ g. refl)

  integer_at : (o : Option Ty) (t : Ty) → o ≡ Some t → IfThere (λ x. is_integer x ≡ true) o → is_integer t ≡ true
  integer_at o t e k = subst (IfThere (λ x. is_integer x ≡ true)) e k

  integer_global : (x : ℕ) (t : Ty) → slice_get (all_globals m) x ≡ Some (record { ty = t; mutable = true }) → is_integer t ≡ true
  integer_global x t e =
      integer_at (slice_get (map (λ g. g.ty) (all_globals m)) x) t (slice_get-map (λ g. g.ty) (all_globals m) x ∙ ap (option_map (λ g. g.ty)) e)
      (all_get (λ t. is_integer t ≡ true) (map (λ g. g.ty) (all_globals m)) x crosses.globals.all)

  call_fits : (name : List ℕ) (arguments : List Value) → CallFits m name arguments → CallFits1 (cross m) name arguments
  call_fits name arguments k = record {
    func = k.func;
    type = cross_func_type k.type;
    offered = exported-cross m name ∙ ap (option_map cross_export_desc) k.offered;
    typed = func_type-cross m k.func ∙ ap (option_map cross_func_type) k.typed;
    params = values_fit m arguments k.type.params k.params (plain_func k.func k.type k.typed).integers.params;
  }

  set_fits : (name : List ℕ) (v : Value) → SetFits m name v → SetFits1 (cross m) name v
  set_fits name v k = record {
    index = k.index;
    type = cross_type k.type;
    offered = exported-cross m name ∙ ap (option_map cross_export_desc) k.offered;
    mutable =
        at_image (all_globals m) (all_globals1 (cross m)) (λ g. record { ty = cross_type g.ty; mutable = g.mutable }) k.index (record { ty = k.type; mutable = true }) (record { ty = cross_type k.type; mutable = true })
        globals_image k.mutable refl;
    value = value_fits m v k.type k.value (integer_global k.index k.type k.mutable);
  }

  memory_fits : (name : List ℕ) (at count : ℕ) → MemoryFits m name at count → MemoryFits1 (cross m) name at count
  memory_fits name at count k = record {
    index = k.index;
    offered = exported-cross m name ∙ ap (option_map cross_export_desc) k.offered;
    there = subst (λ n. k.index < n) (sym (memories_cross m ∙ memories_counted m h)) k.there;
    address = k.address;
    few = k.few;
  }

  act_fits : (a : Act) → ActFits m a → ActFits1 (cross m) a
  act_fits (Set name v) k = set_fits name v k
  act_fits (Peek name at count) k = memory_fits name at count k
  act_fits (Poke name at bytes) k = (memory_fits name at (length bytes) k.0, k.1)

  item_fits : (item : Item) → ItemFits m item → ItemFits1 (cross m) item
  item_fits (Call name arguments) k = call_fits name arguments k
  item_fits (Host act) k = act_fits act k

  results_at : (t : ℕ) → results_of1 (slice_get (cross m).types t) ≡ map cross_type (results_of (slice_get m.types t))
  results_at t = ap results_of1 (slice_get-map cross_func_type m.types t) ∙ results_image (slice_get m.types t)

  reply_fits : (t : ℕ) (r : Reply) → ReplyFits m (results_of (slice_get m.types t)) r → ReplyFits1 (cross m) (results_of1 (slice_get (cross m).types t)) r
  reply_fits t r k = record {
    acts = all_through (ActFits m) (ActFits1 (cross m)) r.acts act_fits k.acts;
    values =
        subst (ValuesHaveTypes1 r.values) (sym (results_at t))
        (values_fit m r.values (results_of (slice_get m.types t)) k.values (integer_results (slice_get m.types t) (all_get PlainType m.types t types)));
  }

  replies_fit : (replies : List (List Reply)) (indices : List ℕ) → RepliesFit m replies indices → RepliesFit1 (cross m) replies indices
  replies_fit [] [] k = tt
  replies_fit [] (t ∷ ts) k = absurd k
  replies_fit (rs ∷ more) [] k = absurd k
  replies_fit (rs ∷ more) (t ∷ ts) k =
      (all_through (ReplyFits m (results_of (slice_get m.types t))) (ReplyFits1 (cross m) (results_of1 (slice_get (cross m).types t))) rs (reply_fits t) k.0, replies_fit more ts k.1)

  pub script_fits : (s : Script) → ScriptFits m s → ScriptFits1 (cross m) s
  script_fits s k = record {
    globals =
        subst (ValuesHaveTypes1 s.globals)
        (sym (image_filtered cross_import (λ i. global_import i.desc) (λ i. global_import1 i.desc) cross_type m.imports (untagged_imports (λ d. global_import1 (cross_import_desc d) ≡ option_map cross_type (global_import d)) global_kind)))
        (values_fit m s.globals (filter_map (λ i. global_import i.desc) m.imports) k.globals crosses.globals.imported);
    replies =
        subst (RepliesFit1 (cross m) s.replies)
        (sym (filter_map-cross cross_import (λ i. func_import i.desc) (λ i. spaces1.func_import i.desc) (λ i. func_kind i.desc) m.imports))
        (replies_fit s.replies (filter_map (λ i. func_import i.desc) m.imports) k.replies);
    items = all_through (ItemFits m) (ItemFits1 (cross m)) s.items item_fits k.items;
  }
