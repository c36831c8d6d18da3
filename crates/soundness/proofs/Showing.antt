-- What the host sees of typed values is shown as of their types, and so are the values of the exported globals.
use Rattle.std.proofs.Common.{◌≡◌, ℕ, zero, suc, ◌<◌, true, List, [], ◌∷◌, ◌++◌, map, length, Option, Some, None, option_map, refl, sym, ap, ◌∙◌, subst, arith}
use Rattle.std.specs.Prelude.{slice_get, slice_index_or, filter_map, option_and_then}
use Rattle.std.specs.List.{AllByRecursion, cons_option}
use Rattle.std.proofs.lemmas.List.{map-append}
use Rattle.std.proofs.lemmas.Option.{slice_get-map}
use Rattle.host_kit.specs.declared.value.Value.{Value}
use Rattle.wasm_ast.specs.Spaces.{func_indices}
use Rattle.wasm_ast.specs.declared.module.ty.FuncType.{FuncType}
use Rattle.wasm_ast.specs.declared.module.ty.Ty.{Ty}
use Rattle.wasm_ast.specs.declared.module.ty.Ty.TheVariants as types
use Rattle.wasm_ast.specs.declared.module.ty.Limits.{Limits}
use Rattle.wasm_ast.specs.declared.module.parts.Import.{Import}
use Rattle.wasm_ast.specs.declared.module.parts.ImportDesc.{ImportDesc}
use Rattle.wasm_ast.specs.declared.module.parts.ImportDesc.TheVariants as imports
use Rattle.wasm_ast.specs.declared.module.parts.Export.{Export}
use Rattle.wasm_ast.specs.declared.module.parts.ExportDesc.{ExportDesc}
use Rattle.wasm_ast.specs.declared.module.parts.ExportDesc.TheVariants as exports
use Rattle.wasm_ast.specs.declared.module.parts.Global.{Global}
use Rattle.wasm_ast.specs.declared.module.parts.Table.{Table}
use Rattle.wasm_ast.specs.declared.module.parts.Module.{Module}
use Rattle.typed_trees.specs.Modules as typed
use Rattle.typed_trees.specs.Modules.{TypedDesc, TypedParts}
use Rattle.typed_trees.specs.declared.global_type.GlobalType.{GlobalType}
use Rattle.meaning_new.specs.declared.val.Val.{Val}
use Rattle.meaning_new.specs.declared.val.Val.TheVariants.{I32, I64, V128, Func, Extern, Exn, Null}
use Rattle.meaning_new.specs.Store.{Store, State, missing, to_host}
use Rattle.meaning_new.specs.Host.{global_value, global_values}
use Rattle.meaning_new.specs.Interface.{ExternType, Exported, func, tag, table, memory, global, typed_func, typed_tag, table_import, memory_import, global_import, all_tables, all_memories, all_globals, tag_indices, export_type}
use Rattle.soundness.specs.Events.{is_shown_as, AreShownAs, global_type, exported_globals}
use Rattle.soundness.specs.States.{Has, HaveTypes, StoreTyped, StateTyped}
use Rattle.soundness.proofs.Lists.{IfAny, pair_weaker, pair_map, pair_index, all_append, all_get}

-- the item at a place of a list
there : {A : Type 0} (xs : List A) (i : ℕ) → i < length xs → (x : A) × (slice_get xs i ≡ Some x)
there [] i h = let no : ⊥ = omega arith in absurd no
there (x ∷ xs) zero h = (x, refl)
there (x ∷ xs) (suc i) h = let less : i < length xs = omega arith in there xs i less

-- tables and memories are no globals
abbrev IsOther : ExternType → Type 0
IsOther t = global_type t ≡ None

other_tables : (is : List Import) → AllByRecursion IsOther (filter_map (λ i. table_import i.desc) is)
other_tables [] = tt
other_tables (i ∷ is) = one i.desc (filter_map (λ j. table_import j.desc) is) (other_tables is)
  where
    one : (d : ImportDesc) (l : List ExternType) → AllByRecursion IsOther l → AllByRecursion IsOther (cons_option (table_import d) l)
    one (imports.Table t limits) l h = (refl, h)
    one d l h = h

other_memories : (is : List Import) → AllByRecursion IsOther (filter_map (λ i. memory_import i.desc) is)
other_memories [] = tt
other_memories (i ∷ is) = one i.desc (filter_map (λ j. memory_import j.desc) is) (other_memories is)
  where
    one : (d : ImportDesc) (l : List ExternType) → AllByRecursion IsOther l → AllByRecursion IsOther (cons_option (memory_import d) l)
    one (imports.Memory limits) l h = (refl, h)
    one d l h = h

own_tables : (ts : List Table) → AllByRecursion IsOther (map (λ t. table t.ty t.limits) ts)
own_tables [] = tt
own_tables (t ∷ ts) = (refl, own_tables ts)

own_memories : (ls : List Limits) → AllByRecursion IsOther (map (λ limits. memory limits) ls)
own_memories [] = tt
own_memories (l ∷ ls) = (refl, own_memories ls)

-- the types of all globals, as they are linked and as code sees them
abbrev linked : GlobalType → ExternType
linked g = global g.ty g.mutable

linked_imports : (is : List Import) → filter_map (λ i. global_import i.desc) is ≡ map linked (filter_map (λ i. typed.global_import i.desc) is)
linked_imports [] = refl
linked_imports (i ∷ is) = one i.desc (filter_map (λ j. global_import j.desc) is) (filter_map (λ j. typed.global_import j.desc) is) (linked_imports is)
  where
    one : (d : ImportDesc) (l : List ExternType) (k : List GlobalType) → l ≡ map linked k → cons_option (global_import d) l ≡ map linked (cons_option (typed.global_import d) k)
    one (imports.Global t mutable) l k e = ap (λ x. global t mutable ∷ x) e
    one d l k e = e

linked_own : (gs : List Global) → map (λ g. global g.ty g.mutable) gs ≡ map linked (map typed.global_type gs)
linked_own [] = refl
linked_own (g ∷ gs) = ap (λ l. global g.ty g.mutable ∷ l) (linked_own gs)

linked_globals : (m : Module) → all_globals m ≡ map linked (typed.all_globals m)
linked_globals m =
    ap (λ l. l ++ map (λ g. global g.ty g.mutable) m.globals) (linked_imports m.imports)
    ∙ ap (λ l. map linked (filter_map (λ i. typed.global_import i.desc) m.imports) ++ l) (linked_own m.globals)
    ∙ sym (map-append linked (filter_map (λ i. typed.global_import i.desc) m.imports) (map typed.global_type m.globals))

module _ (m : Module) where
  pub shown : (k : ℕ) (v : Val) (t : Ty) → Has m k v t → is_shown_as (to_host v) t ≡ true
  shown k (I32 i) types.I32 h = refl
  shown k (I64 i) types.I64 h = refl
  shown k (V128 v) types.V128 h = refl
  shown k (Func x) types.Func h = refl
  shown k (Extern a) types.Extern h = refl
  shown k (Exn e) types.Exn h = refl
  shown k (Null types.Func) types.Func h = refl
  shown k (Null types.Extern) types.Extern h = refl
  shown k (Null types.Exn) types.Exn h = refl
  shown k _ _ h = let no : ⊥ = cc in absurd no

  pub all_shown : (k : ℕ) (vs : List Val) (ts : List Ty) → HaveTypes m k vs ts → AreShownAs (map to_host vs) ts
  all_shown k vs ts h = pair_map (λ v t. is_shown_as v t ≡ true) to_host vs ts (pair_weaker (Has m k) (λ v t. is_shown_as (to_host v) t ≡ true) (shown k) vs ts h)

  -- what is exported beside globals
  other_func : (o : Option FuncType) → option_and_then global_type (option_map (λ type. func type) o) ≡ None
  other_func None = refl
  other_func (Some t) = refl

  other_func_at : (o : Option ℕ) → option_and_then global_type (option_and_then (typed_func m) o) ≡ None
  other_func_at None = refl
  other_func_at (Some t) = other_func (slice_get m.types t)

  other_tag : (o : Option FuncType) → option_and_then global_type (option_map (λ type. tag type) o) ≡ None
  other_tag None = refl
  other_tag (Some t) = refl

  other_tag_at : (o : Option ℕ) → option_and_then global_type (option_and_then (typed_tag m) o) ≡ None
  other_tag_at None = refl
  other_tag_at (Some t) = other_tag (slice_get m.types t)

  other_at : (o : Option ExternType) → IfAny IsOther o → option_and_then global_type o ≡ None
  other_at None h = refl
  other_at (Some t) h = h

  module _ (s : Store) (t : StoreTyped m s) where
    -- the values and the types of exports in order, by that of the first
    abbrev With : Option Value → Option Ty → Type 0
    With v u = (vs : List Value) (us : List Ty) → AreShownAs vs us → AreShownAs (cons_option v vs) (cons_option u us)

    skipped : (o : Option Ty) → o ≡ None → With None o
    skipped o e vs us h = subst (λ u. AreShownAs vs (cons_option u us)) (sym e) h

    global_shown : (x : ℕ) (g : GlobalType) → slice_get (typed.all_globals m) x ≡ Some g → With (Some (to_host (slice_index_or s.globals x missing))) (option_and_then global_type (slice_get (all_globals m) x))
    global_shown x g e vs us h =
        let is : slice_get (all_globals m) x ≡ Some (linked g) = ap (λ l. slice_get l x) (linked_globals m) ∙ slice_get-map linked (typed.all_globals m) x ∙ ap (option_map linked) e in
        let value = shown (length s.exceptions) (slice_index_or s.globals x missing) g.ty (pair_index (λ v i. Has m (length s.exceptions) v i.ty) missing s.globals (typed.all_globals m) x g e t.globals) in
        subst (λ o. AreShownAs (to_host (slice_index_or s.globals x missing) ∷ vs) (cons_option (option_and_then global_type o) us)) (sym is) (value, h)

    export_shown : (d : ExportDesc) → TypedDesc m d → With (global_value s d) (option_and_then global_type (export_type m d))
    export_shown (exports.Func x) h = skipped _ (other_func_at (slice_get (func_indices m) x))
    export_shown (exports.Table x) h =
        skipped _ (other_at (slice_get (all_tables m) x) (all_get IsOther (all_tables m) x (all_append IsOther (filter_map (λ i. table_import i.desc) m.imports) (map (λ t. table t.ty t.limits) m.tables) (other_tables m.imports) (own_tables m.tables))))
    export_shown (exports.Memory x) h =
        skipped _ (other_at (slice_get (all_memories m) x) (all_get IsOther (all_memories m) x (all_append IsOther (filter_map (λ i. memory_import i.desc) m.imports) (map (λ limits. memory limits) m.memories) (other_memories m.imports) (own_memories m.memories))))
    export_shown (exports.Global x) h = let g = there (typed.all_globals m) x h in global_shown x g.0 g.1
    export_shown (exports.Tag x) h = skipped _ (other_tag_at (slice_get (tag_indices m) x))

    exports_shown : (es : List Export) → AllByRecursion (λ e. TypedDesc m e.desc) es → AreShownAs (filter_map (λ e. global_value s e.desc) es) (filter_map {X = Exported} (λ e. option_and_then global_type e.type) (map (λ e. record { name = e.name; type = export_type m e.desc }) es))
    exports_shown [] h = tt
    exports_shown (e ∷ es) h = export_shown e.desc h.0 _ _ (exports_shown es h.1)

  -- the values of the exported globals of a typed state
  pub globals_shown : TypedParts m → (s : State) → StateTyped m s → AreShownAs (global_values m s) (exported_globals m)
  globals_shown parts s h = exports_shown s.store h.store m.exports parts.exports
