-- A script that fits a module fits the one without constant expressions that compute: it offers as much.
use Rattle.std.proofs.Common.{◌≡◌, ℕ, zero, suc, ◌+◌, ◌<◌, ◌≤◌, Bool, true, le_refl, List, [], ◌∷◌, ◌++◌, map, length, Option, Some, None, option_map, refl, sym, ap, ◌∙◌, subst, arith}
use Rattle.std.specs.Prelude.{filter_map, slice_get, option_and_then, bytes_eq, count_by}
use Rattle.std.specs.List.{AllByRecursion, find}
use Rattle.std.proofs.lemmas.List.{append_assoc, length-append}
use Rattle.host_kit.specs.Fits.{ValueHasType, ValuesHaveTypes, ActFits, MemoryFits, ItemFits, ReplyFits, RepliesFit, ScriptFits, results_of}
use Rattle.host_kit.specs.Offered.{exported, func_type, all_globals, imported_global}
use Rattle.host_kit.specs.declared.script.Act.{Act}
use Rattle.host_kit.specs.declared.script.Act.TheVariants.{Set, Peek, Poke}
use Rattle.host_kit.specs.declared.script.Item.{Item}
use Rattle.host_kit.specs.declared.script.Item.TheVariants.{Call, Host}
use Rattle.host_kit.specs.declared.script.Reply.{Reply}
use Rattle.host_kit.specs.declared.script.Script.{Script}
use Rattle.host_kit.specs.declared.value.Value.{Value}
use Rattle.host_kit.specs.declared.value.Value.TheVariants as values
use Rattle.wasm_ast.specs.Fold.{known_at, known_globals}
use Rattle.wasm_ast.specs.Spaces.{is_global, is_memory, imported, memory_count, func_import, func_indices, global_import}
use Rattle.wasm_ast.specs.declared.folding.folded.Folded.{Folded}
use Rattle.wasm_ast.specs.declared.module.code.Instr.{Instr}
use Rattle.wasm_ast.specs.declared.module.parts.Global.{Global}
use Rattle.wasm_ast.specs.declared.module.parts.Module.{Module}
use Rattle.wasm_ast.specs.declared.module.ty.FuncType.{FuncType}
use Rattle.wasm_ast.specs.declared.module.ty.Ty.{Ty}
use Rattle.wasm_ast.specs.declared.module.ty.Ty.TheVariants as types
use Rattle.pass_plain.specs.Folding.{folded_global, folded_globals, folded_part, setting_code, nothing_to_nothing, started, without_constants}
use Rattle.pass_plain.proofs.Parts.{all_map}

-- What o offers where it has m's imports, exports and memories, and more.
record OffersMore (m o : Module) : Type 0 where
  pub imports : o.imports ≡ m.imports
  pub exports : o.exports ≡ m.exports
  pub memories : o.memories ≡ m.memories
  pub longer : length (func_indices m) ≤ length (func_indices o)
  pub typed : (x : ℕ) (t : FuncType) → func_type m x ≡ Some t → func_type o x ≡ Some t
  pub results : (t : ℕ) → results_of (slice_get o.types t) ≡ results_of (slice_get m.types t)
  pub mutable : (x : ℕ) (t : Ty) → slice_get (all_globals m) x ≡ Some (record { ty = t; mutable = true }) → slice_get (all_globals o) x ≡ Some (record { ty = t; mutable = true })

module _ {m o : Module} (h : OffersMore m o) where
  value_fits : (v : Value) (t : Ty) → ValueHasType m v t → ValueHasType o v t
  value_fits (values.I32 i) types.I32 k = k
  value_fits (values.I64 i) types.I64 k = k
  value_fits (values.V128 low high) types.V128 k = k
  value_fits (values.Func x) types.Func k = let le = h.longer in omega arith
  value_fits (values.Extern a) types.Extern k = k
  value_fits values.NullFunc types.Func k = tt
  value_fits values.NullExtern types.Extern k = tt
  value_fits v t k = absurd k

  values_fit : (vs : List Value) (ts : List Ty) → ValuesHaveTypes m vs ts → ValuesHaveTypes o vs ts
  values_fit [] [] k = tt
  values_fit [] (t ∷ ts) k = absurd k
  values_fit (v ∷ vs) [] k = absurd k
  values_fit (v ∷ vs) (t ∷ ts) k = (value_fits v t k.0, values_fit vs ts k.1)

  offers_same : (name : List ℕ) → exported o name ≡ exported m name
  offers_same name = ap (λ (l : List _). option_map (λ e. e.desc) (find (λ e. bytes_eq e.name name) l)) h.exports

  memories_same : memory_count o ≡ memory_count m
  memories_same = ap (λ (l : List _). count_by (λ i. is_memory i.desc) l + length o.memories) h.imports ∙ ap (λ (l : List _). imported is_memory m + length l) h.memories

  memory_fits : (name : List ℕ) (at count : ℕ) → MemoryFits m name at count → MemoryFits o name at count
  memory_fits name at count k = record { index = k.index; offered = offers_same name ∙ k.offered; there = subst (λ n. k.index < n) (sym memories_same) k.there; address = k.address; few = k.few }

  act_fits : (a : Act) → ActFits m a → ActFits o a
  act_fits (Set name v) k = record { index = k.index; type = k.type; offered = offers_same name ∙ k.offered; mutable = h.mutable k.index k.type k.mutable; value = value_fits v k.type k.value }
  act_fits (Peek name at count) k = memory_fits name at count k
  act_fits (Poke name at bytes) k = (memory_fits name at (length bytes) k.0, k.1)

  item_fits : (item : Item) → ItemFits m item → ItemFits o item
  item_fits (Call name arguments) k = record { func = k.func; type = k.type; offered = offers_same name ∙ k.offered; typed = h.typed k.func k.type k.typed; params = values_fit arguments k.type.params k.params }
  item_fits (Host a) k = act_fits a k

  reply_fits : (ts : List Ty) (r : Reply) → ReplyFits m ts r → ReplyFits o ts r
  reply_fits ts r k = record { acts = all_map (ActFits m) (ActFits o) act_fits r.acts k.acts; values = values_fit r.values ts k.values }

  replies_fit : (replies : List (List Reply)) (indices : List ℕ) → RepliesFit m replies indices → RepliesFit o replies indices
  replies_fit [] [] k = tt
  replies_fit [] (t ∷ indices) k = absurd k
  replies_fit (rs ∷ replies) [] k = absurd k
  replies_fit (rs ∷ replies) (t ∷ indices) k = (
    subst (λ ts. AllByRecursion (ReplyFits o ts) rs) (sym (h.results t)) (all_map (ReplyFits m (results_of (slice_get m.types t))) (ReplyFits o (results_of (slice_get m.types t))) (reply_fits (results_of (slice_get m.types t))) rs k.0),
    replies_fit replies indices k.1,
  )

  script_fits : (s : Script) → ScriptFits m s → ScriptFits o s
  script_fits s k = record {
    globals = subst (λ (l : List _). ValuesHaveTypes o s.globals (filter_map (λ i. global_import i.desc) l)) (sym h.imports) (values_fit s.globals (filter_map (λ i. global_import i.desc) m.imports) k.globals);
    replies = subst (λ (l : List _). RepliesFit o s.replies (filter_map (λ i. func_import i.desc) l)) (sym h.imports) (replies_fit s.replies (filter_map (λ i. func_import i.desc) m.imports) k.replies);
    items = all_map (ItemFits m) (ItemFits o) item_fits s.items k.items;
  }

-- items that are there, with more behind
got_still : {A : Type 0} (l more : List A) (x : ℕ) (a : A) → slice_get l x ≡ Some a → slice_get (l ++ more) x ≡ Some a
got_still [] more x a e = let no : ⊥ = cc in absurd no
got_still (b ∷ l) more zero a e = e
got_still (b ∷ l) more (suc x) a e = got_still l more x a e

-- a type without results where there was none
results_still : (ts : List FuncType) (x : ℕ) → results_of (slice_get (ts ++ nothing_to_nothing ∷ []) x) ≡ results_of (slice_get ts x)
results_still [] zero = refl
results_still [] (suc x) = refl
results_still (t ∷ ts) zero = refl
results_still (t ∷ ts) (suc x) = results_still ts x

typed_still : (ts more : List FuncType) (fs others : List ℕ) (x : ℕ) (t : FuncType) → option_and_then (slice_get ts) (slice_get fs x) ≡ Some t → option_and_then (slice_get (ts ++ more)) (slice_get (fs ++ others) x) ≡ Some t
typed_still ts more fs others x t e = by (slice_get fs x) refl e
  where
    by : (i : Option ℕ) → slice_get fs x ≡ i → option_and_then (slice_get ts) i ≡ Some t → option_and_then (slice_get (ts ++ more)) (slice_get (fs ++ others) x) ≡ Some t
    by None f g = let no : ⊥ = cc in absurd no
    by (Some y) f g = ap (option_and_then (slice_get (ts ++ more))) (got_still fs others x y f) ∙ got_still ts more y t g

-- a global that can be changed still can; its type is made of a value type and of whether it can
module _ {A : Type 0} (front : List A) (make : Ty → Bool → A) (type : A → Ty) (of : (t : Ty) (b : Bool) → type (make t b) ≡ t) where
  type_same : (a b : A) → Some a ≡ Some b → type a ≡ type b
  type_same a b e = let is : a ≡ b = cc in ap type is

  global_mutable : (g : Global) (k : Option Folded) (t : Ty) → Some (make g.ty g.mutable) ≡ Some (make t true) → Some (make (folded_global g k).ty (folded_global g k).mutable) ≡ Some (make t true)
  global_mutable g (Some v) t e = e
  global_mutable g None t e = ap (λ u. Some (make u true)) (sym (of g.ty g.mutable) ∙ type_same (make g.ty g.mutable) (make t true) e ∙ of t true)

  own_mutable : (all : List (Option Folded)) (x : ℕ) (gs : List Global) (i : ℕ) (t : Ty) → slice_get (map (λ g. make g.ty g.mutable) gs) i ≡ Some (make t true) → slice_get (map (λ g. make g.ty g.mutable) (folded_globals all x gs)) i ≡ Some (make t true)
  own_mutable all x [] i t e = let no : ⊥ = cc in absurd no
  own_mutable all x (g ∷ gs) zero t e = global_mutable g (known_at all x) t e
  own_mutable all x (g ∷ gs) (suc i) t e = own_mutable all (x + 1) gs i t e

  behind_mutable : (before : List A) (all : List (Option Folded)) (x : ℕ) (gs : List Global) (i : ℕ) (t : Ty) → slice_get (before ++ map (λ g. make g.ty g.mutable) gs) i ≡ Some (make t true) → slice_get (before ++ map (λ g. make g.ty g.mutable) (folded_globals all x gs)) i ≡ Some (make t true)
  behind_mutable [] all x gs i t e = own_mutable all x gs i t e
  behind_mutable (a ∷ before) all x gs zero t e = e
  behind_mutable (a ∷ before) all x gs (suc i) t e = behind_mutable before all x gs i t e

  all_mutable : (all : List (Option Folded)) (x : ℕ) (gs : List Global) (i : ℕ) (t : Ty) → slice_get (front ++ map (λ g. make g.ty g.mutable) gs) i ≡ Some (make t true) → slice_get (front ++ map (λ g. make g.ty g.mutable) (folded_globals all x gs)) i ≡ Some (make t true)
  all_mutable = behind_mutable front

module _ (m : Module) where
  mutable_still : (x : ℕ) (t : Ty) → slice_get (all_globals m) x ≡ Some (record { ty = t; mutable = true }) → slice_get (all_globals (folded_part m)) x ≡ Some (record { ty = t; mutable = true })
  mutable_still = all_mutable (filter_map (λ i. imported_global i.desc) m.imports) (λ t b. record { ty = t; mutable = b }) (λ a. a.ty) (λ t b. refl) (known_globals m) (imported is_global m) m.globals

  offers_more : (code : List Instr) → OffersMore m (started m code)
  offers_more [] = record { imports = refl; exports = refl; memories = refl; longer = le_refl (length (func_indices m)); typed = λ x t e. e; results = λ t. refl; mutable = mutable_still }
  offers_more (i ∷ code) =
      let first = filter_map (λ j. func_import j.desc) m.imports in
      record {
        imports = refl;
        exports = refl;
        memories = refl;
        longer = subst (λ (l : List ℕ). length (func_indices m) ≤ length l) (append_assoc first m.funcs (length m.types ∷ [])) (let e = length-append (func_indices m) (length m.types ∷ []) in omega arith);
        typed = λ x t e.
            subst (λ (l : List ℕ). option_and_then (slice_get (m.types ++ nothing_to_nothing ∷ [])) (slice_get l x) ≡ Some t) (append_assoc first m.funcs (length m.types ∷ []))
            (typed_still m.types (nothing_to_nothing ∷ []) (func_indices m) (length m.types ∷ []) x t e);
        results = results_still m.types;
        mutable = mutable_still;
      }

  -- The lemma.
  pub constants_fit : (s : Script) → ScriptFits m s → ScriptFits (without_constants m) s
  constants_fit = script_fits (offers_more (setting_code m))
