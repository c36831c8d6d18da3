-- A script that fits a module of integers alone gives integers alone.
use Rattle.std.proofs.Common.{◌≡◌, ℕ, suc, true, List, [], ◌∷◌, map, length, Option, Some, None, option_map, refl, ap, ◌∙◌, subst}
use Rattle.std.proofs.lemmas.Option.{slice_get-map}
use Rattle.std.specs.Prelude.{filter_map, slice_get}
use Rattle.std.specs.List.{AllByRecursion}
use Rattle.host_kit.specs.Fits.{ValueHasType, ValuesHaveTypes, ActFits, ItemFits, ReplyFits, results_of, RepliesFit, ScriptFits}
use Rattle.host_kit.specs.Offered.{func_type, all_globals}
use Rattle.host_kit.specs.Pairwise.{Pairwise}
use Rattle.host_kit.specs.declared.script.Act.{Act}
use Rattle.host_kit.specs.declared.script.Act.TheVariants.{Set, Peek, Poke}
use Rattle.host_kit.specs.declared.script.Item.{Item}
use Rattle.host_kit.specs.declared.script.Item.TheVariants.{Call, Host}
use Rattle.host_kit.specs.declared.script.Reply.{Reply}
use Rattle.host_kit.specs.declared.script.Script.{Script}
use Rattle.host_kit.specs.declared.value.Value.{Value}
use Rattle.host_kit.specs.declared.value.Value.TheVariants as values
use Rattle.wasm_ast.specs.Spaces.{func_import, global_import}
use Rattle.wasm_ast.specs.declared.module.ty.Ty.{Ty}
use Rattle.wasm_ast.specs.declared.module.ty.Ty.TheVariants as types
use Rattle.wasm_ast.specs.declared.module.ty.FuncType.{FuncType}
use Rattle.wasm_ast.specs.declared.module.parts.Module.{Module}
use Rattle.crossing.specs.Code.{is_integer}
use Rattle.crossing.specs.States.{IsIntegerOfHost, ActIsPlain, ReplyIsPlain, ItemIsPlain, ScriptIsPlain}
use Rattle.crossing.specs.Crossing.{AreIntegers, TypeCrosses, Crosses, CrossesRuns}
use Rattle.crossing.proofs.Keeping.{IfThere, all_get}
use Rattle.crossing.proofs.Segments.{module_crossed}
use Rattle.crossing.proofs.Types.{func_type_there}

lengths : {A B : Type 0} (R : A → B → Type 0) (xs : List A) (ys : List B) → Pairwise R xs ys → length xs ≡ length ys
lengths R [] [] h = refl
lengths R [] (y ∷ ys) h = absurd h
lengths R (x ∷ xs) [] h = absurd h
lengths R (x ∷ xs) (y ∷ ys) h = ap (λ (n : ℕ). suc n) (lengths R xs ys h.1)

module _ (m : Module) where
  value_plain : (v : Value) (t : Ty) → ValueHasType m v t → is_integer t ≡ true → IsIntegerOfHost v
  value_plain (values.I32 i) t h k = tt
  value_plain (values.I64 i) t h k = tt
  value_plain (values.V128 low high) types.V128 h k = absurd cc
  value_plain (values.Func x) types.Func h k = absurd cc
  value_plain (values.Extern a) types.Extern h k = absurd cc
  value_plain values.NullFunc types.Func h k = absurd cc
  value_plain values.NullExtern types.Extern h k = absurd cc
  value_plain v t h k = absurd h

  values_plain : (vs : List Value) (ts : List Ty) → ValuesHaveTypes m vs ts → AreIntegers ts → AllByRecursion IsIntegerOfHost vs
  values_plain [] [] h k = tt
  values_plain [] (t ∷ ts) h k = absurd h
  values_plain (v ∷ vs) [] h k = absurd h
  values_plain (v ∷ vs) (t ∷ ts) h k = (value_plain v t h.0 k.0, values_plain vs ts h.1 k.1)

  module _ (crosses : Crosses m) where
    typed_plain : (o : Option FuncType) (t : FuncType) → o ≡ Some t → IfThere TypeCrosses o → TypeCrosses t
    typed_plain o t e h = subst (λ r. IfThere TypeCrosses r) e h

    integer_there : (o : Option Ty) (t : Ty) → o ≡ Some t → IfThere (λ x. is_integer x ≡ true) o → is_integer t ≡ true
    integer_there o t e h = subst (λ r. IfThere (λ x. is_integer x ≡ true) r) e h

    act_is_plain : (a : Act) → ActFits m a → ActIsPlain a
    act_is_plain (Set name v) h =
        value_plain v h.type h.value
        (integer_there (slice_get (map (λ g. g.ty) (all_globals m)) h.index) h.type (slice_get-map (λ g. g.ty) (all_globals m) h.index ∙ ap (option_map (λ g. g.ty)) h.mutable)
        (all_get (λ x. is_integer x ≡ true) (map (λ g. g.ty) (all_globals m)) h.index crosses.globals.all))
    act_is_plain (Peek name at count) h = tt
    act_is_plain (Poke name at bytes) h = tt

    acts_are_plain : (done : List Act) → AllByRecursion (ActFits m) done → AllByRecursion ActIsPlain done
    acts_are_plain [] h = tt
    acts_are_plain (a ∷ done) h = (act_is_plain a h.0, acts_are_plain done h.1)

    item_is_plain : (i : Item) → ItemFits m i → ItemIsPlain i
    item_is_plain (Call name arguments) h =
        values_plain arguments h.type.params h.params (typed_plain (func_type m h.func) h.type h.typed (func_type_there m crosses.functions.types h.func)).params
    item_is_plain (Host a) h = act_is_plain a h

    items_are_plain : (is : List Item) → AllByRecursion (ItemFits m) is → AllByRecursion ItemIsPlain is
    items_are_plain [] h = tt
    items_are_plain (i ∷ is) h = (item_is_plain i h.0, items_are_plain is h.1)

    results_plain : (o : Option FuncType) → IfThere TypeCrosses o → AreIntegers (results_of o)
    results_plain None h = tt
    results_plain (Some t) h = h.results

    replies_of : (results : List Ty) → AreIntegers results → (rs : List Reply) → AllByRecursion (ReplyFits m results) rs → AllByRecursion ReplyIsPlain rs
    replies_of results k [] h = tt
    replies_of results k (r ∷ rs) h = (record { values = values_plain r.values results h.0.values k; acts = acts_are_plain r.acts h.0.acts }, replies_of results k rs h.1)

    replies_are_plain : (replies : List (List Reply)) (indices : List ℕ) → RepliesFit m replies indices → AllByRecursion (λ rs. AllByRecursion ReplyIsPlain rs) replies
    replies_are_plain [] [] h = tt
    replies_are_plain [] (t ∷ ts) h = absurd h
    replies_are_plain (rs ∷ more) [] h = absurd h
    replies_are_plain (rs ∷ more) (t ∷ ts) h =
        (replies_of (results_of (slice_get m.types t)) (results_plain (slice_get m.types t) (all_get TypeCrosses m.types t crosses.functions.types)) rs h.0, replies_are_plain more ts h.1)

    script_is_plain : (script : Script) → ScriptFits m script → ScriptIsPlain script
    script_is_plain script h = record {
      globals = values_plain script.globals (filter_map (λ i. global_import i.desc) m.imports) h.globals crosses.globals.imported;
      replies = replies_are_plain script.replies (filter_map (λ i. func_import i.desc) m.imports) h.replies;
      items = items_are_plain script.items h.items;
    }

-- every module that crosses, every script that fits it, and every number of turns
pub crosses_runs : CrossesRuns
crosses_runs m script n crosses fits =
    module_crossed m script (script_is_plain m crosses script fits) crosses.parts crosses.segments (lengths (ValueHasType m) script.globals (filter_map (λ i. global_import i.desc) m.imports) fits.globals) crosses.functions n
