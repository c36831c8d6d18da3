-- The exports of a typed module without those of tags: a host is offered the same, since no two exports have one name.
use Rattle.std.proofs.Common.{◌≡◌, ◌≢◌, ℕ, zero, suc, ◌<◌, inl, inr, Bool, true, false, not, cond, ◌||◌, List, [], ◌∷◌, ◌++◌, length, map, filter_map, Option, Some, None, option_map, option_and_then, slice_get, unwrap_or, replicate, nat_eq, refl, sym, ap, ◌∙◌, subst, arith}
use Rattle.std.specs.Prelude.{slice_index_or}
use Rattle.std.specs.List.{starts_with, list_any, filter, find, flat_map, cons_option, AllByRecursion, AllPairs}
use Rattle.std.specs.Str.{bytes_eq}
use Rattle.std.proofs.lemmas.Slice.Eq.{bytes_eq-Decides}
use Rattle.std.proofs.lemmas.List.Kept.{AllPairs-filter}
use Rattle.wasm_ast.specs.Marking.{marked}
use Rattle.wasm_ast.specs.Spaces.{func_indices}
use Rattle.wasm_ast.specs.declared.module.ty.FuncType.{FuncType}
use Rattle.wasm_ast.specs.declared.module.parts.Export.{Export}
use Rattle.wasm_ast.specs.declared.module.parts.ExportDesc.{ExportDesc}
use Rattle.wasm_ast.specs.declared.module.parts.ExportDesc.TheVariants as descs
use Rattle.wasm_ast.specs.declared.module.parts.Import.{Import}
use Rattle.wasm_ast.specs.declared.module.parts.ImportDesc.{ImportDesc}
use Rattle.wasm_ast.specs.declared.module.parts.ImportDesc.TheVariants as imports
use Rattle.wasm_ast.specs.declared.module.parts.Module.{Module}
use Rattle.typed_trees.specs.Modules.{func_exported, named_in, named_in_element, named_in_offset, refs_of, TypedDesc, TypedImport, TypedTag, TypedParts}
use Rattle.meaning_new.specs.Host.{global_value}
use Rattle.meaning_new.specs.Interface.{ExternType, Exported, func, table, memory, global, tag, typed_func, typed_tag, table_import, memory_import, global_import, tag_import, all_tables, all_memories, all_globals, tag_indices, export_type}
use Rattle.pass_plain.specs.Plans.{is_tag_type}
use Rattle.pass_plain.specs.Trimming.{is_tag, untagged}
use Rattle.pass_plain.proofs.Runs.{SameOffer}
use Rattle.pass_plain.proofs.Stages.{SameExports}

abbrev stays : Export → Bool
stays e = not (is_tag e.desc)

-- what is told of exports one by one, and tells nothing of tags, is the same without tags
module _ {X : Type 0} (g : ExportDesc → X → X) (nothing : (x : ℕ) (r : X) → g (descs.Tag x) r ≡ r) (none : X) where
  abbrev told : List Export → X
  told [] = none
  told (e ∷ es) = g e.desc (told es)

  told_next : (e : Export) (rest : List Export) (d : ExportDesc) → e.desc ≡ d → told (cond (not (is_tag d)) (e ∷ rest) rest) ≡ g e.desc (told rest)
  told_next e rest (descs.Tag x) is = sym (ap (λ d. g d (told rest)) is ∙ nothing x (told rest))
  told_next e rest d is = refl

  told_untagged : (es : List Export) → told (untagged es) ≡ told es
  told_untagged [] = refl
  told_untagged (e ∷ es) = told_next e (untagged es) e.desc refl ∙ ap (g e.desc) (told_untagged es)

module _ (t : ExportDesc → Bool) (h : (x : ℕ) → t (descs.Tag x) ≡ false) where
  abbrev test_next : ExportDesc → Bool → Bool
  test_next d r = t d || r

  told_any : (es : List Export) → told test_next (λ x r. ap (λ b. b || r) (h x)) false es ≡ list_any (λ e. t e.desc) es
  told_any [] = refl
  told_any (e ∷ es) = ap (λ b. t e.desc || b) (told_any es)

  pub any_untagged : (es : List Export) → list_any (λ e. t e.desc) (untagged es) ≡ list_any (λ e. t e.desc) es
  any_untagged es = sym (told_any (untagged es)) ∙ told_untagged test_next (λ x r. ap (λ b. b || r) (h x)) false es ∙ told_any es

module _ {Y : Type 0} (f : ExportDesc → Option Y) (h : (x : ℕ) → f (descs.Tag x) ≡ None) where
  abbrev value_next : ExportDesc → List Y → List Y
  value_next d r = cons_option (f d) r

  told_some : (es : List Export) → told value_next (λ x r. ap (λ o. cons_option o r) (h x)) [] es ≡ filter_map (λ e. f e.desc) es
  told_some [] = refl
  told_some (e ∷ es) = ap (cons_option (f e.desc)) (told_some es)

  pub some_untagged : (es : List Export) → filter_map (λ e. f e.desc) (untagged es) ≡ filter_map (λ e. f e.desc) es
  some_untagged es = sym (told_some (untagged es)) ∙ told_untagged value_next (λ x r. ap (λ o. cons_option o r) (h x)) [] es ∙ told_some es

abbrev func_next : ExportDesc → List ℕ → List ℕ
func_next d r = func_exported d ++ r

told_funcs : (es : List Export) → told func_next (λ x r. refl) [] es ≡ flat_map (λ e. func_exported e.desc) es
told_funcs [] = refl
told_funcs (e ∷ es) = ap (λ l. func_exported e.desc ++ l) (told_funcs es)

funcs_untagged : (es : List Export) → flat_map (λ e. func_exported e.desc) (untagged es) ≡ flat_map (λ e. func_exported e.desc) es
funcs_untagged es = sym (told_funcs (untagged es)) ∙ told_untagged func_next (λ x r. refl) [] es ∙ told_funcs es

-- no export is new
or_after : (a b : Bool) → b ≡ true → (a || b) ≡ true
or_after true b h = refl
or_after false b h = h

or_either : (a b c : Bool) → (c ≡ true → b ≡ true) → (a || c) ≡ true → (a || b) ≡ true
or_either true b c h e = refl
or_either false b c h e = h e

module _ (t : Export → Bool) where
  some_next : (e : Export) (es rest : List Export) (b : Bool) → (list_any t rest ≡ true → list_any t es ≡ true) → list_any t (cond b (e ∷ rest) rest) ≡ true → (t e || list_any t es) ≡ true
  some_next e es rest true h is = or_either (t e) (list_any t es) (list_any t rest) h is
  some_next e es rest false h is = or_after (t e) (list_any t es) (h is)

  some_before : (es : List Export) → list_any t (untagged es) ≡ true → list_any t es ≡ true
  some_before [] h = h
  some_before (e ∷ es) h = some_next e es (untagged es) (stays e) (some_before es) h

-- what holds of all holds of those that stay
all_next : (P : Export → Type 0) (e : Export) (rest : List Export) (b : Bool) → P e → AllByRecursion P rest → AllByRecursion P (cond b (e ∷ rest) rest)
all_next P e rest true h k = (h, k)
all_next P e rest false h k = k

pub all_untagged : (P : Export → Type 0) (es : List Export) → AllByRecursion P es → AllByRecursion P (untagged es)
all_untagged P [] h = tt
all_untagged P (e ∷ es) h = all_next P e (untagged es) (stays e) h.0 (all_untagged P es h.1)

-- what is exported under a name
abbrev Different : List Export → Type 0
Different es = AllPairs (λ a b. a.name ≢ b.name) es

pub different_untagged : (es : List Export) → Different es → Different (untagged es)
different_untagged es h = AllPairs-filter (λ a b. a.name ≢ b.name) stays es h

all_later : (P : Export → Type 0) (es : List Export) → ((j : ℕ) (d : Export) → j < length es → P (slice_index_or es j d)) → AllByRecursion P es
all_later P [] h = tt
all_later P (x ∷ es) h = (h 0 x (omega arith), all_later P es (λ j d w. h (suc j) d (omega arith)))

first_differs : (e : Export) (es : List Export) → Different (e ∷ es) → AllByRecursion (λ x. e.name ≢ x.name) es
first_differs e es h = all_later (λ x. e.name ≢ x.name) es (λ j d w. h 0 (suc j) d (omega arith) (omega arith))

behind_first : (e : Export) (es : List Export) → Different (e ∷ es) → Different es
behind_first e es h i j d l w = h (suc i) (suc j) d (omega arith) (omega arith)

module _ (name : List ℕ) where
  abbrev has_name : Export → Bool
  has_name e = bytes_eq e.name name

  abbrev found : List Export → Option ExportDesc
  found es = option_map (λ e. e.desc) (find has_name es)

  -- none of those that stay has the name of an export with another name
  not_named : (e x : Export) (b : Bool) → has_name x ≡ b → has_name e ≡ true → e.name ≢ x.name → b ≡ false
  not_named e x true is h n = absurd (n ((bytes_eq-Decides e.name name).0 h ∙ sym ((bytes_eq-Decides x.name name).0 is)))
  not_named e x false is h n = refl

  found_next : (x : Export) (rest : List Export) (b : Bool) → has_name x ≡ false → found rest ≡ None → found (cond b (x ∷ rest) rest) ≡ None
  found_next x rest true u h = ap (λ b. option_map (λ e. e.desc) (cond b (Some x) (find has_name rest))) u ∙ h
  found_next x rest false u h = h

  none_found : (e : Export) (es : List Export) → has_name e ≡ true → AllByRecursion (λ x. e.name ≢ x.name) es → found (untagged es) ≡ None
  none_found e [] h n = refl
  none_found e (x ∷ es) h n = found_next x (untagged es) (stays x) (not_named e x (has_name x) refl h n.0) (none_found e es h n.1)

  offer_next : (e : Export) (es : List Export) (b : Bool) (d : ExportDesc) → has_name e ≡ b → e.desc ≡ d → Different (e ∷ es) → SameOffer (found es) (found (untagged es))
      → SameOffer (option_map (λ x. x.desc) (cond b (Some e) (find has_name es))) (found (cond (not (is_tag d)) (e ∷ untagged es) (untagged es)))
  offer_next e es true (descs.Tag x) h is n rest = inr (x, ap Some is, none_found e es h (first_differs e es n))
  offer_next e es false (descs.Tag x) h is n rest = rest
  offer_next e es true d h is n rest = inl (ap (λ b. option_map (λ x. x.desc) (cond b (Some e) (find has_name (untagged es)))) (sym h))
  offer_next e es false d h is n rest =
      subst (λ b. SameOffer (found es) (option_map (λ x. x.desc) (cond b (Some e) (find has_name (untagged es))))) (sym h) rest

  offers_untagged : (es : List Export) → Different es → SameOffer (found es) (found (untagged es))
  offers_untagged [] n = inl refl
  offers_untagged (e ∷ es) n = offer_next e es (has_name e) e.desc refl refl n (offers_untagged es (behind_first e es n))

pub same_untagged : (m : Module) → Different m.exports → SameExports m (untagged m.exports)
same_untagged m n = record {
  offers = λ name. offers_untagged name m.exports n;
  values = λ s. sym (some_untagged (global_value s) (λ x. refl) m.exports);
  tested = λ t h. any_untagged t h m.exports;
  named = λ front. some_before (λ e. starts_with nat_eq e.name front) m.exports;
}

-- the same functions occur outside bodies
pub refs_untagged : (m : Module) → refs_of (record m { exports = untagged m.exports }) ≡ refs_of m
refs_untagged m =
    ap (λ l. marked (flat_map (λ t. named_in (unwrap_or t.init [])) m.tables ++ flat_map (λ g. named_in g.init) m.globals ++ l ++ flat_map named_in_element m.elems ++ flat_map (λ s. named_in_offset s.mode) m.datas) (replicate (length (func_indices m)) false))
    (funcs_untagged m.exports)

-- the interface: a tag is what has the type of one
abbrev NoTag : ExternType → Type 0
NoTag t = is_tag_type (Some t) ≡ false

no_tag_at : (ts : List ExternType) → AllByRecursion NoTag ts → (k : ℕ) → is_tag_type (slice_get ts k) ≡ false
no_tag_at [] h k = refl
no_tag_at (t ∷ ts) h zero = h.0
no_tag_at (t ∷ ts) h (suc k) = no_tag_at ts h.1 k

no_tag_append : (a b : List ExternType) → AllByRecursion NoTag a → AllByRecursion NoTag b → AllByRecursion NoTag (a ++ b)
no_tag_append [] b h k = k
no_tag_append (t ∷ a) b h k = (h.0, no_tag_append a b h.1 k)

no_tag_map : {X : Type 0} (f : X → ExternType) → ((x : X) → NoTag (f x)) → (xs : List X) → AllByRecursion NoTag (map f xs)
no_tag_map f h [] = tt
no_tag_map f h (x ∷ xs) = (h x, no_tag_map f h xs)

no_tag_cons : (o : Option ExternType) (ts : List ExternType) → is_tag_type o ≡ false → AllByRecursion NoTag ts → AllByRecursion NoTag (cons_option o ts)
no_tag_cons None ts h k = k
no_tag_cons (Some t) ts h k = (h, k)

no_tag_imported : (f : ImportDesc → Option ExternType) → ((d : ImportDesc) → is_tag_type (f d) ≡ false) → (is : List Import) → AllByRecursion NoTag (filter_map (λ i. f i.desc) is)
no_tag_imported f h [] = tt
no_tag_imported f h (i ∷ is) = no_tag_cons (f i.desc) (filter_map (λ j. f j.desc) is) (h i.desc) (no_tag_imported f h is)

table_no_tag : (d : ImportDesc) → is_tag_type (table_import d) ≡ false
table_no_tag (imports.Table t limits) = refl
table_no_tag d = refl

memory_no_tag : (d : ImportDesc) → is_tag_type (memory_import d) ≡ false
memory_no_tag (imports.Memory limits) = refl
memory_no_tag d = refl

global_no_tag : (d : ImportDesc) → is_tag_type (global_import d) ≡ false
global_no_tag (imports.Global t mutable) = refl
global_no_tag d = refl

func_no_tag : (o : Option FuncType) → is_tag_type (option_map (λ t. func t) o) ≡ false
func_no_tag None = refl
func_no_tag (Some t) = refl

index_no_tag : (m : Module) (o : Option ℕ) → is_tag_type (option_and_then (typed_func m) o) ≡ false
index_no_tag m None = refl
index_no_tag m (Some t) = func_no_tag (slice_get m.types t)

-- a tag of a typed module has a type
tag_cons : (m : Module) (d : ImportDesc) (rest : List ℕ) → TypedImport m d → AllByRecursion (TypedTag m) rest → AllByRecursion (TypedTag m) (cons_option (tag_import d) rest)
tag_cons m (imports.Tag t) rest h k = (h, k)
tag_cons m d rest h k = k

tags_imported : (m : Module) (is : List Import) → AllByRecursion (λ i. TypedImport m i.desc) is → AllByRecursion (TypedTag m) (filter_map (λ i. tag_import i.desc) is)
tags_imported m [] h = tt
tags_imported m (i ∷ is) h = tag_cons m i.desc (filter_map (λ j. tag_import j.desc) is) h.0 (tags_imported m is h.1)

tags_append : (m : Module) (a b : List ℕ) → AllByRecursion (TypedTag m) a → AllByRecursion (TypedTag m) b → AllByRecursion (TypedTag m) (a ++ b)
tags_append m [] b h k = k
tags_append m (t ∷ a) b h k = (h.0, tags_append m a b h.1 k)

tag_at : (m : Module) (tags : List ℕ) → AllByRecursion (TypedTag m) tags → (x : ℕ) → x < length tags → is_tag_type (option_and_then (typed_tag m) (slice_get tags x)) ≡ true
tag_at m [] h x l = absurd (omega arith)
tag_at m (t ∷ tags) h zero l = ap (λ o. is_tag_type (option_map (λ type. tag type) o)) h.0.declared
tag_at m (t ∷ tags) h (suc x) l = tag_at m tags h.1 x (omega arith)

module _ (m : Module) (typed : TypedParts m) where
  seen_as_tag : (d : ExportDesc) → TypedDesc m d → is_tag_type (export_type m d) ≡ is_tag d
  seen_as_tag (descs.Func x) h = index_no_tag m (slice_get (func_indices m) x)
  seen_as_tag (descs.Table x) h =
      no_tag_at (all_tables m) (no_tag_append (filter_map (λ i. table_import i.desc) m.imports) (map (λ t. table t.ty t.limits) m.tables) (no_tag_imported table_import table_no_tag m.imports) (no_tag_map (λ t. table t.ty t.limits) (λ t. refl) m.tables)) x
  seen_as_tag (descs.Memory x) h =
      no_tag_at (all_memories m) (no_tag_append (filter_map (λ i. memory_import i.desc) m.imports) (map (λ limits. memory limits) m.memories) (no_tag_imported memory_import memory_no_tag m.imports) (no_tag_map (λ limits. memory limits) (λ limits. refl) m.memories)) x
  seen_as_tag (descs.Global x) h =
      no_tag_at (all_globals m) (no_tag_append (filter_map (λ i. global_import i.desc) m.imports) (map (λ g. global g.ty g.mutable) m.globals) (no_tag_imported global_import global_no_tag m.imports) (no_tag_map (λ g. global g.ty g.mutable) (λ g. refl) m.globals)) x
  seen_as_tag (descs.Tag x) h =
      tag_at m (tag_indices m) (tags_append m (filter_map (λ i. tag_import i.desc) m.imports) m.tags (tags_imported m m.imports typed.imports) typed.tags) x h

  abbrev shown : Export → Exported
  shown e = record { name = e.name; type = export_type m e.desc }

  shown_next : (e : Export) (rest : List Export) (b : Bool) → map shown (cond b (e ∷ rest) rest) ≡ cond b (shown e ∷ map shown rest) (map shown rest)
  shown_next e rest true = refl
  shown_next e rest false = refl

  -- a host is shown the exports that are no tags
  pub shown_untagged : (es : List Export) → AllByRecursion (λ e. TypedDesc m e.desc) es → map shown (untagged es) ≡ filter (λ e. not (is_tag_type e.type)) (map shown es)
  shown_untagged [] h = refl
  shown_untagged (e ∷ es) h =
      shown_next e (untagged es) (stays e)
      ∙ ap (λ b. cond (not b) (shown e ∷ map shown (untagged es)) (map shown (untagged es))) (sym (seen_as_tag e.desc h.0))
      ∙ ap (λ l. cond (not (is_tag_type (shown e).type)) (shown e ∷ l) l) (shown_untagged es h.1)
