-- What follows for the parts of a module from what it has not.
use Rattle.std.proofs.Common.{◌≡◌, ◌≤◌, ◌<◌, ◌+◌, ℕ, zero, suc, Bool, true, false, not, cond, ◌&&◌, ◌||◌, nat_eq, List, [], ◌∷◌, ◌++◌, map, length, Option, Some, None, refl, sym, ap, ◌∙◌, arith}
use Rattle.std.specs.Prelude.{filter_map, is_some, count_by}
use Rattle.std.specs.List.{AllByRecursion, list_any, list_all, cons_option}
use Rattle.std.proofs.Math.Numerals.{one-add}
use Rattle.std.proofs.lemmas.List.Recursion.{is_count_by}
use Rattle.std.proofs.lemmas.List.{length-append, length-map}
use Rattle.std.proofs.lemmas.Bool.{leb-false, eqb-true}
use Rattle.wasm_ast.specs.declared.features.kind.Feature.{Feature}
use Rattle.wasm_ast.specs.declared.features.kind.Feature.TheVariants as features
use Rattle.wasm_ast.specs.declared.module.ty.Ty.{Ty}
use Rattle.wasm_ast.specs.declared.module.ty.Limits.{Limits}
use Rattle.wasm_ast.specs.declared.module.code.Body.{Body}
use Rattle.wasm_ast.specs.declared.module.parts.Import.{Import}
use Rattle.wasm_ast.specs.declared.module.parts.ImportDesc.{ImportDesc}
use Rattle.wasm_ast.specs.declared.module.parts.ImportDesc.TheVariants as imports
use Rattle.wasm_ast.specs.declared.module.parts.Global.{Global}
use Rattle.wasm_ast.specs.declared.module.parts.Module.{Module}
use Rattle.wasm_ast.specs.Features.{type_shows, shows}
use Rattle.wasm_ast.specs.Has.{has_of, imports_some, has_several_results, is_passive, is_wide_memory, is_one_simple, has_simple_offset}
use Rattle.wasm_ast.specs.Kept.{uses_table, exports_table, has_one_plain_table, is_plain_import, is_plain_table, is_plain_element, keeps_table}
use Rattle.wasm_ast.specs.Fold.{known_globals}
use Rattle.wasm_ast.specs.Occurrence.{some_in}
use Rattle.wasm_ast.specs.Places.{in_table, in_bodies, outside_elements, anywhere, func_type_shows, global_import_shows, declares, holds}
use Rattle.wasm_ast.specs.Spaces.{imported, is_table, is_memory, is_global, is_tag, table_count, memory_count}
use Rattle.typed_trees.specs.Contexts.{is_value_type}
use Rattle.typed_trees.specs.Modules.{table_import, memory_import, imported_of, all_tables, all_memories, TypedFuncType, TypedImport}
use Rattle.pass_cross.specs.Crossable.{is_taken, Crossable}
use Rattle.crossing.specs.Code.{is_integer}
use Rattle.crossing.specs.Crossing.{AreIntegers, TypeCrosses}
use Rattle.crossing.proofs.Keeping.{IfThere, all_append}
use Rattle.pass_cross.proofs.Heads.{is_shown, integer_of}
use Rattle.pass_cross.proofs.Nodes.{or_left, or_right, and_left, and_right, LacksIn}

-- lists
pub none_any : {X : Type 0} (p : X → Bool) (xs : List X) → list_any p xs ≡ false → AllByRecursion (λ x. p x ≡ false) xs
none_any p [] h = tt
none_any p (x ∷ xs) h = (or_left (p x) (list_any p xs) h, none_any p xs (or_right (p x) (list_any p xs) h))

pub each_all : {X : Type 0} (p : X → Bool) (xs : List X) → list_all p xs ≡ true → AllByRecursion (λ x. p x ≡ true) xs
each_all p [] h = tt
each_all p (x ∷ xs) h = (and_left (p x) (list_all p xs) h, each_all p xs (and_right (p x) (list_all p xs) h))

pub none_of : {X F : Type 0} (named : F → Bool) (p : F → X → Bool) (xs : List X) → ((f : F) → named f ≡ true → list_any (p f) xs ≡ false) → AllByRecursion (λ x. (f : F) → named f ≡ true → p f x ≡ false) xs
none_of named p [] h = tt
none_of named p (x ∷ xs) h = (λ f k. or_left (p f x) (list_any (p f) xs) (h f k), none_of named p xs (λ f k. or_right (p f x) (list_any (p f) xs) (h f k)))

pub all_zip : {X : Type 0} (P Q R : X → Type 0) (xs : List X) → ((x : X) → P x → Q x → R x) → AllByRecursion P xs → AllByRecursion Q xs → AllByRecursion R xs
all_zip P Q R [] f a b = tt
all_zip P Q R (x ∷ xs) f a b = (f x a.0 b.0, all_zip P Q R xs f a.1 b.1)

pub all_map : {X Y : Type 0} (g : X → Y) (P : Y → Type 0) (xs : List X) → AllByRecursion (λ x. P (g x)) xs → AllByRecursion P (map g xs)
all_map g P [] h = tt
all_map g P (x ∷ xs) h = (h.0, all_map g P xs h.1)

all_cons : {Y : Type 0} (P : Y → Type 0) (o : Option Y) (ys : List Y) → IfThere P o → AllByRecursion P ys → AllByRecursion P (cons_option o ys)
all_cons P None ys p h = h
all_cons P (Some y) ys p h = (p, h)

pub all_filtered : {X Y : Type 0} (g : X → Option Y) (P : Y → Type 0) (xs : List X) → AllByRecursion (λ x. IfThere P (g x)) xs → AllByRecursion P (filter_map g xs)
all_filtered g P [] h = tt
all_filtered g P (x ∷ xs) h = all_cons P (g x) (filter_map g xs) h.0 (all_filtered g P xs h.1)

-- how many of a kind are filtered
pub counted : {Y : Type 0} (g : ImportDesc → Option Y) (kind : ImportDesc → Bool) → ((d : ImportDesc) → is_some (g d) ≡ kind d) → (is : List Import) → length (filter_map (λ i. g i.desc) is) ≡ count_by (λ i. kind i.desc) is
counted g kind same = is_count_by (λ is. length (filter_map (λ (i : Import). g i.desc) is)) (λ i. kind i.desc) refl (λ i is. one (g i.desc) (kind i.desc) (same i.desc) (filter_map (λ j. g j.desc) is))
  where
    one : {Y : Type 0} (o : Option Y) (b : Bool) → is_some o ≡ b → (ys : List Y) → length (cons_option o ys) ≡ cond b (1 + length ys) (length ys)
    one None false e ys = refl
    one None true e ys = absurd cc
    one (Some y) true e ys = sym (one-add (length ys))
    one (Some y) false e ys = absurd cc

pub not_true : (b : Bool) → not b ≡ false → b ≡ true
not_true true h = refl
not_true false h = absurd cc

-- the value types that do not cross
abbrev pub is_declared : Feature → Bool
is_declared features.Floats = true
is_declared features.Simd = true
is_declared features.Refs = true
is_declared features.Exceptions = true
is_declared _ = false

shown_type : (t : Ty) → ((f : Feature) → is_declared f ≡ true → type_shows f t ≡ false) → (f : Feature) → is_shown f ≡ true → type_shows f t ≡ false
unfolding type_shows
shown_type t h features.Floats k = h features.Floats refl
shown_type t h features.Simd k = h features.Simd refl
shown_type t h features.Refs k = h features.Refs refl
shown_type t h features.Exceptions k = h features.Exceptions refl
shown_type t h f k = refl

pub integers : (ts : List Ty) → AllByRecursion (λ s. is_value_type s ≡ true) ts → ((f : Feature) → is_declared f ≡ true → list_any (type_shows f) ts ≡ false) → AreIntegers ts
integers ts v h =
    all_zip (λ s. is_value_type s ≡ true) (λ s. (f : Feature) → is_declared f ≡ true → type_shows f s ≡ false) (λ s. is_integer s ≡ true) ts (λ s v h. integer_of s v (shown_type s h)) v (none_of is_declared type_shows ts h)

-- an import of a global is one of an integer
abbrev pub DescInteger : ImportDesc → Type 0
DescInteger (imports.Global t mutable) = is_integer t ≡ true
DescInteger _ = Unit {0}

module _ (m : Module) (h : Crossable m) where
  no : (f : Feature) → is_taken f ≡ false → has_of m f ≡ false
  no f k = h.has f k

  abbrev tagged : Bool
  tagged = not (nat_eq (length m.tags) 0) || imports_some is_tag m

  -- value types outside code
  pub undeclared : (f : Feature) → is_declared f ≡ true → declares f m ≡ false
  undeclared features.Floats k = or_left (declares features.Floats m) _ (or_left (declares features.Floats m || holds features.Floats m) _ (no features.Floats refl))
  undeclared features.Simd k = or_left (declares features.Simd m) _ (or_left (declares features.Simd m || holds features.Simd m) _ (no features.Simd refl))
  undeclared features.Refs k = or_left (declares features.Refs m) _ (no features.Refs refl)
  undeclared features.Exceptions k =
      or_right tagged (declares features.Exceptions m) (or_left (tagged || declares features.Exceptions m) _ (or_left (tagged || declares features.Exceptions m || holds features.Exceptions m) _ (no features.Exceptions refl)))
  undeclared f k = absurd cc

  -- code, element segments aside
  pub unshown : (f : Feature) → is_shown f ≡ true → outside_elements (shows f) m ≡ false
  unshown features.Floats k = or_left (outside_elements (shows features.Floats) m) _ (or_right (declares features.Floats m || holds features.Floats m) _ (no features.Floats refl))
  unshown features.Sign k = or_left (outside_elements (shows features.Sign) m) _ (no features.Sign refl)
  unshown features.Multi k = or_left (outside_elements (shows features.Multi) m) _ (or_right (list_any has_several_results m.types) _ (no features.Multi refl))
  unshown features.Simd k = or_left (outside_elements (shows features.Simd) m) _ (or_right (declares features.Simd m || holds features.Simd m) _ (no features.Simd refl))
  unshown features.LateLanes k = or_left (outside_elements (shows features.LateLanes) m) _ (no features.LateLanes refl)
  unshown features.Tail k = or_left (outside_elements (shows features.Tail) m) _ (no features.Tail refl)
  unshown features.Refs k = or_right (declares features.Refs m) _ (no features.Refs refl)
  unshown features.Tables k = or_left (outside_elements (shows features.Tables) m) _ (or_left (anywhere (shows features.Tables) m) _ (no features.Tables refl))
  unshown features.Exceptions k =
      or_left (outside_elements (shows features.Exceptions) m) _ (or_right (tagged || declares features.Exceptions m || holds features.Exceptions m) _ (no features.Exceptions refl))
  unshown features.Bulk k = or_left (outside_elements (shows features.Bulk) m) _ (or_right (list_any (λ s. is_passive s.mode) m.datas) _ (no features.Bulk refl))
  unshown f k = absurd cc

  abbrev before_bodies : Feature → Bool
  before_bodies f = list_any (in_table (shows f)) m.tables || list_any (λ g. some_in (shows f) g.init) m.globals

  pub bodies_lack : AllByRecursion (λ b. LacksIn b.code) m.codes
  bodies_lack =
      flipped m.codes (none_of is_shown (λ f (b : Body). some_in (shows f) b.code) m.codes (λ f k. or_right (before_bodies f) (in_bodies (shows f) m) (or_left (before_bodies f || in_bodies (shows f) m) _ (unshown f k))))
    where
      flipped : (bs : List Body) → AllByRecursion (λ b. (f : Feature) → is_shown f ≡ true → some_in (shows f) b.code ≡ false) bs → AllByRecursion (λ b. LacksIn b.code) bs
      flipped bs h = h

  no_tag : tagged ≡ false
  no_tag = or_left tagged _ (or_left (tagged || declares features.Exceptions m) _ (or_left (tagged || declares features.Exceptions m || holds features.Exceptions m) _ (no features.Exceptions refl)))

  pub no_tags : length m.tags ≡ 0
  no_tags = eqb-true (length m.tags) 0 (not_true (nat_eq (length m.tags) 0) (or_left (not (nat_eq (length m.tags) 0)) _ no_tag))

  pub no_tag_imports : AllByRecursion (λ i. is_tag i.desc ≡ false) m.imports
  no_tag_imports = none_any (λ i. is_tag i.desc) m.imports (or_right (not (nat_eq (length m.tags) 0)) _ no_tag)

  -- what `declares` looks at
  abbrev in_types : Feature → Bool
  in_types f = list_any (func_type_shows f) m.types

  abbrev in_imports : Feature → Bool
  in_imports f = list_any (λ i. global_import_shows f i.desc) m.imports

  abbrev in_globals : Feature → Bool
  in_globals f = list_any (λ g. type_shows f g.ty) m.globals

  -- types
  types_shown : AllByRecursion (λ t. (f : Feature) → is_declared f ≡ true → func_type_shows f t ≡ false) m.types
  types_shown = none_of is_declared func_type_shows m.types (λ f k. or_left (in_types f) (in_imports f) (or_left (in_types f || in_imports f) _ (or_left (in_types f || in_imports f || in_globals f) _ (undeclared f k))))

  pub types_integers : AllByRecursion TypedFuncType m.types → AllByRecursion TypeCrosses m.types
  types_integers v =
      all_zip TypedFuncType (λ t. (f : Feature) → is_declared f ≡ true → func_type_shows f t ≡ false) TypeCrosses m.types
      (λ t v k. record {
        params = integers t.params v.params (λ f q. or_left (list_any (type_shows f) t.params) (list_any (type_shows f) t.results) (k f q));
        results = integers t.results v.results (λ f q. or_right (list_any (type_shows f) t.params) (list_any (type_shows f) t.results) (k f q));
      }) v types_shown

  pub one_result : AllByRecursion (λ t. length t.results ≤ 1) m.types
  one_result =
      all_zip (λ t. has_several_results t ≡ false) (λ t. has_several_results t ≡ false) (λ t. length t.results ≤ 1) m.types
      (λ t a b. let lt = leb-false 2 (length t.results) a in omega arith) (none_any has_several_results m.types (or_left (list_any has_several_results m.types) _ (no features.Multi refl)))
      (none_any has_several_results m.types (or_left (list_any has_several_results m.types) _ (no features.Multi refl)))

  -- globals
  desc_integer : (d : ImportDesc) → TypedImport m d → ((f : Feature) → is_declared f ≡ true → global_import_shows f d ≡ false) → DescInteger d
  desc_integer (imports.Global t mutable) v k = integer_of t v (shown_type t k)
  desc_integer (imports.Func x) v k = tt
  desc_integer (imports.Table t l) v k = tt
  desc_integer (imports.Memory l) v k = tt
  desc_integer (imports.Tag x) v k = tt

  pub imports_integers : AllByRecursion (λ i. TypedImport m i.desc) m.imports → AllByRecursion (λ i. DescInteger i.desc) m.imports
  imports_integers v =
      all_zip (λ i. TypedImport m i.desc) (λ i. (f : Feature) → is_declared f ≡ true → global_import_shows f i.desc ≡ false) (λ i. DescInteger i.desc) m.imports (λ i. desc_integer i.desc) v
      (none_of is_declared (λ f i. global_import_shows f i.desc) m.imports (λ f k. or_right (in_types f) (in_imports f) (or_left (in_types f || in_imports f) _ (or_left (in_types f || in_imports f || in_globals f) _ (undeclared f k)))))

  pub globals_shown : AllByRecursion (λ g. (f : Feature) → is_declared f ≡ true → type_shows f g.ty ≡ false) m.globals
  globals_shown =
      none_of is_declared (λ f g. type_shows f g.ty) m.globals (λ f k.
      or_right (in_types f || in_imports f) (in_globals f) (or_left (in_types f || in_imports f || in_globals f) _ (undeclared f k)))

  pub global_integer : (g : Global) → is_value_type g.ty ≡ true → ((f : Feature) → is_declared f ≡ true → type_shows f g.ty ≡ false) → is_integer g.ty ≡ true
  global_integer g v k = integer_of g.ty v (shown_type g.ty k)

  pub locals_shown : AllByRecursion (λ b. (f : Feature) → is_declared f ≡ true → list_any (type_shows f) b.locals ≡ false) m.codes
  locals_shown =
      none_of is_declared (λ f b. list_any (type_shows f) b.locals) m.codes (λ f k. or_right (in_types f || in_imports f || in_globals f) _ (undeclared f k))

  -- tables and memories
  table_kind : (d : ImportDesc) → is_some (table_import d) ≡ is_table d
  table_kind (imports.Table t l) = refl
  table_kind (imports.Func x) = refl
  table_kind (imports.Memory l) = refl
  table_kind (imports.Global t b) = refl
  table_kind (imports.Tag x) = refl

  memory_kind : (d : ImportDesc) → is_some (memory_import d) ≡ is_memory d
  memory_kind (imports.Memory l) = refl
  memory_kind (imports.Func x) = refl
  memory_kind (imports.Table t l) = refl
  memory_kind (imports.Global t b) = refl
  memory_kind (imports.Tag x) = refl

  pub tables_counted : length (all_tables m) ≡ table_count m
  tables_counted =
      length-append (imported_of table_import m) (map (λ t. t.ty) m.tables) ∙ ap (λ n. n + length (map (λ t. t.ty) m.tables)) (counted table_import is_table table_kind m.imports)
      ∙ ap (λ n. imported is_table m + n) (length-map m.tables (λ t. t.ty))

  pub memories_counted : length (all_memories m) ≡ memory_count m
  memories_counted = length-append (imported_of memory_import m) m.memories ∙ ap (λ n. n + length m.memories) (counted memory_import is_memory memory_kind m.imports)

  pub one_memory : length (all_memories m) ≤ 1
  one_memory = let lt = leb-false 2 (memory_count m) (no features.Memories refl) in let e = memories_counted in omega arith

  -- the single table is kept
  abbrev pub TableKept : Type 0
  TableKept = (0 < table_count m → keeps_table m ≡ true)

  pub table_kept : TableKept
  table_kept lt = at (nat_eq (table_count m) 0) refl (or_right (anywhere (shows features.Tables) m) _ (no features.Tables refl))
    where
      at : (b : Bool) → nat_eq (table_count m) 0 ≡ b → (not b && not (keeps_table m)) ≡ false → keeps_table m ≡ true
      at true e k = let z = eqb-true (table_count m) 0 e in let no : ⊥ = omega arith in absurd no
      at false e k = not_true (keeps_table m) k

  -- what a kept table says
  abbrev first_three : Bool
  first_three = has_one_plain_table m && not (anywhere uses_table m) && not (list_any (λ e. exports_table e.desc) m.exports)

  front_kept : keeps_table m ≡ true → (first_three && list_all (is_plain_element (known_globals m)) m.elems) ≡ true
  front_kept k = and_left (first_three && list_all (is_plain_element (known_globals m)) m.elems) _ k

  pub plain_kept : keeps_table m ≡ true → has_one_plain_table m ≡ true
  plain_kept k = and_left (has_one_plain_table m) _ (and_left (has_one_plain_table m && not (anywhere uses_table m)) _ (and_left first_three _ (front_kept k)))

  pub elems_kept : keeps_table m ≡ true → AllByRecursion (λ e. is_plain_element (known_globals m) e ≡ true) m.elems
  elems_kept k = each_all (is_plain_element (known_globals m)) m.elems (and_right first_three _ (front_kept k))

  pub tables_kept : keeps_table m ≡ true → AllByRecursion (λ t. is_plain_table t ≡ true) m.tables
  tables_kept k = each_all is_plain_table m.tables (and_right (nat_eq (table_count m) 1 && list_all (λ i. is_plain_import i.desc) m.imports) _ (plain_kept k))

  one_kept : keeps_table m ≡ true → table_count m ≡ 1
  one_kept k = eqb-true (table_count m) 1 (and_left (nat_eq (table_count m) 1) _ (and_left (nat_eq (table_count m) 1 && list_all (λ i. is_plain_import i.desc) m.imports) _ (plain_kept k)))

  pub one_table : length (all_tables m) ≤ 1
  one_table = at (table_count m) refl
    where
      at : (n : ℕ) → table_count m ≡ n → length (all_tables m) ≤ 1
      at zero e = let q = tables_counted in omega arith
      at (suc n) e = let lt : 0 < table_count m = omega arith in let q = tables_counted in let one = one_kept (table_kept lt) in omega arith

  pub imports_narrow : AllByRecursion (λ i. is_wide_memory i.desc ≡ false) m.imports
  imports_narrow = none_any (λ i. is_wide_memory i.desc) m.imports (or_left (imports_some is_wide_memory m) _ (no features.WideMemory refl))

  pub own_narrow : AllByRecursion (λ l. l.wide ≡ false) m.memories
  own_narrow = none_any (λ l. l.wide) m.memories (or_right (imports_some is_wide_memory m) _ (no features.WideMemory refl))

  -- what imports add to the memories, said in two ways
  pub narrow_by : (g : ImportDesc → Option Limits) → ((d : ImportDesc) → is_wide_memory d ≡ false → IfThere (λ l. l.wide ≡ false) (g d)) → AllByRecursion (λ l. l.wide ≡ false) (filter_map (λ i. g i.desc) m.imports ++ m.memories)
  narrow_by g of_desc =
      all_append (λ l. l.wide ≡ false) (filter_map (λ i. g i.desc) m.imports) m.memories
      (all_filtered (λ i. g i.desc) (λ l. l.wide ≡ false) m.imports (all_zip (λ i. is_wide_memory i.desc ≡ false) (λ i. is_wide_memory i.desc ≡ false) (λ i. IfThere (λ l. l.wide ≡ false) (g i.desc)) m.imports (λ i k q. of_desc i.desc k) imports_narrow imports_narrow))
      own_narrow

  pub narrow : AllByRecursion (λ l. l.wide ≡ false) (all_memories m)
  narrow = narrow_by memory_import of_desc
    where
      of_desc : (d : ImportDesc) → is_wide_memory d ≡ false → IfThere (λ l. l.wide ≡ false) (memory_import d)
      of_desc (imports.Memory l) k = k
      of_desc (imports.Func x) k = tt
      of_desc (imports.Table t l) k = tt
      of_desc (imports.Global t b) k = tt
      of_desc (imports.Tag x) k = tt

  -- constant expressions
  abbrev odd_globals : Bool
  odd_globals = list_any (λ g. not (is_one_simple (imported is_global m) g.init)) m.globals

  abbrev odd_elems : Bool
  odd_elems = list_any (λ e. not (has_simple_offset (imported is_global m) e.mode)) m.elems

  no_not : {X : Type 0} (p : X → Bool) (xs : List X) → list_any (λ x. not (p x)) xs ≡ false → AllByRecursion (λ x. p x ≡ true) xs
  no_not p xs e = let q = none_any (λ x. not (p x)) xs e in all_zip (λ x. not (p x) ≡ false) (λ x. not (p x) ≡ false) (λ x. p x ≡ true) xs (λ x a b. not_true (p x) a) q q

  pub globals_simple : AllByRecursion (λ g. is_one_simple (imported is_global m) g.init ≡ true) m.globals
  globals_simple = no_not (λ g. is_one_simple (imported is_global m) g.init) m.globals (or_left odd_globals odd_elems (or_left (odd_globals || odd_elems) _ (no features.Constants refl)))

  pub elems_simple : AllByRecursion (λ e. has_simple_offset (imported is_global m) e.mode ≡ true) m.elems
  elems_simple = no_not (λ e. has_simple_offset (imported is_global m) e.mode) m.elems (or_right odd_globals odd_elems (or_left (odd_globals || odd_elems) _ (no features.Constants refl)))

  pub datas_simple : AllByRecursion (λ s. has_simple_offset (imported is_global m) s.mode ≡ true) m.datas
  datas_simple = no_not (λ s. has_simple_offset (imported is_global m) s.mode) m.datas (or_right (odd_globals || odd_elems) _ (no features.Constants refl))

  pub datas_active : AllByRecursion (λ s. is_passive s.mode ≡ false) m.datas
  datas_active = none_any (λ s. is_passive s.mode) m.datas (or_left (list_any (λ s. is_passive s.mode) m.datas) _ (no features.Bulk refl))
