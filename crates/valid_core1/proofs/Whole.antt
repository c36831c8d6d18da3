-- A module is typed exactly where each of its parts and bodies is.
use Rattle.std.proofs.Common.{◌≡◌, ◌≢◌, ℕ, zero, suc, ◌+◌, ◌<◌, ◌≤◌, List, [], ◌∷◌, ◌++◌, length, length-append, get_or, take, filter_map, Option, Some, None, slice_get, IfSome, refl, ap, sym, subst, ◌∙◌, arith}
use Rattle.std.specs.List.{AllByRecursion, AllPairs}
use Rattle.std.proofs.lemmas.Option.{slice_get-get_or, get_or_from_slice_get}
use Rattle.core1_ast.specs.declared.module.ty.Limits1.{Limits1}
use Rattle.core1_ast.specs.declared.module.code.Body1.{Body1}
use Rattle.core1_ast.specs.declared.module.parts.ImportDesc1.{ImportDesc1}
use Rattle.core1_ast.specs.declared.module.parts.ImportDesc1.TheVariants as imports
use Rattle.core1_ast.specs.declared.module.parts.Import1.{Import1}
use Rattle.core1_ast.specs.declared.module.parts.Export1.{Export1}
use Rattle.core1_ast.specs.declared.module.parts.Module1.{Module1}
use Rattle.core1_ast.specs.Spaces.{table_import, memory_import, all_tables, all_memories}
use Rattle.core1_ast.specs.Lengths.{IsShortModule}
use Rattle.core1_ast.specs.Typing.{Typed1, TypedFuncType, TypedImport, TypedTable, TypedMemory, TypedGlobal, TypedDesc, TypedElement, TypedSegment, TypedFunc, TypedFuncs}
use Rattle.valid_core1.specs.Parts.{Section, Types, Imports, Functions, Tables, Memories, Globals, Exports, Start, Elements, Segments, IsFirst, IsNew, tables_in, memories_in, BodyTyped}
use Rattle.valid_core1.specs.Verdict.{SectionTyped}
use Rattle.valid_core1.proofs.Shortness.{all_places}
use Rattle.valid_core1.proofs.Firsts.{first_only, only_first}

-- items and places

if_some : {X : Type 0} (P Q : X → Type 0) (o : Option X) → ((x : X) → o ≡ Some x → P x → Q x) → IfSome o P → IfSome o Q
if_some P Q None f h = tt
if_some P Q (Some x) f h = f x refl h

all_at : {X : Type 0} (P : X → Type 0) (xs : List X) → AllByRecursion P xs → (k : ℕ) → IfSome (slice_get xs k) P
all_at P [] h k = tt
all_at P (x ∷ xs) h zero = h.0
all_at P (x ∷ xs) h (suc k) = all_at P xs h.1 k

at_item : {X : Type 0} (P : X → Type 0) (o : Option X) (x : X) → o ≡ Some x → IfSome o P → P x
at_item P o x e h = subst (λ p. IfSome p P) e h

within_of : {X : Type 0} (xs : List X) (k : ℕ) (x : X) → slice_get xs k ≡ Some x → k < length xs
within_of [] k x e = let no : ⊥ = cc in absurd no
within_of (y ∷ xs) zero x e = omega arith
within_of (y ∷ xs) (suc k) x e = let h = within_of xs k x e in omega arith

-- functions and bodies

funcs_from : (m : Module1) (ts : List ℕ) (bodies : List Body1) → length ts ≡ length bodies → ((k : ℕ) → k < length bodies → IfSome (slice_get ts k) (λ t. IfSome (slice_get bodies k) (TypedFunc m t))) → TypedFuncs m ts bodies
funcs_from m [] [] e h = tt
funcs_from m [] (b ∷ bodies) e h = absurd (omega arith)
funcs_from m (t ∷ ts) [] e h = absurd (omega arith)
funcs_from m (t ∷ ts) (b ∷ bodies) e h = (h 0 (omega arith), funcs_from m ts bodies (omega arith) (λ k l. h (suc k) (omega arith)))

funcs_to : (m : Module1) (ts : List ℕ) (bodies : List Body1) → TypedFuncs m ts bodies → (k : ℕ) → IfSome (slice_get ts k) (λ t. IfSome (slice_get bodies k) (TypedFunc m t))
funcs_to m [] [] h k = tt
funcs_to m [] (b ∷ bodies) h k = absurd h
funcs_to m (t ∷ ts) [] h k = absurd h
funcs_to m (t ∷ ts) (b ∷ bodies) h zero = h.0
funcs_to m (t ∷ ts) (b ∷ bodies) h (suc k) = funcs_to m ts bodies h.1 k

funcs_have_types : (m : Module1) (ts : List ℕ) (bodies : List Body1) → TypedFuncs m ts bodies → (k : ℕ) → IfSome (slice_get ts k) (λ t. t < length m.types)
funcs_have_types m [] bodies h k = tt
funcs_have_types m (t ∷ ts) [] h k = absurd h
funcs_have_types m (t ∷ ts) (b ∷ bodies) h zero = within_of m.types t h.0.type h.0.declared
funcs_have_types m (t ∷ ts) (b ∷ bodies) h (suc k) = funcs_have_types m ts bodies h.1 k

-- tables and memories

abbrev table_of : Import1 → Option Limits1
table_of i = table_import i.desc

first_table : (before : List Import1) (desc : ImportDesc1) (l : Limits1) → table_import desc ≡ Some l → IsFirst before desc → tables_in before ≡ 0
first_table before (imports.Table k) l e h = h
first_table before (imports.Func t) l e h = let no : ⊥ = cc in absurd no
first_table before (imports.Memory k) l e h = let no : ⊥ = cc in absurd no
first_table before (imports.Global t m) l e h = let no : ⊥ = cc in absurd no

first_memory : (before : List Import1) (desc : ImportDesc1) (l : Limits1) → memory_import desc ≡ Some l → IsFirst before desc → memories_in before ≡ 0
first_memory before (imports.Memory k) l e h = h
first_memory before (imports.Func t) l e h = let no : ⊥ = cc in absurd no
first_memory before (imports.Table k) l e h = let no : ⊥ = cc in absurd no
first_memory before (imports.Global t m) l e h = let no : ⊥ = cc in absurd no

is_first : (before : List Import1) (desc : ImportDesc1) → ((l : Limits1) → table_import desc ≡ Some l → tables_in before ≡ 0) → ((l : Limits1) → memory_import desc ≡ Some l → memories_in before ≡ 0) → IsFirst before desc
is_first before (imports.Table l) t m = t l refl
is_first before (imports.Memory l) t m = m l refl
is_first before (imports.Func x) t m = tt
is_first before (imports.Global x y) t m = tt

-- at most one in all, where each is at the first place of its space
one_in_all : {X : Type 0} (imported : List X) (n : ℕ) (declared : List X) → n ≡ length imported → n ≤ 1 → ((k : ℕ) → k < length declared → n + k ≡ 0) → length (imported ++ declared) ≤ 1
one_in_all imported n [] e h f = omega (arith, length-append imported [])
one_in_all imported n (x ∷ []) e h f = let z = f 0 (omega arith) in omega (arith, length-append imported (x ∷ []))
one_in_all imported n (x ∷ (y ∷ declared)) e h f = let z = f 1 (omega arith) in absurd (omega arith)

-- exports

names_from : (xs : List Export1) → ((k : ℕ) (e : Export1) → slice_get xs k ≡ Some e → IsNew xs k e) → AllPairs (λ a b. a.name ≢ b.name) xs
names_from xs h i j d l w =
    h j (get_or xs j d) (slice_get-get_or xs j d w) i (get_or xs i d) l (slice_get-get_or xs i d (omega arith))

names_to : (xs : List Export1) → AllPairs (λ a b. a.name ≢ b.name) xs → (k : ℕ) (e : Export1) → slice_get xs k ≡ Some e → IsNew xs k e
names_to xs h k e is j other l at same =
    h j k e l (within_of xs k e is) (ap (λ x. x.name) (get_or_from_slice_get xs j other e at) ∙ same ∙ sym (ap (λ x. x.name) (get_or_from_slice_get xs k e e is)))

module _ (m : Module1) where
  -- each item of a list, by the parts of a section
  pub every : {X : Type 0} (P Q : X → Type 0) (xs : List X) → ((x : X) → P x → Q x) → ((k : ℕ) → k < length xs → IfSome (slice_get xs k) P) → AllByRecursion Q xs
  every P Q xs f h = all_places Q xs (λ k l. if_some P Q (slice_get xs k) (λ x e p. f x p) (h k l))

  tables_imported : SectionTyped m Imports → tables_in m.imports ≤ 1
  tables_imported h = first_only table_of m.imports (λ k i l a b.
      first_table (take k m.imports) i.desc l b (at_item (λ x. TypedImport m x.desc × IsFirst (take k m.imports) x.desc) (slice_get m.imports k) i a (h k (within_of m.imports k i a))).1)

  memories_imported : SectionTyped m Imports → memories_in m.imports ≤ 1
  memories_imported h = first_only (λ (i : Import1). memory_import i.desc) m.imports (λ k i l a b.
      first_memory (take k m.imports) i.desc l b (at_item (λ x. TypedImport m x.desc × IsFirst (take k m.imports) x.desc) (slice_get m.imports k) i a (h k (within_of m.imports k i a))).1)

  place_of : {X : Type 0} (P : X → Type 0) (xs : List X) (n : ℕ) → ((k : ℕ) → k < length xs → IfSome (slice_get xs k) (λ x. P x × (n + k ≡ 0))) → (k : ℕ) → k < length xs → n + k ≡ 0
  place_of P [] n h k l = absurd (omega arith)
  place_of P (x ∷ xs) n h k l = (at_item (λ y. P y × (n + k ≡ 0)) (slice_get (x ∷ xs) k) (get_or (x ∷ xs) k x) (slice_get-get_or (x ∷ xs) k x l) (h k l)).1

  -- the module is typed where all parts and bodies are
  pub typed_from : IsShortModule m → length m.funcs ≡ length m.codes → ((s : Section) → SectionTyped m s) → ((k : ℕ) → k < length m.codes → BodyTyped m k) → Typed1 m
  typed_from short counts parts bodies = record {
    types = all_places TypedFuncType m.types (parts Types);
    imports = all_places (λ i. TypedImport m i.desc) m.imports (λ k l. if_some (λ i. TypedImport m i.desc × IsFirst (take k m.imports) i.desc) (λ i. TypedImport m i.desc) (slice_get m.imports k) (λ x e p. p.0) (parts Imports k l));
    funcs = funcs_from m m.funcs m.codes counts bodies;
    tables = all_places TypedTable m.tables (λ k l. if_some (λ x. TypedTable x × (tables_in m.imports + k ≡ 0)) TypedTable (slice_get m.tables k) (λ x e p. p.0) (parts Tables k l));
    memories = all_places TypedMemory m.memories (λ k l. if_some (λ x. TypedMemory x × (memories_in m.imports + k ≡ 0)) TypedMemory (slice_get m.memories k) (λ x e p. p.0) (parts Memories k l));
    globals = all_places (TypedGlobal m) m.globals (parts Globals);
    exports = all_places (λ e. TypedDesc m e.desc) m.exports (λ k l. if_some (λ e. TypedDesc m e.desc × IsNew m.exports k e) (λ e. TypedDesc m e.desc) (slice_get m.exports k) (λ x e p. p.0) (parts Exports k l));
    start = parts Start 0 (omega arith);
    elems = all_places (TypedElement m) m.elems (parts Elements);
    datas = all_places (TypedSegment m) m.datas (parts Segments);
    one_table = one_in_all (filter_map (λ i. table_import i.desc) m.imports) (tables_in m.imports) m.tables refl (tables_imported (parts Imports)) (place_of TypedTable m.tables (tables_in m.imports) (parts Tables));
    one_memory = one_in_all (filter_map (λ i. memory_import i.desc) m.imports) (memories_in m.imports) m.memories refl (memories_imported (parts Imports)) (place_of TypedMemory m.memories (memories_in m.imports) (parts Memories));
    names = names_from m.exports (λ k e is. (at_item (λ x. TypedDesc m x.desc × IsNew m.exports k x) (slice_get m.exports k) e is (parts Exports k (within_of m.exports k e is))).1);
    short = short;
  }

  -- and back

  with_place : {X : Type 0} (P : X → Type 0) (imported : List X) (xs : List X) (n : ℕ) → n ≡ length imported → length (imported ++ xs) ≤ 1 → AllByRecursion P xs → (k : ℕ) → k < length xs → IfSome (slice_get xs k) (λ x. P x × (n + k ≡ 0))
  with_place P imported xs n e one all k l =
      if_some P (λ x. P x × (n + k ≡ 0)) (slice_get xs k) (λ x f p. (p, omega (arith, length-append imported xs))) (all_at P xs all k)

  one_tables : Typed1 m → tables_in m.imports ≤ 1
  one_tables t = let h : length (all_tables m) ≤ 1 = t.one_table in omega (arith, length-append (filter_map (λ (i : Import1). table_import i.desc) m.imports) m.tables)

  one_memories : Typed1 m → memories_in m.imports ≤ 1
  one_memories t = let h : length (all_memories m) ≤ 1 = t.one_memory in omega (arith, length-append (filter_map (λ (i : Import1). memory_import i.desc) m.imports) m.memories)

  pub parts_typed : Typed1 m → (s : Section) → SectionTyped m s
  parts_typed t Types k l = all_at TypedFuncType m.types t.types k
  parts_typed t Imports k l = if_some (λ i. TypedImport m i.desc) (λ i. TypedImport m i.desc × IsFirst (take k m.imports) i.desc) (slice_get m.imports k) (λ i e p. (
    p,
    is_first (take k m.imports) i.desc
        (λ x f. only_first (λ (i : Import1). table_import i.desc) m.imports (one_tables t) k i x e f)
        (λ x f. only_first (λ (i : Import1). memory_import i.desc) m.imports (one_memories t) k i x e f),
  ))
      (all_at (λ i. TypedImport m i.desc) m.imports t.imports k)
  parts_typed t Functions k l = funcs_have_types m m.funcs m.codes t.funcs k
  parts_typed t Tables k l = with_place TypedTable (filter_map (λ i. table_import i.desc) m.imports) m.tables (tables_in m.imports) refl t.one_table t.tables k l
  parts_typed t Memories k l = with_place TypedMemory (filter_map (λ i. memory_import i.desc) m.imports) m.memories (memories_in m.imports) refl t.one_memory t.memories k l
  parts_typed t Globals k l = all_at (TypedGlobal m) m.globals t.globals k
  parts_typed t Exports k l = if_some (λ e. TypedDesc m e.desc) (λ e. TypedDesc m e.desc × IsNew m.exports k e) (slice_get m.exports k) (λ e is p. (p, names_to m.exports t.names k e is)) (all_at (λ e. TypedDesc m e.desc) m.exports t.exports k)
  parts_typed t Start k l = t.start
  parts_typed t Elements k l = all_at (TypedElement m) m.elems t.elems k
  parts_typed t Segments k l = all_at (TypedSegment m) m.datas t.datas k

  pub bodies_typed : Typed1 m → (k : ℕ) → BodyTyped m k
  bodies_typed t k = funcs_to m m.funcs m.codes t.funcs k
