-- A module is typed exactly where each of its parts and bodies is.
use Rattle.std.proofs.Common.{◌≡◌, ◌≢◌, ℕ, zero, suc, ◌<◌, List, [], ◌∷◌, ◌++◌, append_assoc, length, get_or, map, take, Option, Some, None, slice_get, IfSome, refl, ap, sym, subst, ◌∙◌, arith}
use Rattle.std.specs.List.{AllByRecursion, AllPairs}
use Rattle.std.proofs.lemmas.Option.{slice_get-get_or, get_or_from_slice_get, slice_get_within}
use Rattle.wasm_ast.specs.Counts.{Agrees}
use Rattle.wasm_ast.specs.declared.module.code.Body.{Body}
use Rattle.wasm_ast.specs.declared.module.parts.Global.{Global}
use Rattle.wasm_ast.specs.declared.module.parts.Export.{Export}
use Rattle.wasm_ast.specs.declared.module.parts.Module.{Module}
use Rattle.typed_trees.specs.declared.global_type.GlobalType.{GlobalType}
use Rattle.typed_trees.specs.Modules.{global_import, global_type, imported_of, TypedFuncType, TypedImport, TypedTable, TypedMemory, TypedTag, TypedGlobal, TypedGlobals, TypedDesc, TypedElement, TypedSegment, TypedFunc, TypedFuncs, TypedParts, IsTyped}
use Rattle.valid_mod.specs.Parts.{Section, Types, Imports, Functions, Tables, Memories, Tags, Globals, Exports, Start, Elements, Segments, IsNew, BodyTyped}
use Rattle.valid_mod.specs.Verdict.{SectionTyped}

-- items and places

if_some : {X : Type 0} (P Q : X → Type 0) (o : Option X) → ((x : X) → o ≡ Some x → P x → Q x) → IfSome o P → IfSome o Q
if_some P Q None f h = tt
if_some P Q (Some x) f h = f x refl h

all_at : {X : Type 0} (P : X → Type 0) (xs : List X) → AllByRecursion P xs → (k : ℕ) → IfSome (slice_get xs k) P
all_at P [] h k = tt
all_at P (x ∷ xs) h zero = h.0
all_at P (x ∷ xs) h (suc k) = all_at P xs h.1 k

all_places : {X : Type 0} (P : X → Type 0) (xs : List X) → ((k : ℕ) → k < length xs → IfSome (slice_get xs k) P) → AllByRecursion P xs
all_places P [] h = tt
all_places P (x ∷ xs) h = (h 0 (omega arith), all_places P xs (λ k l. h (suc k) (omega arith)))

at_item : {X : Type 0} (P : X → Type 0) (o : Option X) (x : X) → o ≡ Some x → IfSome o P → P x
at_item P o x e h = subst (λ p. IfSome p P) e h

-- functions and bodies

funcs_from : (m : Module) (ts : List ℕ) (bodies : List Body) → length ts ≡ length bodies → ((k : ℕ) → k < length bodies → IfSome (slice_get ts k) (λ t. IfSome (slice_get bodies k) (TypedFunc m t))) → TypedFuncs m ts bodies
funcs_from m [] [] e h = tt
funcs_from m [] (b ∷ bodies) e h = absurd (omega arith)
funcs_from m (t ∷ ts) [] e h = absurd (omega arith)
funcs_from m (t ∷ ts) (b ∷ bodies) e h = (h 0 (omega arith), funcs_from m ts bodies (omega arith) (λ k l. h (suc k) (omega arith)))

funcs_to : (m : Module) (ts : List ℕ) (bodies : List Body) → TypedFuncs m ts bodies → (k : ℕ) → IfSome (slice_get ts k) (λ t. IfSome (slice_get bodies k) (TypedFunc m t))
funcs_to m [] [] h k = tt
funcs_to m [] (b ∷ bodies) h k = absurd h
funcs_to m (t ∷ ts) [] h k = absurd h
funcs_to m (t ∷ ts) (b ∷ bodies) h zero = h.0
funcs_to m (t ∷ ts) (b ∷ bodies) h (suc k) = funcs_to m ts bodies h.1 k

-- globals

-- the global at a place, over those before it
abbrev GlobalAt : Module → List GlobalType → List Global → ℕ → Type 0
GlobalAt m before gs k = IfSome (slice_get gs k) (TypedGlobal m (before ++ map global_type (take k gs)))

globals_at : (before : List GlobalType) (g : Global) (gs : List Global) (k : ℕ) → (before ++ global_type g ∷ []) ++ map global_type (take k gs) ≡ before ++ map global_type (take (suc k) (g ∷ gs))
globals_at before g gs k = append_assoc before (global_type g ∷ []) (map global_type (take k gs))

first_global : (before : List GlobalType) → before ++ [] ≡ before
first_global [] = refl
first_global (g ∷ before) = ap (λ l. g ∷ l) (first_global before)

globals_from : (m : Module) (before : List GlobalType) (gs : List Global) → ((k : ℕ) → k < length gs → GlobalAt m before gs k) → TypedGlobals m before gs
globals_from m before [] h = tt
globals_from m before (g ∷ gs) h = (
  subst (λ l. TypedGlobal m l g) (first_global before) (h 0 (omega arith)),
  globals_from m (before ++ global_type g ∷ []) gs (λ k l. subst (λ x. IfSome (slice_get gs k) (TypedGlobal m x)) (sym (globals_at before g gs k)) (h (suc k) (omega arith))),
)

globals_to : (m : Module) (before : List GlobalType) (gs : List Global) → TypedGlobals m before gs → (k : ℕ) → GlobalAt m before gs k
globals_to m before [] h k = tt
globals_to m before (g ∷ gs) h zero = subst (λ l. TypedGlobal m l g) (sym (first_global before)) h.0
globals_to m before (g ∷ gs) h (suc k) = subst (λ x. IfSome (slice_get gs k) (TypedGlobal m x)) (globals_at before g gs k) (globals_to m (before ++ global_type g ∷ []) gs h.1 k)

-- exports

names_from : (xs : List Export) → ((k : ℕ) (e : Export) → slice_get xs k ≡ Some e → IsNew xs k e) → AllPairs (λ a b. a.name ≢ b.name) xs
names_from xs h i j d l w =
    h j (get_or xs j d) (slice_get-get_or xs j d w) i (get_or xs i d) l (slice_get-get_or xs i d (omega arith))

names_to : (xs : List Export) → AllPairs (λ a b. a.name ≢ b.name) xs → (k : ℕ) (e : Export) → slice_get xs k ≡ Some e → IsNew xs k e
names_to xs h k e is j other l at same =
    h j k e l (slice_get_within xs k e is) (ap (λ x. x.name) (get_or_from_slice_get xs j other e at) ∙ same ∙ sym (ap (λ x. x.name) (get_or_from_slice_get xs k e e is)))

module _ (m : Module) where
  pub parts_from : ((s : Section) → SectionTyped m s) → TypedParts m
  parts_from parts = record {
    types = all_places TypedFuncType m.types (parts Types);
    imports = all_places (λ i. TypedImport m i.desc) m.imports (parts Imports);
    funcs = all_places (λ t. t < length m.types) m.funcs (parts Functions);
    tables = all_places (TypedTable m) m.tables (parts Tables);
    memories = all_places TypedMemory m.memories (parts Memories);
    tags = all_places (TypedTag m) m.tags (parts Tags);
    globals = globals_from m (imported_of global_import m) m.globals (parts Globals);
    exports = all_places (λ e. TypedDesc m e.desc) m.exports (λ k l. if_some (λ e. TypedDesc m e.desc × IsNew m.exports k e) (λ e. TypedDesc m e.desc) (slice_get m.exports k) (λ x e p. p.0) (parts Exports k l));
    names = names_from m.exports (λ k e is. (at_item (λ x. TypedDesc m x.desc × IsNew m.exports k x) (slice_get m.exports k) e is (parts Exports k (slice_get_within m.exports k e is))).1);
    start = parts Start 0 (omega arith);
    elems = all_places (TypedElement m) m.elems (parts Elements);
    datas = all_places (TypedSegment m) m.datas (parts Segments);
  }

  -- the module is typed where all parts and bodies are
  pub typed_from : Agrees m → ((s : Section) → SectionTyped m s) → ((k : ℕ) → k < length m.codes → BodyTyped m k) → IsTyped m
  typed_from counts parts bodies = record {
    counts = counts;
    parts = parts_from parts;
    bodies = funcs_from m m.funcs m.codes counts.bodies bodies;
  }

  -- and back
  pub parts_typed : TypedParts m → (s : Section) → SectionTyped m s
  parts_typed t Types k l = all_at TypedFuncType m.types t.types k
  parts_typed t Imports k l = all_at (λ i. TypedImport m i.desc) m.imports t.imports k
  parts_typed t Functions k l = all_at (λ x. x < length m.types) m.funcs t.funcs k
  parts_typed t Tables k l = all_at (TypedTable m) m.tables t.tables k
  parts_typed t Memories k l = all_at TypedMemory m.memories t.memories k
  parts_typed t Tags k l = all_at (TypedTag m) m.tags t.tags k
  parts_typed t Globals k l = globals_to m (imported_of global_import m) m.globals t.globals k
  parts_typed t Exports k l = if_some (λ e. TypedDesc m e.desc) (λ e. TypedDesc m e.desc × IsNew m.exports k e) (slice_get m.exports k) (λ e is p. (p, names_to m.exports t.names k e is)) (all_at (λ e. TypedDesc m e.desc) m.exports t.exports k)
  parts_typed t Start k l = t.start
  parts_typed t Elements k l = all_at (TypedElement m) m.elems t.elems k
  parts_typed t Segments k l = all_at (TypedSegment m) m.datas t.datas k

  pub bodies_typed : IsTyped m → (k : ℕ) → BodyTyped m k
  bodies_typed t k = funcs_to m m.funcs m.codes t.bodies k
