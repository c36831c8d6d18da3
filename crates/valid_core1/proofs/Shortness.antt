-- Lists that are short.
use Rattle.std.proofs.Common.{◌≡◌, ℕ, suc, ◌<◌, Bool, true, false, ◌&&◌, List, [], ◌∷◌, length, Option, Some, None, is_some, not, ap, sym, subst, ◌∙◌, arith}
use Rattle.std.specs.List.{AllByRecursion}
use Rattle.core1_ast.specs.declared.module.parts.Module1.{Module1}
use Rattle.core1_ast.specs.Lengths.{IsShort, IsShortType, IsShortImport, IsShortElement, IsShortBody, IsShortSegment, IsShortModule}
use Rattle.valid_core1.specs.Forms.{is_short}
use Rattle.valid_core1.specs.Sections.{Finds, At}
use Rattle.valid_core1.specs.Short.{lists_are_short}
use Rattle.valid_core1.proofs.Rules.{and_first, and_second, true_short}

-- each item, by its places
pub all_places : {X : Type 0} (P : X → Type 0) (xs : List X) → ((k : ℕ) → k < length xs → At xs (λ _. P) k) → AllByRecursion P xs
all_places P [] h = tt
all_places P (x ∷ xs) h = (h 0 (omega arith), all_places P xs (λ k l. h (suc k) (omega arith)))

-- where none was found, by either test of the answer; the list was read as another one
pub none_found : {X : Type 0} (P : X → Type 0) (xs ys : List X) (r : Option ℕ) (b : Bool) → ys ≡ xs → Finds (At ys (λ _. P)) (length ys) r → b ≡ is_some r → b ≡ false → AllByRecursion P xs
none_found P xs ys None b e f g h = subst (AllByRecursion P) e (all_places P ys f)
none_found P xs ys (Some k) b e f g h = let no : true ≡ false = sym g ∙ h in let no2 : ⊥ = cc in absurd no2

pub none_is : {X : Type 0} (P : X → Type 0) (xs ys : List X) (r : Option ℕ) (b : Bool) → ys ≡ xs → Finds (At ys (λ _. P)) (length ys) r → is_some r ≡ not b → b ≡ true → AllByRecursion P xs
none_is P xs ys None b e f g h = subst (AllByRecursion P) e (all_places P ys f)
none_is P xs ys (Some k) b e f g h = let no : true ≡ false = g ∙ ap not h in let no2 : ⊥ = cc in absurd no2

pub short_module : (m : Module1) → lists_are_short m ≡ true → AllByRecursion IsShortType m.types → AllByRecursion IsShortImport m.imports → AllByRecursion (λ g. IsShort g.init) m.globals → AllByRecursion (λ e. IsShort e.name) m.exports → AllByRecursion IsShortElement m.elems → AllByRecursion IsShortBody m.codes → AllByRecursion IsShortSegment m.datas → IsShortModule m
short_module m e types imports globals exports elems codes datas =
    let a9 = and_first (is_short m.types && is_short m.imports && is_short m.funcs && is_short m.tables && is_short m.memories && is_short m.globals && is_short m.exports && is_short m.elems && is_short m.codes) (is_short m.datas) e in
    let a8 = and_first (is_short m.types && is_short m.imports && is_short m.funcs && is_short m.tables && is_short m.memories && is_short m.globals && is_short m.exports && is_short m.elems) (is_short m.codes) a9 in
    let a7 = and_first (is_short m.types && is_short m.imports && is_short m.funcs && is_short m.tables && is_short m.memories && is_short m.globals && is_short m.exports) (is_short m.elems) a8 in
    let a6 = and_first (is_short m.types && is_short m.imports && is_short m.funcs && is_short m.tables && is_short m.memories && is_short m.globals) (is_short m.exports) a7 in
    let a5 = and_first (is_short m.types && is_short m.imports && is_short m.funcs && is_short m.tables && is_short m.memories) (is_short m.globals) a6 in
    let a4 = and_first (is_short m.types && is_short m.imports && is_short m.funcs && is_short m.tables) (is_short m.memories) a5 in
    let a3 = and_first (is_short m.types && is_short m.imports && is_short m.funcs) (is_short m.tables) a4 in
    let a2 = and_first (is_short m.types && is_short m.imports) (is_short m.funcs) a3 in
    record {
      types = true_short m.types (and_first (is_short m.types) (is_short m.imports) a2);
      imports = true_short m.imports (and_second (is_short m.types) (is_short m.imports) a2);
      funcs = true_short m.funcs (and_second (is_short m.types && is_short m.imports) (is_short m.funcs) a3);
      tables = true_short m.tables (and_second (is_short m.types && is_short m.imports && is_short m.funcs) (is_short m.tables) a4);
      memories = true_short m.memories (and_second (is_short m.types && is_short m.imports && is_short m.funcs && is_short m.tables) (is_short m.memories) a5);
      globals = true_short m.globals (and_second (is_short m.types && is_short m.imports && is_short m.funcs && is_short m.tables && is_short m.memories) (is_short m.globals) a6);
      exports = true_short m.exports (and_second (is_short m.types && is_short m.imports && is_short m.funcs && is_short m.tables && is_short m.memories && is_short m.globals) (is_short m.exports) a7);
      elems = true_short m.elems (and_second (is_short m.types && is_short m.imports && is_short m.funcs && is_short m.tables && is_short m.memories && is_short m.globals && is_short m.exports) (is_short m.elems) a8);
      codes = true_short m.codes (and_second (is_short m.types && is_short m.imports && is_short m.funcs && is_short m.tables && is_short m.memories && is_short m.globals && is_short m.exports && is_short m.elems) (is_short m.codes) a9);
      datas = true_short m.datas (and_second (is_short m.types && is_short m.imports && is_short m.funcs && is_short m.tables && is_short m.memories && is_short m.globals && is_short m.exports && is_short m.elems && is_short m.codes) (is_short m.datas) e);
      in_types = types;
      in_imports = imports;
      in_globals = globals;
      in_exports = exports;
      in_elems = elems;
      in_codes = codes;
      in_datas = datas;
    }
