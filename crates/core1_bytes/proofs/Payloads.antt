-- What 1.0 owes to the steps of reading that all versions share.
use Rattle.std.proofs.Common.{ℕ, ◌≤◌, length, List, [], ◌∷◌, Option, Some, None, Result, Ok, Err, arith, refl}
use Rattle.std.specs.Prelude.{sum_by, IfOk, MatchOption}
use Rattle.std.proofs.lemmas.List.Sums.{sum_by-cons}
use Rattle.core1_ast.specs.declared.module.parts.Import1.{Import1}
use Rattle.core1_ast.specs.declared.module.parts.ImportDesc1.{ImportDesc1}
use Rattle.core1_ast.specs.declared.module.parts.ImportDesc1.TheVariants as imports
use Rattle.grammar_kit.specs.Form.{Form}
use Rattle.grammar_kit.specs.Exact.{Exact}
use Rattle.wasm_frame.specs.Payloads.{IsRead, IsSpelled, optional}
use Rattle.wasm_frame.proofs.Contents.{value_content, read_of_spelled, spelled_of_read}
use Rattle.module_reading.specs.declared.sizes.Sizes.{Sizes}
use Rattle.module_reading.specs.Means.{Laws}
use Rattle.module_reading.specs.Sizes.{AreSizesOf, IsNumber}
use Rattle.core1_bytes.specs.Limits.{func_count}
use Rattle.core1_bytes.specs.Parts.{type_section, import_section, func_section, table_section, memory_section, global_section, export_section, start_section, element_section, data_section}
use Rattle.core1_bytes.specs.Spells.{one}
use Rattle.core1_bytes.specs.Made.{means}
use Rattle.core1_bytes.proofs.Forms.{exact_type_section, exact_import_section, exact_func_section, exact_table_section, exact_memory_section, exact_global_section, exact_export_section, exact_start_section, exact_element_section, exact_data_section, exact_body}
use Rattle.core1_bytes.proofs.Modules.{one_contents}

-- the sizes of a payload that is one vector of a form, or that none is spelled
abbrev pub Sized : {X : Type 0} → Form (List X) → (X → ℕ) → List ℕ → Option Sizes → Type 0
Sized f size p sizes = MatchOption sizes (¬ (IsRead f p)) (AreSizesOf f size p)

abbrev pub Checked : {X : Type 0} → Form (List X) → (X → ℕ) → List ℕ → Option Sizes → Type 0
Checked f size p sizes = MatchOption sizes (¬ (IsSpelled f p)) (λ s. IsSpelled f p × AreSizesOf f size p s)

sized_checked : {X : Type 0} (f : Form (List X)) (exact : Exact f) (size : X → ℕ) (p : List ℕ) (sizes : Option Sizes) → Sized f size p sizes → Checked f size p sizes
sized_checked f exact size p None h = λ s. h (read_of_spelled f exact p s)
sized_checked f exact size p (Some s) h = (spelled_of_read f exact p (h.entries, h.read), h)

pub vector_checked : {X E : Type 0} (f : Form (List X)) (exact : Exact f) (size : X → ℕ) (p : List ℕ) (r : Result (Option Sizes) E) → IfOk r (Sized f size p) → IfOk r (Checked f size p)
vector_checked f exact size p (Ok sizes) h = sized_checked f exact size p sizes h
vector_checked f exact size p (Err e) h = tt

pub number_checked : (p : List ℕ) (sizes : Option Sizes) → MatchOption sizes (¬ (IsRead optional p)) (IsNumber p) → MatchOption sizes (¬ (IsSpelled start_section p)) (λ s. IsSpelled start_section p × IsNumber p s)
number_checked p None h = λ s. h (read_of_spelled start_section exact_start_section p s)
number_checked p (Some s) h = (spelled_of_read start_section exact_start_section p (Some s.count, h), h)

pub laws : Laws one means
laws = record {
  exact_body = exact_body;
  contents = λ parts part. record {
    types = value_content type_section exact_type_section [] 1 parts (part 1);
    imports = value_content import_section exact_import_section [] 2 parts (part 2);
    funcs = value_content func_section exact_func_section [] 3 parts (part 3);
    tables = value_content table_section exact_table_section [] 4 parts (part 4);
    memories = value_content memory_section exact_memory_section [] 5 parts (part 5);
    globals = value_content global_section exact_global_section [] 6 parts (part 6);
    exports = value_content export_section exact_export_section [] 7 parts (part 7);
    start = value_content start_section exact_start_section None 8 parts (part 8);
    elems = value_content element_section exact_element_section [] 9 parts (part 9);
    datas = value_content data_section exact_data_section [] 11 parts (part 11);
  };
  codes = λ at. refl;
  one_module = one_contents;
}

-- an import adds one function at most
pub few_functions : (xs : List Import1) → sum_by (λ i. func_count i.desc) xs ≤ length xs
few_functions [] = omega arith
few_functions (i ∷ xs) = omega (arith, sum_by-cons (λ (j : Import1). func_count j.desc) i xs, few_functions xs, one_at_most i.desc)
  where
    one_at_most : (d : ImportDesc1) → func_count d ≤ 1
    one_at_most (imports.Func t) = omega arith
    one_at_most (imports.Table l) = omega arith
    one_at_most (imports.Memory l) = omega arith
    one_at_most (imports.Global t m) = omega arith
