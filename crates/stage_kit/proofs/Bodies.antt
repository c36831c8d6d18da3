-- What a stage of typed modules owes of its code: each body is rewritten by a layer that makes of a node what the step makes of
-- its instruction, and other functions lie behind.
use Rattle.std.proofs.Common.{◌≡◌, ℕ, zero, suc, ◌+◌, ◌-◌, ◌<◌, ◌≤◌, cond, true, false, List, [], ◌∷◌, map, length, refl, sym, ap, ◌∙◌, subst, arith}
use Rattle.std.specs.Prelude.{nat_lt, slice_get, count_by, filter_map}
use Rattle.std.specs.List.{AllByRecursion, cons_option, flat_map}
use Rattle.std.proofs.Math.Numerals.{one-add}
use Rattle.std.proofs.lemmas.List.Recursion.{is_count_by}
use Rattle.std.proofs.lemmas.Bool.{ltb-true, ltb-false}
use Rattle.std.proofs.lemmas.List.{length-append, length-map}
use Rattle.wasm_ast.specs.Counts.{Agrees}
use Rattle.wasm_ast.specs.Spaces.{func_indices, func_import}
use Rattle.wasm_ast.specs.declared.module.ty.Ty.{Ty}
use Rattle.wasm_ast.specs.declared.module.ty.Ty.TheVariants as types
use Rattle.wasm_ast.specs.declared.module.code.Instr.{Instr}
use Rattle.wasm_ast.specs.declared.module.code.Instr.TheOpen.{Instr-F}
use Rattle.wasm_ast.specs.declared.module.parts.Import.{Import}
use Rattle.wasm_ast.specs.declared.module.parts.ImportDesc.{ImportDesc}
use Rattle.wasm_ast.specs.declared.module.parts.ImportDesc.TheVariants as imports
use Rattle.wasm_ast.specs.declared.module.parts.Module.{Module}
use Rattle.typed_trees.specs.declared.module.TypedFn.{TypedFn}
use Rattle.typed_trees.specs.Trees.{erased}
use Rattle.typed_trees.specs.Typed.{body_of, module_of}
use Rattle.rewriting_kit.specs.Rewrites.{Layer, rewritten}
use Rattle.simulation_kit.specs.Rewriting.{Step, rewrite}
use Rattle.meaning_new.specs.Store.{default}
use Rattle.meaning_new.specs.Forms.{imported_funcs, is_func}
use Rattle.meaning_new.specs.Language.{language}
use Rattle.stage_kit.specs.Adding.{Names, Adding}
use Rattle.stage_kit.specs.Appended.{names_of}
use Rattle.stage_kit.specs.Naming.{ValNamed, AllNamed}
use Rattle.stage_kit.specs.Staged.{BodyStays, CodeStays}
use Rattle.stage_kit.proofs.Erased.{OwesStep, code_same}

-- how many functions are imported
pub imports_counted : (is : List Import) → length (filter_map (λ i. func_import i.desc) is) ≡ count_by (λ i. is_func i.desc) is
imports_counted = is_count_by (λ is. length (filter_map (λ (i : Import). func_import i.desc) is)) (λ i. is_func i.desc) refl (λ i is. one i.desc (filter_map (λ j. func_import j.desc) is))
  where
    one : (d : ImportDesc) (ys : List ℕ) → length (cons_option (func_import d) ys) ≡ cond (is_func d) (1 + length ys) (length ys)
    one (imports.Func t) ys = sym (one-add (length ys))
    one (imports.Table t l) ys = refl
    one (imports.Memory l) ys = refl
    one (imports.Global t mutable) ys = refl
    one (imports.Tag t) ys = refl

-- a function that is there and not imported has a body
pub body_there : (m : Module) (globals x : ℕ) → length m.funcs ≡ length m.codes → (names_of m globals).func x ≡ true → nat_lt x (imported_funcs m) ≡ false → x - imported_funcs m < length m.codes
body_there m globals x bodies named own =
    let there : x < length (func_indices m) = ltb-true x (length (func_indices m)) named in
    let behind : imported_funcs m ≤ x = ltb-false x (imported_funcs m) own in
    let count : length (func_indices m) ≡ imported_funcs m + length m.codes =
    length-append (filter_map (λ i. func_import i.desc) m.imports) m.funcs
    ∙ ap (λ n. n + length m.funcs) (imports_counted m.imports)
    ∙ ap (λ n. imported_funcs m + n) bodies in
    within x (length (func_indices m)) (imported_funcs m) (length m.codes) there behind count
  where
    within : (x all first rest : ℕ) → x < all → first ≤ x → all ≡ first + rest → x - first < rest
    within x all first rest there behind count = omega arith

pub body_within : (p : Module × List TypedFn) (globals x : ℕ) → Agrees (module_of p) → (names_of (module_of p) globals).func x ≡ true → nat_lt x (imported_funcs (module_of p)) ≡ false → x - imported_funcs (module_of p) < length p.1
body_within p globals x agrees named own =
    subst (λ n. x - imported_funcs (module_of p) < n) (length-map p.1 body_of) (body_there (module_of p) globals x agrees.bodies named own)

-- locals begin with values that refer to no function
default_named : (names : Names) (globals : ℕ) (t : Ty) → ValNamed names globals (default t)
default_named names globals types.I64 = tt
default_named names globals t = tt

pub defaults_named : (names : Names) (globals : ℕ) (ts : List Ty) → AllNamed names globals (map default ts)
defaults_named names globals [] = tt
defaults_named names globals (t ∷ ts) = (default_named names globals t, defaults_named names globals ts)

module _ {m o : Module} (A : Adding m o) {X : Type 0} (step : Step X Instr-F Instr) (seen : A.Place → X) (Fits : Instr → Type 0) (E : Type 0) where
  -- A function whose body is rewritten. Its layer, and what the step sees, may differ from function to function.
  pub record FunctionStays (f f' : TypedFn) : Type 0 where
    pub entry : Instr → E
    pub layer : Layer E
    pub place : List E → X
    pub owes : OwesStep entry layer step place
    pub at : A.Place
    pub sees : seen at ≡ place []
    pub locals : f'.locals ≡ f.locals
    pub body : f'.body ≡ rewritten entry layer f.body []
    pub sound : A.keeps.Sound (map default f.locals)
    pub fits : AllByRecursion Fits (erased f.body)

  pub function_stays : (f f' : TypedFn) → FunctionStays f f' → BodyStays A step seen Fits (body_of f) (body_of f')
  function_stays f f' h = record {
    place = h.at;
    locals = h.locals;
    sound = h.sound;
    fits = h.fits;
    code = ap erased h.body ∙ subst (λ x. erased (rewritten h.entry h.layer f.body []) ≡ flat_map (λ i. rewrite (language m) step i x) (erased f.body)) (sym h.sees) (code_same h.entry h.layer step h.place h.owes m f.body []);
  }

  -- each function of the input has its own at its place; the output may have more behind
  abbrev pub FunctionsStay : List TypedFn → List TypedFn → Type 0
  FunctionsStay [] more = Unit {0}
  FunctionsStay (f ∷ fns) [] = ⊥
  FunctionsStay (f ∷ fns) (f' ∷ fns') = FunctionStays f f' × FunctionsStay fns fns'

  pub functions_stay : (fns fns' : List TypedFn) (x : ℕ) → FunctionsStay fns fns' → x < length fns → CodeStays A step seen Fits (slice_get (map body_of fns) x) (slice_get (map body_of fns') x)
  functions_stay [] fns' x h lt = let no : ⊥ = omega arith in absurd no
  functions_stay (f ∷ fns) [] x h lt = absurd h
  functions_stay (f ∷ fns) (f' ∷ fns') zero h lt = function_stays f f' h.0
  functions_stay (f ∷ fns) (f' ∷ fns') (suc x) h lt = let less : x < length fns = omega arith in functions_stay fns fns' x h.1 less

-- From the functions of typed modules to what the law asks of the code, where all that is there is named.
module _ (p q : Module × List TypedFn) (globals : ℕ) (agrees : Agrees (module_of p)) (A : Adding (module_of p) (module_of q)) {X : Type 0} (step : Step X Instr-F Instr) (seen : A.Place → X) (Fits : Instr → Type 0) (E : Type 0) where
  pub code_stays : FunctionsStay A step seen Fits E p.1 q.1 → (x : ℕ) → (names_of (module_of p) globals).func x ≡ true → nat_lt x (imported_funcs (module_of p)) ≡ false
      → CodeStays A step seen Fits (slice_get (module_of p).codes (x - imported_funcs (module_of p))) (slice_get (module_of q).codes (x - imported_funcs (module_of p)))
  code_stays h x named own = functions_stay A step seen Fits E p.1 q.1 (x - imported_funcs (module_of p)) h (body_within p globals x agrees named own)
