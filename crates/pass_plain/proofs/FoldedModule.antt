-- The parts of a typed module are typed when its expressions are folded, and so are its bodies, where there are more types
-- and functions.
use Rattle.std.proofs.Common.{◌≡◌, ◌≢◌, ℕ, zero, suc, ◌+◌, ◌<◌, ◌≤◌, Bool, true, false, ◌&&◌, ◌||◌, List, [], ◌∷◌, ◌++◌, map, length, filter_map, replicate, Option, Some, None, refl, sym, ap, ◌∙◌, subst, arith}
use Rattle.std.specs.Prelude.{slice_get}
use Rattle.std.specs.List.{AllByRecursion, list_any, list_all}
use Rattle.std.proofs.lemmas.List.{length-append, length-map}
use Rattle.host_kit.specs.Pairwise.{Pairwise}
use Rattle.wasm_ast.specs.Fold.{known_at, fold_of, known_globals}
use Rattle.wasm_ast.specs.Has.{is_mutable_global}
use Rattle.wasm_ast.specs.Marking.{marked, is_marked}
use Rattle.wasm_ast.specs.Occurrence.{head}
use Rattle.wasm_ast.specs.Spaces.{is_global, imported, func_import, func_indices}
use Rattle.wasm_ast.specs.declared.folding.folded.Folded.{Folded}
use Rattle.wasm_ast.specs.declared.module.ty.Ty.{Ty}
use Rattle.wasm_ast.specs.declared.module.ty.Ty.TheVariants as types
use Rattle.wasm_ast.specs.declared.module.ty.FuncType.{FuncType}
use Rattle.wasm_ast.specs.declared.module.op.Op.TheVariants as ops
use Rattle.wasm_ast.specs.declared.module.code.Body.{Body}
use Rattle.wasm_ast.specs.declared.module.code.Instr.{Instr, out-Instr}
use Rattle.wasm_ast.specs.declared.module.code.Instr.TheOpen.{Instr-F}
use Rattle.wasm_ast.specs.declared.module.parts.Element.{Element}
use Rattle.wasm_ast.specs.declared.module.parts.Export.{Export}
use Rattle.wasm_ast.specs.declared.module.parts.ExportDesc.{ExportDesc}
use Rattle.wasm_ast.specs.declared.module.parts.ExportDesc.TheVariants as exports
use Rattle.wasm_ast.specs.declared.module.parts.Global.{Global}
use Rattle.wasm_ast.specs.declared.module.parts.Import.{Import}
use Rattle.wasm_ast.specs.declared.module.parts.ImportDesc.{ImportDesc}
use Rattle.wasm_ast.specs.declared.module.parts.ImportDesc.TheVariants as imports
use Rattle.wasm_ast.specs.declared.module.parts.Mode.{Mode}
use Rattle.wasm_ast.specs.declared.module.parts.Mode.TheVariants.{Active, Passive, Declarative}
use Rattle.wasm_ast.specs.declared.module.parts.Segment.{Segment}
use Rattle.wasm_ast.specs.declared.module.parts.Table.{Table}
use Rattle.wasm_ast.specs.declared.module.parts.Module.{Module}
use Rattle.typing_kit.specs.Form.{Flat}
use Rattle.typing_kit.specs.Matching.{known}
use Rattle.typing_kit.specs.Typing.{TypedCode}
use Rattle.typed_trees.specs.declared.global_type.GlobalType.{GlobalType}
use Rattle.typed_trees.specs.declared.module.TypedFn.{TypedFn}
use Rattle.typed_trees.specs.Constants.{is_constant_layer, is_constant, is_fixed, TypedConstant}
use Rattle.typed_trees.specs.Contexts.{Context, is_value_type, is_reference_type}
use Rattle.typed_trees.specs.Forms.{layer_form, language, where_some}
use Rattle.typed_trees.specs.Modules.{func_named, named_in, named_outside, refs_of, context, early_context, body_context, imported_of, global_import, global_type, all_globals, TypedFuncType, TypedImport, TypedTag, TypedTable, TypedInitialiser, TypedGlobals, TypedDesc, TypedStart, TypedElement, TypedElementMode, TypedSegment, TypedSegmentMode, TypedParts}
use Rattle.typed_trees.specs.Trees.{TypedNodes}
use Rattle.typed_trees.specs.Typed.{body_of, TypedTrees}
use Rattle.pass_law.specs.ThenLawful.{both, and_left, and_right}
use Rattle.stage_kit.proofs.Lists.{IfAny, all_get, all_append}
use Rattle.stage_kit.proofs.TypedModules.{all_map}
use Rattle.pass_plain.specs.Constants.{ModeFolds}
use Rattle.pass_plain.specs.Foldable.{is_integer, Foldable}
use Rattle.pass_plain.specs.Folding.{folded_code, folded_mode, folded_elem, folded_data, folded_global, folded_globals}
use Rattle.pass_plain.proofs.ConstantFlow.{Flows, constant_flows}
use Rattle.pass_plain.proofs.ConstantStart.{imports_counted}
use Rattle.pass_plain.proofs.ConstantTypes.{is_other, integer_alone, no_function, GivesNone, none_given}
use Rattle.pass_plain.proofs.FoldedNames.{outside_stays, marked_more}
use Rattle.pass_plain.proofs.FoldedTyped.{keeps_more, globals_fold, offset_folds}
use Rattle.pass_plain.proofs.KnownGlobals.{Told, globals_told, imported_types}
use Rattle.pass_plain.proofs.MoreContext.{Keeps, SettableAs, nodes_kept, code_kept}

-- an initial value of an integer names no function
instr_names : (c : Context) (l : Instr-F Instr) (takes gives : List Ty) → layer_form c [] l ≡ Flat takes gives → list_any is_other gives ≡ false → func_named (head l) ≡ []
instr_names c (Instr-F.Pure (ops.RefFunc x)) takes gives e h = absurd (no_function (slice_get c.funcs x) (is_marked c.refs x) takes gives e h)
instr_names c l takes gives e h = refl

code_names : (c : Context) (code : List Instr) (s t : List Ty) → Flows c code s t → AllByRecursion (λ i. GivesNone c is_other (out-Instr i)) code → named_in code ≡ []
code_names c [] s t f h = refl
code_names c (i ∷ code) s t f h = ap (λ l. l ++ named_in code) (instr_names c (out-Instr i) f.1 f.2 f.4 (h.0 f.1 f.2 f.4)) ∙ code_names c code (f.0 ++ f.2) t f.6 h.1

globals_name : (m : Module) (before : List GlobalType) (gs : List Global) → AllByRecursion (λ g. is_integer g.ty ≡ true) gs → TypedGlobals m before gs → AllByRecursion (λ g. named_in g.init ≡ []) gs
globals_name m before [] i h = tt
globals_name m before (g ∷ gs) i h =
    let c = early_context m before in
    let f = constant_flows c g.init g.ty h.0.init in
    (code_names c g.init [] (g.ty ∷ []) f (none_given c is_other g.init [] (g.ty ∷ []) f (integer_alone g.ty i.0)).1, globals_name m (before ++ global_type g ∷ []) gs i.1 h.1)

-- an expression of a reference reads no global
item_constant : (c c' : Context) → AllByRecursion (λ g. is_integer g.ty ≡ true) c.globals → (l : Instr-F Instr) (takes gives : List Ty) → layer_form c [] l ≡ Flat takes gives → is_constant_layer c l ≡ true → list_any is_integer gives ≡ false → is_constant_layer c' l ≡ true
item_constant c c' all (Instr-F.Pure op) takes gives e k h = k
item_constant c c' all (Instr-F.GlobalGet x) takes gives e k h = by (slice_get c.globals x) (all_get (λ g. is_integer g.ty ≡ true) c.globals x all) e
  where
    by : (o : Option GlobalType) → IfAny (λ g. is_integer g.ty ≡ true) o → where_some o (λ g. Flat [] (g.ty ∷ [])) ≡ Flat takes gives → is_fixed (slice_get c'.globals x) ≡ true
    by None i e = let no : ⊥ = cc in absurd no
    by (Some g) i e =
        let one : g.ty ∷ [] ≡ gives = cc in
        let none : list_any is_integer (g.ty ∷ []) ≡ false = ap (list_any is_integer) one ∙ h in
        let some : list_any is_integer (g.ty ∷ []) ≡ true = ap (λ b. b || false) i in
        let no : ⊥ = cc in
        absurd no
item_constant c c' all l takes gives e k h = let no : ⊥ = cc in absurd no

items_constant : (c c' : Context) → AllByRecursion (λ g. is_integer g.ty ≡ true) c.globals → (code : List Instr) (s t : List Ty) → Flows c code s t → AllByRecursion (λ i. GivesNone c is_integer (out-Instr i)) code → list_all (is_constant c') code ≡ true
items_constant c c' all [] s t f h = refl
items_constant c c' all (i ∷ code) s t f h =
    both (is_constant c' i) (list_all (is_constant c') code) (item_constant c c' all (out-Instr i) f.1 f.2 f.4 f.5 (h.0 f.1 f.2 f.4)) (items_constant c c' all code (f.0 ++ f.2) t f.6 h.1)

pub reference_alone : (t : Ty) → is_reference_type t ≡ true → list_any is_integer (t ∷ []) ≡ false
reference_alone types.I32 h = let no : ⊥ = cc in absurd no
reference_alone types.I64 h = let no : ⊥ = cc in absurd no
reference_alone t h = refl

-- expressions over the same globals
same_constants : (c c' : Context) → c'.globals ≡ c.globals → (code : List Instr) → list_all (is_constant c) code ≡ true → list_all (is_constant c') code ≡ true
same_constants c c' e [] h = refl
same_constants c c' e (i ∷ code) h =
    both (is_constant c' i) (list_all (is_constant c') code) (one (out-Instr i) (and_left (is_constant c i) (list_all (is_constant c) code) h)) (same_constants c c' e code (and_right (is_constant c i) (list_all (is_constant c) code) h))
  where
    one : (l : Instr-F Instr) → is_constant_layer c l ≡ true → is_constant_layer c' l ≡ true
    one (Instr-F.Pure op) k = k
    one (Instr-F.GlobalGet x) k = ap (λ g. is_fixed (slice_get g x)) e ∙ k
    one l k = let no : ⊥ = cc in absurd no

-- a folded global has its type, and can be changed where it could
folds_as : (g : Global) (k : Option Folded) → SettableAs (global_type g) (Some (global_type (folded_global g k)))
folds_as g (Some v) = record { other = global_type g; there = refl; type = refl; changes = λ e. e }
folds_as g None = record { other = record { ty = g.ty; mutable = true }; there = refl; type = refl; changes = λ e. refl }

front_kept : (front : List GlobalType) (known : List (Option Folded)) (n : ℕ) (gs : List Global) (x : ℕ) (u : GlobalType) → slice_get (front ++ map global_type gs) x ≡ Some u → SettableAs u (slice_get (front ++ map global_type (folded_globals known n gs)) x)
front_kept [] known n [] x u e = let no : ⊥ = cc in absurd no
front_kept [] known n (g ∷ gs) zero u e =
    let is : global_type g ≡ u = cc in
    subst (λ w. SettableAs w (Some (global_type (folded_global g (known_at known n))))) is (folds_as g (known_at known n))
front_kept [] known n (g ∷ gs) (suc x) u e = front_kept [] known (n + 1) gs x u e
front_kept (f ∷ front) known n gs zero u e = record { other = u; there = e; type = refl; changes = λ c. c }
front_kept (f ∷ front) known n gs (suc x) u e = front_kept front known n gs x u e

same_length : (known : List (Option Folded)) (n : ℕ) (gs : List Global) → length (folded_globals known n gs) ≡ length gs
same_length known n [] = refl
same_length known n (g ∷ gs) = ap suc (same_length known (n + 1) gs)

elem_types : (known : List (Option Folded)) (es : List Element) → map (λ e. e.ty) (map (folded_elem known) es) ≡ map (λ e. e.ty) es
elem_types known [] = refl
elem_types known (e ∷ es) = ap (λ l. e.ty ∷ l) (elem_types known es)

module _ (m : Module) (foldable : Foldable m) (typed : TypedParts m) (new_types : List FuncType) (new_funcs : List ℕ) (new_start : Option ℕ) (codes : List Body)
    (types_kept : Keeps m.types new_types) (funcs_kept : Keeps (func_indices m) (filter_map (λ i. func_import i.desc) m.imports ++ new_funcs))
    (more_types : length m.types ≤ length new_types) (more_funcs : length (func_indices m) ≤ length (filter_map (λ i. func_import i.desc) m.imports ++ new_funcs)) where
  abbrev all : List (Option Folded)
  all = known_globals m

  abbrev pub o : Module
  o = record m {
    types = new_types;
    funcs = new_funcs;
    start = new_start;
    globals = folded_globals all (imported is_global m) m.globals;
    elems = map (folded_elem all) m.elems;
    datas = map (folded_data all) m.datas;
    codes = codes;
  }

  abbrev imps : List GlobalType
  imps = imported_of global_import m

  told : Pairwise (Told imps) all (all_globals m)
  told = globals_told m foldable.fixed typed.globals

  pub imports_count : imported is_global m ≡ length imps
  imports_count = sym (imports_counted m.imports) ∙ ap length (imported_types m.imports) ∙ length-map imps (λ g. g.ty)

  pub globals_kept : (x : ℕ) (g : GlobalType) → slice_get (all_globals m) x ≡ Some g → SettableAs g (slice_get (all_globals o) x)
  globals_kept = front_kept imps all (imported is_global m) m.globals

  pub refs_kept : (x : ℕ) → is_marked (refs_of m) x ≡ true → is_marked (refs_of o) x ≡ true
  refs_kept x e =
      subst (λ l. is_marked (marked l (replicate (length (func_indices o)) false)) x ≡ true) (sym (outside_stays m (globals_name m imps m.globals foldable.integers typed.globals)))
      (marked_more (named_outside m) (length (func_indices m)) (length (func_indices o)) more_funcs x e)

  abbrev widened : Context → Context
  widened c = record c { types = new_types; funcs = func_indices o; globals = all_globals o; refs = refs_of o }

  pub context_is : context o ≡ widened (context m)
  context_is =
      ap (λ (l : List Ty). record (context o) { elems = l }) (elem_types all m.elems)
      ∙ ap (λ (n : ℕ). record (context o) { elems = map (λ e. e.ty) m.elems; datas = n }) (length-map m.datas (folded_data all))

  -- expressions
  item_kept : (t : Ty) (code : List Instr) → is_reference_type t ≡ true → TypedConstant (context m) code t → TypedConstant (context o) code t
  item_kept t code r h =
      let f = constant_flows (context m) code t h in
      let integers : AllByRecursion (λ g. is_integer g.ty ≡ true) (all_globals m) = all_append (λ g. is_integer g.ty ≡ true) imps (map global_type m.globals) foldable.imported_integers (own m.globals foldable.integers) in
      record {
        constant = items_constant (context m) (context o) integers code [] (t ∷ []) f (none_given (context m) is_integer code [] (t ∷ []) f (reference_alone t r)).1;
        typed = subst (λ c. TypedCode (language c) [] code [] (known (t ∷ []))) (sym context_is)
            (code_kept (context m) new_types (func_indices o) (all_globals o) (refs_of o) types_kept funcs_kept globals_kept refs_kept [] code [] (known (t ∷ [])) h.typed);
      }
    where
      own : (gs : List Global) → AllByRecursion (λ g. is_integer g.ty ≡ true) gs → AllByRecursion (λ g. is_integer g.ty ≡ true) (map global_type gs)
      own [] h = tt
      own (g ∷ gs) h = (h.0, own gs h.1)

  offset_kept : (code : List Instr) (t : Ty) → (v : Folded) × (fold_of all code ≡ Some v) → TypedConstant (context m) code t → TypedConstant (context o) (folded_code code (fold_of all code)) t
  offset_kept code t folds h =
      subst (λ k. TypedConstant (context o) (folded_code code k) t) (sym folds.1)
      (offset_folds imps all (context m) (context o) told (keeps_more imps (map global_type o.globals)) code t folds.0 (constant_flows (context m) code t h) folds.1)

  init_kept : (t : Ty) (init : Option (List Instr)) → TypedInitialiser m t init → TypedInitialiser o t init
  init_kept t None h = tt
  init_kept t (Some code) h = record {
    constant = same_constants (early_context m imps) (early_context o imps) refl code h.constant;
    typed = code_kept (early_context m imps) new_types (func_indices o) imps (refs_of o) types_kept funcs_kept
        (λ x g e. record { other = g; there = e; type = refl; changes = λ c. c }) refs_kept [] code [] (known (t ∷ [])) h.typed;
  }

  -- parts
  tag_kept : (t : ℕ) → TypedTag m t → TypedTag o t
  tag_kept t h = record { type = h.type; declared = types_kept t h.type h.declared; results = h.results }

  import_kept : (d : ImportDesc) → TypedImport m d → TypedImport o d
  import_kept (imports.Func t) h = let less : t < length m.types = h in omega (arith, less, more_types)
  import_kept (imports.Table t l) h = h
  import_kept (imports.Memory l) h = h
  import_kept (imports.Global t mutable) h = h
  import_kept (imports.Tag t) h = tag_kept t h

  globals_many : length (all_globals o) ≡ length (all_globals m)
  globals_many =
      length-append imps (map global_type o.globals) ∙ ap (λ n. length imps + n) (length-map o.globals global_type ∙ same_length all (imported is_global m) m.globals ∙ sym (length-map m.globals global_type))
      ∙ sym (length-append imps (map global_type m.globals))

  desc_kept : (d : ExportDesc) → TypedDesc m d → TypedDesc o d
  desc_kept (exports.Func x) h = let less : x < length (func_indices m) = h in omega (arith, less, more_funcs)
  desc_kept (exports.Table x) h = h
  desc_kept (exports.Memory x) h = h
  desc_kept (exports.Global x) h = subst (λ n. x < n) (sym globals_many) h
  desc_kept (exports.Tag x) h = h

  elem_mode_kept : (t : Ty) (mode : Mode) → ModeFolds all mode → TypedElementMode m t mode → TypedElementMode o t (folded_mode all mode)
  elem_mode_kept t (Active table offset) f h = record { type = h.type; declared = h.declared; serves = h.serves; offset = offset_kept offset types.I32 f h.offset }
  elem_mode_kept t Passive f h = tt
  elem_mode_kept t Declarative f h = tt

  elems_kept : (es : List Element) → AllByRecursion (λ e. ModeFolds all e.mode) es → AllByRecursion (TypedElement m) es → AllByRecursion (TypedElement o) (map (folded_elem all) es)
  elems_kept [] f h = tt
  elems_kept (e ∷ es) f h = (
    record {
      type = h.0.type;
      items = all_map (λ code. TypedConstant (context m) code e.ty) (λ code. TypedConstant (context o) code e.ty) (λ code. item_kept e.ty code h.0.type) e.items h.0.items;
      mode = elem_mode_kept e.ty e.mode f.0 h.0.mode;
    },
    elems_kept es f.1 h.1,
  )

  data_mode_kept : (mode : Mode) → ModeFolds all mode → TypedSegmentMode m mode → TypedSegmentMode o (folded_mode all mode)
  data_mode_kept (Active memory offset) f h = record { limits = h.limits; declared = h.declared; offset = offset_kept offset _ f h.offset }
  data_mode_kept Passive f h = tt
  data_mode_kept Declarative f h = h

  datas_kept : (ds : List Segment) → AllByRecursion (λ d. ModeFolds all d.mode) ds → AllByRecursion (TypedSegment m) ds → AllByRecursion (TypedSegment o) (map (folded_data all) ds)
  datas_kept [] f h = tt
  datas_kept (d ∷ ds) f h = (data_mode_kept d.mode f.0 h.0, datas_kept ds f.1 h.1)

  -- The lemma, of parts.
  pub parts_fold : AllByRecursion TypedFuncType new_types → AllByRecursion (λ t. t < length new_types) new_funcs → TypedStart o new_start → TypedParts o
  parts_fold all_types all_funcs start = record {
    types = all_types;
    imports = all_map (λ i. TypedImport m i.desc) (λ i. TypedImport o i.desc) (λ (i : Import). import_kept i.desc) m.imports typed.imports;
    funcs = all_funcs;
    tables = all_map (TypedTable m) (TypedTable o) (λ (t : Table) h. record { type = h.type; init = init_kept t.ty t.init h.init }) m.tables typed.tables;
    memories = typed.memories;
    tags = all_map (TypedTag m) (TypedTag o) tag_kept m.tags typed.tags;
    globals = globals_fold imps m o all (imported is_global m) imps imps m.globals told imports_count (λ i x e. e) foldable.integers typed.globals;
    exports = all_map (λ e. TypedDesc m e.desc) (λ e. TypedDesc o e.desc) (λ (e : Export). desc_kept e.desc) m.exports typed.exports;
    names = typed.names;
    start = start;
    elems = elems_kept m.elems foldable.elem_offsets typed.elems;
    datas = datas_kept m.datas foldable.data_offsets typed.datas;
  }

  -- The lemma, of bodies.
  pub trees_fold : (indices : List ℕ) (fns : List TypedFn) → TypedTrees m indices fns → TypedTrees o indices fns
  trees_fold [] [] h = tt
  trees_fold [] (f ∷ fns) h = absurd h
  trees_fold (t ∷ indices) [] h = absurd h
  trees_fold (t ∷ indices) (f ∷ fns) h =
      let u = h.0.type in
      let c = body_context m u (body_of f) in
      let same : body_context o u (body_of f) ≡ widened c = ap (λ (k : Context). record k { locals = u.params ++ f.locals; returns = Some u.results }) context_is in (
        record {
          type = u;
          declared = types_kept t u h.0.declared;
          typed = record {
            locals = h.0.typed.locals;
            end = h.0.typed.end;
            nodes = subst (λ k. TypedNodes k (u.results ∷ []) f.body [] h.0.typed.end) (sym same)
                (nodes_kept c new_types (func_indices o) (all_globals o) (refs_of o) types_kept funcs_kept globals_kept refs_kept (u.results ∷ []) f.body [] h.0.typed.end h.0.typed.nodes);
            ends = h.0.typed.ends;
          };
        },
        trees_fold indices fns h.1,
      )
