-- What a stage asks of a module behind which it adds holds of each typed module: all that there is is named, and functions
-- and tags have types.
use Rattle.std.proofs.Common.{◌≡◌, ℕ, suc, ◌+◌, ◌<◌, ◌≤◌, Bool, true, List, [], ◌∷◌, ◌++◌, length, map, filter_map, Option, Some, None, refl, sym, ap, ◌∙◌, arith}
use Rattle.std.specs.Prelude.{slice_get}
use Rattle.std.specs.List.{cons_option, AllByRecursion}
use Rattle.std.proofs.lemmas.Bool.{lt-ltb, ltb-true}
use Rattle.std.proofs.lemmas.List.{length-append, length-map}
use Rattle.wasm_ast.specs.Spaces as spaces
use Rattle.wasm_ast.specs.Spaces.{func_indices, func_import}
use Rattle.wasm_ast.specs.declared.module.ty.Ty.{Ty}
use Rattle.wasm_ast.specs.declared.module.ty.FuncType.{FuncType}
use Rattle.wasm_ast.specs.declared.module.ty.BlockType.{BlockType}
use Rattle.wasm_ast.specs.declared.module.ty.BlockType.TheVariants as blocks
use Rattle.wasm_ast.specs.declared.module.op.Op.{Op}
use Rattle.wasm_ast.specs.declared.module.op.Op.TheVariants as ops
use Rattle.wasm_ast.specs.declared.module.code.Instr.{Instr, out-Instr}
use Rattle.wasm_ast.specs.declared.module.code.Instr.TheOpen.{Instr-F}
use Rattle.wasm_ast.specs.declared.module.parts.Element.{Element}
use Rattle.wasm_ast.specs.declared.module.parts.Export.{Export}
use Rattle.wasm_ast.specs.declared.module.parts.ExportDesc.{ExportDesc}
use Rattle.wasm_ast.specs.declared.module.parts.ExportDesc.TheVariants as exports
use Rattle.wasm_ast.specs.declared.module.parts.Global.{Global}
use Rattle.wasm_ast.specs.declared.module.parts.Import.{Import}
use Rattle.wasm_ast.specs.declared.module.parts.ImportDesc.{ImportDesc}
use Rattle.wasm_ast.specs.declared.module.parts.ImportDesc.TheVariants as imports
use Rattle.wasm_ast.specs.declared.module.parts.Mode.{Mode}
use Rattle.wasm_ast.specs.declared.module.parts.Mode.TheVariants.{Active, Passive, Declarative}
use Rattle.wasm_ast.specs.declared.module.parts.Segment.{Segment}
use Rattle.wasm_ast.specs.declared.module.parts.Table.{Table}
use Rattle.wasm_ast.specs.declared.module.parts.Module.{Module}
use Rattle.typed_trees.specs.declared.global_type.GlobalType.{GlobalType}
use Rattle.typed_trees.specs.declared.module.TypedFn.{TypedFn}
use Rattle.typed_trees.specs.Constants.{TypedConstant}
use Rattle.typed_trees.specs.Modules.{context, early_context, body_context, imported_of, global_import, global_type, all_globals, TypedImport, TypedTag, TypedTable, TypedInitialiser, TypedGlobals, TypedDesc, TypedStart, TypedElement, TypedElementMode, TypedSegment, TypedSegmentMode, TypedParts}
use Rattle.typed_trees.specs.Trees.{erased}
use Rattle.typed_trees.specs.Typed.{body_of, TypedTrees}
use Rattle.meaning_new.specs.Interface as interface
use Rattle.meaning_new.specs.Interface.{tag_indices}
use Rattle.stage_kit.specs.Adding.{Names, block_named, op_named, own_named, CodeNamed}
use Rattle.stage_kit.specs.Appended.{Appended, names_of}
use Rattle.stage_kit.specs.Hosting.{export_named}
use Rattle.stage_kit.specs.Naming.{ConstantNamed, InitNamed, ModeNamed, StartNamed, ModuleNamed}
use Rattle.stage_kit.proofs.Lists.{all_append}
use Rattle.stage_kit.proofs.TypedCode.{names_in, found, got, constant_named, code_named}

pub all_map : {X : Type 0} (P Q : X → Type 0) → ((x : X) → P x → Q x) → (xs : List X) → AllByRecursion P xs → AllByRecursion Q xs
all_map P Q f [] h = tt
all_map P Q f (x ∷ xs) h = (f x h.0, all_map P Q f xs h.1)

-- how many globals a module has, and the names of all that it has
abbrev pub global_count : Module → ℕ
global_count m = length (all_globals m)

abbrev pub all_names : Module → Names
all_names m = names_of m (global_count m)

-- where more globals are named, what is named stays so
module _ (less : Names) (global : ℕ → Bool) (wider : (x : ℕ) → less.global x ≡ true → global x ≡ true) where
  abbrev more_names : Names
  more_names = record less { global = global }

  block_wider : (t : BlockType) → block_named less t ≡ true → block_named more_names t ≡ true
  block_wider blocks.Empty h = h
  block_wider (blocks.One t) h = h
  block_wider (blocks.Index x) h = h

  op_wider : (op : Op) → op_named less op ≡ true → op_named more_names op ≡ true
  op_wider (ops.RefFunc x) h = h
  op_wider op h = h

  own_wider : (l : Instr-F Instr) → own_named less Instr l ≡ true → own_named more_names Instr l ≡ true
  own_wider (Instr-F.Block t code) h = block_wider t h
  own_wider (Instr-F.Loop t code) h = block_wider t h
  own_wider (Instr-F.If t first second) h = block_wider t h
  own_wider (Instr-F.TryTable t clauses code) h = block_wider t h
  own_wider (Instr-F.GlobalGet x) h = wider x h
  own_wider (Instr-F.GlobalSet x) h = wider x h
  own_wider (Instr-F.Pure op) h = op_wider op h
  own_wider l h = h

  code_wider : (code : List Instr) → ConstantNamed less code → ConstantNamed more_names code
  code_wider = all_map (λ i. own_named less Instr (out-Instr i) ≡ true) (λ i. own_named more_names Instr (out-Instr i) ≡ true) (λ i. own_wider (out-Instr i))

-- globals are counted by their types
as_many : (is : List Import) → length (filter_map (λ i. spaces.global_import i.desc) is) ≡ length (filter_map (λ i. global_import i.desc) is)
as_many [] = refl
as_many (i ∷ is) = one i.desc _ _ (as_many is)
  where
    one : (d : ImportDesc) (xs : List Ty) (ys : List GlobalType) → length xs ≡ length ys → length (cons_option (spaces.global_import d) xs) ≡ length (cons_option (global_import d) ys)
    one (imports.Global t mutable) xs ys e = ap suc e
    one (imports.Func t) xs ys e = e
    one (imports.Table t l) xs ys e = e
    one (imports.Memory l) xs ys e = e
    one (imports.Tag t) xs ys e = e

module _ (m : Module) (typed : TypedParts m) where
  abbrev before_own : List GlobalType
  before_own = imported_of global_import m

  counted : global_count m ≡ length before_own + length m.globals
  counted = length-append before_own (map global_type m.globals) ∙ ap (λ n. length before_own + n) (length-map m.globals global_type)

  -- constant expressions over the first globals, and over all
  early_named : (before : List GlobalType) (code : List Instr) (t : Ty) → length before ≤ global_count m → TypedConstant (early_context m before) code t → ConstantNamed (all_names m) code
  early_named before code t few h =
      code_wider (names_in (early_context m before)) (all_names m).global
      (λ x e. (let lt : x < length before = ltb-true x (length before) e in let all : x < global_count m = omega arith in lt-ltb x (global_count m) all))
      code (constant_named (early_context m before) code t h)

  globals_named : (before : List GlobalType) (gs : List Global) → length before + length gs ≤ global_count m → TypedGlobals m before gs → AllByRecursion (λ g. ConstantNamed (all_names m) g.init) gs
  globals_named before [] few h = tt
  globals_named before (g ∷ gs) few h =
      let longer : length (before ++ global_type g ∷ []) ≡ length before + length (global_type g ∷ []) = length-append before (global_type g ∷ []) in
      let here : length before ≤ global_count m = omega arith in
      let rest : length (before ++ global_type g ∷ []) + length gs ≤ global_count m = omega (arith, longer) in
      (early_named before g.init g.ty here h.0.init, globals_named (before ++ global_type g ∷ []) gs rest h.1)

  imported_few : length before_own ≤ global_count m
  imported_few = let e : global_count m ≡ length before_own + length m.globals = counted in omega (arith, e)

  init_named : (t : Ty) (init : Option (List Instr)) → TypedInitialiser m t init → InitNamed (all_names m) init
  init_named t None h = tt
  init_named t (Some code) h = early_named before_own code t imported_few h

  element_mode_named : (t : Ty) (mode : Mode) → TypedElementMode m t mode → ModeNamed (all_names m) mode
  element_mode_named t (Active table offset) h = constant_named (context m) offset _ h.offset
  element_mode_named t Passive h = tt
  element_mode_named t Declarative h = tt

  segment_mode_named : (mode : Mode) → TypedSegmentMode m mode → ModeNamed (all_names m) mode
  segment_mode_named (Active memory offset) h = constant_named (context m) offset _ h.offset
  segment_mode_named Passive h = tt
  segment_mode_named Declarative h = tt

  start_named : (start : Option ℕ) → TypedStart m start → StartNamed (all_names m) start
  start_named None h = tt
  start_named (Some x) h = lt-ltb x (length (func_indices m)) (found (func_indices m) x (λ t. slice_get m.types t) h.type h.declared)

  -- The module names what it has.
  pub module_named : ModuleNamed m (all_names m) (global_count m)
  module_named = record {
    count = ap (λ n. n + length m.globals) (as_many m.imports) ∙ sym counted;
    funcs = λ x lt. lt-ltb x (length (func_indices m)) lt;
    start = start_named m.start typed.start;
    inits = globals_named before_own m.globals (let e : global_count m ≡ length before_own + length m.globals = counted in omega (arith, e)) typed.globals;
    entries = all_map (TypedTable m) (λ t. InitNamed (all_names m) t.init) (λ (t : Table) h. init_named t.ty t.init h.init) m.tables typed.tables;
    items = all_map (TypedElement m) (λ e. AllByRecursion (ConstantNamed (all_names m)) e.items)
        (λ (e : Element) h. all_map (λ code. TypedConstant (context m) code e.ty) (ConstantNamed (all_names m)) (λ code. constant_named (context m) code e.ty) e.items h.items) m.elems typed.elems;
    elem_modes = all_map (TypedElement m) (λ e. ModeNamed (all_names m) e.mode) (λ (e : Element) h. element_mode_named e.ty e.mode h.mode) m.elems typed.elems;
    data_modes = all_map (TypedSegment m) (λ s. ModeNamed (all_names m) s.mode) (λ (s : Segment) h. segment_mode_named s.mode h) m.datas typed.datas;
  }

  -- so do its exports
  desc_named : (d : ExportDesc) → TypedDesc m d → export_named (all_names m) d ≡ true
  desc_named (exports.Global x) h = lt-ltb x (global_count m) h
  desc_named d h = refl

  pub exports_named : AllByRecursion (λ e. export_named (all_names m) e.desc ≡ true) m.exports
  exports_named = all_map (λ e. TypedDesc m e.desc) (λ e. export_named (all_names m) e.desc ≡ true) (λ (e : Export). desc_named e.desc) m.exports typed.exports

  -- and its bodies
  pub bodies_named : (indices : List ℕ) (fns : List TypedFn) → TypedTrees m indices fns → AllByRecursion (λ f. AllByRecursion (CodeNamed m (all_names m)) (erased f.body)) fns
  bodies_named [] [] h = tt
  bodies_named [] (f ∷ fns) h = absurd h
  bodies_named (t ∷ indices) [] h = absurd h
  bodies_named (t ∷ indices) (f ∷ fns) h = (
    code_named m (body_context m h.0.type (body_of f)) (h.0.type.results ∷ []) f.body [] h.0.typed.end h.0.typed.nodes,
    bodies_named indices fns h.1,
  )

  -- functions and tags have types
  abbrev HasType : ℕ → Type 0
  HasType t = t < length m.types

  imported_funcs_typed : (is : List Import) → AllByRecursion (λ i. TypedImport m i.desc) is → AllByRecursion HasType (filter_map (λ i. func_import i.desc) is)
  imported_funcs_typed [] h = tt
  imported_funcs_typed (i ∷ is) h = one i.desc _ h.0 (imported_funcs_typed is h.1)
    where
      one : (d : ImportDesc) (ts : List ℕ) → TypedImport m d → AllByRecursion HasType ts → AllByRecursion HasType (cons_option (func_import d) ts)
      one (imports.Func t) ts here rest = (here, rest)
      one (imports.Table t l) ts here rest = rest
      one (imports.Memory l) ts here rest = rest
      one (imports.Global t mutable) ts here rest = rest
      one (imports.Tag t) ts here rest = rest

  imported_tags_typed : (is : List Import) → AllByRecursion (λ i. TypedImport m i.desc) is → AllByRecursion HasType (filter_map (λ i. interface.tag_import i.desc) is)
  imported_tags_typed [] h = tt
  imported_tags_typed (i ∷ is) h = one i.desc _ h.0 (imported_tags_typed is h.1)
    where
      one : (d : ImportDesc) (ts : List ℕ) → TypedImport m d → AllByRecursion HasType ts → AllByRecursion HasType (cons_option (interface.tag_import d) ts)
      one (imports.Func t) ts here rest = rest
      one (imports.Table t l) ts here rest = rest
      one (imports.Memory l) ts here rest = rest
      one (imports.Global t mutable) ts here rest = rest
      one (imports.Tag t) ts here rest = (got m.types t here.type here.declared, rest)

  -- More types and functions behind a typed module.
  pub appended_typed : (o : Module) (more_types : List FuncType) (more_funcs : List ℕ) → o.types ≡ m.types ++ more_types → func_indices o ≡ func_indices m ++ more_funcs → tag_indices o ≡ tag_indices m → Appended m o
  appended_typed o more_types more_funcs e e' e'' = record {
    more_types = more_types;
    types = e;
    more_funcs = more_funcs;
    funcs = e';
    tags = e'';
    funcs_typed = all_append HasType (filter_map (λ i. func_import i.desc) m.imports) m.funcs (imported_funcs_typed m.imports typed.imports) typed.funcs;
    tags_typed = all_append HasType (filter_map (λ i. interface.tag_import i.desc) m.imports) m.tags (imported_tags_typed m.imports typed.imports)
        (all_map (TypedTag m) HasType (λ t h. got m.types t h.type h.declared) m.tags typed.tags);
  }
