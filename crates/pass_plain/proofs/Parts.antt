-- The parts and the bodies of a module that is typed, with other bodies, exports and count of data segments: no rule of a
-- part asks for the bodies, and what exports ask for is which functions occur outside bodies.
use Rattle.std.proofs.Common.{◌≡◌, ◌≢◌, ℕ, List, [], ◌∷◌, ◌++◌, Option, Some, None, sym, subst}
use Rattle.std.specs.List.{AllByRecursion, AllPairs}
use Rattle.wasm_ast.specs.declared.module.ty.Ty.{Ty}
use Rattle.wasm_ast.specs.declared.module.ty.FuncType.{FuncType}
use Rattle.wasm_ast.specs.declared.module.code.Instr.{Instr}
use Rattle.wasm_ast.specs.declared.module.code.Body.{Body}
use Rattle.wasm_ast.specs.declared.module.parts.ImportDesc.{ImportDesc}
use Rattle.wasm_ast.specs.declared.module.parts.ImportDesc.TheVariants as imports
use Rattle.wasm_ast.specs.declared.module.parts.Import.{Import}
use Rattle.wasm_ast.specs.declared.module.parts.Table.{Table}
use Rattle.wasm_ast.specs.declared.module.parts.Global.{Global}
use Rattle.wasm_ast.specs.declared.module.parts.Export.{Export}
use Rattle.wasm_ast.specs.declared.module.parts.ExportDesc.{ExportDesc}
use Rattle.wasm_ast.specs.declared.module.parts.ExportDesc.TheVariants as descs
use Rattle.wasm_ast.specs.declared.module.parts.Mode.{Mode}
use Rattle.wasm_ast.specs.declared.module.parts.Mode.TheVariants.{Active, Passive, Declarative}
use Rattle.wasm_ast.specs.declared.module.parts.Element.{Element}
use Rattle.wasm_ast.specs.declared.module.parts.Segment.{Segment}
use Rattle.wasm_ast.specs.declared.module.parts.Module.{Module}
use Rattle.typed_trees.specs.declared.global_type.GlobalType.{GlobalType}
use Rattle.typed_trees.specs.declared.module.TypedFn.{TypedFn}
use Rattle.typed_trees.specs.declared.node.Node.{Node}
use Rattle.typed_trees.specs.Constants.{TypedConstant}
use Rattle.typed_trees.specs.Contexts.{Context}
use Rattle.typed_trees.specs.Modules.{context, early_context, body_context, refs_of, global_import, global_type, imported_of, TypedImport, TypedTag, TypedTable, TypedInitialiser, TypedGlobal, TypedGlobals, TypedDesc, TypedStart, TypedElement, TypedElementMode, TypedSegment, TypedSegmentMode, TypedParts}
use Rattle.typed_trees.specs.Trees.{TypedNodes}
use Rattle.typed_trees.specs.Typed.{body_of, TypedTree, TypedTrees}
use Rattle.rewriting_kit.specs.Rewrites.{Layer, rewritten}
use Rattle.pass_plain.specs.Bodies.{rewritten_function, rewritten_functions}
use Rattle.pass_plain.proofs.Evaluations.{changed}

pub all_map : {X : Type 0} (P Q : X → Type 0) → ((x : X) → P x → Q x) → (xs : List X) → AllByRecursion P xs → AllByRecursion Q xs
all_map P Q f [] h = tt
all_map P Q f (x ∷ xs) h = (f x h.0, all_map P Q f xs h.1)

module _ (m : Module) (codes : List Body) (exports : List Export) (count : Option ℕ) (refs : refs_of (changed m codes exports count) ≡ refs_of m) where
  abbrev other : Module
  other = changed m codes exports count

  -- what is typed in a context of the module is typed in that of the other
  constant_moved : (c : Context) (code : List Instr) (t : Ty) → TypedConstant (record c { refs = refs_of m }) code t → TypedConstant (record c { refs = refs_of other }) code t
  constant_moved c code t h = subst (λ r. TypedConstant (record c { refs = r }) code t) (sym refs) h

  tag_moved : (t : ℕ) → TypedTag m t → TypedTag other t
  tag_moved t h = record { type = h.type; declared = h.declared; results = h.results }

  import_moved : (desc : ImportDesc) → TypedImport m desc → TypedImport other desc
  import_moved (imports.Func t) h = h
  import_moved (imports.Table t l) h = h
  import_moved (imports.Memory l) h = h
  import_moved (imports.Global t mutable) h = h
  import_moved (imports.Tag t) h = tag_moved t h

  init_moved : (t : Ty) (init : Option (List Instr)) → TypedInitialiser m t init → TypedInitialiser other t init
  init_moved t None h = h
  init_moved t (Some code) h = constant_moved (early_context m (imported_of global_import m)) code t h

  table_moved : (t : Table) → TypedTable m t → TypedTable other t
  table_moved t h = record { type = h.type; init = init_moved t.ty t.init h.init }

  global_moved : (before : List GlobalType) (g : Global) → TypedGlobal m before g → TypedGlobal other before g
  global_moved before g h = record { type = h.type; init = constant_moved (early_context m before) g.init g.ty h.init }

  globals_moved : (before : List GlobalType) (gs : List Global) → TypedGlobals m before gs → TypedGlobals other before gs
  globals_moved before [] h = tt
  globals_moved before (g ∷ gs) h = (global_moved before g h.0, globals_moved (before ++ global_type g ∷ []) gs h.1)

  pub desc_moved : (desc : ExportDesc) → TypedDesc m desc → TypedDesc other desc
  desc_moved (descs.Func x) h = h
  desc_moved (descs.Table x) h = h
  desc_moved (descs.Memory x) h = h
  desc_moved (descs.Global x) h = h
  desc_moved (descs.Tag x) h = h

  start_moved : (start : Option ℕ) → TypedStart m start → TypedStart other start
  start_moved None h = tt
  start_moved (Some x) h = record { type = h.type; declared = h.declared; params = h.params; results = h.results }

  element_mode_moved : (t : Ty) (mode : Mode) → TypedElementMode m t mode → TypedElementMode other t mode
  element_mode_moved t (Active table offset) h = record { type = h.type; declared = h.declared; serves = h.serves; offset = constant_moved (context m) offset _ h.offset }
  element_mode_moved t Passive h = tt
  element_mode_moved t Declarative h = tt

  element_moved : (e : Element) → TypedElement m e → TypedElement other e
  element_moved e h = record {
    type = h.type;
    items = all_map (λ code. TypedConstant (context m) code e.ty) (λ code. TypedConstant (context other) code e.ty) (λ code. constant_moved (context m) code e.ty) e.items h.items;
    mode = element_mode_moved e.ty e.mode h.mode;
  }

  segment_mode_moved : (mode : Mode) → TypedSegmentMode m mode → TypedSegmentMode other mode
  segment_mode_moved (Active memory offset) h = record { limits = h.limits; declared = h.declared; offset = constant_moved (context m) offset _ h.offset }
  segment_mode_moved Passive h = tt
  segment_mode_moved Declarative h = h

  segment_moved : (s : Segment) → TypedSegment m s → TypedSegment other s
  segment_moved s h = segment_mode_moved s.mode h

  -- the parts are typed where the exports are
  pub parts_moved : AllByRecursion (λ e. TypedDesc other e.desc) exports → AllPairs (λ a b. a.name ≢ b.name) exports → TypedParts m → TypedParts other
  parts_moved typed told_apart h = record {
    types = h.types;
    imports = all_map (λ i. TypedImport m i.desc) (λ i. TypedImport other i.desc) (λ (i : Import). import_moved i.desc) m.imports h.imports;
    funcs = h.funcs;
    tables = all_map (TypedTable m) (TypedTable other) table_moved m.tables h.tables;
    memories = h.memories;
    tags = all_map (TypedTag m) (TypedTag other) tag_moved m.tags h.tags;
    globals = globals_moved (imported_of global_import m) m.globals h.globals;
    exports = typed;
    names = told_apart;
    start = start_moved m.start h.start;
    elems = all_map (TypedElement m) (TypedElement other) element_moved m.elems h.elems;
    datas = all_map (TypedSegment m) (TypedSegment other) segment_moved m.datas h.datas;
  }

  -- rewritten bodies are typed where rewritten code is, in any context
  module _ {E : Type 0} (entry : Instr → E) (layer : Layer E) (typed : (c : Context) (ls : List (List Ty)) (nodes : List Node) (start : List Ty) (end : Option (List Ty)) → TypedNodes c ls nodes start end → TypedNodes c ls (rewritten entry layer nodes []) start end) where
    tree_moved : (t : FuncType) (f : TypedFn) → TypedTree m t f → TypedTree other t (rewritten_function entry layer f)
    tree_moved t f h = record {
      locals = h.locals;
      end = h.end;
      nodes = subst (λ r. TypedNodes (record (body_context m t (body_of f)) { refs = r }) (t.results ∷ []) (rewritten entry layer f.body []) [] h.end) (sym refs)
          (typed (body_context m t (body_of f)) (t.results ∷ []) f.body [] h.end h.nodes);
      ends = h.ends;
    }

    pub trees_moved : (indices : List ℕ) (fns : List TypedFn) → TypedTrees m indices fns → TypedTrees other indices (rewritten_functions entry layer fns)
    trees_moved [] [] h = tt
    trees_moved [] (f ∷ fns) h = absurd h
    trees_moved (t ∷ indices) [] h = absurd h
    trees_moved (t ∷ indices) (f ∷ fns) h = (record { type = h.0.type; declared = h.0.declared; typed = tree_moved h.0.type f h.0.typed }, trees_moved indices fns h.1)
