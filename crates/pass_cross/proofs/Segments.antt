-- Globals, tables, memories and segments of a typed module that shows no feature but typed selects cross, and their
-- expressions are typed in 1.0.
use Rattle.std.proofs.Common.{◌≡◌, ◌<◌, ℕ, zero, suc, Bool, true, false, not, ◌&&◌, ◌||◌, nat_eq, List, [], ◌∷◌, ◌++◌, map, length, Option, Some, None, option_map, refl, sym, ap, ◌∙◌, subst, arith, append_assoc, append-nil}
use Rattle.std.specs.Prelude.{slice_get, is_some}
use Rattle.std.specs.List.{AllByRecursion, list_all}
use Rattle.std.proofs.lemmas.Option.{slice_get-map, slice_get_within}
use Rattle.wasm_ast.specs.declared.module.ty.Ty.{Ty}
use Rattle.wasm_ast.specs.declared.module.ty.Ty.TheVariants as types
use Rattle.wasm_ast.specs.declared.module.op.Op.TheVariants as ops
use Rattle.wasm_ast.specs.declared.module.code.Instr.{Instr, out-Instr}
use Rattle.wasm_ast.specs.declared.module.code.Instr.TheOpen.{Instr-F}
use Rattle.wasm_ast.specs.declared.module.parts.ImportDesc.{ImportDesc}
use Rattle.wasm_ast.specs.declared.module.parts.ImportDesc.TheVariants as imports
use Rattle.wasm_ast.specs.declared.module.parts.Global.{Global}
use Rattle.wasm_ast.specs.declared.module.parts.Mode.{Mode}
use Rattle.wasm_ast.specs.declared.module.parts.Mode.TheVariants.{Active, Passive, Declarative}
use Rattle.wasm_ast.specs.declared.module.parts.Element.{Element}
use Rattle.wasm_ast.specs.declared.module.parts.Segment.{Segment}
use Rattle.wasm_ast.specs.declared.module.parts.Module.{Module}
use Rattle.wasm_ast.specs.declared.folding.folded.Folded.{Folded}
use Rattle.wasm_ast.specs.Fold.{fold_of, known_globals}
use Rattle.wasm_ast.specs.Has.{is_one_simple, has_simple_offset, is_passive}
use Rattle.wasm_ast.specs.Kept.{func_named, entry_func, is_plain_offset, fits_mode, is_plain_element, keeps_table}
use Rattle.wasm_ast.specs.Marking.{is_marked}
use Rattle.wasm_ast.specs.Occurrence.{head}
use Rattle.wasm_ast.specs.Spaces as spaces
use Rattle.wasm_ast.specs.Spaces.{imported, is_global, func_indices, table_count}
use Rattle.core1_ast.specs.declared.module.parts.Element1.{Element1}
use Rattle.core1_ast.specs.Spaces as spaces1
use Rattle.core1_ast.specs.Typing as typing1
use Rattle.typing_kit.specs.Form.{Flat}
use Rattle.typed_trees.specs.declared.module.TypedFn.{TypedFn}
use Rattle.typed_trees.specs.declared.global_type.GlobalType.{GlobalType}
use Rattle.typed_trees.specs.Contexts.{address_of}
use Rattle.typed_trees.specs.Constants.{TypedConstant}
use Rattle.typed_trees.specs.Forms.{where_some, where_true, layer_form}
use Rattle.typed_trees.specs.Typed.{module_of, IsTypedTree}
use Rattle.typed_trees.specs.Modules.{global_import, imported_of, all_tables, all_memories, all_globals, global_type, context, early_context, TypedGlobals, TypedElement, TypedElementMode, TypedSegmentMode}
use Rattle.crossing.specs.Code.{is_integer, cross_type, cross_code}
use Rattle.crossing.specs.Modules.{referred, cross_item, cross_active, cross_segment, cross}
use Rattle.crossing.specs.Crossing.{ConstantCrosses, imported_globals, is_reference, is_item, ModeCrosses, ItemsCross}
use Rattle.crossing.proofs.Keeping.{IfThere, all_get}
use Rattle.crossing.proofs.Types.{indices-cross}
use Rattle.pass_cross.specs.Crossable.{Crossable}
use Rattle.pass_cross.specs.Contexts.{cross_global_type}
use Rattle.pass_cross.proofs.Heads.{first_alone}
use Rattle.pass_cross.proofs.Nodes.{and_left, and_right}
use Rattle.pass_cross.proofs.Constants.{LeavesOne, leaves_one, ConstantOut, constant_out}
use Rattle.pass_cross.proofs.Facts.{counted, globals_simple, elems_simple, datas_simple, datas_active, one_table, narrow, tables_counted, table_kept, elems_kept, no_tag_imports}
use Rattle.pass_cross.proofs.Spaces.{tables_cross, memories_cross, globals_cross, imported_globals_cross}
use Rattle.pass_cross.proofs.Bodies.{own_integers}

get_front : {A : Type 0} (a b : List A) (x : ℕ) → x < length a → slice_get (a ++ b) x ≡ slice_get a x
get_front [] b x lt = let no : ⊥ = omega arith in absurd no
get_front (y ∷ a) b zero lt = refl
get_front (y ∷ a) b (suc x) lt = let less : x < length a = omega arith in get_front a b x less

-- an item of an active segment
named_reference : (l : Instr-F Instr) → is_some (func_named (head l)) ≡ true → is_reference l ≡ true
named_reference (Instr-F.Pure (ops.RefFunc f)) h = refl
named_reference (Instr-F.Pure op) h = absurd cc
named_reference l h = absurd cc

named_item : (code : List Instr) → is_some (entry_func code) ≡ true → is_item code ≡ true
named_item [] h = absurd cc
named_item (i ∷ []) h = named_reference (out-Instr i) h
named_item (i ∷ (j ∷ code)) h = absurd cc

global_kind : (d : ImportDesc) → is_some (global_import d) ≡ is_global d
global_kind (imports.Global t b) = refl
global_kind (imports.Func x) = refl
global_kind (imports.Table t l) = refl
global_kind (imports.Memory l) = refl
global_kind (imports.Tag x) = refl

type_kind : (d : ImportDesc) → is_some (spaces.global_import d) ≡ is_global d
type_kind (imports.Global t b) = refl
type_kind (imports.Func x) = refl
type_kind (imports.Table t l) = refl
type_kind (imports.Memory l) = refl
type_kind (imports.Tag x) = refl

module _ (p : Module × List TypedFn) (is_typed : IsTypedTree p) (h : Crossable (module_of p)) where
  abbrev m : Module
  m = module_of p

  abbrev k : ℕ
  k = imported_globals m

  counts : imported is_global m ≡ k
  counts = sym (counted spaces.global_import is_global type_kind m.imports)

  typed_counts : length (imported_of global_import m) ≡ k
  typed_counts = counted global_import is_global global_kind m.imports ∙ counts

  found : (gs : List GlobalType) (gs1 : List spaces1.GlobalType) → gs1 ≡ map cross_global_type gs → (x : ℕ) (g : GlobalType) → slice_get gs x ≡ Some g → slice_get gs1 x ≡ Some (cross_global_type g)
  found gs gs1 e x g q = ap (λ l. slice_get l x) e ∙ slice_get-map cross_global_type gs x ∙ ap (option_map cross_global_type) q

  -- globals
  pub record GlobalOut (g : Global) : Type 0 where
    pub crosses : ConstantCrosses k g.init
    pub typed : typing1.TypedConstant (typing1.imports_context (cross m)) (cross_code g.init) (cross_type g.ty)

  globals_by : (later : List GlobalType) (gs : List Global) → TypedGlobals m (imported_of global_import m ++ later) gs → AllByRecursion (λ g. is_one_simple (imported is_global m) g.init ≡ true) gs → AllByRecursion (λ g. is_integer g.ty ≡ true) gs → AllByRecursion GlobalOut gs
  globals_by later [] t s i = tt
  globals_by later (g ∷ gs) t s i =
      let before = imported_of global_import m ++ later in
      let look : (x : ℕ) (u : GlobalType) → x < k → slice_get before x ≡ Some u → slice_get (spaces1.imported_globals (cross m)) x ≡ Some (cross_global_type u) = λ x u lt e.
      let less : x < length (imported_of global_import m) = subst (λ n. x < n) (sym typed_counts) lt in
      found (imported_of global_import m) (spaces1.imported_globals (cross m)) (imported_globals_cross m (no_tag_imports m h)) x u (sym (get_front (imported_of global_import m) later x less) ∙ e) in
      let out = constant_out (early_context m before) k (typing1.imports_context (cross m)) look g.ty i.0 g.init (subst (λ n. is_one_simple n g.init ≡ true) counts s.0) t.0.init in (
        record { crosses = out.crosses; typed = out.typed },
        globals_by (later ++ global_type g ∷ []) gs (subst (λ b. TypedGlobals m b gs) (append_assoc (imported_of global_import m) later (global_type g ∷ [])) t.1) s.1 i.1,
      )

  pub globals_out : AllByRecursion GlobalOut m.globals
  globals_out = globals_by [] m.globals (subst (λ b. TypedGlobals m b m.globals) (sym (append-nil (imported_of global_import m))) is_typed.parts.globals) (globals_simple m h) (own_integers p is_typed h)

  -- offsets
  abbrev OffsetOut : List Instr → Type 0
  OffsetOut code = ConstantOut k code types.I32 (typing1.context (cross m))

  offset_out : (code : List Instr) → is_one_simple (imported is_global m) code ≡ true → TypedConstant (context m) code types.I32 → OffsetOut code
  offset_out code s t =
      constant_out (context m) k (typing1.context (cross m)) (λ x g lt e. found (all_globals m) (spaces1.all_globals (cross m)) (globals_cross m (no_tag_imports m h)) x g e) types.I32 refl code (subst (λ n. is_one_simple n code ≡ true) counts s) t

  -- element segments
  item_there : (t : Ty) (l : Instr-F Instr) → is_reference l ≡ true → LeavesOne (layer_form (context m) [] l) t → referred l < length (func_indices m)
  item_there t (Instr-F.Pure (ops.RefFunc f)) r o = at (slice_get (func_indices m) f) refl o
    where
      at : (y : Option ℕ) → slice_get (func_indices m) f ≡ y → LeavesOne (where_some y (λ u. where_true (is_marked (context m).refs f) (Flat [] (types.Func ∷ [])))) t → f < length (func_indices m)
      at None e o = absurd o
      at (Some y) e o = slice_get_within (func_indices m) f y e
  item_there t l r o = absurd cc

  item_typed : (t : Ty) (code : List Instr) → is_item code ≡ true → TypedConstant (context m) code t → cross_item code < length (func_indices m)
  item_typed t [] r d = absurd cc
  item_typed t (i ∷ []) r d = item_there t (out-Instr i) r (leaves_one (context m) i t d.typed)
  item_typed t (i ∷ (j ∷ code)) r d = absurd cc

  items_typed : (t : Ty) (codes : List (List Instr)) → AllByRecursion (λ code. is_item code ≡ true) codes → AllByRecursion (λ code. TypedConstant (context m) code t) codes → AllByRecursion (λ x. x < length (spaces1.func_indices (cross m))) (map cross_item codes)
  items_typed t [] r d = tt
  items_typed t (code ∷ codes) r d = (subst (λ (l : List ℕ). cross_item code < length l) (sym (indices-cross m)) (item_typed t code r.0 d.0), items_typed t codes r.1 d.1)

  abbrev ElementsTyped : List Element1 → Type 0
  ElementsTyped es = AllByRecursion (typing1.TypedElement (cross m)) es

  named_codes : (codes : List (List Instr)) → list_all (λ e. is_some (entry_func e)) codes ≡ true → AllByRecursion (λ code. is_item code ≡ true) codes
  named_codes [] e = tt
  named_codes (code ∷ codes) e =
      (named_item code (and_left (is_some (entry_func code)) (list_all (λ e. is_some (entry_func e)) codes) e), named_codes codes (and_right (is_some (entry_func code)) (list_all (λ e. is_some (entry_func e)) codes) e))

  kept_codes : (known : List (Option Folded)) (codes : List (List Instr)) (x : ℕ) (offset : List Instr) → nat_eq x 0 ≡ true → fits_mode known codes (Active x offset) ≡ true → AllByRecursion (λ code. is_item code ≡ true) codes
  kept_codes known codes x offset z f = named_codes codes (and_right (is_plain_offset (fold_of known offset)) (list_all (λ e. is_some (entry_func e)) codes) (second (nat_eq x 0) z f))
    where
      second : (b : Bool) → b ≡ true → (not b || (is_plain_offset (fold_of known offset) && list_all (λ e. is_some (entry_func e)) codes)) ≡ true → (is_plain_offset (fold_of known offset) && list_all (λ e. is_some (entry_func e)) codes) ≡ true
      second true z f = f
      second false z f = absurd cc

  -- a segment in both
  pub record ElementOut (codes : List (List Instr)) (mode : Mode) : Type 0 where
    pub crosses : ItemsCross k codes mode
    pub typed : ElementsTyped (cross_active codes mode)

  element_out : (t : Ty) (codes : List (List Instr)) (mode : Mode) → TypedElementMode m t mode → AllByRecursion (λ code. TypedConstant (context m) code t) codes → has_simple_offset (imported is_global m) mode ≡ true → (keeps_table m ≡ true → fits_mode (known_globals m) codes mode ≡ true) → ElementOut codes mode
  element_out t codes Passive d i s f = record { crosses = tt; typed = tt }
  element_out t codes Declarative d i s f = record { crosses = tt; typed = tt }
  element_out t codes (Active x offset) d i s f =
      let zero = first_alone (all_tables m) x d.type (one_table m h) d.declared in
      let there = slice_get_within (all_tables m) x d.type d.declared in
      let some : 0 < table_count m = let q = tables_counted m h in omega arith in
      let refers = kept_codes (known_globals m) codes x offset zero (f (table_kept m h some)) in
      let out = offset_out offset s d.offset in
      record {
        crosses = (out.crosses, refers);
        typed = (record { table = subst (λ n. x < n) (sym (tables_cross m)) there; offset = out.typed; items = items_typed t codes refers i }, tt);
      }

  elements_by : (es : List Element) → AllByRecursion (TypedElement m) es → AllByRecursion (λ e. has_simple_offset (imported is_global m) e.mode ≡ true) es → (keeps_table m ≡ true → AllByRecursion (λ e. is_plain_element (known_globals m) e ≡ true) es) → AllByRecursion (λ e. ElementOut e.items e.mode) es
  elements_by [] d s f = tt
  elements_by (e ∷ es) d s f = (element_out e.ty e.items e.mode d.0.mode d.0.items s.0 (λ q. (f q).0), elements_by es d.1 s.1 (λ q. (f q).1))

  pub elements_out : AllByRecursion (λ e. ElementOut e.items e.mode) m.elems
  elements_out = elements_by m.elems is_typed.parts.elems (elems_simple m h) (elems_kept m h)

  -- data segments
  pub record SegmentOut (s : Segment) : Type 0 where
    pub crosses : ModeCrosses k s.mode
    pub typed : typing1.TypedSegment (cross m) (cross_segment s)

  segment_out : (bytes : List ℕ) (mode : Mode) → TypedSegmentMode m mode → has_simple_offset (imported is_global m) mode ≡ true → is_passive mode ≡ false → SegmentOut (record { mode = mode; bytes = bytes })
  segment_out bytes Passive d s q = absurd cc
  segment_out bytes Declarative d s q = absurd d
  segment_out bytes (Active x offset) d s q =
      let wide = subst (IfThere (λ l. l.wide ≡ false)) d.declared (all_get (λ l. l.wide ≡ false) (all_memories m) x (narrow m h)) in
      let out = offset_out offset s (subst (λ t. TypedConstant (context m) offset t) (ap address_of wide) d.offset) in
      record {
        crosses = out.crosses;
        typed = record { memory = subst (λ n. x < n) (sym (memories_cross m)) (slice_get_within (all_memories m) x d.limits d.declared); offset = out.typed };
      }

  segments_by : (ss : List Segment) → AllByRecursion (λ s. TypedSegmentMode m s.mode) ss → AllByRecursion (λ s. has_simple_offset (imported is_global m) s.mode ≡ true) ss → AllByRecursion (λ s. is_passive s.mode ≡ false) ss → AllByRecursion SegmentOut ss
  segments_by [] d s q = tt
  segments_by (x ∷ ss) d s q = (segment_out x.bytes x.mode d.0 s.0 q.0, segments_by ss d.1 s.1 q.1)

  pub segments_out : AllByRecursion SegmentOut m.datas
  segments_out = segments_by m.datas is_typed.parts.datas (datas_simple m h) (datas_active m h)
