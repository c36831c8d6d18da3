-- The types that are used of a module without constant expressions that compute are those that were used before: constant
-- expressions call nothing, and what code and entries name is there.
use Rattle.std.proofs.Common.{◌≡◌, append-nil, ℕ, ◌+◌, ◌<◌, Bool, true, false, ◌&&◌, List, [], ◌∷◌, ◌++◌, map, length, Option, Some, None, unwrap_or, option_and_then, refl, sym, ap, ◌∙◌, subst}
use Rattle.std.specs.Prelude.{flat_map, filter_map, slice_get, option_to_list}
use Rattle.std.specs.List.{AllByRecursion, cons_option, list_all}
use Rattle.std.proofs.lemmas.Bool.{ltb-true}
use Rattle.std.proofs.lemmas.Grind.{flat_map-append}
use Rattle.std.proofs.lemmas.List.{append_assoc}
use Rattle.simulation_kit.specs.Fitting.{all_true, form_fits, fits_step, fits}
use Rattle.wasm_ast.specs.Fold.{fold_of, known_at, known_globals}
use Rattle.wasm_ast.specs.Kept.{func_named, entry_func, called_step, called, called_in, called_in_offset, called_in_element, called_anywhere, active_entries, entry_type, types_placed, used_types}
use Rattle.wasm_ast.specs.Occurrence.{head, inside}
use Rattle.wasm_ast.specs.Spaces.{is_global, imported, func_import, func_indices}
use Rattle.wasm_ast.specs.declared.folding.folded.Folded.{Folded}
use Rattle.wasm_ast.specs.declared.folding.folded.Folded.TheVariants.{I32, I64, Imported}
use Rattle.wasm_ast.specs.declared.module.code.Body.{Body}
use Rattle.wasm_ast.specs.declared.module.code.Instr.{Instr, out-Instr, roll-Instr, roll-out-Instr}
use Rattle.wasm_ast.specs.declared.module.code.Instr.TheOpen.{Instr-F}
use Rattle.wasm_ast.specs.declared.module.code.Instr.TheFolds.{map-Instr, fold-roll-Instr}
use Rattle.wasm_ast.specs.declared.module.code.Instr.TheVariants.{Pure, GlobalGet, GlobalSet, Call}
use Rattle.wasm_ast.specs.declared.module.op.Op.TheVariants as ops
use Rattle.wasm_ast.specs.declared.module.parts.Element.{Element}
use Rattle.wasm_ast.specs.declared.module.parts.Global.{Global}
use Rattle.wasm_ast.specs.declared.module.parts.Mode.{Mode}
use Rattle.wasm_ast.specs.declared.module.parts.Mode.TheVariants.{Active, Passive, Declarative}
use Rattle.wasm_ast.specs.declared.module.parts.Module.{Module}
use Rattle.wasm_ast.specs.declared.module.parts.Segment.{Segment}
use Rattle.wasm_ast.specs.declared.module.parts.Table.{Table}
use Rattle.wasm_ast.specs.declared.module.ty.FuncType.{FuncType}
use Rattle.wasm_ast.specs.declared.module.ty.Ty.{Ty}
use Rattle.wasm_ast.specs.declared.module.ty.Ty.TheVariants as types
use Rattle.typed_trees.specs.declared.global_type.GlobalType.{GlobalType}
use Rattle.typed_trees.specs.Constants.{is_constant, is_constant_layer, TypedConstant}
use Rattle.typed_trees.specs.Contexts.{Context}
use Rattle.typed_trees.specs.Modules.{context, early_context, global_import, global_type, imported_of, TypedTable, TypedInitialiser, TypedGlobals, TypedElement, TypedElementMode, TypedSegment, TypedSegmentMode, TypedParts}
use Rattle.meaning_new.specs.Language as meaning
use Rattle.meaning_new.specs.Language.{over_twice, induct}
use Rattle.pass_law.specs.ThenLawful.{and_left, and_right}
use Rattle.stage_kit.specs.Adding.{own_named, test_of, CodeNamed, Names}
use Rattle.stage_kit.specs.Appended.{names_of}
use Rattle.stage_kit.specs.Naming.{ConstantNamed}
use Rattle.stage_kit.specs.Prepared.{call_start}
use Rattle.stage_kit.proofs.Appending.{get_append}
use Rattle.stage_kit.proofs.Lists.{IfAny, all_append, all_get}
use Rattle.stage_kit.proofs.Unchanged.{call_rolled}
use Rattle.pass_plain.specs.Constants.{NamesThere}
use Rattle.pass_plain.specs.Folding.{nothing_to_nothing, folded_instr, folded_code, folded_mode, folded_elem, folded_data, zero_of, folded_global, folded_globals, set_global, set_globals, setting_code, start_body, start_bodies, started, without_constants}
use Rattle.pass_plain.proofs.FoldedGlobals.{rolled_pure, rolled_get, rolled_set}

-- code that makes no indirect call
abbrev Quiet : List Instr → Type 0
Quiet code = called_in code ≡ []

leaf_quiet : (i : Instr) (l : Instr-F Instr) → roll-Instr l ≡ i → called_step (map-Instr Instr (List ℕ) called l) ≡ [] → called i ≡ []
leaf_quiet i l e f = ap called (sym e) ∙ fold-roll-Instr (List ℕ) called_step l ∙ f

none_both : (a b : List ℕ) → a ≡ [] → b ≡ [] → a ++ b ≡ []
none_both a b e f = ap (λ l. l ++ b) e ∙ f

join_quiet : (a b : List Instr) → Quiet a → Quiet b → Quiet (a ++ b)
join_quiet a b e f = flat_map-append called a b ∙ none_both (called_in a) (called_in b) e f

one_quiet : (i : Instr) → called i ≡ [] → Quiet (i ∷ [])
one_quiet i e = none_both (called i) [] e refl

folded_quiet : (v : Folded) → Quiet (folded_instr v ∷ [])
folded_quiet (I32 n) = one_quiet (Pure (ops.I32Const n)) (leaf_quiet (Pure (ops.I32Const n)) (Instr-F.Pure (ops.I32Const n)) (rolled_pure (ops.I32Const n)) refl)
folded_quiet (I64 n) = one_quiet (Pure (ops.I64Const n)) (leaf_quiet (Pure (ops.I64Const n)) (Instr-F.Pure (ops.I64Const n)) (rolled_pure (ops.I64Const n)) refl)
folded_quiet (Imported j t) = one_quiet (GlobalGet j) (leaf_quiet (GlobalGet j) (Instr-F.GlobalGet j) (rolled_get j) refl)

zero_quiet : (t : Ty) → Quiet (zero_of t ∷ [])
zero_quiet types.I64 = folded_quiet (I64 0)
zero_quiet t = folded_quiet (I32 0)

global_quiet : (g : Global) (k : Option Folded) → Quiet (folded_global g k).init
global_quiet g (Some v) = folded_quiet v
global_quiet g None = zero_quiet g.ty

globals_quiet : (all : List (Option Folded)) (x : ℕ) (gs : List Global) → flat_map (λ g. called_in g.init) (folded_globals all x gs) ≡ []
globals_quiet all x [] = refl
globals_quiet all x (g ∷ gs) = none_both (called_in (folded_global g (known_at all x)).init) (flat_map (λ i. called_in i.init) (folded_globals all (x + 1) gs)) (global_quiet g (known_at all x)) (globals_quiet all (x + 1) gs)

code_quiet : (code : List Instr) (o : Option Folded) → Quiet code → Quiet (folded_code code o)
code_quiet code (Some v) e = folded_quiet v
code_quiet code None e = e

mode_quiet : (known : List (Option Folded)) (mode : Mode) → called_in_offset mode ≡ [] → called_in_offset (folded_mode known mode) ≡ []
mode_quiet known (Active x offset) e = code_quiet offset (fold_of known offset) e
mode_quiet known Passive e = refl
mode_quiet known Declarative e = refl

-- constant expressions are quiet
module _ (c : Context) where
  layer_quiet : (l : Instr-F Instr) → is_constant_layer c l ≡ true → called_step (map-Instr Instr (List ℕ) called l) ≡ []
  layer_quiet (Instr-F.Pure op) h = refl
  layer_quiet (Instr-F.GlobalGet x) h = refl
  layer_quiet l h = absurd cc

  constant_quiet : (code : List Instr) → list_all (is_constant c) code ≡ true → Quiet code
  constant_quiet [] h = refl
  constant_quiet (i ∷ code) h =
      none_both (called i) (called_in code)
      (leaf_quiet i (out-Instr i) (roll-out-Instr i) (layer_quiet (out-Instr i) (and_left (is_constant c i) (list_all (is_constant c) code) h)))
      (constant_quiet code (and_right (is_constant c i) (list_all (is_constant c) code) h))

module _ (m : Module) where
  init_quiet : (t : Ty) (o : Option (List Instr)) → TypedInitialiser m t o → Quiet (unwrap_or o [])
  init_quiet t None h = refl
  init_quiet t (Some code) h = constant_quiet (early_context m (imported_of global_import m)) code h.constant

  tables_quiet : (ts : List Table) → AllByRecursion (TypedTable m) ts → flat_map (λ t. called_in (unwrap_or t.init [])) ts ≡ []
  tables_quiet [] h = refl
  tables_quiet (t ∷ ts) h = none_both (called_in (unwrap_or t.init [])) (flat_map (λ i. called_in (unwrap_or i.init [])) ts) (init_quiet t.ty t.init h.0.init) (tables_quiet ts h.1)

  inits_quiet : (before : List GlobalType) (gs : List Global) → TypedGlobals m before gs → flat_map (λ g. called_in g.init) gs ≡ []
  inits_quiet before [] h = refl
  inits_quiet before (g ∷ gs) h = none_both (called_in g.init) (flat_map (λ i. called_in i.init) gs) (constant_quiet (early_context m before) g.init h.0.init.constant) (inits_quiet (before ++ global_type g ∷ []) gs h.1)

  -- so is the code that sets globals
  one_set : (x : ℕ) (code : List Instr) (k : Option Folded) → Quiet code → Quiet (set_global x code k)
  one_set x code (Some v) e = refl
  one_set x code None e = join_quiet code (GlobalSet x ∷ []) e (one_quiet (GlobalSet x) (leaf_quiet (GlobalSet x) (Instr-F.GlobalSet x) (rolled_set x) refl))

  sets_quiet : (all : List (Option Folded)) (x : ℕ) (before : List GlobalType) (gs : List Global) → TypedGlobals m before gs → Quiet (set_globals all x gs)
  sets_quiet all x before [] h = refl
  sets_quiet all x before (g ∷ gs) h =
      join_quiet (set_global x g.init (known_at all x)) (set_globals all (x + 1) gs)
      (one_set x g.init (known_at all x) (constant_quiet (early_context m before) g.init h.0.init.constant)) (sets_quiet all (x + 1) (before ++ global_type g ∷ []) gs h.1)

  start_quiet : (start : Option ℕ) → Quiet (call_start start)
  start_quiet None = refl
  start_quiet (Some f) = one_quiet (Call f) (leaf_quiet (Call f) (Instr-F.Call f) (call_rolled f) refl)

  bodies_quiet : (code : List Instr) → Quiet code → flat_map (λ b. called_in b.code) (start_bodies m.start code) ≡ []
  bodies_quiet [] e = refl
  bodies_quiet (i ∷ code) e = none_both (called_in (start_body m.start (i ∷ code))) [] (join_quiet (i ∷ code) (call_start m.start) e (start_quiet m.start)) refl

  -- and so are segments, as they were and folded
  offset_quiet : (mode : Mode) → TypedSegmentMode m mode → called_in_offset mode ≡ []
  offset_quiet (Active memory offset) h = constant_quiet (context m) offset h.offset.constant
  offset_quiet Passive h = refl
  offset_quiet Declarative h = refl

  datas_quiet : (ds : List Segment) → AllByRecursion (TypedSegment m) ds → flat_map (λ s. called_in_offset s.mode) ds ≡ []
  datas_quiet [] h = refl
  datas_quiet (d ∷ ds) h = none_both (called_in_offset d.mode) (flat_map (λ s. called_in_offset s.mode) ds) (offset_quiet d.mode h.0) (datas_quiet ds h.1)

  folded_datas : (known : List (Option Folded)) (ds : List Segment) → AllByRecursion (TypedSegment m) ds → flat_map (λ s. called_in_offset s.mode) (map (folded_data known) ds) ≡ []
  folded_datas known [] h = refl
  folded_datas known (d ∷ ds) h = none_both (called_in_offset (folded_mode known d.mode)) (flat_map (λ s. called_in_offset s.mode) (map (folded_data known) ds)) (mode_quiet known d.mode (offset_quiet d.mode h.0)) (folded_datas known ds h.1)

  place_quiet : (t : Ty) (mode : Mode) → TypedElementMode m t mode → called_in_offset mode ≡ []
  place_quiet t (Active table offset) h = constant_quiet (context m) offset h.offset.constant
  place_quiet t Passive h = refl
  place_quiet t Declarative h = refl

  items_quiet : (t : Ty) (items : List (List Instr)) → AllByRecursion (λ code. TypedConstant (context m) code t) items → flat_map called_in items ≡ []
  items_quiet t [] h = refl
  items_quiet t (code ∷ items) h = none_both (called_in code) (flat_map called_in items) (constant_quiet (context m) code h.0.constant) (items_quiet t items h.1)

  elems_quiet : (es : List Element) → AllByRecursion (TypedElement m) es → flat_map called_in_element es ≡ []
  elems_quiet [] h = refl
  elems_quiet (e ∷ es) h =
      none_both (called_in_element e) (flat_map called_in_element es)
      (none_both (called_in_offset e.mode) (flat_map called_in e.items) (place_quiet e.ty e.mode h.0.mode) (items_quiet e.ty e.items h.0.items)) (elems_quiet es h.1)

  folded_elems : (known : List (Option Folded)) (es : List Element) → AllByRecursion (TypedElement m) es → flat_map called_in_element (map (folded_elem known) es) ≡ []
  folded_elems known [] h = refl
  folded_elems known (e ∷ es) h =
      none_both (called_in_element (folded_elem known e)) (flat_map called_in_element (map (folded_elem known) es))
      (none_both (called_in_offset (folded_mode known e.mode)) (flat_map called_in e.items) (mode_quiet known e.mode (place_quiet e.ty e.mode h.0.mode)) (items_quiet e.ty e.items h.0.items)) (folded_elems known es h.1)

-- only bodies call
bodies_alone : (tables globals bodies datas elems : List ℕ) → tables ≡ [] → globals ≡ [] → datas ≡ [] → elems ≡ [] → tables ++ globals ++ bodies ++ datas ++ elems ≡ bodies
bodies_alone tables globals bodies datas elems t g d e =
    ap (λ l. l ++ globals ++ bodies ++ datas ++ elems) t
    ∙ ap (λ l. l ++ bodies ++ datas ++ elems) g
    ∙ ap (λ l. bodies ++ l ++ elems) d
    ∙ ap (λ l. l ++ elems) (append-nil bodies)
    ∙ ap (λ l. bodies ++ l) e
    ∙ append-nil bodies

module _ (m : Module) (typed : TypedParts m) where
  abbrev bodies : List ℕ
  bodies = flat_map (λ b. called_in b.code) m.codes

  called_before : called_anywhere m ≡ bodies
  called_before =
      bodies_alone (flat_map (λ t. called_in (unwrap_or t.init [])) m.tables) (flat_map (λ g. called_in g.init) m.globals) bodies (flat_map (λ s. called_in_offset s.mode) m.datas) (flat_map called_in_element m.elems)
      (tables_quiet m m.tables typed.tables) (inits_quiet m (imported_of global_import m) m.globals typed.globals) (datas_quiet m m.datas typed.datas) (elems_quiet m m.elems typed.elems)

  new_alone : (more : List Body) → flat_map (λ t. called_in (unwrap_or t.init [])) m.tables ++ flat_map (λ g. called_in g.init) (folded_globals (known_globals m) (imported is_global m) m.globals) ++ flat_map (λ b. called_in b.code) (m.codes ++ more) ++ flat_map (λ s. called_in_offset s.mode) (map (folded_data (known_globals m)) m.datas) ++ flat_map called_in_element (map (folded_elem (known_globals m)) m.elems) ≡ flat_map (λ b. called_in b.code) (m.codes ++ more)
  new_alone more =
      bodies_alone (flat_map (λ t. called_in (unwrap_or t.init [])) m.tables) (flat_map (λ g. called_in g.init) (folded_globals (known_globals m) (imported is_global m) m.globals)) (flat_map (λ b. called_in b.code) (m.codes ++ more))
      (flat_map (λ s. called_in_offset s.mode) (map (folded_data (known_globals m)) m.datas)) (flat_map called_in_element (map (folded_elem (known_globals m)) m.elems))
      (tables_quiet m m.tables typed.tables) (globals_quiet (known_globals m) (imported is_global m) m.globals) (folded_datas m (known_globals m) m.datas typed.datas) (folded_elems m (known_globals m) m.elems typed.elems)

  bodies_by : (code : List Instr) → Quiet code → flat_map (λ b. called_in b.code) (m.codes ++ start_bodies m.start code) ≡ bodies
  bodies_by code q = flat_map-append (λ (b : Body). called_in b.code) m.codes (start_bodies m.start code) ∙ ap (λ l. bodies ++ l) (bodies_quiet m code q) ∙ append-nil bodies

  called_by : (code : List Instr) → Quiet code → called_anywhere (started m code) ≡ bodies
  called_by [] q = new_alone [] ∙ bodies_by [] q
  called_by (i ∷ code) q = new_alone (start_bodies m.start (i ∷ code)) ∙ bodies_by (i ∷ code) q

  called_after : called_anywhere (without_constants m) ≡ bodies
  called_after = called_by (setting_code m) (sets_quiet m (known_globals m) (imported is_global m) (imported_of global_import m) m.globals typed.globals)

-- What typed bodies call by type has one.
module _ (m : Module) (names : Names) (below : (t : ℕ) → names.type t ≡ true → t < length m.types) where
  abbrev HasType : ℕ → Type 0
  HasType t = t < length m.types

  abbrev allowed : Instr → Bool
  allowed = fits (meaning.language m) names.func (test_of names)

  abbrev Named : Instr → Type 0
  Named i = allowed i ≡ true → AllByRecursion HasType (called i)

  abbrev Known : Type 0
  Known = (i : Instr) × Named i

  known_called : (ks : List Known) → all_true (map (λ k. allowed k.0) ks) ≡ true → AllByRecursion HasType (flat_map (λ ts. ts) (map (λ k. called k.0) ks))
  known_called [] h = tt
  known_called (k ∷ ks) h =
      all_append HasType (called k.0) (flat_map (λ ts. ts) (map (λ j. called j.0) ks))
      (k.1 (and_left (allowed k.0) (all_true (map (λ j. allowed j.0) ks)) h)) (known_called ks (and_right (allowed k.0) (all_true (map (λ j. allowed j.0) ks)) h))

  abbrev step : Instr-F Bool → Bool
  step = fits_step (meaning.language m) names.func (test_of names)

  layer_called : (l : Instr-F Known) → step (map-Instr Known Bool (λ k. allowed k.0) l) ≡ true → AllByRecursion HasType (called_step (map-Instr Known (List ℕ) (λ k. called k.0) l))
  layer_called (Instr-F.Block t code) h = known_called code (and_right (own_named names Bool (Instr-F.Block t (map (λ k. allowed k.0) code))) (all_true (map (λ k. allowed k.0) code)) h)
  layer_called (Instr-F.Loop t code) h = known_called code (and_right (own_named names Bool (Instr-F.Loop t (map (λ k. allowed k.0) code))) (all_true (map (λ k. allowed k.0) code)) h)
  layer_called (Instr-F.TryTable t clauses code) h = known_called code (and_right (own_named names Bool (Instr-F.TryTable t clauses (map (λ k. allowed k.0) code))) (all_true (map (λ k. allowed k.0) code)) h)
  layer_called (Instr-F.If t first second) h =
      let a = map (λ k. allowed k.0) first in
      let b = map (λ k. allowed k.0) second in
      let arms : (all_true a && all_true b) ≡ true = and_right (own_named names Bool (Instr-F.If t a b)) (all_true a && all_true b) h in
      subst (AllByRecursion HasType) (sym (flat_map-append (λ (ts : List ℕ). ts) (map (λ k. called k.0) first) (map (λ k. called k.0) second)))
      (all_append HasType (flat_map (λ ts. ts) (map (λ k. called k.0) first)) (flat_map (λ ts. ts) (map (λ k. called k.0) second)) (known_called first (and_left (all_true a) (all_true b) arms)) (known_called second (and_right (all_true a) (all_true b) arms)))
  layer_called (Instr-F.CallIndirect t table) h = (below t (and_left (names.type t) true h), tt)
  layer_called (Instr-F.ReturnCallIndirect t table) h = (below t (and_left (names.type t) true h), tt)
  layer_called l h = tt

  instr_called : (i : Instr) → Named i
  instr_called = induct Named (λ l h.
      subst (AllByRecursion HasType) (sym (fold-roll-Instr (List ℕ) called_step (map-Instr Known Instr (λ k. k.0) l) ∙ ap called_step (over_twice Known Instr (List ℕ) (λ k. k.0) called l)))
      (layer_called l (sym (fold-roll-Instr Bool step (map-Instr Known Instr (λ k. k.0) l) ∙ ap step (over_twice Known Instr Bool (λ k. k.0) allowed l)) ∙ h)))

  code_called : (code : List Instr) → AllByRecursion (CodeNamed m names) code → AllByRecursion HasType (called_in code)
  code_called [] h = tt
  code_called (i ∷ code) h = all_append HasType (called i) (called_in code) (instr_called i h.0) (code_called code h.1)

  bodies_called : (bs : List Body) → AllByRecursion (λ b. AllByRecursion (CodeNamed m names) b.code) bs → AllByRecursion HasType (flat_map (λ b. called_in b.code) bs)
  bodies_called [] h = tt
  bodies_called (b ∷ bs) h = all_append HasType (called_in b.code) (flat_map (λ i. called_in i.code) bs) (code_called b.code h.0) (bodies_called bs h.1)

-- What entries name is there, and has a type.
module _ (m : Module) (globals : ℕ) (there : NamesThere m globals) where
  abbrev IsThere : ℕ → Type 0
  IsThere f = f < length (func_indices m)

  abbrev IsTyped : ℕ → Type 0
  IsTyped t = t < length m.types

  func_there : (l : Instr-F Instr) → own_named (names_of m globals) Instr l ≡ true → IfAny IsThere (func_named (head l))
  func_there (Instr-F.Pure (ops.RefFunc f)) h = ltb-true f (length (func_indices m)) h
  func_there (Instr-F.Pure op) h = tt
  func_there l h = tt

  entry_there : (entry : List Instr) → ConstantNamed (names_of m globals) entry → IfAny IsThere (entry_func entry)
  entry_there [] h = tt
  entry_there (i ∷ []) h = func_there (out-Instr i) h.0
  entry_there (i ∷ (j ∷ more)) h = tt

  entry_typed : (f : Option ℕ) → AllByRecursion IsTyped (option_to_list (option_and_then (slice_get (func_indices m)) f))
  entry_typed None = tt
  entry_typed (Some f) = one (slice_get (func_indices m) f) (all_get IsTyped (func_indices m) f there.funcs_typed)
    where
      one : (t : Option ℕ) → IfAny IsTyped t → AllByRecursion IsTyped (option_to_list t)
      one None h = tt
      one (Some t) h = (h, tt)

  active_same : (known : List (Option Folded)) (mode : Mode) (items : List (List Instr)) → active_entries (folded_mode known mode) items ≡ active_entries mode items
  active_same known (Active x offset) items = refl
  active_same known Passive items = refl
  active_same known Declarative items = refl

  active_named : (mode : Mode) (items : List (List Instr)) → AllByRecursion (ConstantNamed (names_of m globals)) items → AllByRecursion (ConstantNamed (names_of m globals)) (active_entries mode items)
  active_named (Active x offset) items h = h
  active_named Passive items h = tt
  active_named Declarative items h = tt

  entries_typed : (entries : List (List Instr)) → AllByRecursion IsTyped (flat_map (λ entry. option_to_list (entry_type (func_indices m) entry)) entries)
  entries_typed [] = tt
  entries_typed (entry ∷ entries) = all_append IsTyped (option_to_list (entry_type (func_indices m) entry)) (flat_map (λ e. option_to_list (entry_type (func_indices m) e)) entries) (entry_typed (entry_func entry)) (entries_typed entries)

  placed_typed : (es : List Element) → AllByRecursion IsTyped (flat_map (types_placed (func_indices m)) es)
  placed_typed [] = tt
  placed_typed (e ∷ es) = all_append IsTyped (types_placed (func_indices m) e) (flat_map (types_placed (func_indices m)) es) (entries_typed (active_entries e.mode e.items)) (placed_typed es)

  -- an index that an entry names, with more behind
  then_same : (more : List ℕ) (f : Option ℕ) → IfAny IsThere f → option_and_then (slice_get (func_indices m ++ more)) f ≡ option_and_then (slice_get (func_indices m)) f
  then_same more None h = refl
  then_same more (Some f) h = get_append (func_indices m) more f h

  entries_same : (more : List ℕ) (entries : List (List Instr)) → AllByRecursion (ConstantNamed (names_of m globals)) entries → flat_map (λ entry. option_to_list (entry_type (func_indices m ++ more) entry)) entries ≡ flat_map (λ entry. option_to_list (entry_type (func_indices m) entry)) entries
  entries_same more [] h = refl
  entries_same more (entry ∷ entries) h =
      ap (λ t. option_to_list t ++ flat_map (λ e. option_to_list (entry_type (func_indices m ++ more) e)) entries) (then_same more (entry_func entry) (entry_there entry h.0))
      ∙ ap (λ l. option_to_list (entry_type (func_indices m) entry) ++ l) (entries_same more entries h.1)

  placed_same : (known : List (Option Folded)) (more : List ℕ) (es : List Element) → AllByRecursion (λ e. AllByRecursion (ConstantNamed (names_of m globals)) e.items) es → flat_map (types_placed (func_indices m ++ more)) (map (folded_elem known) es) ≡ flat_map (types_placed (func_indices m)) es
  placed_same known more [] h = refl
  placed_same known more (e ∷ es) h =
      ap (λ entries. flat_map (λ entry. option_to_list (entry_type (func_indices m ++ more) entry)) entries ++ flat_map (types_placed (func_indices m ++ more)) (map (folded_elem known) es)) (active_same known e.mode e.items)
      ∙ ap (λ l. l ++ flat_map (types_placed (func_indices m ++ more)) (map (folded_elem known) es)) (entries_same more (active_entries e.mode e.items) (active_named e.mode e.items h.0))
      ∙ ap (λ l. types_placed (func_indices m) e ++ l) (placed_same known more es h.1)

  types_found : (more : List FuncType) (l : List ℕ) → AllByRecursion IsTyped l → filter_map (slice_get (m.types ++ more)) l ≡ filter_map (slice_get m.types) l
  types_found more [] h = refl
  types_found more (t ∷ l) h =
      ap (λ o. cons_option o (filter_map (slice_get (m.types ++ more)) l)) (get_append m.types more t h.0)
      ∙ ap (λ r. cons_option (slice_get m.types t) r) (types_found more l h.1)

  module _ (typed : TypedParts m) where
    used_typed : AllByRecursion IsTyped (called_anywhere m ++ flat_map (types_placed (func_indices m)) m.elems)
    used_typed =
        all_append IsTyped (called_anywhere m) (flat_map (types_placed (func_indices m)) m.elems)
        (subst (AllByRecursion IsTyped) (sym (called_before m typed)) (bodies_called m (names_of m globals) (λ t h. ltb-true t (length m.types) h) m.codes there.code_named)) (placed_typed m.elems)

    -- the types that are used of a module with these types, functions and segments that makes the same calls
    used_by : (o : Module) (more_types : List FuncType) (more_funcs : List ℕ) → o.types ≡ m.types ++ more_types → func_indices o ≡ func_indices m ++ more_funcs → o.elems ≡ map (folded_elem (known_globals m)) m.elems → called_anywhere o ≡ called_anywhere m → used_types o ≡ used_types m
    used_by o more_types more_funcs e f g c =
        ap (λ l. filter_map (slice_get o.types) (l ++ flat_map (types_placed (func_indices o)) o.elems)) c
        ∙ ap (λ (l : List Element). filter_map (slice_get o.types) (called_anywhere m ++ flat_map (types_placed (func_indices o)) l)) g
        ∙ ap (λ l. filter_map (slice_get o.types) (called_anywhere m ++ flat_map (types_placed l) (map (folded_elem (known_globals m)) m.elems))) f
        ∙ ap (λ l. filter_map (slice_get o.types) (called_anywhere m ++ l)) (placed_same (known_globals m) more_funcs m.elems there.named.items)
        ∙ ap (λ (l : List FuncType). filter_map (slice_get l) (called_anywhere m ++ flat_map (types_placed (func_indices m)) m.elems)) e
        ∙ types_found more_types (called_anywhere m ++ flat_map (types_placed (func_indices m)) m.elems) used_typed

    by_code : (code : List Instr) → called_anywhere (started m code) ≡ called_anywhere m → used_types (started m code) ≡ used_types m
    by_code [] c = used_by (started m []) [] [] (sym (append-nil m.types)) (sym (append-nil (func_indices m))) refl c
    by_code (i ∷ code) c = used_by (started m (i ∷ code)) (nothing_to_nothing ∷ []) (length m.types ∷ []) refl (sym (append_assoc (filter_map (λ j. func_import j.desc) m.imports) m.funcs (length m.types ∷ []))) refl c

    -- The lemma.
    pub used_same : used_types (without_constants m) ≡ used_types m
    used_same = by_code (setting_code m) (called_after m typed ∙ sym (called_before m typed))
