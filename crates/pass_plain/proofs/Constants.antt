-- What no constant expression shows stands in bodies, if it stands in a typed module.
use Rattle.std.proofs.Common.{◌≡◌, ℕ, Bool, true, false, ◌||◌, List, [], ◌∷◌, ◌++◌, unwrap_or, Option, Some, None, refl, sym, ap, ◌∙◌}
use Rattle.std.specs.List.{list_any, list_all, AllByRecursion}
use Rattle.wasm_ast.specs.declared.module.ty.Ty.{Ty}
use Rattle.wasm_ast.specs.declared.module.op.Op.{Op}
use Rattle.wasm_ast.specs.declared.module.code.Instr.{Instr, out-Instr, roll-out-Instr}
use Rattle.wasm_ast.specs.declared.module.code.Instr.TheOpen.{Instr-F}
use Rattle.wasm_ast.specs.declared.module.code.Instr.TheFolds.{map-Instr, fold-roll-Instr}
use Rattle.wasm_ast.specs.declared.module.parts.Element.{Element}
use Rattle.wasm_ast.specs.declared.module.parts.Global.{Global}
use Rattle.wasm_ast.specs.declared.module.parts.Mode.{Mode}
use Rattle.wasm_ast.specs.declared.module.parts.Mode.TheVariants.{Active, Passive, Declarative}
use Rattle.wasm_ast.specs.declared.module.parts.Segment.{Segment}
use Rattle.wasm_ast.specs.declared.module.parts.Table.{Table}
use Rattle.wasm_ast.specs.declared.module.parts.Module.{Module}
use Rattle.wasm_ast.specs.Occurrence.{Head, some, some_in, some_step}
use Rattle.wasm_ast.specs.Places.{in_offset, in_element, in_table, in_bodies, anywhere}
use Rattle.typed_trees.specs.declared.global_type.GlobalType.{GlobalType}
use Rattle.typed_trees.specs.Constants.{is_constant, is_constant_op, is_constant_layer, TypedConstant}
use Rattle.typed_trees.specs.Contexts.{Context}
use Rattle.typed_trees.specs.Modules.{context, early_context, global_import, global_type, imported_of, TypedTable, TypedInitialiser, TypedGlobals, TypedElement, TypedElementMode, TypedSegment, TypedSegmentMode, TypedParts}
use Rattle.pass_law.specs.ThenLawful.{and_left, and_right}

none_of : (a b : Bool) → a ≡ false → b ≡ false → (a || b) ≡ false
none_of a b e e' = ap (λ x. x || b) e ∙ e'

-- a test that passes no instruction of a constant expression
module _ (p : Head → Bool) (no_op : (op : Op) → is_constant_op op ≡ true → p (Instr-F.Pure op) ≡ false) (no_get : (x : ℕ) → p (Instr-F.GlobalGet x) ≡ false) where
  layer_unseen : (c : Context) (l : Instr-F Instr) → is_constant_layer c l ≡ true → some_step p (map-Instr Instr Bool (some p) l) ≡ false
  layer_unseen c (Instr-F.Pure op) h = ap (λ b. b || false) (no_op op h)
  layer_unseen c (Instr-F.GlobalGet x) h = ap (λ b. b || false) (no_get x)
  layer_unseen c l h = absurd cc

  instr_unseen : (c : Context) (i : Instr) → is_constant c i ≡ true → some p i ≡ false
  instr_unseen c i h = ap (some p) (sym (roll-out-Instr i)) ∙ fold-roll-Instr Bool (some_step p) (out-Instr i) ∙ layer_unseen c (out-Instr i) h

  code_unseen : (c : Context) (code : List Instr) → list_all (is_constant c) code ≡ true → some_in p code ≡ false
  code_unseen c [] h = refl
  code_unseen c (i ∷ code) h =
      none_of (some p i) (some_in p code)
      (instr_unseen c i (and_left (is_constant c i) (list_all (is_constant c) code) h)) (code_unseen c code (and_right (is_constant c i) (list_all (is_constant c) code) h))

  module _ (m : Module) where
    abbrev passes : List Instr → Bool
    passes code = some_in p code

    init_unseen : (t : Ty) (o : Option (List Instr)) → TypedInitialiser m t o → passes (unwrap_or o []) ≡ false
    init_unseen t None h = refl
    init_unseen t (Some code) h = code_unseen (early_context m (imported_of global_import m)) code h.constant

    tables_unseen : (ts : List Table) → AllByRecursion (TypedTable m) ts → list_any (in_table p) ts ≡ false
    tables_unseen [] h = refl
    tables_unseen (t ∷ ts) h = none_of (in_table p t) (list_any (in_table p) ts) (init_unseen t.ty t.init h.0.init) (tables_unseen ts h.1)

    pub globals_unseen : (before : List GlobalType) (gs : List Global) → TypedGlobals m before gs → list_any (λ g. passes g.init) gs ≡ false
    globals_unseen before [] h = refl
    globals_unseen before (g ∷ gs) h = none_of (passes g.init) (list_any (λ x. passes x.init) gs) (code_unseen (early_context m before) g.init h.0.init.constant) (globals_unseen (before ++ global_type g ∷ []) gs h.1)

    offset_unseen : (mode : Mode) → TypedSegmentMode m mode → in_offset p mode ≡ false
    offset_unseen (Active memory offset) h = code_unseen (context m) offset h.offset.constant
    offset_unseen Passive h = refl
    offset_unseen Declarative h = refl

    datas_unseen : (ds : List Segment) → AllByRecursion (TypedSegment m) ds → list_any (λ s. in_offset p s.mode) ds ≡ false
    datas_unseen [] h = refl
    datas_unseen (d ∷ ds) h = none_of (in_offset p d.mode) (list_any (λ s. in_offset p s.mode) ds) (offset_unseen d.mode h.0) (datas_unseen ds h.1)

    place_unseen : (t : Ty) (mode : Mode) → TypedElementMode m t mode → in_offset p mode ≡ false
    place_unseen t (Active table offset) h = code_unseen (context m) offset h.offset.constant
    place_unseen t Passive h = refl
    place_unseen t Declarative h = refl

    items_unseen : (t : Ty) (items : List (List Instr)) → AllByRecursion (λ code. TypedConstant (context m) code t) items → list_any passes items ≡ false
    items_unseen t [] h = refl
    items_unseen t (code ∷ items) h = none_of (passes code) (list_any passes items) (code_unseen (context m) code h.0.constant) (items_unseen t items h.1)

    elems_unseen : (es : List Element) → AllByRecursion (TypedElement m) es → list_any (in_element p) es ≡ false
    elems_unseen [] h = refl
    elems_unseen (e ∷ es) h =
        none_of (in_element p e) (list_any (in_element p) es)
        (none_of (in_offset p e.mode) (list_any passes e.items) (place_unseen e.ty e.mode h.0.mode) (items_unseen e.ty e.items h.0.items)) (elems_unseen es h.1)

    -- where no body passes, nothing does
    pub nowhere : TypedParts m → in_bodies p m ≡ false → anywhere p m ≡ false
    nowhere h e =
        ap (λ b. (b || list_any (λ g. passes g.init) m.globals || in_bodies p m || list_any (λ s. in_offset p s.mode) m.datas) || list_any (in_element p) m.elems) (tables_unseen m.tables h.tables)
        ∙ ap (λ b. (false || b || in_bodies p m || list_any (λ s. in_offset p s.mode) m.datas) || list_any (in_element p) m.elems) (globals_unseen (imported_of global_import m) m.globals h.globals)
        ∙ ap (λ b. (false || false || b || list_any (λ s. in_offset p s.mode) m.datas) || list_any (in_element p) m.elems) e
        ∙ ap (λ b. (false || false || false || b) || list_any (in_element p) m.elems) (datas_unseen m.datas h.datas)
        ∙ elems_unseen m.elems h.elems
