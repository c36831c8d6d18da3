-- A module without constant expressions that compute has no instruction that it did not have before, but constants, reads and
-- writes of globals, and a call.
use Rattle.std.proofs.Common.{◌≡◌, ℕ, ◌+◌, Bool, true, false, ◌||◌, List, [], ◌∷◌, ◌++◌, map, Option, Some, None, refl, sym, ap, ◌∙◌}
use Rattle.std.specs.List.{list_any}
use Rattle.std.proofs.lemmas.List.Folds.{list_any-append}
use Rattle.wasm_ast.specs.Fold.{fold_of, known_at, known_globals}
use Rattle.wasm_ast.specs.Occurrence.{Head, some, some_in, some_step}
use Rattle.wasm_ast.specs.Places.{in_offset, in_element, in_table, in_bodies, outside_elements, anywhere}
use Rattle.wasm_ast.specs.Features.{shows}
use Rattle.wasm_ast.specs.declared.features.kind.Feature.{Feature}
use Rattle.wasm_ast.specs.declared.features.kind.Feature.TheVariants as features
use Rattle.wasm_ast.specs.Spaces.{is_global, imported}
use Rattle.wasm_ast.specs.declared.folding.folded.Folded.{Folded}
use Rattle.wasm_ast.specs.declared.folding.folded.Folded.TheVariants.{I32, I64, Imported}
use Rattle.wasm_ast.specs.declared.module.code.Body.{Body}
use Rattle.wasm_ast.specs.declared.module.code.Instr.{Instr, roll-Instr}
use Rattle.wasm_ast.specs.declared.module.code.Instr.TheOpen.{Instr-F}
use Rattle.wasm_ast.specs.declared.module.code.Instr.TheFolds.{map-Instr, fold-roll-Instr}
use Rattle.wasm_ast.specs.declared.module.code.Instr.TheVariants.{Pure, GlobalGet, GlobalSet, Call}
use Rattle.wasm_ast.specs.declared.module.op.Op.TheVariants as ops
use Rattle.wasm_ast.specs.declared.module.parts.Element.{Element}
use Rattle.wasm_ast.specs.declared.module.parts.Global.{Global}
use Rattle.wasm_ast.specs.declared.module.parts.Mode.{Mode}
use Rattle.wasm_ast.specs.declared.module.parts.Mode.TheVariants.{Active, Passive, Declarative}
use Rattle.wasm_ast.specs.declared.module.parts.Module.{Module}
use Rattle.wasm_ast.specs.declared.module.parts.Segment.{Segment}
use Rattle.wasm_ast.specs.declared.module.ty.Ty.{Ty}
use Rattle.wasm_ast.specs.declared.module.ty.Ty.TheVariants as types
use Rattle.stage_kit.specs.Prepared.{call_start}
use Rattle.stage_kit.proofs.Unchanged.{call_rolled}
use Rattle.pass_plain.specs.Folding.{folded_instr, folded_code, folded_mode, folded_elem, folded_data, zero_of, folded_global, folded_globals, set_global, set_globals, setting_code, start_body, start_bodies, started, without_constants}
use Rattle.pass_plain.proofs.FoldedGlobals.{rolled_pure, rolled_get, rolled_set}

pub none_of : (a b : Bool) → (a || b) ≡ false → (a ≡ false) × (b ≡ false)
none_of true b h = let no : ⊥ = cc in absurd no
none_of false b h = (refl, h)

pub both_none : (a b : Bool) → a ≡ false → b ≡ false → (a || b) ≡ false
both_none true b e f = let no : ⊥ = cc in absurd no
both_none false b e f = f

-- what overlooks the new instructions
pub record OverlooksNew (p : Head → Bool) : Type 0 where
  pub narrow : (n : ℕ) → p (Instr-F.Pure (ops.I32Const n)) ≡ false
  pub wide : (n : ℕ) → p (Instr-F.Pure (ops.I64Const n)) ≡ false
  pub get : (x : ℕ) → p (Instr-F.GlobalGet x) ≡ false
  pub set : (x : ℕ) → p (Instr-F.GlobalSet x) ≡ false
  pub call : (x : ℕ) → p (Instr-F.Call x) ≡ false

module _ (p : Head → Bool) (h : OverlooksNew p) where
  -- an instruction without bodies
  leaf_seen : (i : Instr) (l : Instr-F Instr) (b : Bool) → roll-Instr l ≡ i → some_step p (map-Instr Instr Bool (some p) l) ≡ (b || false) → b ≡ false → some p i ≡ false
  leaf_seen i l b e s f = ap (some p) (sym e) ∙ fold-roll-Instr Bool (some_step p) l ∙ s ∙ ap (λ c. c || false) f

  narrow_free : (n : ℕ) → some p (Pure (ops.I32Const n)) ≡ false
  narrow_free n = leaf_seen (Pure (ops.I32Const n)) (Instr-F.Pure (ops.I32Const n)) (p (Instr-F.Pure (ops.I32Const n))) (rolled_pure (ops.I32Const n)) refl (h.narrow n)

  wide_free : (n : ℕ) → some p (Pure (ops.I64Const n)) ≡ false
  wide_free n = leaf_seen (Pure (ops.I64Const n)) (Instr-F.Pure (ops.I64Const n)) (p (Instr-F.Pure (ops.I64Const n))) (rolled_pure (ops.I64Const n)) refl (h.wide n)

  get_free : (x : ℕ) → some p (GlobalGet x) ≡ false
  get_free x = leaf_seen (GlobalGet x) (Instr-F.GlobalGet x) (p (Instr-F.GlobalGet x)) (rolled_get x) refl (h.get x)

  set_free : (x : ℕ) → some p (GlobalSet x) ≡ false
  set_free x = leaf_seen (GlobalSet x) (Instr-F.GlobalSet x) (p (Instr-F.GlobalSet x)) (rolled_set x) refl (h.set x)

  call_free : (x : ℕ) → some p (Call x) ≡ false
  call_free x = leaf_seen (Call x) (Instr-F.Call x) (p (Instr-F.Call x)) (call_rolled x) refl (h.call x)

  one_free : (i : Instr) → some p i ≡ false → some_in p (i ∷ []) ≡ false
  one_free i e = both_none (some p i) false e refl

  folded_free : (v : Folded) → some_in p (folded_instr v ∷ []) ≡ false
  folded_free (I32 n) = one_free (Pure (ops.I32Const n)) (narrow_free n)
  folded_free (I64 n) = one_free (Pure (ops.I64Const n)) (wide_free n)
  folded_free (Imported j t) = one_free (GlobalGet j) (get_free j)

  zero_free : (t : Ty) → some_in p (zero_of t ∷ []) ≡ false
  zero_free types.I64 = one_free (Pure (ops.I64Const 0)) (wide_free 0)
  zero_free t = one_free (Pure (ops.I32Const 0)) (narrow_free 0)

  global_free : (g : Global) (k : Option Folded) → some_in p (folded_global g k).init ≡ false
  global_free g (Some v) = folded_free v
  global_free g None = zero_free g.ty

  globals_free : (all : List (Option Folded)) (x : ℕ) (gs : List Global) → list_any (λ g. some_in p g.init) (folded_globals all x gs) ≡ false
  globals_free all x [] = refl
  globals_free all x (g ∷ gs) = both_none (some_in p (folded_global g (known_at all x)).init) (list_any (λ i. some_in p i.init) (folded_globals all (x + 1) gs)) (global_free g (known_at all x)) (globals_free all (x + 1) gs)

  -- offsets
  code_free : (code : List Instr) (o : Option Folded) → some_in p code ≡ false → some_in p (folded_code code o) ≡ false
  code_free code (Some v) e = folded_free v
  code_free code None e = e

  mode_free : (known : List (Option Folded)) (mode : Mode) → in_offset p mode ≡ false → in_offset p (folded_mode known mode) ≡ false
  mode_free known (Active x offset) e = code_free offset (fold_of known offset) e
  mode_free known Passive e = e
  mode_free known Declarative e = e

  datas_free : (known : List (Option Folded)) (ds : List Segment) → list_any (λ s. in_offset p s.mode) ds ≡ false → list_any (λ s. in_offset p s.mode) (map (folded_data known) ds) ≡ false
  datas_free known [] e = refl
  datas_free known (d ∷ ds) e =
      let both = none_of (in_offset p d.mode) (list_any (λ s. in_offset p s.mode) ds) e in
      both_none (in_offset p (folded_mode known d.mode)) (list_any (λ s. in_offset p s.mode) (map (folded_data known) ds)) (mode_free known d.mode both.0) (datas_free known ds both.1)

  elems_free : (known : List (Option Folded)) (es : List Element) → list_any (in_element p) es ≡ false → list_any (in_element p) (map (folded_elem known) es) ≡ false
  elems_free known [] e = refl
  elems_free known (d ∷ es) e =
      let both = none_of (in_element p d) (list_any (in_element p) es) e in
      let own = none_of (in_offset p d.mode) (list_any (some_in p) d.items) both.0 in
      both_none (in_element p (folded_elem known d)) (list_any (in_element p) (map (folded_elem known) es))
      (both_none (in_offset p (folded_mode known d.mode)) (list_any (some_in p) d.items) (mode_free known d.mode own.0) own.1) (elems_free known es both.1)

  -- the code that sets globals
  pub join_free : (a b : List Instr) → some_in p a ≡ false → some_in p b ≡ false → some_in p (a ++ b) ≡ false
  join_free a b e f = list_any-append (some p) a b ∙ both_none (some_in p a) (some_in p b) e f

  set_one : (x : ℕ) (code : List Instr) (k : Option Folded) → some_in p code ≡ false → some_in p (set_global x code k) ≡ false
  set_one x code (Some v) e = refl
  set_one x code None e = join_free code (GlobalSet x ∷ []) e (one_free (GlobalSet x) (set_free x))

  pub set_all : (all : List (Option Folded)) (x : ℕ) (gs : List Global) → list_any (λ g. some_in p g.init) gs ≡ false → some_in p (set_globals all x gs) ≡ false
  set_all all x [] e = refl
  set_all all x (g ∷ gs) e =
      let both = none_of (some_in p g.init) (list_any (λ i. some_in p i.init) gs) e in
      join_free (set_global x g.init (known_at all x)) (set_globals all (x + 1) gs) (set_one x g.init (known_at all x) both.0) (set_all all (x + 1) gs both.1)

  pub start_free : (start : Option ℕ) → some_in p (call_start start) ≡ false
  start_free None = refl
  start_free (Some f) = one_free (Call f) (call_free f)

  bodies_free : (start : Option ℕ) (code : List Instr) → some_in p code ≡ false → list_any (λ b. some_in p b.code) (start_bodies start code) ≡ false
  bodies_free start [] e = refl
  bodies_free start (i ∷ code) e = both_none (some_in p (start_body start (i ∷ code))) false (join_free (i ∷ code) (call_start start) e (start_free start)) refl

  module _ (m : Module) (e : outside_elements p m ≡ false) where
    abbrev T : Bool
    T = list_any (in_table p) m.tables

    abbrev G : Bool
    G = list_any (λ g. some_in p g.init) m.globals

    abbrev B : Bool
    B = in_bodies p m

    abbrev D : Bool
    D = list_any (λ s. in_offset p s.mode) m.datas

    before_data : (T || G || B ≡ false) × (D ≡ false)
    before_data = none_of (T || G || B) D e

    before_bodies : (T || G ≡ false) × (B ≡ false)
    before_bodies = none_of (T || G) B before_data.0

    first : (T ≡ false) × (G ≡ false)
    first = none_of T G before_bodies.0

    -- all places but element segments, by the bodies behind
    places : (more : List Body) → list_any (λ b. some_in p b.code) more ≡ false → (T || list_any (λ g. some_in p g.init) (folded_globals (known_globals m) (imported is_global m) m.globals) || list_any (λ b. some_in p b.code) (m.codes ++ more) || list_any (λ s. in_offset p s.mode) (map (folded_data (known_globals m)) m.datas)) ≡ false
    places more f =
        let new = list_any (λ g. some_in p g.init) (folded_globals (known_globals m) (imported is_global m) m.globals) in
        let codes = list_any (λ b. some_in p b.code) (m.codes ++ more) in
        let offsets = list_any (λ s. in_offset p s.mode) (map (folded_data (known_globals m)) m.datas) in
        both_none (T || new || codes) offsets
        (both_none (T || new) codes
        (both_none T new first.0 (globals_free (known_globals m) (imported is_global m) m.globals))
        (list_any-append (λ b. some_in p b.code) m.codes more ∙ both_none B (list_any (λ b. some_in p b.code) more) before_bodies.1 f))
        (datas_free (known_globals m) m.datas before_data.1)

    outside_by : (code : List Instr) → some_in p code ≡ false → outside_elements p (started m code) ≡ false
    outside_by [] c = places [] refl
    outside_by (i ∷ code) c = places (start_bodies m.start (i ∷ code)) (bodies_free m.start (i ∷ code) c)

    -- The lemmas: outside element segments, and anywhere.
    pub outside_new : outside_elements p (without_constants m) ≡ false
    outside_new = outside_by (setting_code m) (set_all (known_globals m) (imported is_global m) m.globals first.1)

  elems_by : (m : Module) (code : List Instr) → list_any (in_element p) m.elems ≡ false → list_any (in_element p) (started m code).elems ≡ false
  elems_by m [] e = elems_free (known_globals m) m.elems e
  elems_by m (i ∷ code) e = elems_free (known_globals m) m.elems e

  pub nowhere_new : (m : Module) → anywhere p m ≡ false → anywhere p (without_constants m) ≡ false
  nowhere_new m e =
      let both = none_of (outside_elements p m) (list_any (in_element p) m.elems) e in
      both_none (outside_elements p (without_constants m)) (list_any (in_element p) (without_constants m).elems) (outside_new m both.0) (elems_by m (setting_code m) both.1)

-- each feature is such that the new instructions do not show it
pub overlooks_new : (f : Feature) → OverlooksNew (shows f)
overlooks_new features.Sign = record { narrow = λ n. refl; wide = λ n. refl; get = λ x. refl; set = λ x. refl; call = λ x. refl }
overlooks_new f = record { narrow = λ n. refl; wide = λ n. refl; get = λ x. refl; set = λ x. refl; call = λ x. refl }
