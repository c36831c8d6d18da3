-- Every instruction that a stage does not name stays.
use Rattle.std.proofs.Common.{◌≡◌, ℕ, Bool, true, false, List, [], ◌∷◌, map, Option, Some, None, option_map, refl, sym, ap, ◌∙◌, subst}
use Rattle.std.specs.Prelude.{slice_get, find}
use Rattle.std.specs.List.{AllByRecursion}
use Rattle.num_core.specs.Accesses.{load_width, load_bytes}
use Rattle.num_core.specs.Bytes.{loaded, stored}
use Rattle.lane_core.specs.Shapes.{lane_load_bytes}
use Rattle.lane_core.specs.Memory.{loaded_vector, vector_bytes, stored_lane}
use Rattle.host_kit.specs.Trace.{captured}
use Rattle.wasm_ast.specs.declared.module.immediates.Catch.{Catch}
use Rattle.wasm_ast.specs.declared.module.immediates.Catch.TheVariants as catches
use Rattle.wasm_ast.specs.declared.module.code.Instr.{Instr, roll-Instr}
use Rattle.wasm_ast.specs.declared.module.code.Instr.TheOpen.{Instr-F}
use Rattle.wasm_ast.specs.declared.module.code.Instr.TheFolds.{map-Instr}
use Rattle.wasm_ast.specs.declared.module.parts.Module.{Module}
use Rattle.wasm_ast.specs.declared.module.ty.BlockType.{BlockType}
use Rattle.wasm_ast.specs.declared.module.ty.BlockType.TheVariants.{Index}
use Rattle.evaluation_kit.specs.declared.jump.Jump.TheVariants as jumps
use Rattle.evaluation_kit.specs.Control.{Caught}
use Rattle.evaluation_kit.specs.Languages.{Language, func, exec_code}
use Rattle.simulation_kit.specs.Labels.{IsShared}
use Rattle.simulation_kit.specs.Matches.{Match, Context, Sims}
use Rattle.simulation_kit.specs.Staying.{AllFuncsSim}
use Rattle.simulation_kit.specs.Rewriting.{Step, body_at, rewrite, layer_sem}
use Rattle.simulation_kit.specs.Fitting.{FormFits}
use Rattle.simulation_kit.specs.Keeping.{HoldsCaught, HoldsPicked, FormKeeps, HandlerKeeps, PickKeeps}
use Rattle.simulation_kit.specs.Likenesses.{CaughtLike, matching, HandlerLike, PickedLike, PickLike, BodyLike, FormLike}
use Rattle.simulation_kit.proofs.Fitting.{fits_inside}
use Rattle.simulation_kit.proofs.LikeCode.{sees_place, Alike, Body, like_stays}
use Rattle.meaning_new.specs.declared.val.Val.{Val}
use Rattle.meaning_new.specs.declared.val.Val.TheVariants.{V128}
use Rattle.meaning_new.specs.Store.{State, Exception, int}
use Rattle.meaning_new.specs.Exceptions.{throw, takes, caught_ref, caught_by, caught, handler}
use Rattle.meaning_new.specs.Numeric.{first, pure}
use Rattle.meaning_new.specs.Memories
use Rattle.meaning_new.specs.Tables
use Rattle.meaning_new.specs.Forms.{holds as is_true, drop_operand, select, param_count, result_count, type_of_block, type_of_tag, layer, pick}
use Rattle.meaning_new.specs.Language.{language}
use Rattle.stage_kit.specs.Adding.{Adding, CodeNamed, test_of, own_named, block_named, more, added, Moves}
use Rattle.stage_kit.specs.Kept.{with_code, keep}
use Rattle.stage_kit.proofs.Moving
use Rattle.stage_kit.proofs.Moving.{jump_like, is_moved, holds, leaf_like}

-- what a handler makes of an exception
abbrev moved_caught : List Val → Caught Val State → Caught Val State
moved_caught extra k = record k { state = more extra k.state }

handles : (extra : List Val) (clauses : List Catch) (e : ℕ) (s : State) → handler clauses e (more extra s) ≡ option_map (moved_caught extra) (handler clauses e s)
handles extra clauses e s = one (slice_get s.store.exceptions e)
  where
    referred : (room : Bool) (label : ℕ) (operands : List Val) → caught_ref room e label operands (more extra s) ≡ option_map (moved_caught extra) (caught_ref room e label operands s)
    referred true label operands = refl
    referred false label operands = refl

    by : (clause : Option Catch) (x : Exception) → caught_by clause e x (more extra s) ≡ option_map (moved_caught extra) (caught_by clause e x s)
    by None x = refl
    by (Some (catches.Tag tag label)) x = refl
    by (Some (catches.TagRef tag label)) x = referred (s.room (captured s.trace)) label x.payload
    by (Some (catches.All label)) x = refl
    by (Some (catches.AllRef label)) x = referred (s.room (captured s.trace)) label []

    one : (i : Option Exception) → caught i clauses e (more extra s) ≡ option_map (moved_caught extra) (caught i clauses e s)
    one None = refl
    one (Some x) = by (find (takes x.tag) clauses) x

module _ {m o : Module} (A : Adding m o) where
  caught_like : (extra : List Val) (i : Option (Caught Val State)) → A.Extra extra → HoldsCaught A.keeps i → CaughtLike (added A) i (option_map (moved_caught extra) i)
  caught_like extra None e h = tt
  caught_like extra (Some k) e h =
      (jump_like A k.jump h.0, record { operands = refl; state = record { extra = extra; is_extra = e; is_more = refl }; sound = h.1; safe = h.2 })

  handler_like : (clauses : List Catch) → HandlerKeeps A.keeps (handler clauses) → HandlerLike (added A) (handler clauses) (handler clauses)
  handler_like clauses keeps = record {
    catches = λ e s s' f safe.
        subst (CaughtLike (added A) (handler clauses e s)) (sym (ap (handler clauses e) f.is_more ∙ handles f.extra clauses e s))
        (caught_like f.extra (handler clauses e s) f.is_extra (keeps.keeps e s safe));
  }

  picked_like : (i : Option ℕ) → HoldsPicked A.keeps i → PickedLike (added A) i i
  picked_like None h = refl
  picked_like (Some f) h = (h, refl)

  pick_like : (t table : ℕ) → A.names.type t ≡ true → PickKeeps A.keeps (pick m t table) → PickLike (added A) (pick m t table) (pick o t table)
  pick_like t table named keeps = record {
    picks = λ q q' e.
        subst (PickedLike (added A) (pick m t table q)) (sym (ap (pick o t table) (is_moved A q q' e) ∙ A.picks t table e.state.extra q named (holds A q q' e)))
        (picked_like (pick m t table q) (keeps.keeps q (holds A q q' e)));
  }

  -- an exception with as many operands as its tag takes
  moves_thrown : (x : ℕ) → Moves A (throw x (param_count (type_of_tag m x))) (throw x (param_count (type_of_tag o x)))
  moves_thrown x = subst (λ t. Moves A (throw x (param_count (type_of_tag m x))) (throw x (param_count t))) (sym (A.tag_types x)) (Moving.moves_throw A x (param_count (type_of_tag m x)))

  module _ {X : Type 0} (step : Step X Instr-F Instr) (seen : A.Place → X) (Fits : Instr → Type 0) where
    abbrev L : Language Instr Instr-F Val State
    L = language m

    abbrev L' : Language Instr Instr-F Val State
    L' = language o

    -- the bodies of an instruction, rewritten at a place
    abbrev inside : (P : Instr → Type 0) → A.Place → List ((i : Instr) × P i) → List Instr
    inside P inner code = body_at (seen inner) (map (λ y. rewrite L step y.0) code)

    module _ (P : Instr → Type 0) (inner outer : A.Place) (around : A.Around inner outer) where
      abbrev Y : Type 0
      Y = (i : Instr) × P i

      body : (code : List Y) → AllByRecursion Fits (map (λ y. y.0) code) → BodyLike (added A) L step seen Fits P outer code (inside P inner code)
      body code fits = record { inner = inner; around = around; fits = fits; rewritten = refl }

      widths : (t : BlockType) → block_named A.names t ≡ true → (param_count (type_of_block o t) ≡ param_count (type_of_block m t)) × (result_count (type_of_block o t) ≡ result_count (type_of_block m t))
      widths t named = (ap param_count (A.block_types t named), ap result_count (A.block_types t named))

      -- each form stays one of its sort
      form_like : (l : Instr-F Y) → own_named A.names Y l ≡ true → FormKeeps A.keeps (layer m Y l) → FormFits (λ f. A.names.func f ≡ true) Fits (layer m Y l) → FormLike (added A) L step seen Fits P outer (layer m Y l) (layer o Instr (with_code (inside P inner) l))
      form_like Instr-F.Nop n k f = leaf_like A _ _ (Moving.moves_nothing A) k
      form_like Instr-F.Unreachable n k f = leaf_like A _ _ (Moving.moves_jump A jumps.Trap) k
      form_like Instr-F.Drop n k f = leaf_like A _ _ (Moving.moves_operands A drop_operand) k
      form_like Instr-F.Select n k f = leaf_like A _ _ (Moving.moves_operands A select) k
      form_like (Instr-F.SelectTyped ts) n k f = leaf_like A _ _ (Moving.moves_operands A select) k
      form_like (Instr-F.Block t code) n k f = let w = widths t n in (w.0, w.1, body code f)
      form_like (Instr-F.Loop t code) n k f = let w = widths t n in (w.0, w.1, body code f)
      form_like (Instr-F.If t first second) n k f =
          let w = widths t n in
          (w.0, w.1, λ operands. refl, record { inner = inner; around = around; first_fits = f.0; second_fits = f.1; first_rewritten = refl; second_rewritten = refl })
      form_like (Instr-F.Br l) n k f = leaf_like A _ _ (Moving.moves_jump A (jumps.Branch l)) k
      form_like (Instr-F.BrIf l) n k f = leaf_like A _ _ (Moving.moves_branch_if A is_true l) k
      form_like (Instr-F.BrTable labels last) n k f = leaf_like A _ _ (Moving.moves_branch_table A first labels last) k
      form_like Instr-F.Return n k f = leaf_like A _ _ (Moving.moves_jump A jumps.Return) k
      form_like (Instr-F.Call x) n k f = (ap param_count (A.func_types x f), A.name x f, refl)
      form_like (Instr-F.CallIndirect t table) n k f = (ap param_count (A.block_types (Index t) n), pick_like t table n k)
      form_like (Instr-F.ReturnCall x) n k f = leaf_like A _ _ (Moving.moves_jump A (jumps.TailCall x)) k
      form_like (Instr-F.ReturnCallIndirect t table) n k f = leaf_like A _ _ (Moving.moves_tail A t table n) k
      form_like (Instr-F.Throw x) n k f = leaf_like A _ _ (moves_thrown x) k
      form_like Instr-F.ThrowRef n k f = leaf_like A _ _ (Moving.moves_throw_ref A) k
      form_like (Instr-F.TryTable t clauses code) n k f = let w = widths t n in (w.0, w.1, handler_like clauses k, body code f)
      form_like (Instr-F.LocalGet x) n k f = leaf_like A _ _ (Moving.moves_get A x) k
      form_like (Instr-F.LocalSet x) n k f = leaf_like A _ _ (Moving.moves_set A x) k
      form_like (Instr-F.LocalTee x) n k f = leaf_like A _ _ (Moving.moves_tee A x) k
      form_like (Instr-F.GlobalGet x) n k f = leaf_like A _ _ (Moving.moves_global_get A x n) k
      form_like (Instr-F.GlobalSet x) n k f = leaf_like A _ _ (Moving.moves_global_set A x n) k
      form_like (Instr-F.TableGet x) n k f = leaf_like A _ _ (Moving.moves_store A (Tables.table_get x) (Moving.table_get x)) k
      form_like (Instr-F.TableSet x) n k f = leaf_like A _ _ (Moving.moves_store A (Tables.table_set x) (Moving.table_set x)) k
      form_like (Instr-F.TableSize x) n k f = leaf_like A _ _ (Moving.moves_store A (Tables.table_size x) (Moving.table_size x)) k
      form_like (Instr-F.TableGrow x) n k f = leaf_like A _ _ (Moving.moves_table_grow A x) k
      form_like (Instr-F.TableFill x) n k f = leaf_like A _ _ (Moving.moves_store A (Tables.table_fill x) (Moving.table_fill x)) k
      form_like (Instr-F.TableCopy to from) n k f = leaf_like A _ _ (Moving.moves_store A (Tables.table_copy to from) (Moving.table_copy to from)) k
      form_like (Instr-F.TableInit segment x) n k f = leaf_like A _ _ (Moving.moves_store A (Tables.table_init segment x) (Moving.table_init segment x)) k
      form_like (Instr-F.ElemDrop segment) n k f = leaf_like A _ _ (Moving.moves_store A (Tables.elem_drop segment) (Moving.elem_drop segment)) k
      form_like (Instr-F.Load op arg) n k f = leaf_like A _ _ (Moving.moves_store A (Memories.load_integer op arg) (λ extra operands s. Moving.load (load_bytes op) (λ bytes. int (load_width op) (loaded op bytes)) arg extra operands s)) k
      form_like (Instr-F.Store op arg) n k f = leaf_like A _ _ (Moving.moves_store A (Memories.store_integer op arg) (λ extra operands s. Moving.store (stored op) arg extra operands s)) k
      form_like (Instr-F.LoadVector op arg) n k f = leaf_like A _ _ (Moving.moves_store A (Memories.load_vector op arg) (λ extra operands s. Moving.load (lane_load_bytes op) (λ bytes. V128 (loaded_vector op bytes)) arg extra operands s)) k
      form_like (Instr-F.StoreVector arg) n k f = leaf_like A _ _ (Moving.moves_store A (Memories.store_vector arg) (λ extra operands s. Moving.store vector_bytes arg extra operands s)) k
      form_like (Instr-F.LoadLane shape arg lane) n k f = leaf_like A _ _ (Moving.moves_store A (Memories.load_lane shape arg lane) (Moving.load_lane shape arg lane)) k
      form_like (Instr-F.StoreLane shape arg lane) n k f = leaf_like A _ _ (Moving.moves_store A (Memories.store_lane shape arg lane) (λ extra operands s. Moving.store (stored_lane shape lane) arg extra operands s)) k
      form_like (Instr-F.MemorySize x) n k f = leaf_like A _ _ (Moving.moves_store A (Memories.memory_size x) (Moving.memory_size x)) k
      form_like (Instr-F.MemoryGrow x) n k f = leaf_like A _ _ (Moving.moves_memory_grow A x) k
      form_like (Instr-F.MemoryFill x) n k f = leaf_like A _ _ (Moving.moves_store A (Memories.memory_fill x) (Moving.memory_fill x)) k
      form_like (Instr-F.MemoryCopy to from) n k f = leaf_like A _ _ (Moving.moves_store A (Memories.memory_copy to from) (Moving.memory_copy to from)) k
      form_like (Instr-F.MemoryInit segment x) n k f = leaf_like A _ _ (Moving.moves_store A (Memories.memory_init segment x) (Moving.memory_init segment x)) k
      form_like (Instr-F.DataDrop segment) n k f = leaf_like A _ _ (Moving.moves_store A (Memories.data_drop segment) (Moving.data_drop segment)) k
      form_like (Instr-F.Pure op) n k f = leaf_like A _ _ (Moving.moves_operands A (pure op)) k
      form_like (Instr-F.Float code immediates) n k f = leaf_like A _ _ (Moving.moves_jump A jumps.Trap) k

    abbrev pub W : Match Val State Val State
    W = matching (added A)

    -- bodies that are rewritten before, and as they are
    kept_over : {Z : Type 0} (inner : X) (f : Z → X → List Instr) (l : Instr-F Z) → keep inner (map-Instr Z (X → List Instr) f l) ≡ roll-Instr (with_code (λ code. body_at inner (map f code)) l) ∷ []
    kept_over inner f Instr-F.Nop = refl
    kept_over inner f l = refl

    -- what the step of a stage makes of an instruction that it keeps
    pub stays : (N : ℕ) → AllFuncsSim W N (func L) (func L') → (l : Instr-F (Body (added A) L L' step seen Fits N)) (x : Context W) (k h : Unit {0}) → IsShared x.labels → (inner : A.Place) → A.Around inner x.place → own_named A.names _ l ≡ true → FormFits (λ f. A.names.func f ≡ true) Fits (layer m _ l) →
        Sims W N x k h (layer_sem W L L' step (sees_place (added A) L L' step seen Fits) (Alike (added A) L L' step seen Fits) N l) (exec_code L' (keep (seen inner) (map-Instr _ (X → List Instr) (λ y. rewrite L step y.0) l)))
    stays N fs l x k h shared inner around named fits =
        subst (λ code. Sims W N x k h (layer_sem W L L' step (sees_place (added A) L L' step seen Fits) (Alike (added A) L L' step seen Fits) N l) (exec_code L' code))
        (sym (kept_over (seen inner) (λ y. rewrite L step y.0) l))
        (like_stays (added A) L L' step seen Fits N fs l (with_code (inside _ inner) l) x k h shared (record { readies = λ q q' e is. refl; asks = λ q e. cc })
        (form_like _ inner x.place around l named (A.keeps_forms _ l named) fits))

  -- the same for code that names what it may
  module _ {X : Type 0} (step : Step X Instr-F Instr) (seen : A.Place → X) where
    abbrev pub Known : Instr → Type 0
    Known = CodeNamed m A.names

    pub stays_named : (N : ℕ) → AllFuncsSim (W step seen Known) N (func (language m)) (func (language o)) → (l : Instr-F (Body (added A) (language m) (language o) step seen Known N)) (x : Context (W step seen Known)) (k h : Unit {0}) → Alike (added A) (language m) (language o) step seen Known (roll-Instr (map-Instr _ Instr (λ y. y.0) l)) x k h → (inner : A.Place) → A.Around inner x.place →
        Sims (W step seen Known) N x k h (layer_sem (W step seen Known) (language m) (language o) step (sees_place (added A) (language m) (language o) step seen Known) (Alike (added A) (language m) (language o) step seen Known) N l) (exec_code (language o) (keep (seen inner) (map-Instr _ (X → List Instr) (λ y. rewrite (language m) step y.0) l)))
    stays_named N fs l x k h claim inner around =
        let fits = fits_inside (language m) A.names.func (test_of A.names) _ l claim.1 in
        stays step seen Known N fs l x k h claim.0 inner around fits.0 fits.1
