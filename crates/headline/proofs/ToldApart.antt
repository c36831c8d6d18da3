-- What one call shows of small modules, within one turn.
use Rattle.std.proofs.Common.{◌≡◌, ℕ, true, false, List, [], ◌∷◌, map, Some, refl, ap, ◌∙◌, lit<}
use Rattle.core1_ast.specs.declared.module.code.Instr1.{Instr1, out-Instr1}
use Rattle.core1_ast.specs.declared.module.code.Instr1.TheFolds.{map-Instr1, fold_out-Instr1}
use Rattle.core1_ast.specs.declared.module.code.Instr1.TheVariants.{LocalGet, Pure}
use Rattle.core1_ast.specs.declared.module.op.Op1.TheVariants.{I32Const, Binary}
use Rattle.core1_ast.specs.declared.module.parts.Module1.{Module1}
use Rattle.evaluation_kit.proofs.Functions.{func-entered}
use Rattle.evaluation_kit.specs.Configurations.{World, Conf, Res, Sem}
use Rattle.evaluation_kit.specs.Control.{Function, Own, arrive, enter}
use Rattle.evaluation_kit.specs.Languages.{func, exec, exec_code, exec_layer}
use Rattle.evaluation_kit.specs.Tasks.{Change, shown, tasks}
use Rattle.host_kit.specs.Fits.{ItemFits, ScriptFits}
use Rattle.host_kit.specs.Trace.{Mark}
use Rattle.host_kit.specs.declared.event.Event.TheVariants as events
use Rattle.host_kit.specs.declared.script.Item.TheVariants.{Call}
use Rattle.host_kit.specs.declared.value.Value.TheVariants as values
use Rattle.meaning_core1.specs.Instances.{new_state1}
use Rattle.meaning_core1.specs.Language.{language1}
use Rattle.meaning_core1.specs.Runs.{trace1, call_status}
use Rattle.meaning_core1.specs.Store.{State1, show}
use Rattle.meaning_core1.specs.declared.val1.Val1.{Val1}
use Rattle.meaning_core1.specs.declared.val1.Val1.TheVariants as vals1
use Rattle.meaning_new.specs.Forms.{callee}
use Rattle.meaning_new.specs.Instances.{new_state}
use Rattle.meaning_new.specs.Language.{language}
use Rattle.meaning_new.specs.Runs.{trace, answered}
use Rattle.meaning_new.specs.Store.{State, tell}
use Rattle.meaning_new.specs.declared.val.Val.{Val}
use Rattle.meaning_new.specs.declared.val.Val.TheVariants as vals
use Rattle.num_core.specs.declared.operators.Bin.TheVariants.{Shl, ShrS}
use Rattle.num_core.specs.declared.operators.Conv.TheVariants.{S8of32}
use Rattle.num_core.specs.declared.operators.Width.TheVariants.{W32}
use Rattle.outcome_kit.specs.Code.{Go, go_on, run, stands}
use Rattle.outcome_kit.specs.Outcome.{Out, Done, after, bind, turn, place_of}
use Rattle.wasm_ast.proofs.Bodies.{some-out}
use Rattle.wasm_ast.specs.Features.{shows, type_shows}
use Rattle.wasm_ast.specs.Occurrence.{some}
use Rattle.wasm_ast.specs.declared.module.code.Instr.{Instr, out-Instr}
use Rattle.wasm_ast.specs.declared.module.code.Instr.TheFolds.{map-Instr, fold_out-Instr}
use Rattle.wasm_ast.specs.declared.module.parts.Module.{Module}
use Rattle.wasm_ast.specs.declared.module.code.Instr.TheVariants as source
use Rattle.wasm_ast.specs.declared.module.op.Op.TheVariants.{Convert}
use Rattle.wasm_ast.specs.declared.features.kind.Feature.{Feature}
use Rattle.wasm_ast.specs.declared.features.kind.Feature.TheVariants as features
use Rattle.headline.specs.Headline.{StaysDirect}
use Rattle.headline.specs.Distinct.{name_f, extending, returning, shifting, behind_an_import, one_call, returned, unanswered}
use Rattle.headline.specs.Mapping.{map_script}

-- ---- the script fits

fits : ItemFits extending (Call name_f (values.I32 128 ∷ []))
fits = record { func = 0; type = _; offered = refl; typed = refl; params = (lit< tt, tt) }

pub call_fits : ScriptFits extending one_call
call_fits = record { globals = tt; replies = tt; items = (fits, tt) }

-- ---- code by the layers of its instructions, in 3.0

abbrev by_layer : Module → Instr → Sem Val State
by_layer m i = exec_layer (language m) (func (language m)) (map-Instr Instr (Sem Val State) (exec (language m)) (out-Instr i))

layers : (m : Module) (code : List Instr) → map (exec (language m)) code ≡ map (by_layer m) code
layers m [] = refl
layers m (i ∷ code) =
    ap (λ a. a ∷ map (exec (language m)) code) (fold_out-Instr (Sem Val State) (exec_layer (language m) (func (language m))) i)
    ∙ ap (λ more. by_layer m i ∷ more) (layers m code)

entered : (m : Module) (x n : ℕ) (c : Conf Val State) (f : Function Instr Val) → callee m x ≡ Some (Own f) → func (language m) x 0 n c ≡ turn n c.world (λ k. enter (run (map (by_layer m) f.body)) (func (language m)) f 0 k c)
entered m x n c f named =
    func-entered (language m) x 0 n c
    ∙ ap (λ o. arrive o (λ g d' k c'. turn k c'.world (λ j. enter (exec_code (language m) g.body) (func (language m)) g d' j c')) 0 n c) named
    ∙ ap (λ (b : List (Sem Val State)). turn n c.world (λ k. enter (run b) (func (language m)) f 0 k c)) (layers m f.body)

-- ---- and in 1.0

abbrev by_layer1 : Module1 → Instr1 → Sem Val1 State1
by_layer1 m i = exec_layer (language1 m) (func (language1 m)) (map-Instr1 Instr1 (Sem Val1 State1) (exec (language1 m)) (out-Instr1 i))

layers1 : (m : Module1) (code : List Instr1) → map (exec (language1 m)) code ≡ map (by_layer1 m) code
layers1 m [] = refl
layers1 m (i ∷ code) =
    ap (λ a. a ∷ map (exec (language1 m)) code) (fold_out-Instr1 (Sem Val1 State1) (exec_layer (language1 m) (func (language1 m))) i)
    ∙ ap (λ more. by_layer1 m i ∷ more) (layers1 m code)

-- ---- the runs

begun : World State
begun = record { state = tell events.Started (new_state (λ sizes. true) (λ k. true) false extending one_call); deepest = 0 }

shows_of : Out (World State) (Res Val State) → List Mark
shows_of o =
    (place_of stands (after 0 (after 0 (bind 1 (bind 1 o (λ r m. Done 0 (shown (answered extending 0) r))) (go_on (tasks (func (language extending)) (Change (λ s. Go (tell events.Done s)) ∷ []))))))).state.trace

pub extending_extends : trace extending one_call 1 ≡ returned 4294967168
unfolding trace shows_of begun out-Instr denote.Hole.Carrier.out
extending_extends =
    ap shows_of (entered extending 0 1 (record { operands = vals.I32 128 ∷ []; locals = []; world = begun }) (record { params = 1; results = 1; zeros = []; body = _ }) refl)

begun1 : Module1 → World State1
begun1 m = record { state = show events.Started (new_state1 m (map_script extending one_call)); deepest = 0 }

shows_of1 : Module1 → Out (World State1) (Res Val1 State1) → List Mark
shows_of1 m o =
    (place_of stands (after 0 (after 0 (bind 1 (bind 1 o (λ r k. Done 0 (shown (call_status m 0) r))) (go_on (tasks (func (language1 m)) (Change (λ s. Go (show events.Done s)) ∷ []))))))).state.trace

entered1 : (m : Module1) (f : Function Instr1 Val1) (c : Conf Val1 State1) → func (language1 m) 0 0 1 c ≡ turn 1 c.world (λ k. enter (run (map (exec (language1 m)) f.body)) (func (language1 m)) f 0 k c) → func (language1 m) 0 0 1 c ≡ turn 1 c.world (λ k. enter (run (map (by_layer1 m) f.body)) (func (language1 m)) f 0 k c)
entered1 m f c e = e ∙ ap (λ (b : List (Sem Val1 State1)). turn 1 c.world (λ k. enter (run b) (func (language1 m)) f 0 k c)) (layers1 m f.body)

called1 : Module1 → Conf Val1 State1
called1 m = record { operands = vals1.I32 128 ∷ []; locals = []; world = begun1 m }

shifting_code : List Instr1
shifting_code = LocalGet 0 ∷ (Pure (I32Const 24) ∷ (Pure (Binary W32 Shl) ∷ (Pure (I32Const 24) ∷ (Pure (Binary W32 ShrS) ∷ []))))

pub shifting_extends : trace1 shifting (map_script extending one_call) 1 ≡ returned 4294967168
unfolding trace1 shows_of1 begun1 called1 shifting_code out-Instr1 denote.Hole.Carrier.out
shifting_extends =
    ap (shows_of1 shifting) (entered1 shifting (record { params = 1; results = 1; zeros = []; body = shifting_code }) (called1 shifting) (func-entered (language1 shifting) 0 0 1 (called1 shifting)))

pub returning_returns : trace1 returning (map_script extending one_call) 1 ≡ returned 128
unfolding trace1 shows_of1 begun1 called1 out-Instr1 denote.Hole.Carrier.out
returning_returns =
    ap (shows_of1 returning) (entered1 returning (record { params = 1; results = 1; zeros = []; body = LocalGet 0 ∷ [] }) (called1 returning) (func-entered (language1 returning) 0 0 1 (called1 returning)))

pub import_unanswered : trace1 behind_an_import (map_script extending one_call) 1 ≡ unanswered
unfolding trace1 func
import_unanswered = refl

-- ---- the first module has no feature but sign extension

-- what both of its instructions lack occurs nowhere in it
first : Instr
first = source.LocalGet 0

second : Instr
second = source.Pure (Convert S8of32)

-- the tests of both instructions
neither : (f : Feature) → some (shows f) first ≡ false → some (shows f) second ≡ false → (some (shows f) first ≡ false) × (some (shows f) second ≡ false)
neither f one two = (one, two)

pub extending_is_direct : StaysDirect extending
unfolding first second type_shows out-Instr denote.Hole.Carrier.out
extending_is_direct =
    let multi = neither features.Multi (some-out (shows features.Multi) first) (some-out (shows features.Multi) second) in
    let simd = neither features.Simd (some-out (shows features.Simd) first) (some-out (shows features.Simd) second) in
    let late_lanes = neither features.LateLanes (some-out (shows features.LateLanes) first) (some-out (shows features.LateLanes) second) in
    let tail = neither features.Tail (some-out (shows features.Tail) first) (some-out (shows features.Tail) second) in
    let refs = neither features.Refs (some-out (shows features.Refs) first) (some-out (shows features.Refs) second) in
    let tables = neither features.Tables (some-out (shows features.Tables) first) (some-out (shows features.Tables) second) in
    let exceptions = neither features.Exceptions (some-out (shows features.Exceptions) first) (some-out (shows features.Exceptions) second) in
    let bulk = neither features.Bulk (some-out (shows features.Bulk) first) (some-out (shows features.Bulk) second) in
    record {
      constants = refl;
      multi = rw (multi.0, multi.1) refl;
      simd = rw (simd.0, simd.1) refl;
      late_lanes = rw (late_lanes.0, late_lanes.1) refl;
      tail = rw (tail.0, tail.1) refl;
      refs = rw (refs.0, refs.1) refl;
      tables = rw (tables.0, tables.1) refl;
      exceptions = rw (exceptions.0, exceptions.1) refl;
      bulk = rw (bulk.0, bulk.1) refl;
      wide_memory = refl;
      memories = refl;
      region = refl;
    }
