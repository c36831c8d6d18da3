-- The law of the stage that leaves no constant expression that computes, for every typed module that its plan takes.
use Rattle.std.proofs.Common.{◌≡◌, ℕ, Bool, true, false, not, ◌||◌, ◌&&◌, List, [], ◌∷◌, Option, Some, None, refl, sym, ap, ◌∙◌, subst}
use Rattle.std.specs.Prelude.{codes, nat_eq, nat_le, slice_get, is_none, length, zero, suc, ◌+◌, ◌-◌}
use Rattle.std.specs.List.{AllByRecursion, list_all, list_any}
use Rattle.wasm_ast.specs.Features.{shows}
use Rattle.wasm_ast.specs.Fold.{known_at, known_globals}
use Rattle.wasm_ast.specs.Has.{has_of, imports_some, is_one_simple, has_simple_offset}
use Rattle.wasm_ast.specs.Outside.{exports_memory}
use Rattle.wasm_ast.specs.Places.{declares, holds, anywhere, outside_elements}
use Rattle.wasm_ast.specs.Region.{has_computed_offset, moves_tables}
use Rattle.wasm_ast.specs.Spaces.{is_global, is_tag, imported, memory_count}
use Rattle.wasm_ast.specs.declared.features.kind.Feature.{Feature}
use Rattle.wasm_ast.specs.declared.features.kind.Feature.TheVariants as features
use Rattle.wasm_ast.specs.declared.folding.folded.Folded.{Folded}
use Rattle.wasm_ast.specs.declared.module.code.Instr.{Instr}
use Rattle.wasm_ast.specs.declared.module.parts.Export.{Export}
use Rattle.wasm_ast.specs.declared.module.parts.ExportDesc.{ExportDesc}
use Rattle.wasm_ast.specs.declared.module.parts.ExportDesc.TheVariants as exports
use Rattle.wasm_ast.specs.declared.module.parts.Global.{Global}
use Rattle.wasm_ast.specs.declared.module.parts.Module.{Module}
use Rattle.typed_trees.specs.declared.module.TypedFn.{TypedFn}
use Rattle.typed_trees.specs.Modules.{TypedParts}
use Rattle.typed_trees.specs.Typed.{module_of, IsTypedTree}
use Rattle.pass_law.specs.Law.{Law}
use Rattle.pass_law.specs.Needs.{Needs, NoMore, IsDirect, is_fixed_global, is_computed_export, exports_computed, needs_of}
use Rattle.pass_law.specs.Stages.{Stage, any_from, is_copied_data, needs_stage_region, least_sizes, has_load, exports_name}
use Rattle.pass_law.specs.ThenLawful.{and_left, and_right, both}
use Rattle.stage_kit.proofs.TypedModules.{global_count}
use Rattle.pass_plain.specs.ConstantPlan.{gone_before, takes_constants, is_constants, leaves_no_constants, constant_plan, ConstantLowered}
use Rattle.pass_plain.specs.Constants.{HasConstants, NamesThere}
use Rattle.pass_plain.specs.Folding.{folded_global, folded_globals, setting_code, started, without_constants, tree_without_constants}
use Rattle.pass_plain.proofs.CallsKept.{used_same}
use Rattle.pass_plain.proofs.ConstantFits.{constants_fit}
use Rattle.pass_plain.proofs.ConstantHost.{host_stays}
use Rattle.pass_plain.proofs.ConstantLaw.{constant_law}
use Rattle.pass_plain.proofs.DirectGlobals.{known_counted, sets_nothing}
use Rattle.pass_plain.proofs.FewerFeatures.{fewer_features}
use Rattle.pass_plain.proofs.FewerOutside.{host_none, still_inside}
use Rattle.pass_plain.proofs.KnownAgain.{AreKnown, globals_anchored, known_by, still_known}
use Rattle.pass_plain.proofs.NoConstants.{no_constants}
use Rattle.pass_plain.proofs.NothingNew.{none_of, both_none}
use Rattle.pass_plain.proofs.RegionKept.{and_false, no_tables, no_region, same_load}
use Rattle.pass_plain.proofs.SettingNodes.{tree_stands}
use Rattle.pass_plain.proofs.Stages.{not_true}
use Rattle.pass_plain.proofs.TypedConstants.{AreInRange, Undeclared, undeclared, has_constants, names_there}

-- What is gone of a module that the plan takes.
pub record Gone (m : Module) : Type 0 where
  pub refs : has_of m features.Refs ≡ false
  pub tables : has_of m features.Tables ≡ false
  pub simd : has_of m features.Simd ≡ false
  pub late_lanes : has_of m features.LateLanes ≡ false
  pub exceptions : has_of m features.Exceptions ≡ false
  pub multi : has_of m features.Multi ≡ false
  pub region : needs_stage_region m ≡ false
  pub computed : exports_computed m ≡ false

all_gone : (h : Feature → Bool) (fs : List Feature) → list_all (λ f. not (h f)) fs ≡ true → AllByRecursion (λ f. h f ≡ false) fs
all_gone h [] e = tt
all_gone h (f ∷ fs) e = (not_true (h f) (and_left (not (h f)) (list_all (λ g. not (h g)) fs) e), all_gone h fs (and_right (not (h f)) (list_all (λ g. not (h g)) fs) e))

gone_of : (m : Module) → takes_constants (needs_of m) ≡ true → Gone m
gone_of m e =
    let all = list_all (λ f. not (has_of m f)) gone_before in
    let region = not (needs_stage_region m) in
    let computed = not (exports_computed m) in
    let two = and_left (all && region) computed e in
    let each = all_gone (has_of m) gone_before (and_left all region two) in
    record {
      refs = each.1.1.0;
      tables = each.1.1.1.0;
      simd = each.1.1.1.1.0;
      late_lanes = each.1.1.1.1.1.0;
      exceptions = each.1.1.1.1.1.1.0;
      multi = each.1.1.1.1.1.1.1.1.1.1.0;
      region = not_true (needs_stage_region m) (and_right all region two);
      computed = not_true (exports_computed m) (and_right (all && region) computed e);
    }

-- the global types of a module without some features
no_refs : (m : Module) → has_of m features.Refs ≡ false → Undeclared features.Refs m
no_refs m e = undeclared features.Refs m (none_of (declares features.Refs m) (outside_elements (shows features.Refs) m) e).0

no_vectors : (m : Module) → has_of m features.Simd ≡ false → Undeclared features.Simd m
no_vectors m e =
    let types = none_of (declares features.Simd m || holds features.Simd m) (anywhere (shows features.Simd) m) e in
    undeclared features.Simd m (none_of (declares features.Simd m) (holds features.Simd m) types.0).0

no_exceptions : (m : Module) → has_of m features.Exceptions ≡ false → Undeclared features.Exceptions m
no_exceptions m e =
    let tags = not (nat_eq (length m.tags) 0) || imports_some is_tag m in
    let places = none_of (tags || declares features.Exceptions m || holds features.Exceptions m) (anywhere (shows features.Exceptions) m) e in
    let types = none_of (tags || declares features.Exceptions m) (holds features.Exceptions m) places.0 in
    undeclared features.Exceptions m (none_of tags (declares features.Exceptions m) types.0).1

-- exports of immutable globals that do not fold
fixed_less : (all : List (Option Folded)) (x : ℕ) (gs : List Global) (i : ℕ) → is_fixed_global (slice_get gs i) ≡ false → is_fixed_global (slice_get (folded_globals all x gs) i) ≡ false
fixed_less all x [] i e = refl
fixed_less all x (g ∷ gs) zero e = one (known_at all x)
  where
    one : (k : Option Folded) → not (folded_global g k).mutable ≡ false
    one (Some v) = e
    one None = refl
fixed_less all x (g ∷ gs) (suc i) e = fixed_less all (x + 1) gs i e

computed_less : (a a' : Bool) (k k' : Option Folded) → (a ≡ false → a' ≡ false) → ((v : Folded) → k ≡ Some v → k' ≡ Some v) → (a && is_none k) ≡ false → (a' && is_none k') ≡ false
computed_less a a' (Some v) k' f g e = and_false a' (is_none k') (ap is_none (g v refl))
computed_less true a' None k' f g e = let no : ⊥ = cc in absurd no
computed_less false a' None k' f g e = ap (λ b. b && is_none k') (f refl)

module _ (m : Module) where
  export_less : (code : List Instr) (d : ExportDesc) → is_computed_export m d ≡ false → is_computed_export (started m code) d ≡ false
  export_less [] (exports.Global x) e =
      let i = x - imported is_global m in
      computed_less (is_fixed_global (slice_get m.globals i)) (is_fixed_global (slice_get (folded_globals (known_globals m) (imported is_global m) m.globals) i)) (known_at (known_globals m) x) (known_at (known_globals (started m [])) x)
      (fixed_less (known_globals m) (imported is_global m) m.globals i) (known_by m (known_counted m) [] x) e
  export_less (j ∷ code) (exports.Global x) e =
      let i = x - imported is_global m in
      computed_less (is_fixed_global (slice_get m.globals i)) (is_fixed_global (slice_get (folded_globals (known_globals m) (imported is_global m) m.globals) i)) (known_at (known_globals m) x) (known_at (known_globals (started m (j ∷ code))) x)
      (fixed_less (known_globals m) (imported is_global m) m.globals i) (known_by m (known_counted m) (j ∷ code) x) e
  export_less code (exports.Func x) e = refl
  export_less code (exports.Table x) e = refl
  export_less code (exports.Memory x) e = refl
  export_less code (exports.Tag x) e = refl

  exports_less : (code : List Instr) (es : List Export) → list_any (λ e. is_computed_export m e.desc) es ≡ false → list_any (λ e. is_computed_export (started m code) e.desc) es ≡ false
  exports_less code [] e = refl
  exports_less code (x ∷ es) e =
      let all = none_of (is_computed_export m x.desc) (list_any (λ i. is_computed_export m i.desc) es) e in
      both_none (is_computed_export (started m code) x.desc) (list_any (λ i. is_computed_export (started m code) i.desc) es) (export_less code x.desc all.0) (exports_less code es all.1)

  computed_by : (code : List Instr) → exports_computed m ≡ false → exports_computed (started m code) ≡ false
  computed_by [] e = exports_less [] m.exports e
  computed_by (i ∷ code) e = exports_less (i ∷ code) m.exports e

  sizes_by : (code : List Instr) → least_sizes (started m code) ≡ least_sizes m
  sizes_by [] = refl
  sizes_by (i ∷ code) = refl

still_had : (a b : Bool) → (b ≡ false → a ≡ false) → a ≡ true → b ≡ true
still_had a true f e = refl
still_had a false f e = let no : false ≡ true = sym (f refl) ∙ e in absurd cc

never : (a b : Bool) → a ≡ false → a ≡ true → b ≡ true
never a b e f = let no : false ≡ true = sym e ∙ f in absurd cc

module _ (m : Module) (names : ℕ) (typed : TypedParts m) (there : NamesThere m names) (constants : HasConstants m) (gone : Gone m) (stage : Stage m) where
  abbrev o : Module
  o = without_constants m

  tables_gone : has_of o features.Tables ≡ false
  tables_gone = no_tables m (still_known m (known_counted m)) (globals_anchored m) (used_same m names there typed) gone.tables

  region_gone : needs_stage_region o ≡ false
  region_gone = no_region m (still_known m (known_counted m)) (globals_anchored m) (used_same m names there typed) gone.region

  loads : (sizes : List ℕ) → has_load o sizes ≡ has_load m sizes
  loads = same_load m (still_known m (known_counted m)) (globals_anchored m) (used_same m names there typed) gone.region

  -- no feature is new
  fewer : (f : Feature) → has_of m f ≡ false → has_of o f ≡ false
  fewer features.Constants e = no_constants m constants
  fewer features.Tables e = tables_gone
  fewer features.HostExnref e = host_none o (fewer_features m features.Exceptions refl gone.exceptions)
  fewer f e = fewer_features m f refl e

  left_of : (f : Feature) → has_of o f ≡ true → (has_of m f && not (is_constants f)) ≡ true
  left_of features.Constants h = never (has_of o features.Constants) (has_of m features.Constants && false) (no_constants m constants) h
  left_of f h = both (has_of m f) (not (is_constants f)) (still_had (has_of o f) (has_of m f) (fewer f) h) refl

  left : NoMore (needs_of o) (leaves_no_constants (needs_of m))
  left = record {
    has = left_of;
    region = never (needs_stage_region o) (needs_stage_region m) region_gone;
    computed_exports = never (exports_computed o) (exports_computed m) (computed_by m (setting_code m) gone.computed);
  }

  stage_stays : Stage o
  stage_stays = record {
    profile = still_inside m gone.exceptions stage.profile;
    memories = and_false (exports_memory o) (needs_stage_region o) region_gone;
    pages = loads (least_sizes o) ∙ ap (has_load m) (sizes_by m (setting_code m)) ∙ stage.pages;
    exception_names = and_false (exports_name (codes "lower.") o) (has_of o features.Exceptions) (fewer features.Exceptions gone.exceptions);
    result_names = and_false (exports_name (codes "lower.r.") o) (has_of o features.Multi || has_of o features.Simd || has_of o features.LateLanes)
        (both_none (has_of o features.Multi || has_of o features.Simd) (has_of o features.LateLanes)
        (both_none (has_of o features.Multi) (has_of o features.Simd) (fewer features.Multi gone.multi) (fewer features.Simd gone.simd)) (fewer features.LateLanes gone.late_lanes));
  }

  direct : IsDirect (needs_of m) → IsDirect (needs_of o)
  direct d = record {
    constants = no_constants m constants;
    multi = fewer features.Multi d.multi;
    simd = fewer features.Simd d.simd;
    late_lanes = fewer features.LateLanes d.late_lanes;
    tail = fewer features.Tail d.tail;
    refs = fewer features.Refs d.refs;
    tables = tables_gone;
    exceptions = fewer features.Exceptions d.exceptions;
    bulk = fewer features.Bulk d.bulk;
    wide_memory = fewer features.WideMemory d.wide_memory;
    memories = fewer features.Memories d.memories;
    region = region_gone;
  }

  simple_globals : has_of m features.Constants ≡ false → list_any (λ g. not (is_one_simple (imported is_global m) g.init)) m.globals ≡ false
  simple_globals e =
      let count = imported is_global m in
      let a = list_any (λ g. not (is_one_simple count g.init)) m.globals in
      let b = list_any (λ d. not (has_simple_offset count d.mode)) m.elems in
      (none_of a b (none_of (a || b) (list_any (λ s. not (has_simple_offset count s.mode)) m.datas) e).0).0

  folds_directly : IsDirect (needs_of m) → setting_code m ≡ []
  folds_directly d =
      sets_nothing m (simple_globals d.constants) typed.globals (no_vectors m gone.simd).globals (no_refs m gone.refs).globals (no_exceptions m gone.exceptions).globals

  -- All that the law asks of the output beside its runs.
  pub constants_lowered : ConstantLowered m o
  constants_lowered = record {
    left = left;
    host = host_stays m names there typed gone.computed gone.exceptions;
    stage = stage_stays;
    load = λ sizes h. loads sizes ∙ h;
    fits = constants_fit m;
    direct = direct;
    folds_directly = folds_directly;
  }

module _ (t : Module × List TypedFn) (typed : IsTypedTree t) (ranges : AreInRange (module_of t)) (takes : constant_plan.takes (needs_of (module_of t)) ≡ true) where
  abbrev input : Module
  input = module_of t

  gone : Gone input
  gone = gone_of input takes

  -- Its constant expressions become single instructions and code.
  pub tree_has_constants : HasConstants input
  tree_has_constants =
      let region = nat_le 2 (memory_count input) || any_from (is_copied_data input) 0 input.datas || moves_tables input in
      has_constants input typed.parts ranges (no_refs input gone.refs) (no_exceptions input gone.exceptions)
      (none_of (anywhere (shows features.Tables) input) (moves_tables input) gone.tables).1 (none_of region (has_computed_offset input) gone.region).1

  -- The law, of the tree.
  pub lawful_constants : Stage input → (captures : ℕ) → Law constant_plan input (module_of (tree_without_constants t)) captures
  lawful_constants stage captures =
      let names = names_there t typed in
      subst (λ o. Law constant_plan input o captures) (sym (tree_stands t tree_has_constants.settable))
      (constant_law input (global_count input) tree_has_constants names captures (constants_lowered input (global_count input) typed.parts names tree_has_constants gone stage))
