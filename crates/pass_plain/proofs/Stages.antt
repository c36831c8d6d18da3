-- A stage that keeps each body as a function, and all exports but tags: what its output keeps of its input.
use Rattle.std.proofs.Common.{◌≡◌, ℕ, ◌*◌, ◌+◌, ◌≤◌, Bool, true, false, not, ◌&&◌, ◌||◌, inl, List, [], ◌∷◌, map, filter_map, Option, refl, sym, ap, ◌∙◌, subst, arith}
use Rattle.std.specs.Prelude.{codes}
use Rattle.std.specs.List.{list_any, list_all, flat_map}
use Rattle.host_kit.specs.Fits.{ScriptFits}
use Rattle.host_kit.specs.Offered.{exported}
use Rattle.host_kit.specs.Pairwise.{Pairwise}
use Rattle.host_kit.specs.Trace.{Mark, Shows, Grown, Captured}
use Rattle.host_kit.specs.declared.event.Event.{Event}
use Rattle.host_kit.specs.declared.event.Event.TheVariants.{Full}
use Rattle.host_kit.specs.declared.script.Script.{Script}
use Rattle.wasm_ast.specs.declared.features.kind.Feature.{Feature}
use Rattle.wasm_ast.specs.declared.features.kind.Feature.TheVariants as features
use Rattle.wasm_ast.specs.declared.module.code.Instr.{Instr}
use Rattle.wasm_ast.specs.declared.module.parts.Export.{Export}
use Rattle.wasm_ast.specs.declared.module.parts.ExportDesc.{ExportDesc}
use Rattle.wasm_ast.specs.declared.module.parts.ExportDesc.TheVariants.{Tag}
use Rattle.wasm_ast.specs.declared.module.parts.Module.{Module}
use Rattle.wasm_ast.specs.Features.{type_shows}
use Rattle.wasm_ast.specs.Has.{has_of}
use Rattle.wasm_ast.specs.Kept.{called_in}
use Rattle.wasm_ast.specs.Occurrence.{some_in}
use Rattle.wasm_ast.specs.Outside.{outside_features, exports_memory}
use Rattle.wasm_ast.specs.Places.{anywhere}
use Rattle.pass_law.specs.Hosts.{host_types, catches_by_reference}
use Rattle.typed_trees.specs.declared.module.TypedFn.{TypedFn}
use Rattle.typed_trees.specs.Typed.{body_of}
use Rattle.meaning_new.specs.Host.{global_value}
use Rattle.meaning_new.specs.Runs.{trace, depth}
use Rattle.meaning_new.specs.Store.{Store}
use Rattle.pass_law.specs.Needs.{Needs, NoMore, IsDirect, is_computed_export, exports_computed, needs_of}
use Rattle.pass_law.specs.Stages.{Stage, exports_name, has_load, least_sizes, needs_stage_region}
use Rattle.pass_law.specs.ThenLawful.{and_left, and_right}
use Rattle.pass_law.specs.Views.{view, UnlessFull, Passes}
use Rattle.pass_law.proofs.Plain.{KeepsRuns}
use Rattle.rewriting_kit.specs.Rewrites.{Layer}
use Rattle.pass_plain.specs.Plans.{any_event, is_sign}
use Rattle.pass_plain.proofs.Evaluations.{changed}
use Rattle.pass_plain.proofs.Fitting.{script_fits}
use Rattle.pass_plain.proofs.Keeping.{Keeps, new_bodies, bodies_seen, bodies_called, locals_same, bodies_alike}
use Rattle.pass_plain.proofs.Needs.{SameSights, has_same, region_same, exports_memory_same, load_same, references_same}
use Rattle.pass_plain.proofs.Runs.{SameBody, SameOffer, SameParts, traces_alike, depths_alike}

-- What a host is offered by other exports: the same, tags aside, and under no new names.
pub record SameExports (m : Module) (exports : List Export) : Type 0 where
  pub offers : (name : List ℕ) → SameOffer (exported m name) (exported (record m { exports = exports }) name)
  pub values : (s : Store) → filter_map (λ e. global_value s e.desc) m.exports ≡ filter_map (λ e. global_value s e.desc) exports
  pub tested : (t : ExportDesc → Bool) → ((x : ℕ) → t (Tag x) ≡ false) → list_any (λ e. t e.desc) exports ≡ list_any (λ e. t e.desc) m.exports
  pub named : (front : List ℕ) → exports_name front (record m { exports = exports }) ≡ true → exports_name front m ≡ true

-- no exports but the module's own
pub all_exports : (m : Module) → SameExports m m.exports
all_exports m = record { offers = λ name. inl refl; values = λ s. refl; tested = λ t h. refl; named = λ front h. h }

-- any event passes a test that asks nothing
unless : (X : Type 0) (e : Event) → X → UnlessFull e X
unless X Full h = tt
unless X e h = h

pub all_pass : (marks : List Mark) → Passes (λ e. true) (λ e. e) (view marks)
all_pass [] = tt
all_pass (Shows e ∷ marks) = (refl, unless (Passes (λ x. true) (λ x. x) (view marks)) e (all_pass marks))
all_pass (Grown ok sizes ∷ marks) = all_pass marks
all_pass (Captured ∷ marks) = all_pass marks

-- a name that is not there
still_not : (a a' b : Bool) → (a' ≡ true → a ≡ true) → (a && b) ≡ false → (a' && b) ≡ false
still_not a false b h e = refl
still_not a true b h e = ap (λ x. x && b) (sym (h refl)) ∙ e

pub not_true : (b : Bool) → not b ≡ true → b ≡ false
not_true true h = absurd cc
not_true false h = refl

-- What the output of such a stage keeps of its input.
pub record Kept (m o : Module) : Type 0 where
  pub traces : (s : Script) (n : ℕ) → trace o s n ≡ trace m s n
  pub depths : (s : Script) (n : ℕ) → depth o s n ≡ depth m s n
  pub fits : (s : Script) → ScriptFits m s → ScriptFits o s
  pub has : (f : Feature) → is_sign f ≡ false → has_of o f ≡ has_of m f
  pub region : needs_stage_region o ≡ needs_stage_region m
  pub computed_exports : exports_computed o ≡ exports_computed m
  pub load : (sizes : List ℕ) → has_load o sizes ≡ has_load m sizes
  pub references : anywhere catches_by_reference o ≡ anywhere catches_by_reference m
  pub stage : Stage m → Stage o
  pub direct : IsDirect (needs_of m) → IsDirect (needs_of o)

as_deep : (a b : ℕ) → a ≡ b → a ≤ 1 * b + 0
as_deep a b e = omega (arith, e)

-- so it keeps runs as a stage does whose maps change nothing
pub keeping_runs : (leaves : Needs → Needs) (m o : Module) → Kept m o → NoMore (needs_of o) (leaves (needs_of m)) → host_types o ≡ host_types m → Stage m → KeepsRuns leaves any_event 1 0 m o
keeping_runs leaves m o k left host stage = record {
  left = left;
  host = host;
  stage = k.stage stage;
  load = λ sizes h. k.load sizes ∙ h;
  fits = k.fits;
  passes = λ s fit n. all_pass (trace o s n);
  traces = λ s fit n. k.traces s n;
  depths = λ s fit n. as_deep (depth o s n) (depth m s n) (k.depths s n);
  direct = k.direct;
}

module _ {E : Type 0} (entry : Instr → E) (layer : Layer E) (keeps : Keeps entry layer) (m : Module) (fns : List TypedFn) (bodies : m.codes ≡ map body_of fns) (exports : List Export) (count : Option ℕ) (same : SameExports m exports) where
  -- the output
  abbrev pub lowered : Module
  lowered = changed m (new_bodies entry layer fns) exports count

  sights : SameSights m (new_bodies entry layer fns) exports count
  sights = record {
    seen = λ p o. bodies_seen entry layer p (keeps.seen p o) fns ∙ ap (list_any (λ b. some_in p b.code)) (sym bodies);
    called = bodies_called entry layer keeps.named fns ∙ ap (flat_map (λ b. called_in b.code)) (sym bodies);
    locals = λ f. locals_same entry layer f fns ∙ ap (list_any (λ b. list_any (type_shows f) b.locals)) (sym bodies);
    exported = same.tested;
  }

  parts : SameParts m (new_bodies entry layer fns) exports count
  parts = record {
    bodies = subst (λ l. Pairwise (SameBody m (new_bodies entry layer fns) exports count) l (new_bodies entry layer fns)) (sym bodies)
        (bodies_alike entry layer m (new_bodies entry layer fns) exports count (keeps.runs m (new_bodies entry layer fns) exports count) fns);
    offers = same.offers;
    values = same.values;
  }

  traces_kept : (s : Script) (n : ℕ) → trace lowered s n ≡ trace m s n
  traces_kept s n = traces_alike m (new_bodies entry layer fns) exports count parts s n

  depths_kept : (s : Script) (n : ℕ) → depth lowered s n ≡ depth m s n
  depths_kept s n = depths_alike m (new_bodies entry layer fns) exports count parts s n

  fits_kept : (s : Script) → ScriptFits m s → ScriptFits lowered s
  fits_kept s h = script_fits m (new_bodies entry layer fns) exports count same.offers s h

  has_kept : (f : Feature) → is_sign f ≡ false → has_of lowered f ≡ has_of m f
  has_kept = has_same m (new_bodies entry layer fns) exports count sights

  region_kept : needs_stage_region lowered ≡ needs_stage_region m
  region_kept = region_same m (new_bodies entry layer fns) exports count sights

  load_kept : (sizes : List ℕ) → has_load lowered sizes ≡ has_load m sizes
  load_kept = load_same m (new_bodies entry layer fns) exports count sights

  profile_kept : (fs : List Feature) → list_all (λ f. not (is_sign f)) fs ≡ true → list_any (has_of lowered) fs ≡ list_any (has_of m) fs
  profile_kept [] h = refl
  profile_kept (f ∷ fs) h =
      ap (λ b. b || list_any (has_of lowered) fs) (has_kept f (not_true (is_sign f) (and_left (not (is_sign f)) (list_all (λ g. not (is_sign g)) fs) h)))
      ∙ ap (λ b. has_of m f || b) (profile_kept fs (and_right (not (is_sign f)) (list_all (λ g. not (is_sign g)) fs) h))

  stage_kept : Stage m → Stage lowered
  stage_kept h = record {
    profile = profile_kept outside_features refl ∙ h.profile;
    memories = ap (λ b. b && needs_stage_region lowered) (exports_memory_same m (new_bodies entry layer fns) exports count sights) ∙ ap (λ b. exports_memory m && b) region_kept ∙ h.memories;
    pages = load_kept (least_sizes m) ∙ h.pages;
    exception_names =
        ap (λ b. exports_name (codes "lower.") lowered && b) (has_kept features.Exceptions refl)
        ∙ still_not (exports_name (codes "lower.") m) (exports_name (codes "lower.") lowered) (has_of m features.Exceptions) (same.named (codes "lower.")) h.exception_names;
    result_names =
        ap (λ b. exports_name (codes "lower.r.") lowered && (b || has_of lowered features.Simd || has_of lowered features.LateLanes)) (has_kept features.Multi refl)
        ∙ ap (λ b. exports_name (codes "lower.r.") lowered && (has_of m features.Multi || b || has_of lowered features.LateLanes)) (has_kept features.Simd refl)
        ∙ ap (λ b. exports_name (codes "lower.r.") lowered && (has_of m features.Multi || has_of m features.Simd || b)) (has_kept features.LateLanes refl)
        ∙ still_not (exports_name (codes "lower.r.") m) (exports_name (codes "lower.r.") lowered) (has_of m features.Multi || has_of m features.Simd || has_of m features.LateLanes) (same.named (codes "lower.r.")) h.result_names;
  }

  direct_kept : IsDirect (needs_of m) → IsDirect (needs_of lowered)
  direct_kept d = record {
    constants = has_kept features.Constants refl ∙ d.constants;
    multi = has_kept features.Multi refl ∙ d.multi;
    simd = has_kept features.Simd refl ∙ d.simd;
    late_lanes = has_kept features.LateLanes refl ∙ d.late_lanes;
    tail = has_kept features.Tail refl ∙ d.tail;
    refs = has_kept features.Refs refl ∙ d.refs;
    tables = has_kept features.Tables refl ∙ d.tables;
    exceptions = has_kept features.Exceptions refl ∙ d.exceptions;
    bulk = has_kept features.Bulk refl ∙ d.bulk;
    wide_memory = has_kept features.WideMemory refl ∙ d.wide_memory;
    memories = has_kept features.Memories refl ∙ d.memories;
    region = region_kept ∙ d.region;
  }

  pub kept : Kept m lowered
  kept = record {
    traces = traces_kept;
    depths = depths_kept;
    fits = fits_kept;
    has = has_kept;
    region = region_kept;
    computed_exports = same.tested (is_computed_export m) (λ x. refl);
    load = load_kept;
    references = references_same m (new_bodies entry layer fns) exports count sights;
    stage = stage_kept;
    direct = direct_kept;
  }
