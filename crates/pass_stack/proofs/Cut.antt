-- A module without the code that cannot be reached is taken where the module is, and shows what the module shows.
use Rattle.std.proofs.Common.{◌≡◌, Bool, false, List, [], ◌∷◌, find, None, refl, ◌∙◌}
use Rattle.std.specs.List.{AllByRecursion}
use Rattle.headline.specs.Cuts.{IsCut}
use Rattle.headline.specs.Headline.{StaysDirect}
use Rattle.pass_law.specs.Needs.{exports_computed}
use Rattle.pass_stack.specs.Profile.{outside_stack, unbuilt_features}
use Rattle.pass_stack.proofs.Taken.{in_profile, not_computed, absent, no_region}
use Rattle.stage_entry.proofs.Inside.{cut_has_no_more, cut_lies_in_profile, cut_is_linked_alike}
use Rattle.stage_entry.proofs.Entry.{implied_false}
use Rattle.stage_entry.specs.Cut.{HasNoMore}
use Rattle.typed_trees.specs.declared.module.TypedFn.{TypedFn}
use Rattle.typed_trees.specs.Typed.{module_of}
use Rattle.valid_mod.specs.Meaning.{SameRuns}
use Rattle.valid_mod.specs.Standing.{StandsFor}
use Rattle.wasm_ast.specs.Has.{has_of}
use Rattle.wasm_ast.specs.Outside.{first_feature, outside}
use Rattle.wasm_ast.specs.Region.{needs_region}
use Rattle.wasm_ast.specs.declared.features.kind.Feature.{Feature}
use Rattle.wasm_ast.specs.declared.features.kind.Feature.TheVariants as features
use Rattle.wasm_ast.specs.declared.module.parts.Module.{Module}

find_none : {X : Type 0} (p : X → Bool) (xs : List X) → AllByRecursion (λ x. p x ≡ false) xs → find p xs ≡ None
find_none p [] h = refl
find_none p (x ∷ xs) h = rw h.0 (find_none p xs h.1)

module _ (m : Module) (tree : Module × List TypedFn) (stands : StandsFor m tree) where
  less : HasNoMore (module_of tree) m
  less = cut_has_no_more m tree stands

  lacks : (f : Feature) → has_of m f ≡ false → has_of (module_of tree) f ≡ false
  lacks f h = implied_false (has_of (module_of tree) f) (has_of m f) (less.has f) h

  lack_all : (fs : List Feature) → AllByRecursion (λ f. has_of m f ≡ false) fs → AllByRecursion (λ f. has_of (module_of tree) f ≡ false) fs
  lack_all [] h = tt
  lack_all (f ∷ fs) h = (lacks f h.0, lack_all fs h.1)

  pub taken_too : outside_stack m ≡ None → outside_stack (module_of tree) ≡ None
  taken_too taken =
      let profile : outside (module_of tree) ≡ None = cut_lies_in_profile m tree stands (in_profile m taken) in
      let computed : exports_computed (module_of tree) ≡ false = less.computed_exports ∙ not_computed m taken in
      let found : first_feature unbuilt_features (module_of tree) ≡ None = find_none (has_of (module_of tree)) unbuilt_features (lack_all unbuilt_features (absent m taken)) in
      let region : needs_region (module_of tree) ≡ false = implied_false (needs_region (module_of tree)) (needs_region m) less.region (no_region m taken) in
      rw (profile, computed, found, region) refl

  stays_direct : StaysDirect m → StaysDirect (module_of tree)
  stays_direct d = record {
    constants = lacks features.Constants d.constants;
    multi = lacks features.Multi d.multi;
    simd = lacks features.Simd d.simd;
    late_lanes = lacks features.LateLanes d.late_lanes;
    tail = lacks features.Tail d.tail;
    refs = lacks features.Refs d.refs;
    tables = lacks features.Tables d.tables;
    exceptions = lacks features.Exceptions d.exceptions;
    bulk = lacks features.Bulk d.bulk;
    wide_memory = lacks features.WideMemory d.wide_memory;
    memories = lacks features.Memories d.memories;
    region = implied_false (needs_region (module_of tree)) (needs_region m) less.region d.region;
  }

  pub is_cut : SameRuns m (module_of tree) → IsCut m (module_of tree)
  is_cut runs = record { parts = (cut_is_linked_alike m tree stands).part; runs = runs; pages = less.pages; direct = stays_direct }
