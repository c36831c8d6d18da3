-- Where the stack takes a module, each stage takes what it is given, and what the last one leaves crosses to 1.0.
use Rattle.std.proofs.Common.{◌≡◌, ℕ, Bool, true, false, not, ◌&&◌, ◌||◌, cond, List, [], ◌∷◌, Some, None, option_map, refl, ap}
use Rattle.std.proofs.lemmas.Result.{IfOk-weaker}
use Rattle.std.specs.Prelude.{nat_le, Result, Ok, Err, IfOk}
use Rattle.std.specs.List.{AllByRecursion, list_all, list_any}
use Rattle.std.specs.Option.{option_or}
use Rattle.core1_ast.specs.declared.module.parts.Module1.{Module1}
use Rattle.crossing.specs.Modules.{cross}
use Rattle.headline.specs.Headline.{Same}
use Rattle.headline.specs.MappedInterface.{SameInterface}
use Rattle.headline.proofs.Directions.{lowered_is_same}
use Rattle.pass_cross.specs.Crossable.{is_taken, Crossable}
use Rattle.pass_cross.specs.Crossed.{IsCrossed}
use Rattle.pass_law.specs.Law.{Law}
use Rattle.pass_law.specs.Needs.{exports_computed, needs_of}
use Rattle.pass_law.specs.Stages.{Stage, needs_stage_region}
use Rattle.pass_law.specs.ThenLawful.{both}
use Rattle.pass_plain.specs.ConstantPlan.{gone_before, is_constants}
use Rattle.pass_plain.specs.Plans.{is_sign, without_sign}
use Rattle.pass_stack.specs.Pipeline.{pipeline}
use Rattle.pass_stack.specs.Profile.{entry_of, outside_profile, outside_stack, unbuilt, unbuilt_features}
use Rattle.pass_stack.specs.declared.outside.Outside.TheVariants as outsides
use Rattle.ranges_core1.specs.Ranges.{NumbersInRange}
use Rattle.ranges_core1.proofs.Whole.{shows_numbers_in_range}
use Rattle.soundness.proofs.RunEvents.{events_are_typed}
use Rattle.stage_entry.proofs.Entry.{map_none, or_none, some_if, none_found, implied_false, may_begin}
use Rattle.stage_entry.proofs.Regions.{needs_no_less}
use Rattle.typed_trees.specs.declared.module.TypedFn.{TypedFn}
use Rattle.typed_trees.specs.Typed.{module_of, IsTypedTree}
use Rattle.wasm_ast.specs.Has.{has_of}
use Rattle.wasm_ast.specs.Outside.{first_feature, outside, outside_features}
use Rattle.wasm_ast.specs.Region.{copies_passive, has_computed_offset, moves_tables, needs_region}
use Rattle.wasm_ast.specs.Spaces.{memory_count}
use Rattle.wasm_ast.specs.declared.features.kind.Feature.{Feature}
use Rattle.wasm_ast.specs.declared.features.kind.Feature.TheVariants as features
use Rattle.wasm_ast.specs.declared.module.parts.Module.{Module}

-- ---- tests

or_left : (a b : Bool) → (a || b) ≡ false → a ≡ false
or_left true b h = let no : ⊥ = cc in absurd no
or_left false b h = refl

or_right : (a b : Bool) → (a || b) ≡ false → b ≡ false
or_right true b h = let no : ⊥ = cc in absurd no
or_right false b h = h

and_false : (a : Bool) → (a && false) ≡ false
and_false true = refl
and_false false = refl

none_any : {X : Type 0} (p : X → Bool) (xs : List X) → list_any p xs ≡ false → AllByRecursion (λ x. p x ≡ false) xs
none_any p [] h = tt
none_any p (x ∷ xs) h = (or_left (p x) (list_any p xs) h, none_any p xs (or_right (p x) (list_any p xs) h))

all_each : {X : Type 0} (p : X → Bool) (xs : List X) → AllByRecursion (λ x. p x ≡ true) xs → list_all p xs ≡ true
all_each p [] h = refl
all_each p (x ∷ xs) h = both (p x) (list_all p xs) h.0 (all_each p xs h.1)

-- ---- what the stack takes

module _ (m : Module) (taken : outside_stack m ≡ None) where
  parts : (outside_profile m ≡ None) × (option_map outsides.NotBuilt (unbuilt m) ≡ None)
  parts = or_none (outside_profile m) (option_map outsides.NotBuilt (unbuilt m)) taken

  pub in_profile : outside m ≡ None
  in_profile = map_none entry_of (outside m) parts.0

  steps : (cond (exports_computed m) (Some features.Constants) None ≡ None) × (option_or (first_feature unbuilt_features m) (cond (needs_region m) (Some features.Memories) None) ≡ None)
  steps =
      or_none (cond (exports_computed m) (Some features.Constants) None) (option_or (first_feature unbuilt_features m) (cond (needs_region m) (Some features.Memories) None))
      (map_none outsides.NotBuilt (unbuilt m) parts.1)

  last_steps : (first_feature unbuilt_features m ≡ None) × (cond (needs_region m) (Some features.Memories) None ≡ None)
  last_steps = or_none (first_feature unbuilt_features m) (cond (needs_region m) (Some features.Memories) None) steps.1

  pub not_computed : exports_computed m ≡ false
  not_computed = some_if (exports_computed m) features.Constants steps.0

  pub absent : AllByRecursion (λ f. has_of m f ≡ false) unbuilt_features
  absent = none_any (has_of m) unbuilt_features (none_found (has_of m) unbuilt_features last_steps.0)

  pub no_region : needs_region m ≡ false
  no_region = some_if (needs_region m) features.Memories last_steps.1

  one_memory : has_of m features.Memories ≡ false
  one_memory =
      or_left (nat_le 2 (memory_count m)) (copies_passive m)
      (or_left (nat_le 2 (memory_count m) || copies_passive m) (moves_tables m) (or_left (nat_le 2 (memory_count m) || copies_passive m || moves_tables m) (has_computed_offset m) no_region))

  no_stage_region : needs_stage_region m ≡ false
  no_stage_region = implied_false (needs_stage_region m) (needs_region m) (needs_no_less m) no_region

  gone : (f : Feature) → has_of m f ≡ false → not (has_of m f && not (is_sign f)) ≡ true
  gone f h = ap (λ b. not (b && not (is_sign f))) h

  each_gone : AllByRecursion (λ f. not ((without_sign (needs_of m)).has f) ≡ true) gone_before
  each_gone = (ap not (and_false (has_of m features.Sign)), (gone features.Tail absent.1.1.1.0, (gone features.Refs absent.1.1.1.1.0, (gone features.Tables absent.1.1.1.1.1.0, (gone features.Simd absent.1.0, (gone features.LateLanes absent.1.1.0, (gone features.Exceptions absent.1.1.1.1.1.1.0, (gone features.Bulk absent.1.1.1.1.1.1.1.0, (gone features.WideMemory absent.1.1.1.1.1.1.1.1.0, (gone features.Memories one_memory, (gone features.Multi absent.0, tt)))))))))))

  pub stages_take : pipeline.takes (needs_of m) ≡ true
  stages_take =
      let all = list_all (λ f. not ((without_sign (needs_of m)).has f)) gone_before in
      both (all && not (needs_stage_region m)) (not (exports_computed m))
      (both all (not (needs_stage_region m)) (all_each (λ f. not ((without_sign (needs_of m)).has f)) gone_before each_gone) (ap not no_stage_region))
      (ap not not_computed)

  pub stands_first : Stage m
  stands_first = may_begin m in_profile

  -- ---- what the last stage leaves

  module _ (o : Module) (captures : ℕ) (law : Law pipeline m o captures) where
    inside : AllByRecursion (λ f. has_of o f ≡ false) outside_features
    inside = none_any (has_of o) outside_features law.stage.profile

    left : (f : Feature) → (pipeline.leaves (needs_of m)).has f ≡ false → has_of o f ≡ false
    left f h = implied_false (has_of o f) ((pipeline.leaves (needs_of m)).has f) (law.left.has f) h

    never : (f : Feature) → has_of m f ≡ false → has_of o f ≡ false
    never f h = left f (ap (λ b. (b && not (is_sign f)) && not (is_constants f)) h)

    none_left : (f : Feature) → is_taken f ≡ false → has_of o f ≡ false
    none_left features.Floats t = inside.0
    none_left features.WideTable t = inside.1.0
    none_left features.TableInitialiser t = inside.1.1.0
    none_left features.ImportedTable t = inside.1.1.1.0
    none_left features.ImportedTag t = inside.1.1.1.1.0
    none_left features.ImportedMutableGlobal t = inside.1.1.1.1.1.0
    none_left features.ImportedMemory t = inside.1.1.1.1.1.1.0
    none_left features.ExportedTable t = inside.1.1.1.1.1.1.1.0
    none_left features.WideGlobal t = inside.1.1.1.1.1.1.1.1.0
    none_left features.ExnrefTable t = inside.1.1.1.1.1.1.1.1.1.0
    none_left features.HostExnref t = inside.1.1.1.1.1.1.1.1.1.1.0
    none_left features.Sign t = left features.Sign (ap (λ b. b && true) (and_false (has_of m features.Sign)))
    none_left features.Constants t = left features.Constants (and_false (has_of m features.Constants && true))
    none_left features.Multi t = never features.Multi absent.0
    none_left features.TypedSelect t = let no : true ≡ false = t in absurd cc
    none_left features.Simd t = never features.Simd absent.1.0
    none_left features.LateLanes t = never features.LateLanes absent.1.1.0
    none_left features.Tail t = never features.Tail absent.1.1.1.0
    none_left features.Refs t = never features.Refs absent.1.1.1.1.0
    none_left features.Tables t = never features.Tables absent.1.1.1.1.1.0
    none_left features.Exceptions t = never features.Exceptions absent.1.1.1.1.1.1.0
    none_left features.Bulk t = never features.Bulk absent.1.1.1.1.1.1.1.0
    none_left features.WideMemory t = never features.WideMemory absent.1.1.1.1.1.1.1.1.0
    none_left features.Memories t = never features.Memories one_memory

    pub crosses_last : Crossable o
    crosses_last = record {
      stage = law.stage;
      region = implied_false (needs_stage_region o) (needs_stage_region m) law.left.region no_stage_region;
      has = none_left;
    }

  -- ---- the headline

  lowered_is : (captures : ℕ) (tree : Module × List TypedFn) (m1 : Module1) → IsTypedTree tree → Law pipeline m (module_of tree) captures → m1 ≡ cross (module_of tree) → IsCrossed (module_of tree) m1 → NumbersInRange m1 → SameInterface m m1 × Same 1 1 m m1 captures
  lowered_is captures tree m1 typed law written crossed numbers =
      lowered_is_same pipeline captures m tree m1 (record {
        region = no_stage_region;
        plan = record { types = λ h. refl; script = λ h s. refl; event = λ h s e. refl; captures = refl };
        law = law;
        typed = typed;
        crossable = crosses_last (module_of tree) captures law;
        written = written;
        crossed = crossed;
        types = events_are_typed tree typed;
        numbers = λ s fits n. shows_numbers_in_range m1 s numbers fits n;
      })

  both_hold : {E : Type 0} (captures : ℕ) (tree : Module × List TypedFn) (r : Result Module1 E) → IsTypedTree tree → Law pipeline m (module_of tree) captures → IfOk r (λ m1. m1 ≡ cross (module_of tree)) → IfOk r (IsCrossed (module_of tree)) → IfOk r NumbersInRange → IfOk r (λ m1. SameInterface m m1 × Same 1 1 m m1 captures)
  both_hold captures tree (Ok m1) typed law written crossed numbers = lowered_is captures tree m1 typed law written crossed numbers
  both_hold captures tree (Err e) typed law written crossed numbers = tt

  pub all_linked : {E : Type 0} (captures : ℕ) (tree : Module × List TypedFn) (r : Result Module1 E) → IsTypedTree tree → Law pipeline m (module_of tree) captures → IfOk r (λ m1. m1 ≡ cross (module_of tree)) → IfOk r (IsCrossed (module_of tree)) → IfOk r NumbersInRange → IfOk r (SameInterface m)
  all_linked captures tree r typed law written crossed numbers =
      IfOk-weaker r (λ m1. SameInterface m m1 × Same 1 1 m m1 captures) (SameInterface m) (λ m1 h. h.0) (both_hold captures tree r typed law written crossed numbers)

  pub all_same : {E : Type 0} (captures : ℕ) (tree : Module × List TypedFn) (r : Result Module1 E) → IsTypedTree tree → Law pipeline m (module_of tree) captures → IfOk r (λ m1. m1 ≡ cross (module_of tree)) → IfOk r (IsCrossed (module_of tree)) → IfOk r NumbersInRange → IfOk r (λ m1. Same 1 1 m m1 captures)
  all_same captures tree r typed law written crossed numbers =
      IfOk-weaker r (λ m1. SameInterface m m1 × Same 1 1 m m1 captures) (λ m1. Same 1 1 m m1 captures) (λ m1 h. h.1) (both_hold captures tree r typed law written crossed numbers)
