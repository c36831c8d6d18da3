-- The law of trimming. The relation: each body of the output is equal to the body at its place as a function, so runs are
-- equal; and a host is shown the same exports without tags.
use Rattle.std.proofs.Common.{◌≡◌, ℕ, IsTrue, MatchOption, cond, Bool, true, false, ◌||◌, List, [], ◌∷◌, length, map, Option, Some, None, refl, sym, ap, ◌∙◌}
use Rattle.std.specs.List.{list_any, AllByRecursion}
use Rattle.wasm_ast.specs.Counts.{names_data}
use Rattle.wasm_ast.specs.Features.{shows}
use Rattle.wasm_ast.specs.Has.{has_of}
use Rattle.wasm_ast.specs.declared.features.kind.Feature.{Feature}
use Rattle.wasm_ast.specs.declared.features.kind.Feature.TheVariants as features
use Rattle.wasm_ast.specs.declared.module.code.Body.{Body}
use Rattle.wasm_ast.specs.declared.module.parts.Export.{Export}
use Rattle.wasm_ast.specs.declared.module.parts.Module.{Module}
use Rattle.typed_trees.specs.declared.module.TypedFn.{TypedFn}
use Rattle.typed_trees.specs.Trees.{erased}
use Rattle.typed_trees.specs.Typed.{body_of, module_of, IsTypedTree}
use Rattle.meaning_new.specs.Interface.{Exported, interface}
use Rattle.pass_law.specs.Hosts.{HostTypes, host_types}
use Rattle.pass_law.specs.Law.{Law}
use Rattle.pass_law.specs.Needs.{NoMore, needs_of}
use Rattle.pass_law.specs.Stages.{Stage}
use Rattle.pass_law.proofs.Plain.{plain_law}
use Rattle.pass_plain.specs.Bodies.{no_entry, rewritten_functions}
use Rattle.pass_plain.specs.Plans.{takes_all, any_event, without_tags, trim_plan}
use Rattle.pass_plain.specs.Trimming.{by_trimming, untagged, asks, asks_for_count, used_count, trimmed_part}
use Rattle.pass_plain.proofs.Asking.{not_asked}
use Rattle.pass_plain.proofs.Evaluations.{changed}
use Rattle.pass_plain.proofs.Keeping.{new_bodies, as_many, names_none, bodies_seen, unnamed}
use Rattle.pass_plain.proofs.Mapped.{mapped_law}
use Rattle.pass_plain.proofs.Needs.{anywhere_by}
use Rattle.pass_plain.proofs.Occurrences.{blind_feature}
use Rattle.pass_plain.proofs.Parts.{desc_moved, parts_moved, trees_moved, all_map}
use Rattle.pass_plain.proofs.Stages.{SameExports, all_exports, Kept, kept, keeping_runs}
use Rattle.pass_plain.proofs.TrimmingKept.{trims, trimming_seen, trimming_typed}
use Rattle.pass_plain.proofs.Untagged.{all_untagged, different_untagged, same_untagged, refs_untagged, shown_untagged}

abbrev trimmed_bodies : List TypedFn → List Body
trimmed_bodies fns = new_bodies no_entry by_trimming fns

first_of : (a b : Bool) → (a || b) ≡ false → a ≡ false
first_of true b h = absurd cc
first_of false b h = refl

rest_of : (a b : Bool) → (a || b) ≡ false → b ≡ false
rest_of true b h = absurd cc
rest_of false b h = h

-- the counts agree: a count that is asked for stays, and where it goes no body asks for it
none_asked : (fns : List TypedFn) → asks_for_count fns ≡ false → AllByRecursion (λ body. ¬ (IsTrue (names_data body.code))) (map body_of fns)
none_asked [] h = tt
none_asked (f ∷ fns) h = (
  unnamed (names_data (erased f.body)) (not_asked f.body (first_of (list_any asks f.body) (asks_for_count fns) h)),
  none_asked fns (rest_of (list_any asks f.body) (asks_for_count fns) h),
)

segments_agree : (b : Bool) (o : Option ℕ) (n : ℕ) (fns : List TypedFn) → asks_for_count fns ≡ b → MatchOption o (AllByRecursion (λ body. ¬ (IsTrue (names_data body.code))) (map body_of fns)) (λ k. k ≡ n) → MatchOption (cond b o None) (AllByRecursion (λ body. ¬ (IsTrue (names_data body.code))) (trimmed_bodies fns)) (λ k. k ≡ n)
segments_agree true None n fns e h = names_none no_entry by_trimming trims fns h
segments_agree true (Some k) n fns e h = h
segments_agree false o n fns e h = names_none no_entry by_trimming trims fns (none_asked fns e)

module _ (t : Module × List TypedFn) (typed : IsTypedTree t) where
  abbrev m : Module
  m = module_of t

  abbrev count : Option ℕ
  count = used_count t.0.data_count t.1

  abbrev trimmed_tree : Module × List TypedFn
  trimmed_tree = (trimmed_part t, rewritten_functions no_entry by_trimming t.1)

  abbrev o : Module
  o = module_of trimmed_tree

  -- the output is typed
  pub trimming_tree : IsTypedTree trimmed_tree
  trimming_tree = record {
    no_bodies = typed.no_bodies;
    counts = record {
      bodies = typed.counts.bodies ∙ sym (as_many no_entry by_trimming t.1);
      segments = segments_agree (asks_for_count t.1) t.0.data_count (length t.0.datas) t.1 refl typed.counts.segments;
    };
    parts = parts_moved m (trimmed_bodies t.1) (untagged t.0.exports) count (refs_untagged m)
        (all_untagged _ t.0.exports (all_map _ _ (λ (e : Export). desc_moved m (trimmed_bodies t.1) (untagged t.0.exports) count (refs_untagged m) e.desc) t.0.exports typed.parts.exports))
        (different_untagged t.0.exports typed.parts.names) typed.parts;
    trees = trees_moved m (trimmed_bodies t.1) (untagged t.0.exports) count (refs_untagged m) no_entry by_trimming trimming_typed t.0.funcs t.1 typed.trees;
  }

  module _ (exports : List Export) (same : SameExports m exports) where
    kept_all : Kept m (changed m (trimmed_bodies t.1) exports count)
    kept_all = kept no_entry by_trimming trims m t.1 refl exports count same

    left_of : (f : Feature) → has_of (changed m (trimmed_bodies t.1) exports count) f ≡ true → has_of m f ≡ true
    left_of features.Sign h =
        sym (anywhere_by m (trimmed_bodies t.1) exports count (shows features.Sign) (bodies_seen no_entry by_trimming (shows features.Sign) (trimming_seen (shows features.Sign) (blind_feature features.Sign) refl) t.1)) ∙ h
    left_of f h = sym (kept_all.has f refl) ∙ h

    left : NoMore (needs_of (changed m (trimmed_bodies t.1) exports count)) (needs_of m)
    left = record { has = left_of; region = λ h. sym kept_all.region ∙ h; computed_exports = λ h. sym kept_all.computed_exports ∙ h }

  same : SameExports m (untagged t.0.exports)
  same = same_untagged m typed.parts.names

  host : host_types o ≡ without_tags (host_types m)
  host =
      ap {A = Bool} {B = HostTypes} (λ b. record { interface = interface o; by_reference = b }) (kept_all (untagged t.0.exports) same).references
      ∙ ap {A = List Exported} {B = HostTypes} (λ l. record { interface = record (interface m) { exports = l }; by_reference = (host_types m).by_reference }) (shown_untagged m typed.parts t.0.exports typed.parts.exports)

  -- the module with all exports has the law of a stage whose maps change nothing, and the output has the same runs
  pub trim_law : (captures : ℕ) → Stage m → Law trim_plan m o captures
  trim_law captures stage =
      let full = kept_all t.0.exports (all_exports m) in
      let host_full : host_types (changed m (trimmed_bodies t.1) t.0.exports count) ≡ host_types m = ap {A = Bool} {B = HostTypes} (λ b. record { interface = interface m; by_reference = b }) full.references in
      mapped_law (λ n. n) without_tags m o (changed m (trimmed_bodies t.1) t.0.exports count) captures
      (plain_law takes_all (λ n. n) any_event 1 0 m (changed m (trimmed_bodies t.1) t.0.exports count) captures
      (keeping_runs (λ n. n) m (changed m (trimmed_bodies t.1) t.0.exports count) full (left t.0.exports (all_exports m)) host_full stage))
      (kept_all (untagged t.0.exports) same) full (left (untagged t.0.exports) same) host stage
