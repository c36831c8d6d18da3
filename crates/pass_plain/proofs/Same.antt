-- A stage that rewrites bodies and nothing else, and keeps each as a function: its output is typed, and has the law of a
-- stage whose maps change nothing.
use Rattle.std.proofs.Common.{◌≡◌, ℕ, IsTrue, MatchOption, Bool, List, length, map, Option, Some, None, refl, sym, ap, ◌∙◌}
use Rattle.std.specs.List.{AllByRecursion}
use Rattle.wasm_ast.specs.declared.module.code.Instr.{Instr}
use Rattle.wasm_ast.specs.declared.module.parts.Module.{Module}
use Rattle.wasm_ast.specs.Counts.{names_data}
use Rattle.typed_trees.specs.declared.module.TypedFn.{TypedFn}
use Rattle.typed_trees.specs.Typed.{body_of, module_of, IsTypedTree}
use Rattle.meaning_new.specs.Interface.{interface}
use Rattle.pass_law.specs.Hosts.{HostTypes}
use Rattle.pass_law.specs.Law.{Law}
use Rattle.pass_law.specs.Needs.{Needs, NoMore, needs_of}
use Rattle.pass_law.specs.Plain.{plain}
use Rattle.pass_law.specs.Stages.{Stage}
use Rattle.pass_law.proofs.Plain.{plain_law}
use Rattle.rewriting_kit.specs.Rewrites.{Layer}
use Rattle.pass_plain.specs.Bodies.{rewritten_functions}
use Rattle.pass_plain.specs.Plans.{takes_all, any_event}
use Rattle.pass_plain.proofs.Keeping.{Keeps, new_bodies, as_many, names_none}
use Rattle.pass_plain.proofs.Parts.{desc_moved, parts_moved, trees_moved, all_map}
use Rattle.pass_plain.proofs.Stages.{all_exports, Kept, kept, keeping_runs}

-- the output
abbrev pub same_parts : {E : Type 0} → (Instr → E) → Layer E → Module × List TypedFn → Module × List TypedFn
same_parts entry layer t = (t.0, rewritten_functions entry layer t.1)

module _ {E : Type 0} (entry : Instr → E) (layer : Layer E) (keeps : Keeps entry layer) where
  -- the counts agree, since as many bodies name data segments
  segments_agree : (o : Option ℕ) (n : ℕ) (fns : List TypedFn) → MatchOption o (AllByRecursion (λ body. ¬ (IsTrue (names_data body.code))) (map body_of fns)) (λ k. k ≡ n) → MatchOption o (AllByRecursion (λ body. ¬ (IsTrue (names_data body.code))) (new_bodies entry layer fns)) (λ k. k ≡ n)
  segments_agree None n fns h = names_none entry layer keeps fns h
  segments_agree (Some k) n fns h = h

  module _ (t : Module × List TypedFn) (typed : IsTypedTree t) where
    abbrev m : Module
    m = module_of t

    -- the output is typed
    pub same_parts_typed : IsTypedTree (same_parts entry layer t)
    same_parts_typed = record {
      no_bodies = typed.no_bodies;
      counts = record {
        bodies = typed.counts.bodies ∙ sym (as_many entry layer t.1);
        segments = segments_agree t.0.data_count (length t.0.datas) t.1 typed.counts.segments;
      };
      parts = parts_moved m (new_bodies entry layer t.1) t.0.exports t.0.data_count refl
          (all_map _ _ (λ e. desc_moved m (new_bodies entry layer t.1) t.0.exports t.0.data_count refl e.desc) t.0.exports typed.parts.exports) typed.parts.names typed.parts;
      trees = trees_moved m (new_bodies entry layer t.1) t.0.exports t.0.data_count refl entry layer keeps.typed t.0.funcs t.1 typed.trees;
    }

    abbrev o : Module
    o = module_of (same_parts entry layer t)

    -- and keeps what each such stage keeps
    pub same_parts_kept : Kept m o
    same_parts_kept = kept entry layer keeps m t.1 refl t.0.exports t.0.data_count (all_exports m)

    pub same_parts_law : (leaves : Needs → Needs) → NoMore (needs_of o) (leaves (needs_of m)) → (captures : ℕ) → Stage m → Law (plain takes_all leaves any_event 1 0) m o captures
    same_parts_law leaves left captures stage =
        plain_law takes_all leaves any_event 1 0 m o captures
        (keeping_runs leaves m o same_parts_kept left (ap {A = Bool} {B = HostTypes} (λ b. record { interface = interface m; by_reference = b }) same_parts_kept.references) stage)
