-- Where a stage needs a region, the profile says that the module needs one.
use Rattle.std.proofs.Common.{◌≡◌, ℕ, ◌+◌, Bool, true, ◌||◌, ◌&&◌, nat_le, List, [], ◌∷◌, inl, inr, refl}
use Rattle.std.specs.List.{list_any}
use Rattle.std.proofs.lemmas.Bool.{and_parts, and_from, or_cases, or_left, or_right}
use Rattle.wasm_ast.specs.declared.module.code.Instr.TheOpen.{Instr-F}
use Rattle.wasm_ast.specs.declared.module.parts.Segment.{Segment}
use Rattle.wasm_ast.specs.declared.module.parts.Module.{Module}
use Rattle.wasm_ast.specs.Facts.{is_memory_init}
use Rattle.wasm_ast.specs.Has.{is_passive}
use Rattle.wasm_ast.specs.Occurrence.{Head}
use Rattle.wasm_ast.specs.Places.{anywhere}
use Rattle.wasm_ast.specs.Region.{moves_tables, has_computed_offset, copies_passive}
use Rattle.wasm_ast.specs.Spaces.{memory_count}
use Rattle.pass_law.specs.Stages.{any_from, copies_data, is_copied_data}
use Rattle.stage_entry.specs.Entry.{NeedsNoLess}
use Rattle.stage_entry.proofs.Wider.{Implies, or_implies, anywhere_wider}

copies_by_init : (k : ℕ) (h : Head) → Implies (copies_data k h) (is_memory_init h)
copies_by_init k (Instr-F.MemoryInit segment memory) e = refl
copies_by_init k _ e = e

module _ (m : Module) where
  abbrev copies : List Segment → Bool
  copies ds = list_any (λ s. is_passive s.mode) ds && anywhere is_memory_init m

  segments_copied : (k : ℕ) (ds : List Segment) → Implies (any_from (is_copied_data m) k ds) (copies ds)
  segments_copied k [] e = e
  segments_copied k (d ∷ ds) e =
      elim (or_cases (is_copied_data m k d) (any_from (is_copied_data m) (k + 1) ds) e) [
        | inl h ↦
            (let both : (is_passive d.mode ≡ true) × (anywhere (copies_data k) m ≡ true) = and_parts (is_passive d.mode) (anywhere (copies_data k) m) h in
            and_from (list_any (λ s. is_passive s.mode) (d ∷ ds)) (anywhere is_memory_init m)
            (or_left (is_passive d.mode) (list_any (λ s. is_passive s.mode) ds) both.0) (anywhere_wider (copies_data k) is_memory_init (copies_by_init k) m both.1))
        | inr h ↦
            (let both : (list_any (λ s. is_passive s.mode) ds ≡ true) × (anywhere is_memory_init m ≡ true) = and_parts (list_any (λ s. is_passive s.mode) ds) (anywhere is_memory_init m) (segments_copied (k + 1) ds h) in
            and_from (list_any (λ s. is_passive s.mode) (d ∷ ds)) (anywhere is_memory_init m)
            (or_right (is_passive d.mode) (list_any (λ s. is_passive s.mode) ds) both.0) both.1)
      ]

pub needs_no_less : NeedsNoLess
needs_no_less m =
    let several : Bool = nat_le 2 (memory_count m) in
    let copied : Bool = any_from (is_copied_data m) 0 m.datas in
    or_implies (several || copied || moves_tables m) (has_computed_offset m) (several || copies_passive m || moves_tables m) (has_computed_offset m)
    (or_implies (several || copied) (moves_tables m) (several || copies_passive m) (moves_tables m)
    (or_implies several copied several (copies_passive m) (λ e. e) (segments_copied m 0 m.datas)) (λ e. e))
    (λ e. e)
