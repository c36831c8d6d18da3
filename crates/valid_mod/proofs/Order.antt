-- The order of the sections, and the verdict on the first of them.
use Rattle.std.proofs.Common.{◌≡◌, ℕ, ◌+◌, ◌<◌, ◌==◌, cond, List, length, Option, Some, None, Result, Ok, Err, OnOk, refl, ap, sym, subst, ◌∙◌, arith}
use native.Mathlib.Decide.{dec_le}
use Rattle.wasm_ast.specs.declared.module.parts.Module.{Module}
use Rattle.typed_trees.specs.Modules.{TypedStart}
use Rattle.valid_mod.specs.declared.invalid.Invalid.TheVariants.{Part}
use Rattle.valid_mod.specs.Searches.{At, Finds}
use Rattle.valid_mod.specs.Parts.{Section, Types, Imports, Functions, Tables, Memories, Tags, Globals, Exports, Start, Elements, Segments, id, order, count, PartTyped}
use Rattle.valid_mod.specs.Verdict.{SectionTyped, SectionsTyped, TellsOfSections}

of_order : ℕ → Section
of_order n = cond (n == 0) Types (cond (n == 1) Imports (cond (n == 2) Functions (cond (n == 3) Tables (cond (n == 4) Memories (cond (n == 5) Tags (cond (n == 6) Globals (cond (n == 7) Exports (cond (n == 8) Start (cond (n == 9) Elements Segments)))))))))

of_order-order : (s : Section) → of_order (order s) ≡ s
unfolding of_order
of_order-order Types = refl
of_order-order Imports = refl
of_order-order Functions = refl
of_order-order Tables = refl
of_order-order Memories = refl
of_order-order Tags = refl
of_order-order Globals = refl
of_order-order Exports = refl
of_order-order Start = refl
of_order-order Elements = refl
of_order-order Segments = refl

pub same_section : (s t : Section) → order s ≡ order t → s ≡ t
same_section s t e = sym (of_order-order s) ∙ ap of_order e ∙ of_order-order t

pub order_below : (s : Section) → order s < 11
order_below Types = omega arith
order_below Imports = omega arith
order_below Functions = omega arith
order_below Tables = omega arith
order_below Memories = omega arith
order_below Tags = omega arith
order_below Globals = omega arith
order_below Exports = omega arith
order_below Start = omega arith
order_below Elements = omega arith
order_below Segments = omega arith

module _ (m : Module) where
  pub all_sections : SectionsTyped m 11 → (s : Section) → SectionTyped m s
  all_sections h s = h s (order_below s)

  pub no_sections : SectionsTyped m 0
  no_sections s h = absurd (omega arith)

  -- one section more
  pub more_sections : (s : Section) → SectionsTyped m (order s) → SectionTyped m s → SectionsTyped m (order s + 1)
  more_sections s before here t h = elim (dec_le (order s) (order t)) [
    | yes l ↦ (let e : order s ≡ order t = omega arith in subst (SectionTyped m) (same_section s t e) here)
    | no l ↦ before t (omega arith)
  ]

  -- the part is the first that is not typed, where those of the sections before it are
  pub refused : (s : Section) (section place : ℕ) → section ≡ id s → SectionsTyped m (order s) → Finds (PartTyped m s) (count m s) (Some place) → TellsOfSections m (order s + 1) (Err (Part section place))
  refused s section place e before f =
      (s, e, record { within = f.0; sections_before = before; places_before = f.1; untyped = f.2 })

  -- the start is the only part of its section
  pub start_typed : TypedStart m m.start → Finds (PartTyped m Start) (count m Start) None
  start_typed h k l = h

  pub start_untyped : (TypedStart m m.start → ⊥) → Finds (PartTyped m Start) (count m Start) (Some 0)
  start_untyped h = (omega arith, λ k l. absurd (omega arith), h)

-- what was found in a list is found in the one that it was read from
pub found_in : {X : Type 0} (P : X → Type 0) (xs ys : List X) (found : Option ℕ) → xs ≡ ys → Finds (At xs P) (length xs) found → Finds (At ys P) (length ys) found
found_in P xs ys found e f = subst (λ l. Finds (At l P) (length l) found) e f

pub if_ok : {A E : Type 0} (r : Result A E) (P Q : Type 0) → (P → Q) → OnOk r P → OnOk r Q
if_ok (Ok a) P Q f h = f h
if_ok (Err e) P Q f h = tt
