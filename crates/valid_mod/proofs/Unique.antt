-- A module has one verdict, want of memory aside.
use Rattle.std.proofs.Common.{◌≡◌, ℕ, ◌<◌, Result, Ok, Err, refl, ap, sym, subst, ◌∙◌, arith}
use native.Mathlib.Decide.{dec_le}
use Rattle.wasm_ast.specs.declared.module.parts.Module.{Module}
use Rattle.typed_trees.specs.Modules.{IsTyped}
use Rattle.valid_mod.specs.declared.invalid.Invalid.{Invalid}
use Rattle.valid_mod.specs.declared.invalid.Invalid.TheVariants.{Part, Body, Memory}
use Rattle.valid_mod.specs.Parts.{Section, id, order}
use Rattle.valid_mod.specs.Verdict.{SectionTyped, FirstPart, FirstBody, Tells, Settles, IsVerdict}
use Rattle.valid_mod.proofs.Order.{same_section}
use Rattle.valid_mod.proofs.Whole.{parts_typed, bodies_typed}

-- two places, neither before the other
same_place : (i j : ℕ) → (i < j → ⊥) → (j < i → ⊥) → i ≡ j
same_place i j p q = elim (dec_le i j) [
  | yes h ↦ elim (dec_le j i) [ yes k ↦ omega arith | no k ↦ absurd (p (omega arith)) ]
  | no h ↦ absurd (q (omega arith))
]

module _ (m : Module) where
  part_not_typed : (s : Section) (i : ℕ) → FirstPart m s i → ((t : Section) → SectionTyped m t) → ⊥
  part_not_typed s i f h = f.untyped (h s i f.within)

  body_not_typed : (i : ℕ) → FirstBody m i → IsTyped m → ⊥
  body_not_typed i f t = f.untyped (bodies_typed m t i)

  one_section : (s t : Section) (i j : ℕ) → FirstPart m s i → FirstPart m t j → s ≡ t
  one_section s t i j f g = same_section s t (same_place (order s) (order t) (λ l. f.untyped (g.sections_before s l i f.within)) (λ l. g.untyped (f.sections_before t l j g.within)))

  one_place : (s : Section) (i j : ℕ) → FirstPart m s i → FirstPart m s j → i ≡ j
  one_place s i j f g = same_place i j (λ l. f.untyped (g.places_before i l)) (λ l. g.untyped (f.places_before j l))

  one_body : (i j : ℕ) → FirstBody m i → FirstBody m j → i ≡ j
  one_body i j f g = same_place i j (λ l. f.untyped (g.places_before i l)) (λ l. g.untyped (f.places_before j l))

  one_part : (s t : Section) (n k i j : ℕ) → n ≡ id s → k ≡ id t → FirstPart m s i → FirstPart m t j → ◌≡◌ {A = Invalid} (Part n i) (Part k j)
  one_part s t n k i j en ek f g =
      let same = one_section s t i j f g in
      let p = one_place t i j (subst (λ x. FirstPart m x i) same f) g in
      ap (λ x. Part x i) (en ∙ ap id same ∙ sym ek) ∙ ap (Part k) p

  pub one_answer : (r s : Result (Unit {0}) Invalid) → Settles m r → Settles m s → r ≡ s
  one_answer (Ok a) (Ok b) p q = refl
  one_answer (Ok a) (Err (Part n i)) p q = absurd (part_not_typed q.0 i q.2 (parts_typed m p.parts))
  one_answer (Ok a) (Err (Body i)) p q = absurd (body_not_typed i q p)
  one_answer (Ok a) (Err (Memory e)) p q = absurd q
  one_answer (Err (Part n i)) (Ok b) p q = absurd (part_not_typed p.0 i p.2 (parts_typed m q.parts))
  one_answer (Err (Part n i)) (Err (Part k j)) p q = ap Err (one_part p.0 q.0 n k i j p.1 q.1 p.2 q.2)
  one_answer (Err (Part n i)) (Err (Body j)) p q = absurd (part_not_typed p.0 i p.2 q.parts)
  one_answer (Err (Part n i)) (Err (Memory e)) p q = absurd q
  one_answer (Err (Body i)) (Ok b) p q = absurd (body_not_typed i p q)
  one_answer (Err (Body i)) (Err (Part k j)) p q = absurd (part_not_typed q.0 j q.2 p.parts)
  one_answer (Err (Body i)) (Err (Body j)) p q = ap (λ x. Err (Body x)) (one_body i j p q)
  one_answer (Err (Body i)) (Err (Memory e)) p q = absurd q
  one_answer (Err (Memory e)) s p q = absurd p

  -- a verdict that tells is the only one that does
  pub only_answer : (r other : Result (Unit {0}) Invalid) → Tells m r → Settles m other → IsVerdict r other
  only_answer (Ok a) other p q = one_answer other (Ok a) q p
  only_answer (Err (Part n i)) other p q = one_answer other (Err (Part n i)) q p
  only_answer (Err (Body i)) other p q = one_answer other (Err (Body i)) q p
  only_answer (Err (Memory e)) other p q = tt
