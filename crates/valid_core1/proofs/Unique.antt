-- A module has one answer, want of memory aside.
use Rattle.std.proofs.Common.{◌≡◌, ℕ, ◌<◌, ◌==◌, cond, Result, Ok, Err, refl, ap, sym, subst, ◌∙◌, arith}
use native.Mathlib.Decide.{dec_le}
use Rattle.core1_ast.specs.declared.module.parts.Module1.{Module1}
use Rattle.core1_ast.specs.Typing.{Typed1}
use Rattle.valid_core1.specs.declared.invalid.Invalid.{Invalid}
use Rattle.valid_core1.specs.declared.invalid.Invalid.TheVariants.{Part, Body, Memory}
use Rattle.valid_core1.specs.Parts.{Section, Types, Imports, Functions, Tables, Memories, Globals, Exports, Start, Elements, Segments, id}
use Rattle.valid_core1.specs.Verdict.{SectionTyped, FirstPart, FirstBody, Tells, Settles, Agrees}
use Rattle.valid_core1.proofs.Whole.{parts_typed, bodies_typed}

of_id : ℕ → Section
of_id n = cond (n == 1) Types (cond (n == 2) Imports (cond (n == 3) Functions (cond (n == 4) Tables (cond (n == 5) Memories (cond (n == 6) Globals (cond (n == 7) Exports (cond (n == 8) Start (cond (n == 9) Elements Segments))))))))

of_id-id : (s : Section) → of_id (id s) ≡ s
unfolding of_id
of_id-id Types = refl
of_id-id Imports = refl
of_id-id Functions = refl
of_id-id Tables = refl
of_id-id Memories = refl
of_id-id Globals = refl
of_id-id Exports = refl
of_id-id Start = refl
of_id-id Elements = refl
of_id-id Segments = refl

same_section : (s t : Section) → id s ≡ id t → s ≡ t
same_section s t e = sym (of_id-id s) ∙ ap of_id e ∙ of_id-id t

-- two places, neither before the other
same_place : (i j : ℕ) → (i < j → ⊥) → (j < i → ⊥) → i ≡ j
same_place i j p q = elim (dec_le i j) [
  | yes h ↦ elim (dec_le j i) [ yes k ↦ omega arith | no k ↦ absurd (p (omega arith)) ]
  | no h ↦ absurd (q (omega arith))
]

module _ (m : Module1) where
  part_not_typed : (s : Section) (i : ℕ) → FirstPart m s i → ((t : Section) → SectionTyped m t) → ⊥
  part_not_typed s i f h = f.untyped (h s i f.within)

  body_not_typed : (i : ℕ) → FirstBody m i → Typed1 m → ⊥
  body_not_typed i f t = f.untyped (bodies_typed m t i)

  one_id : (s t : Section) (i j : ℕ) → FirstPart m s i → FirstPart m t j → id s ≡ id t
  one_id s t i j f g = same_place (id s) (id t) (λ l. f.untyped (g.sections_before s l i f.within)) (λ l. g.untyped (f.sections_before t l j g.within))

  one_place : (s : Section) (i j : ℕ) → FirstPart m s i → FirstPart m s j → i ≡ j
  one_place s i j f g = same_place i j (λ l. f.untyped (g.places_before i l)) (λ l. g.untyped (f.places_before j l))

  one_body : (i j : ℕ) → FirstBody m i → FirstBody m j → i ≡ j
  one_body i j f g = same_place i j (λ l. f.untyped (g.places_before i l)) (λ l. g.untyped (f.places_before j l))

  one_part : (s t : Section) (n k i j : ℕ) → n ≡ id s → k ≡ id t → FirstPart m s i → FirstPart m t j → ◌≡◌ {A = Invalid} (Part n i) (Part k j)
  one_part s t n k i j en ek f g =
      let e = one_id s t i j f g in
      let same = same_section s t e in
      let p = one_place t i j (subst (λ x. FirstPart m x i) same f) g in
      ap (λ x. Part x i) (en ∙ e ∙ sym ek) ∙ ap (Part k) p

  pub one_answer : (r s : Result Module1 Invalid) → Settles m r → Settles m s → r ≡ s
  one_answer (Ok a) (Ok b) p q = ap Ok (p.0 ∙ sym q.0)
  one_answer (Ok a) (Err (Part n i)) p q = absurd (part_not_typed q.0 i q.2 (parts_typed m p.1))
  one_answer (Ok a) (Err (Body i)) p q = absurd (body_not_typed i q p.1)
  one_answer (Ok a) (Err (Memory e)) p q = absurd q
  one_answer (Err (Part n i)) (Ok b) p q = absurd (part_not_typed p.0 i p.2 (parts_typed m q.1))
  one_answer (Err (Part n i)) (Err (Part k j)) p q = ap Err (one_part p.0 q.0 n k i j p.1 q.1 p.2 q.2)
  one_answer (Err (Part n i)) (Err (Body j)) p q = absurd (part_not_typed p.0 i p.2 q.parts)
  one_answer (Err (Part n i)) (Err (Memory e)) p q = absurd q
  one_answer (Err (Body i)) (Ok b) p q = absurd (body_not_typed i p q.1)
  one_answer (Err (Body i)) (Err (Part k j)) p q = absurd (part_not_typed q.0 j q.2 p.parts)
  one_answer (Err (Body i)) (Err (Body j)) p q = ap (λ x. Err (Body x)) (one_body i j p q)
  one_answer (Err (Body i)) (Err (Memory e)) p q = absurd q
  one_answer (Err (Memory e)) s p q = absurd p

  -- an answer that tells is the only one that does
  pub only_answer : (r other : Result Module1 Invalid) → Tells m r → Settles m other → Agrees r other
  only_answer (Ok a) other p q = one_answer other (Ok a) q p
  only_answer (Err (Part n i)) other p q = one_answer other (Err (Part n i)) q p
  only_answer (Err (Body i)) other p q = one_answer other (Err (Body i)) q p
  only_answer (Err (Memory e)) other p q = tt
