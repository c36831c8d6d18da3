-- Adding a section to those that were walked over.
use Rattle.std.proofs.Common.{◌≡◌, ℕ, Bool, true, false, cond, List, [], ◌∷◌, ◌++◌, Option, Some, None, refl, sym, subst, ◌∙◌}
use Rattle.std.specs.Prelude.{◌==◌, ◌↔◌, IsTrue}
use Rattle.std.specs.Option.{is_some}
use Rattle.std.proofs.lemmas.Bool.{eqb-true}
use Rattle.grammar_kit.specs.Form.{Chosen}
use Rattle.grammar_kit.specs.Exact.{Exact}
use Rattle.grammar_kit.proofs.Combinators.{exact_rules}
use Rattle.wasm_frame.specs.Frame.{Part}
use Rattle.wasm_frame.specs.Name.{IsCustom}
use Rattle.wasm_frame.specs.Payloads.{payload_of, IsRead}
use Rattle.wasm_frame.proofs.Contents.{spelled_of_read, read_of_spelled}
use Rattle.wasm_frame.proofs.Spelling.{exact_numbers}
use Rattle.wasm_frame.proofs.Text.{exact_texts}
use Rattle.module_reading.specs.declared.bodies.Walk.{Walk}
use Rattle.module_reading.specs.declared.sections.Walked.{Walked}
use Rattle.module_reading.specs.declared.sizes.Sizes.{Sizes}
use Rattle.module_reading.specs.declared.sizes.SectionSizes.{SectionSizes}
use Rattle.module_reading.specs.Bodies.{IsWalked}
use Rattle.module_reading.specs.Format.{Format}
use Rattle.module_reading.specs.Means.{Means}
use Rattle.module_reading.specs.Sizes.{Both, sizes_at}
use Rattle.module_reading.specs.Spells.{code_section, IsPart}
use Rattle.module_reading.specs.Walked.{AreWalked}
use Rattle.module_reading.proofs.Lists.{all_more}

pub exact_code_section : Exact code_section
exact_code_section = search (exact_rules, exact_numbers, exact_texts) depth 12

-- the first value, if there is one, and else the second
abbrev pub earlier : {X : Type 0} → Option X → Option X → Option X
earlier (Some x) later = Some x
earlier None later = later

-- as code tests it
pub earlier_is_later : {X : Type 0} (o later : Option X) → is_some o ≡ false → later ≡ earlier o later
earlier_is_later (Some x) later e = absurd cc
earlier_is_later None later e = refl

pub earlier_is_first : {X : Type 0} (o later : Option X) → is_some o ≡ true → o ≡ earlier o later
earlier_is_first (Some x) later e = refl
earlier_is_first None later e = absurd cc

earlier_none : {X : Type 0} (o : Option X) → earlier o None ≡ o
earlier_none (Some x) = refl
earlier_none None = refl

payload_more : (id : ℕ) (xs : List Part) (s : Part) → payload_of id (xs ++ s ∷ []) ≡ earlier (payload_of id xs) (payload_of id (s ∷ []))
payload_more id [] s = refl
payload_more id (x ∷ xs) s = step (x.id == id) (payload_more id xs s)
  where
    step : (test : Bool) → payload_of id (xs ++ s ∷ []) ≡ earlier (payload_of id xs) (payload_of id (s ∷ []))
        → cond test (Some x.payload) (payload_of id (xs ++ s ∷ [])) ≡ earlier (cond test (Some x.payload) (payload_of id xs)) (payload_of id (s ∷ []))
    step true others = refl
    step false others = others

sizes_more : (id : ℕ) (xs : List SectionSizes) (s : SectionSizes) → sizes_at id (xs ++ s ∷ []) ≡ earlier (sizes_at id xs) (sizes_at id (s ∷ []))
sizes_more id [] s = refl
sizes_more id (x ∷ xs) s = step (x.id == id) (sizes_more id xs s)
  where
    step : (test : Bool) → sizes_at id (xs ++ s ∷ []) ≡ earlier (sizes_at id xs) (sizes_at id (s ∷ []))
        → cond test (Some x.sizes) (sizes_at id (xs ++ s ∷ [])) ≡ earlier (cond test (Some x.sizes) (sizes_at id xs)) (sizes_at id (s ∷ []))
    step true others = refl
    step false others = others

both_earlier : {X Y : Type 0} (R : X → Y → Type 0) (a b : Option X) (c d : Option Y) → Both R a c → Both R b d → Both R (earlier a b) (earlier c d)
both_earlier R (Some x) b (Some y) d h k = h
both_earlier R None b None d h k = k
both_earlier R (Some x) b None d h k = absurd h
both_earlier R None b (Some y) d h k = absurd h

differs : (k id : ℕ) → (k ≡ id → ⊥) → (k == id) ≡ false
differs k id other = step (k == id) refl
  where
    step : (test : Bool) → (k == id) ≡ test → test ≡ false
    step true same = absurd (other (eqb-true k id same))
    step false same = refl

no_payload : (id : ℕ) (s : Part) → (s.id ≡ id → ⊥) → payload_of id (s ∷ []) ≡ None
no_payload id s other = rw (differs s.id id other) refl

module _ {Module : Type 0} (f : Format Module) (means : Means f) where
  -- a section of another id adds nothing
  other_payload : (id : ℕ) (seen : List Part) (s : Part) → (s.id ≡ id → ⊥) → payload_of id (seen ++ s ∷ []) ≡ payload_of id seen
  other_payload id seen s other = payload_more id seen s ∙ rw (no_payload id s other) (earlier_none (payload_of id seen))

  module _ (seen : List Part) (walked : Walked) (h : AreWalked f means seen walked) (k : ℕ) (p : List ℕ) where
    module _ (custom : k ≡ 0 → ⊥) (code : k ≡ 10 → ⊥) where
      in_grammar : f.InGrammar k p → IsPart f (record { id = k; payload = p })
      in_grammar g = rw (differs k 0 custom, differs k 10 code) g

      pub misfits : ¬ (f.InGrammar k p) → ¬ (IsPart f (record { id = k; payload = p }))
      misfits wrong part = wrong (rw (differs k 0 custom, differs k 10 code) at part)

      one_more : (sizes : Sizes) → means.HasSizes k p sizes → (id : ℕ) → Both (means.HasSizes id) (payload_of id ((record { id = k; payload = p }) ∷ [])) (sizes_at id ((record { id = k; sizes = sizes }) ∷ []))
      one_more sizes has id = step (k == id) refl
        where
          step : (test : Bool) → (k == id) ≡ test → Both (means.HasSizes id) (cond test (Some p) None) (cond test (Some sizes) None)
          step true same = subst (λ (i : ℕ). means.HasSizes i p sizes) (eqb-true k id same) has
          step false same = tt

      -- a section with entries
      pub adds_entries : (sizes : Sizes) → f.InGrammar k p × means.HasSizes k p sizes → (after : List SectionSizes) → after ≡ walked.sections ++ (record { id = k; sizes = sizes }) ∷ []
          → AreWalked f means (seen ++ (record { id = k; payload = p }) ∷ []) (record { sections = after; bodies = walked.bodies })
      adds_entries sizes g after e = record {
        parts_hold = all_more (IsPart f) seen (record { id = k; payload = p }) h.parts_hold (in_grammar g.0);
        sections = λ id no_custom no_code.
            rw (payload_more id seen (record { id = k; payload = p }), e, sizes_more id walked.sections (record { id = k; sizes = sizes }))
            (both_earlier (means.HasSizes id) (payload_of id seen) _ (sizes_at id walked.sections) _ (h.sections id no_custom no_code) (one_more sizes g.1 id));
        bodies = rw (other_payload 10 seen (record { id = k; payload = p }) code) h.bodies;
      }

  module _ (seen : List Part) (walked : Walked) (h : AreWalked f means seen walked) (p : List ℕ) where
    -- a custom section
    pub adds_custom : (test : Bool) → IsTrue test ↔ IsCustom p
        → Chosen test (AreWalked f means (seen ++ (record { id = 0; payload = p }) ∷ []) walked) (¬ (IsPart f (record { id = 0; payload = p })))
    adds_custom true tested = record {
      parts_hold = all_more (IsPart f) seen (record { id = 0; payload = p }) h.parts_hold (tested.0 refl);
      sections = λ id no_custom no_code. rw (other_payload id seen (record { id = 0; payload = p }) (λ e. no_custom (sym e))) (h.sections id no_custom no_code);
      bodies = rw (other_payload 10 seen (record { id = 0; payload = p }) (λ e. absurd cc)) h.bodies;
    }
    adds_custom false tested = λ custom. absurd (cc (tested.1 custom))

    pub no_code : ¬ (IsRead code_section p) → ¬ (IsPart f (record { id = 10; payload = p }))
    no_code wrong part = wrong (read_of_spelled code_section exact_code_section p part)

    -- a code section
    pub adds_code : (walk : Walk) → IsWalked f means p walk → (after : Option Walk) → after ≡ earlier walked.bodies (Some walk)
        → AreWalked f means (seen ++ (record { id = 10; payload = p }) ∷ []) (record { sections = walked.sections; bodies = after })
    adds_code walk is after e = record {
      parts_hold = all_more (IsPart f) seen (record { id = 10; payload = p }) h.parts_hold (spelled_of_read code_section exact_code_section p (is.texts, is.cut));
      sections = λ id no_custom no_code. rw (other_payload id seen (record { id = 10; payload = p }) (λ e. no_code (sym e))) (h.sections id no_custom no_code);
      bodies = rw (payload_more 10 seen (record { id = 10; payload = p }), e) (both_earlier (IsWalked f means) (payload_of 10 seen) (Some p) walked.bodies (Some walk) h.bodies is);
    }
