-- What the writers of sections append is a module.
use Rattle.std.proofs.Common.{◌≡◌, ℕ, List, [], ◌∷◌, Some, None, refl, sym, subst}
use Rattle.std.proofs.lemmas.List.{append-nil}
use Rattle.grammar_kit.specs.Form.{byte}
use Rattle.wasm_frame.specs.Frame.{section}
use Rattle.wasm_frame.specs.Name.{byte_vector}
use Rattle.core1_bytes.specs.Appends.{AppendsBy, Appends, AppendsSection}
use Rattle.core1_bytes.proofs.Appending.{appends_nothing}
use Rattle.core1_bytes.proofs.Nested.{coded}

-- an id and a vector of bytes are a section
section_text : (id : ℕ) (payload b : List ℕ) → byte_vector.text b payload → section.text (id ∷ b) (record { id = id; payload = payload })
unfolding section
section_text id payload b h = (id, id ∷ [], b, refl, refl, (h.0, h.1, h.2, h.3, h.4, (payload, h.2, [], sym (append-nil h.2), h.5, (refl, refl))))

pub section_appends : (a b c payload : List ℕ) (id : ℕ) → Appends byte a b id → Appends byte_vector b c payload → Appends section a c (record { id = id; payload = payload })
section_appends a b c payload id p q =
    coded (λ b. byte_vector.text b payload) (λ b. section.text b (record { id = id; payload = payload })) id a b c (section_text id payload) p q

-- a section that is left out, and one that is there
pub section_absent : (id : ℕ) (P : Type 0) (Q : List ℕ → Type 0) (a : List ℕ) → P → AppendsSection id P Q a a
section_absent id P Q a h = record { payload = None; whole = appends_nothing (λ b. b ≡ []) a refl; content = h }

pub section_present : (id : ℕ) (P : Type 0) (Q : List ℕ → Type 0) (a b payload : List ℕ) → Q payload → Appends section a b (record { id = id; payload = payload }) → AppendsSection id P Q a b
section_present id P Q a b payload h p = record { payload = Some payload; whole = p; content = h }

-- what was written by itself is the payload
pub alone : (P : List ℕ → Type 0) (b : List ℕ) → AppendsBy P [] b → P b
alone P b p = subst P (sym p.appended) p.spells
