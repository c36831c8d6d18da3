-- A file whose sections and bodies are in their grammar spells the module of its payloads, and its sizes are those of the module.
use Rattle.std.proofs.Common.{◌≡◌, ℕ, zero, suc, List, [], ◌∷◌, length, Bool, false, Option, Some, None, refl, ap, subst, ◌∙◌, arith}
use Rattle.std.specs.Prelude.{MatchOption, option_map, unwrap_or}
use Rattle.std.specs.List.{AllByRecursion, list_any}
use Rattle.grammar_kit.specs.Exact.{Exact}
use Rattle.grammar_kit.specs.Form.{Form, vector}
use Rattle.grammar_kit.specs.Measures.{greatest}
use Rattle.grammar_kit.specs.Sequences.{sized, whole}
use Rattle.grammar_kit.proofs.Combinators.{exact_vector}
use Rattle.grammar_kit.proofs.Sequences.{exact_sized, reads_whole}
use Rattle.wasm_frame.specs.Frame.{Part}
use Rattle.wasm_frame.specs.Leb128.{u32}
use Rattle.wasm_frame.specs.Payloads.{payload_of, Content, IsSpelled, IsRead, value, Each, FirstWithout}
use Rattle.wasm_frame.proofs.Contents.{value_content, fact_of_payload, spelled_of_read, read_of_spelled}
use Rattle.wasm_frame.proofs.SizedItems.{vector_sized}
use Rattle.wasm_frame.proofs.Spelling.{exact_u32}
use Rattle.module_reading.specs.declared.bodies.BodyExtent.{BodyExtent}
use Rattle.module_reading.specs.declared.bodies.Walk.{Walk}
use Rattle.module_reading.specs.declared.bodies.Walk.TheVariants.{Measured, Misfit}
use Rattle.module_reading.specs.declared.sections.Walked.{Walked}
use Rattle.module_reading.specs.declared.sizes.FileSizes.{FileSizes}
use Rattle.module_reading.specs.Bodies.{text_sizes, text_locals, text_nesting, text_names_data, IsExtent, IsExtentOf, IsWalked}
use Rattle.module_reading.specs.Files.{Sectioned, payloads}
use Rattle.module_reading.specs.Format.{Format}
use Rattle.module_reading.specs.Means.{Means, Laws}
use Rattle.module_reading.specs.Reads.{IsBadBody}
use Rattle.module_reading.specs.Sizes.{Both, IsMeasured, texts_of}
use Rattle.module_reading.specs.Spells.{code_section, IsPart, Grammar}
use Rattle.module_reading.specs.Walked.{IsWalkedOver}
use Rattle.module_reading.proofs.Adding.{exact_code_section}

-- the extent of no bodies
abbrev pub no_bodies : BodyExtent
no_bodies = record { count = 0; locals = 0; nesting = 0; names_data = false }

module _ {Module : Type 0} (f : Format Module) (means : Means f) (laws : Laws f means) where
  -- the bodies of texts that are read
  bodies_of : (texts : List (List ℕ)) → AllByRecursion (IsRead f.body) texts → (codes : List f.Body) × Each f.body.text texts codes
  bodies_of [] all = ([], tt)
  bodies_of (t ∷ texts) all =
      let one = spelled_of_read f.body laws.exact_body t all.0 in
      let others = bodies_of texts all.1 in
      (one.0 ∷ others.0, (one.1, others.1))

  -- the sizes of texts are those of the bodies that they spell
  same_sizes : (t : List ℕ) (b : f.Body) → f.body.text t b → text_sizes f means t ≡ means.body_sizes b
  same_sizes t b h = ap (λ o. unwrap_or (option_map means.body_sizes o) (0, 0, false)) (reads_whole f.body laws.exact_body t b h)

  same_locals : (texts : List (List ℕ)) (codes : List f.Body) → Each f.body.text texts codes → greatest (text_locals f means) texts ≡ greatest (λ b. (means.body_sizes b).0) codes
  same_locals [] [] each = refl
  same_locals [] (b ∷ codes) each = absurd each
  same_locals (t ∷ texts) [] each = absurd each
  same_locals (t ∷ texts) (b ∷ codes) each = omega (arith, ap (λ (s : ℕ × ℕ × Bool). s.0) (same_sizes t b each.0), same_locals texts codes each.1)

  same_nesting : (texts : List (List ℕ)) (codes : List f.Body) → Each f.body.text texts codes → greatest (text_nesting f means) texts ≡ greatest (λ b. (means.body_sizes b).1) codes
  same_nesting [] [] each = refl
  same_nesting [] (b ∷ codes) each = absurd each
  same_nesting (t ∷ texts) [] each = absurd each
  same_nesting (t ∷ texts) (b ∷ codes) each = omega (arith, ap (λ (s : ℕ × ℕ × Bool). s.1) (same_sizes t b each.0), same_nesting texts codes each.1)

  same_count : (texts : List (List ℕ)) (codes : List f.Body) → Each f.body.text texts codes → length texts ≡ length codes
  same_count [] [] each = refl
  same_count [] (b ∷ codes) each = absurd each
  same_count (t ∷ texts) [] each = absurd each
  same_count (t ∷ texts) (b ∷ codes) each = ap suc (same_count texts codes each.1)

  same_names : (texts : List (List ℕ)) (codes : List f.Body) → Each f.body.text texts codes → list_any (text_names_data f means) texts ≡ list_any (λ b. (means.body_sizes b).2) codes
  same_names [] [] each = refl
  same_names [] (b ∷ codes) each = absurd each
  same_names (t ∷ texts) [] each = absurd each
  same_names (t ∷ texts) (b ∷ codes) each = rw (ap (λ (s : ℕ × ℕ × Bool). s.2) (same_sizes t b each.0), same_names texts codes each.1) refl

  body_section : Form (List f.Body)
  body_section = vector u32 (sized u32 f.body)

  -- bodies that are cut first are those that are read in one go
  codes_value : (payload : Option (List ℕ)) (texts : List (List ℕ)) (codes : List f.Body) → MatchOption payload (texts ≡ []) (λ p. code_section.text p texts) → Each f.body.text texts codes
      → value (vector u32 (sized u32 f.body)) [] payload ≡ codes
  codes_value None texts codes none each = none_left codes (subst (λ (ts : List (List ℕ)). Each f.body.text ts codes) none each)
    where
      none_left : (cs : List f.Body) → Each f.body.text [] cs → [] ≡ cs
      none_left [] h = refl
      none_left (c ∷ cs) h = absurd h
  codes_value (Some p) texts codes cut each =
      let exact : Exact (vector u32 (sized u32 f.body)) = exact_vector u32 (sized u32 f.body) exact_u32 (exact_sized u32 f.body exact_u32 laws.exact_body) in
      rw (reads_whole (vector u32 (sized u32 f.body)) exact p codes (vector_sized u32 f.body p texts codes cut each)) refl

  -- the first text that is not read is the first that spells nothing
  first_misspelled : (texts : List (List ℕ)) (i : ℕ) → FirstWithout (IsRead f.body) texts i → FirstWithout (IsSpelled f.body) texts i
  first_misspelled [] i h = absurd h
  first_misspelled (t ∷ texts) zero h = λ s. h (read_of_spelled f.body laws.exact_body t s)
  first_misspelled (t ∷ texts) (suc i) h = (spelled_of_read f.body laws.exact_body t h.0, first_misspelled texts i h.1)

  module _ (parts : List Part) (all : AllByRecursion (IsPart f) parts) where
    fact : (id : ℕ) (p : List ℕ) → payload_of id parts ≡ Some p → IsPart f (record { id = id; payload = p })
    fact id p e = fact_of_payload (λ id p. IsPart f (record { id = id; payload = p })) id parts p all e

    texts : List (List ℕ)
    texts = value code_section [] (payload_of 10 parts)

    pub cut : Content 10 code_section [] parts (value code_section [] (payload_of 10 parts))
    cut = value_content code_section exact_code_section [] 10 parts (fact 10)

    module _ (spelled : AllByRecursion (IsRead f.body) (value code_section [] (payload_of 10 parts))) where
      bodies : (codes : List f.Body) × Each f.body.text (value code_section [] (payload_of 10 parts)) codes
      bodies = bodies_of (value code_section [] (payload_of 10 parts)) spelled

      codes_are : f.codes (means.made (λ id. payload_of id parts)) ≡ bodies.0
      codes_are = laws.codes (λ id. payload_of id parts) ∙ codes_value (payload_of 10 parts) (value code_section [] (payload_of 10 parts)) bodies.0 cut bodies.1

      pub extent_of_codes : (e : BodyExtent) → IsExtent f means e (value code_section [] (payload_of 10 parts)) → IsExtentOf f means e (f.codes (means.made (λ id. payload_of id parts)))
      extent_of_codes e h = rw codes_are (record {
        count = h.count ∙ same_count _ bodies.0 bodies.1;
        locals = h.locals ∙ same_locals _ bodies.0 bodies.1;
        nesting = h.nesting ∙ same_nesting _ bodies.0 bodies.1;
        names_data = h.names_data ∙ same_names _ bodies.0 bodies.1;
      })

      pub each_code : Each f.body.text (value code_section [] (payload_of 10 parts)) (f.codes (means.made (λ id. payload_of id parts)))
      each_code = rw codes_are bodies.1

  module _ (file : Sectioned) (s : FileSizes) (h : IsMeasured f means file s) where
    pub grammar : Grammar f file.bytes (means.made (payloads file))
    grammar = record {
      parts = file.parts;
      frame = h.frame;
      within = h.parts;
      contents = laws.contents file.parts (fact file.parts h.parts);
      texts = texts_of f means file;
      cut = cut file.parts h.parts;
      codes = each_code file.parts h.parts h.bodies;
    }

  -- what the walk over the bodies came to
  module _ (file : Sectioned) (walked : Walked) (h : IsWalkedOver f means file walked) where
    walked_texts : (walk : Walk) → walked.bodies ≡ Some walk → (p : List ℕ) × (payload_of 10 file.parts ≡ Some p) × IsWalked f means p walk
    walked_texts walk e = step (payload_of 10 file.parts) refl (rw e at h.all.bodies)
      where
        step : (o : Option (List ℕ)) → payload_of 10 file.parts ≡ o → Both (IsWalked f means) o (Some walk) → (p : List ℕ) × (payload_of 10 file.parts ≡ Some p) × IsWalked f means p walk
        step (Some p) same k = (p, same, k)
        step None same k = absurd k

    texts_are : (p : List ℕ) (ts : List (List ℕ)) → payload_of 10 file.parts ≡ Some p → whole (code_section.read p) ≡ Some ts → ts ≡ texts_of f means file
    texts_are p ts e read = rw (e, read) refl

    bad_walk : (i : ℕ) → walked.bodies ≡ Some (Misfit i) → IsBadBody f file.bytes i
    bad_walk i e =
        let w = walked_texts (Misfit i) e in
        let same = texts_are w.0 w.2.texts w.1 w.2.cut in (
          file.parts,
          texts_of f means file,
          h.frame,
          h.all.parts_hold,
          cut file.parts h.all.parts_hold,
          first_misspelled (texts_of f means file) i (subst (λ (ts : List (List ℕ)). FirstWithout (IsRead f.body) ts i) same w.2.walks),
        )

    measured : (e : BodyExtent) → AllByRecursion (IsRead f.body) (texts_of f means file) → IsExtent f means e (texts_of f means file) → IsMeasured f means file (record { sections = walked.sections; bodies = e })
    measured e all extent = record {
      frame = h.frame;
      parts = h.all.parts_hold;
      bodies = all;
      sizes = record { sections = h.all.sections; bodies = extent_of_codes file.parts h.all.parts_hold all e extent };
    }

    with_walk : (e : BodyExtent) → walked.bodies ≡ Some (Measured e) → IsMeasured f means file (record { sections = walked.sections; bodies = e })
    with_walk e same =
        let w = walked_texts (Measured e) same in
        let texts = texts_are w.0 w.2.texts w.1 w.2.cut in
        measured e (subst (λ (ts : List (List ℕ)). AllByRecursion (IsRead f.body) ts) texts w.2.walks.0) (subst (IsExtent f means e) texts w.2.walks.1)

    no_texts : walked.bodies ≡ None → texts_of f means file ≡ []
    no_texts e = step (payload_of 10 file.parts) (rw e at h.all.bodies)
      where
        step : (o : Option (List ℕ)) → Both (IsWalked f means) o None → value code_section [] o ≡ []
        step (Some p) k = absurd k
        step None k = refl

    without_walk : walked.bodies ≡ None → IsMeasured f means file (record { sections = walked.sections; bodies = no_bodies })
    without_walk none = measured no_bodies (rw (no_texts none) tt) (rw (no_texts none) (record { count = refl; locals = refl; nesting = refl; names_data = refl }))

    -- as code looks at it
    pub bad_body : (i : ℕ) → unwrap_or walked.bodies (Measured no_bodies) ≡ Misfit i → IsBadBody f file.bytes i
    bad_body i e = step walked.bodies refl e
      where
        step : (o : Option Walk) → walked.bodies ≡ o → unwrap_or o (Measured no_bodies) ≡ Misfit i → IsBadBody f file.bytes i
        step None same k = absurd cc
        step (Some walk) same k = bad_walk i (same ∙ ap (λ w. Some w) k)

    pub with_bodies : (e : BodyExtent) → unwrap_or walked.bodies (Measured no_bodies) ≡ Measured e → IsMeasured f means file (record { sections = walked.sections; bodies = e })
    with_bodies e k = step walked.bodies refl k
      where
        same_extent : (x y : BodyExtent) → Measured x ≡ Measured y → x ≡ y
        same_extent x y k = cc

        step : (o : Option Walk) → walked.bodies ≡ o → unwrap_or o (Measured no_bodies) ≡ Measured e → IsMeasured f means file (record { sections = walked.sections; bodies = e })
        step None same k = subst (λ (x : BodyExtent). IsMeasured f means file (record { sections = walked.sections; bodies = x })) (same_extent no_bodies e k) (without_walk same)
        step (Some walk) same k = with_walk e (same ∙ ap (λ w. Some w) k)
