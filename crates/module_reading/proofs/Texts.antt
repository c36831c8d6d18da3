-- Walking over the texts of bodies, one after the other.
use Rattle.std.proofs.Common.{◌≡◌, ℕ, suc, ◌+◌, ◌-◌, ◌<◌, ◌≤◌, Bool, false, List, [], ◌∷◌, ◌++◌, length, Option, Some, None, refl, sym, ap, ◌∙◌, arith}
use Rattle.std.specs.Prelude.{option_map, unwrap_or}
use Rattle.std.specs.List.{AllByRecursion, list_any}
use Rattle.std.proofs.lemmas.List.{append-nil, length-append}
use Rattle.grammar_kit.specs.Form.{many}
use Rattle.grammar_kit.specs.Measures.{greatest}
use Rattle.grammar_kit.specs.Sequences.{whole}
use Rattle.grammar_kit.proofs.Loop.{with_front, goes_on}
use Rattle.wasm_frame.specs.Name.{byte_vector}
use Rattle.wasm_frame.specs.Payloads.{IsRead, FirstWithout}
use Rattle.module_reading.specs.declared.bodies.BodyExtent.{BodyExtent}
use Rattle.module_reading.specs.declared.bodies.Walk.{Walk}
use Rattle.module_reading.specs.declared.bodies.Walk.TheVariants.{Measured, Misfit}
use Rattle.module_reading.specs.Bodies.{GoesOn, text_sizes, text_locals, text_nesting, text_names_data, Walks}
use Rattle.module_reading.specs.Format.{Format}
use Rattle.module_reading.specs.Means.{Means}
use Rattle.module_reading.proofs.Lists.{all_more, first_more, first_behind, greatest_more, any_more}

module _ {Module : Type 0} (f : Format Module) (means : Means f) where
  -- what the texts that were seen come to, of so many in all
  abbrev pub SoFar : ℕ → List (List ℕ) → Walk → Type 0
  SoFar count seen (Measured e) =
      AllByRecursion (IsRead f.body) seen × (e.count ≡ count) × (e.locals ≡ greatest (text_locals f means) seen)
      × (e.nesting ≡ greatest (text_nesting f means) seen) × (e.names_data ≡ list_any (text_names_data f means) seen)
  SoFar count seen (Misfit i) = FirstWithout (IsRead f.body) seen i

  -- so many texts of the bytes were seen, and the others are left
  pub record Keeps (bytes : List ℕ) (count place : ℕ) (walk : Walk) (rest : List ℕ) : Type 0 where
    pub seen : List (List ℕ)
    pub many_seen : length seen ≡ place
    pub left : with_front seen ((many byte_vector (count - place)).read rest) ≡ (many byte_vector count).read bytes
    pub so_far : SoFar count seen walk

  -- before any is seen
  pub begins : (bytes : List ℕ) (count : ℕ) (e : BodyExtent) → e.count ≡ count → e.locals ≡ 0 → e.nesting ≡ 0 → e.names_data ≡ false → Keeps bytes count 0 (Measured e) bytes
  begins bytes count e c l n d = let all : count - 0 ≡ count = omega arith in record {
    seen = [];
    many_seen = refl;
    left = rw all (none_before ((many byte_vector count).read bytes));
    so_far = (tt, c, l, n, d);
  }
    where
      none_before : (o : Option (List (List ℕ) × List ℕ)) → with_front [] o ≡ o
      none_before (Some p) = refl
      none_before None = refl

  one_body : (text : List ℕ) (o : Option f.Body) → whole (f.body.read text) ≡ o → (s : ℕ × ℕ × Bool) → option_map means.body_sizes o ≡ Some s → IsRead f.body text
  one_body text None same s e = absurd cc
  one_body text (Some b) same s e = (b, same)

  no_body : (text : List ℕ) → option_map means.body_sizes (whole (f.body.read text)) ≡ None → IsRead f.body text → ⊥
  no_body text none h = absurd (cc (none, ap (option_map means.body_sizes) h.1))

  -- one text more
  one_more : (count : ℕ) (seen : List (List ℕ)) (place : ℕ) → length seen ≡ place → (text : List ℕ) (o : Option (ℕ × ℕ × Bool)) → option_map means.body_sizes (whole (f.body.read text)) ≡ o
      → (walk after : Walk) → SoFar count seen walk → GoesOn walk place o after → SoFar count (seen ++ text ∷ []) after
  one_more count seen place len text o read (Misfit i) after h same = rw same (first_more (IsRead f.body) seen text i h)
  one_more count seen place len text None read (Measured e) after h same = rw (same, ← len) (first_behind (IsRead f.body) seen text h.0 (no_body text read))
  one_more count seen place len text (Some s) read (Measured e) after h more =
      let sizes : text_sizes f means text ≡ s = ap (λ o. unwrap_or o (0, 0, false)) read in
      let locals : text_locals f means text ≡ s.0 = ap (λ (s : ℕ × ℕ × Bool). s.0) sizes in
      let nesting : text_nesting f means text ≡ s.1 = ap (λ (s : ℕ × ℕ × Bool). s.1) sizes in
      let names : text_names_data f means text ≡ s.2 = ap (λ (s : ℕ × ℕ × Bool). s.2) sizes in
      rw more.1 (
        all_more (IsRead f.body) seen text h.0 (one_body text (whole (f.body.read text)) refl s read),
        more.2 ∙ h.1,
        more.3 ∙ rw (h.2, ← locals) (sym (greatest_more (text_locals f means) seen text)),
        more.4 ∙ rw (h.3, ← nesting) (sym (greatest_more (text_nesting f means) seen text)),
        more.5 ∙ rw (h.4, ← names) (sym (any_more (text_names_data f means) seen text)),
      )

  module _ (bytes : List ℕ) (count place : ℕ) (walk : Walk) (rest : List ℕ) (keeps : Keeps bytes count place walk rest) where
    -- where no text is left, the bytes are not cut into so many
    pub too_few : place < count → byte_vector.read rest ≡ None → whole ((many byte_vector count).read bytes) ≡ None
    too_few lt none =
        let k : count - place ≡ suc (count - (place + 1)) = omega arith in
        let stops : (many byte_vector (suc (count - (place + 1)))).read rest ≡ None = rw none refl in
        let none_left : (many byte_vector (count - place)).read rest ≡ None = rw k stops in
        let nothing : None ≡ (many byte_vector count).read bytes = rw none_left at keeps.left in
        rw (← nothing) refl

    pub next : (text after : List ℕ) (later : Walk) → place < count → byte_vector.read rest ≡ Some (text, after) → GoesOn walk place (option_map means.body_sizes (whole (f.body.read text))) later
        → Keeps bytes count (place + 1) later after
    next text after later lt read more = record {
      seen = keeps.seen ++ text ∷ [];
      many_seen = length-append keeps.seen (text ∷ []) ∙ omega (arith, keeps.many_seen);
      left = goes_on byte_vector keeps.seen count place rest text after _ lt read keeps.left;
      so_far = one_more count keeps.seen place keeps.many_seen text _ refl walk later keeps.so_far more;
    }

    module _ (over : count ≤ place) where
      all_seen : (many byte_vector count).read bytes ≡ Some (keeps.seen, rest)
      all_seen = let none : count - place ≡ 0 = omega arith in sym (rw (none, append-nil) at keeps.left)

      pub filled : place ≤ count → rest ≡ [] → (texts : List (List ℕ)) × (whole ((many byte_vector count).read bytes) ≡ Some texts) × Walks f means texts walk
      filled le none = (keeps.seen, rw (all_seen, none) refl, settled walk keeps.so_far)
        where
          settled : (w : Walk) → SoFar count keeps.seen w → Walks f means keeps.seen w
          settled (Measured e) h = (h.0, record { count = omega (arith, h.1, keeps.many_seen); locals = h.2; nesting = h.3; names_data = h.4 })
          settled (Misfit i) h = h

      pub not_filled : ¬ (rest ≡ []) → whole ((many byte_vector count).read bytes) ≡ None
      not_filled some = rw all_seen (behind rest some)
        where
          behind : (r : List ℕ) → ¬ (r ≡ []) → whole (Some (keeps.seen, r)) ≡ None
          behind [] wrong = absurd (wrong refl)
          behind (a ∷ r) wrong = refl
