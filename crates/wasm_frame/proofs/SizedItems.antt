-- Items behind their sizes: cutting them first and reading each one after is reading them in one go.
use Rattle.std.proofs.Common.{◌≡◌, ℕ, zero, suc, List, [], ◌∷◌, ◌++◌, refl, sym, ap, ◌∙◌}
use Rattle.std.proofs.lemmas.List.{append-nil}
use Rattle.grammar_kit.specs.Form.{Form, raw, many, vector, ◌>>=◌}
use Rattle.grammar_kit.specs.Sequences.{sized}
use Rattle.wasm_frame.specs.Payloads.{Each}

-- a first item, and the others
record Front {X : Type 0} (g : Form X) (n : ℕ) (b : List ℕ) (x : X) (xs : List X) : Type 0 where
  text : List ℕ
  rest : List ℕ
  cut : b ≡ text ++ rest
  first : g.text text x
  others : (many g n).text rest xs

front_of : {X : Type 0} (g : Form X) (n : ℕ) (b : List ℕ) (x : X) (xs : List X) → (many g (suc n)).text b (x ∷ xs) → Front g n b x xs
front_of g n b x xs h =
    let item : h.0 ≡ x = cc h.5.5.1 in
    let items : h.5.0 ≡ xs = cc h.5.5.1 in
    let all : h.5.1 ≡ h.2 = sym (h.5.3 ∙ ap (λ (u : List ℕ). h.5.1 ++ u) h.5.5.0 ∙ append-nil h.5.1) in
    record {
      text = h.1;
      rest = h.2;
      cut = h.3;
      first = rw item at h.4;
      others = rw (items, all) at h.5.4;
    }

of_front : {X : Type 0} (g : Form X) (n : ℕ) (b : List ℕ) (x : X) (xs : List X) → Front g n b x xs → (many g (suc n)).text b (x ∷ xs)
of_front g n b x xs p = (x, p.text, p.rest, p.cut, p.first, (xs, p.rest, [], sym (append-nil p.rest), p.others, (refl, refl)))

module _ {X : Type 0} (count : Form ℕ) (f : Form X) where
  many_sized : (n : ℕ) (b : List ℕ) (texts : List (List ℕ)) (xs : List X) → (many (count >>= raw) n).text b texts → Each f.text texts xs → (many (sized count f) n).text b xs
  many_sized zero b [] [] h each = (h.0, refl)
  many_sized zero b [] (x ∷ xs) h each = absurd each
  many_sized zero b (t ∷ texts) xs h each = absurd cc
  many_sized (suc n) b [] xs h each = absurd (cc h.5.5.1)
  many_sized (suc n) b (t ∷ texts) [] h each = absurd each
  many_sized (suc n) b (t ∷ texts) (x ∷ xs) h each =
      let p = front_of (count >>= raw) n b t texts h in
      of_front (sized count f) n b x xs (record {
        text = p.text;
        rest = p.rest;
        cut = p.cut;
        first = (t, p.first, each.0);
        others = many_sized n p.rest texts xs p.others each.1;
      })

  many_cut : (n : ℕ) (b : List ℕ) (xs : List X) → (many (sized count f) n).text b xs → (texts : List (List ℕ)) × (many (count >>= raw) n).text b texts × Each f.text texts xs
  many_cut zero b [] h = ([], (h.0, refl), tt)
  many_cut zero b (x ∷ xs) h = absurd cc
  many_cut (suc n) b [] h = absurd (cc h.5.5.1)
  many_cut (suc n) b (x ∷ xs) h =
      let p = front_of (sized count f) n b x xs h in
      let others = many_cut n p.rest xs p.others in
      (p.first.0 ∷ others.0, of_front (count >>= raw) n b p.first.0 others.0 (record { text = p.text; rest = p.rest; cut = p.cut; first = p.first.1; others = others.1 }), (p.first.2, others.2))

  -- items that are cut and then read are read in one go
  pub vector_sized : (b : List ℕ) (texts : List (List ℕ)) (xs : List X) → (vector count (count >>= raw)).text b texts → Each f.text texts xs → (vector count (sized count f)).text b xs
  vector_sized b texts xs h each = (h.0, h.1, h.2, h.3, h.4, many_sized h.0 h.2 texts xs h.5 each)

  -- and the other way round
  pub vector_cut : (b : List ℕ) (xs : List X) → (vector count (sized count f)).text b xs → (texts : List (List ℕ)) × (vector count (count >>= raw)).text b texts × Each f.text texts xs
  vector_cut b xs h = let c = many_cut h.0 h.2 xs h.5 in (c.0, (h.0, h.1, h.2, h.3, h.4, c.1), c.2)
