-- Vectors that fill a payload, and what one content says of another.
use Rattle.std.proofs.Common.{◌≡◌, ℕ, zero, suc, Bool, true, false, cond, ◌+◌, ◌<◌, List, [], ◌∷◌, length, map, drop, Option, Some, None, refl, sym, ap, subst, ◌∙◌, arith}
use Rattle.std.specs.Prelude.{MatchOption, Result, Ok, Err, IfOk, IsTrue, ◌↔◌, ◌==◌, slice_range, option_map}
use Rattle.std.specs.List.{AllByRecursion}
use Rattle.std.proofs.Math.ListN.{get_or}
use Rattle.std.proofs.lemmas.List.{drop-map}
use Rattle.std.proofs.Math.Seq.{drop-cons}
use Rattle.std.proofs.lemmas.Option.{some_pair_parts, option_and_then_some, same_Some}
use Rattle.std.proofs.lemmas.Bool.{eqb-true}
use Rattle.grammar_kit.specs.Form.{Form, many}
use Rattle.grammar_kit.specs.Exact.{Exact}
use Rattle.grammar_kit.specs.Measures.{through, extent}
use Rattle.grammar_kit.specs.Sequences.{whole}
use Rattle.grammar_kit.proofs.Consequences.{one_value}
use Rattle.grammar_kit.proofs.Sequences.{reads_whole, spells_read}
use Rattle.wasm_frame.specs.declared.sections.Section.{Section}
use Rattle.wasm_frame.specs.Frame.{Part, parts_of}
use Rattle.wasm_frame.specs.Payloads.{payload_of, Content, IsSpelled, IsRead, value, Each, FirstWithout, counted}

module _ {X : Type 0} where
  pub many_length : (f : Form X) (n : ℕ) (b : List ℕ) (xs : List X) (rest : List ℕ) → (many f n).read b ≡ Some (xs, rest) → length xs ≡ n
  many_length f zero b xs rest e = ap length (sym (some_pair_parts [] xs b rest e).0)
  many_length f (suc n) b xs rest e = option_and_then_some _ (f.read b) (xs, rest) e (λ p h k.
      option_and_then_some _ ((many f n).read p.1) (xs, rest) k (λ q more made.
      let tail : length q.0 ≡ n = many_length f n p.1 q.0 q.1 more in
      let all : p.0 ∷ q.0 ≡ xs = (some_pair_parts (p.0 ∷ q.0) xs q.1 rest made).0 in
      sym (ap length all) ∙ omega (arith, tail)))

  -- however large they are, there are as many as were asked for
  pub counted_front : (f : Form X) (size : X → ℕ) (n : ℕ) (b rest : List ℕ) (g t : ℕ) → through (extent size) ((many f n).read b) ≡ Some ((g, t), rest) → through length ((many f n).read b) ≡ Some (n, rest)
  counted_front f size n b rest g t h = step ((many f n).read b) refl h
    where
      step : (o : Option (List X × List ℕ)) → (many f n).read b ≡ o → through (extent size) o ≡ Some ((g, t), rest) → through length o ≡ Some (n, rest)
      step None same k = absurd cc
      step (Some (xs, after)) same k = rw (many_length f n b xs after same, (some_pair_parts (extent size xs) (g, t) after rest k).1) refl

  -- entries that fill the bytes, with their extent
  pub counted_whole : (f : Form X) (size : X → ℕ) (n : ℕ) (b rest : List ℕ) (g t : ℕ) → through (extent size) ((many f n).read b) ≡ Some ((g, t), rest) → rest ≡ [] → option_map (counted size) (whole ((many f n).read b)) ≡ Some (n, g, t)
  counted_whole f size n b rest g t h none = step ((many f n).read b) refl h
    where
      step : (o : Option (List X × List ℕ)) → (many f n).read b ≡ o → through (extent size) o ≡ Some ((g, t), rest) → option_map (counted size) (whole o) ≡ Some (n, g, t)
      step None same k = absurd cc
      step (Some (xs, [])) same k =
          let parts = some_pair_parts (extent size xs) (g, t) [] rest k in
          rw (many_length f n b xs [] same, ← (ap (λ (e : ℕ × ℕ). e.0) parts.0), ← (ap (λ (e : ℕ × ℕ). e.1) parts.0)) refl
      step (Some (xs, (a ∷ more))) same k =
          let parts = some_pair_parts (extent size xs) (g, t) (a ∷ more) rest k in
          absurd (cc (parts.1 ∙ none))

-- a search for the first item without a property that has come to the place i: what the items from there on say is what all
-- of them say
abbrev pub RestOf : {X : Type 0} → (X → Type 0) → List X → ℕ → Type 0
RestOf P xs i = (AllByRecursion P (drop i xs) → AllByRecursion P xs) × ((k : ℕ) → FirstWithout P (drop i xs) k → FirstWithout P xs (i + k))

module _ {X : Type 0} (P : X → Type 0) (xs : List X) (i : ℕ) (rest : RestOf P xs i) (x : X) (next : drop i xs ≡ x ∷ drop (i + 1) xs) where
  pub without_here : (P x → ⊥) → FirstWithout P xs i
  without_here wrong =
      let at : i + 0 ≡ i = omega arith in
      subst (λ (n : ℕ). FirstWithout P xs n) at (rest.1 0 (subst (λ (ys : List X). FirstWithout P ys 0) (sym next) wrong))

  pub with_here : P x → RestOf P xs (i + 1)
  with_here right = (
    λ others. rest.0 (subst (λ (ys : List X). AllByRecursion P ys) (sym next) (right, others)),
    λ k first.
        let at : i + suc k ≡ i + 1 + k = omega arith in
        subst (λ (n : ℕ). FirstWithout P xs n) at (rest.1 (suc k) (subst (λ (ys : List X). FirstWithout P ys (suc k)) (sym next) (right, first))),
  )

pub next_item : {X : Type 0} (xs : List X) (i : ℕ) (d : X) → i < length xs → drop i xs ≡ get_or xs i d ∷ drop (i + 1) xs
next_item xs i d lt =
    let after : suc i ≡ i + 1 = omega arith in
    drop-cons xs i d lt ∙ ap (λ (n : ℕ). get_or xs i d ∷ drop n xs) after

abbrev pub no_section : Section
no_section = record { id = 0; start = 0; end = 0 }

abbrev pub part_at : List ℕ → List Section → ℕ → Part
part_at b found i = let x : Section = get_or found i no_section in record { id = x.id; payload = slice_range b x.start x.end }

-- the next section, and those behind it
pub next_part : (b : List ℕ) (found : List Section) (i : ℕ) → i < length found → drop i (parts_of b found) ≡ part_at b found i ∷ drop (i + 1) (parts_of b found)
next_part b found i lt =
    let part : Section → Part = λ x. record { id = x.id; payload = slice_range b x.start x.end } in
    drop-map part i found ∙ ap (map part) (next_item found i no_section lt) ∙ ap (λ (ps : List Part). part_at b found i ∷ ps) (sym (drop-map part (i + 1) found))

module _ {X : Type 0} (f : Form X) (exact : Exact f) (none : X) where
  one_entry : (o : Option (List ℕ)) (x y : X) → MatchOption o (x ≡ none) (λ p. f.text p x) → MatchOption o (y ≡ none) (λ p. f.text p y) → x ≡ y
  one_entry None x y h k = h ∙ sym k
  one_entry (Some p) x y h k = one_value f exact p x y h k

  -- a section spells one content at most
  pub one_content : (id : ℕ) (parts others : List Part) (x y : X) → parts ≡ others → Content id f none parts x → Content id f none others y → x ≡ y
  one_content id parts others x y same h k =
      one_entry (payload_of id parts) x y h (subst (λ (ps : List Part). Content id f none ps y) (sym same) k)

-- and so do texts that are spelled one by one
pub each_one : {X : Type 0} (f : Form X) (exact : Exact f) (texts : List (List ℕ)) (xs ys : List X) → Each f.text texts xs → Each f.text texts ys → xs ≡ ys
each_one f exact [] [] [] h k = refl
each_one f exact [] (x ∷ xs) ys h k = absurd h
each_one f exact [] xs (y ∷ ys) h k = absurd k
each_one f exact (t ∷ texts) [] ys h k = absurd h
each_one f exact (t ∷ texts) (x ∷ xs) [] h k = absurd k
each_one f exact (t ∷ texts) (x ∷ xs) (y ∷ ys) h k =
    let item = one_value f exact t x y h.0 k.0 in
    let items = each_one f exact texts xs ys h.1 k.1 in
    cc

module _ {X : Type 0} (f : Form X) (exact : Exact f) (b : List ℕ) where
  pub spelled_of_read : IsRead f b → IsSpelled f b
  spelled_of_read h = (h.0, spells_read f exact b h.0 h.1)

  pub read_of_spelled : IsSpelled f b → IsRead f b
  read_of_spelled h = (h.0, reads_whole f exact b h.0 h.1)

-- what is read of a payload, where the payload spells something
module _ {X : Type 0} (f : Form X) (exact : Exact f) (none : X) where
  -- a section's content is what its payload is read as
  pub content_value : (id : ℕ) (parts : List Part) (x : X) → Content id f none parts x → x ≡ value f none (payload_of id parts)
  content_value id parts x h = step (payload_of id parts) h
    where
      step : (o : Option (List ℕ)) → MatchOption o (x ≡ none) (λ p. f.text p x) → x ≡ value f none o
      step None h = h
      step (Some p) h = rw (reads_whole f exact p x h) refl

  -- and what it is read as is its content, where each section spells something
  pub value_content : (id : ℕ) (parts : List Part) → ((p : List ℕ) → payload_of id parts ≡ Some p → IsSpelled f p) → Content id f none parts (value f none (payload_of id parts))
  value_content id parts spelled = step (payload_of id parts) spelled
    where
      step : (o : Option (List ℕ)) → ((p : List ℕ) → o ≡ Some p → IsSpelled f p) → MatchOption o (value f none o ≡ none) (λ p. f.text p (value f none o))
      step None h = refl
      step (Some p) h = let s = h p refl in rw (reads_whole f exact p s.0 s.1) s.1

-- a fact of all sections is one of each payload
pub fact_of_payload : (P : ℕ → List ℕ → Type 0) (id : ℕ) (parts : List Part) (p : List ℕ) → AllByRecursion (λ s. P s.id s.payload) parts → payload_of id parts ≡ Some p → P id p
fact_of_payload P id [] p all e = absurd cc
fact_of_payload P id (s ∷ parts) p all e = step (s.id == id) refl (λ k. fact_of_payload P id parts p all.1 k) e
  where
    step : (test : Bool) → (s.id == id) ≡ test → (payload_of id parts ≡ Some p → P id p) → cond test (Some s.payload) (payload_of id parts) ≡ Some p → P id p
    step true same others e = subst (λ (i : ℕ). P i p) (eqb-true s.id id same) (subst (λ (q : List ℕ). P s.id q) (same_Some s.payload p e) all.0)
    step false other others e = others e
