-- What follows of each form that is exact.
use Rattle.std.proofs.Common.{◌≡◌, ℕ, List, [], ◌++◌, Some, None, sym, ap, subst, ◌∙◌}
use Rattle.std.proofs.lemmas.Option.{some_pair_parts}
use Rattle.std.proofs.lemmas.List.{append-nil, append_cancel_right}
use Rattle.grammar_kit.specs.Form.{Form}
use Rattle.grammar_kit.specs.Exact.{Exact}

module _ {X : Type 0} (f : Form X) (exact : Exact f) where
  -- what spells the whole text is read, with nothing after it
  pub read_whole : (b : List ℕ) (x : X) → f.text b x → f.read b ≡ Some (x, [])
  read_whole b x h = rw append-nil at (exact.complete b x [] h)

  -- a whole text that is read is spelled
  pub spells_whole : (b : List ℕ) (x : X) → f.read b ≡ Some (x, []) → f.text b x
  spells_whole b x e =
      let s = exact.sound b x [] e in
      subst (λ (t : List ℕ). f.text t x) (sym (s.1 ∙ append-nil s.0)) s.2

  -- a text spells at most one value
  pub one_value : (b : List ℕ) (x y : X) → f.text b x → f.text b y → x ≡ y
  one_value b x y p q = (some_pair_parts x y [] [] (sym (read_whole b x p) ∙ read_whole b y q)).0

  -- no front of the bytes spells anything where nothing is read
  pub none_spells : (b t rest : List ℕ) (x : X) → f.read b ≡ None → b ≡ t ++ rest → f.text t x → ⊥
  none_spells b t rest x e cut h = let k = exact.complete t x rest h in absurd cc

  -- of two fronts that spell values each is the other
  pub one_front : (t u rest after : List ℕ) (x y : X) → t ++ rest ≡ u ++ after → f.text t x → f.text u y → (t ≡ u) × (x ≡ y) × (rest ≡ after)
  one_front t u rest after x y e p q =
      let k = some_pair_parts x y rest after (sym (exact.complete t x rest p) ∙ ap f.read e ∙ exact.complete u y after q) in
      (append_cancel_right t u after (ap (λ (r : List ℕ). t ++ r) (sym k.1) ∙ e), k.0, k.1)

  -- the front, its value and the rest are those that are read
  pub front_is_read : (b t rest after : List ℕ) (x y : X) → f.read b ≡ Some (y, after) → b ≡ t ++ rest → f.text t x → (x ≡ y) × (rest ≡ after)
  front_is_read b t rest after x y e cut h =
      some_pair_parts x y rest after (sym (exact.complete t x rest h) ∙ sym (ap f.read cut) ∙ e)

  -- where bytes are left behind what is read, no value has the whole text
  pub nothing_left : (b rest : List ℕ) (x y : X) → f.read b ≡ Some (x, rest) → f.text b y → rest ≡ []
  nothing_left b rest x y e h = (some_pair_parts x y rest [] (sym e ∙ read_whole b y h)).1
