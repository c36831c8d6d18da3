-- `sized` keeps exactness, and what follows of `whole`.
use Rattle.std.proofs.Common.{◌≡◌, ℕ, List, [], ◌∷◌, option_and_then, Option, Some, None, refl, sym, ap, ◌∙◌}
use Rattle.std.proofs.lemmas.Option.{option_and_then_some, some_pair_parts, none-some, same_Some}
use Rattle.std.proofs.lemmas.List.{append-nil}
use Rattle.grammar_kit.specs.Form.{Form, raw, ◌>>=◌}
use Rattle.grammar_kit.specs.Exact.{Exact}
use Rattle.grammar_kit.proofs.Combinators.{exact_bind, exact_raw}
use Rattle.grammar_kit.proofs.Consequences.{read_whole, spells_whole}
use Rattle.grammar_kit.specs.Sequences.{whole, sized}

whole_some : {X : Type 0} (o : Option (X × List ℕ)) (x : X) → whole o ≡ Some x → o ≡ Some (x, [])
whole_some None x e = absurd cc
whole_some (Some (y, [])) x e = cc
whole_some (Some (y, b ∷ rest)) x e = absurd cc

pub exact_sized : {X : Type 0} (count : Form ℕ) (f : Form X) → Exact count → Exact f → Exact (sized count f)
exact_sized count f ec ef = record {
  sound = λ b x rest e. option_and_then_some _ ((count >>= raw).read b) (x, rest) e (λ p h k.
      option_and_then_some _ (whole (f.read p.0)) (x, rest) k (λ y filled made.
      let s = (exact_bind count raw ec exact_raw).sound b p.0 p.1 h in
      let q = some_pair_parts y x p.1 rest made in
      let inside = ef.sound p.0 y [] (whole_some (f.read p.0) y filled) in
      rw (← q.0, ← q.1) (s.0, s.1, (p.0, s.2, rw (inside.1 ∙ append-nil inside.0) inside.2))));
  complete = λ t x rest h.
      let all : f.read h.0 ≡ Some (x, []) = rw append-nil at (ef.complete h.0 x [] h.2) in
      rw ((exact_bind count raw ec exact_raw).complete t h.0 rest h.1, all) refl;
}

module _ {X : Type 0} (f : Form X) (exact : Exact f) (b : List ℕ) where
  -- what spells all of the bytes is read
  pub reads_whole : (x : X) → f.text b x → whole (f.read b) ≡ Some x
  reads_whole x h = ap whole (read_whole f exact b x h)

  -- and what is read spells them
  pub spells_read : (x : X) → whole (f.read b) ≡ Some x → f.text b x
  spells_read x h = spells_whole f exact b x (whole_some (f.read b) x h)

  pub none_read : (x : X) → whole (f.read b) ≡ None → f.text b x → ⊥
  none_read x none h = none-some x (sym none ∙ reads_whole x h)

  pub same_read : (x y : X) → whole (f.read b) ≡ Some y → f.text b x → x ≡ y
  same_read x y read h = same_Some x y (sym (reads_whole x h) ∙ read)
