-- What the types of a version owe, and what follows for operands.
use Rattle.std.proofs.Common.{◌≡◌, Bool, true, List, [], ◌∷◌, ◌++◌, reverse, refl, ap, sym, subst, ◌∙◌}
use Rattle.typing_kit.specs.declared.kind.Kind.{Kind}
use Rattle.typing_kit.specs.declared.kind.Kind.TheVariants.{Plain}
use Rattle.typing_kit.specs.declared.operand.Operand.{Operand}
use Rattle.typing_kit.specs.declared.operand.Operand.TheVariants.{Known, Bottom}
use Rattle.typing_kit.specs.Matching.{IsOf, Matches, AllMatch}
use Rattle.typing_kit.specs.Form.{Language}
use Rattle.typing_kit.proofs.Lists.{reverse-cons}

pub record Lawful {T I : Type 0} (L : Language T I) : Type 0 where
  pub reflexive : (t : T) → L.sub t t ≡ true
  pub transitive : (a b c : T) → L.sub a b ≡ true → L.sub b c ≡ true → L.sub a c ≡ true
  -- what matches a type of a kind is of the kind
  pub of_kinds : (kind : Kind) (s t : T) → L.of_kind kind t ≡ true → L.sub s t ≡ true → L.of_kind kind s ≡ true
  -- a plain type is matched by itself alone
  pub alone : (s t : T) → L.of_kind Plain t ≡ true → L.sub s t ≡ true → s ≡ t

-- where types match that are equal, and no others
pub lawful_of_equality : {T I : Type 0} (L : Language T I) → ((t : T) → L.sub t t ≡ true) → ((s t : T) → L.sub s t ≡ true → s ≡ t) → Lawful L
lawful_of_equality L same equal = record {
  reflexive = same;
  transitive = λ a b c p q. ap (λ x. L.sub a x) (sym (equal b c q)) ∙ p;
  of_kinds = λ kind s t k p. ap (L.of_kind kind) (equal s t p) ∙ k;
  alone = λ s t k p. equal s t p;
}

module _ {T I : Type 0} (L : Language T I) (laws : Lawful L) where
  pub match_refl : (o : Operand T) → Matches L.sub o o
  match_refl (Known t) = laws.reflexive t
  match_refl Bottom = tt

  pub match_trans : (a b c : Operand T) → Matches L.sub a b → Matches L.sub b c → Matches L.sub a c
  match_trans Bottom b c p q = tt
  match_trans (Known s) (Known t) (Known u) p q = laws.transitive s t u p q
  match_trans (Known s) (Known t) Bottom p q = absurd q
  match_trans (Known s) Bottom c p q = absurd p

  pub all_refl : (s : List (Operand T)) → AllMatch L.sub s s
  all_refl [] = tt
  all_refl (a ∷ s) = (match_refl a, all_refl s)

  pub all_trans : (s t u : List (Operand T)) → AllMatch L.sub s t → AllMatch L.sub t u → AllMatch L.sub s u
  all_trans [] [] u p q = q
  all_trans [] (b ∷ t) u p q = absurd p
  all_trans (a ∷ s) [] u p q = absurd p
  all_trans (a ∷ s) (b ∷ t) [] p q = absurd q
  all_trans (a ∷ s) (b ∷ t) (c ∷ u) p q = (match_trans a b c p.0 q.0, all_trans s t u p.1 q.1)

  pub is_of_below : (kind : Kind) (a b : Operand T) → Matches L.sub a b → IsOf (L.of_kind kind) b → IsOf (L.of_kind kind) a
  is_of_below kind Bottom b m k = tt
  is_of_below kind (Known s) (Known t) m k = laws.of_kinds kind s t k m
  is_of_below kind (Known s) Bottom m k = absurd m

module _ {T : Type 0} (sub : T → T → Bool) where
  pub all_append : (a b c d : List (Operand T)) → AllMatch sub a b → AllMatch sub c d → AllMatch sub (a ++ c) (b ++ d)
  all_append [] [] c d p q = q
  all_append [] (y ∷ b) c d p q = absurd p
  all_append (x ∷ a) [] c d p q = absurd p
  all_append (x ∷ a) (y ∷ b) c d p q = (p.0, all_append a b c d p.1 q)

  pub all_reverse : (a b : List (Operand T)) → AllMatch sub a b → AllMatch sub (reverse a) (reverse b)
  all_reverse [] [] p = tt
  all_reverse [] (y ∷ b) p = absurd p
  all_reverse (x ∷ a) [] p = absurd p
  all_reverse (x ∷ a) (y ∷ b) p =
      subst (λ l. AllMatch sub l (reverse (y ∷ b))) (sym (reverse-cons x a))
      (subst (λ l. AllMatch sub (reverse a ++ x ∷ []) l) (sym (reverse-cons y b))
      (all_append (reverse a) (reverse b) (x ∷ []) (y ∷ []) (all_reverse a b p.1) (p.0, tt)))

  -- a list that matches two parts has two parts
  pub record Parts (s a b : List (Operand T)) : Type 0 where
    pub front : List (Operand T)
    pub back : List (Operand T)
    pub is : s ≡ front ++ back
    pub front_matches : AllMatch sub front a
    pub back_matches : AllMatch sub back b

  pub all_split : (s a b : List (Operand T)) → AllMatch sub s (a ++ b) → Parts s a b
  all_split s [] b p = record { front = []; back = s; is = refl; front_matches = tt; back_matches = p }
  all_split [] (x ∷ a) b p = absurd p
  all_split (o ∷ s) (x ∷ a) b p =
      let r = all_split s a b p.1 in
      record { front = o ∷ r.front; back = r.back; is = ap (λ l. o ∷ l) r.is; front_matches = (p.0, r.front_matches); back_matches = r.back_matches }
