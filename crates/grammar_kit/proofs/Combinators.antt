-- The combinators keep exactness. A composite form is exact by `search (exact_rules, ..) depth 12`, with the
-- exactness of the forms that it names in the list.
use Rattle.std.proofs.Common.{◌≡◌, ℕ, zero, suc, ◌≤◌, List, [], ◌∷◌, ◌++◌, length, take, drop, Bool, true, false, cond, ltb, Option, Some, None, refl, sym, ap, ◌∙◌, append_assoc, arith}
use Rattle.std.proofs.lemmas.Option.{option_and_then_some, some_pair_parts}
use Rattle.std.proofs.lemmas.Bool.{ltb-false, le-ltb}
use Rattle.std.proofs.lemmas.List.{take_at, drop_at, take-append-drop, length-append, length-take}
use Rattle.grammar_kit.specs.Form.{Form, never, always, first, byte, raw, when, ◌>>=◌, many, vector}
use Rattle.grammar_kit.specs.Choice.{given, given_or}
use Rattle.grammar_kit.specs.Exact.{Exact}

pub exact_never : {X : Type 0} → Exact (never {X = X})
exact_never = record {
  sound = λ b x rest e. absurd cc;
  complete = λ t x rest h. absurd h;
}

pub exact_always : {X : Type 0} (x : X) → Exact (always x)
exact_always x = record {
  sound = λ b y rest e. let p = some_pair_parts x y b rest e in ([], p.1, (refl, sym p.0));
  complete = λ t y rest h. rw (h.0, h.1) refl;
}

first_sound : (b : List ℕ) (n : ℕ) (rest : List ℕ) → first b ≡ Some (n, rest) → (t : List ℕ) × (b ≡ t ++ rest) × (t ≡ n ∷ [])
first_sound [] n rest e = absurd cc
first_sound (m ∷ b) n rest e = let p = some_pair_parts m n b rest e in (n ∷ [], cc, refl)

pub exact_byte : Exact byte
exact_byte = record {
  sound = first_sound;
  complete = λ t n rest h. rw h refl;
}

-- a test that did not refuse
passed : {A : Type 0} (b : Bool) (x y : A) → cond b None (Some x) ≡ Some y → (b ≡ false) × (x ≡ y)
passed true x y e = absurd cc
passed false x y e = (refl, cc)

pub exact_raw : (n : ℕ) → Exact (raw n)
exact_raw n = record {
  sound = λ b x rest e.
      let p = passed (ltb (length b) n) (take n b, drop n b) (x, rest) e in
      let long : n ≤ length b = ltb-false _ _ p.0 in
      let front : take n b ≡ x = ap (λ (q : List ℕ × List ℕ). q.0) p.1 in
      let after : drop n b ≡ rest = ap (λ (q : List ℕ × List ℕ). q.1) p.1 in
      (take n b, rw (← after) (sym (take-append-drop n b)), (front, rw (← front) (omega (arith, length-take n b))));
  complete = λ t x rest h.
      let long : ltb (length (t ++ rest)) n ≡ false = le-ltb _ _ (omega (arith, length-append t rest, ap length h.0)) in
      let len : length t ≡ n = ap length h.0 ∙ h.1 in
      rw (long, take_at t rest n len, drop_at t rest n len, h.0) refl;
}

pub exact_when : {X : Type 0} (test : Bool) (f g : Form X) → Exact f → Exact g → Exact (when test f g)
exact_when true f g ef eg = record { sound = ef.sound; complete = ef.complete }
exact_when false f g ef eg = record { sound = eg.sound; complete = eg.complete }

pub exact_bind : {X Y : Type 0} (f : Form X) (g : X → Form Y) → Exact f → ((x : X) → Exact (g x)) → Exact (f >>= g)
exact_bind f g ef eg = record {
  sound = λ b y rest e. option_and_then_some _ (f.read b) (y, rest) e (λ p h k.
      let s = ef.sound b p.0 p.1 h in
      let r = (eg p.0).sound p.1 y rest k in
      (s.0 ++ r.0, s.1 ∙ ap (λ (u : List ℕ). s.0 ++ u) r.1 ∙ sym (append_assoc s.0 r.0 rest), (p.0, s.0, r.0, refl, s.2, r.2)));
  complete = λ t y rest h.
      let e : t ++ rest ≡ h.1 ++ (h.2 ++ rest) = ap (λ (u : List ℕ). u ++ rest) h.3 ∙ append_assoc h.1 h.2 rest in
      rw (e, ef.complete h.1 h.0 (h.2 ++ rest) h.4) ((eg h.0).complete h.2 y rest h.5);
}

pub exact_many : {X : Type 0} (f : Form X) (n : ℕ) → Exact f → Exact (many f n)
exact_many f zero ef = exact_always []
exact_many f (suc n) ef = exact_bind _ _ ef (λ x. exact_bind _ _ (exact_many f n ef) (λ xs. exact_always (x ∷ xs)))

pub exact_vector : {X : Type 0} (count : Form ℕ) (f : Form X) → Exact count → Exact f → Exact (vector count f)
exact_vector count f ec ef = exact_bind _ _ ec (λ n. exact_many f n ef)

pub exact_given : {X : Type 0} (o : Option X) → Exact (given o)
exact_given (Some x) = exact_always x
exact_given None = exact_never

pub exact_given_or : {X : Type 0} (o : Option X) (f : Form X) → Exact f → Exact (given_or o f)
exact_given_or (Some x) f ef = exact_always x
exact_given_or None f ef = ef

pub ruleset exact_rules = (exact_never, exact_always, exact_byte, exact_raw, exact_when, exact_bind, exact_many, exact_vector, exact_given, exact_given_or)
