-- More turns only lead further: what was done stays, and what was halted goes on from there. This is closed under
-- the ways in which runs are put together.
use Rattle.std.proofs.Common.{◌≡◌, ℕ, zero, suc, ◌-◌, ◌≤◌, List, [], ◌∷◌, map, refl, sym, ap, subst, arith}
use Rattle.outcome_kit.specs.Outcome.{Out, Done, Halt, after, bind, turn, place_of}
use Rattle.outcome_kit.specs.Code.{Res, Go, Leave, Sem, go_on, run, stands}

-- an order of places: the second is where the first is, or further on
pub record Order (H : Type 0) : Type 1 where
  pub Leads : H → H → Type 0
  pub stays : (a : H) → Leads a a
  pub joins : (a b c : H) → Leads a b → Leads b c → Leads a c

-- the second outcome is what more turns may make of the first
abbrev pub Extends : {H R : Type 0} → Order H → (R → H) → Out H R → Out H R → Type 0
Extends order at (Done used result) longer = longer ≡ Done used result
Extends order at (Halt here) longer = order.Leads here (place_of at longer)

-- a run that begins here leads on, and further with more turns
pub record Grows {H R : Type 0} (order : Order H) (at : R → H) (here : H) (f : ℕ → Out H R) : Type 0 where
  pub onward : (n : ℕ) → order.Leads here (place_of at (f n))
  pub extends : (n k : ℕ) → n ≤ k → Extends order at (f n) (f k)

place_after : {H R : Type 0} (order : Order H) (at : R → H) (a : H) (u : ℕ) (o : Out H R) → order.Leads a (place_of at o) → order.Leads a (place_of at (after u o))
place_after order at a u (Done v r) l = l
place_after order at a u (Halt h) l = l

extends_after : {H R : Type 0} (order : Order H) (at : R → H) (u : ℕ) (o longer : Out H R) → Extends order at o longer → Extends order at (after u o) (after u longer)
extends_after order at u (Done v r) longer e = ap (after u) e
extends_after order at u (Halt h) longer e = place_after order at h u longer e

-- a result that is there at once
pub grows_done : {H R : Type 0} (order : Order H) (at : R → H) (here : H) (used : ℕ) (r : R) → order.Leads here (at r) → Grows order at here (λ n. Done used r)
grows_done order at here used r l = record { onward = λ n. l; extends = λ n k le. refl }

extends_of : {H R : Type 0} (order : Order H) (at : R → H) (o longer : Out H R) → Extends order at o longer → order.Leads (place_of at o) (place_of at longer)
extends_of order at (Done u r) longer e = subst (λ o. order.Leads (at r) (place_of at o)) (sym e) (order.stays (at r))
extends_of order at (Halt h) longer e = e

-- with more turns the place is further on
pub grows_places : {H R : Type 0} (order : Order H) (at : R → H) (here : H) (f : ℕ → Out H R) → Grows order at here f → (n k : ℕ) → n ≤ k → order.Leads (place_of at (f n)) (place_of at (f k))
grows_places order at here f g n k le = extends_of order at (f n) (f k) (g.extends n k le)

-- a run that begins further on than where it is said to begin
pub grows_earlier : {H R : Type 0} (order : Order H) (at : R → H) (here start : H) (f : ℕ → Out H R) → order.Leads here start → Grows order at start f → Grows order at here f
grows_earlier order at here start f l g = record { onward = λ n. order.joins here start (place_of at (f n)) l (g.onward n); extends = g.extends }

turn_onward : {H R : Type 0} (order : Order H) (at : R → H) (here : H) (f : ℕ → Out H R) → Grows order at here f → (n : ℕ) → order.Leads here (place_of at (turn n here f))
turn_onward order at here f g zero = order.stays here
turn_onward order at here f g (suc n) = place_after order at here 1 (f n) (g.onward n)

turn_extends : {H R : Type 0} (order : Order H) (at : R → H) (here : H) (f : ℕ → Out H R) → Grows order at here f → (n k : ℕ) → n ≤ k → Extends order at (turn n here f) (turn k here f)
turn_extends order at here f g zero k le = turn_onward order at here f g k
turn_extends order at here f g (suc n) zero le = let no : ⊥ = omega arith in absurd no
turn_extends order at here f g (suc n) (suc k) le = let less : n ≤ k = omega arith in extends_after order at 1 (f n) (f k) (g.extends n k less)

-- a turn before a run
pub grows_turn : {H R : Type 0} (order : Order H) (at : R → H) (here : H) (f : ℕ → Out H R) → Grows order at here f → Grows order at here (λ n. turn n here f)
grows_turn order at here f g = record { onward = turn_onward order at here f g; extends = turn_extends order at here f g }

module _ {H R S : Type 0} (order : Order H) (at : R → H) (at' : S → H) (k : R → ℕ → Out H S) (next : (r : R) → Grows order at' (at r) (k r)) where
  bind_onward : (here : H) (n : ℕ) (o : Out H R) → order.Leads here (place_of at o) → order.Leads here (place_of at' (bind n o k))
  bind_onward here n (Done u r) l = place_after order at' here u (k r (n - u)) (order.joins here (at r) _ l ((next r).onward (n - u)))
  bind_onward here n (Halt h) l = l

  bind_extends : (n m : ℕ) (o longer : Out H R) → n ≤ m → Extends order at o longer → Extends order at' (bind n o k) (bind m longer k)
  bind_extends n m (Done u r) longer le e =
      let less : n - u ≤ m - u = omega arith in
      let more = extends_after order at' u (k r (n - u)) (k r (m - u)) ((next r).extends (n - u) (m - u) less) in
      subst (λ o. Extends order at' (after u (k r (n - u))) (bind m o k)) (sym e) more
  bind_extends n m (Halt h) longer le e = bind_onward h m longer e

  -- a run, and then another on its result
  pub grows_bind : (here : H) (f : ℕ → Out H R) → Grows order at here f → Grows order at' here (λ n. bind n (f n) k)
  grows_bind here f g = record {
    onward = λ n. bind_onward here n (f n) (g.onward n);
    extends = λ n m le. bind_extends n m (f n) (f m) le (g.extends n m le);
  }

-- a part grows from wherever it begins
pub record GrowsFrom {H J C : Type 0} (order : Order H) (at : C → H) (a : ℕ → C → Out H (Res J C)) : Type 0 where
  pub from : (c : C) → Grows order (λ r. at (stands r)) (at c) (λ n. a n c)

go_on_grows : {H J C : Type 0} (order : Order H) (at : C → H) (k : ℕ → C → Out H (Res J C)) → GrowsFrom order at k → (r : Res J C) → Grows order (λ s. at (stands s)) (at (stands r)) (go_on k r)
go_on_grows order at k g (Go c) = g.from c
go_on_grows order at k g (Leave j c) = grows_done order (λ s. at (stands s)) (at c) 0 (Leave j c) (order.stays (at c))

-- the end of a list of parts, and a part before others
pub grows_end : {H J C : Type 0} (order : Order H) (at : C → H) (d : ℕ) → GrowsFrom {J = J} order at (run [] d)
grows_end order at d = record { from = λ c. grows_done order (λ s. at (stands s)) (at c) 0 (Go c) (order.stays (at c)) }

pub grows_part : {H J C : Type 0} (order : Order H) (at : C → H) (a : Sem H J C) (parts : List (Sem H J C)) (d : ℕ) → GrowsFrom order at (a d) → GrowsFrom order at (run parts d) → GrowsFrom order at (run (a ∷ parts) d)
grows_part order at a parts d g more = record {
  from = λ c.
      grows_bind order (λ s. at (stands s)) (λ s. at (stands s)) (go_on (run parts d)) (go_on_grows order at (run parts d) more) (at c) (λ n. a d n c) (g.from c);
}

-- the parts that a list of instructions stands for
pub grows_run : {H J C X : Type 0} (order : Order H) (at : C → H) (part : X → Sem H J C) (d : ℕ) → ((x : X) → GrowsFrom order at (part x d)) → (xs : List X) → GrowsFrom order at (run (map part xs) d)
grows_run order at part d each [] = grows_end order at d
grows_run order at part d each (x ∷ xs) = grows_part order at (part x) (map part xs) d (each x) (grows_run order at part d each xs)
