-- The laws of putting runs together.
use Rattle.std.proofs.Common.{◌≡◌, ℕ, ◌+◌, ◌-◌, List, [], ◌∷◌, ◌++◌, refl, sym, ap, ◌∙◌, add_assoc, zero-add, add-zero}
use Rattle.std.proofs.Math.Nat.{sub-add-eq, sub-zero}
use Rattle.outcome_kit.specs.Outcome.{Out, Done, Halt, after, bind, place_of}
use Rattle.outcome_kit.specs.Code.{Res, Go, Leave, Sem, go_on, run}

pub after-zero : {H R : Type 0} (o : Out H R) → after 0 o ≡ o
after-zero (Done v r) = ap (λ u. Done u r) (zero-add v)
after-zero (Halt h) = refl

pub after-add : {H R : Type 0} (u v : ℕ) (o : Out H R) → after (u + v) o ≡ after u (after v o)
after-add u v (Done w r) = ap (λ k. Done k r) (add_assoc u v w)
after-add u v (Halt h) = refl

pub place_of-after : {H R : Type 0} (at : R → H) (u : ℕ) (o : Out H R) → place_of at (after u o) ≡ place_of at o
place_of-after at u (Done v r) = refl
place_of-after at u (Halt h) = refl

-- a result that is there at once, and what goes on from it
pub bind-done : {H R S : Type 0} (n : ℕ) (r : R) (k : R → ℕ → Out H S) → bind n (Done 0 r) k ≡ k r n
bind-done n r k = after-zero (k r (n - 0)) ∙ ap (k r) (sub-zero n)

-- a run that is followed by nothing
pub bind-unit : {H R : Type 0} (n : ℕ) (o : Out H R) → bind n o (λ r m. Done 0 r) ≡ o
bind-unit n (Done u r) = ap (λ v. Done v r) (add-zero u)
bind-unit n (Halt h) = refl

pub bind-after : {H R S : Type 0} (n u : ℕ) (o : Out H R) (k : R → ℕ → Out H S) → bind n (after u o) k ≡ after u (bind (n - u) o k)
bind-after n u (Done v r) k = after-add u v (k r (n - (u + v))) ∙ ap (λ m. after u (after v (k r m))) (sub-add-eq n u v)
bind-after n u (Halt h) k = refl

-- runs in a row, grouped either way
pub bind-bind : {H R S T : Type 0} (n : ℕ) (o : Out H R) (k : R → ℕ → Out H S) (l : S → ℕ → Out H T) → bind n (bind n o k) l ≡ bind n o (λ r m. bind m (k r m) l)
bind-bind n (Done u r) k l = bind-after n u (k r (n - u)) l
bind-bind n (Halt h) k l = refl

-- what goes on alike from each result
pub bind-same : {H R S : Type 0} (n : ℕ) (o : Out H R) (k l : R → ℕ → Out H S) → ((r : R) (m : ℕ) → k r m ≡ l r m) → bind n o k ≡ bind n o l
bind-same n (Done u r) k l e = ap (after u) (e r (n - u))
bind-same n (Halt h) k l e = refl

go_on-go_on : {H J C : Type 0} (k l : ℕ → C → Out H (Res J C)) (r : Res J C) (m : ℕ) → bind m (go_on k r m) (go_on l) ≡ go_on (λ i c. bind i (k i c) (go_on l)) r m
go_on-go_on k l (Go c) m = refl
go_on-go_on k l (Leave j c) m = bind-done m (Leave j c) (go_on l)

go_on-same : {H J C : Type 0} (k l : ℕ → C → Out H (Res J C)) → ((n : ℕ) (c : C) → k n c ≡ l n c) → (r : Res J C) (m : ℕ) → go_on k r m ≡ go_on l r m
go_on-same k l e (Go c) m = e m c
go_on-same k l e (Leave j c) m = refl

-- one list of parts after another
pub run-append : {H J C : Type 0} (xs ys : List (Sem H J C)) (d n : ℕ) (c : C) → run (xs ++ ys) d n c ≡ bind n (run xs d n c) (go_on (run ys d))
run-append [] ys d n c = sym (bind-done n (Go c) (go_on (run ys d)))
run-append (x ∷ xs) ys d n c =
    bind-same n (x d n c) (go_on (run (xs ++ ys) d)) (λ r m. bind m (go_on (run xs d) r m) (go_on (run ys d)))
    (λ r m. go_on-same (run (xs ++ ys) d) (λ i c'. bind i (run xs d i c') (go_on (run ys d))) (λ i c'. run-append xs ys d i c') r m
    ∙ sym (go_on-go_on (run xs d) (run ys d) r m))
    ∙ sym (bind-bind n (x d n c) (go_on (run xs d)) (go_on (run ys d)))
