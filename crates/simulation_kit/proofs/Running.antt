-- How runs of the output that meet runs of the input are put together.
use Rattle.std.proofs.Common.{◌≡◌, ℕ, zero, suc, ◌+◌, ◌-◌, ◌≤◌, ◌<◌, Bool, true, false, inl, inr, refl, sym, ap, ◌∙◌, subst, arith}
use Rattle.outcome_kit.specs.Outcome.{Out, Done, Halt, after, bind, turn}
use Rattle.simulation_kit.specs.Runs.{Post, Spends, Comes, Meets, Runs, IsFree}

spends_none : (exact : Bool) → Spends exact 0 0
spends_none true = refl
spends_none false = let le : 0 ≤ 0 = omega arith in le

spends_add : (exact : Bool) (u v e f : ℕ) → Spends exact u e → Spends exact v f → Spends exact (u + v) (e + f)
spends_add true u v e f a b = omega arith
spends_add false u v e f a b = omega arith

-- turns that are used, and all that are left of n
spends_rest : (exact : Bool) (n u e f : ℕ) → u ≤ n → Spends exact u e → Spends exact (n - u) f → Spends exact n (e + f)
spends_rest true n u e f le a b = omega arith
spends_rest false n u e f le a b = omega arith

module _ {H H' R R' : Type 0} (exact : Bool) (Ends : H → H' → Type 0) (Q : Post R R') where
  -- a result that is there at once
  pub runs_done : (n : ℕ) (r : R) (r' : R') → Q.Matches r r' → Runs exact Ends Q n (Done 0 r) (λ j. Done 0 r')
  runs_done n r r' h = record {
    by = inr (record { cost = 0; spends = spends_none exact; within = omega arith; result = r'; matches = h; does = λ k. refl });
  }

  free_meets : (n : ℕ) (o : Out H R) (t : ℕ → Out H' R') → IsFree exact Ends Q o → Meets exact Ends Q n o t
  free_meets n (Done u r) t f = inl f
  free_meets n (Halt h) t f = absurd f

  -- after this the output is free
  pub runs_free : (n : ℕ) (o : Out H R) (t : ℕ → Out H' R') → IsFree exact Ends Q o → Runs exact Ends Q n o t
  runs_free n o t f = record { by = free_meets n o t f }

  pub free_after : (u : ℕ) (o : Out H R) → IsFree exact Ends Q o → IsFree exact Ends Q (after u o)
  free_after u (Done v r) f = f
  free_after u (Halt h) f = f

  -- the same runs, said otherwise
  pub runs_alike : (n : ℕ) (o i : Out H R) (t l : ℕ → Out H' R') → o ≡ i → ((j : ℕ) → t j ≡ l j) → Runs exact Ends Q n o t → Runs exact Ends Q n i l
  runs_alike n o i t l e f h = subst (λ x. Runs exact Ends Q n x l) e (record { by = alike o h.by })
    where
      alike : (x : Out H R) → Meets exact Ends Q n x t → Meets exact Ends Q n x l
      alike (Done u r) (inl g) = inl g
      alike (Done u r) (inr c) = inr (record { cost = c.cost; spends = c.spends; within = c.within; result = c.result; matches = c.matches; does = λ k. sym (f (c.cost + k)) ∙ c.does k })
      alike (Halt h) s = record { turns = s.turns; spends = s.spends; place = s.place; matches = s.matches; does = sym (f s.turns) ∙ s.does }

  turned : (m : ℕ) (o : Out H R) (h' : H') (g : ℕ → Out H' R') → Meets exact Ends Q m o g → Meets exact Ends Q (suc m) (after 1 o) (λ j. turn j h' g)
  turned m (Done u r) h' g (inl f) = inl f
  turned m (Done u r) h' g (inr c) =
      inr (record {
        cost = 1 + c.cost;
        spends = spends_add exact 1 u 1 c.cost (one exact) c.spends;
        within = let le = c.within in omega arith;
        result = c.result;
        matches = c.matches;
        does = λ k. let e : 1 + c.cost + k ≡ suc (c.cost + k) = omega arith in ap (λ j. turn j h' g) e ∙ ap (after 1) (c.does k);
      })
    where
      one : (b : Bool) → Spends b 1 1
      one true = refl
      one false = let le : 1 ≤ 1 = omega arith in le
  turned m (Halt h) h' g s = record {
    turns = suc s.turns;
    spends = more exact s.turns s.spends;
    place = s.place;
    matches = s.matches;
    does = ap (after 1) s.does;
  }
    where
      more : (b : Bool) (e : ℕ) → Spends b m e → Spends b (suc m) (suc e)
      more true e a = ap suc a
      more false e a = omega arith

  -- both take a turn
  pub runs_turn : (n : ℕ) (h : H) (h' : H') (f : ℕ → Out H R) (g : ℕ → Out H' R') → Ends h h' → ((m : ℕ) → m < n → Runs exact Ends Q m (f m) g) → Runs exact Ends Q n (turn n h f) (λ j. turn j h' g)
  runs_turn zero h h' f g e next = record { by = record { turns = 0; spends = spends_none exact; place = h'; matches = e; does = refl } }
  runs_turn (suc n) h h' f g e next = let lt : n < suc n = omega arith in record { by = turned n (f n) h' g (next n lt).by }

module _ {H H' R R' : Type 0} (Ends : H → H' → Type 0) (Q : Post R R') where
  -- the output alone takes a turn
  pub runs_extra : (n : ℕ) (o : Out H R) (h' : H') (g : ℕ → Out H' R') → Runs false Ends Q n o g → Runs false Ends Q n o (λ j. turn j h' g)
  runs_extra n o h' g h = record { by = extra o h.by }
    where
      extra : (x : Out H R) → Meets false Ends Q n x g → Meets false Ends Q n x (λ j. turn j h' g)
      extra (Done u r) (inl f) = inl f
      extra (Done u r) (inr c) =
          inr (record {
            cost = 1 + c.cost;
            spends = let le = c.spends in omega arith;
            within = c.within;
            result = c.result;
            matches = c.matches;
            does = λ k. let e : 1 + c.cost + k ≡ suc (c.cost + k) = omega arith in ap (λ j. turn j h' g) e ∙ ap (after 1) (c.does k);
          })
      extra (Halt here) s = record { turns = suc s.turns; spends = let le = s.spends in omega arith; place = s.place; matches = s.matches; does = ap (after 1) s.does }

module _ {H H' R R' T T' : Type 0} (exact : Bool) (Ends : H → H' → Type 0) (P : Post R R') (Q : Post T T') where
  module _ (k : R → ℕ → Out H T) (k' : R' → ℕ → Out H' T') where
    pub followed : (n u : ℕ) (r : R) (t : ℕ → Out H' R') (c : Comes exact P n u r t) (o : Out H T) → Meets exact Ends Q (n - u) o (k' c.result) → Meets exact Ends Q n (after u o) (λ j. bind j (t j) k')
    followed n u r t c (Done v s) (inl f) = inl f
    followed n u r t c (Done v s) (inr d) =
        inr (record {
          cost = c.cost + d.cost;
          spends = spends_add exact u v c.cost d.cost c.spends d.spends;
          within = let a = c.within in let b = d.within in omega arith;
          result = d.result;
          matches = d.matches;
          does = λ i.
              let e : c.cost + d.cost + i ≡ c.cost + (d.cost + i) = omega arith in
              let l : c.cost + (d.cost + i) - c.cost ≡ d.cost + i = omega arith in
              ap (λ j. bind j (t j) k') e
              ∙ ap (λ o. bind (c.cost + (d.cost + i)) o k') (c.does (d.cost + i))
              ∙ ap (λ j. after c.cost (k' c.result j)) l
              ∙ ap (after c.cost) (d.does i);
        })
    followed n u r t c (Halt h) s = record {
      turns = c.cost + s.turns;
      spends = spends_rest exact n u c.cost s.turns c.within c.spends s.spends;
      place = s.place;
      matches = s.matches;
      does =
          let l : c.cost + s.turns - c.cost ≡ s.turns = omega arith in
          ap (λ o. bind (c.cost + s.turns) o k') (c.does s.turns)
          ∙ ap (λ j. after c.cost (k' c.result j)) l
          ∙ ap (after c.cost) s.does;
    }

    -- a run, and then another on its result
    pub runs_bind : (n : ℕ) (o : Out H R) (t : ℕ → Out H' R') → Runs exact Ends P n o t → ((r : R) (m : ℕ) → P.Free r → IsFree exact Ends Q (k r m)) → ((r : R) (r' : R') (m : ℕ) → m ≤ n → P.Matches r r' → Runs exact Ends Q m (k r m) (k' r')) → Runs exact Ends Q n (bind n o k) (λ j. bind j (t j) k')
    runs_bind n o t h free next = record { by = go o h.by }
      where
        go : (x : Out H R) → Meets exact Ends P n x t → Meets exact Ends Q n (bind n x k) (λ j. bind j (t j) k')
        go (Done u r) (inl f) = free_meets exact Ends Q n (after u (k r (n - u))) (λ j. bind j (t j) k') (free_after exact Ends Q u (k r (n - u)) (free r (n - u) f))
        go (Done u r) (inr c) = let le : n - u ≤ n = omega arith in followed n u r t c (k r (n - u)) (next r c.result (n - u) le c.matches).by
        go (Halt here) s = record { turns = s.turns; spends = s.spends; place = s.place; matches = s.matches; does = ap (λ x. bind s.turns x k') s.does }

  -- a run whose result is changed
  pub runs_map : (n : ℕ) (o : Out H R) (t : ℕ → Out H' R') (f : R → T) (f' : R' → T') → Runs exact Ends P n o t → ((r : R) → P.Free r → Q.Free (f r)) → ((r : R) (r' : R') → P.Matches r r' → Q.Matches (f r) (f' r')) → Runs exact Ends Q n (bind n o (λ r m. Done 0 (f r))) (λ j. bind j (t j) (λ r i. Done 0 (f' r)))
  runs_map n o t f f' h free matches = runs_bind (λ r m. Done 0 (f r)) (λ r i. Done 0 (f' r)) n o t h (λ r m g. free r g) (λ r r' m le g. runs_done exact Ends Q m (f r) (f' r') (matches r r' g))
