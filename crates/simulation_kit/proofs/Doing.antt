-- Code of the output alone, step by step; and where it stands for a plain instruction of the input.
use Rattle.std.proofs.Common.{◌≡◌, ℕ, suc, ◌+◌, ◌-◌, inr, List, [], ◌∷◌, map, drop, Bool, false, if◌then◌else◌, Some, refl, sym, ap, ◌∙◌, subst, arith}
use Rattle.evaluation_kit.specs.declared.jump.Jump.{Jump}
use Rattle.evaluation_kit.specs.declared.jump.Jump.TheVariants.{Branch}
use Rattle.outcome_kit.specs.Outcome.{Out, Done, after, bind, turn}
use Rattle.outcome_kit.specs.Code.{Go, Leave, go_on, run}
use Rattle.outcome_kit.proofs.Outcomes.{bind-done}
use Rattle.evaluation_kit.specs.Configurations.{World, Conf, Plain, PlainRes, Res, Sem, plain_of, with_plain, settled}
use Rattle.evaluation_kit.specs.Control
use Rattle.evaluation_kit.specs.Control.{Function, Own, entered, popped, leave_block, leave_pass, cycle, returned, opened, ended, leave_body, enter, arrive}
use Rattle.evaluation_kit.specs.Languages.{Language, func, exec_code}
use Rattle.evaluation_kit.proofs.Loops.{cycle-pass}
use Rattle.evaluation_kit.proofs.Functions.{func-entered}
use Rattle.simulation_kit.specs.Runs.{Post, Runs}
use Rattle.simulation_kit.specs.Doing.{Does, ComesTo, next_leaf, in_turn}

module _ {H R : Type 0} where
  pub does_at_once : (r : R) → Does {H = H} (λ j. Done 0 r) r
  does_at_once r = record { cost = 0; does = λ k. refl }

  -- the same run, said otherwise
  pub does_alike : (t l : ℕ → Out H R) (r : R) → ((j : ℕ) → t j ≡ l j) → Does t r → Does l r
  does_alike t l r e h = record { cost = h.cost; does = λ k. sym (e (h.cost + k)) ∙ h.does k }

  pub does_turn : (w : H) (t : ℕ → Out H R) (r : R) → Does t r → Does (λ j. turn j w t) r
  does_turn w t r h = record {
    cost = 1 + h.cost;
    does = λ k. let e : 1 + h.cost + k ≡ suc (h.cost + k) = omega arith in ap (λ j. turn j w t) e ∙ ap (after 1) (h.does k);
  }

-- a run, and then another on its result
pub does_bind : {H R T : Type 0} (t : ℕ → Out H R) (r : R) (next : R → ℕ → Out H T) (s : T) → Does t r → Does (next r) s → Does (λ j. bind j (t j) next) s
does_bind t r next s h g = record {
  cost = h.cost + g.cost;
  does = λ i.
      let e : h.cost + g.cost + i ≡ h.cost + (g.cost + i) = omega arith in
      let l : h.cost + (g.cost + i) - h.cost ≡ g.cost + i = omega arith in
      ap (λ j. bind j (t j) next) e
      ∙ ap (λ o. bind (h.cost + (g.cost + i)) o next) (h.does (g.cost + i))
      ∙ ap (λ j. after h.cost (next r j)) l
      ∙ ap (after h.cost) (g.does i);
}

module _ {V S : Type 0} where
  next_leaves : (w : World S) (n : ℕ) (next : ℕ → Conf V S → Out (World S) (Res V S)) (rest : Plain V S → PlainRes V S) → ((p : Plain V S) → next n (with_plain w p) ≡ Done 0 (settled w (rest p))) → (r : PlainRes V S) → go_on next (settled w r) n ≡ Done 0 (settled w (next_leaf rest r))
  next_leaves w n next rest h (Go p) = h p
  next_leaves w n next rest h (Leave j p) = refl

  pub comes_leaf : (act : Plain V S → PlainRes V S) (d : ℕ) (c : Conf V S) → ComesTo (Control.leaf act) d c (settled c.world (act (plain_of c)))
  comes_leaf act d c = does_at_once (settled c.world (act (plain_of c)))

  pub comes_nothing : (d : ℕ) (c : Conf V S) → ComesTo (run []) d c (Go c)
  comes_nothing d c = does_at_once (Go c)

  -- a part that goes on, and one that jumps
  pub comes_then : (a : Sem V S) (more : List (Sem V S)) (d : ℕ) (c e : Conf V S) (r : Res V S) → ComesTo a d c (Go e) → ComesTo (run more) d e r → ComesTo (run (a ∷ more)) d c r
  comes_then a more d c e r h g = does_bind (λ j. a d j c) (Go e) (go_on (run more d)) r h g

  pub comes_left : (a : Sem V S) (more : List (Sem V S)) (d : ℕ) (c e : Conf V S) (j : Jump) → ComesTo a d c (Leave j e) → ComesTo (run (a ∷ more)) d c (Leave j e)
  comes_left a more d c e j h = does_bind (λ i. a d i c) (Leave j e) (go_on (run more d)) (Leave j e) h (does_at_once (Leave j e))

  pub comes_block : (p r : ℕ) (a : Sem V S) (d : ℕ) (c : Conf V S) (y : Res V S) → ComesTo a d (entered p c) y → ComesTo (Control.block p r a) d c (leave_block r (drop p c.operands) y)
  comes_block p r a d c y h = does_bind (λ j. a d j (entered p c)) y (λ x m. Done 0 (leave_block r (drop p c.operands) x)) (leave_block r (drop p c.operands) y) h (does_at_once (leave_block r (drop p c.operands) y))

  pub comes_choice : (test : List V → Bool) (p r : ℕ) (a b : Sem V S) (d : ℕ) (c : Conf V S) (i : Bool) (y : Res V S) → test c.operands ≡ i → ComesTo (Control.block p r (if i then a else b)) d (popped c) y → ComesTo (Control.choose test p r a b) d c y
  comes_choice test p r a b d c i y e h = subst (λ o. ComesTo (Control.block p r (if o then a else b)) d (popped c) y) (sym e) h

  -- one pass through a loop, after which it begins again; and its last pass
  pub comes_pass : (p r : ℕ) (below : List V) (a : Sem V S) (d : ℕ) (c e : Conf V S) (y : Res V S) → ComesTo a d c (Leave (Branch 0) e) → ComesTo (cycle p r below a) d (entered p e) y → ComesTo (cycle p r below a) d c y
  comes_pass p r below a d c e y h again =
      does_alike _ (λ j. cycle p r below a d j c) y (λ j. sym (cycle-pass p r below a d j c))
      (does_turn c.world (λ j. bind j (a d j c) (leave_pass (cycle p r below a d) p r below)) y
      (does_bind (λ j. a d j c) (Leave (Branch 0) e) (leave_pass (cycle p r below a d) p r below) y h again))

  pub comes_last : (p r : ℕ) (below : List V) (a : Sem V S) (d : ℕ) (c : Conf V S) (y z : Res V S) → ComesTo a d c y → ((j : ℕ) → leave_pass (cycle p r below a d) p r below y j ≡ Done 0 z) → ComesTo (cycle p r below a) d c z
  comes_last p r below a d c y z h e =
      does_alike _ (λ j. cycle p r below a d j c) z (λ j. sym (cycle-pass p r below a d j c))
      (does_turn c.world (λ j. bind j (a d j c) (leave_pass (cycle p r below a d) p r below)) z
      (does_bind (λ j. a d j c) y (leave_pass (cycle p r below a d) p r below) z h (record { cost = 0; does = λ k. e (0 + k) })))

  pub comes_loop : (p r : ℕ) (a : Sem V S) (d : ℕ) (c : Conf V S) (y : Res V S) → ComesTo (cycle p r (drop p c.operands) a) d (entered p c) y → ComesTo (Control.loop p r a) d c y
  comes_loop p r a d c y h = h

  pub comes_call : (p : ℕ) (f : Sem V S) (d : ℕ) (c : Conf V S) (y : Res V S) → ComesTo f d (entered p c) y → ComesTo (Control.call p f) d c (returned c.locals (drop p c.operands) y)
  comes_call p f d c y h = does_bind (λ j. f d j (entered p c)) y (λ x m. Done 0 (returned c.locals (drop p c.operands) x)) (returned c.locals (drop p c.operands) y) h (does_at_once (returned c.locals (drop p c.operands) y))

  -- a function of the module whose body comes to a result
  pub comes_func : {I : Type 0} {F : Type 0 → Type 0} (L : Language I F V S) (x : ℕ) (f : Function I V) (d : ℕ) (c : Conf V S) (y z : Res V S) → L.callee x ≡ Some (Own f) → ComesTo (exec_code L f.body) (d + 1) (opened d f c) y → ((j : ℕ) → leave_body (λ g. func L g d) f.results y j ≡ Done 0 z) → ComesTo (func L x) d c z
  comes_func L x f d c y z is h e =
      does_alike _ (λ j. func L x d j c) z
      (λ j. ap (λ o. arrive o (λ g i n b. turn n b.world (λ m. enter (exec_code L g.body) (func L) g i m b)) d j c) (sym is) ∙ sym (func-entered L x d j c))
      (does_turn c.world (λ j. enter (exec_code L f.body) (func L) f d j c) z
      (does_bind (λ j. exec_code L f.body (d + 1) j (opened d f c)) y (leave_body (λ g. func L g d) f.results) z h (record { cost = 0; does = λ k. e (0 + k) })))

  -- the last of several plain instructions
  pub next_leaf-none : (r : PlainRes V S) → next_leaf (in_turn []) r ≡ r
  next_leaf-none (Go p) = refl
  next_leaf-none (Leave j p) = refl

  -- plain instructions in order
  pub leaves-run : (acts : List (Plain V S → PlainRes V S)) (d n : ℕ) (c : Conf V S) → run (map Control.leaf acts) d n c ≡ Done 0 (settled c.world (in_turn acts (plain_of c)))
  leaves-run [] d n c = refl
  leaves-run (act ∷ acts) d n c =
      bind-done n (settled c.world (act (plain_of c))) (go_on (run (map Control.leaf acts) d))
      ∙ next_leaves c.world n (run (map Control.leaf acts) d) (in_turn acts) (λ p. leaves-run acts d n (with_plain c.world p)) (act (plain_of c))

-- what comes to a result meets an input that is done at once
pub runs_does : {H H' R R' : Type 0} (Ends : H → H' → Type 0) (Q : Post R R') (n : ℕ) (r : R) (r' : R') (t : ℕ → Out H' R') → Does t r' → Q.Matches r r' → Runs false Ends Q n (Done 0 r) t
runs_does Ends Q n r r' t h m = record {
  by = inr (record { cost = h.cost; spends = omega arith; within = omega arith; result = r'; matches = m; does = h.does });
}
