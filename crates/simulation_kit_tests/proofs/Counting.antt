-- What the new function comes to.
use Rattle.std.proofs.Common.{◌≡◌, ℕ, zero, suc, ◌+◌, ◌-◌, ◌<◌, true, false, nat_lt, List, [], ◌∷◌, ◌++◌, map, take, reverse, slice_index_or, Some, refl, ap, ◌∙◌, subst, arith}
use Rattle.std.proofs.lemmas.Bool.{lt-ltb}
use Rattle.evaluation_kit.specs.declared.jump.Jump.TheVariants.{Branch}
use Rattle.outcome_kit.specs.Outcome.{Done}
use Rattle.outcome_kit.specs.Code.{Go, Leave, run}
use Rattle.evaluation_kit.specs.Configurations.{World, Conf, Plain, PlainRes, Sem, plain_of, settled}
use Rattle.evaluation_kit.specs.Control.{Function, cycle}
use Rattle.evaluation_kit.specs.Languages.{Language, exec, exec_code}
use Rattle.evaluation_kit.specs.Leaves as leaves
use Rattle.simulation_kit.specs.Doing.{ComesTo, AreLeaves}
use Rattle.simulation_kit.proofs.Doing.{comes_then, comes_pass, comes_last, comes_loop, next_leaf-none, leaves-run}
use Rattle.simulation_kit.proofs.Leaves.{leaves-code}
use Rattle.simulation_kit.proofs.Rewriting.{exec-rolled}
use Rattle.simulation_kit_tests.specs.declared.op.Op.{Op, roll-Op}
use Rattle.simulation_kit_tests.specs.declared.op.Op.TheOpen.{Op-F}
use Rattle.simulation_kit_tests.specs.Small.{Low, low, take_top, language}
use Rattle.simulation_kit_tests.specs.Lowering.{countdown, helper_function}

-- in the new function, with these locals
abbrev pub at : List ℕ → World Low → Conf ℕ Low
at locals w = record { operands = []; locals = locals; world = w }

abbrev pub keeping : ℕ → World Low → World Low
keeping v w = record w { state = record w.state { global = v } }

-- where a call of the new function comes to: 0 is on top, whatever the global and the local are
pub record Zeroed (a : Sem ℕ Low) (d : ℕ) (locals operands : List ℕ) (w : World Low) : Type 0 where
  pub global : ℕ
  pub left : List ℕ
  pub is_zero : slice_index_or left 0 0 ≡ 0
  pub comes : ComesTo a d (at locals w) (Go (record { operands = operands; locals = left; world = keeping global w }))

module _ (funcs : List (Function Op ℕ)) where
  abbrev L : Language Op Op-F ℕ Low
  L = language low funcs

  abbrev acts : List (Plain ℕ Low → PlainRes ℕ Low)
  acts =
      leaves.get_local 0 0 ∷ (take_top low low.keep ∷ (leaves.get_local 0 0 ∷ (leaves.on_operands (λ o. Some ((leaves.top 0 o - 1) ∷ leaves.below o)) ∷ (leaves.set_local 0 0 ∷ (leaves.get_local 0 0 ∷ (leaves.branch_if (λ o. nat_lt 0 (leaves.top 0 o)) 0 ∷ []))))))

  are : AreLeaves L countdown acts
  are = (refl, λ q. refl, (refl, λ q. refl, (refl, λ q. refl, (refl, λ q. refl, (refl, λ q. refl, (refl, λ q. refl, (refl, λ q. refl, tt)))))))

  abbrev body : Sem ℕ Low
  body = exec_code L (map roll-Op countdown)

  -- the end of a pass of its loop, which left this number
  abbrev end_of : ℕ → ℕ → World Low → PlainRes ℕ Low
  end_of v u w = leaves.jump_where (nat_lt 0 u) (Branch 0) (plain_of (at (u ∷ []) (keeping v w)))

  pass : (v u d j : ℕ) (w : World Low) → v - 1 ≡ u → body d j (at (v ∷ []) w) ≡ Done 0 (settled w (end_of v u w))
  pass v u d j w e =
      leaves-code L countdown acts are d j (at (v ∷ []) w) ∙ leaves-run acts d j (at (v ∷ []) w)
      ∙ ap (λ r. Done 0 (settled w r)) (next_leaf-none (end_of v (v - 1) w))
      ∙ ap (λ (i : ℕ). Done 0 (settled w (end_of v i w))) e

  stops : (v u d : ℕ) (w : World Low) → v - 1 ≡ u → nat_lt 0 u ≡ false → ComesTo (cycle 0 0 [] body) d (at (v ∷ []) w) (Go (at (u ∷ []) (keeping v w)))
  stops v u d w e f =
      comes_last 0 0 [] body d (at (v ∷ []) w) (Go (at (u ∷ []) (keeping v w))) (Go (at (u ∷ []) (keeping v w)))
      (record { cost = 0; does = λ k. pass v u d (0 + k) w e ∙ ap (λ b. Done 0 (settled w (leaves.jump_where b (Branch 0) (plain_of (at (u ∷ []) (keeping v w)))))) f })
      (λ j. refl)

  again : (v u d : ℕ) (w : World Low) → v - 1 ≡ u → nat_lt 0 u ≡ true → ComesTo body d (at (v ∷ []) w) (Leave (Branch 0) (at (u ∷ []) (keeping v w)))
  again v u d w e f = record { cost = 0; does = λ k. pass v u d (0 + k) w e ∙ ap (λ b. Done 0 (settled w (leaves.jump_where b (Branch 0) (plain_of (at (u ∷ []) (keeping v w)))))) f }

  -- it counts down to 0, in as many turns
  counts : (v d : ℕ) (w : World Low) → Zeroed (cycle 0 0 [] body) d (v ∷ []) [] w
  counts zero d w = record { global = 0; left = 0 ∷ []; is_zero = refl; comes = stops 0 0 d w refl refl }
  counts (suc zero) d w = record { global = 1; left = 0 ∷ []; is_zero = refl; comes = stops 1 0 d w refl refl }
  counts (suc (suc v)) d w =
      let e : suc (suc v) - 1 ≡ suc v = omega arith in
      let lt : 0 < suc v = omega arith in
      let rest = counts (suc v) d (keeping (suc (suc v)) w) in
      record {
        global = rest.global;
        left = rest.left;
        is_zero = rest.is_zero;
        comes = comes_pass 0 0 [] body d (at (suc (suc v) ∷ []) w) (at (suc v ∷ []) (keeping (suc (suc v)) w)) _ (again (suc (suc v)) (suc v) d w e (lt-ltb 0 (suc v) lt)) rest.comes;
      }

  -- without an operand there is no local
  empty : (d : ℕ) (w : World Low) → Zeroed (cycle 0 0 [] body) d [] [] w
  empty d w = record {
    global = 0;
    left = [];
    is_zero = refl;
    comes =
        comes_last 0 0 [] body d (at [] w) (Go (at [] (keeping 0 w))) (Go (at [] (keeping 0 w)))
        (record { cost = 0; does = λ k. leaves-code L countdown acts are d (0 + k) (at [] w) ∙ leaves-run acts d (0 + k) (at [] w) }) (λ j. refl);
  }

  whole : (locals : List ℕ) (d : ℕ) (w : World Low) → Zeroed (cycle 0 0 [] body) d locals [] w → Zeroed (exec_code L helper_function.body) d locals (0 ∷ []) w
  whole locals d w h = record {
    global = h.global;
    left = h.left;
    is_zero = h.is_zero;
    comes =
        comes_then (exec L (roll-Op (Op-F.Loop (map roll-Op countdown)))) (exec L (roll-Op (Op-F.Get 0)) ∷ []) d (at locals w) (at h.left (keeping h.global w)) _
        (subst (λ a. ComesTo a d (at locals w) (Go (at h.left (keeping h.global w)))) (exec-rolled L (Op-F.Loop (map roll-Op countdown))) (comes_loop 0 0 body d (at locals w) _ h.comes))
        (subst (λ (n : ℕ). ComesTo (run (exec L (roll-Op (Op-F.Get 0)) ∷ [])) d (at h.left (keeping h.global w)) (Go (record { operands = n ∷ []; locals = h.left; world = keeping h.global w }))) h.is_zero
        (record { cost = 0; does = λ k. leaves-code L (Op-F.Get 0 ∷ []) (leaves.get_local 0 0 ∷ []) (refl, λ q. refl, tt) d (0 + k) (at h.left (keeping h.global w)) ∙ leaves-run (leaves.get_local 0 0 ∷ []) d (0 + k) (at h.left (keeping h.global w)) }));
  }

  -- the body of the new function, from what its caller hands over
  pub zeroed : (operands : List ℕ) (d : ℕ) (w : World Low) → Zeroed (exec_code L helper_function.body) d (reverse (take 1 (take 1 operands)) ++ []) (0 ∷ []) w
  zeroed [] d w = whole [] d w (empty d w)
  zeroed (v ∷ more) d w = whole (v ∷ []) d w (counts v d w)
