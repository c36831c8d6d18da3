-- The pass: what is told is the same, and at most one call more is open.
use Rattle.std.proofs.Common.{◌≡◌, ℕ, zero, suc, ◌+◌, ◌-◌, ◌<◌, Bool, true, false, nat_lt, List, [], ◌∷◌, ◌++◌, map, flat_map, drop, length, slice_get, slice_index_or, Some, option_map, refl, ap, ◌∙◌, subst, arith, le_refl}
use Rattle.std.specs.Prelude.{set}
use Rattle.std.specs.List.{AllByRecursion}
use Rattle.evaluation_kit.specs.declared.jump.Jump.TheVariants.{Branch}
use Rattle.outcome_kit.specs.Code.{Go, Leave}
use Rattle.evaluation_kit.specs.Configurations.{World, Plain, PlainRes, plain_of, settled, deeper}
use Rattle.evaluation_kit.specs.Control as control
use Rattle.evaluation_kit.specs.Control.{Function, Callee, Own, entered, returned}
use Rattle.evaluation_kit.specs.Languages.{Language, func, exec_code}
use Rattle.evaluation_kit.specs.Leaves as leaves
use Rattle.evaluation_kit.specs.Tasks.{Status, Enter, tasks, world_after}
use Rattle.std.proofs.lemmas.Bool.{ltb-true}
use Rattle.simulation_kit.specs.Hosting.{Final}
use Rattle.simulation_kit.specs.Labels.{IsShared}
use Rattle.simulation_kit.specs.Matches.{Match, Context, Sims, Depths, Calls, Halts, ends}
use Rattle.simulation_kit.specs.Staying.{AllFuncsSim}
use Rattle.simulation_kit.specs.Keeping.{anything}
use Rattle.simulation_kit.specs.Likenesses.{Likeness, Like, ResultLike, matching, FormLike, CalleeLike, SeeLike}
use Rattle.simulation_kit.specs.Rewriting.{rewrite, layer_sem, stepped}
use Rattle.simulation_kit.specs.Fitting.{Test, Fits, FormFits}
use Rattle.simulation_kit.proofs.Depths.{depths_spare}
use Rattle.simulation_kit.proofs.Directions.{unless_stuck}
use Rattle.simulation_kit.proofs.Doing.{comes_func, comes_call, runs_does}
use Rattle.simulation_kit.proofs.Fitting.{fits_inside}
use Rattle.simulation_kit.proofs.Liking.{lawful}
use Rattle.simulation_kit.proofs.Rewriting.{code_one}
use Rattle.simulation_kit.proofs.LikeCode.{Alike, Body, sees_place, like_stays, OwesLayers, OwesCallees, like_final}
use Rattle.simulation_kit_tests.specs.declared.op.Op.{Op, roll-Op}
use Rattle.simulation_kit_tests.specs.declared.op.Op.TheOpen.{Op-F}
use Rattle.simulation_kit_tests.specs.Small.{Low, high, low, language}
use Rattle.simulation_kit_tests.proofs.Counting.{keeping, zeroed}
use Rattle.simulation_kit_tests.specs.Lowering.{step, lower, lowered, helper_function}

module _ (funcs : List (Function Op ℕ)) where
  abbrev pub helper : ℕ
  helper = length funcs

  abbrev pub L : Language Op Op-F ℕ (List ℕ)
  L = language high funcs

  abbrev pub L' : Language Op Op-F ℕ Low
  L' = language low (lower funcs)

  -- code that calls functions of the input alone
  abbrev named : ℕ → Bool
  named f = nat_lt f helper

  abbrev test : Test Op-F L.tree.over
  test = record { own = λ X l. true; own_over = λ X Y f l. refl }

  abbrev pub CodeFits : Op → Type 0
  CodeFits = Fits L named test

  -- Values are the same, and what was told; the global is free. One call more may be open.
  abbrev pub likeness : Likeness ℕ (List ℕ) ℕ Low
  likeness = record {
    exact = false;
    strict = false;
    frames = 1;
    more_frames = 1;
    spare = 1;
    frames_some = le_refl 1;
    spare_within = le_refl 1;
    Place = Unit {0};
    Around = λ p o. Unit {0};
    values = λ l. l;
    take_values = λ n l. refl;
    drop_values = λ n l. refl;
    append_values = λ a b. refl;
    reverse_values = λ l. refl;
    keeps = record (anything ℕ (List ℕ)) { Named = λ f. named f ≡ true };
    index = λ f. f;
    States = λ s s'. s'.told ≡ s;
    Ends = λ s s'. s'.told ≡ s;
    states_end = λ s s' e. e;
  }

  abbrev W : Match ℕ (List ℕ) ℕ Low
  W = matching likeness

  abbrev B : ℕ → Type 0
  B N = Body likeness L L' (step helper) (λ p. tt) CodeFits N

  like : (a a' l l' : List ℕ) (s : List ℕ) (s' : Low) → a' ≡ a → l' ≡ l → s'.told ≡ s → Like likeness (record { operands = a; locals = l; state = s }) (record { operands = a'; locals = l'; state = s' })
  like a a' l l' s s' e f g = record { operands = e; locals = f; state = g; sound_operands = tt; sound_locals = tt; safe = tt }

  -- a branch by the top
  branches : (b b' : Bool) (k : ℕ) (q : Plain ℕ (List ℕ)) (q' : Plain ℕ Low) → b' ≡ b → Like likeness q q' → ResultLike likeness (leaves.jump_where b (Branch k) q) (leaves.jump_where b' (Branch k) q')
  branches b true k q q' e h = subst (λ i. ResultLike likeness (leaves.jump_where i (Branch k) q) (Leave (Branch k) q')) e (refl, h)
  branches b false k q q' e h = subst (λ i. ResultLike likeness (leaves.jump_where i (Branch k) q) (Go q')) e h

  last_at : (fs : List (Function Op ℕ)) (g : Function Op ℕ → Function Op ℕ) → slice_get (map g fs ++ helper_function ∷ []) (length fs) ≡ Some helper_function
  last_at [] g = refl
  last_at (f ∷ fs) g = last_at fs g

  keeps_depths : (d d' : ℕ) (w : World (List ℕ)) (w' : World Low) (g : ℕ) → Calls W d d' → Depths W d w w' → Depths W d w (keeping g (deeper d' w'))
  keeps_depths d d' w w' g calls h =
      let spare = depths_spare W (lawful likeness) d d' w w' (le_refl 1) calls h in
      record { reached = spare.reached; bound = spare.bound }

  drop-below : (l : List ℕ) → drop 1 l ≡ leaves.below l
  drop-below [] = refl
  drop-below (n ∷ l) = refl

  -- the call of the new function in the place of the instruction
  zeroes : (N : ℕ) (x : Context W) (k m : Unit {0}) → Sims W N x k m (control.leaf high.zero_top) (control.call 1 (func L' helper))
  zeroes N x k m = record {
    by = λ d d' n c c' lt calls same.
        let call = zeroed (lower funcs) c'.operands (d' + 1) (deeper d' c'.world) in
        let w : World Low = keeping call.global (deeper d' c'.world) in
        runs_does (Halts W) (ends W x m d) n (settled c.world (high.zero_top (plain_of c))) (Go (record { operands = 0 ∷ drop 1 c'.operands; locals = c'.locals; world = w })) (λ j. control.call 1 (func L' helper) d' j c')
        (comes_call 1 (func L' helper) d' c' (Go (record { operands = 0 ∷ []; locals = call.left; world = w }))
        (comes_func L' helper helper_function d' (entered 1 c') _ _ (ap (option_map Own) (last_at funcs (lowered helper funcs))) call.comes (λ j. refl)))
        (record {
          depths =
              let kept = keeps_depths d d' c.world c'.world call.global calls same.depths in
              record { reached = kept.reached; bound = kept.bound };
          plain = like (0 ∷ leaves.below c.operands) (0 ∷ drop 1 c'.operands) c.locals c'.locals c.world.state w.state (ap (λ l. 0 ∷ l) (drop-below c'.operands ∙ ap leaves.below same.plain.operands)) same.plain.locals same.plain.state;
        });
  }

  stays : (N : ℕ) → AllFuncsSim W N (func L) (func L') → (l : Op-F (B N)) (l' : Op-F Op) (x : Context W) (k m : Unit {0}) → IsShared x.labels → FormLike likeness L (step helper) (λ p. tt) CodeFits _ x.place (L.layer (B N) l) (L'.layer Op l') → Sims W N x k m (layer_sem W L L' (step helper) (sees_place likeness L L' (step helper) (λ p. tt) CodeFits) (Alike likeness L L' (step helper) (λ p. tt) CodeFits) N l) (exec_code L' (roll-Op l' ∷ []))
  stays N fs l l' x k m shared h = like_stays likeness L L' (step helper) (λ p. tt) CodeFits N fs l l' x k m shared (record { readies = λ q q' e is. refl; asks = λ q e. cc }) h

  -- a rewritten body
  abbrev inside : (N : ℕ) → List (B N) → List Op
  inside N code = flat_map (λ part. part tt) (map (λ y. rewrite L (step helper) y.0) code)

  -- the one layer
  layer_of : (N : ℕ) → AllFuncsSim W N (func L) (func L') → (l : Op-F (B N)) (x : Context W) (k m : Unit {0}) → IsShared x.labels → FormFits (λ f. named f ≡ true) CodeFits (L.layer (B N) l) →
      Sims W N x k m (layer_sem W L L' (step helper) (sees_place likeness L L' (step helper) (λ p. tt) CodeFits) (Alike likeness L L' (step helper) (λ p. tt) CodeFits) N l)
      (exec_code L' (stepped W L L' (step helper) (sees_place likeness L L' (step helper) (λ p. tt) CodeFits) (Alike likeness L L' (step helper) (λ p. tt) CodeFits) N l tt))
  layer_of N fs Op-F.Zero x k m shared fits = code_one W L L' N x k m _ (Op-F.Call helper) (zeroes N x k m)
  layer_of N fs (Op-F.Const n) x k m shared fits =
      stays N fs (Op-F.Const n) (Op-F.Const n) x k m shared (record { acts = λ q q' e. like (n ∷ q.operands) (n ∷ q'.operands) q.locals q'.locals q.state q'.state (ap (λ l. n ∷ l) e.operands) e.locals e.state })
  layer_of N fs (Op-F.Get i) x k m shared fits =
      stays N fs (Op-F.Get i) (Op-F.Get i) x k m shared (record {
        acts = λ q q' e.
            like (slice_index_or q.locals i 0 ∷ q.operands) (slice_index_or q'.locals i 0 ∷ q'.operands) q.locals q'.locals q.state q'.state
            (ap (λ (l : List ℕ). slice_index_or l i 0 ∷ q'.operands) e.locals ∙ ap (λ (l : List ℕ). slice_index_or q.locals i 0 ∷ l) e.operands) e.locals e.state;
      })
  layer_of N fs (Op-F.Set i) x k m shared fits =
      stays N fs (Op-F.Set i) (Op-F.Set i) x k m shared (record {
        acts = λ q q' e.
            like (leaves.below q.operands) (leaves.below q'.operands) (set q.locals i (leaves.top 0 q.operands)) (set q'.locals i (leaves.top 0 q'.operands)) q.state q'.state
            (ap leaves.below e.operands) (ap (λ (l : List ℕ). set l i (leaves.top 0 q'.operands)) e.locals ∙ ap (λ (l : List ℕ). set q.locals i (leaves.top 0 l)) e.operands) e.state;
      })
  layer_of N fs Op-F.Down x k m shared fits =
      stays N fs Op-F.Down Op-F.Down x k m shared (record {
        acts = λ q q' e.
            like ((leaves.top 0 q.operands - 1) ∷ leaves.below q.operands) ((leaves.top 0 q'.operands - 1) ∷ leaves.below q'.operands) q.locals q'.locals q.state q'.state
            (ap (λ (l : List ℕ). (leaves.top 0 l - 1) ∷ leaves.below l) e.operands) e.locals e.state;
      })
  layer_of N fs Op-F.Tell x k m shared fits =
      stays N fs Op-F.Tell Op-F.Tell x k m shared (record {
        acts = λ q q' e.
            like (leaves.below q.operands) (leaves.below q'.operands) q.locals q'.locals (high.tell (leaves.top 0 q.operands) q.state) (low.tell (leaves.top 0 q'.operands) q'.state)
            (ap leaves.below e.operands) e.locals (ap (λ (t : List ℕ). t ++ leaves.top 0 q'.operands ∷ []) e.state ∙ ap (λ (l : List ℕ). q.state ++ leaves.top 0 l ∷ []) e.operands);
      })
  layer_of N fs Op-F.Keep x k m shared fits =
      stays N fs Op-F.Keep Op-F.Keep x k m shared (record {
        acts = λ q q' e.
            like (leaves.below q.operands) (leaves.below q'.operands) q.locals q'.locals q.state (low.keep (leaves.top 0 q'.operands) q'.state) (ap leaves.below e.operands) e.locals e.state;
      })
  layer_of N fs (Op-F.BrIf l) x k m shared fits =
      stays N fs (Op-F.BrIf l) (Op-F.BrIf l) x k m shared (record {
        acts = λ q q' e.
            branches (nat_lt 0 (leaves.top 0 q.operands)) (nat_lt 0 (leaves.top 0 q'.operands)) l _ _ (ap (λ (o : List ℕ). nat_lt 0 (leaves.top 0 o)) e.operands)
            (like (leaves.below q.operands) (leaves.below q'.operands) q.locals q'.locals q.state q'.state (ap leaves.below e.operands) e.locals e.state);
      })
  layer_of N fs (Op-F.Block code) x k m shared fits = stays N fs (Op-F.Block code) (Op-F.Block (inside N code)) x k m shared (refl, refl, record { inner = tt; around = tt; fits = fits; rewritten = refl })
  layer_of N fs (Op-F.Loop code) x k m shared fits = stays N fs (Op-F.Loop code) (Op-F.Loop (inside N code)) x k m shared (refl, refl, record { inner = tt; around = tt; fits = fits; rewritten = refl })
  layer_of N fs (Op-F.Call f) x k m shared fits = stays N fs (Op-F.Call f) (Op-F.Call f) x k m shared (refl, fits, refl)

  layers : OwesLayers likeness L L' (step helper) (λ p. tt) CodeFits
  layers N fs = record {
    layers = λ l x k m claim. layer_of N fs l x k m claim.0 (fits_inside L named test _ l claim.1).1;
  }

  -- the functions, and the new one behind them
  names_at : (fs : List (Function Op ℕ)) → AllByRecursion (λ f. AllByRecursion CodeFits f.body) fs → (x : ℕ) → x < length fs → CalleeLike likeness L (step helper) (λ p. tt) CodeFits (option_map Own (slice_get fs x)) (option_map Own (slice_get (map (lowered helper funcs) fs ++ helper_function ∷ []) x))
  names_at [] fit x lt = let no : ⊥ = omega arith in absurd no
  names_at (f ∷ fs) fit zero lt = record { place = tt; params = refl; results = refl; zeros = refl; sound = tt; fits = fit.0; body = refl }
  names_at (f ∷ fs) fit (suc x) lt = let less : x < length fs = omega arith in names_at fs fit.1 x less

  -- The theorem: code that calls functions of the input alone is lowered to functions that simulate it.
  module _ (fit : AllByRecursion (λ f. AllByRecursion CodeFits f.body) funcs) where
    callees : OwesCallees likeness L L' (step helper) (λ p. tt) CodeFits
    callees x is = names_at funcs fit x (ltb-true x helper is)

    abbrev see : {S : Type 0} → PlainRes ℕ S → Status S
    see (Go q) = Go q.state
    see (Leave j q) = Leave j q.state

    sees : SeeLike likeness see see
    sees = record {
      goes = λ a l s l' s' e. (e.state, tt);
      leaves = λ j j' a l s l' s' o i e. e.state;
      stuck = λ q e. e;
    }

    -- a call from the host: where the input stops within n turns, the output does within no fewer, has told the same, and
    -- had at most one call more open
    pub lowered_runs : (x : ℕ) (operands : List ℕ) → named x ≡ true → (s : Low) (n : ℕ) → Final W n (world_after (func L) (Enter x operands see ∷ []) s.told n) (world_after (func L') (Enter x operands see ∷ []) s)
    lowered_runs x operands is s n =
        unless_stuck false (tasks (func L) (Enter x operands see ∷ []) n (record { state = s.told; deepest = 0 })) refl
        (like_final likeness L L' (step helper) (λ p. tt) CodeFits layers callees (Enter x operands see ∷ []) (Enter x operands see ∷ []) ((is, refl, refl, tt, sees), tt) s.told s (refl, tt) n)
