-- Blocks, loops, choices and handlers.
use Rattle.std.proofs.Common.{ℕ, zero, suc, ◌<◌, List, drop, Bool, true, false, if◌then◌else◌, Option, Some, None, sym, subst, arith}
use Rattle.evaluation_kit.specs.declared.jump.Jump.TheVariants.{Branch, Return, Stuck}
use Rattle.outcome_kit.specs.Outcome.{Out, bind, turn}
use Rattle.outcome_kit.specs.Code.{Go, Leave, stands}
use Rattle.evaluation_kit.specs.Configurations.{World, Conf, Plain, Res, Sem, plain_of}
use Rattle.evaluation_kit.specs.Control
use Rattle.evaluation_kit.specs.Control.{Handler, Caught, entered, kept, popped, leave_block, leave_pass, cycle, handled, taken}
use Rattle.evaluation_kit.proofs.Loops.{cycle-pass}
use Rattle.simulation_kit.specs.Runs.{Runs, IsFree}
use Rattle.simulation_kit.specs.Labels.{Labels, Shared, results, target}
use Rattle.simulation_kit.specs.Matches.{Match, Context, inside, Calls, Depths, Same, Halts, Reaches, Results, IsStuck, ends, Sims, Lawful, front, over}
use Rattle.simulation_kit.specs.Staying.{TestStays}
use Rattle.simulation_kit.proofs.Running.{runs_done, runs_alike, runs_bind, runs_map, runs_turn}
use Rattle.simulation_kit.proofs.Sequences.{less_sims}

-- a result that is no branch to the innermost label
abbrev IsPast : {V S : Type 0} → Res V S → Type 0
IsPast (Leave (Branch zero) c) = ⊥
IsPast _ = Unit {0}

module _ {V S V' S' : Type 0} (W : Match V S V' S') (laws : Lawful W) where
  -- where the operands of the body lie over those that were set aside
  ended : (inner outer : W.Place) (h m : W.Kind) (r r' : ℕ) (b : List V) (b' : List V') (q : Plain V S) (q' : Plain V' S') → W.Around inner outer → W.Width h r r' → W.Aside m b b' → W.Lands inner h q q' → W.Stands outer (W.join h m) (over b (front r q)) (over b' (front r' q'))
  ended inner outer h m r r' b b' q q' around width aside lands =
      laws.leaves inner outer h m b b' (front r q) (front r' q') around (laws.lands_at inner h r r' q q' width lands) aside

  module _ (x : Context W) (inner : W.Place) (h m : W.Kind) (r r' : ℕ) (b : List V) (b' : List V') (d : ℕ) (around : W.Around inner x.place) (width : W.Width h r r') (aside : W.Aside m b b') where
    reaches : (g : W.Kind) (o : Option W.Kind) (q : Plain V S) (q' : Plain V' S') → Reaches W (inside W x inner g) o q q' → Reaches W x o q q'
    reaches g None q q' f = f
    reaches g (Some i) q q' f = laws.lands_out inner x.place i q q' around f

    past : (g : W.Kind) (y : Res V S) (y' : Res V' S') → IsPast y → Results W (inside W x inner g) h d y y' → Results W x (W.join h m) d (leave_block r b y) (leave_block r' b' y')
    past g (Go c) (Go c') p l = record {
      depths = l.depths;
      plain = ended inner x.place h m r r' b b' (plain_of c) (plain_of c') around width aside (laws.lands inner h (plain_of c) (plain_of c') l.plain);
    }
    past g (Go c) (Leave j' c') p l = absurd l.plain
    past g (Leave (Branch zero) c) y' p l = absurd p
    past g (Leave (Branch (suc k)) c) (Leave (Branch zero) c') p l = absurd l.plain
    past g (Leave (Branch (suc k)) c) (Leave (Branch (suc k')) c') p l = record {
      depths = l.depths;
      plain = reaches g (target x.labels k k') (plain_of c) (plain_of c') l.plain;
    }
    past g (Leave (Branch (suc k)) c) (Leave j' c') p l = absurd l.plain
    past g (Leave (Branch (suc k)) c) (Go c') p l = absurd l.plain
    past g (Leave Return c) (Leave Return c') p l = record {
      depths = l.depths;
      plain = laws.lands_out inner x.place (results x.labels) (plain_of c) (plain_of c') around l.plain;
    }
    past g (Leave Return c) (Leave j' c') p l = absurd l.plain
    past g (Leave j c) (Go c') p l = absurd l.plain
    past g (Leave j c) (Leave (Branch zero) c') p l = absurd (laws.left_out inner x.place j (Branch zero) (plain_of c) (plain_of c') around tt l.plain)
    past g (Leave j c) (Leave j' c') p l = record { depths = l.depths; plain = laws.left_out inner x.place j j' (plain_of c) (plain_of c') around tt l.plain }

    pub block_left : (y : Res V S) (y' : Res V' S') → Results W (inside W x inner h) h d y y' → Results W x (W.join h m) d (leave_block r b y) (leave_block r' b' y')
    block_left (Leave (Branch zero) c) (Leave (Branch zero) c') l = record {
      depths = l.depths;
      plain = ended inner x.place h m r r' b b' (plain_of c) (plain_of c') around width aside l.plain;
    }
    block_left (Leave (Branch zero) c) (Leave j' c') l = absurd l.plain
    block_left (Leave (Branch zero) c) (Go c') l = absurd l.plain
    block_left y y' l = past h y y' tt l

  stuck_left : (r : ℕ) (b : List V) (y : Res V S) → IsStuck y W.strict → IsStuck (leave_block r b y) W.strict
  stuck_left r b (Leave Stuck c) f = f
  stuck_left r b (Leave j c) f = absurd f
  stuck_left r b (Go c) f = absurd f

  -- what a block finds: its operands, and those that are set aside
  pub block_enters : (inner outer : W.Place) (k m : W.Kind) (p p' d : ℕ) (c : Conf V S) (c' : Conf V' S') (labels : Labels W.Kind) (g : W.Kind) → W.Around inner outer → W.Width k p p' → Depths W d c.world c'.world → W.Stands outer (W.join k m) (plain_of c) (plain_of c') → Same W (record { place = inner; labels = Shared g labels }) k d (entered p c) (entered p' c')
  block_enters inner outer k m p p' d c c' labels g around width depths stands =
      record { depths = depths; plain = (laws.enters inner outer k m p p' (plain_of c) (plain_of c') around width stands).0 }

  block_at : (N : ℕ) (x : Context W) (inner : W.Place) (k h m : W.Kind) (p p' r r' : ℕ) (a : Sem V S) (b : Sem V' S') → W.Around inner x.place → W.Width k p p' → W.Width h r r' → Sims W N (inside W x inner h) k h a b → (d d' n : ℕ) (c : Conf V S) (c' : Conf V' S') → n < N → Calls W d d' → Same W x (W.join k m) d c c' → Runs W.exact (Halts W) (ends W x (W.join h m) d) n (Control.block p r a d n c) (λ j. Control.block p' r' b d' j c')
  block_at N x inner k h m p p' r r' a b around width width' sims d d' n c c' lt calls same =
      let aside = (laws.enters inner x.place k m p p' (plain_of c) (plain_of c') around width same.plain).1 in
      runs_map W.exact (Halts W) (ends W (inside W x inner h) h d) (ends W x (W.join h m) d) n (a d n (entered p c)) (λ j. b d' j (entered p' c'))
      (leave_block r (drop p c.operands)) (leave_block r' (drop p' c'.operands))
      (sims.by d d' n (entered p c) (entered p' c') lt calls (block_enters inner x.place k m p p' d c c' x.labels h around width same.depths same.plain))
      (stuck_left r (drop p c.operands))
      (block_left x inner h m r r' (drop p c.operands) (drop p' c'.operands) d around width' aside)

  -- A block of the input becomes a block: p operands that it takes are p' there, and r that it gives are r'.
  pub sims_block : (N : ℕ) (x : Context W) (inner : W.Place) (k h m : W.Kind) (p p' r r' : ℕ) (a : Sem V S) (b : Sem V' S') → W.Around inner x.place → W.Width k p p' → W.Width h r r' → Sims W N (inside W x inner h) k h a b → Sims W N x (W.join k m) (W.join h m) (Control.block p r a) (Control.block p' r' b)
  sims_block N x inner k h m p p' r r' a b around width width' sims = record { by = block_at N x inner k h m p p' r r' a b around width width' sims }

  module _ (x : Context W) (inner : W.Place) (k h m : W.Kind) (p p' r r' : ℕ) (b : List V) (b' : List V') (around : W.Around inner x.place) (width : W.Width k p p') (width' : W.Width h r r') (aside : W.Aside m b b') where
    pass_left : (N d d' : ℕ) → (again : ℕ → Conf V S → Out (World S) (Res V S)) (again' : ℕ → Conf V' S' → Out (World S') (Res V' S')) → ((i : ℕ) (c : Conf V S) (c' : Conf V' S') → i < N → Same W (inside W x inner k) k d c c' → Runs W.exact (Halts W) (ends W x (W.join h m) d) i (again i c) (λ j. again' j c')) → (y : Res V S) (y' : Res V' S') (i : ℕ) → i < N → Results W (inside W x inner k) h d y y' → Runs W.exact (Halts W) (ends W x (W.join h m) d) i (leave_pass again p r b y i) (λ j. leave_pass again' p' r' b' y' j)
    pass_left N d d' again again' next (Leave (Branch zero) c) (Leave (Branch zero) c') i lt l =
        next i (entered p c) (entered p' c') lt (record { depths = l.depths; plain = laws.lands_at inner k p p' (plain_of c) (plain_of c') width l.plain })
    pass_left N d d' again again' next (Leave (Branch zero) c) (Leave j' c') i lt l = absurd l.plain
    pass_left N d d' again again' next (Leave (Branch zero) c) (Go c') i lt l = absurd l.plain
    pass_left N d d' again again' next (Leave (Branch (suc q)) c) (Leave (Branch zero) c') i lt l = absurd l.plain
    pass_left N d d' again again' next (Leave Return c) (Leave (Branch zero) c') i lt l = absurd l.plain
    pass_left N d d' again again' next (Go c) (Leave j' c') i lt l = absurd l.plain
    pass_left N d d' again again' next (Leave j c) (Leave (Branch zero) c') i lt l = absurd (laws.left_out inner x.place j (Branch zero) (plain_of c) (plain_of c') around tt l.plain)
    pass_left N d d' again again' next y y' i lt l =
        runs_done W.exact (Halts W) (ends W x (W.join h m) d) i (leave_block r b y) (leave_block r' b' y') (past x inner h m r r' b b' d around width' aside k y y' tt l)

    stuck_pass : (d i : ℕ) (again : ℕ → Conf V S → Out (World S) (Res V S)) (y : Res V S) → IsStuck y W.strict → IsFree W.exact (Halts W) (ends W x (W.join h m) d) (leave_pass again p r b y i)
    stuck_pass d i again (Leave Stuck c) f = f
    stuck_pass d i again (Leave j c) f = absurd f
    stuck_pass d i again (Go c) f = absurd f

    cycle_sims : (N : ℕ) (a : Sem V S) (e : Sem V' S') → Sims W N (inside W x inner k) k h a e → (d d' n : ℕ) (c : Conf V S) (c' : Conf V' S') → n < N → Calls W d d' → Same W (inside W x inner k) k d c c' → Runs W.exact (Halts W) (ends W x (W.join h m) d) n (cycle p r b a d n c) (λ j. cycle p' r' b' e d' j c')
    cycle_sims zero a e sims d d' n c c' lt calls same = let no : ⊥ = omega arith in absurd no
    cycle_sims (suc N) a e sims d d' n c c' lt calls same =
        let less = less_sims W N (inside W x inner k) k h a e sims in
        runs_alike W.exact (Halts W) (ends W x (W.join h m) d) n
        (turn n c.world (λ i. bind i (a d i c) (leave_pass (cycle p r b a d) p r b))) (cycle p r b a d n c)
        (λ j. turn j c'.world (λ i. bind i (e d' i c') (leave_pass (cycle p' r' b' e d') p' r' b'))) (λ j. cycle p' r' b' e d' j c')
        (sym (cycle-pass p r b a d n c)) (λ j. sym (cycle-pass p' r' b' e d' j c'))
        (runs_turn W.exact (Halts W) (ends W x (W.join h m) d) n c.world c'.world
        (λ i. bind i (a d i c) (leave_pass (cycle p r b a d) p r b)) (λ i. bind i (e d' i c') (leave_pass (cycle p' r' b' e d') p' r' b'))
        (record { state = laws.stands_end inner k (plain_of c) (plain_of c') same.plain; bound = same.depths.bound })
        (λ i l.
        let fewer : i < N = omega arith in
        runs_bind W.exact (Halts W) (ends W (inside W x inner k) h d) (ends W x (W.join h m) d)
        (leave_pass (cycle p r b a d) p r b) (leave_pass (cycle p' r' b' e d') p' r' b') i (a d i c) (λ j. e d' j c')
        (less.by d d' i c c' fewer calls same)
        (λ y q f. stuck_pass d q (cycle p r b a d) y f)
        (λ y y' q le f. let few : q < N = omega arith in pass_left N d d' (cycle p r b a d) (cycle p' r' b' e d')
        (λ q' o o' lt' s. cycle_sims N a e less d d' q' o o' lt' calls s) y y' q few f)))

  -- a loop becomes a loop: its label takes what the loop takes
  pub sims_loop : (N : ℕ) (x : Context W) (inner : W.Place) (k h m : W.Kind) (p p' r r' : ℕ) (a : Sem V S) (b : Sem V' S') → W.Around inner x.place → W.Width k p p' → W.Width h r r' → Sims W N (inside W x inner k) k h a b → Sims W N x (W.join k m) (W.join h m) (Control.loop p r a) (Control.loop p' r' b)
  sims_loop N x inner k h m p p' r r' a b around width width' sims = record {
    by = λ d d' n c c' lt calls same.
        let aside = (laws.enters inner x.place k m p p' (plain_of c) (plain_of c') around width same.plain).1 in
        cycle_sims x inner k h m p p' r r' (drop p c.operands) (drop p' c'.operands) around width width' aside N a b sims d d' n (entered p c) (entered p' c') lt calls
        (block_enters inner x.place k m p p' d c c' x.labels k around width same.depths same.plain);
  }

  -- a choice becomes a choice
  pub sims_choose : (N : ℕ) (x : Context W) (inner : W.Place) (j k h m : W.Kind) (test : List V → Bool) (test' : List V' → Bool) (p p' r r' : ℕ) (a e : Sem V S) (b f : Sem V' S') → TestStays W x.place j (W.join k m) test test' → W.Around inner x.place → W.Width k p p' → W.Width h r r' → Sims W N (inside W x inner h) k h a b → Sims W N (inside W x inner h) k h e f → Sims W N x j (W.join h m) (Control.choose test p r a e) (Control.choose test' p' r' b f)
  sims_choose N x inner j k h m test test' p p' r r' a e b f stays around width width' first second = record {
    by = λ d d' n c c' lt calls same.
        subst (λ i. Runs W.exact (Halts W) (ends W x (W.join h m) d) n (Control.choose test p r a e d n c) (λ o. Control.block p' r' (if i then b else f) d' o (popped c')))
        (sym (stays.same (plain_of c) (plain_of c') same.plain))
        (either (test c.operands) d d' n (popped c) (popped c') lt calls (record { depths = same.depths; plain = stays.popped (plain_of c) (plain_of c') same.plain }));
  }
    where
      either : (i : Bool) (d d' n : ℕ) (c : Conf V S) (c' : Conf V' S') → n < N → Calls W d d' → Same W x (W.join k m) d c c' → Runs W.exact (Halts W) (ends W x (W.join h m) d) n (Control.block p r (if i then a else e) d n c) (λ o. Control.block p' r' (if i then b else f) d' o c')
      either true = block_at N x inner k h m p p' r r' a b around width width' first
      either false = block_at N x inner k h m p p' r r' e f around width width' second
