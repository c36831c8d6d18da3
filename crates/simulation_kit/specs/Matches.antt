-- What a pass says of the configurations of its input and its output that match, and when code and functions of the output
-- simulate those of the input.
use Rattle.std.specs.Prelude.{◌≡◌, ℕ, ◌+◌, ◌*◌, ◌≤◌, ◌<◌, Bool, true, List, ◌++◌, take, drop, Option, Some, None}
use Rattle.evaluation_kit.specs.declared.jump.Jump.{Jump}
use Rattle.evaluation_kit.specs.declared.jump.Jump.TheVariants.{Branch, Return, Stuck}
use Rattle.outcome_kit.specs.Code.{Go, Leave, stands}
use Rattle.evaluation_kit.specs.Configurations.{World, Conf, Plain, PlainRes, Res, Sem, plain_of}
use Rattle.evaluation_kit.specs.Tasks.{plain_result}
use Rattle.simulation_kit.specs.Runs.{Post, Runs}
use Rattle.simulation_kit.specs.Labels.{Labels, Shared, Added, results, target, outward, IsOther}

-- The matching of a pass, from values V and states S to values V' and states S'. Kinds say what lies on the operands; where
-- they do not matter there is one kind alone.
pub record Match (V S V' S' : Type 0) : Type 1 where
  -- whether the output takes exactly the turns of the input
  pub exact : Bool
  -- whether the input asks for the types of operands: where they lack them, the output is free
  pub strict : Bool
  -- at most so many calls are open in the output for each one of the input, and so many more; of these, so many are left
  -- wherever code runs, for functions that the output alone has
  pub frames : ℕ
  pub more_frames : ℕ
  pub spare : ℕ
  -- where code stands: all that matters of what is around it, beside the labels
  pub Place : Type 0
  -- the second place is around a block at the first
  pub Around : Place → Place → Type 0
  pub Kind : Type 0
  -- operands of one kind over operands of another, and how many operands a kind has in the input and in the output
  pub join : Kind → Kind → Kind
  pub Width : Kind → ℕ → ℕ → Type 0
  -- configurations match where the operands are of this kind, and where they are so at least on the top
  pub Stands : Place → Kind → Plain V S → Plain V' S' → Type 0
  pub Lands : Place → Kind → Plain V S → Plain V' S' → Type 0
  -- operands that are set aside, and the locals of a function that waits for a call
  pub Aside : Kind → List V → List V' → Type 0
  pub Waits : Place → List V → List V' → Type 0
  -- the operands that a function takes, which lie on the top, and those that it gives; and the states
  pub Takes : Kind → List V → S → List V' → S' → Type 0
  pub Gives : Kind → List V → S → List V' → S' → Type 0
  -- what a jump of code stands for in the output, if it is no branch and no return, and what becomes of a function that is
  -- left by it
  pub Left : Place → Jump → Plain V S → Jump → Plain V' S' → Type 0
  pub Gone : Jump → Plain V S → PlainRes V' S' → Type 0
  -- a function of the input is this one of the output, which takes and gives operands of these kinds
  pub Names : ℕ → ℕ → Kind → Kind → Type 0
  -- the states where both runs are halted
  pub Ends : S → S' → Type 0

module _ {V S : Type 0} where
  -- with the topmost operands alone, with others below them, and without the top
  abbrev pub front : ℕ → Plain V S → Plain V S
  front n p = record p { operands = take n p.operands }

  abbrev pub over : List V → Plain V S → Plain V S
  over below p = record p { operands = p.operands ++ below }

  abbrev pub without_top : Plain V S → Plain V S
  without_top p = record p { operands = drop 1 p.operands }

  -- in a function with these locals
  abbrev pub in_locals : List V → Plain V S → Plain V S
  in_locals locals p = record p { locals = locals }

  -- code whose operands lack their types is left by this jump
  abbrev pub IsStuck : Res V S → Bool → Type 0
  IsStuck (Leave Stuck c) strict = strict ≡ true
  IsStuck _ strict = ⊥

module _ {V S V' S' : Type 0} (W : Match V S V' S') where
  -- where code stands, with its labels
  pub record Context : Type 0 where
    pub place : W.Place
    pub labels : Labels W.Kind

  -- in a body whose label takes this
  abbrev pub inside : Context → W.Place → W.Kind → Context
  inside x inner g = record { place = inner; labels = Shared g x.labels }

  -- in a block of the output alone
  abbrev pub beside : Context → W.Place → Context
  beside x inner = record { place = inner; labels = Added x.labels }

  -- so many calls are open in the input and in the output, and some are spare
  abbrev pub Calls : ℕ → ℕ → Type 0
  Calls d d' = d' + W.spare ≤ W.frames * d + W.more_frames

  -- the greatest numbers of calls that were open, where d are
  pub record Depths (d : ℕ) (w : World S) (w' : World S') : Type 0 where
    pub reached : d ≤ w.deepest
    pub bound : w'.deepest ≤ W.frames * w.deepest + W.more_frames

  -- configurations that match, where d calls are open
  pub record Same (x : Context) (k : W.Kind) (d : ℕ) (c : Conf V S) (c' : Conf V' S') : Type 0 where
    pub depths : Depths d c.world c'.world
    pub plain : W.Stands x.place k (plain_of c) (plain_of c')

  -- the worlds where both runs are halted
  pub record Halts (w : World S) (w' : World S') : Type 0 where
    pub state : W.Ends w.state w'.state
    pub bound : w'.deepest ≤ W.frames * w.deepest + W.more_frames

  -- a label that is the same in both, or none
  abbrev pub Reaches : Context → Option W.Kind → Plain V S → Plain V' S' → Type 0
  Reaches x None p p' = ⊥
  Reaches x (Some k) p p' = W.Lands x.place k p p'

  -- what jumps stand for
  abbrev pub Jumps : Context → Jump → Plain V S → Jump → Plain V' S' → Type 0
  Jumps x (Branch k) p (Branch k') p' = Reaches x (target x.labels k k') p p'
  Jumps x (Branch k) p j' p' = ⊥
  Jumps x Return p Return p' = W.Lands x.place (results x.labels) p p'
  Jumps x Return p j' p' = ⊥
  Jumps x j p j' p' = W.Left x.place j p j' p'

  -- the ends of a plain instruction
  abbrev pub PlainMatches : Context → W.Kind → PlainRes V S → PlainRes V' S' → Type 0
  PlainMatches x m (Go p) (Go p') = W.Stands x.place m p p'
  PlainMatches x m (Leave j p) (Leave j' p') = Jumps x j p j' p'
  PlainMatches x m _ _ = ⊥

  -- the ends of code
  pub record Results (x : Context) (m : W.Kind) (d : ℕ) (r : Res V S) (r' : Res V' S') : Type 0 where
    pub depths : Depths d (stands r).world (stands r').world
    pub plain : PlainMatches x m (plain_result r) (plain_result r')

  abbrev pub ends : Context → W.Kind → ℕ → Post (Res V S) (Res V' S')
  ends x m d = record { Matches = Results x m d; Free = λ r. IsStuck r W.strict }

  -- Code b simulates code a in runs within fewer than N turns: from operands of kind k, where it comes to its end, to those of kind m.
  pub record Sims (N : ℕ) (x : Context) (k m : W.Kind) (a : Sem V S) (b : Sem V' S') : Type 0 where
    pub by : (d d' n : ℕ) (c : Conf V S) (c' : Conf V' S') → n < N → Calls d d' → Same x k d c c' → Runs W.exact Halts (ends x m d) n (a d n c) (λ j. b d' j c')

  -- the ends of functions
  abbrev pub PlainReturns : W.Kind → PlainRes V S → PlainRes V' S' → Type 0
  PlainReturns h (Go p) (Go p') = W.Gives h p.operands p.state p'.operands p'.state
  PlainReturns h (Go p) (Leave j' p') = ⊥
  PlainReturns h (Leave j p) r' = IsOther j × W.Gone j p r'

  pub record Returns (h : W.Kind) (d : ℕ) (r : Res V S) (r' : Res V' S') : Type 0 where
    pub depths : Depths d (stands r).world (stands r').world
    pub plain : PlainReturns h (plain_result r) (plain_result r')

  abbrev pub returns : W.Kind → ℕ → Post (Res V S) (Res V' S')
  returns h d = record { Matches = Returns h d; Free = λ r. IsStuck r W.strict }

  -- Function g simulates function f in runs within fewer than N turns: it takes operands of kind k and gives those of kind h.
  pub record FuncSims (N : ℕ) (k h : W.Kind) (f : Sem V S) (g : Sem V' S') : Type 0 where
    pub by : (d d' n : ℕ) (c : Conf V S) (c' : Conf V' S') → n < N → Calls d d' → Depths d c.world c'.world → W.Takes k c.operands c.world.state c'.operands c'.world.state → Runs W.exact Halts (returns h d) n (f d n c) (λ j. g d' j c')

  -- a jump out of a block of the output, or none where it ends there
  abbrev pub LeftBy : W.Place → Jump → Plain V S → Option Jump → Plain V' S' → Type 0
  LeftBy p j q None q' = ⊥
  LeftBy p j q (Some j') q' = W.Left p j q j' q'

  -- What the matching of a pass owes, so that blocks and functions keep it.
  pub record Lawful : Type 0 where
    pub frames_some : 1 ≤ W.frames
    pub spare_within : W.spare ≤ W.more_frames
    pub stands_end : (p : W.Place) (k : W.Kind) (q : Plain V S) (q' : Plain V' S') → W.Stands p k q q' → W.Ends q.state q'.state
    pub takes_end : (k : W.Kind) (a : List V) (s : S) (a' : List V') (s' : S') → W.Takes k a s a' s' → W.Ends s s'
    -- what stands so has it on the top, and a label takes it from there
    pub lands : (p : W.Place) (k : W.Kind) (q : Plain V S) (q' : Plain V' S') → W.Stands p k q q' → W.Lands p k q q'
    pub lands_at : (p : W.Place) (k : W.Kind) (n n' : ℕ) (q : Plain V S) (q' : Plain V' S') → W.Width k n n' → W.Lands p k q q' → W.Stands p k (front n q) (front n' q')
    -- a block is entered and left at its end
    pub enters : (inner outer : W.Place) (k m : W.Kind) (n n' : ℕ) (q : Plain V S) (q' : Plain V' S') → W.Around inner outer → W.Width k n n' → W.Stands outer (W.join k m) q q' → W.Stands inner k (front n q) (front n' q') × W.Aside m (drop n q.operands) (drop n' q'.operands)
    pub leaves : (inner outer : W.Place) (h m : W.Kind) (b : List V) (b' : List V') (q : Plain V S) (q' : Plain V' S') → W.Around inner outer → W.Stands inner h q q' → W.Aside m b b' → W.Stands outer (W.join h m) (over b q) (over b' q')
    -- a block is left by jumps
    pub lands_out : (inner outer : W.Place) (k : W.Kind) (q : Plain V S) (q' : Plain V' S') → W.Around inner outer → W.Lands inner k q q' → W.Lands outer k q q'
    pub left_out : (inner outer : W.Place) (j j' : Jump) (q : Plain V S) (q' : Plain V' S') → W.Around inner outer → IsOther j → W.Left inner j q j' q' → LeftBy outer j q (outward j') q'
