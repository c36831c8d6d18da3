-- What a form owes so that it stays: the form of the output simulates that of the input.
use Rattle.std.specs.Prelude.{◌≡◌, ℕ, Bool, true, false, List, [], ◌++◌, take, drop, reverse, Option, Some, None}
use Rattle.evaluation_kit.specs.declared.jump.Jump.{Jump}
use Rattle.evaluation_kit.specs.declared.jump.Jump.TheVariants.{Branch, Return, Throw, TailCall, Trap}
use Rattle.outcome_kit.specs.Code.{Go, Leave}
use Rattle.evaluation_kit.specs.Configurations.{Plain, PlainRes, Sem}
use Rattle.evaluation_kit.specs.Control.{Caught, Handler, Function, Callee, Own, Host}
use Rattle.simulation_kit.specs.Labels.{Outermost, outward, IsOther}
use Rattle.simulation_kit.specs.Matches.{Match, Context, PlainMatches, PlainReturns, Sims, FuncSims, in_locals, front, without_top, over}

module _ {V S : Type 0} where
  -- what a handler makes of a result
  abbrev pub plain_taken : ℕ → Option (Caught V S) → Plain V S → PlainRes V S
  plain_taken e None p = Leave (Throw e) p
  plain_taken e (Some k) p = Leave k.jump (record p { operands = k.operands; state = k.state })

  abbrev pub plain_handled : Handler V S → PlainRes V S → PlainRes V S
  plain_handled h (Leave (Throw e) p) = plain_taken e (h e p.state) p
  plain_handled h r = r

-- a function on its operands
abbrev pub plain_opened : {I V S : Type 0} → Function I V → List V → S → Plain V S
plain_opened f a s = record { operands = []; locals = reverse (take f.params a) ++ f.zeros; state = s }

module _ {V S V' S' : Type 0} (W : Match V S V' S') where
  -- plain instructions
  pub record LeafStays (x : Context W) (k m : W.Kind) (act : Plain V S → PlainRes V S) (act' : Plain V' S' → PlainRes V' S') : Type 0 where
    pub acts : (q : Plain V S) (q' : Plain V' S') → W.Stands x.place k q q' → PlainMatches W x m (act q) (act' q')

  -- the output is ready where the input is
  pub record ReadyStays (x : Context W) (k : W.Kind) (ready : Plain V S → Bool) (ready' : Plain V' S' → Bool) : Type 0 where
    pub readies : (q : Plain V S) (q' : Plain V' S') → W.Stands x.place k q q' → ready q ≡ true → ready' q' ≡ true
    pub asks : (q : Plain V S) → ready q ≡ false → W.strict ≡ true

  -- the test of a choice, and the operands below it
  pub record TestStays (p : W.Place) (k j : W.Kind) (test : List V → Bool) (test' : List V' → Bool) : Type 0 where
    pub same : (q : Plain V S) (q' : Plain V' S') → W.Stands p k q q' → test' q'.operands ≡ test q.operands
    pub popped : (q : Plain V S) (q' : Plain V' S') → W.Stands p k q q' → W.Stands p j (without_top q) (without_top q')

  -- what the handlers of both make of a jump out of their code
  abbrev pub HandledBy : Context W → W.Kind → Handler V S → Handler V' S' → Jump → Plain V S → Option Jump → Plain V' S' → Type 0
  HandledBy x m h h' j q None q' = ⊥
  HandledBy x m h h' j q (Some i) q' = PlainMatches W x m (plain_handled h (Leave j q)) (plain_handled h' (Leave i q'))

  pub record HandlerStays (x : Context W) (inner : W.Place) (m : W.Kind) (h : Handler V S) (h' : Handler V' S') : Type 0 where
    pub handles : (j j' : Jump) (q : Plain V S) (q' : Plain V' S') → IsOther j → W.Left inner j q j' q' → HandledBy x m h h' j q (outward j') q'

  -- what a function that is left makes of its caller
  abbrev pub GoneBy : W.Place → Jump → Plain V S → List V' → PlainRes V' S' → Type 0
  GoneBy p j q locals' (Go q') = ⊥
  GoneBy p j q locals' (Leave j' q') = W.Left p j q j' (in_locals locals' q')

  -- what calls owe: operands are handed over, results are taken, and a function that is left leaves its caller
  pub record CallsStay : Type 0 where
    pub calls : (p : W.Place) (k m : W.Kind) (n n' : ℕ) (q : Plain V S) (q' : Plain V' S') → W.Width k n n' → W.Stands p (W.join k m) q q' → W.Takes k (take n q.operands) q.state (take n' q'.operands) q'.state × W.Aside m (drop n q.operands) (drop n' q'.operands) × W.Waits p q.locals q'.locals
    pub returns : (p : W.Place) (h m : W.Kind) (a b locals : List V) (s : S) (a' b' locals' : List V') (s' : S') → W.Gives h a s a' s' → W.Aside m b b' → W.Waits p locals locals' → W.Stands p (W.join h m) (record { operands = a ++ b; locals = locals; state = s }) (record { operands = a' ++ b'; locals = locals'; state = s' })
    pub gone : (p : W.Place) (j : Jump) (q : Plain V S) (r' : PlainRes V' S') (locals : List V) (locals' : List V') → IsOther j → W.Gone j q r' → W.Waits p locals locals' → GoneBy p j (in_locals locals q) locals' r'

  -- What a block owes that the output alone has: it takes all operands that are there, and gives all that are there at its end.
  pub record BlockAdds (x : Context W) (inner : W.Place) (k j h m : W.Kind) (p r : ℕ) : Type 0 where
    pub around : W.Around inner x.place
    pub enters : (q : Plain V S) (q' : Plain V' S') → W.Stands x.place k q q' → W.Stands inner j q (front p q')
    pub takes_all : (q : Plain V S) (q' : Plain V' S') → W.Stands x.place k q q' → drop p q'.operands ≡ []
    pub leaves : (q : Plain V S) (q' : Plain V' S') → W.Stands inner h q q' → W.Stands x.place m q (over [] (front r q'))

  -- The pick of a function by the operand on the top, with the operands below it; without one, a trap.
  abbrev pub PickedBy : W.Place → W.Kind → W.Kind → Option ℕ → Option ℕ → Plain V S → Plain V' S' → Type 0
  PickedBy p k h None None q q' = W.Left p Trap (without_top q) Trap (without_top q')
  PickedBy p k h (Some f) (Some f') q q' = W.Names f f' k h
  PickedBy p k h _ _ q q' = ⊥

  pub record PickStays (p : W.Place) (j k h m : W.Kind) (pick : Plain V S → Option ℕ) (pick' : Plain V' S' → Option ℕ) : Type 0 where
    pub picks : (q : Plain V S) (q' : Plain V' S') → W.Stands p j q q' → PickedBy p k h (pick q) (pick' q') q q'
    pub popped : (q : Plain V S) (q' : Plain V' S') → W.Stands p j q q' → W.Stands p (W.join k m) (without_top q) (without_top q')

  -- all functions of the input that have names in the output
  abbrev pub AllFuncsSim : ℕ → (ℕ → Sem V S) → (ℕ → Sem V' S') → Type 0
  AllFuncsSim N funcs others = (f f' : ℕ) (k h : W.Kind) → W.Names f f' k h → FuncSims W N k h (funcs f) (others f')

  -- a jump by which a function is left for its caller
  abbrev pub IsLasting : Jump → Type 0
  IsLasting (TailCall f) = ⊥
  IsLasting j = IsOther j

  -- what becomes of a function of the output at a jump out of its body, for a jump that leaves the function of the input
  abbrev pub FallsBy : ℕ → Jump → Plain V S → Jump → Plain V' S' → Type 0
  FallsBy r' j q (Branch k) q' = W.Gone j q (Go (front r' q'))
  FallsBy r' j q Return q' = W.Gone j q (Go (front r' q'))
  FallsBy r' j q (TailCall f) q' = ⊥
  FallsBy r' j q j' q' = W.Gone j q (Leave j' q')

  -- a tail call of the input, and the one of the output
  abbrev pub TailBy : W.Kind → ℕ → Plain V S → Jump → Plain V' S' → Type 0
  TailBy h f q (TailCall f') q' = (k : W.Kind) × W.Names f f' k h × W.Takes k q.operands q.state q'.operands q'.state
  TailBy h f q j' q' = ⊥

  -- a function with its body at a place, whose end gives what the function gives
  pub record FunctionStays {I I' : Type 0} (N : ℕ) (k h : W.Kind) (f : Function I V) (f' : Function I' V') (code : Sem V S) (code' : Sem V' S') : Type 0 where
    pub place : W.Place
    pub start : W.Kind
    pub width : W.Width h f.results f'.results
    pub opens : (a : List V) (s : S) (a' : List V') (s' : S') → W.Takes k a s a' s' → W.Stands place start (plain_opened f a s) (plain_opened f' a' s')
    pub body : Sims W N (record { place = place; labels = Outermost h }) start h code code'
    pub gives : (q : Plain V S) (q' : Plain V' S') → W.Stands place h q q' → W.Gives h q.operands q.state q'.operands q'.state
    pub falls : (j j' : Jump) (q : Plain V S) (q' : Plain V' S') → IsLasting j → W.Left place j q j' q' → FallsBy f'.results j q j' q'
    pub tails : (f : ℕ) (j' : Jump) (q : Plain V S) (q' : Plain V' S') → W.Left place (TailCall f) q j' q' → TailBy h f q j' q'

  -- a function of the host
  pub record HostStays (k h : W.Kind) (p p' : ℕ) (act : Plain V S → PlainRes V S) (act' : Plain V' S' → PlainRes V' S') : Type 0 where
    pub acts : (a : List V) (s : S) (a' : List V') (s' : S') → W.Takes k a s a' s' → PlainReturns W h (act (record { operands = take p a; locals = []; state = s })) (act' (record { operands = take p' a'; locals = []; state = s' }))

  -- a call of nothing
  pub record NothingStays (k h : W.Kind) : Type 0 where
    pub traps : (q : Plain V S) (q' : Plain V' S') → W.Takes k q.operands q.state q'.operands q'.state → W.Gone Trap q (Leave Trap q')

  -- what an index names in both, where functions of the module have these bodies
  abbrev pub CalleeStays : {I I' : Type 0} → ℕ → W.Kind → W.Kind → (List I → Sem V S) → (List I' → Sem V' S') → Option (Callee I V S) → Option (Callee I' V' S') → Type 0
  CalleeStays N k h code code' None None = NothingStays k h
  CalleeStays N k h code code' (Some (Own f)) (Some (Own f')) = FunctionStays N k h f f' (code f.body) (code' f'.body)
  CalleeStays N k h code code' (Some (Host p act)) (Some (Host p' act')) = HostStays k h p p' act act'
  CalleeStays N k h code code' _ _ = ⊥
