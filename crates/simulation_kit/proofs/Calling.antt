-- Calls of functions.
use Rattle.std.proofs.Common.{ℕ, ◌<◌, List, drop, Option, Some, None}
use Rattle.evaluation_kit.specs.declared.jump.Jump.TheVariants.{Branch, Return, Trap, Stuck}
use Rattle.outcome_kit.specs.Code.{Go, Leave}
use Rattle.evaluation_kit.specs.Configurations.{Conf, Plain, Res, Sem, plain_of}
use Rattle.evaluation_kit.specs.Control
use Rattle.evaluation_kit.specs.Control.{entered, popped, returned, call_picked}
use Rattle.simulation_kit.specs.Runs.{Runs}
use Rattle.simulation_kit.specs.Matches.{Match, Context, Calls, Same, Halts, Results, IsStuck, ends, Sims, Returns, returns, FuncSims}
use Rattle.simulation_kit.specs.Staying.{CallsStay, PickedBy, PickStays, AllFuncsSim}
use Rattle.simulation_kit.proofs.Running.{runs_done, runs_map}

module _ {V S V' S' : Type 0} (W : Match V S V' S') (stay : CallsStay W) where
  stuck_returned : (locals b : List V) (y : Res V S) → IsStuck y W.strict → IsStuck (returned locals b y) W.strict
  stuck_returned locals b (Leave Stuck c) f = f
  stuck_returned locals b (Leave j c) f = absurd f
  stuck_returned locals b (Go c) f = absurd f

  call_left : (x : Context W) (h m : W.Kind) (d : ℕ) (locals b : List V) (locals' b' : List V') → W.Aside m b b' → W.Waits x.place locals locals' → (y : Res V S) (y' : Res V' S') → Returns W h d y y' → Results W x (W.join h m) d (returned locals b y) (returned locals' b' y')
  call_left x h m d locals b locals' b' aside waits (Go c) (Go c') l = record {
    depths = l.depths;
    plain = stay.returns x.place h m c.operands b locals c.world.state c'.operands b' locals' c'.world.state l.plain aside waits;
  }
  call_left x h m d locals b locals' b' aside waits (Go c) (Leave j' c') l = absurd l.plain
  call_left x h m d locals b locals' b' aside waits (Leave (Branch k) c) y' l = absurd l.plain.0
  call_left x h m d locals b locals' b' aside waits (Leave Return c) y' l = absurd l.plain.0
  call_left x h m d locals b locals' b' aside waits (Leave j c) (Go c') l = absurd (stay.gone x.place j (plain_of c) (Go (plain_of c')) locals locals' l.plain.0 l.plain.1 waits)
  call_left x h m d locals b locals' b' aside waits (Leave j c) (Leave j' c') l = record {
    depths = l.depths;
    plain = stay.gone x.place j (plain_of c) (Leave j' (plain_of c')) locals locals' l.plain.0 l.plain.1 waits;
  }

  call_at : (N : ℕ) (x : Context W) (k h m : W.Kind) (p p' : ℕ) (f : Sem V S) (f' : Sem V' S') → W.Width k p p' → FuncSims W N k h f f' → (d d' n : ℕ) (c : Conf V S) (c' : Conf V' S') → n < N → Calls W d d' → Same W x (W.join k m) d c c' → Runs W.exact (Halts W) (ends W x (W.join h m) d) n (Control.call p f d n c) (λ j. Control.call p' f' d' j c')
  call_at N x k h m p p' f f' width sims d d' n c c' lt calls same =
      let handed = stay.calls x.place k m p p' (plain_of c) (plain_of c') width same.plain in
      runs_map W.exact (Halts W) (returns W h d) (ends W x (W.join h m) d) n (f d n (entered p c)) (λ j. f' d' j (entered p' c'))
      (returned c.locals (drop p c.operands)) (returned c'.locals (drop p' c'.operands))
      (sims.by d d' n (entered p c) (entered p' c') lt calls same.depths handed.0)
      (stuck_returned c.locals (drop p c.operands))
      (call_left x h m d c.locals (drop p c.operands) c'.locals (drop p' c'.operands) handed.1 handed.2)

  -- a call becomes a call
  pub sims_call : (N : ℕ) (x : Context W) (k h m : W.Kind) (p p' : ℕ) (f : Sem V S) (f' : Sem V' S') → W.Width k p p' → FuncSims W N k h f f' → Sims W N x (W.join k m) (W.join h m) (Control.call p f) (Control.call p' f')
  sims_call N x k h m p p' f f' width sims = record { by = call_at N x k h m p p' f f' width sims }

  -- a call of a picked function becomes one
  pub sims_call_by : (N : ℕ) (x : Context W) (j k h m : W.Kind) (p p' : ℕ) (pick : Plain V S → Option ℕ) (pick' : Plain V' S' → Option ℕ) (funcs : ℕ → Sem V S) (others : ℕ → Sem V' S') → W.Width k p p' → PickStays W x.place j k h m pick pick' → AllFuncsSim W N funcs others → Sims W N x j (W.join h m) (Control.call_by p pick funcs) (Control.call_by p' pick' others)
  sims_call_by N x j k h m p p' pick pick' funcs others width stays fs = record {
    by = λ d d' n c c' lt calls same.
        picked (pick (plain_of c)) (pick' (plain_of c')) d d' n c c' lt calls same (stays.picks (plain_of c) (plain_of c') same.plain);
  }
    where
      picked : (o : Option ℕ) (o' : Option ℕ) (d d' n : ℕ) (c : Conf V S) (c' : Conf V' S') → n < N → Calls W d d' → Same W x j d c c' → PickedBy W x.place k h o o' (plain_of c) (plain_of c') → Runs W.exact (Halts W) (ends W x (W.join h m) d) n (call_picked p funcs o d n (popped c)) (λ i. call_picked p' others o' d' i (popped c'))
      picked None None d d' n c c' lt calls same g = runs_done W.exact (Halts W) (ends W x (W.join h m) d) n (Leave Trap (popped c)) (Leave Trap (popped c')) (record { depths = same.depths; plain = g })
      picked None (Some f') d d' n c c' lt calls same g = absurd g
      picked (Some f) None d d' n c c' lt calls same g = absurd g
      picked (Some f) (Some f') d d' n c c' lt calls same g =
          call_at N x k h m p p' (funcs f) (others f') width (fs f f' k h g) d d' n (popped c) (popped c') lt calls (record { depths = same.depths; plain = stays.popped (plain_of c) (plain_of c') same.plain })
