-- Handlers of exceptions.
use Rattle.std.proofs.Common.{◌≡◌, ℕ, zero, suc, ◌+◌, ◌*◌, ◌≤◌, Bool, List, drop, Option, Some, None, refl, sym, subst}
use Rattle.evaluation_kit.specs.declared.jump.Jump.TheVariants.{Branch, Return, Throw, Stuck}
use Rattle.outcome_kit.specs.Code.{Go, Leave, stands}
use Rattle.evaluation_kit.specs.Configurations.{World, Conf, Res, Sem, plain_of}
use Rattle.evaluation_kit.specs.Control
use Rattle.evaluation_kit.specs.Control.{Handler, Caught, entered, leave_block, handled, taken}
use Rattle.evaluation_kit.specs.Tasks.{plain_result}
use Rattle.simulation_kit.specs.Matches.{Match, Context, inside, Depths, Halts, PlainMatches, Results, IsStuck, ends, Sims, Lawful}
use Rattle.simulation_kit.specs.Staying.{HandlerStays, plain_taken, plain_handled}
use Rattle.simulation_kit.proofs.Running.{runs_map}
use Rattle.simulation_kit.proofs.Blocks.{block_enters, block_left}

module _ {V S : Type 0} where
  taken_plain : (e : ℕ) (o : Option (Caught V S)) (c : Conf V S) → plain_result (taken e o c) ≡ plain_taken e o (plain_of c)
  taken_plain e None c = refl
  taken_plain e (Some k) c = refl

  handled_plain : (h : Handler V S) (y : Res V S) → plain_result (handled h y) ≡ plain_handled h (plain_result y)
  handled_plain h (Leave (Throw e) c) = taken_plain e (h e c.world.state) c
  handled_plain h (Leave j c) = refl
  handled_plain h (Go c) = refl

  taken_deepest : (e : ℕ) (o : Option (Caught V S)) (c : Conf V S) → (stands (taken e o c)).world.deepest ≡ c.world.deepest
  taken_deepest e None c = refl
  taken_deepest e (Some k) c = refl

  handled_deepest : (h : Handler V S) (y : Res V S) → (stands (handled h y)).world.deepest ≡ (stands y).world.deepest
  handled_deepest h (Leave (Throw e) c) = taken_deepest e (h e c.world.state) c
  handled_deepest h (Leave j c) = refl
  handled_deepest h (Go c) = refl

  stuck_handled : (strict : Bool) (h : Handler V S) (r : ℕ) (b : List V) (y : Res V S) → IsStuck y strict → IsStuck (handled h (leave_block r b y)) strict
  stuck_handled strict h r b (Leave Stuck c) f = f
  stuck_handled strict h r b (Leave j c) f = absurd f
  stuck_handled strict h r b (Go c) f = absurd f

module _ {V S V' S' : Type 0} (W : Match V S V' S') where
  depths_of : (d : ℕ) (w v : World S) (w' v' : World S') → v.deepest ≡ w.deepest → v'.deepest ≡ w'.deepest → Depths W d w w' → Depths W d v v'
  depths_of d w v w' v' e e' h = record {
    reached = subst (λ n. d ≤ n) (sym e) h.reached;
    bound = subst (λ n. n ≤ W.frames * v.deepest + W.more_frames) (sym e') (subst (λ n. w'.deepest ≤ W.frames * n + W.more_frames) (sym e) h.bound);
  }

  handles : (x : Context W) (m : W.Kind) (d : ℕ) (h : Handler V S) (h' : Handler V' S') (y : Res V S) (y' : Res V' S') → Depths W d (stands y).world (stands y').world → PlainMatches W x m (plain_handled h (plain_result y)) (plain_handled h' (plain_result y')) → Results W x m d (handled h y) (handled h' y')
  handles x m d h h' y y' depths g = record {
    depths = depths_of d (stands y).world (stands (handled h y)).world (stands y').world (stands (handled h' y')).world (handled_deepest h y) (handled_deepest h' y') depths;
    plain = subst (λ i. PlainMatches W x m i (plain_result (handled h' y'))) (sym (handled_plain h y)) (subst (λ i. PlainMatches W x m (plain_handled h (plain_result y)) i) (sym (handled_plain h' y')) g);
  }

  module _ (laws : Lawful W) (x : Context W) (inner : W.Place) (h m : W.Kind) (r r' : ℕ) (b : List V) (b' : List V') (d : ℕ) (around : W.Around inner x.place) (width : W.Width h r r') (aside : W.Aside m b b') (t : Handler V S) (t' : Handler V' S') (stays : HandlerStays W x inner (W.join h m) t t') where
    guard_left : (y : Res V S) (y' : Res V' S') → Results W (inside W x inner h) h d y y' → Results W x (W.join h m) d (handled t (leave_block r b y)) (handled t' (leave_block r' b' y'))
    guard_left (Go c) (Go c') l = block_left W laws x inner h m r r' b b' d around width aside (Go c) (Go c') l
    guard_left (Go c) (Leave j' c') l = absurd l.plain
    guard_left (Leave (Branch zero) c) (Leave (Branch zero) c') l = block_left W laws x inner h m r r' b b' d around width aside (Leave (Branch zero) c) (Leave (Branch zero) c') l
    guard_left (Leave (Branch (suc k)) c) (Leave (Branch (suc k')) c') l = block_left W laws x inner h m r r' b b' d around width aside (Leave (Branch (suc k)) c) (Leave (Branch (suc k')) c') l
    guard_left (Leave (Branch zero) c) (Leave j' c') l = absurd l.plain
    guard_left (Leave (Branch (suc k)) c) (Leave (Branch zero) c') l = absurd l.plain
    guard_left (Leave (Branch (suc k)) c) (Leave j' c') l = absurd l.plain
    guard_left (Leave Return c) (Leave Return c') l = block_left W laws x inner h m r r' b b' d around width aside (Leave Return c) (Leave Return c') l
    guard_left (Leave Return c) (Leave j' c') l = absurd l.plain
    guard_left (Leave j c) (Go c') l = absurd l.plain
    guard_left (Leave j c) (Leave (Branch zero) c') l = absurd (stays.handles j (Branch zero) (plain_of c) (plain_of c') tt l.plain)
    guard_left (Leave j c) (Leave j' c') l = handles x (W.join h m) d t t' (Leave j c) (leave_block r' b' (Leave j' c')) l.depths (stays.handles j j' (plain_of c) (plain_of c') tt l.plain)

  -- a handler becomes a handler
  pub sims_guard : (laws : Lawful W) (N : ℕ) (x : Context W) (inner : W.Place) (k h m : W.Kind) (p p' r r' : ℕ) (t : Handler V S) (t' : Handler V' S') (a : Sem V S) (b : Sem V' S') → HandlerStays W x inner (W.join h m) t t' → W.Around inner x.place → W.Width k p p' → W.Width h r r' → Sims W N (inside W x inner h) k h a b → Sims W N x (W.join k m) (W.join h m) (Control.guard p r t a) (Control.guard p' r' t' b)
  sims_guard laws N x inner k h m p p' r r' t t' a b stays around width width' sims = record {
    by = λ d d' n c c' lt calls same.
        let aside = (laws.enters inner x.place k m p p' (plain_of c) (plain_of c') around width same.plain).1 in
        runs_map W.exact (Halts W) (ends W (inside W x inner h) h d) (ends W x (W.join h m) d) n (a d n (entered p c)) (λ j. b d' j (entered p' c'))
        (λ y. handled t (leave_block r (drop p c.operands) y)) (λ y. handled t' (leave_block r' (drop p' c'.operands) y))
        (sims.by d d' n (entered p c) (entered p' c') lt calls (block_enters W laws inner x.place k m p p' d c c' x.labels h around width same.depths same.plain))
        (stuck_handled W.strict t r (drop p c.operands))
        (guard_left laws x inner h m r r' (drop p c.operands) (drop p' c'.operands) d around width' aside t t' stays);
  }
