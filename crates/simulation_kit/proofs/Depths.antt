-- The numbers of open calls stay within their bound.
use Rattle.std.proofs.Common.{◌≡◌, ℕ, ◌+◌, ◌*◌, ◌≤◌, max, arith, mul-le-mul_left, mul-add, mul-one}
use Rattle.evaluation_kit.specs.Configurations.{World, deeper}
use Rattle.simulation_kit.specs.Matches.{Match, Lawful, Calls, Depths}

module _ {V S V' S' : Type 0} (W : Match V S V' S') (laws : Lawful W) where
  -- one call more is open in both
  pub calls_deeper : (d d' : ℕ) → Calls W d d' → Calls W (d + 1) (d' + 1)
  calls_deeper d d' c =
      let one = laws.frames_some in
      let e : W.frames * (d + 1) ≡ W.frames * d + W.frames * 1 = mul-add W.frames d 1 in
      let f : W.frames * 1 ≡ W.frames = mul-one W.frames in
      omega arith

  -- the host calls
  pub calls_first : Calls W 0 0
  calls_first = let le = laws.spare_within in omega arith

  grown : (a b m : ℕ) → W.frames * m + W.more_frames ≤ W.frames * max m a + W.more_frames
  grown a b m =
      let le : m ≤ max m a = omega arith in
      let more = mul-le-mul_left W.frames le in
      omega arith

  pub depths_deeper : (d d' : ℕ) (w : World S) (w' : World S') → Calls W d d' → Depths W d w w' → Depths W (d + 1) (deeper d w) (deeper d' w')
  depths_deeper d d' w w' c h = record {
    reached = omega arith;
    bound =
        let a = grown (d + 1) 0 w.deepest in
        let b = h.bound in
        let le : d + 1 ≤ max w.deepest (d + 1) = omega arith in
        let e = mul-le-mul_left W.frames le in
        let f = calls_deeper d d' c in
        omega arith;
  }

  -- back from a call
  pub depths_back : (d : ℕ) (w : World S) (w' : World S') → Depths W (d + 1) w w' → Depths W d w w'
  depths_back d w w' h = record { reached = let le = h.reached in omega arith; bound = h.bound }

  -- one call more is open in the output alone
  pub depths_spare : (d d' : ℕ) (w : World S) (w' : World S') → 1 ≤ W.spare → Calls W d d' → Depths W d w w' → Depths W d w (deeper d' w')
  depths_spare d d' w w' one c h = record {
    reached = h.reached;
    bound =
        let a = h.bound in
        let e = mul-le-mul_left W.frames h.reached in
        omega arith;
  }
