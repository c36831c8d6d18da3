-- Fewer live frames are within a greater bound.
use Rattle.std.proofs.Common.{ℕ, ◌+◌, ◌*◌, ◌≤◌, arith}
use Rattle.core1_ast.specs.declared.module.parts.Module1.{Module1}
use Rattle.host_kit.specs.Scripts.{regrow}
use Rattle.host_kit.specs.declared.script.Script.{Script}
use Rattle.meaning_new.specs.Runs.{depth}
use Rattle.meaning_core1.specs.Runs.{depth1}
use Rattle.wasm_ast.specs.declared.module.parts.Module.{Module}
use Rattle.headline.specs.Headline.{OutToIn, Same}
use Rattle.headline.specs.Mapping.{map_script}

within : (m : Module) (m1 : Module1) (captures : ℕ) (s : Script) (n : ℕ) → OutToIn 1 1 m m1 captures s n → OutToIn 4 16 m m1 captures s n
within m m1 captures s n h = record {
  turns = h.turns;
  fewer = h.fewer;
  grows = h.grows;
  begins = h.begins;
  same = h.same;
  frames = λ few.
      let bound : depth1 m1 (map_script m s) n ≤ 1 * depth m (regrow h.grows s) h.turns + 1 = h.frames few in
      omega (arith, bound);
}

pub few_frames : (m : Module) (m1 : Module1) (captures : ℕ) → Same 1 1 m m1 captures → Same 4 16 m m1 captures
few_frames m m1 captures same = record {
  under = λ s fits.
      let under = same.under s fits in
      record {
        fits = under.fits;
        mapped_events = under.mapped_events;
        out_to_in = λ n. within m m1 captures s n (under.out_to_in n);
        in_to_out = under.in_to_out;
        direct = under.direct;
      };
}
