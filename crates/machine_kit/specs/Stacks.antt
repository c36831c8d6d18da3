-- The operands, and the locals, that a machine holds: those in use, and those set aside.
use Rattle.std.specs.Prelude.{List}

-- What is in use: of operands those of the innermost block, the top first; of locals those of the function, by their
-- indices. And what is set aside for the blocks and the calls around, the last that was set aside first.
pub record Stack (V : Type 0) : Type 0 where
  pub used : List V
  pub aside : List V
