-- The stack of operands that an algorithm keeps, and when it fits types.
use Rattle.std.specs.Prelude.{Bool, true, ◌&&◌, nat_le, List, [], ◌∷◌, length}
use Rattle.typing_kit.specs.declared.operand.Operand.{Operand}
use Rattle.typing_kit.specs.declared.operand.Operand.TheVariants.{Known, Bottom}

-- the operands of the blocks around, the top last; those of the innermost block, the top first; and whether nothing
-- reaches this place, so that below them there are as many of type bot as code asks for
pub record Stack (T : Type 0) : Type 0 where
  pub outer : List (Operand T)
  pub top : List (Operand T)
  pub dead : Bool

module _ {T : Type 0} (sub : T → T → Bool) where
  -- an operand may stand where the type is asked for
  abbrev pub meets : Operand T → T → Bool
  meets (Known s) t = sub s t
  meets Bottom t = true

  -- the topmost operands may stand where the types are asked for, both with the top first
  abbrev pub fit : Bool → List (Operand T) → List T → Bool
  fit dead s [] = true
  fit dead [] (t ∷ ts) = dead
  fit dead (a ∷ s) (t ∷ ts) = meets a t && fit dead s ts

  -- and there are no further ones
  abbrev pub fit_whole : Bool → List (Operand T) → List T → Bool
  fit_whole dead s ts = nat_le (length s) (length ts) && fit dead s ts
