-- The forms that instructions have: an instruction of any language is one of these, with the code inside it.
use Rattle.std.specs.Prelude.{ℕ, List, map, Bool, Option}
use Rattle.outcome_kit.specs.Code.{run}
use Rattle.evaluation_kit.specs.Configurations.{Plain, PlainRes, Sem}
use Rattle.evaluation_kit.specs.Control.{Handler, leaf, block, loop, choose, guard, call, call_by}

-- X is what stands for an instruction; p and r are how many operands the code inside takes and gives
pub data Form (V S X : Type 0) : Type 0 where
  Flat : (Plain V S → PlainRes V S) → Form V S X
  Enclose : ℕ → ℕ → List X → Form V S X
  Repeat : ℕ → ℕ → List X → Form V S X
  Choose : (List V → Bool) → ℕ → ℕ → List X → List X → Form V S X
  Guard : ℕ → ℕ → Handler V S → List X → Form V S X
  Invoke : ℕ → ℕ → Form V S X
  InvokeBy : ℕ → (Plain V S → Option ℕ) → Form V S X

-- the same form over other things that stand for instructions
abbrev pub map_form : {V S X Y : Type 0} → (X → Y) → Form V S X → Form V S Y
map_form f (Flat act) = Flat act
map_form f (Enclose p r body) = Enclose p r (map f body)
map_form f (Repeat p r body) = Repeat p r (map f body)
map_form f (Choose test p r first second) = Choose test p r (map f first) (map f second)
map_form f (Guard p r h body) = Guard p r h (map f body)
map_form f (Invoke p x) = Invoke p x
map_form f (InvokeBy p pick) = InvokeBy p pick

-- what a form does, by what functions and the instructions inside do
abbrev pub eval : {V S : Type 0} → (ℕ → Sem V S) → Form V S (Sem V S) → Sem V S
eval funcs (Flat act) = leaf act
eval funcs (Enclose p r body) = block p r (run body)
eval funcs (Repeat p r body) = loop p r (run body)
eval funcs (Choose test p r first second) = choose test p r (run first) (run second)
eval funcs (Guard p r h body) = guard p r h (run body)
eval funcs (Invoke p x) = call p (funcs x)
eval funcs (InvokeBy p pick) = call_by p pick funcs
