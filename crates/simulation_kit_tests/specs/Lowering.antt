-- The pass: an instruction becomes a call of a function that comes behind all others.
use Rattle.std.specs.Prelude.{ℕ, List, [], ◌∷◌, ◌++◌, map, flat_map, length}
use Rattle.simulation_kit_tests.specs.declared.op.Op.{Op, roll-Op}
use Rattle.simulation_kit_tests.specs.declared.op.Op.TheOpen.{Op-F}
use Rattle.evaluation_kit.specs.Control.{Function}
use Rattle.simulation_kit.specs.Rewriting.{Step, body_at, rewrite}
use Rattle.simulation_kit_tests.specs.Small.{high, language}

abbrev pub X : Type 0
X = Unit {0}

abbrev pub one : Op-F Op → List Op
one l = roll-Op l ∷ []

-- what becomes of one instruction, where the new function has this index
abbrev pub step : ℕ → Step X Op-F Op
step helper (Op-F.Const n) x = one (Op-F.Const n)
step helper (Op-F.Get i) x = one (Op-F.Get i)
step helper (Op-F.Set i) x = one (Op-F.Set i)
step helper Op-F.Down x = one Op-F.Down
step helper Op-F.Zero x = one (Op-F.Call helper)
step helper Op-F.Tell x = one Op-F.Tell
step helper Op-F.Keep x = one Op-F.Keep
step helper (Op-F.BrIf l) x = one (Op-F.BrIf l)
step helper (Op-F.Block code) x = one (Op-F.Block (body_at x code))
step helper (Op-F.Loop code) x = one (Op-F.Loop (body_at x code))
step helper (Op-F.Call f) x = one (Op-F.Call f)

-- the new function counts its operand down to 0, and keeps each number in the global
abbrev pub countdown : List (Op-F Op)
countdown = Op-F.Get 0 ∷ (Op-F.Keep ∷ (Op-F.Get 0 ∷ (Op-F.Down ∷ (Op-F.Set 0 ∷ (Op-F.Get 0 ∷ (Op-F.BrIf 0 ∷ []))))))

abbrev pub helper_function : Function Op ℕ
helper_function = record { params = 1; results = 1; zeros = []; body = roll-Op (Op-F.Loop (map roll-Op countdown)) ∷ (roll-Op (Op-F.Get 0) ∷ []) }

abbrev pub lowered : ℕ → List (Function Op ℕ) → Function Op ℕ → Function Op ℕ
lowered helper funcs f = record f { body = flat_map (λ i. rewrite (language high funcs) (step helper) i tt) f.body }

abbrev pub lower : List (Function Op ℕ) → List (Function Op ℕ)
lower funcs = map (lowered (length funcs) funcs) funcs ++ helper_function ∷ []
