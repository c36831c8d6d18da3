-- Why a tree is no script, and what a call that reads a tree answers.
use Rattle.std.specs.Prelude.{◌≡◌, ℕ, List, ◌∷◌, ◌++◌, Result, Ok, Err, codes}
use Rattle.host_kit.specs.declared.fault.ScriptFault.{ScriptFault}
use Rattle.host_kit.specs.declared.fault.ScriptFault.TheVariants.{Shape, Memory}

-- what is printed of a fault
abbrev pub fault_text : ScriptFault → List ℕ
fault_text (Shape path) = codes "script: " ++ path
fault_text (Memory e) = codes "out of memory"

-- the answer is what the form says, where memory was found
abbrev pub Tells : {A : Type 0} → Result A ScriptFault → Result A (List ℕ) → Type 0
Tells (Ok x) said = said ≡ Ok x
Tells (Err (Shape path)) said = said ≡ Err path
Tells (Err (Memory e)) said = Unit {0}

-- the second fault is the first, with a step before its path; both may be want of memory
abbrev pub Below : List ℕ → ScriptFault → ScriptFault → Type 0
Below step (Shape path) (Shape longer) = longer ≡ 47 ∷ step ++ path
Below step (Memory e) (Shape longer) = ⊥
Below step _ (Memory e) = Unit {0}
