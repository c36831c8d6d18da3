-- What a language is, and what its code and its functions do.
use Rattle.std.specs.Prelude.{◌≡◌, ℕ, zero, suc, List, map, Bool, Option}
use Rattle.outcome_kit.specs.Outcome.{Halt, turn}
use Rattle.outcome_kit.specs.Code.{run}
use Rattle.evaluation_kit.specs.Configurations.{Plain, Sem}
use Rattle.evaluation_kit.specs.Control.{Callee, when_ready, enter, arrive}
use Rattle.evaluation_kit.specs.Forms.{Form, map_form, eval}

-- Instructions I of which one layer is F: an instruction whose bodies hold anything.
pub record Tree (I : Type 0) (F : Type 0 → Type 0) : Type 1 where
  pub roll : F I → I
  pub over : (X Y : Type 0) → (X → Y) → F X → F Y
  pub fold : (A : Type 0) → (F A → A) → I → A
  pub fold_roll : (A : Type 0) (step : F A → A) (l : F I) → fold A step (roll l) ≡ step (over I A (fold A step) l)
  pub over_twice : (X Y Z : Type 0) (f : X → Y) (g : Y → Z) (l : F X) → over Y Z g (over X Y f l) ≡ over X Z (λ x. g (f x)) l
  pub induct : (P : I → Type 0) → ((l : F ((i : I) × P i)) → P (roll (over ((i : I) × P i) I (λ x. x.0) l))) → (i : I) → P i

-- A language: its instructions, the form of each and when its operands have its types, and what an index of a function
-- names. Neither form nor types ask what the bodies hold.
pub record Language (I : Type 0) (F : Type 0 → Type 0) (V S : Type 0) : Type 1 where
  pub tree : Tree I F
  pub layer : (X : Type 0) → F X → Form V S X
  pub ready : (X : Type 0) → F X → Plain V S → Bool
  pub layer_over : (X Y : Type 0) (f : X → Y) (l : F X) → layer Y (tree.over X Y f l) ≡ map_form f (layer X l)
  pub ready_over : (X Y : Type 0) (f : X → Y) (l : F X) → ready Y (tree.over X Y f l) ≡ ready X l
  pub callee : ℕ → Option (Callee I V S)

module _ {I : Type 0} {F : Type 0 → Type 0} {V S : Type 0} (L : Language I F V S) where
  -- one layer, and an instruction, by what functions do
  abbrev pub exec_layer : (ℕ → Sem V S) → F (Sem V S) → Sem V S
  exec_layer funcs l = when_ready (L.ready (Sem V S) l) (eval funcs (L.layer (Sem V S) l))

  abbrev pub exec_with : (ℕ → Sem V S) → I → Sem V S
  exec_with funcs i = L.tree.fold (Sem V S) (exec_layer funcs) i

  -- "Instruction Sequences": the instructions in order
  abbrev pub code_with : (ℕ → Sem V S) → List I → Sem V S
  code_with funcs code = run (map (exec_with funcs) code)

  -- "Function Calls": the entry of a function of the module takes a turn
  abbrev pub enter_with : (ℕ → Sem V S) → ℕ → Sem V S
  enter_with funcs x =
      arrive (L.callee x) (λ f open_calls n c. turn n c.world (λ m. enter (code_with funcs f.body) funcs f open_calls m c))

  -- functions that enter at most so many others in one another
  abbrev pub func_within : ℕ → ℕ → Sem V S
  func_within zero x = arrive (L.callee x) (λ f open_calls n c. Halt c.world)
  func_within (suc k) x = enter_with (func_within k) x

  -- functions: no more entries than there are turns
  unfoldable pub func : ℕ → Sem V S
  func x open_calls n c = func_within n x open_calls n c

  -- an instruction, and code
  abbrev pub exec : I → Sem V S
  exec i = exec_with func i

  abbrev pub exec_code : List I → Sem V S
  exec_code code = code_with func code
