-- What a machine knows of a language: the form of each instruction, with the code inside it, and what its functions are.
use Rattle.std.specs.Prelude.{◌≡◌, ℕ, ◌+◌, ◌≤◌, List, [], ◌∷◌, map, Bool, false, Option, Some, None}
use Rattle.evaluation_kit.specs.declared.jump.Jump.{Jump}
use Rattle.outcome_kit.specs.Outcome.{turn}
use Rattle.outcome_kit.specs.Code as code
use Rattle.outcome_kit.specs.Code.{Go, Leave, run}
use Rattle.evaluation_kit.specs.Configurations.{Conf, Plain, PlainRes, Sem}
use Rattle.evaluation_kit.specs.Control.{Handler, Callee, Own, Host, enter, arrive}
use Rattle.evaluation_kit.specs.Forms.{Form, Flat, Enclose, Repeat, Choose, Guard, Invoke, InvokeBy, map_form, eval}

-- A language, seen from an instruction: its form over instructions, what it does, what functions do and are, and a size,
-- by which code that is run gets smaller.
pub record Acts (I V S : Type 0) : Type 0 where
  pub form : I → Form V S I
  pub exec : I → Sem V S
  pub func : ℕ → Sem V S
  pub callee : ℕ → Option (Callee I V S)
  pub size : I → ℕ

-- the sizes of code, and of the code inside a form
abbrev pub total : {I : Type 0} → (I → ℕ) → List I → ℕ
total size [] = 0
total size (i ∷ code) = size i + total size code

abbrev pub inner_size : {I V S : Type 0} → (I → ℕ) → Form V S I → ℕ
inner_size size (Flat act) = 0
inner_size size (Enclose p r body) = total size body
inner_size size (Repeat p r body) = total size body
inner_size size (Choose test p r first second) = total size first + total size second
inner_size size (Guard p r h body) = total size body
inner_size size (Invoke p x) = 0
inner_size size (InvokeBy p pick) = 0

module _ {I V S : Type 0} where
  abbrev pub code_in : Acts I V S → List I → Sem V S
  code_in acts code = run (map acts.exec code)

  -- an instruction does what its form does, a function is called as its index says, and the code inside is smaller
  pub record Laws (acts : Acts I V S) : Type 0 where
    pub execs : (i : I) (open_calls n : ℕ) (c : Conf V S) → acts.exec i open_calls n c ≡ eval acts.func (map_form acts.exec (acts.form i)) open_calls n c
    pub enters : (x open_calls n : ℕ) (c : Conf V S) → acts.func x open_calls n c ≡ arrive (acts.callee x) (λ f d m a. turn m a.world (λ k. enter (code_in acts f.body) acts.func f d k a)) open_calls n c
    pub shrinks : (i : I) → inner_size acts.size (acts.form i) + 3 ≤ acts.size i

  -- the parts of a form; for another form the part that does nothing
  abbrev pub act_of : Form V S I → Plain V S → PlainRes V S
  act_of (Flat act) p = act p
  act_of _ p = Go p

  abbrev pub test_of : Form V S I → List V → Bool
  test_of (Choose test p r first second) operands = test operands
  test_of _ operands = false

  abbrev pub handler_of : Form V S I → Handler V S
  handler_of (Guard p r h body) e s = h e s
  handler_of _ e s = None

  abbrev pub pick_of : Form V S I → Plain V S → Option ℕ
  pick_of (InvokeBy p pick) c = pick c
  pick_of _ c = None

  abbrev pub zeros_of : Option (Callee I V S) → List V
  zeros_of (Some (Own f)) = f.zeros
  zeros_of _ = []

  abbrev pub host_of : Option (Callee I V S) → Plain V S → PlainRes V S
  host_of (Some (Host p act)) c = act c
  host_of _ c = Go c

-- how code ends: at its end, or by a jump
abbrev pub ended_by : {C : Type 0} → Option Jump → C → code.Res Jump C
ended_by None c = Go c
ended_by (Some j) c = Leave j c
