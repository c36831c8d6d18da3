-- What runs of the input keep by themselves, whatever a pass does: for one, that operands refer to no function that is not
-- there. It is shown once for a language.
use Rattle.std.specs.Prelude.{ℕ, List, [], ◌++◌, take, drop, reverse, Option, Some, None}
use Rattle.evaluation_kit.specs.declared.jump.Jump.{Jump}
use Rattle.evaluation_kit.specs.declared.jump.Jump.TheVariants.{TailCall}
use Rattle.outcome_kit.specs.Code.{Go, Leave}
use Rattle.evaluation_kit.specs.Configurations.{Plain, PlainRes}
use Rattle.evaluation_kit.specs.Control.{Caught, Handler}
use Rattle.evaluation_kit.specs.Forms.{Form, Flat, Guard, InvokeBy}
use Rattle.evaluation_kit.specs.Tasks.{Status}

-- The functions that are called, what all operands and locals keep, and what all states do.
pub record Keeping (V S : Type 0) : Type 1 where
  pub Named : ℕ → Type 0
  pub Sound : List V → Type 0
  pub none : Sound []
  pub takes : (n : ℕ) (l : List V) → Sound l → Sound (take n l)
  pub drops : (n : ℕ) (l : List V) → Sound l → Sound (drop n l)
  pub appends : (a b : List V) → Sound a → Sound b → Sound (a ++ b)
  pub reverses : (l : List V) → Sound l → Sound (reverse l)
  pub Safe : S → Type 0

-- where nothing need be kept
abbrev pub anything : (V S : Type 0) → Keeping V S
anything V S = record {
  Named = λ f. Unit {0};
  Sound = λ l. Unit {0};
  none = tt;
  takes = λ n l h. tt;
  drops = λ n l h. tt;
  appends = λ a b h g. tt;
  reverses = λ l h. tt;
  Safe = λ s. Unit {0};
}

module _ {V S : Type 0} (K : Keeping V S) where
  -- what a configuration keeps
  pub record Holds (q : Plain V S) : Type 0 where
    pub operands : K.Sound q.operands
    pub locals : K.Sound q.locals
    pub state : K.Safe q.state

  -- a tail call is one of a function that is there
  abbrev pub NamedJump : Jump → Type 0
  NamedJump (TailCall f) = K.Named f
  NamedJump _ = Unit {0}

  -- what is kept after a result, an exception that is caught, the pick of a function, and a task
  abbrev pub HoldsAfter : PlainRes V S → Type 0
  HoldsAfter (Go q) = Holds q
  HoldsAfter (Leave j q) = NamedJump j × Holds q

  abbrev pub HoldsCaught : Option (Caught V S) → Type 0
  HoldsCaught None = Unit {0}
  HoldsCaught (Some k) = NamedJump k.jump × K.Sound k.operands × K.Safe k.state

  abbrev pub HoldsPicked : Option ℕ → Type 0
  HoldsPicked None = Unit {0}
  HoldsPicked (Some f) = K.Named f

  abbrev pub HoldsStatus : Status S → Type 0
  HoldsStatus (Go s) = K.Safe s
  HoldsStatus (Leave j s) = Unit {0}

  -- what plain instructions, functions of the host, handlers and picks keep
  pub record ActKeeps (act : Plain V S → PlainRes V S) : Type 0 where
    pub keeps : (q : Plain V S) → Holds q → HoldsAfter (act q)

  pub record HandlerKeeps (t : Handler V S) : Type 0 where
    pub keeps : (e : ℕ) (s : S) → K.Safe s → HoldsCaught (t e s)

  pub record PickKeeps (pick : Plain V S → Option ℕ) : Type 0 where
    pub keeps : (q : Plain V S) → Holds q → HoldsPicked (pick q)

  -- what a form keeps beside its bodies and its calls
  abbrev pub FormKeeps : {X : Type 0} → Form V S X → Type 0
  FormKeeps (Flat act) = ActKeeps act
  FormKeeps (Guard p r t code) = HandlerKeeps t
  FormKeeps (InvokeBy p pick) = PickKeeps pick
  FormKeeps _ = Unit {0}

  -- what a host keeps
  pub record ChangeKeeps (f : S → Status S) : Type 0 where
    pub keeps : (s : S) → K.Safe s → HoldsStatus (f s)

  pub record SeeKeeps (see : PlainRes V S → Status S) : Type 0 where
    pub goes : (operands locals : List V) (s : S) → K.Sound operands → K.Safe s → HoldsStatus (see (Go (record { operands = operands; locals = locals; state = s })))
    pub leaves : (j : Jump) (operands locals : List V) (s : S) → K.Sound operands → K.Safe s → HoldsStatus (see (Leave j (record { operands = operands; locals = locals; state = s })))
