-- What each form of code does with the code inside it ("Control Instructions" and "Function Calls" of chapter 4). A
-- block takes p operands and gives r; the operands below them are set aside while it runs.
use Rattle.std.specs.Prelude.{ℕ, zero, suc, ◌+◌, List, [], ◌++◌, take, drop, reverse, Bool, if◌then◌else◌, Option, Some, None}
use Rattle.evaluation_kit.specs.declared.jump.Jump.{Jump}
use Rattle.evaluation_kit.specs.declared.jump.Jump.TheVariants.{Branch, Return, Throw, TailCall, Trap, Stuck}
use Rattle.outcome_kit.specs.Outcome.{Out, Done, Halt, bind, turn}
use Rattle.outcome_kit.specs.Code.{Go, Leave}
use Rattle.evaluation_kit.specs.Configurations.{World, Conf, Plain, Res, PlainRes, Sem, deeper, plain_of, settled}

-- What a handler makes of an exception that it takes: how it leaves, with which operands, in which state.
pub record Caught (V S : Type 0) : Type 0 where
  pub jump : Jump
  pub operands : List V
  pub state : S

-- what a handler does with the exception of this number, or none where it lets it pass
abbrev pub Handler : Type 0 → Type 0 → Type 0
Handler V S = ℕ → S → Option (Caught V S)

-- A function of the module: how many operands it takes and gives, with what its further locals begin, and its body.
pub record Function (I V : Type 0) : Type 0 where
  pub params : ℕ
  pub results : ℕ
  pub zeros : List V
  pub body : List I

-- what a function index names: a function of the module, or one of the host's, that takes so many operands
pub data Callee (I V S : Type 0) : Type 0 where
  Own : Function I V → Callee I V S
  Host : ℕ → (Plain V S → PlainRes V S) → Callee I V S

module _ {V S : Type 0} where
  -- a plain instruction
  abbrev pub leaf : (Plain V S → PlainRes V S) → Sem V S
  leaf f open_calls n c = Done 0 (settled c.world (f (plain_of c)))

  -- the configuration with p operands; that with r operands over those which were set aside; that without its top
  abbrev pub entered : ℕ → Conf V S → Conf V S
  entered p c = record c { operands = take p c.operands }

  abbrev pub kept : ℕ → List V → Conf V S → Conf V S
  kept r below c = record c { operands = take r c.operands ++ below }

  abbrev pub popped : Conf V S → Conf V S
  popped c = record c { operands = drop 1 c.operands }

  -- the end of a block: its label is behind it
  abbrev pub leave_block : ℕ → List V → Res V S → Res V S
  leave_block r below (Go c) = Go (kept r below c)
  leave_block r below (Leave (Branch zero) c) = Go (kept r below c)
  leave_block r below (Leave (Branch (suc k)) c) = Leave (Branch k) c
  leave_block r below (Leave jump c) = Leave jump c

  -- block
  abbrev pub block : ℕ → ℕ → Sem V S → Sem V S
  block p r body open_calls n c =
      bind n (body open_calls n (entered p c)) (λ x m. Done 0 (leave_block r (drop p c.operands) x))

  -- the end of one pass through a loop: its label is before it
  abbrev pub leave_pass : (ℕ → Conf V S → Out (World S) (Res V S)) → ℕ → ℕ → List V → Res V S → ℕ → Out (World S) (Res V S)
  leave_pass again p r below (Go c) n = Done 0 (Go (kept r below c))
  leave_pass again p r below (Leave (Branch zero) c) n = again n (entered p c)
  leave_pass again p r below (Leave (Branch (suc k)) c) n = Done 0 (Leave (Branch k) c)
  leave_pass again p r below (Leave jump c) n = Done 0 (Leave jump c)

  -- so many passes through a loop at most; each takes a turn
  abbrev pub passes : ℕ → ℕ → ℕ → List V → Sem V S → Sem V S
  passes zero p r below body open_calls n c = Halt c.world
  passes (suc k) p r below body open_calls n c =
      turn n c.world (λ m. bind m (body open_calls m c) (leave_pass (passes k p r below body open_calls) p r below))

  -- the passes through a loop: no more than there are turns
  abbrev pub cycle : ℕ → ℕ → List V → Sem V S → Sem V S
  cycle p r below body open_calls n c = passes n p r below body open_calls n c

  -- loop
  abbrev pub loop : ℕ → ℕ → Sem V S → Sem V S
  loop p r body open_calls n c = cycle p r (drop p c.operands) body open_calls n (entered p c)

  -- if: the condition lies on the top
  abbrev pub choose : (List V → Bool) → ℕ → ℕ → Sem V S → Sem V S → Sem V S
  choose test p r first second open_calls n c = block p r (if test c.operands then first else second) open_calls n (popped c)

  -- try_table: an exception that leaves its code comes to its handler
  abbrev pub taken : ℕ → Option (Caught V S) → Conf V S → Res V S
  taken e None c = Leave (Throw e) c
  taken e (Some k) c = Leave k.jump (record c { operands = k.operands; world = record c.world { state = k.state } })

  abbrev pub handled : Handler V S → Res V S → Res V S
  handled h (Leave (Throw e) c) = taken e (h e c.world.state) c
  handled h r = r

  abbrev pub guard : ℕ → ℕ → Handler V S → Sem V S → Sem V S
  guard p r h body open_calls n c =
      bind n (body open_calls n (entered p c)) (λ x m. Done 0 (handled h (leave_block r (drop p c.operands) x)))

  -- the end of a call: the locals are the caller's again
  abbrev pub returned : List V → List V → Res V S → Res V S
  returned locals below (Go c) = Go (record c { operands = c.operands ++ below; locals = locals })
  returned locals below (Leave jump c) = Leave jump (record c { locals = locals })

  -- call of a function that takes p operands
  abbrev pub call : ℕ → Sem V S → Sem V S
  call p f open_calls n c = bind n (f open_calls n (entered p c)) (λ x m. Done 0 (returned c.locals (drop p c.operands) x))

  -- call_indirect: what lies on the top picks the function, or none, which traps
  abbrev pub call_picked : ℕ → (ℕ → Sem V S) → Option ℕ → Sem V S
  call_picked p funcs None open_calls n c = Done 0 (Leave Trap c)
  call_picked p funcs (Some f) open_calls n c = call p (funcs f) open_calls n c

  abbrev pub call_by : ℕ → (Plain V S → Option ℕ) → (ℕ → Sem V S) → Sem V S
  call_by p pick funcs open_calls n c = call_picked p funcs (pick (plain_of c)) open_calls n (popped c)

  -- an instruction that is only run where its operands have its types
  abbrev pub where_ready : Bool → Sem V S → Sem V S
  where_ready ready a open_calls n c = if ready then a open_calls n c else Done 0 (Leave Stuck c)

  abbrev pub when_ready : (Plain V S → Bool) → Sem V S → Sem V S
  when_ready ready a open_calls n c = where_ready (ready (plain_of c)) a open_calls n c

-- "Invocation": the topmost operands become the first locals
abbrev pub opened : {I V S : Type 0} → ℕ → Function I V → Conf V S → Conf V S
opened open_calls f c =
    record { operands = []; locals = reverse (take f.params c.operands) ++ f.zeros; world = deeper open_calls c.world }

module _ {V S : Type 0} where
  -- "Returning from a function": its results; its outermost label is behind its body
  abbrev pub ended : ℕ → Conf V S → Res V S
  ended r c = Go (record c { operands = take r c.operands })

  abbrev pub leave_body : (ℕ → ℕ → Conf V S → Out (World S) (Res V S)) → ℕ → Res V S → ℕ → Out (World S) (Res V S)
  leave_body tail r (Go c) n = Done 0 (ended r c)
  leave_body tail r (Leave (Branch k) c) n = Done 0 (ended r c)
  leave_body tail r (Leave Return c) n = Done 0 (ended r c)
  leave_body tail r (Leave (TailCall g) c) n = tail g n c
  leave_body tail r (Leave jump c) n = Done 0 (Leave jump c)

  -- a function of the host's, which takes no turn and opens no call: it sees its operands alone
  abbrev pub hosted : ℕ → (Plain V S → PlainRes V S) → Sem V S
  hosted p act open_calls n c =
      Done 0 (settled c.world (act (record { operands = take p c.operands; locals = []; state = c.world.state })))

-- a body in one more open call; a tail call runs beside as many calls as the function did
abbrev pub enter : {I V S : Type 0} → Sem V S → (ℕ → Sem V S) → Function I V → Sem V S
enter code funcs f open_calls n c =
    bind n (code (open_calls + 1) n (opened open_calls f c)) (leave_body (λ g. funcs g open_calls) f.results)

-- a call of what an index names; without such a function a trap
abbrev pub arrive : {I V S : Type 0} → Option (Callee I V S) → (Function I V → Sem V S) → Sem V S
arrive None own open_calls n c = Done 0 (Leave Trap c)
arrive (Some (Own f)) own open_calls n c = own f open_calls n c
arrive (Some (Host p act)) own open_calls n c = hosted p act open_calls n c
