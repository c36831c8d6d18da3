-- What a module of 1.0 works on ("Runtime Structure" of chapter 4 of 1.0: values, the store, memory and table instances),
-- what its host has left to answer, and what is told of the run.
use Rattle.std.specs.Prelude.{ℕ, ◌/◌, Bool, true, ◌&&◌, List, [], ◌∷◌, ◌++◌, map, length, Option, Some, None, if◌then◌else◌}
use Rattle.num_core.specs.declared.operators.Width.{Width}
use Rattle.num_core.specs.declared.operators.Width.TheVariants.{W32, W64}
use Rattle.host_kit.specs.Trace.{Mark, Shows, Grown}
use Rattle.host_kit.specs.declared.event.Event.{Event}
use Rattle.host_kit.specs.declared.script.Reply.{Reply}
use Rattle.host_kit.specs.declared.value.Value.{Value}
use Rattle.host_kit.specs.declared.value.Value.TheVariants as values
use Rattle.core1_ast.specs.declared.module.ty.Ty1.{Ty1}
use Rattle.core1_ast.specs.declared.module.ty.Ty1.TheVariants as types
use Rattle.evaluation_kit.specs.declared.jump.Jump.TheVariants.{Trap}
use Rattle.outcome_kit.specs.Code.{Go, Leave}
use Rattle.evaluation_kit.specs.Configurations.{Plain, PlainRes}
use Rattle.evaluation_kit.specs.Leaves.{top, below}
use Rattle.meaning_core1.specs.declared.val1.Val1.{Val1}
use Rattle.meaning_core1.specs.declared.val1.Val1.TheVariants.{I32, I64}

-- what a declared local begins with; no float is in a module that is typed
abbrev pub zero_of_type : Ty1 → Val1
zero_of_type types.I64 = I64 0
zero_of_type _ = I32 0

-- what stands for a value that is not there
abbrev pub absent : Val1
absent = I32 0

-- the integer that a value is, and the value of a width that is an integer
abbrev pub number1 : Val1 → ℕ
number1 (I32 i) = i
number1 (I64 i) = i

abbrev pub value_of : Width → ℕ → Val1
value_of W32 i = I32 i
value_of W64 i = I64 i

abbrev pub bool_value : Bool → Val1
bool_value b = I32 (if b then 1 else 0)

-- values between code and the host; no other value meets a module of 1.0
abbrev pub host_value : Val1 → Value
host_value (I32 i) = values.I32 i
host_value (I64 i) = values.I64 i

abbrev pub value_from : Value → Val1
value_from (values.I32 i) = I32 i
value_from (values.I64 i) = I64 i
value_from _ = absent

-- "Memory Instances": the bytes, and the greatest number of pages, if there is one
pub record Memory1 : Type 0 where
  pub bytes : List ℕ
  pub max : Option ℕ

-- The store of one module: all that its code can read or change. A table is a list of functions, of which some may be
-- missing.
pub record Store1 : Type 0 where
  pub globals : List Val1
  pub memories : List Memory1
  pub tables : List (List (Option ℕ))

-- The store, with what the host has left to answer and what is told of the run.
pub record State1 : Type 0 where
  pub store : Store1
  -- for each imported function the replies that the host has left, and its answers to growths that are left
  pub replies : List (List Reply)
  pub grows : List Bool
  -- what the run has left behind so far
  pub trace : List Mark

abbrev pub in_store : Store1 → State1 → State1
in_store store s = record s { store = store }

-- the host sees an event
abbrev pub show : Event → State1 → State1
show event s = record s { trace = s.trace ++ Shows event ∷ [] }

-- how many bytes a page has, the size of a memory in pages, and the sizes of all memories and tables
abbrev pub page_bytes : ℕ
page_bytes = 65536

abbrev pub pages1 : Memory1 → ℕ
pages1 m = length m.bytes / page_bytes

abbrev pub sizes1 : Store1 → List ℕ
sizes1 s = map pages1 s.memories ++ map length s.tables

-- an instruction on operands and the store: what they become, or none where it traps
abbrev pub Effect : Type 0
Effect = Option (List Val1 × Store1)

abbrev pub effect_or_trap : Plain Val1 State1 → Effect → PlainRes Val1 State1
effect_or_trap p None = Leave Trap p
effect_or_trap p (Some r) = Go (record p { operands = r.0; state = in_store r.1 p.state })

abbrev pub by_store : (List Val1 → Store1 → Effect) → Plain Val1 State1 → PlainRes Val1 State1
by_store f p = effect_or_trap p (f p.operands p.state.store)

-- "Growing Memories": whether the limit holds, the store with the larger memory, and the operands after it, by whether it
-- succeeds
pub record Growth1 : Type 0 where
  pub fits : Bool
  pub larger : Store1
  pub operands : Bool → List Val1

-- a growth takes the next answer, true after their end, and succeeds where its limit holds and the answer is true; it is
-- told of, with the sizes after it
abbrev pub grows1 : Growth1 → State1 → Bool
grows1 g s = g.fits && top true s.grows

abbrev pub growth_told : Bool → Store1 → State1 → State1
growth_told ok store s = record s { store = store; grows = below s.grows; trace = s.trace ++ Grown ok (sizes1 store) ∷ [] }

abbrev pub growth_settled : Bool → Growth1 → Plain Val1 State1 → PlainRes Val1 State1
growth_settled ok g p =
    Go (record p { operands = g.operands ok; state = growth_told ok (if ok then g.larger else p.state.store) p.state })

abbrev pub grow_or_trap : Plain Val1 State1 → Option Growth1 → PlainRes Val1 State1
grow_or_trap p None = Leave Trap p
grow_or_trap p (Some g) = growth_settled (grows1 g p.state) g p

abbrev pub by_growth : (List Val1 → Store1 → Option Growth1) → Plain Val1 State1 → PlainRes Val1 State1
by_growth f p = grow_or_trap p (f p.operands p.state.store)
