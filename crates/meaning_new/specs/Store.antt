-- What a module of 3.0 works on ("Runtime Structure" of chapter 4: values, the store, memory and table instances), what
-- its host has left to answer, and what is told of the run.
use Rattle.std.specs.Prelude.{ℕ, ◌+◌, ◌*◌, ◌/◌, ◌%◌, ◌^◌, Bool, true, false, List, [], ◌∷◌, ◌++◌, map, length, Option, Some, None, if◌then◌else◌, ◌&&◌}
use Rattle.host_kit.specs.Trace.{Mark, Shows, Grown}
use Rattle.host_kit.specs.declared.event.Event.{Event}
use Rattle.host_kit.specs.declared.script.Reply.{Reply}
use Rattle.host_kit.specs.declared.value.Value.{Value}
use Rattle.host_kit.specs.declared.value.Value.TheVariants as values
use Rattle.num_core.specs.declared.operators.Width.{Width}
use Rattle.num_core.specs.declared.operators.Width.TheVariants.{W32, W64}
use Rattle.wasm_ast.specs.declared.module.ty.Ty.{Ty}
use Rattle.wasm_ast.specs.declared.module.ty.Ty.TheVariants as types
use Rattle.evaluation_kit.specs.declared.jump.Jump.TheVariants.{Trap}
use Rattle.outcome_kit.specs.Code.{Go, Leave}
use Rattle.evaluation_kit.specs.Configurations.{Plain, PlainRes}
use Rattle.evaluation_kit.specs.Leaves.{top, below}
use Rattle.meaning_new.specs.declared.val.Val.{Val}
use Rattle.meaning_new.specs.declared.val.Val.TheVariants.{I32, I64, V128, Func, Extern, Exn, Null}

-- default_t: what a declared local begins with ("Default Values"). There is no float in the profile
abbrev pub default : Ty → Val
default types.I64 = I64 0
default types.V128 = V128 0
default types.Func = Null types.Func
default types.Extern = Null types.Extern
default types.Exn = Null types.Exn
default _ = I32 0

-- what stands for an operand, a local or a global that is not there
abbrev pub missing : Val
missing = I32 0

-- the number that a value is; a reference is none
abbrev pub number : Val → ℕ
number (I32 i) = i
number (I64 i) = i
number (V128 v) = v
number _ = 0

-- the integer of a width, and of an address type
abbrev pub int : Width → ℕ → Val
int W32 i = I32 i
int W64 i = I64 i

abbrev pub address_width : Bool → Width
address_width true = W64
address_width false = W32

-- 1 where something holds, else 0
abbrev pub truth : Bool → Val
truth holds = I32 (if holds then 1 else 0)

-- Values between code and the host. An exception does not meet the host in this profile; it is shown as null
abbrev pub from_null : Ty → Value
from_null types.Func = values.NullFunc
from_null _ = values.NullExtern

abbrev pub to_host : Val → Value
to_host (I32 i) = values.I32 i
to_host (I64 i) = values.I64 i
to_host (V128 v) = values.V128 (v % 2 ^ 64) (v / 2 ^ 64)
to_host (Func x) = values.Func x
to_host (Extern a) = values.Extern a
to_host (Exn e) = values.NullExtern
to_host (Null t) = from_null t

abbrev pub from_host : Value → Val
from_host (values.I32 i) = I32 i
from_host (values.I64 i) = I64 i
from_host (values.V128 low high) = V128 (low + 2 ^ 64 * high)
from_host (values.Func x) = Func x
from_host (values.Extern a) = Extern a
from_host values.NullFunc = Null types.Func
from_host values.NullExtern = Null types.Extern

-- "Memory Instances": the bytes, the greatest number of pages, if there is one, and whether addresses have 64 bits
pub record Memory : Type 0 where
  pub bytes : List ℕ
  pub max : Option ℕ
  pub wide : Bool

-- "Table Instances": the entries, and their greatest number, if there is one
pub record Table : Type 0 where
  pub entries : List Val
  pub max : Option ℕ

-- "Exception Instances": the tag, and the values with the last one first
pub record Exception : Type 0 where
  pub tag : ℕ
  pub payload : List Val

-- The store of one module: all that its code can read or change.
pub record Store : Type 0 where
  pub globals : List Val
  pub memories : List Memory
  pub tables : List Table
  -- what each segment still has; one that was dropped is empty
  pub elems : List (List Val)
  pub datas : List (List ℕ)
  -- the exceptions made so far
  pub exceptions : List Exception

-- The store, with what the host has left to answer, what is told of the run, and the bounds of the run.
pub record State : Type 0 where
  pub store : Store
  -- for each imported function the replies that the host has left, and its answers to growths that are left
  pub replies : List (List Reply)
  pub grows : List Bool
  -- what the run has left behind so far
  pub trace : List Mark
  -- Which sizes a growth may come to, for how many captures there is room, and whether operands are asked for their
  -- types. A run without bounds permits everything.
  pub permits : List ℕ → Bool
  pub room : ℕ → Bool
  pub strict : Bool

-- the trace goes on
abbrev pub mark : Mark → State → State
mark m s = record s { trace = s.trace ++ m ∷ [] }

abbrev pub tell : Event → State → State
tell event s = mark (Shows event) s

-- how many bytes a page has, and the size of a memory in pages
abbrev pub page : ℕ
page = 65536

abbrev pub page_count : Memory → ℕ
page_count m = length m.bytes / page

-- the sizes of all memories and tables
abbrev pub sizes : Store → List ℕ
sizes s = map page_count s.memories ++ map (λ t. length t.entries) s.tables

-- An instruction on operands and the store: what they become, or none where it traps
abbrev pub After : Type 0
After = Option (List Val × Store)

abbrev pub with_store : Store → State → State
with_store store s = record s { store = store }

abbrev pub store_or_trap : Plain Val State → After → PlainRes Val State
store_or_trap p None = Leave Trap p
store_or_trap p (Some r) = Go (record p { operands = r.0; state = with_store r.1 p.state })

abbrev pub on_store : (List Val → Store → After) → Plain Val State → PlainRes Val State
on_store f p = store_or_trap p (f p.operands p.state.store)

-- "Growing Memories" and "Growing Tables": whether the limits hold, the store with the larger memory or table, and the
-- operands after it, by whether it succeeds
pub record Growth : Type 0 where
  pub fits : Bool
  pub larger : Store
  pub operands : Bool → List Val

-- A growth takes the next answer, true after their end, and succeeds where its limits hold and the answer is true; a
-- bounded run permits only some sizes. It is told of with the sizes after it
abbrev pub is_granted : Growth → State → Bool
is_granted g s = g.fits && (top true s.grows && s.permits (sizes g.larger))

abbrev pub told_growth : Bool → Store → State → State
told_growth ok store s = record s { store = store; grows = below s.grows; trace = s.trace ++ Grown ok (sizes store) ∷ [] }

abbrev pub settled_growth : Bool → Growth → Plain Val State → PlainRes Val State
settled_growth ok g p =
    Go (record p { operands = g.operands ok; state = told_growth ok (if ok then g.larger else p.state.store) p.state })

abbrev pub growth_or_trap : Plain Val State → Option Growth → PlainRes Val State
growth_or_trap p None = Leave Trap p
growth_or_trap p (Some g) = settled_growth (is_granted g p.state) g p

abbrev pub on_growth : (List Val → Store → Option Growth) → Plain Val State → PlainRes Val State
on_growth f p = growth_or_trap p (f p.operands p.state.store)
