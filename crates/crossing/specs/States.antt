-- What the values, the store and the state of a run of 3.0 are in 1.0, and what a run keeps that makes the two agree.
use Rattle.std.specs.Prelude.{◌≡◌, ℕ, true, false, List, [], map, Option}
use Rattle.std.specs.List.{AllByRecursion}
use Rattle.host_kit.specs.declared.script.Reply.{Reply}
use Rattle.host_kit.specs.declared.script.Act.{Act}
use Rattle.host_kit.specs.declared.script.Act.TheVariants as acts
use Rattle.host_kit.specs.declared.script.Item.{Item}
use Rattle.host_kit.specs.declared.script.Item.TheVariants as items
use Rattle.host_kit.specs.declared.script.Script.{Script}
use Rattle.host_kit.specs.declared.value.Value.{Value}
use Rattle.host_kit.specs.declared.value.Value.TheVariants as host
use Rattle.meaning_new.specs.declared.val.Val.{Val}
use Rattle.meaning_new.specs.declared.val.Val.TheVariants as vals
use Rattle.meaning_new.specs.Store.{Memory, Table, Store, State}
use Rattle.meaning_new.specs.Forms.{function_of}
use Rattle.meaning_core1.specs.declared.val1.Val1.{Val1}
use Rattle.meaning_core1.specs.declared.val1.Val1.TheVariants.{I32, I64}
use Rattle.meaning_core1.specs.Store.{Memory1, Store1, State1}

-- values, by their number; a reference has none
abbrev pub cross_value : Val → Val1
cross_value (vals.I32 i) = I32 i
cross_value (vals.I64 i) = I64 i
cross_value (vals.V128 v) = I64 v
cross_value _ = I32 0

-- memories, tables, the store and the state
abbrev pub cross_memory : Memory → Memory1
cross_memory m = record { bytes = m.bytes; max = m.max }

abbrev pub cross_table : Table → List (Option ℕ)
cross_table t = map function_of t.entries

abbrev pub cross_store : Store → Store1
cross_store s = record { globals = map cross_value s.globals; memories = map cross_memory s.memories; tables = map cross_table s.tables }

abbrev pub cross_state : State → State1
cross_state s = record { store = cross_store s.store; replies = s.replies; grows = s.grows; trace = s.trace }

-- an integer, in code and at the host
abbrev pub IsInteger : Val → Type 0
IsInteger (vals.I32 i) = Unit {0}
IsInteger (vals.I64 i) = Unit {0}
IsInteger _ = ⊥

abbrev pub IsIntegerOfHost : Value → Type 0
IsIntegerOfHost (host.I32 i) = Unit {0}
IsIntegerOfHost (host.I64 i) = Unit {0}
IsIntegerOfHost _ = ⊥

-- acts and replies of a host that knows integers alone
abbrev pub ActIsPlain : Act → Type 0
ActIsPlain (acts.Set name v) = IsIntegerOfHost v
ActIsPlain _ = Unit {0}

pub record ReplyIsPlain (r : Reply) : Type 0 where
  pub values : AllByRecursion IsIntegerOfHost r.values
  pub acts : AllByRecursion ActIsPlain r.acts

-- What every store of a run keeps: globals are integers, memories have addresses of 32 bits, and no exception was made.
pub record StoreIsPlain (s : Store) : Type 0 where
  pub globals : AllByRecursion IsInteger s.globals
  pub memories : AllByRecursion (λ (m : Memory). m.wide ≡ false) s.memories
  pub exceptions : s.exceptions ≡ []

-- And every state: growths come to any sizes, and the host replies by integers.
pub record IsPlain (s : State) : Type 0 where
  pub store : StoreIsPlain s.store
  pub permits : (sizes : List ℕ) → s.permits sizes ≡ true
  pub replies : AllByRecursion (λ rs. AllByRecursion ReplyIsPlain rs) s.replies

-- items and scripts of a host that knows integers alone
abbrev pub ItemIsPlain : Item → Type 0
ItemIsPlain (items.Call name arguments) = AllByRecursion IsIntegerOfHost arguments
ItemIsPlain (items.Host a) = ActIsPlain a

pub record ScriptIsPlain (s : Script) : Type 0 where
  pub globals : AllByRecursion IsIntegerOfHost s.globals
  pub replies : AllByRecursion (λ rs. AllByRecursion ReplyIsPlain rs) s.replies
  pub items : AllByRecursion ItemIsPlain s.items
