-- Exceptions ("Control Instructions" of chapter 4: throw, throw_ref, try_table).
use Rattle.std.specs.Prelude.{ℕ, Bool, true, false, ◌==◌, find, List, [], ◌∷◌, ◌++◌, length, take, drop, slice_get, Option, Some, None}
use Rattle.host_kit.specs.Trace.{Captured, captured}
use Rattle.wasm_ast.specs.declared.module.immediates.Catch.{Catch}
use Rattle.wasm_ast.specs.declared.module.immediates.Catch.TheVariants as catches
use Rattle.evaluation_kit.specs.declared.jump.Jump.TheVariants.{Branch, Throw, Trap, Full}
use Rattle.outcome_kit.specs.Code.{Leave}
use Rattle.evaluation_kit.specs.Configurations.{Plain, PlainRes}
use Rattle.evaluation_kit.specs.Control.{Caught, Handler}
use Rattle.evaluation_kit.specs.Leaves.{top, below}
use Rattle.meaning_new.specs.declared.val.Val.{Val}
use Rattle.meaning_new.specs.declared.val.Val.TheVariants.{Exn}
use Rattle.meaning_new.specs.Store.{Store, State, Exception, mark, missing, with_store}

-- throw x: a new exception, with as many operands as its tag takes
abbrev pub with_exception : Exception → Store → Store
with_exception e s = record s { exceptions = s.exceptions ++ e ∷ [] }

abbrev pub throw : ℕ → ℕ → Plain Val State → PlainRes Val State
throw x count p =
    Leave (Throw (length p.state.store.exceptions)) (record p { operands = drop count p.operands; state = with_store (with_exception (record { tag = x; payload = take count p.operands }) p.state.store) p.state })

-- throw_ref: the exception that the operand refers to; null traps
abbrev pub thrown : Val → Plain Val State → PlainRes Val State
thrown (Exn e) p = Leave (Throw e) p
thrown _ p = Leave Trap p

abbrev pub throw_ref : Plain Val State → PlainRes Val State
throw_ref p = thrown (top missing p.operands) (record p { operands = below p.operands })

-- a clause without a reference, and one with: where there is no room for one more exception, the code is left
abbrev pub catch : ℕ → List Val → State → Option (Caught Val State)
catch label operands s = Some (record { jump = Branch label; operands = operands; state = s })

abbrev pub caught_ref : Bool → ℕ → ℕ → List Val → State → Option (Caught Val State)
caught_ref true e label operands s = Some (record { jump = Branch label; operands = Exn e ∷ operands; state = mark Captured s })
caught_ref false e label operands s = Some (record { jump = Full; operands = []; state = s })

abbrev pub catch_ref : ℕ → ℕ → List Val → State → Option (Caught Val State)
catch_ref e label operands s =
    caught_ref (s.room (captured s.trace)) e label operands s

-- whether a clause takes an exception of a tag
abbrev pub takes : ℕ → Catch → Bool
takes tag (catches.Tag x label) = tag == x
takes tag (catches.TagRef x label) = tag == x
takes tag (catches.All label) = true
takes tag (catches.AllRef label) = true

-- what a clause makes of an exception; its label is counted from outside the try_table
abbrev pub caught_by : Option Catch → ℕ → Exception → State → Option (Caught Val State)
caught_by None e x s = None
caught_by (Some (catches.Tag tag label)) e x s = catch label x.payload s
caught_by (Some (catches.TagRef tag label)) e x s = catch_ref e label x.payload s
caught_by (Some (catches.All label)) e x s = catch label [] s
caught_by (Some (catches.AllRef label)) e x s = catch_ref e label [] s

-- the first clause that takes the exception of a number
abbrev pub caught : Option Exception → List Catch → ℕ → State → Option (Caught Val State)
caught None clauses e s = None
caught (Some x) clauses e s = caught_by (find (takes x.tag) clauses) e x s

abbrev pub handler : List Catch → Handler Val State
handler clauses e s = caught (slice_get s.store.exceptions e) clauses e s
