-- What the definitions give at the corners of the standard's rules, on small operands, stores and modules.
use Rattle.std.specs.Prelude.{◌≡◌, ℕ, Bool, true, false, List, [], ◌∷◌, Option, Some, None}
use Rattle.num_core.specs.declared.operators.Width.TheVariants.{W32, W64}
use Rattle.num_core.specs.declared.operators.Bin.TheVariants.{DivS, RemS, Shl, ShrS}
use Rattle.num_core.specs.declared.operators.Load.TheVariants as loads
use Rattle.host_kit.specs.Trace.{Mark, Shows, Grown, Captured}
use Rattle.host_kit.specs.declared.event.Event.TheVariants as events
use Rattle.host_kit.specs.declared.script.Script.{Script}
use Rattle.wasm_ast.specs.declared.module.ty.Ty.TheVariants as types
use Rattle.wasm_ast.specs.declared.module.ty.BlockType.TheVariants as blocks
use Rattle.wasm_ast.specs.declared.module.immediates.Catch.{Catch}
use Rattle.wasm_ast.specs.declared.module.immediates.Catch.TheVariants.{Tag, TagRef, All, AllRef}
use Rattle.wasm_ast.specs.declared.module.op.Op.TheVariants.{Binary}
use Rattle.wasm_ast.specs.declared.module.code.Body.{Body}
use Rattle.wasm_ast.specs.declared.module.code.Instr.{Instr}
use Rattle.wasm_ast.specs.declared.module.code.Instr.TheVariants.{Unreachable, Call, CallIndirect, ReturnCall, Throw, ThrowRef, TryTable, TableGrow, Load, MemoryGrow, MemoryFill, MemoryCopy, MemoryInit, Pure}
use Rattle.wasm_ast.specs.declared.module.parts.Module.{Module}
use Rattle.evaluation_kit.specs.declared.jump.Jump.{Jump}
use Rattle.evaluation_kit.specs.declared.jump.Jump.TheVariants as jumps
use Rattle.outcome_kit.specs.Outcome.{Out, Done}
use Rattle.outcome_kit.specs.Code.{Go, Leave}
use Rattle.evaluation_kit.specs.Configurations.{World, Conf, Res}
use Rattle.evaluation_kit.specs.Languages.{func, exec}
use Rattle.meaning_new.specs.declared.val.Val.{Val}
use Rattle.meaning_new.specs.declared.val.Val.TheVariants.{I32, I64, Func, Exn, Null}
use Rattle.meaning_new.specs.Store.{Store, State, Exception}
use Rattle.meaning_new.specs.Language.{language}
use Rattle.meaning_new.specs.Runs.{trace}

-- a body of this code, without locals of its own
abbrev pub body : List Instr → Body
body code = record { locals = []; code = code }

-- Five functions, of which one may run first. Function 0 does nothing; function 1 takes an i32 and traps; function 2
-- throws an exception without values; functions 3 and 4 call it in a handler that takes all, the one by a call and the
-- other by a tail call. An exception of tag 0 has an i32, and one of tag 1 has nothing.
abbrev pub five_functions : Option ℕ → Module
five_functions start = record {
  types = record { params = []; results = [] } ∷ (record { params = types.I32 ∷ []; results = [] } ∷ []);
  imports = [];
  funcs = 0 ∷ (1 ∷ (0 ∷ (0 ∷ (0 ∷ []))));
  tables = [];
  memories = [];
  tags = 1 ∷ (0 ∷ []);
  globals = [];
  exports = [];
  start = start;
  elems = [];
  data_count = None;
  codes = body [] ∷ (body (Unreachable ∷ []) ∷ (body (Throw 1 ∷ []) ∷ (body (TryTable blocks.Empty (All 0 ∷ []) (Call 2 ∷ []) ∷ []) ∷ (body (TryTable blocks.Empty (All 0 ∷ []) (ReturnCall 2 ∷ []) ∷ []) ∷ []))));
  datas = [];
}

-- a store with a memory of these bytes, less than a page, which is of 0 pages at most, a table of these entries, of three at
-- most, and a data segment that was dropped
abbrev pub store_of : List ℕ → List Val → List Exception → Store
store_of bytes entries exceptions = record {
  globals = [];
  memories = record { bytes = bytes; max = Some 0; wide = false } ∷ [];
  tables = record { entries = entries; max = Some 3 } ∷ [];
  elems = [];
  datas = [] ∷ [];
  exceptions = exceptions;
}

-- code on these operands, the top first, with these answers to growths left, and what was told so far
abbrev pub state_of : Store → List Bool → List Mark → State
state_of s grows trace = record { store = s; replies = []; grows = grows; trace = trace; permits = λ sizes. true; room = λ k. true; strict = false }

abbrev pub on : List Val → State → ℕ → Conf Val State
on operands s deepest = record { operands = operands; locals = []; world = record { state = s; deepest = deepest } }

-- what an instruction does within so many turns, and a function
abbrev pub done_by : Instr → ℕ → List Val → State → Out (World State) (Res Val State)
done_by i turns operands s = exec (language (five_functions None)) i 0 turns (on operands s 0)

abbrev pub called : ℕ → ℕ → State → Out (World State) (Res Val State)
called x turns s = func (language (five_functions None)) x 0 turns (on [] s 0)

abbrev pub jump_of : Out (World State) (Res Val State) → Option Jump
jump_of (Done u (Leave j c)) = Some j
jump_of _ = None

-- the instruction traps on these operands and this store; it makes these operands and this store of them
abbrev pub Traps : Instr → List Val → Store → Type 0
Traps i operands s = jump_of (done_by i 0 operands (state_of s [] [])) ≡ Some jumps.Trap

abbrev pub Makes : Instr → List Val → Store → List Val → Store → Type 0
Makes i operands s after t = done_by i 0 operands (state_of s [] []) ≡ Done 0 (Go (on after (state_of t [] []) 0))

abbrev pub nothing : Store
nothing = store_of [] [] []

-- the least number by -1 has no quotient, and the remainder 0
abbrev pub DividesTheLeast : Type 0
DividesTheLeast =
    Traps (Pure (Binary W32 DivS)) (I32 0xFFFFFFFF ∷ (I32 0x80000000 ∷ [])) nothing
    × Makes (Pure (Binary W32 RemS)) (I32 0xFFFFFFFF ∷ (I32 0x80000000 ∷ [])) nothing (I32 0 ∷ []) nothing
    × Traps (Pure (Binary W64 DivS)) (I64 0xFFFFFFFFFFFFFFFF ∷ (I64 0x8000000000000000 ∷ [])) nothing

-- a shift by the width changes nothing, and by one more is a shift by one
abbrev pub ShiftsByTheWidth : Type 0
ShiftsByTheWidth =
    Makes (Pure (Binary W32 Shl)) (I32 32 ∷ (I32 1 ∷ [])) nothing (I32 1 ∷ []) nothing
    × Makes (Pure (Binary W64 ShrS)) (I64 65 ∷ (I64 0x8000000000000000 ∷ [])) nothing (I64 0xC000000000000000 ∷ []) nothing

-- a memory of four bytes
abbrev pub bytes_of : ℕ → ℕ → ℕ → ℕ → Store
bytes_of a b c d = store_of (a ∷ (b ∷ (c ∷ (d ∷ [])))) [] []

abbrev pub four_bytes : Store
four_bytes = bytes_of 1 2 3 4

-- a load of four bytes: all of them, across the end, and where address and offset do not fit 32 bits
abbrev pub load_at : ℕ → Instr
load_at offset = Load loads.I32 (record { memory = 0; align = 0; offset = offset })

abbrev pub LoadsAcrossTheEnd : Type 0
LoadsAcrossTheEnd =
    Makes (load_at 0) (I32 0 ∷ []) four_bytes (I32 0x04030201 ∷ []) four_bytes
    × Traps (load_at 1) (I32 0 ∷ []) four_bytes
    × Traps (load_at 1) (I32 0xFFFFFFFF ∷ []) four_bytes

-- so many bytes, from one place to another
abbrev pub range : ℕ → ℕ → ℕ → List Val
range count from to = I32 count ∷ (I32 from ∷ (I32 to ∷ []))

-- a copy upwards and one downwards, whose ranges overlap; and one across the end
abbrev pub CopiesAsIfAtOnce : Type 0
CopiesAsIfAtOnce =
    Makes (MemoryCopy 0 0) (range 3 0 1) four_bytes [] (bytes_of 1 1 2 3)
    × Makes (MemoryCopy 0 0) (range 3 1 0) four_bytes [] (bytes_of 2 3 4 4)
    × Traps (MemoryCopy 0 0) (range 3 0 2) four_bytes

-- an empty range at the end of a memory, and one past it; the same of a segment that was dropped, whose length is 0
abbrev pub EmptyRanges : Type 0
EmptyRanges =
    Makes (MemoryFill 0) (range 0 9 4) four_bytes [] four_bytes
    × Traps (MemoryFill 0) (range 0 9 5) four_bytes
    × Makes (MemoryCopy 0 0) (range 0 4 4) four_bytes [] four_bytes
    × Traps (MemoryCopy 0 0) (range 0 5 4) four_bytes
    × Makes (MemoryInit 0 0) (range 0 0 4) four_bytes [] four_bytes
    × Traps (MemoryInit 0 0) (range 0 1 0) four_bytes
    × Traps (MemoryInit 0 0) (range 1 0 0) four_bytes

-- a growth that succeeds, with these answers left: what it gives, the store after it with its sizes, and the answers left
abbrev pub Grows : Instr → List Val → List Bool → Store → ℕ → Store → List ℕ → List Bool → Type 0
Grows i operands answers s result after sizes rest =
    done_by i 0 operands (state_of s answers []) ≡ Done 0 (Go (on (I32 result ∷ []) (state_of after rest (Grown true sizes ∷ [])) 0))

-- one that fails changes nothing, gives -1, and takes an answer too
abbrev pub Stays : Instr → List Val → Bool → Store → List ℕ → Type 0
Stays i operands answer s sizes =
    done_by i 0 operands (state_of s (answer ∷ (true ∷ [])) []) ≡ Done 0 (Go (on (I32 0xFFFFFFFF ∷ []) (state_of s (true ∷ []) (Grown false sizes ∷ [])) 0))

-- growths that the host grants, one of them without an answer, one that it does not, and one past the greatest size
abbrev pub GrowsMemoryAsTold : Type 0
GrowsMemoryAsTold =
    Grows (MemoryGrow 0) (I32 0 ∷ []) (true ∷ (false ∷ [])) four_bytes 0 four_bytes (0 ∷ (0 ∷ [])) (false ∷ [])
    × Grows (MemoryGrow 0) (I32 0 ∷ []) [] four_bytes 0 four_bytes (0 ∷ (0 ∷ [])) []
    × Stays (MemoryGrow 0) (I32 0 ∷ []) false four_bytes (0 ∷ (0 ∷ []))
    × Stays (MemoryGrow 0) (I32 1 ∷ []) true four_bytes (0 ∷ (0 ∷ []))

-- a table that grows by null references, or not
abbrev pub one_entry : Store
one_entry = store_of [] (Func 0 ∷ []) []

abbrev pub nulls : ℕ → List Val
nulls count = I32 count ∷ (Null types.Func ∷ [])

abbrev pub GrowsTableByNull : Type 0
GrowsTableByNull =
    Grows (TableGrow 0) (nulls 2) (true ∷ []) one_entry 1 (store_of [] (Func 0 ∷ (Null types.Func ∷ (Null types.Func ∷ []))) []) (0 ∷ (3 ∷ [])) []
    × Stays (TableGrow 0) (nulls 2) false one_entry (0 ∷ (1 ∷ []))
    × Stays (TableGrow 0) (nulls 3) true one_entry (0 ∷ (1 ∷ []))

-- call_indirect of an entry of the type, which takes a turn; of another type, of null, and out of range
abbrev pub three_entries : Store
three_entries = store_of [] (Func 0 ∷ (Func 1 ∷ (Null types.Func ∷ []))) []

abbrev pub CallsByTheTable : Type 0
CallsByTheTable =
    (done_by (CallIndirect 0 0) 1 (I32 0 ∷ []) (state_of three_entries [] []) ≡ Done 1 (Go (on [] (state_of three_entries [] []) 1)))
    × Traps (CallIndirect 0 0) (I32 1 ∷ []) three_entries
    × Traps (CallIndirect 0 0) (I32 2 ∷ []) three_entries
    × Traps (CallIndirect 0 0) (I32 3 ∷ []) three_entries

-- an exception of tag 0, with 7, thrown under these clauses: how the code is left, with which operands, and what is told
abbrev pub thrown_under : List Catch → Out (World State) (Res Val State)
thrown_under clauses = done_by (TryTable (blocks.Index 1) clauses (Throw 0 ∷ [])) 0 (I32 7 ∷ []) (state_of nothing [] [])

abbrev pub left : Jump → List Val → List Mark → Out (World State) (Res Val State)
left jump operands marks =
    Done 0 (Leave jump (on operands (state_of (store_of [] [] (record { tag = 0; payload = I32 7 ∷ [] } ∷ [])) [] marks) 0))

-- the first clause that takes it does so, whatever follows; and no clause may
abbrev pub CatchesInOrder : Type 0
CatchesInOrder =
    (thrown_under (Tag 1 5 ∷ (Tag 0 6 ∷ (All 7 ∷ []))) ≡ left (jumps.Branch 6) (I32 7 ∷ []) [])
    × (thrown_under (All 7 ∷ (Tag 0 6 ∷ [])) ≡ left (jumps.Branch 7) [] [])
    × (thrown_under (AllRef 8 ∷ (All 7 ∷ [])) ≡ left (jumps.Branch 8) (Exn 0 ∷ []) (Captured ∷ []))
    × (thrown_under (TagRef 0 9 ∷ []) ≡ left (jumps.Branch 9) (Exn 0 ∷ (I32 7 ∷ [])) (Captured ∷ []))
    × (thrown_under (Tag 1 5 ∷ []) ≡ left (jumps.Throw 0) [] [])

-- throw_ref of null
abbrev pub ThrowsNoNull : Type 0
ThrowsNoNull = Traps ThrowRef (Null types.Exn ∷ []) nothing

-- a call under a handler throws into it, and opens a second call; a tail call has left the handler, and opens none beside
abbrev pub after_throw : State
after_throw = state_of (store_of [] [] (record { tag = 1; payload = [] } ∷ [])) [] []

abbrev pub TailCallsLeaveHandlers : Type 0
TailCallsLeaveHandlers =
    (called 3 2 (state_of nothing [] []) ≡ Done 2 (Go (on [] after_throw 2)))
    × (called 4 2 (state_of nothing [] []) ≡ Done 2 (Leave (jumps.Throw 0) (on [] after_throw 1)))

-- a start function that traps ends the run; one that does not is over before the module is started
abbrev pub no_items : Script
no_items = record { globals = []; replies = []; grows = []; items = [] }

abbrev pub StartsOrFails : Type 0
StartsOrFails =
    (trace (five_functions (Some 1)) no_items 1 ≡ Shows events.Failed ∷ [])
    × (trace (five_functions (Some 0)) no_items 1 ≡ Shows events.Started ∷ (Shows events.Done ∷ []))
    × (trace (five_functions (Some 0)) no_items 0 ≡ [])
