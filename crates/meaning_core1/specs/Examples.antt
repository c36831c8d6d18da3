-- What the definitions give at the corners of the standard's rules, on small operands, stores and modules.
use Rattle.std.specs.Prelude.{◌≡◌, ℕ, Bool, true, false, List, [], ◌∷◌, Option, Some, None}
use Rattle.num_core.specs.declared.operators.Width.TheVariants.{W32, W64}
use Rattle.num_core.specs.declared.operators.Bin.TheVariants.{DivS, RemS, Shl, ShrS}
use Rattle.num_core.specs.declared.operators.Load.TheVariants as loads
use Rattle.host_kit.specs.Trace.{Mark, Shows, Grown}
use Rattle.host_kit.specs.declared.event.Event.TheVariants as events
use Rattle.host_kit.specs.declared.script.Script.{Script}
use Rattle.core1_ast.specs.declared.module.ty.Ty1.TheVariants as types
use Rattle.core1_ast.specs.declared.module.op.Op1.TheVariants.{Binary}
use Rattle.core1_ast.specs.declared.module.code.Instr1.{Instr1}
use Rattle.core1_ast.specs.declared.module.code.Instr1.TheVariants.{Unreachable, CallIndirect, Load, MemoryGrow, Pure}
use Rattle.core1_ast.specs.declared.module.parts.Module1.{Module1}
use Rattle.evaluation_kit.specs.declared.jump.Jump.{Jump}
use Rattle.evaluation_kit.specs.declared.jump.Jump.TheVariants.{Trap}
use Rattle.outcome_kit.specs.Outcome.{Out, Done}
use Rattle.outcome_kit.specs.Code.{Go, Leave}
use Rattle.evaluation_kit.specs.Configurations.{World, Conf, Res}
use Rattle.evaluation_kit.specs.Languages.{exec}
use Rattle.meaning_core1.specs.declared.val1.Val1.{Val1}
use Rattle.meaning_core1.specs.declared.val1.Val1.TheVariants.{I32, I64}
use Rattle.meaning_core1.specs.Store.{Store1, State1}
use Rattle.meaning_core1.specs.Language.{language1}
use Rattle.meaning_core1.specs.Runs.{trace1}

-- function 0 takes nothing and does nothing, function 1 takes an i32 and traps; one of them may run first
abbrev pub two_functions : Option ℕ → Module1
two_functions start = record {
  types = record { params = []; results = [] } ∷ (record { params = types.I32 ∷ []; results = [] } ∷ []);
  imports = [];
  funcs = 0 ∷ (1 ∷ []);
  tables = [];
  memories = [];
  globals = [];
  exports = [];
  start = start;
  elems = [];
  codes = record { locals = []; code = [] } ∷ (record { locals = []; code = Unreachable ∷ [] } ∷ []);
  datas = [];
}

-- a store with a memory of these bytes, less than a page, which is of 0 pages at most, and with a table of these functions
abbrev pub store_of : List ℕ → List (Option ℕ) → Store1
store_of bytes entries = record { globals = []; memories = record { bytes = bytes; max = Some 0 } ∷ []; tables = entries ∷ [] }

-- code on these operands, the top first, with these answers to growths left, and what was told so far
abbrev pub state_of : Store1 → List Bool → List Mark → State1
state_of s grows trace = record { store = s; replies = []; grows = grows; trace = trace }

abbrev pub on : List Val1 → State1 → ℕ → Conf Val1 State1
on operands s deepest = record { operands = operands; locals = []; world = record { state = s; deepest = deepest } }

-- what an instruction does within so many turns
abbrev pub done_by : Instr1 → ℕ → List Val1 → State1 → Out (World State1) (Res Val1 State1)
done_by i turns operands s = exec (language1 (two_functions None)) i 0 turns (on operands s 0)

abbrev pub jump_of : Out (World State1) (Res Val1 State1) → Option Jump
jump_of (Done u (Leave j c)) = Some j
jump_of _ = None

-- the instruction traps on these operands and this store; it makes these operands of them
abbrev pub Traps : Instr1 → List Val1 → Store1 → Type 0
Traps i operands s = jump_of (done_by i 0 operands (state_of s [] [])) ≡ Some Trap

abbrev pub Makes : Instr1 → List Val1 → Store1 → List Val1 → Type 0
Makes i operands s after = done_by i 0 operands (state_of s [] []) ≡ Done 0 (Go (on after (state_of s [] []) 0))

abbrev pub nothing : Store1
nothing = store_of [] []

-- the least number by -1 has no quotient, and the remainder 0
abbrev pub DividesTheLeast : Type 0
DividesTheLeast =
    Traps (Pure (Binary W32 DivS)) (I32 0xFFFFFFFF ∷ (I32 0x80000000 ∷ [])) nothing
    × Makes (Pure (Binary W32 RemS)) (I32 0xFFFFFFFF ∷ (I32 0x80000000 ∷ [])) nothing (I32 0 ∷ [])
    × Traps (Pure (Binary W64 DivS)) (I64 0xFFFFFFFFFFFFFFFF ∷ (I64 0x8000000000000000 ∷ [])) nothing

-- a shift by the width changes nothing, and by one more is a shift by one
abbrev pub ShiftsByTheWidth : Type 0
ShiftsByTheWidth =
    Makes (Pure (Binary W32 Shl)) (I32 32 ∷ (I32 1 ∷ [])) nothing (I32 1 ∷ [])
    × Makes (Pure (Binary W64 ShrS)) (I64 65 ∷ (I64 0x8000000000000000 ∷ [])) nothing (I64 0xC000000000000000 ∷ [])

-- a load of four bytes, of a memory of four: all of them, across the end, and where address and offset do not fit 32 bits
abbrev pub four_bytes : Store1
four_bytes = store_of (1 ∷ (2 ∷ (3 ∷ (4 ∷ [])))) []

abbrev pub load_at : ℕ → Instr1
load_at offset = Load loads.I32 (record { align = 0; offset = offset })

abbrev pub LoadsAcrossTheEnd : Type 0
LoadsAcrossTheEnd =
    Makes (load_at 0) (I32 0 ∷ []) four_bytes (I32 0x04030201 ∷ [])
    × Traps (load_at 1) (I32 0 ∷ []) four_bytes
    × Traps (load_at 1) (I32 0xFFFFFFFF ∷ []) four_bytes

-- a growth by so many pages, with these answers left: whether it succeeds, what it gives, and the answers left after it
abbrev pub Grows : ℕ → List Bool → Bool → ℕ → List Bool → Type 0
Grows pages answers ok result rest =
    done_by MemoryGrow 0 (I32 pages ∷ []) (state_of four_bytes answers [])
    ≡ Done 0 (Go (on (I32 result ∷ []) (state_of four_bytes rest (Grown ok (0 ∷ (0 ∷ [])) ∷ [])) 0))

-- one that the host grants, one that it does not, one without an answer, and one past the greatest size, which takes an
-- answer too
abbrev pub GrowsAsTold : Type 0
GrowsAsTold =
    Grows 0 (true ∷ (false ∷ [])) true 0 (false ∷ [])
    × Grows 0 (false ∷ (true ∷ [])) false 0xFFFFFFFF (true ∷ [])
    × Grows 0 [] true 0 []
    × Grows 1 (true ∷ (false ∷ [])) false 0xFFFFFFFF (false ∷ [])

-- call_indirect of an entry of the type, which takes a turn; of another type, of none, and out of range
abbrev pub two_entries : Store1
two_entries = store_of [] (Some 0 ∷ (Some 1 ∷ (None ∷ [])))

abbrev pub CallsByTheTable : Type 0
CallsByTheTable =
    (done_by (CallIndirect 0) 1 (I32 0 ∷ []) (state_of two_entries [] []) ≡ Done 1 (Go (on [] (state_of two_entries [] []) 1)))
    × Traps (CallIndirect 0) (I32 1 ∷ []) two_entries
    × Traps (CallIndirect 0) (I32 2 ∷ []) two_entries
    × Traps (CallIndirect 0) (I32 3 ∷ []) two_entries

-- a start function that traps ends the run; one that does not is over before the module is started
abbrev pub no_items : Script
no_items = record { globals = []; replies = []; grows = []; items = [] }

abbrev pub StartsOrFails : Type 0
StartsOrFails =
    (trace1 (two_functions (Some 1)) no_items 1 ≡ Shows events.Failed ∷ [])
    × (trace1 (two_functions (Some 0)) no_items 1 ≡ Shows events.Started ∷ (Shows events.Done ∷ []))
    × (trace1 (two_functions (Some 0)) no_items 0 ≡ [])
